-- A valid history, on the counters and histories as the code keeps them, in the words of the rules' Switching. Laws: ValidityLaws. That
-- on a room's own parts it is the rules' validity is a law of crate decide, ValidLaws. Assumes nothing.
use Rattle.std.specs.Prelude.{Bool, false, ◌&&◌, ◌||◌, ℕ, suc, length, take, get_or, leb, ltb, eqb}
use Rattle.terms.specs.Limits.{ag, up, requests_max, histories_max}
use Rattle.terms.specs.Lent.{Requests, Histories, no_history}
use Rattle.terms.specs.Lists.{pick, holds, distinct, all_of, all_below}
use Rattle.terms.specs.Mark.{mark_of}
use Rattle.terms.specs.declared.Content.TheVariants as Content
use Rattle.terms.specs.declared.History.{History}
use Rattle.terms.specs.declared.Roles.{Roles}
use Rattle.rules.specs.Table.{actives_from}
use Rattle.rules.specs.Reading.{is_content}
use Rattle.ledger.specs.declared.Book.{Book}
use Rattle.ledger.specs.Ledger.{content_on}

-- the switch leader's ag value is COMMIT of that request and value, the leader's is PREPARE of it
unfoldable pub is_committed_at : Book → Roles → ℕ → ℕ → Bool
is_committed_at book roles value request =
    is_content (content_on book roles.switcher ag value) (Content.Commit request value)
    && is_content (content_on book roles.leader ag value) (Content.Prepare request)

-- request i of a list, at value i counted from 1
unfoldable pub is_committed_on : Book → Roles → Requests → ℕ → Bool
is_committed_on book roles list i = is_committed_at book roles (suc i) (get_or list i 0)

-- replica y's ag value is that COMMIT, leader and switch leader excepted
unfoldable pub is_common_to : Book → Roles → ℕ → ℕ → ℕ → Bool
is_common_to book roles value request y =
    eqb y roles.leader || (eqb y roles.switcher || is_content (content_on book y ag value) (Content.Commit request value))

-- so it is of every active replica, and the switch leader's up value is UPDATE of that request and mark
unfoldable pub is_settled_at : Book → Roles → ℕ → ℕ → ℕ → Bool
is_settled_at book roles value request mark =
    all_of (actives_from roles.table 0) (is_common_to book roles value request)
    && is_content (content_on book roles.switcher up value) (Content.Update request mark)

-- request i of a list, with the mark of the requests up to it
unfoldable pub is_settled_on : Book → Roles → Requests → ℕ → Bool
is_settled_on book roles list i = is_settled_at book roles (suc i) (get_or list i 0) (mark_of (take (suc i) list))

-- the whole list is submitted and without repeats
unfoldable pub is_listed : Requests → Requests → Bool
is_listed submitted list = all_of list (λ request. holds request submitted) && distinct list

-- a history, its list the first of a row: up to k committed, up to j settled, the list submitted and without repeats. Numbers that no filed
-- history has are refused
unfoldable pub is_borne_out : Book → Roles → Requests → History → Bool
is_borne_out book roles submitted history =
    pick (ltb requests_max history.count) false
    (pick (ltb (length history.list) history.count) false
    (pick (ltb history.count history.k) false
    (pick (ltb history.k history.j) false
    (all_below history.k (is_committed_on book roles history.list)
    && (all_below history.j (is_settled_on book roles history.list) && is_listed submitted (take history.count history.list))))))

-- the history of number h is filed, one of the first `count`, p = k+1, q = j+1, and it is borne out
unfoldable pub is_filed_at : Book → Roles → Requests → Histories → ℕ → ℕ → ℕ → ℕ → Bool
is_filed_at book roles submitted histories count h p q =
    let history = get_or histories h no_history in
    pick (leb count h) false
    (pick (leb histories_max h) false (eqb p (suc history.k) && (eqb q (suc history.j) && is_borne_out book roles submitted history)))

-- both contents are HISTORY of it, and so it is filed
unfoldable pub is_valid_on : Book → Roles → Requests → Histories → ℕ → ℕ → ℕ → ℕ → Bool
is_valid_on book roles submitted histories count h p q =
    is_content (content_on book roles.switcher ag p) (Content.History h)
    && (is_content (content_on book roles.switcher up q) (Content.History h) && is_filed_at book roles submitted histories count h p q)
