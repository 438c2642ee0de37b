-- Events of the client and of faulty replicas: a request is submitted, a faulty replica issues, a history is filed. Of each, what is decided and what is
-- then done. Assumes nothing.
use Rattle.std.specs.Prelude.{Bool, false, not, List, ℕ, suc, leb, Ok}
use Rattle.terms.specs.Limits.{ag, places_max, requests_max, filed_max}
use Rattle.terms.specs.Lists.{pick}
use Rattle.terms.specs.Kit.{Kit}
use Rattle.terms.specs.declared.Content.{Content}
use Rattle.terms.specs.declared.Content.TheVariants.{Prepare, Commit, Update, History, Switch}
use Rattle.terms.specs.declared.Condition.{Condition}
use Rattle.terms.specs.declared.Refusal.TheVariants.{AlreadySubmitted, SubmissionsFull, NotFaulty, Unexpected, CounterFull, FilesFull}
use Rattle.terms.specs.Numbers.{Decision}
use Rattle.terms.specs.declared.Deed.{Deed}
use Rattle.rules.specs.Room.{Room, remember, with_replica, with_history, note, issue}
use Rattle.rules.specs.Reading.{is_running, is_faulty}
use Rattle.rules.specs.Outcome.{refuse_if}

-- ---- kind 1: request and tick are remembered; a correct running leader issues PREPARE on ag and notes the request

-- by which requests are submitted, and how many
unfoldable pub decide_submit : (ℕ → Bool) → ℕ → ℕ → Decision
decide_submit is_submitted submitted request =
    refuse_if (is_submitted request) AlreadySubmitted
    (refuse_if (leb requests_max submitted) SubmissionsFull
    (Ok (Deed.Submit request)))

unfoldable pub after_submit : Kit → Room → ℕ → Room
after_submit kit r request =
    let leader = kit.leader in
    pick (is_running (r.replica leader).condition)
    (issue (with_replica (remember r request) leader (note (r.replica leader) request)) leader ag (Prepare request))
    (remember r request)

-- ---- kind 2: a faulty replica issues whatever it likes on a counter of its own that has a place left

-- HISTORY or SWITCH of a number that is not filed yet, with this many histories filed
abbrev pub names_unfiled : ℕ → Content → Bool
names_unfiled histories (Prepare request) = false
names_unfiled histories (Commit request value) = false
names_unfiled histories (Update request mark) = false
names_unfiled histories (History number) = leb histories number
names_unfiled histories (Switch number) = leb histories number

-- by the replica's condition, how many histories are filed, and how many places of the counter are taken
unfoldable pub decide_issue : Condition → ℕ → ℕ → ℕ → ℕ → Content → Decision
decide_issue condition histories places x name content =
    refuse_if (not (is_faulty condition)) NotFaulty
    (refuse_if (names_unfiled histories content) Unexpected
    (refuse_if (leb places_max places) CounterFull
    (Ok (Deed.Issue x name content))))

-- ---- kind 8: a history is filed, seven at the most

-- by how many were filed by events 8
unfoldable pub decide_file : ℕ → ℕ → ℕ → Decision
decide_file filed j k = refuse_if (leb filed_max filed) FilesFull (Ok (Deed.File j k))

unfoldable pub after_file : Room → ℕ → ℕ → List ℕ → Room
after_file r j k list = with_history r (record { j = j; k = k; list = list }) (suc r.filed)
