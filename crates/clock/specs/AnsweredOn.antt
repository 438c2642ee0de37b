-- Whether a request is answered, read off the counters as the code keeps them. Laws: AnsweredLaws, where they are a room's. Assumes nothing.
use Rattle.std.specs.Prelude.{ℕ, suc, Bool, Option}
use Rattle.terms.specs.Limits.{up, places_max}
use Rattle.terms.specs.Lent.{Table}
use Rattle.terms.specs.Lists.{all_of, any_below}
use Rattle.terms.specs.declared.Content.{Content}
use Rattle.terms.specs.declared.Content.TheVariants.{Update}
use Rattle.terms.specs.declared.Roles.{Roles}
use Rattle.rules.specs.Table.{actives_from}
use Rattle.rules.specs.Reading.{is_content, second_of}
use Rattle.ledger.specs.declared.Book.{Book}
use Rattle.ledger.specs.Ledger.{content_on}

-- what a replica's up value is bound to
abbrev pub up_value : Book → ℕ → ℕ → Option Content
up_value book value y = content_on book y up value

-- the replica's up value is UPDATE of this request with this mark
unfoldable pub has_updated : ℕ → ℕ → ℕ → Book → ℕ → Bool
has_updated value request mark book y = is_content (up_value book value y) (Update request mark)

-- every active replica's is
unfoldable pub updated_by : Table → ℕ → ℕ → ℕ → Book → Bool
updated_by table value request mark book = all_of (actives_from table 0) (has_updated value request mark book)

-- at up value i+1, with the mark that the leader has there
unfoldable pub answered_at_on : Roles → ℕ → Book → ℕ → Bool
answered_at_on roles request book i = updated_by roles.table (suc i) request (second_of (up_value book (suc i) roles.leader)) book

-- for some value
unfoldable pub answered_on : Roles → ℕ → Book → Bool
answered_on roles request book = any_below places_max (answered_at_on roles request book)
