-- Two deliveries exchanged, by computation: a pair that meets the law's premises, each to the sender of the other, of which one issues on the counter
-- that the other is read from, and at the first of which somebody gets late; a pair with a refusal; and three pairs that each miss one premise, and
-- do differ. Assumes nothing.
use Rattle.std.specs.Prelude.{◌≡◌, refl, List, [], ◌∷◌, ℕ, None, Some}
use Rattle.std.proofs.Common.{arith}
use Rattle.grammar.specs.Parser.{parse}
use Rattle.grammar.specs.ParserLaws.{accepted_good}
use Rattle.terms.specs.Limits.{ag, up}
use Rattle.terms.specs.Numbers.{content_of, kind_of}
use Rattle.terms.specs.Kit.{Kit, Entry, GoodKit, kit_numbers}
use Rattle.terms.specs.declared.Content.TheVariants.{Commit}
use Rattle.terms.specs.declared.Event.TheVariants.{Submit}
use Rattle.rules.specs.Play.{after}
use Rattle.rules.proofs.Examples.Computing.{computing}
use Rattle.rules.proofs.Examples.PaperTable.{at, kit_of}
use Rattle.rules.proofs.Examples.EasyToGetWrong.{answers}
use Rattle.rules.proofs.Laws.Settings.{same_table}
use Rattle.rules.proofs.Laws.Instead.{with_events, replace}
use Rattle.rules.specs.Deliver.{Delivery}
use Rattle.rules.proofs.Laws.Order.{delivery}
use Rattle.rules.proofs.Laws.Exchange.{Exchanged, exchange}

-- sender, name and value of a certificate, and whom it is delivered to
abbrev pub cert : ℕ → ℕ → ℕ → ℕ → Delivery
cert sender name value to = record { sender = sender; name = name; value = value; to = to }

-- 7 is submitted, PREPARE of it is delivered to 1; then these events
abbrev pub three_then : List Entry → Kit
three_then events = kit_of 1 (1 ∷ 1 ∷ 0 ∷ []) (at 0 (Submit 7) ∷ delivery 0 (cert 0 ag 1 1) ∷ events)

-- 5 is submitted; 12 ticks later PREPARE of 5 comes to 1, and 1's COMMIT of 7 to 0; then 5 is submitted again
abbrev pub crossing : Kit
crossing = three_then (at 0 (Submit 5) ∷ delivery 12 (cert 0 ag 2 1) ∷ delivery 0 (cert 1 ag 1 0) ∷ at 0 (Submit 5) ∷ [])

abbrev pub crossed : Kit
crossed = three_then (at 0 (Submit 5) ∷ delivery 12 (cert 1 ag 1 0) ∷ delivery 0 (cert 0 ag 2 1) ∷ at 0 (Submit 5) ∷ [])

-- with f = 2: 7 is submitted and PREPARE of it is delivered to 2; then these events
abbrev pub five_then : List Entry → Kit
five_then events = kit_of 2 (1 ∷ 1 ∷ 1 ∷ 0 ∷ 0 ∷ []) (at 0 (Submit 7) ∷ delivery 0 (cert 0 ag 1 2) ∷ events)

crossing_good : GoodKit crossing
unfolding parse kit_numbers kind_of content_of
crossing_good = accepted_good (kit_numbers crossing) crossing refl

pub record ExchangeRows : Type 0 where
  -- the premises are met, by a good kit
  pub good : GoodKit crossing
  pub exchanging : replace 3 2 (delivery 12 (cert 1 ag 1 0) ∷ delivery 0 (cert 0 ag 2 1) ∷ []) crossing ≡ crossed
  pub premises : Exchanged 3 crossing crossed
  -- lateness strikes at the first of the two, whichever that is
  pub late_none : ((after crossing 3).late ≡ None) × ((after crossed 3).late ≡ None)
  pub late_first : ((after crossing 4).late ≡ Some 10) × ((after crossed 4).late ≡ Some 10)
  pub answers_same : (answers crossing 6 ≡ 0 ∷ 0 ∷ 0 ∷ 0 ∷ 0 ∷ 11 ∷ []) × (answers crossed 6 ≡ 0 ∷ 0 ∷ 0 ∷ 0 ∷ 0 ∷ 11 ∷ [])
  -- the rooms between the two do differ: the receiver of the first has issued, that of the second has not yet
  pub between : ((after crossing 4).counter 1 ag ≡ Commit 7 1 ∷ Commit 5 2 ∷ []) × ((after crossed 4).counter 1 ag ≡ Commit 7 1 ∷ [])
  -- a refusal goes with its event
  pub one_refused
      : (answers (three_then (delivery 0 (cert 1 ag 1 0) ∷ delivery 0 (cert 0 ag 1 2) ∷ [])) 4 ≡ 0 ∷ 0 ∷ 0 ∷ 20 ∷ [])
      × (answers (three_then (delivery 0 (cert 0 ag 1 2) ∷ delivery 0 (cert 1 ag 1 0) ∷ [])) 4 ≡ 0 ∷ 0 ∷ 20 ∷ 0 ∷ [])
  -- the second certificate is issued by the first event: 0 0, exchanged 15 0
  pub issued_between
      : (answers (five_then (delivery 0 (cert 0 ag 1 1) ∷ delivery 0 (cert 1 ag 1 2) ∷ [])) 4 ≡ 0 ∷ 0 ∷ 0 ∷ 0 ∷ [])
      × (answers (five_then (delivery 0 (cert 1 ag 1 2) ∷ delivery 0 (cert 0 ag 1 1) ∷ [])) 4 ≡ 0 ∷ 0 ∷ 15 ∷ 0 ∷ [])
  -- both to one receiver: 0 0, exchanged 19 0
  pub one_receiver
      : (answers (three_then (at 0 (Submit 5) ∷ delivery 0 (cert 0 ag 2 1) ∷ delivery 0 (cert 1 ag 1 0) ∷ delivery 0 (cert 1 ag 2 0) ∷ [])) 6
      ≡ 0 ∷ 0 ∷ 0 ∷ 0 ∷ 0 ∷ 0 ∷ [])
      × (answers (three_then (at 0 (Submit 5) ∷ delivery 0 (cert 0 ag 2 1) ∷ delivery 0 (cert 1 ag 2 0) ∷ delivery 0 (cert 1 ag 1 0) ∷ [])) 6
      ≡ 0 ∷ 0 ∷ 0 ∷ 0 ∷ 19 ∷ 0 ∷ [])
  -- the second has a gap: late none, exchanged late 10
  pub second_gap
      : ((after (three_then (delivery 9 (cert 1 ag 1 0) ∷ delivery 1 (cert 1 up 1 2) ∷ [])) 4).late ≡ None)
      × ((after (three_then (delivery 9 (cert 1 up 1 2) ∷ delivery 1 (cert 1 ag 1 0) ∷ [])) 4).late ≡ Some 10)

pub exchange_rows : ExchangeRows
unfolding computing with_events same_table replace
exchange_rows =
    record {
      good = crossing_good;
      exchanging = refl;
      premises = exchange crossing 3 12 (cert 0 ag 2 1) (cert 1 ag 1 0) refl refl (λ e. omega arith) refl refl;
      late_none = (refl, refl);
      late_first = (refl, refl);
      answers_same = (refl, refl);
      between = (refl, refl);
      one_refused = (refl, refl);
      issued_between = (refl, refl);
      one_receiver = (refl, refl);
      second_gap = (refl, refl);
    }
