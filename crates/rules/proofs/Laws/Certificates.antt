-- No event adds more than three certificates: the counters after it are those before it with at most three issued. Assumes nothing.
use Rattle.std.specs.Prelude.{◌≡◌, refl, List, [], ◌∷◌, ◌++◌, ℕ, suc, ◌≤◌, length, Some}
use Rattle.std.proofs.Common.{ap, ◌∙◌}
use Rattle.terms.specs.Lists.{nth}
use Rattle.terms.specs.Kit.{Kit, Entry}
use Rattle.terms.specs.declared.Content.{Content}
use Rattle.rules.specs.Room.{Room, put2, with_replica, issue, with_history, remember}
use Rattle.rules.specs.Clock.{tick}
use Rattle.rules.specs.Play.{step, after}
use Rattle.rules.proofs.Laws.Changes.{Change, recorded, issued, filed, remembered, changed, Certificate, certificates, event_comes}
use Rattle.rules.proofs.Laws.Refused.{tick_ticked}
use Rattle.rules.proofs.Laws.Growth.{after_suc}

-- counters with some certificates issued in order, each at its counter's next value
abbrev pub with_issued : (ℕ → ℕ → List Content) → List Certificate → ℕ → ℕ → List Content
with_issued counter [] = counter
with_issued counter (c ∷ cs) = with_issued (put2 counter c.replica c.name (counter c.replica c.name ++ (c.content ∷ []))) cs

changed_counter : (r : Room) (cs : List Change) → (changed r cs).counter ≡ with_issued r.counter (certificates cs)
unfolding with_replica issue with_history remember
changed_counter r [] = refl
changed_counter r (recorded x p ∷ cs) = changed_counter (with_replica r x p) cs
changed_counter r (issued x name content ∷ cs) = changed_counter (issue r x name content) cs
changed_counter r (filed h n ∷ cs) = changed_counter (with_history r h n) cs
changed_counter r (remembered request ∷ cs) = changed_counter (remember r request) cs

-- what one event issues
pub record AtMostThree (r r₁ : Room) : Type 0 where
  pub certificates : List Certificate
  pub few : length certificates ≤ 3
  pub counters : r₁.counter ≡ with_issued r.counter certificates

pub at_most_three : (kit : Kit) (r : Room) (e : Entry) → AtMostThree r (step kit r e).room
unfolding step
at_most_three kit r e =
    let ticked = tick kit r e.gap in
    let f = (event_comes kit ticked e.event e.requests).few in
    record {
      certificates = certificates f.changes;
      few = f.few;
      counters = ap (λ (z : Room). z.counter) f.gives
          ∙ changed_counter ticked f.changes
          ∙ ap (λ (z : ℕ → ℕ → List Content). with_issued z (certificates f.changes)) (tick_ticked kit r e.gap).counter;
    }

-- the same at a moment of a play
pub at_most_three_after : (kit : Kit) (n : ℕ) (e : Entry) → nth kit.events n ≡ Some e → AtMostThree (after kit n) (after kit (suc n))
at_most_three_after kit n e h = rw (after_suc kit n e h) (at_most_three kit (after kit n) e)
