-- What every event keeps is kept at every moment of a play. Assumes nothing.
use Rattle.std.proofs.Common.{List, [], ◌∷◌, ℕ, ◌≤◌}
use Rattle.terms.specs.Kit.{Kit, Entry}
use Rattle.rules.specs.Room.{Room, fresh_room}
use Rattle.rules.specs.Play.{step, play, after}
use Rattle.rules.proofs.Laws.Growth.{after_later}

module _ {ℓ} (kit : Kit) (P : Room → Type ℓ) (keeps : (r : Room) (e : Entry) → P r → P (step kit r e).room) where
  pub play_keeps : (r : Room) (es : List Entry) → P r → P (play kit r es)
  unfolding play
  play_keeps r [] p = p
  play_keeps r (e ∷ es) p = play_keeps (step kit r e).room es (keeps r e p)

  -- from an earlier moment to a later one
  pub later_keeps : (m n : ℕ) → m ≤ n → P (after kit m) → P (after kit n)
  later_keeps m n l p = rw (after_later kit m n l) (play_keeps (after kit m) _ p)

  -- from the fresh room to every moment
  pub always_keeps : P (fresh_room kit) → (n : ℕ) → P (after kit n)
  unfolding after
  always_keeps p n = play_keeps (fresh_room kit) _ p
