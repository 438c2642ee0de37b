-- What a good kit's numbers say of the player's fixed sizes: at most seven replicas, so the leader, the switch leader and every active one
-- are below 7, and so are an event's replicas; its names are below 3. Assumes nothing.
use Rattle.std.specs.Prelude.{◌≡◌, Bool, true, false, List, [], ◌∷◌, ℕ, zero, suc, ◌≤◌, ◌<◌, length, get_or}
use Rattle.std.proofs.Math.Path.{refl}
use Rattle.std.proofs.Common.{arith}
use Rattle.terms.specs.Limits.{replicas, replicas_max, names, requests_max}
use Rattle.terms.specs.ListLaws.{no_way}
use Rattle.terms.specs.Kit.{Kit, GoodKit, GoodEvent, marks_active}
use Rattle.terms.specs.declared.Event.{Event}
use Rattle.terms.specs.declared.Event.TheVariants.{Submit, Issue, Deliver, Hand, Panic, Idle, Build, File}
use Rattle.rules.specs.Table.{is_active, switch_leader}
use Rattle.rules.proofs.Laws.TableLaws.{roles}
use Rattle.rules.specs.Decide.{concerned}

-- what a table marks, where 0 marks nothing, stands in it
marked_below : (t : List ℕ) (mark : ℕ → Bool) → mark 0 ≡ false → (x : ℕ) → mark (get_or t x 0) ≡ true → x < length t
marked_below [] mark z x e = no_way (cc)
marked_below (n ∷ ns) mark z zero e = omega arith
marked_below (n ∷ ns) mark z (suc x) e = omega (arith, marked_below ns mark z x e)

-- an event's operands that index something
abbrev pub Operands : Event → List ℕ → Type 0
Operands (Submit request) l = l ≡ []
Operands (Issue replica name content) l = (replica < replicas_max) × (name < names) × (l ≡ [])
Operands (Deliver sender name value to) l = (sender < replicas_max) × (name < names) × (to < replicas_max) × (l ≡ [])
Operands (Hand p q to) l = (to < replicas_max) × (l ≡ [])
Operands (Panic to) l = (to < replicas_max) × (l ≡ [])
Operands Idle l = l ≡ []
Operands Build l = l ≡ []
Operands (File j k) l = (j ≤ k) × (k ≤ length l) × (length l ≤ requests_max)

module _ {kit : Kit} (good : GoodKit kit) where
  pub size_max : length kit.table ≤ replicas_max
  size_max = omega (arith, good.table_length, good.f_high)

  pub leader_below : kit.leader < length kit.table
  leader_below = omega (arith, good.table_length, good.leader_below)

  pub leader_max : kit.leader < replicas_max
  leader_max = omega (arith, leader_below, size_max)

  pub active_below : (x : ℕ) → is_active kit x ≡ true → x < length kit.table
  unfolding is_active
  active_below x e = marked_below kit.table marks_active refl x e

  pub switch_below : switch_leader kit < length kit.table
  switch_below = active_below (switch_leader kit) (roles kit good).switch_active

  pub switch_max : switch_leader kit < replicas_max
  switch_max = omega (arith, switch_below, size_max)

  pub operands : (e : Event) (l : List ℕ) → GoodEvent (replicas kit.f) e l → Operands e l
  operands (Submit request) l g = g.1
  operands (Issue replica name content) l g = (omega (arith, g.0, good.f_high), omega (arith, g.1), g.2)
  operands (Deliver sender name value to) l g =
      (omega (arith, g.0, good.f_high), omega (arith, g.1), omega (arith, g.2, good.f_high), g.3)
  operands (Hand p q to) l g = (omega (arith, g.0, good.f_high), g.1)
  operands (Panic to) l g = (omega (arith, g.0, good.f_high), g.1)
  operands Idle l g = g
  operands Build l g = g
  operands (File j k) l g = (g.0, g.1, g.2)

  concerned_operands : (e : Event) (l : List ℕ) → Operands e l → concerned kit e < replicas_max
  unfolding concerned
  concerned_operands (Submit request) l o = leader_max
  concerned_operands (Issue replica name content) l o = o.0
  concerned_operands (Deliver sender name value to) l o = o.2
  concerned_operands (Hand p q to) l o = o.0
  concerned_operands (Panic to) l o = o.0
  concerned_operands Idle l o = omega arith
  concerned_operands Build l o = switch_max
  concerned_operands (File j k) l o = omega arith

-- the replica that a good event concerns is one of the seven
pub concerned_below : (kit : Kit) (event : Event) (list : List ℕ) → GoodKit kit → GoodEvent (replicas kit.f) event list → concerned kit event < replicas_max
concerned_below kit event list good e = concerned_operands good event list (operands good event list e)
