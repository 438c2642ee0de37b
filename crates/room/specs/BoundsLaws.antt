-- What the bounds give where a replica notes, issues or builds: there is room. Assumes nothing.
use Rattle.std.specs.Prelude.{◌≡◌, true, false, List, ◌∷◌, ◌++◌, ℕ, zero, suc, ◌≤◌, ◌<◌, length}
use Rattle.std.proofs.Common.{sym, arith, length-append}
use Rattle.terms.specs.Limits.{requests_max}
use Rattle.terms.specs.Lists.{holds, Once}
use Rattle.terms.specs.ListLaws.{once-cons}
use Rattle.terms.specs.Kit.{Kit}
use Rattle.rules.specs.Room.{Room, Replica}
use Rattle.rules.proofs.Laws.Missing.{Within, noted_missing, once-length}
use Rattle.rules.specs.Switching.{missing}
use Rattle.room.specs.Bounds.{ReplicaBounds, Bounds}

-- a new request: fewer are noted than are submitted
pub new_fits : (q : ℕ) (noted s : List ℕ) → Once noted → Within noted s → holds q noted ≡ false → holds q s ≡ true → length noted < length s
new_fits q noted s o w n h =
    omega (arith, once-length (q ∷ noted) s (once-cons q noted n o) within)
  where
    within : Within (q ∷ noted) s
    within zero a e = let z : q ≡ a = cc in rw (sym z) h
    within (suc i) a e = w i a e

-- ---- of a replica within bounds

module _ {submitted : List ℕ} {p : Replica} (b : ReplicaBounds submitted p) where
  pub noted_submissions : length p.noted ≤ length submitted
  noted_submissions = once-length p.noted submitted b.noted_once b.noted_submitted

  pub built_fits : length (p.noted ++ missing p.noted submitted) ≤ length submitted
  built_fits =
      omega (arith, length-append p.noted (missing p.noted submitted), noted_missing p.noted submitted b.noted_once b.noted_submitted)

-- a replica notes a new request: it has noted fewer than 64
pub noting_fits : {kit : Kit} {r : Room} → Bounds kit r → (x q : ℕ) → holds q r.submitted ≡ true → holds q (r.replica x).noted ≡ false
    → length (r.replica x).noted < requests_max
noting_fits {kit} {r} b x q is new =
    let p = b.replicas x in
    omega (arith, new_fits q (r.replica x).noted r.submitted p.noted_once p.noted_submitted new is, b.submitted_max)
