-- What the desk knows beyond the rules: so many of the first submissions are answered. Laws: KnownLaws. Assumes nothing.
use Rattle.std.specs.Prelude.{◌≡◌, ℕ, ◌<◌, ◌≤◌, true, length, Some}
use Rattle.terms.specs.Lists.{nth}
use Rattle.terms.specs.Kit.{Kit}
use Rattle.rules.specs.Room.{Room}
use Rattle.rules.specs.Reading.{answered}

pub record Known (kit : Kit) (r : Room) (known : ℕ) : Type 0 where
  pub within : known ≤ length r.submitted
  pub all_answered : (i request : ℕ) → i < known → nth r.submitted i ≡ Some request → answered kit r request ≡ true
