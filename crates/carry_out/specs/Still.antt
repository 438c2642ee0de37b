-- A decision that moves nothing leaves the record and the counters as they are. Assumes nothing.
use Rattle.std.specs.Prelude.{◌≡◌, false, ℕ, Ok, Err}
use Rattle.std.proofs.Math.Path.{refl}
use Rattle.terms.specs.Lent.{Histories}
use Rattle.terms.specs.ListLaws.{no_way}
use Rattle.ledger.specs.declared.Book.{Book}
use Rattle.replica.specs.declared.Replica.{Replica}
use Rattle.room.specs.declared.Desk.{Desk}
use Rattle.terms.specs.declared.Roles.{Roles}
use Rattle.terms.specs.Numbers.{Decision}
use Rattle.terms.specs.declared.Deed.{Deed}
use Rattle.terms.specs.declared.Deed.TheVariants.{Submit, Issue, Idle, Build, File}
use Rattle.carry_out.specs.Apply.{applied, apply_on, moves_on}

module _ (p : Replica) (desk : Desk) (me : ℕ) (roles : Roles) (histories : Histories) (b : Book) where
  pub still : (d : Decision) → moves_on d ≡ false → apply_on p d desk me roles histories b ≡ applied p b
  unfolding moves_on apply_on
  still (Ok (Submit request)) e = no_way (cc)
  still (Ok (Issue replica name content)) e = no_way (cc)
  still (Ok (Deed.Act act)) e = no_way (cc)
  still (Ok (Build j k)) e = no_way (cc)
  still (Err answer) e = refl
  still (Ok Idle) e = refl
  still (Ok (File j k)) e = refl
