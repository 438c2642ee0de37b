-- The desk as the code keeps it. Assumes nothing.
use Rattle.std.specs.Prelude.{None, ℕ, ◌+◌, ltb, Ok, Err}
use Rattle.terms.specs.Limits.{requests_max}
use Rattle.terms.specs.Lists.{pick}
use Rattle.room.specs.declared.Desk.{Desk}
use Rattle.terms.specs.Numbers.{Decision}
use Rattle.terms.specs.declared.Deed.{Deed}

unfoldable pub fresh_desk : Desk
fresh_desk = record { clock = 0; late = None; known = 0; submitted = 0; histories = 0; filed = 0 }

-- the desk with these counts
abbrev pub with_counts : Desk → ℕ → ℕ → ℕ → Desk
with_counts d submitted histories filed = record d { submitted = submitted; histories = histories; filed = filed }

unfoldable pub counted_on : Desk → Decision → Desk
counted_on d (Ok (Deed.Submit request)) = pick (ltb d.submitted requests_max) (with_counts d (d.submitted + 1) d.histories d.filed) d
counted_on d (Ok (Deed.Build j k)) = pick (ltb d.histories 8) (with_counts d d.submitted (d.histories + 1) d.filed) d
counted_on d (Ok (Deed.File j k)) =
    pick (ltb d.histories 8) (pick (ltb d.filed 8) (with_counts d d.submitted (d.histories + 1) (d.filed + 1)) d) d
counted_on d (Err answer) = d
counted_on d (Ok (Deed.Issue replica name content)) = d
counted_on d (Ok (Deed.Act act)) = d
counted_on d (Ok Deed.Idle) = d
