-- The clock over all parts that the player keeps: the desk ticks, and all else stays. Laws: ClockLaws. Assumes nothing.
use Rattle.std.specs.Prelude.{ℕ}
use Rattle.terms.specs.declared.Roles.{Roles}
use Rattle.room.specs.Layout.{Parts}
use Rattle.clock.specs.Tick.{tick_on}

unfoldable pub clock_on : Roles → Parts → ℕ → Parts
clock_on roles p gap =
    record {
      desk = tick_on p.desk gap roles p.submissions p.book;
      submissions = p.submissions;
      histories = p.histories;
      book = p.book;
      replicas = p.replicas;
    }
