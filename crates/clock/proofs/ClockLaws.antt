-- The clock of the code is the clock of the rules: on a laid-out room within bounds, with so many submissions known to be answered and a gap
-- of a kit, it gives the rules' next room laid out, and what it then takes for known is known there. Assumes nothing.
use Rattle.std.specs.Prelude.{◌≡◌, ℕ, ◌≤◌}
use Rattle.std.proofs.Math.Path.{sym}
use Rattle.terms.specs.Limits.{requests_max, ticks_max}
use Rattle.terms.specs.Lists.{pick, is_some}
use Rattle.terms.specs.ListLaws.{split}
use Rattle.terms.specs.Kit.{Kit}
use Rattle.terms.specs.Padding.{pad}
use Rattle.rules.specs.Room.{Room, with_clock, with_late}
use Rattle.rules.proofs.Laws.Tested.{none_of}
use Rattle.rules.specs.Clock.{tick}
use Rattle.rules.proofs.Laws.Growth.{tick_grows}
use Rattle.rules.proofs.Laws.Refused.{tick_ticked}
use Rattle.ledger.specs.LedgerLayout.{lay_book}
use Rattle.room.specs.Layout.{lay_roles, lay_submissions, lay_desk, lay_replicas, lay_histories, lay_room}
use Rattle.room.specs.Bounds.{Bounds}
use Rattle.clock.specs.Tick.{first_open, stops_at, tick_on}
use Rattle.clock.proofs.TickLaws.{stop_of, is_overdue, no_wrap, stop_known, overdue_found}
use Rattle.clock.specs.Known.{Known}
use Rattle.clock.proofs.KnownLaws.{known_grows}
use Rattle.clock.specs.Clocked.{clock_on}

-- how many are known to be answered afterwards: once it is late nothing is looked at any more
abbrev pub known_after : Kit → Room → ℕ → ℕ → ℕ
known_after kit r known gap = pick (is_some r.late) known (stop_of kit r known gap)

module _ (kit : Kit) (r : Room) (known gap : ℕ) (b : Bounds kit r) (k : Known kit r known) (small : gap ≤ ticks_max) where
  pub known_after_lem : Known kit (tick kit r gap) (known_after kit r known gap)
  known_after_lem =
      known_grows kit r (tick kit r gap) (known_after kit r known gap) (tick_grows kit r gap)
      (split (is_some r.late) (λ e. rw e k) (λ e. rw e (stop_known kit r known gap b k small)))

  -- the desk
  pub desk_laid
      : tick_on (lay_desk r known) gap (lay_roles kit) (lay_submissions r) (lay_book r.counter)
      ≡ lay_desk (tick kit r gap) (known_after kit r known gap)
  unfolding tick_on stops_at first_open lay_desk lay_roles lay_submissions tick with_clock with_late
  desk_laid =
      rw (no_wrap kit r known gap b k small)
      (split (is_some r.late) (λ e. rw e)
      (λ e. rw (e, overdue_found kit r known gap b k small) (split (is_overdue kit r known gap) (λ o. rw o) (λ o. rw (o, none_of r.late e)))))

  -- all parts
  pub clock_laid : lay_room (tick kit r gap) (known_after kit r known gap) ≡ clock_on (lay_roles kit) (lay_room r known) gap
  unfolding lay_room clock_on lay_desk lay_submissions
  clock_laid =
      let t = tick_ticked kit r gap in
      λ j. record {
        desk = sym desk_laid j;
        submissions = record { requests = pad requests_max (t.submitted j); ticks = pad requests_max (t.ticks j) };
        histories = lay_histories (t.histories j);
        book = lay_book (t.counter j);
        replicas = lay_replicas (t.replica j);
      }
