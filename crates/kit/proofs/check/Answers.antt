-- `check`: before the first turn, each way out of the loop, and the way on, by a law of `Checking` each. Assumes nothing.
use Rattle.std.proofs.Common.{rules, sym, length, lt-ltb, le-ltb}
use Rattle.kit.proofs.Checking.{checking_first, unread, refused, done, goes_on, less}
use Rattle.kit.proofs.check.Goals as goal

pub loop-found-init : goal.loop-found-init
loop-found-init c = rw c.new-judge.ensures (checking_first c.args.bytes.now)

pub returns-in_err-found : goal.returns-in_err-found
returns-in_err-found c = let h = unread c.loop-found.invariant c.in_err-found.field-0.0 c.in_err-found.ensures in search (rules, h)

pub returns-in_err-feed : goal.returns-in_err-feed
returns-in_err-feed c =
    let h = refused c.loop-found.invariant c.in_ok-found.ensures c.in_err-feed.field-0.0 (sym c.in_err-feed.ensures.said) in search (rules, h)

pub loop-found-smaller : goal.loop-found-smaller
loop-found-smaller c = less c.loop-found.invariant c.in_ok-found.ensures

pub loop-found-preserved : goal.loop-found-preserved
loop-found-preserved c =
    rw c.feed.ensures.judge (goes_on c.loop-found.invariant c.in_ok-found.ensures (sym (rw c.in-More.is at c.in_ok-feed.ensures.said)))

pub returns-in-Done : goal.returns-in-Done
returns-in-Done c =
    simp (lt-ltb c.in_ok-found.found.next (length c.args.bytes.now) c.if-at-bytes.true) at
    (done c.loop-found.invariant c.in_ok-found.ensures (sym (rw c.in-Done.is at c.in_ok-feed.ensures.said)))

pub returns-in-Done-2 : goal.returns-in-Done-2
returns-in-Done-2 c =
    simp (le-ltb c.in_ok-found.found.next (length c.args.bytes.now) c.if-at-bytes.false) at
    (done c.loop-found.invariant c.in_ok-found.ensures (sym (rw c.in-Done-2.is at c.in_ok-feed.ensures.said)))
