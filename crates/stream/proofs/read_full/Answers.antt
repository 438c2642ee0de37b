-- What a read put behind the bytes before it makes one row with them. Assumes nothing.
use Rattle.std.proofs.Common.{◌≡◌, ℕ, ◌+◌, ◌≤◌, List, ◌++◌, rules, length, take, drop, ap, ◌∙◌, subst, le_refl, drop_at, length-take-le, take-add}
use Rattle.std.proofs.lemmas.Slice.{take-put_mid_below}
use Rattle.std.specs.Io.KnownBytes.{Consumes}
use Rattle.std.proofs.KnownBytes.{Consumes-trans}
use borrow.Rule.Slice.PartMut.{put_mid, post_of}
use lib.Seq.{take-append-le}
use Rattle.stream.proofs.read_full.Goals as goal

-- the bytes before a, and n more
take_more : (a k n : ℕ) (old new : List ℕ) → a ≤ length old → n ≤ length new → take a old ++ take n new ≡ take (a + n) (put_mid a k old new)
take_more a k n old new within fits =
    let after = post_of a k old in
    let behind : take n (drop a (put_mid a k old new)) ≡ take n new =
    ap (take n) (drop_at (take a old) (new ++ after) a (length-take-le a old within)) ∙ take-append-le n new after fits in
    rw (take-add a n (put_mid a k old new), behind, take-put_mid_below a k old new a (le_refl a) within)

pub loop-done-preserved : goal.loop-done-preserved
loop-done-preserved g c =
    let loop = c.loop-done in (
      search rules,
      search rules,
      subst (Consumes _ _) (take_more loop.done _ _ loop.buf c.read.new.buf loop.invariant.1 c.in_ok-n.ensures.bound.0)
          (Consumes-trans _ _ _ _ _ loop.invariant.2 c.in_ok-n.ensures.bytes.0),
    )
