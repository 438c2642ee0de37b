-- One byte more, and none left. Assumes nothing.
use Rattle.std.proofs.Common.{◌∙◌, arith}
use Rattle.std.proofs.lemmas.Grind.{common_steps}
use Rattle.text.specs.PageLaws.{byte_within, byte_put, all_put}
use Rattle.text.proofs.Page.put_word.Goals as goal

pub loop-byte-preserved : goal.loop-byte-preserved
loop-byte-preserved c =
    let s = c.loop-byte in
    record {
      within = byte_within (grind (arith, common_steps)) c.loop-byte-test.true;
      buffer = c.put_byte.ensures.same ∙ s.invariant.buffer;
      same = s.invariant.same ∙ byte_put (grind (arith, common_steps)) c.loop-byte-test.true c.put_byte.ensures;
    }

pub returns : goal.returns
returns c = all_put (grind (arith, common_steps)) c.loop-byte-test.false c.loop-byte.invariant.buffer c.loop-byte.invariant.same
