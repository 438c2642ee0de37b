-- `put_printed`: the bytes are accepted or refused. Assumes nothing.
use Rattle.text.specs.PageLaws.{puts_as}
use Rattle.terms.specs.NumbersLaws.{refused_number}
use Rattle.play_text.specs.Printed.{printed_text}
use Rattle.play_text.proofs.put_printed.Goals as goal

pub returns-in-Ok : goal.returns-in-Ok
unfolding printed_text
returns-in-Ok c = puts_as c.put_played.ensures (rw (← c.check.ensures, c.in-Ok.is, c.open-settings.ensures))

pub returns-in-Err : goal.returns-in-Err
unfolding printed_text
returns-in-Err c = puts_as c.put_kit.ensures (rw (← c.check.ensures, c.in-Err.is, refused_number c.in-Err.refusal, c.from.ensures))
