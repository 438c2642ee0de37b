-- `put_answer`: an argument is given or not. Assumes nothing.
use Rattle.text.specs.PageLaws.{puts_as}
use Rattle.room_text.specs.RoomPrinted.{program_room}
use Rattle.room_text.proofs.put_answer.Goals as goal

pub returns-in-Some : goal.returns-in-Some
unfolding program_room
returns-in-Some c = rw c.in-Some.is c.put_asked.ensures

pub returns-in-None : goal.returns-in-None
unfolding program_room
returns-in-None c = puts_as c.put_input.ensures (rw (c.in-None.is, c.open-settings.ensures))
