-- `put_played`: what the play came to is what is put, in the view that is asked for. Assumes nothing.
use Rattle.std.proofs.Common.{◌∙◌}
use Rattle.text.specs.PageLaws.{puts_as}
use Rattle.played.proofs.ViewsLaws.{view_made}
use Rattle.played.specs.declared.View.TheVariants.{Play, Room}
use Rattle.played.proofs.put_played.Goals as goal

pub returns-in-Play : goal.returns-in-Play
returns-in-Play c =
    puts_as c.put_play.ensures (rw c.in-Play.is (view_made Play _ _ _ c.roles_of-roles.ensures (c.play-played.ensures ∙ rw c.fresh-book.ensures)))

pub returns-in-Room : goal.returns-in-Room
returns-in-Room c =
    puts_as c.put_room.ensures (rw c.in-Room.is (view_made Room _ _ _ c.roles_of-roles.ensures (c.play-played.ensures ∙ rw c.fresh-book.ensures)))
