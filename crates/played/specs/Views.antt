-- What the first events of a kit came to, as text: the play or the room. Laws: ViewsLaws. Assumes nothing.
use Rattle.std.specs.Prelude.{List, ℕ}
use Rattle.terms.specs.Kit.{Kit}
use Rattle.terms.specs.declared.Roles.{Roles}
use Rattle.kit.specs.declared.Settings.{Settings}
use Rattle.player.specs.Opening.{roles_in}
use Rattle.player.specs.Turn.{Left}
use Rattle.player.specs.Plays.{played_from}
use Rattle.play_lines.specs.PlayLines.{lines_of_play}
use Rattle.play_lines.specs.PlayText.{text_after}
use Rattle.room_lines.specs.RoomLines.{lines_of_room}
use Rattle.room_lines.specs.RoomText.{text_of_room}
use Rattle.played.specs.declared.View.{View}
use Rattle.played.specs.declared.View.TheVariants.{Play, Room}

-- the lines of what the play of n events came to
abbrev pub view_lines : View → Roles → ℕ → Left → List ℕ
view_lines Play roles n o = lines_of_play o.log n o.parts.desk o.parts.replicas roles o.parts.histories o.parts.book
view_lines Room roles n o =
    lines_of_room o.log n o.parts.desk o.parts.replicas roles o.parts.submissions o.parts.histories o.parts.book

-- the first n events of a kit with these settings
unfoldable pub view_text : View → List ℕ → Settings → ℕ → List ℕ
view_text view bytes s n = view_lines view (roles_in s) n (played_from bytes s n)

-- the same as the rules say it
abbrev pub view_said : View → Kit → ℕ → List ℕ
view_said Play kit n = text_after kit n
view_said Room kit n = text_of_room kit n
