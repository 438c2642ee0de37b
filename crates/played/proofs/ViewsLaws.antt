-- Laws of Views: the text of a play from what its steps promise; and of bytes that spell a kit it is, in either view, what the rules say.
-- Assumes nothing.
use Rattle.std.specs.Prelude.{◌≡◌, List, ℕ, ◌≤◌, length}
use Rattle.std.proofs.Common.{ap, ◌∙◌, arith}
use Rattle.terms.specs.Limits.{events_max}
use Rattle.terms.specs.Kit.{Kit, GoodKit}
use Rattle.terms.specs.declared.Roles.{Roles}
use Rattle.rules.specs.Play.{after}
use Rattle.ledger.specs.Ledger.{fresh_book}
use Rattle.room.specs.Layout.{lay_roles}
use Rattle.room.specs.Bounds.{Bounds}
use Rattle.room.specs.Reached.{reached}
use Rattle.kit.specs.declared.Settings.{Settings}
use Rattle.kit.specs.Reader.{settings_in}
use Rattle.kit.specs.Spelling.{Spells}
use Rattle.player.specs.Opening.{roles_in}
use Rattle.player.specs.OpeningLaws.{Opens, spells_opens}
use Rattle.player.specs.Turn.{Left, play_on}
use Rattle.player.specs.Plays.{PlaysAs, fresh_log, fresh_submissions, fresh_histories, played_from, plays_first}
use Rattle.play_lines.specs.PlayTextLaws.{play_said}
use Rattle.room_lines.proofs.RoomTextLaws.{room_said_lem}
use Rattle.played.specs.declared.View.{View}
use Rattle.played.specs.declared.View.TheVariants.{Play, Room}
use Rattle.played.specs.Views.{view_lines, view_text, view_said}

pub view_made : (view : View) (bytes : List ℕ) (s : Settings) (n : ℕ) {roles : Roles} {o : Left}
    → roles ≡ roles_in s → o ≡ play_on bytes s n fresh_log fresh_submissions fresh_histories fresh_book
    → view_lines view roles n o ≡ view_text view bytes s n
unfolding view_text played_from
view_made view bytes s n hr ho = rw (ho, hr)

-- where the play came to what the rules say, the text is the rules'
view_said_lem : (view : View) (kit : Kit) (n : ℕ) → n ≤ events_max → Bounds kit (after kit n) → (o : Left) → PlaysAs kit n o
    → view_lines view (lay_roles kit) n o ≡ view_said view kit n
view_said_lem Play kit n few b o p = rw p.parts (play_said kit n few b o.log p.says p.known)
view_said_lem Room kit n few b o p = rw p.parts (room_said_lem kit n few b o.log p.says p.known)

-- a good kit whose play these settings open
pub view_played : (view : View) (bytes : List ℕ) (kit : Kit) → GoodKit kit → (s : Settings) → Opens bytes kit s → (n : ℕ) → n ≤ length kit.events
    → view_text view bytes s n ≡ view_said view kit n
unfolding view_text
view_played view bytes kit good s opens n fits =
    let o = played_from bytes s n in
    ap (λ (roles : Roles). view_lines view roles n o) opens.roles
    ∙ view_said_lem view kit n (omega (arith, fits, good.event_count)) (reached kit good n) o (plays_first bytes kit good s opens n fits)

-- bytes that spell a kit
pub view_printed : (view : View) (bytes : List ℕ) (kit : Kit) → Spells bytes kit → (n : ℕ) → n ≤ length kit.events
    → view_text view bytes (settings_in bytes) n ≡ view_said view kit n
view_printed view bytes kit spells = view_played view bytes kit spells.good (settings_in bytes) (spells_opens bytes kit spells)
