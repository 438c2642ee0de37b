-- Laws of Opening: where the settings are a kit's, the room before the first event is the rules' fresh room. Assumes nothing.
use Rattle.std.specs.Prelude.{◌≡◌, List, ℕ, get_or}
use Rattle.terms.specs.Limits.{replicas_max}
use Rattle.terms.specs.Kit.{Kit, marks_faulty}
use Rattle.terms.specs.Padding.{pad, get_or_pad}
use Rattle.terms.specs.Tabulate.{tab_ext}
use Rattle.rules.specs.Table.{is_marked_faulty, actives, switch_leader}
use Rattle.rules.specs.Room.{fresh_room}
use Rattle.kit.specs.declared.Settings.{Settings}
use Rattle.kit.specs.Reader.{settings_in}
use Rattle.kit.specs.Spelling.{Spells}
use Rattle.kit.specs.Cursor.{Opened, CursorAt, opened, first_cursor}
use Rattle.replica.specs.RecordLaws.{fresh_laid, actives_laid}
use Rattle.room.specs.Layout.{lay_roles, lay_table, lay_replicas}
use Rattle.player.specs.Opening.{switch_leader_of, roles_in, fresh_replicas}

switch_leader_laid : (kit : Kit) → switch_leader_of (lay_table kit) kit.leader ≡ switch_leader kit
unfolding switch_leader_of lay_table switch_leader actives
switch_leader_laid kit = rw (actives_laid kit.table)

-- the replicas of a kit's table are those of the fresh room
pub fresh_replicas_laid : (kit : Kit) → fresh_replicas (lay_table kit) ≡ lay_replicas (fresh_room kit).replica
unfolding fresh_replicas lay_table lay_replicas fresh_room is_marked_faulty
fresh_replicas_laid kit =
    tab_ext replicas_max _ _ (λ x h. rw (get_or_pad replicas_max kit.table x, fresh_laid (marks_faulty (get_or kit.table x 0))))

-- these settings open the play of a kit whose events stand in these bytes: they say of the replicas and of the patience what the kit says, and the
-- first event stands where they say. The bytes need not spell the rest of that kit: a play with another patience is one too
pub record Opens (bytes : List ℕ) (kit : Kit) (s : Settings) : Type 0 where
  pub roles : roles_in s ≡ lay_roles kit
  pub table : s.table ≡ lay_table kit
  pub cursor : CursorAt bytes kit 0 s.first

-- the settings that are read of bytes which spell a kit
module _ (bytes : List ℕ) (kit : Kit) (spells : Spells bytes kit) where
  read : Opened kit (settings_in bytes)
  read = opened bytes kit spells

  table_read : (settings_in bytes).table ≡ lay_table kit
  unfolding lay_table pad
  table_read = read.table

  roles_read : roles_in (settings_in bytes) ≡ lay_roles kit
  unfolding roles_in lay_roles
  roles_read = rw (table_read, read.f, read.size, read.leader, read.patience, switch_leader_laid kit, spells.good.table_length)

  pub spells_opens : Opens bytes kit (settings_in bytes)
  spells_opens = record { roles = roles_read; table = table_read; cursor = first_cursor bytes kit spells }
