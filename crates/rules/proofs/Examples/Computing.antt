-- One name that opens every definition of the rules: a theorem with the line `unfolding computing` plays a kit by computation. Assumes nothing.
use Rattle.std.specs.Prelude.{ℕ}
use Rattle.terms.specs.Mark.{next_mark}
use Rattle.terms.specs.Kit.{Kit}
use Rattle.rules.specs.Table.{is_active, is_marked_faulty, actives, switch_leader}
use Rattle.rules.specs.Room.{
  Room,
  fresh_replica,
  fresh_room,
  with_clock,
  with_late,
  with_replica,
  issue,
  with_history,
  remember,
  with_condition,
  with_mark,
  note,
  note_pair,
  accept,
  hold,
}
use Rattle.rules.specs.Reading.{same_content, settled_count, settled_noted, held_list, settled, answered_at, answered}
use Rattle.rules.specs.Clock.{tick}
use Rattle.rules.specs.Outcome.{refuse_if}
use Rattle.rules.specs.Submit.{decide_submit, after_submit, decide_issue, decide_file, after_file}
use Rattle.rules.specs.Deliver.{
  settle,
  decide_prepare,
  after_prepare,
  decide_commit,
  after_commit,
  decide_ag,
  decide_pair,
  decide_update,
  after_update,
  decide_up,
  decide_sw,
  switches,
  after_switch,
  is_too_late,
  has_wrong_roles,
  decide_content,
  decide_receive,
  decide_deliver,
}
use Rattle.rules.specs.Switching.{
  decide_panic,
  after_panic,
  built_list,
  built,
  decide_build,
  after_build,
  is_committed,
  is_settled_by,
  is_valid,
  decide_hold,
  decide_hand,
  after_hand,
}
use Rattle.rules.specs.Decide.{decide, concerned, acted, carried_out}
use Rattle.rules.specs.Play.{on_event, step, play, after, answer}

-- the room after the first n events; to unfold it is to unfold all that its line names
unfoldable pub computing : Kit → ℕ → Room
unfolding
    next_mark is_active is_marked_faulty actives switch_leader fresh_replica fresh_room with_clock with_late with_replica issue with_history remember with_condition
    with_mark note note_pair accept hold same_content settled_count settled_noted held_list settled answered_at answered tick refuse_if decide_submit
    after_submit decide_issue decide_file after_file settle
    decide_prepare after_prepare decide_commit after_commit decide_ag decide_pair decide_update after_update decide_up decide_sw switches
    after_switch is_too_late has_wrong_roles decide_content decide_receive decide_deliver decide_panic after_panic built_list built decide_build after_build is_committed
    is_settled_by is_valid decide_hold decide_hand after_hand decide concerned acted carried_out on_event step play after answer
computing kit n = after kit n
