-- An event is decided, and what was decided is done: the whole of an event once the clock has gone on. Assumes nothing.
use Rattle.std.specs.Prelude.{List, ℕ, length, Ok, Err}
use Rattle.terms.specs.Limits.{ag, up, sw}
use Rattle.terms.specs.Lists.{nth, holds}
use Rattle.terms.specs.Kit.{Kit}
use Rattle.terms.specs.declared.Event.{Event}
use Rattle.terms.specs.declared.Act.{Act}
use Rattle.terms.specs.Numbers.{Decision}
use Rattle.terms.specs.declared.Deed.{Deed}
use Rattle.rules.specs.Table.{is_active, switch_leader}
use Rattle.rules.specs.Room.{Room, issue, note_pair, accept}
use Rattle.rules.specs.Reading.{content_at}
use Rattle.rules.specs.Sight.{sight_of}
use Rattle.rules.specs.Outcome.{Outcome, outcome, answer_of}
use Rattle.rules.specs.Submit.{decide_submit, decide_issue, decide_file, after_submit, after_file}
use Rattle.rules.specs.Deliver.{decide_deliver, after_prepare, after_commit, after_update, after_switch}
use Rattle.rules.specs.Switching.{decide_panic, after_panic, built, built_list, decide_build, after_build, is_valid_filing, decide_hand, after_hand}

-- ---- what is decided

unfoldable pub decide : Kit → Room → Event → Decision
decide kit r (Event.Submit request) = decide_submit (λ q. holds q r.submitted) (length r.submitted) request
decide kit r (Event.Issue x name content) =
    decide_issue (r.replica x).condition (length r.histories) (length (r.counter x name)) x name content
decide kit r (Event.Deliver sender name value to) =
    decide_deliver (sight_of kit r to) (is_active kit) ((r.replica to).accepted sender name)
    (record { sender = sender; name = name; value = value; to = to })
    (content_at (r.counter sender name) value)
decide kit r (Event.Hand p q to) =
    let s = switch_leader kit in
    decide_hand (r.replica to).condition (r.replica to).held
    (record {
      switcher = s;
      to = to;
      first = content_at (r.counter s ag) p;
      second = content_at (r.counter s up) q;
      valid = λ h. is_valid_filing kit r p q h (nth r.histories h);
    })
decide kit r (Event.Panic to) = decide_panic (r.replica to).condition
decide kit r Event.Idle = (Ok Deed.Idle)
decide kit r Event.Build =
    let p = r.replica (switch_leader kit) in
    decide_build p.condition p.held (built kit r).j (built kit r).k
decide kit r (Event.File j k) = decide_file r.filed j k

-- the replica whose record an event concerns, by leader and switch leader: the leader where a request is submitted, the switch leader where it builds
abbrev pub concerned_by : ℕ → ℕ → Event → ℕ
concerned_by leader switcher (Event.Submit request) = leader
concerned_by leader switcher (Event.Issue replica name content) = replica
concerned_by leader switcher (Event.Deliver sender name value to) = to
concerned_by leader switcher (Event.Hand p q to) = to
concerned_by leader switcher (Event.Panic to) = to
concerned_by leader switcher Event.Idle = 0
concerned_by leader switcher Event.Build = switcher
concerned_by leader switcher (Event.File j k) = 0

unfoldable pub concerned : Kit → Event → ℕ
concerned kit e = concerned_by kit.leader (switch_leader kit) e

-- ---- what is done

-- by replica x
unfoldable pub acted : Kit → Room → ℕ → Act → Room
acted kit r x (Act.Prepare sender value request) = after_prepare kit r sender value x request
acted kit r x (Act.Commit sender value) = after_commit kit r sender value x
acted kit r x (Act.KnownPair sender value) = after_update kit r x (accept (r.replica x) sender up value)
acted kit r x (Act.NewPair sender value request mark) = after_update kit r x (accept (note_pair (r.replica x) request mark) sender up value)
acted kit r x (Act.Switch sender value) = after_switch kit r x (accept (r.replica x) sender sw value)
acted kit r x (Act.Hand history) = after_hand r x history
acted kit r x Act.Panic = after_panic r x

-- x is the replica concerned, the list that of a filed history
unfoldable pub carried_out : Kit → Room → ℕ → Decision → List ℕ → Room
carried_out kit r x (Err answer) list = r
carried_out kit r x (Ok (Deed.Submit request)) list = after_submit kit r request
carried_out kit r x (Ok (Deed.Issue replica name content)) list = issue r replica name content
carried_out kit r x (Ok (Deed.Act act)) list = acted kit r x act
carried_out kit r x (Ok Deed.Idle) list = r
carried_out kit r x (Ok (Deed.Build j k)) list = after_build r x (record { j = j; k = k; list = built_list r x })
carried_out kit r x (Ok (Deed.File j k)) list = after_file r j k list

-- the answer to what was decided, and the room once it is done
abbrev pub done : Kit → Room → ℕ → List ℕ → Decision → Outcome
done kit r x list d = outcome (answer_of d) (carried_out kit r x d list)
