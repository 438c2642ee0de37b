-- Demand 2, stated: for every n, the player's loop over a good kit's events has after the first n of them the rules' `after kit n` laid out,
-- padding included, with the rules' clocks and answers; and so what `play` leaves (`plays_first`). Assumes nothing.
use Rattle.std.specs.Prelude.{◌≡◌, List, length, replicate, ℕ, zero, suc, ◌+◌, ◌≤◌, min}
use Rattle.std.proofs.Common.{ap, ◌∙◌, arith}
use Rattle.std.proofs.Math.Numerals.{add-one}
use Rattle.std.proofs.lemmas.List.{length-replicate}
use Rattle.terms.specs.Limits.{requests_max, histories_max, events_max}
use Rattle.terms.specs.ListLaws.{nth_in}
use Rattle.terms.specs.Padding.{pad-nil}
use Rattle.terms.specs.Tabulate.{tab_constant}
use Rattle.terms.specs.Kit.{Kit, GoodKit}
use Rattle.rules.specs.Room.{fresh_room}
use Rattle.rules.specs.Play.{after, play, step, answer}
use Rattle.terms.specs.Lent.{Histories}
use Rattle.terms.specs.declared.Submissions.{Submissions}
use Rattle.terms.specs.declared.History.{History}
use Rattle.ledger.specs.Ledger.{fresh_book}
use Rattle.ledger.specs.LedgerLaws.{fresh_book_lem}
use Rattle.replica.specs.declared.Replica.{Replica}
use Rattle.room.specs.Desk.{fresh_desk}
use Rattle.room.specs.Said.{Says}
use Rattle.room.specs.declared.Log.{Log}
use Rattle.room.specs.Layout.{Parts, lay_roles, lay_table, lay_submissions, lay_desk, lay_histories, lay_replicas, lay_room}
use Rattle.kit.specs.declared.Settings.{Settings}
use Rattle.kit.specs.Cursor.{CursorAt}
use Rattle.clock.proofs.KnownLaws.{known_fresh}
use Rattle.player.specs.Turn.{Stage, Left, stage, left_of, turns_from, played_from_records, play_on}
use Rattle.player.specs.Opening.{fresh_replicas}
use Rattle.player.specs.OpeningLaws.{fresh_replicas_laid, Opens}
use Rattle.player.specs.Shows.{Shows, one_turn}

-- nothing is said, submitted or filed
abbrev pub fresh_log : Log
fresh_log = record { answers = replicate events_max 0; clocks = replicate events_max 0 }

abbrev pub fresh_submissions : Submissions
fresh_submissions = record { requests = replicate requests_max 0; ticks = replicate requests_max 0 }

abbrev pub fresh_history : History
fresh_history = record { j = 0; k = 0; count = 0; list = replicate requests_max 0 }

abbrev pub fresh_histories : Histories
fresh_histories = replicate histories_max fresh_history

-- the fresh room, laid out: everything is 0, and the replicas are those of the table
abbrev pub fresh_parts : List Replica → Parts
fresh_parts replicas =
    record { desk = fresh_desk; submissions = fresh_submissions; histories = fresh_histories; book = fresh_book; replicas = replicas }

pub fresh_laid_out : (kit : Kit) → fresh_parts (lay_replicas (fresh_room kit).replica) ≡ lay_room (fresh_room kit) 0
unfolding lay_room fresh_room lay_submissions lay_desk fresh_desk lay_histories
fresh_laid_out kit = rw (pad-nil requests_max, fresh_book_lem, tab_constant {A = History} histories_max fresh_history)

-- before the first event
pub record Fresh (bytes : List ℕ) (kit : Kit) (s : Stage) : Type 0 where
  pub parts : s.parts ≡ fresh_parts (lay_replicas (fresh_room kit).replica)
  pub cursor : CursorAt bytes kit 0 s.at
  pub clocks : length s.log.clocks ≡ events_max
  pub answers : length s.log.answers ≡ events_max

module _ (bytes : List ℕ) (kit : Kit) (good : GoodKit kit) where
  fresh_shows : (s : Stage) → Fresh bytes kit s → Shows bytes kit 0 s
  unfolding after play
  fresh_shows s f =
      record {
        known = 0;
        knows = known_fresh kit (fresh_room kit);
        parts = f.parts ∙ fresh_laid_out kit;
        cursor = f.cursor;
        clocks_long = f.clocks;
        answers_long = f.answers;
        clock_at = λ k h. absurd (omega arith);
        answer_at = λ k a h e. absurd (omega arith);
      }

  -- m more events
  turns_show : (m n : ℕ) (s : Stage) → n + m ≤ length kit.events → Shows bytes kit n s
      → Shows bytes kit (n + m) (turns_from bytes (lay_roles kit) n m s)
  unfolding turns_from
  turns_show zero n s fits h = let e : n + 0 ≡ n = omega arith in rw e h
  turns_show (suc m) n s fits h =
      let e : n + suc m ≡ suc n + m = omega arith in
      let at = nth_in kit.events n (omega arith) in
      rw (e, add-one n) (turns_show m (suc n) _ (omega arith) (one_turn bytes kit good n s at.0 at.1 h))

  -- the first n events, from a fresh room
  pub player_shows : (n : ℕ) → n ≤ length kit.events → (s : Stage) → Fresh bytes kit s
      → Shows bytes kit n (turns_from bytes (lay_roles kit) 0 n s)
  player_shows n fits s f =
      let e : 0 + n ≡ n = omega arith in
      let h : Shows bytes kit (0 + n) (turns_from bytes (lay_roles kit) 0 n s) = turns_show n 0 s (omega arith) (fresh_shows s f) in
      rw e at h

-- ---- what `play` leaves

-- of arrays that were lent fresh
unfoldable pub played_from : List ℕ → Settings → ℕ → Left
played_from bytes s n = play_on bytes s n fresh_log fresh_submissions fresh_histories fresh_book

-- the first n events came to what the rules say of the kit
pub record PlaysAs (kit : Kit) (n : ℕ) (o : Left) : Type 0 where
  pub known : ℕ
  pub parts : o.parts ≡ lay_room (after kit n) known
  pub says : Says kit n o.log

module _ (bytes : List ℕ) (kit : Kit) (good : GoodKit kit) (settings : Settings) (opens : Opens bytes kit settings) where
  -- the loop's state before the first event
  abbrev first_stage : Stage
  first_stage =
      stage fresh_desk (fresh_replicas (lay_table kit)) fresh_log fresh_submissions fresh_histories fresh_book (replicate requests_max 0)
      settings.first

  is_fresh : Fresh bytes kit first_stage
  is_fresh =
      record {
        parts = ap fresh_parts (fresh_replicas_laid kit);
        cursor = opens.cursor;
        clocks = length-replicate {A = ℕ} events_max 0;
        answers = length-replicate {A = ℕ} events_max 0;
      }

  -- and after the first n events
  abbrev stage_after : ℕ → Stage
  stage_after n = turns_from bytes (lay_roles kit) 0 n first_stage

  shown : (n : ℕ) → n ≤ length kit.events → Shows bytes kit n (stage_after n)
  shown n fits = player_shows bytes kit good n fits first_stage is_fresh

  played : (n : ℕ) → n ≤ length kit.events → played_from bytes settings n ≡ left_of (stage_after n)
  unfolding played_from play_on played_from_records
  played n fits =
      let few : min n events_max ≡ n = omega (arith, good.event_count, fits) in
      rw (opens.roles, opens.table, few)

  -- the clocks and answers of the first n events, as the loop leaves them
  says : (n : ℕ) → n ≤ length kit.events → (s : Stage) → Shows bytes kit n s → Says kit n s.log
  unfolding answer
  says n fits s h =
      record {
        clock = h.clock_at;
        answer =
            λ k l. let e = nth_in kit.events k (omega arith) in rw e.1
            (h.answer_at k (step kit (after kit k) e.0).answer l (rw e.1));
      }

  pub plays_first : (n : ℕ) → n ≤ length kit.events → PlaysAs kit n (played_from bytes settings n)
  plays_first n fits =
      rw (played n fits)
      (record { known = (shown n fits).known; parts = (shown n fits).parts; says = says n fits (stage_after n) (shown n fits) })
