-- One replica moves and the others stand: from its part of the invariant to the whole room, and what one event gives. In order: a room in which one
-- replica has moved (`Moved`), change by change; what one event makes of a room (`Next`), and how to show it of a replica that goes on, closes or stands
-- still. Assumes nothing.
use Rattle.std.proofs.Common.{◌≡◌, refl, true, false, ◌≢◌, List, [], ◌∷◌, ◌++◌, length, ◌∙◌, arith, ℕ, suc, ◌<◌}
use Rattle.std.proofs.Math.Path.{sym, ap}
use Rattle.std.proofs.Math.Logic.{⊎_elim}
use Rattle.std.specs.Prelude.{Some}
use Rattle.terms.specs.Limits.{ag, up, sw, requests_max}
use Rattle.terms.specs.Lists.{nth, holds, Sub}
use Rattle.terms.specs.ListLaws.{split, same?, nth-snoc_inv, once-snoc, length-snoc}
use Rattle.terms.specs.Kit.{Kit}
use Rattle.terms.specs.declared.Content.{Content}
use Rattle.rules.specs.Table.{is_marked_faulty}
use Rattle.rules.specs.Room.{Room, Replica, Filing, with_replica, issue, with_history, remember}
use Rattle.rules.proofs.Laws.RoomLaws.{replica_same, replica_other, counter_same, counter_other}
use Rattle.rules.specs.Reading.{is_closed, is_faulty, settled_noted, settled, held_list, ag_total}
use Rattle.rules.proofs.Laws.ReadingLaws.{closed_correct}
use Rattle.rules.proofs.Laws.Growth.{Grows, grows_refl, grows_trans, grows_with_replica, grows_issue, grows_with_history, grows_remember}
use Rattle.rules.proofs.Agreement.Invariant.{FilingBounds, Submissions, Backed, Common, Part, Invariant, part_grows}
use Rattle.rules.proofs.Agreement.OneRoom.{open_list, settled_closed, settled_open}

-- every filed history is within its bounds
abbrev pub Fit : Room → Type 0
Fit r = (i : ℕ) (h : Filing) → nth r.histories i ≡ Some h → FilingBounds h

-- from r to r₁ replica x alone may change; there it has record p and has issued `ags` on ag and `ups` on up
pub record Moved (r r₁ : Room) (x : ℕ) (p : Replica) (ags ups : List Content) : Type 0 where
  pub grows : Grows r r₁
  pub record_now : r₁.replica x ≡ p
  pub ag_now : r₁.counter x ag ≡ ags
  pub up_now : r₁.counter x up ≡ ups
  pub records_stand : (y : ℕ) → y ≢ x → r₁.replica y ≡ r.replica y
  pub counters_stand : (y n : ℕ) → y ≢ x → r₁.counter y n ≡ r.counter y n
  pub histories_fit : Fit r → Fit r₁
  pub submissions : Submissions r.submitted r.ticks → Submissions r₁.submitted r₁.ticks

pub moved_none : (r : Room) (x : ℕ) → Moved r r x (r.replica x) (r.counter x ag) (r.counter x up)
moved_none r x = record {
  grows = grows_refl r;
  record_now = refl;
  ag_now = refl;
  up_now = refl;
  records_stand = λ y d. refl;
  counters_stand = λ y m d. refl;
  histories_fit = λ w. w;
  submissions = λ w. w;
}

module _ {r r₁ : Room} {x : ℕ} {p : Replica} {ags ups : List Content} (v : Moved r r₁ x p ags ups) where
  pub moved_record : (q : Replica) → Moved r (with_replica r₁ x q) x q ags ups
  unfolding with_replica
  moved_record q =
      record {
        grows = grows_trans v.grows (grows_with_replica r₁ x q);
        record_now = replica_same r₁ x q;
        ag_now = v.ag_now;
        up_now = v.up_now;
        records_stand = λ y d. replica_other r₁ x q y d ∙ v.records_stand y d;
        counters_stand = v.counters_stand;
        histories_fit = v.histories_fit;
        submissions = v.submissions;
      }

  pub moved_ag : (c : Content) → Moved r (issue r₁ x ag c) x p (ags ++ (c ∷ [])) ups
  unfolding issue
  moved_ag c =
      record {
        grows = grows_trans v.grows (grows_issue r₁ x ag c);
        record_now = v.record_now;
        ag_now = counter_same r₁ x ag c ∙ ap (λ l. l ++ (c ∷ [])) v.ag_now;
        up_now = v.up_now;
        records_stand = v.records_stand;
        counters_stand = λ y m d. counter_other r₁ x ag c y m d ∙ v.counters_stand y m d;
        histories_fit = v.histories_fit;
        submissions = v.submissions;
      }

  pub moved_up : (c : Content) → Moved r (issue r₁ x up c) x p ags (ups ++ (c ∷ []))
  unfolding issue
  moved_up c =
      record {
        grows = grows_trans v.grows (grows_issue r₁ x up c);
        record_now = v.record_now;
        ag_now = v.ag_now;
        up_now = counter_same r₁ x up c ∙ ap (λ l. l ++ (c ∷ [])) v.up_now;
        records_stand = v.records_stand;
        counters_stand = λ y m d. counter_other r₁ x up c y m d ∙ v.counters_stand y m d;
        histories_fit = v.histories_fit;
        submissions = v.submissions;
      }

  pub moved_sw : (c : Content) → Moved r (issue r₁ x sw c) x p ags ups
  unfolding issue
  moved_sw c =
      record {
        grows = grows_trans v.grows (grows_issue r₁ x sw c);
        record_now = v.record_now;
        ag_now = v.ag_now;
        up_now = v.up_now;
        records_stand = v.records_stand;
        counters_stand = λ y m d. counter_other r₁ x sw c y m d ∙ v.counters_stand y m d;
        histories_fit = v.histories_fit;
        submissions = v.submissions;
      }

  pub moved_submission : (q : ℕ) → holds q r₁.submitted ≡ false → length r₁.submitted < requests_max → Moved r (remember r₁ q) x p ags ups
  unfolding remember
  moved_submission q e l =
      record {
        grows = grows_trans v.grows (grows_remember r₁ q);
        record_now = v.record_now;
        ag_now = v.ag_now;
        up_now = v.up_now;
        records_stand = v.records_stand;
        counters_stand = v.counters_stand;
        histories_fit = v.histories_fit;
        submissions = λ w. record {
          once = once-snoc r₁.submitted q (v.submissions w).once e;
          timed = length-snoc r₁.ticks r₁.clock ∙ ap suc (v.submissions w).timed ∙ sym (length-snoc r₁.submitted q);
          few = omega (arith, length-snoc r₁.submitted q);
        };
      }

  pub moved_file : (h : Filing) (n : ℕ) → FilingBounds h → Moved r (with_history r₁ h n) x p ags ups
  unfolding with_history
  moved_file h n l =
      record {
        grows = grows_trans v.grows (grows_with_history r₁ h n);
        record_now = v.record_now;
        ag_now = v.ag_now;
        up_now = v.up_now;
        records_stand = v.records_stand;
        counters_stand = v.counters_stand;
        histories_fit = λ w i g e. ⊎_elim (λ t. v.histories_fit w i g t) (λ t. rw (← t.1) l) (nth-snoc_inv r₁.histories h i e);
        submissions = v.submissions;
      }

-- ---- what one event makes of a room: the invariant again, and no list of settled requests loses anything

pub record Next (kit : Kit) (r r₁ : Room) : Type 0 where
  pub invariant : Invariant kit r₁
  pub settled_grows : (x : ℕ) → is_marked_faulty kit x ≡ false → Sub (settled kit r x) (settled kit r₁ x)

pub next_none : (kit : Kit) (r : Room) → Invariant kit r → Next kit r r
next_none kit r a = record { invariant = a; settled_grows = λ x f i q e. e }

pub next_trans : {kit : Kit} {a b c : Room} → Next kit a b → Next kit b c → Next kit a c
next_trans f g = record { invariant = g.invariant; settled_grows = λ x e i q h. g.settled_grows x e i q (f.settled_grows x e i q h) }

-- a replica that stands keeps its list
settled_stays : (kit : Kit) (r r₁ : Room) → Grows r r₁ → (x : ℕ) → Common kit r (r.replica x) → r₁.replica x ≡ r.replica x
    → r₁.counter x ag ≡ r.counter x ag → Sub (settled kit r x) (settled kit r₁ x)
unfolding settled held_list
settled_stays kit r r₁ g x c er ec =
    split (is_closed (r.replica x).condition)
    (λ e. let s = settled_closed kit r x e c in
    rw (s.3, er, closed_correct (r.replica x).condition e, e, s.2, g.filings _ _ s.1.is_filed_lem) λ i q z. z)
    (λ e. rw (er, ec, e) λ i q z. z)

-- x moves, the others stand: its part, and that its list grows, are all that is left to show
pub next_move : (kit : Kit) {r r₁ : Room} (x : ℕ) {p : Replica} {ags ups : List Content} → Invariant kit r → Moved r r₁ x p ags ups
    → is_faulty p.condition ≡ is_faulty (r.replica x).condition → (is_marked_faulty kit x ≡ false → Part kit r₁ x p ags ups)
    → (is_marked_faulty kit x ≡ false → Sub (settled kit r x) (settled kit r₁ x)) → Next kit r r₁
next_move kit {r} {r₁} x {p} {ags} {ups} a v b l s =
    record {
      invariant = record {
        part = λ y fy.
            ⊎_elim (λ d. rw d (rw (v.record_now, v.ag_now, v.up_now) (l (rw d at fy))))
            (λ d. rw (v.records_stand y d, v.counters_stand y ag d, v.counters_stand y up d) (part_grows kit v.grows (a.part y fy)))
            (same? y x);
        histories_fit = v.histories_fit a.histories_fit;
        submissions = v.submissions a.submissions;
        faulty_marked = λ y.
            ⊎_elim (λ d. rw d (rw (v.record_now, b) (a.faulty_marked x))) (λ d. rw (v.records_stand y d) (a.faulty_marked y)) (same? y x);
      };
      settled_grows = λ y fy.
          ⊎_elim (λ d. rw d (s (rw d at fy)))
          (λ d. settled_stays kit r r₁ v.grows y (a.part y fy).common (v.records_stand y d) (v.counters_stand y ag d)) (same? y x);
    }

-- where x is not closed, before and after
pub grows_open : (kit : Kit) {r r₁ : Room} (x : ℕ) {p : Replica} {ags ups : List Content} → Moved r r₁ x p ags ups
    → is_faulty (r.replica x).condition ≡ false → is_faulty p.condition ≡ false → is_closed (r.replica x).condition ≡ false
    → is_closed p.condition ≡ false
    → Sub (settled_noted kit x (r.replica x) (ag_total r x)) (settled_noted kit x p (length ags))
    → Sub (settled kit r x) (settled kit r₁ x)
grows_open kit {r} {r₁} x {p} {ags} v z w e f s =
    rw (settled_open kit r x z e, settled_open kit r₁ x (rw v.record_now w) (rw v.record_now f), v.record_now, v.ag_now) s

-- where x closes
closed_now : (kit : Kit) {r r₁ : Room} (x : ℕ) {p : Replica} {ags ups : List Content} → Moved r r₁ x p ags ups → is_closed p.condition ≡ true
    → (h : ℕ) → p.held ≡ Some h → (w : Backed kit r h)
    → settled kit r₁ x ≡ w.filing.list
unfolding settled held_list
closed_now kit x {p} v f h eh w = rw (v.record_now, closed_correct p.condition f, f, eh, v.grows.filings _ _ w.is_filed_lem)

pub grows_closing : (kit : Kit) {r r₁ : Room} (x : ℕ) {p : Replica} {ags ups : List Content} → Moved r r₁ x p ags ups
    → is_faulty (r.replica x).condition ≡ false → is_closed (r.replica x).condition ≡ false → is_closed p.condition ≡ true
    → (h : ℕ) → p.held ≡ Some h → (w : Backed kit r h) → Sub (open_list kit r x) w.filing.list → Sub (settled kit r x) (settled kit r₁ x)
grows_closing kit {r} x v z e f h eh w s = rw (settled_open kit r x z e, closed_now kit x v f h eh w) s

-- where no record and no ag or up counter changes
pub next_still : (kit : Kit) {r r₁ : Room} (x : ℕ) → Invariant kit r → Moved r r₁ x (r.replica x) (r.counter x ag) (r.counter x up) → Next kit r r₁
next_still kit {r} {r₁} x a v =
    next_move kit x a v refl (λ f. part_grows kit v.grows (a.part x f))
    (λ f. settled_stays kit r r₁ v.grows x (a.part x f).common v.record_now v.ag_now)

-- a faulty replica issues anything
pub moved_any : (r : Room) (x m : ℕ) (c : Content)
    → Moved r (issue r x m c) x (r.replica x) ((issue r x m c).counter x ag) ((issue r x m c).counter x up)
unfolding issue
moved_any r x m c =
    record {
      grows = grows_issue r x m c;
      record_now = refl;
      ag_now = refl;
      up_now = refl;
      records_stand = λ y d. refl;
      counters_stand = λ y n d. counter_other r x m c y n d;
      histories_fit = λ w. w;
      submissions = λ w. w;
    }
