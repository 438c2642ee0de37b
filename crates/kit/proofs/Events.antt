-- What the parts of `open` and `next_event` give together, on plain values. Assumes nothing.
use Rattle.std.specs.Prelude.{Option, Some, None}
use Rattle.std.proofs.Common.{◌≡◌, refl, ◌∙◌, List, [], ◌∷◌, ◌++◌, ℕ, zero, suc, ◌+◌, ◌-◌, ◌≤◌, arith, le-leb, length, get_or, take, drop, replicate, length-take}
use Rattle.std.proofs.lemmas.List.{length-replicate}
use Rattle.std.proofs.Math.Decide.{dec_lt}
use Rattle.std.proofs.Math.Logic.{by_cases}
use Rattle.std.proofs.lemmas.Bool.{lt-leb}
use Rattle.terms.specs.declared.Content.{Content}
use Rattle.terms.specs.Limits.{replicas_max, requests_max}
use Rattle.terms.specs.Lists.{pick}
use Rattle.terms.specs.Numbers.{kind_of, content_of}
use Rattle.terms.specs.declared.Event.{Event}
use Rattle.terms.specs.declared.Kind.{Kind}
use Rattle.number.specs.declared.Found.{Found}
use Rattle.grammar.specs.Operands.{operands_of, event_of, issue_of, filed_by, filed_of}
use Rattle.kit.specs.Reader.{taken_at, stretch_at, Stretched, size_of, padded, settings_in, is_file, RequestsRead, OfKind, entry_at, next_in, filed_into, list_after, Stepped, operands_at, requests_at}
use Rattle.kit.specs.declared.Settings.{Settings}
use Rattle.kit.specs.declared.Next.{Next}
use Rattle.kit.proofs.Filling.{stretch_length}

-- ---- numbers over zeros

drop_zeros : (k n : ℕ) → drop k (replicate {A = ℕ} n 0) ≡ replicate (n - k) 0
drop_zeros zero n = let all : n - 0 ≡ n = omega arith in rw all
drop_zeros (suc k) zero = let none : 0 - suc k ≡ 0 = omega arith in rw none
drop_zeros (suc k) (suc n) = let less : suc n - suc k ≡ n - k = omega arith in rw less (drop_zeros k n)

-- a stretch in front of the zeros behind it
pub front_zeros : (n m : ℕ) (s : List ℕ) (at : ℕ) (front : List ℕ) (r : ℕ) → m ≤ n
    → Stretched (stretch_at (length (take m (replicate {A = ℕ} n 0))) s at) front r
    → (front ++ drop m (replicate n 0) ≡ padded n (stretch_at m s at).numbers) × (r ≡ (stretch_at m s at).next)
front_zeros n m s at front r few st =
    let long : length (take m (replicate {A = ℕ} n 0)) ≡ m = omega (arith, length-take m (replicate {A = ℕ} n 0), length-replicate {A = ℕ} n 0) in
    let st₁ : Stretched (stretch_at m s at) front r = rw long at st in
    (rw (st₁.filled, drop_zeros m n, stretch_length m s at), st₁.next)

zeros_at : (n i : ℕ) → get_or (replicate {A = ℕ} n 0) i 0 ≡ 0
zeros_at zero i = refl
zeros_at (suc n) zero = refl
zeros_at (suc n) (suc i) = zeros_at n i

pad_at : (l : List ℕ) (n i : ℕ) → get_or (l ++ replicate n 0) i 0 ≡ get_or l i 0
pad_at [] n i = zeros_at n i
pad_at (x ∷ l) n zero = refl
pad_at (x ∷ l) n (suc i) = pad_at l n i

-- ---- the settings

pub opened : (bytes : List ℕ) (f leader patience count : Found) (size at : ℕ) (front : List ℕ)
    → f ≡ taken_at bytes 0 → leader ≡ taken_at bytes f.next → patience ≡ taken_at bytes leader.next → size ≡ size_of f.value → size ≤ replicas_max
    → Stretched (stretch_at (length (take size (replicate {A = ℕ} replicas_max 0))) bytes patience.next) front at → count ≡ taken_at bytes at
    → ◌≡◌ {A = Settings}
    (record {
      f = f.value;
      size = size;
      leader = leader.value;
      patience = patience.value;
      table = front ++ drop size (replicate replicas_max 0);
      count = count.value;
      first = count.next;
    })
    (settings_in bytes)
unfolding settings_in
opened bytes f leader patience count size at front is_f is_leader is-patience is-size few st is-count =
    let z = front_zeros replicas_max size bytes patience.next front at few st in
    rw (is-count, z.0, z.1) (rw (is-size, is-patience, is_leader, is_f))

-- ---- an event

pub filed_few : (kind : Kind) (k e : ℕ) → filed_by kind k e ≤ requests_max
unfolding filed_of
filed_few Kind.Submit k e = omega arith
filed_few Kind.Issue k e = omega arith
filed_few Kind.Deliver k e = omega arith
filed_few Kind.Hand k e = omega arith
filed_few Kind.Panic k e = omega arith
filed_few Kind.Idle k e = omega arith
filed_few Kind.Build k e = omega arith
filed_few Kind.File k e =
    by_cases (dec_lt requests_max (k + e)) (λ big. rw (lt-leb (k + e) requests_max big) (omega arith))
    (λ small. rw (le-leb (k + e) requests_max (omega arith)) (omega arith))

pub requests_file : (bytes : List ℕ) (at count : ℕ) (list front : List ℕ) (r : ℕ) → count ≤ requests_max
    → Stretched (stretch_at (length (take count (replicate {A = ℕ} requests_max 0))) bytes at) front r
    → RequestsRead bytes Kind.File at count list (front ++ drop count (replicate requests_max 0)) r
requests_file bytes at count list front r few st =
    let z = front_zeros requests_max count bytes at front r few st in
    record { next = z.1; filed = z.0 }

-- zeros behind the operands make no difference
event_padded : (kind : Kind) (ops : List ℕ) (n : ℕ) → event_of kind (ops ++ replicate n 0) ≡ event_of kind ops
event_padded Kind.Submit ops n = rw (pad_at ops n 0)
event_padded Kind.Issue ops n = rw (pad_at ops n 0, pad_at ops n 1, pad_at ops n 2, pad_at ops n 3, pad_at ops n 4)
event_padded Kind.Deliver ops n = rw (pad_at ops n 0, pad_at ops n 1, pad_at ops n 2, pad_at ops n 3)
event_padded Kind.Hand ops n = rw (pad_at ops n 0, pad_at ops n 1, pad_at ops n 2)
event_padded Kind.Panic ops n = rw (pad_at ops n 0)
event_padded Kind.Idle ops n = refl
event_padded Kind.Build ops n = refl
event_padded Kind.File ops n = rw (pad_at ops n 0, pad_at ops n 1)

-- only kind 8 has requests to read
next_file : (kind : Kind) (k e : ℕ) (bytes : List ℕ) (at : ℕ)
    → pick (is_file kind) (stretch_at (filed_by kind k e) bytes at).next at ≡ (stretch_at (filed_by kind k e) bytes at).next
next_file Kind.Submit k e bytes at = refl
next_file Kind.Issue k e bytes at = refl
next_file Kind.Deliver k e bytes at = refl
next_file Kind.Hand k e bytes at = refl
next_file Kind.Panic k e bytes at = refl
next_file Kind.Idle k e bytes at = refl
next_file Kind.Build k e bytes at = refl
next_file Kind.File k e bytes at = refl

issue_leaves : (replica name : ℕ) (choice : Option Content) (requests list : List ℕ) → list ≡ filed_into (issue_of replica name choice) requests list
issue_leaves replica name (Some c) requests list = refl
issue_leaves replica name None requests list = refl

filed_file : (kind : Kind) (ops requests list : List ℕ) → pick (is_file kind) (padded requests_max requests) list ≡ filed_into (event_of kind ops) requests list
filed_file Kind.Submit ops requests list = refl
filed_file Kind.Issue ops requests list = issue_leaves (get_or ops 0 0) (get_or ops 1 0) (content_of (get_or ops 2 0) (get_or ops 3 0) (get_or ops 4 0)) requests list
filed_file Kind.Deliver ops requests list = refl
filed_file Kind.Hand ops requests list = refl
filed_file Kind.Panic ops requests list = refl
filed_file Kind.Idle ops requests list = refl
filed_file Kind.Build ops requests list = refl
filed_file Kind.File ops requests list = refl

module _ (bytes : List ℕ) (gap : ℕ) (kind : Kind) (at : ℕ) (list list' : List ℕ) where
  abbrev ops₀ : List ℕ
  ops₀ = (operands_at bytes kind at).numbers

  abbrev count₀ : ℕ
  count₀ = filed_by kind (get_or ops₀ 1 0) (get_or ops₀ 2 0)

  -- with the operands as they were read
  read_plain : (next : ℕ) → RequestsRead bytes kind (operands_at bytes kind at).next count₀ list list' next
      → OfKind bytes gap kind at list list' (record { gap = gap; event = event_of kind ops₀; count = count₀; next = next })
  read_plain next q =
      let after = (operands_at bytes kind at).next in
      record {
        answer = rw (q.next, next_file kind (get_or ops₀ 1 0) (get_or ops₀ 2 0) bytes after, stretch_length count₀ bytes after);
        filed = q.filed ∙ filed_file kind ops₀ (requests_at bytes kind at).numbers list;
      }

  pub event_read : (n after count next : ℕ) (front : List ℕ) (event : Event) → n ≡ length (operands_of kind) → n ≤ 5
      → Stretched (stretch_at (length (take n (replicate {A = ℕ} 5 0))) bytes at) front after
      → event ≡ event_of kind (front ++ drop n (replicate 5 0))
      → count ≡ filed_by kind (get_or (front ++ drop n (replicate 5 0)) 1 0) (get_or (front ++ drop n (replicate 5 0)) 2 0)
      → RequestsRead bytes kind after count list list' next
      → OfKind bytes gap kind at list list' (record { gap = gap; event = event; count = count; next = next })
  event_read n after count next front event is-n few st is_event is-count q =
      let z = front_zeros 5 n bytes at front after few st in
      let ops = front ++ drop n (replicate 5 0) in
      let is : ops ≡ padded 5 ops₀ = z.0 ∙ rw is-n in
      let same : (i : ℕ) → get_or ops i 0 ≡ get_or ops₀ i 0 = λ i. rw is (pad_at ops₀ (5 - length ops₀) i) in
      let c : count ≡ count₀ = is-count ∙ rw (same 1, same 2) in
      let v : event ≡ event_of kind ops₀ = is_event ∙ rw is (event_padded kind ops₀ (5 - length ops₀)) in
      let a : after ≡ (operands_at bytes kind at).next = z.1 ∙ rw is-n in
      rw (c, v) (read_plain next (rw (c, a) at q))

module _ (bytes : List ℕ) (at : ℕ) (list : List ℕ) (gap number : Found) (is-gap : gap ≡ taken_at bytes at) (is_number : number ≡ taken_at bytes gap.next) where
  pub stepped_idle : kind_of number.value ≡ None
      → Stepped bytes at list list (record { gap = gap.value; event = Event.Idle; count = 0; next = number.next })
  unfolding next_in list_after entry_at
  stepped_idle none = record { answer = rw (← is-gap, ← is_number, none); filed = rw (← is-gap, ← is_number, none) }

  pub stepped_kind : (kind : Kind) (list' : List ℕ) (r : Next) → kind_of number.value ≡ Some kind
      → OfKind bytes gap.value kind number.next list list' r → Stepped bytes at list list' r
  unfolding next_in list_after entry_at
  stepped_kind kind list' r is q = record { answer = rw (← is-gap, ← is_number, is) q.answer; filed = rw (← is-gap, ← is_number, is) q.filed }
