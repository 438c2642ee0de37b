-- A laid-out room's parts when something is stored: a submission, a history, a replica's record. Assumes nothing.
use Rattle.std.specs.Prelude.{◌≡◌, refl, ◌≢◌, ℕ, zero, suc, ◌<◌, length, get_or, set, eqb, Option, Some}
use Rattle.std.proofs.Common.{ap, ◌∙◌, List, [], ◌∷◌, ◌++◌, eqb-true}
use Rattle.std.proofs.lemmas.List.{set-get_or}
use Rattle.std.proofs.lemmas.Bool.{eqb-false}
use Rattle.terms.specs.Limits.{replicas_max, histories_max}
use Rattle.terms.specs.Lists.{nth}
use Rattle.terms.specs.ListLaws.{split, nth-snoc}
use Rattle.terms.specs.Tabulate.{tab, get_or_tab, tab_ext, set_tab}
use Rattle.rules.specs.Room.{Filing, put1}
use Rattle.rules.specs.Room as Rules
use Rattle.terms.specs.declared.History.{History}
use Rattle.replica.specs.declared.Replica.{Replica}
use Rattle.replica.specs.RecordLayout.{lay_replica}
use Rattle.room.specs.Layout.{history_of, lay_histories, lay_replicas}

-- at every other place a list with one more is the list
nth-snoc_other : {A : Type 0} (l : List A) (a : A) (i : ℕ) → i ≢ length l → nth (l ++ (a ∷ [])) i ≡ nth l i
nth-snoc_other [] a zero ne = absurd (ne refl)
nth-snoc_other [] a (suc i) ne = refl
nth-snoc_other (x ∷ xs) a zero ne = refl
nth-snoc_other (x ∷ xs) a (suc i) ne = nth-snoc_other xs a i (λ e. ne (ap suc e))

-- rows laid out by place: one more is stored at the end
rows_snoc : {A B : Type 0} (n : ℕ) (f : Option A → B) (l : List A) (a : A)
    → set (tab n (λ i. f (nth l i))) (length l) (f (Some a)) ≡ tab n (λ i. f (nth (l ++ (a ∷ [])) i))
rows_snoc n f l a =
    set_tab n (λ i. f (nth l i)) (length l) (f (Some a))
    ∙ tab_ext n _ _ (λ i h. split (eqb i (length l))
    (λ e. let z = eqb-true i (length l) e in rw (e, z, nth-snoc l a))
    (λ e. rw (e, nth-snoc_other l a i (eqb-false i (length l) e))))

module _ (histories : List Filing) where
  pub store_history : (h : Filing) → set (lay_histories histories) (length histories) (history_of (Some h)) ≡ lay_histories (histories ++ (h ∷ []))
  unfolding lay_histories
  store_history h = rows_snoc histories_max history_of histories h

  pub history_laid : (h : ℕ) (d : History) → h < histories_max → get_or (lay_histories histories) h d ≡ history_of (nth histories h)
  unfolding lay_histories
  history_laid h d below = get_or_tab histories_max (λ i. history_of (nth histories i)) h d below

module _ (replica : ℕ → Rules.Replica) (x : ℕ) where
  pub replica_laid : (d : Replica) → x < replicas_max → get_or (lay_replicas replica) x d ≡ lay_replica (replica x)
  unfolding lay_replicas
  replica_laid d below = get_or_tab replicas_max (λ y. lay_replica (replica y)) x d below

  pub store_replica : (p : Rules.Replica) → set (lay_replicas replica) x (lay_replica p) ≡ lay_replicas (put1 replica x p)
  unfolding lay_replicas
  store_replica p =
      set_tab replicas_max (λ y. lay_replica (replica y)) x (lay_replica p) ∙ tab_ext replicas_max _ _ (λ y h. split (eqb y x) (λ e. rw e) (λ e. rw e))

  -- the record that stands there
  pub keep_replica : x < replicas_max → set (lay_replicas replica) x (lay_replica (replica x)) ≡ lay_replicas replica
  keep_replica below = let e = replica_laid (lay_replica (replica x)) below in rw (← e) (set-get_or (lay_replicas replica) x (lay_replica (replica x)))
