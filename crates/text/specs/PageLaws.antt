-- Laws of Page: a text in two parts, no text. Assumes nothing.
use Rattle.std.specs.Prelude.{◌≡◌, refl, List, [], ◌∷◌, ◌++◌, ℕ, ◌+◌, ◌<◌, ◌≤◌, length, drop, get_or}
use Rattle.std.proofs.Common.{◌∙◌, sym, ap, arith}
use Rattle.text.specs.Text.{laid, Put}
use Rattle.text.specs.TextLaws.{then_lays, lays_as, lays_none, laid_from, laid_end}
use Rattle.text.specs.Page.{Puts}
use Rattle.text.specs.declared.Page.{Page}

module _ {p q : Page} {t : List ℕ} (e : Puts p t q) where
  pub then_puts : {r : Page} {u : List ℕ} → Puts q u r → Puts p (t ++ u) r
  then_puts d = record { same = d.same ∙ e.same; lays = then_lays e.lays d.lays }

  -- the same text, said in another way
  pub puts_as : {u : List ℕ} → t ≡ u → Puts p u q
  puts_as d = record { same = e.same; lays = lays_as e.lays d }

-- nothing put is the empty text
pub puts_none : (p : Page) → Puts p [] p
puts_none p = record { same = refl; lays = lays_none p.out.now p.at }

-- ---- the bytes of a word, one after the other: u is what is gone through, and it has to be the word

module _ {w u : List ℕ} (e : u ≡ w) {i : ℕ} where
  pub byte_within : i < length u → i + 1 ≤ length w
  byte_within h = omega (arith, rw e at h)

  -- byte i put, the rest of the word is still to come
  pub byte_put : {p q : Page} → i < length u → Puts p (get_or u i 0 ∷ []) q → laid p.out.now p.at (drop i w) ≡ laid q.out.now q.at (drop (i + 1) w)
  byte_put {p} {q} h d = laid_from w i p.out.now p.at (rw e at h) ∙ ap (λ (r : Put). laid r.bytes r.next (drop (i + 1) w)) (sym (rw e at d.lays.is))

  pub all_put : {p q : Page} → length u ≤ i → q.out.ghost_name ≡ p.out.ghost_name → laid p.out.now p.at w ≡ laid q.out.now q.at (drop i w) → Puts p w q
  all_put {p} {q} h b d = record { same = b; lays = record { is = sym (d ∙ laid_end w i q.out.now q.at (rw e at h)) } }
