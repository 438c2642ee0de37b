-- A text put on a page: into a lent buffer from the page's place on. Laws: PageLaws. Assumes nothing.
use Rattle.std.specs.Prelude.{◌≡◌, List, ℕ}
use Rattle.text.specs.Text.{Lays}
use Rattle.text.specs.declared.Page.{Page}

-- q is page p after the text t: the same buffer, with the text from the place on
pub record Puts (p : Page) (t : List ℕ) (q : Page) : Type 0 where
  pub same : q.out.ghost_name ≡ p.out.ghost_name
  pub lays : Lays p.out.now p.at t q.at q.out.now
