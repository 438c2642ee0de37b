-- The number of digits that may follow falls at each call. Assumes nothing.
use Rattle.text.proofs.Page.+put_digits.Given as goal

abbrev pub decreases-put_digits : goal.decreases-put_digits
decreases-put_digits l = l.most
