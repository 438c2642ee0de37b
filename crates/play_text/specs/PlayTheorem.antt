-- Demands 1 and 2 over what is printed: of bytes that spell a kit, the text is the play that the rules say; of all others it is `kit` and the
-- number of the first fault. Assumes nothing.
use Rattle.std.specs.Prelude.{◌≡◌, List, ℕ}
use Rattle.std.proofs.Common.{ap, ◌∙◌, arith}
use Rattle.std.proofs.Math.ListN.{length}
use Rattle.terms.specs.Kit.{Kit}
use Rattle.kit.specs.Reader.{settings_in}
use Rattle.kit.specs.Spelling.{Spells}
use Rattle.kit.specs.Cursor.{opened, spells_accepted}
use Rattle.played.specs.declared.View.TheVariants.{Play}
use Rattle.played.specs.Views.{view_text}
use Rattle.played.proofs.ViewsLaws.{view_printed}
use Rattle.play_lines.specs.PlayText.{text_of_play}
use Rattle.play_text.specs.Printed.{printed_text}

module _ (bytes : List ℕ) (kit : Kit) (spells : Spells bytes kit) where
  -- bytes that spell a kit print the play that the rules say of it
  pub play_printed : printed_text bytes ≡ text_of_play kit
  unfolding printed_text text_of_play
  play_printed =
      let many = length kit.events in
      rw (spells_accepted bytes kit spells)
      (ap (view_text Play bytes (settings_in bytes)) (opened bytes kit spells).count ∙ view_printed Play bytes kit spells many (omega arith))
