-- The line of a summary as it is written: twelve pieces, and then the rest.
use Rattle.std.proofs.Common.{◌≡◌, ℕ, ◌-◌, List, ◌++◌, codes, decimal, ap, ◌∙◌, append_assoc}
use Rattle.fisb_app.specs.declared.counts.Counts.{Counts}
use Rattle.fisb_app.specs.Make.{summary_text}

abbrev pub summary_pieces : ℕ → ℕ → Counts → ℕ → List ℕ
summary_pieces count seed counts lost =
    (codes "make " ++ (decimal count ++ (codes " " ++ (decimal seed ++ (codes " updates " ++ (decimal counts.updates ++ (codes " turns " ++ (decimal counts.turns ++ (codes " heard " ++ (decimal counts.heard ++ (codes " lost " ++ decimal lost)))))))))))
    ++ (codes " corrected " ++ (decimal counts.corrected ++ (codes " entries " ++ (decimal counts.entries ++ codes "\n"))))

pub summary-line : (count seed : ℕ) (counts : Counts) (lost : ℕ) → lost ≡ counts.turns - counts.heard → summary_pieces count seed counts lost ≡ summary_text count seed counts
summary-line count seed counts lost is = ap (summary_pieces count seed counts) is ∙ simp append_assoc
