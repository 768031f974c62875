-- A payload that is not cut is its one part.
use Rattle.std.proofs.Common.{◌≡◌, ℕ, false, List, [], ◌∷◌, length, ap}
use Rattle.std.proofs.lemmas.Bool.{cond-false}
use Rattle.fisb_time.specs.declared.form.TimeForm.{TimeForm}
use Rattle.segment_core.specs.File.{pieces, segment_limit, segments_needed, is_segmented, parts}

pub parts-whole : (form : TimeForm) (payload : List ℕ) → is_segmented form payload ≡ false
    → parts form payload ≡ payload ∷ []
parts-whole form payload whole =
    cond-false (is_segmented form payload)
    (pieces (segments_needed form payload) (segment_limit form) payload) (payload ∷ []) whole

pub one-part : (form : TimeForm) (payload : List ℕ) → is_segmented form payload ≡ false
    → length (parts form payload) ≡ 1
one-part form payload whole = ap length (parts-whole form payload whole)
