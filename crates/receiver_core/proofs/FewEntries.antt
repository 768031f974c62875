-- A payload says no more than five entries for each of its bytes and of the six at least that stand before them, and none
-- that outlives its version.
use Rattle.std.proofs.Common.{◌≡◌, ℕ, ◌+◌, ◌*◌, ◌≤◌, Bool, true, false, cond, List, [], ◌∷◌, length, flat_map, Option, Some, None, Result, Ok, Err, refl, ap, inl, inr, arith}
use Rattle.std.specs.Prelude.{◌==◌, nat_lt}
use Rattle.std.specs.List.{slice_split, sum_by}
use Rattle.std.specs.Option.{unwrap_or}
use Rattle.std.proofs.lemmas.Bool.{cases_Bool, cond-true, cond-false, eqb-true, ltb-true, lt-ltb}
use Rattle.std.proofs.lemmas.List.{length-map}
use Rattle.std.proofs.lemmas.List.Splits.{length-slice_split}
use Rattle.std.proofs.lemmas.List.Sums.{count_by-le-length, length-filter}
use Rattle.dlac_text.specs.Pieces.{Piece, pieces_of}
use Rattle.dlac_text.specs.Reports.{has_characters, is_end, reports_among, reports_of, text_of, texts_between}
use Rattle.dlac_text.specs.SixBits.{six_bit_groups}
use Rattle.dlac_text.specs.GroupCount.{length-six_bit_groups}
use Rattle.life_table.specs.LifeTable.{LifeTable, TextRow, longest, text_row}
use Rattle.life_table.specs.Longest.{RadarsAreWithin, TextsAreWithin}
use Rattle.life_table.specs.Rules.{IsTable}
use Rattle.text_reports.specs.TextKey.{KeyFault, TextKey, text_key}
use Rattle.segment_core.specs.Arrival.{Whole}
use Rattle.segment_core.specs.Store.{is_in_life}
use Rattle.picture_core.specs.Contents.{entry_by_key, entry_by_row, radar_entries, report_entries}
use Rattle.life_table.specs.Products.{text_product}
use Rattle.picture_core.specs.Entry.{Entry}
use Rattle.picture_core.specs.Kept.{live_entries}
use Rattle.receiver_core.specs.Reception.{whole_entries}
use Rattle.receiver_core.specs.StandsFor.{longest_lives}
use Rattle.receiver_core.proofs.FewBlocks.{live_radar}
use Rattle.list_members.specs.ListMembers.{length_ones}
use Rattle.receiver_core.proofs.Weights.{few_pass}

pieces_by : (tab : Bool) (pieces others : List Piece) (most : ℕ) → length pieces ≤ most → length others ≤ most
    → length (cond tab pieces others) ≤ most
pieces_by true pieces others most p q = p
pieces_by false pieces others most p q = q

pieces_few : (codes : List ℕ) → length (pieces_of codes) ≤ length codes
pieces_few [] = omega arith
pieces_few (code ∷ []) = pieces_by (code == 28) _ _ 1 (omega arith) (omega arith)
pieces_few (code ∷ next ∷ more) =
    let behind = pieces_few more in
    let later = pieces_few (next ∷ more) in
    pieces_by (code == 28) _ _ (length (code ∷ next ∷ more)) (omega (arith, behind)) (omega (arith, later))

-- no more reports than pieces, but for one
reports_few : (pieces : List Piece) → length (reports_among pieces) ≤ length pieces + 1
reports_few pieces =
    let some = length-filter has_characters (texts_between pieces) in
    let few = count_by-le-length has_characters (texts_between pieces) in
    let texts = length-map (slice_split is_end pieces) (flat_map text_of) in
    let cuts = length-slice_split is_end pieces in
    let ends = count_by-le-length is_end pieces in
    omega (arith, some, few, texts, cuts, ends)

pub payload_reports : (payload : List ℕ) → length (reports_of payload) ≤ 5 * length payload
unfolding reports_of
payload_reports [] = omega arith
payload_reports (byte ∷ more) =
    let reports = reports_few (pieces_of (six_bit_groups (byte ∷ more))) in
    let pieces = pieces_few (six_bit_groups (byte ∷ more)) in
    let codes = length-six_bit_groups (byte ∷ more) in
    omega (arith, reports, pieces, codes)

module _ (rows : TextsAreWithin) (radars : RadarsAreWithin) (table : LifeTable) (rules : IsTable table) (moment : ℕ) where
  abbrev text_lives : ℕ → Bool
  text_lives version = is_in_life (longest_lives table) moment 413 version

  live_one : (lives own : Bool) (entry : Entry) → (own ≡ true → lives ≡ true)
      → length (cond own (entry ∷ []) []) ≤ cond lives 1 0 * 1
  live_one true true entry each = omega arith
  live_one true false entry each = omega arith
  live_one false true entry each = let same : false ≡ true = each refl in absurd (cc)
  live_one false false entry each = omega arith

  live_row : (key : TextKey) (version : ℕ) (text : List ℕ) (o : Option TextRow) → text_row table key.kind ≡ o
      → length (live_entries moment (entry_by_row key version text o)) ≤ cond (text_lives version) 1 0 * 1
  live_row key version text None is = omega arith
  live_row key version text (Some row) is =
      live_one (text_lives version) (nat_lt moment (version + row.life)) _ (λ own.
      let most = rows table key.kind row is in
      let below = ltb-true moment (version + row.life) own in
      let longest_is : unwrap_or (longest table 413) 0 ≡ most.0 = ap (λ o. unwrap_or o 0) most.1 in
      let within = most.2 in
      lt-ltb moment (version + unwrap_or (longest table 413) 0) (omega (arith, below, longest_is, within)))

  live_key : (version : ℕ) (text : List ℕ) (read : Result TextKey KeyFault)
      → length (live_entries moment (entry_by_key table version text read)) ≤ cond (text_lives version) 1 0 * 1
  live_key version text (Err fault) = omega arith
  live_key version text (Ok key) = live_row key version text (text_row table key.kind) refl

  live_reports : (lives : Bool) (reports size : ℕ) → reports ≤ 5 * size → cond lives 1 0 * reports ≤ 5 * cond lives size 0
  live_reports true reports size few = omega (arith, few)
  live_reports false reports size few = omega arith

  live_text : (version : ℕ) (payload : List ℕ)
      → length (live_entries moment (flat_map (report_entries table version) (reports_of payload)))
      ≤ 5 * cond (text_lives version) (length payload) 0
  live_text version payload =
      let few = few_pass (λ (entry : Entry). nat_lt moment entry.until) (report_entries table version)
      (cond (text_lives version) 1 0) (λ text. 1) (reports_of payload)
      (λ text. live_key version text (text_key table text)) in
      let count = ap (λ n. cond (text_lives version) 1 0 * n) (length_ones (reports_of payload)) in
      let most = live_reports (text_lives version) (length (reports_of payload)) (length payload) (payload_reports payload) in
      omega (arith, few, count, most)

  abbrev pub weight_of_whole : Whole → ℕ
  weight_of_whole whole = cond (is_in_life (longest_lives table) moment whole.product whole.version) (6 + length whole.payload) 0

  heavier : (lives : Bool) (size : ℕ) → cond lives size 0 ≤ cond lives (6 + size) 0
  heavier true size = omega arith
  heavier false size = omega arith

  live_whole : (whole : Whole) → length (live_entries moment (whole_entries table whole)) ≤ 5 * weight_of_whole whole
  live_whole whole =
      let reports : List Entry = flat_map (report_entries table whole.version) (reports_of whole.payload) in
      let blocks : List Entry = radar_entries table whole.product whole.version whole.payload in
      elim (cases_Bool (whole.product == text_product)) [
        | inl is_text ↦
            let product : whole.product ≡ 413 = eqb-true whole.product 413 is_text in
            let entries = cond-true (whole.product == text_product) reports blocks is_text in
            let few = live_text whole.version whole.payload in
            let more = heavier (text_lives whole.version) (length whole.payload) in
            let same = ap (λ p. 5 * cond (is_in_life (longest_lives table) moment p whole.version) (6 + length whole.payload) 0) product in
            omega (arith, ap (λ es. length (live_entries moment es)) entries, few, more, same)
        | inr other ↦
            let entries = cond-false (whole.product == text_product) reports blocks other in
            let few = live_radar radars table rules moment whole.product whole.version whole.payload in
            omega (arith, ap (λ es. length (live_entries moment es)) entries, few)
      ]

  pub live_contents : (wholes : List Whole)
      → length (live_entries moment (flat_map (whole_entries table) wholes)) ≤ 5 * sum_by weight_of_whole wholes
  live_contents wholes =
      few_pass (λ (entry : Entry). nat_lt moment entry.until) (whole_entries table) 5 weight_of_whole wholes live_whole
