-- Woven frames, payloads and counts.
use Rattle.std.proofs.Common.{◌≡◌, ℕ, ◌+◌, ◌*◌, ◌-◌, ◌/◌, ◌%◌, ◌<◌, List, IsTrue, get_or, map, sym, ◌∙◌, ap, arith, inl, inr}
use Rattle.std.proofs.lemmas.Bool.{cases_lt, le-leb}
use Rattle.std.proofs.lemmas.List.{ext_get_or, length-replicate, get_or-replicate}
use Rattle.rs_code.specs.CodeWord.{are_near, bound, differences}
use Rattle.rs_code.specs.Laws.{CountsDifferences, HasOneNearest}
use Rattle.rs_code.specs.Instances.{uplink_instance}
use Rattle.std.specs.List.{range_with_len}
use Rattle.std.proofs.lemmas.List.FromFn.{length-map-range_with_len, get_or-map-range_with_len}
use Rattle.uplink_weave.specs.Woven.{block, block_roots, IsWoven, HasCounts}
use Rattle.uplink_weave.specs.Laws.{WovenGivesPayload, NearGivesPayload, IsUnique, BurstIsSpread}
use Rattle.uplink_weave.proofs.Places.{length-block, get_or-block}

pub near_gives_payload : NearGivesPayload
near_gives_payload payload woven air is near = record {
  full = is.full;
  parts = λ r h. (block r woven, record { code = is.code r h; near = near r h }, is.parts r h);
}

near_itself : (D : CountsDifferences) (word : List ℕ) → IsTrue (are_near 20 word word)
near_itself D word =
    let none = D.none word in
    le-leb (differences word word) (bound 20) (omega arith)

pub woven_gives_payload : CountsDifferences → WovenGivesPayload
woven_gives_payload D payload air is = (
  near_gives_payload payload air air is (λ r h. near_itself D (block r air)),
  record {
    six = length-replicate {A = ℕ} 6 0;
    each = λ r h.
        let none = D.none (block r air) in (
          block r air,
          record { code = is.code r h; near = near_itself D (block r air) },
          get_or-replicate {A = ℕ} 6 r 0 0 h ∙ sym none,
        );
  },
)

pub unique : HasOneNearest → IsUnique
unique O = record {
  payload = λ air one other has has'.
      ext_get_or 0 one other (has.full ∙ sym has'.full)
      (λ i h.
      let l = has.full in
      let low : i / 72 < 6 = omega arith in
      let inside : i % 72 < 72 = omega arith in
      let place : 72 * (i / 72) + i % 72 ≡ i = omega arith in
      let part = has.parts (i / 72) low in
      let part' = has'.parts (i / 72) low in
      ap (λ (j : ℕ). get_or one j 0) (sym place)
      ∙ sym (part.2 (i % 72) inside)
      ∙ ap (λ (w : List ℕ). get_or w (i % 72) 0)
      (O 92 20 120 (block (i / 72) air) part.0 part'.0 uplink_instance part.1 part'.1)
      ∙ part'.2 (i % 72) inside
      ∙ ap (λ (j : ℕ). get_or other j 0) place);
  counts = λ air one other has has'.
      ext_get_or 0 one other (has.six ∙ sym has'.six)
      (λ r h.
      let l = has.six in
      let low : r < 6 = omega arith in
      let each = has.each r low in
      let each' = has'.each r low in
      each.2
      ∙ ap (λ (w : List ℕ). differences (block r air) w)
      (O 92 20 120 (block r air) each.0 each'.0 uplink_instance each.1 each'.1)
      ∙ sym each'.2);
  lost = λ air one other is is'. elim (cases_lt one other) [
    | inl lower ↦ absurd (is.lost (is'.first one lower))
    | inr rest ↦ elim (cases_lt other one) [
      | inl lower ↦ absurd (is'.lost (is.first other lower))
      | inr rest' ↦ omega arith
    ]
  ];
}

pub burst_is_spread : CountsDifferences → BurstIsSpread
burst_is_spread D first air other long long' same r below =
    let l = length-block r air in
    let l' = length-block r other in
    D.window ((first + 5 - r) / 6) 10 (block r air) (block r other) (l ∙ sym l')
    (λ k h outside.
    let inside : k < 92 = omega arith in
    get_or-block r air k inside
    ∙ same (6 * k + r) (elim outside [
      | inl before ↦ inl (omega arith)
      | inr behind ↦ inr (omega arith)
    ])
    ∙ sym (get_or-block r other k inside))

-- the counts of a frame whose blocks are near those of another
pub near_counts :
    (payload woven air : List ℕ) → IsWoven payload woven
    → ((r : ℕ) → r < 6 → IsTrue (are_near block_roots (block r air) (block r woven)))
    → HasCounts air (map (λ r. differences (block r air) (block r woven)) (range_with_len 0 6))
near_counts payload woven air is near = record {
  six = length-map-range_with_len (λ (r : ℕ). differences (block r air) (block r woven)) 0 6;
  each = λ r h. (
    block r woven,
    record { code = is.code r h; near = near r h },
    get_or-map-range_with_len (λ (i : ℕ). differences (block i air) (block i woven)) 0 6 r r 0 h (omega arith),
  );
}
