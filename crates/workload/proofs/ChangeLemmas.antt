-- Changes one after another.
use Rattle.std.proofs.Common.{◌≡◌, ℕ, suc, ◌+◌, ◌-◌, ◌*◌, ◌%◌, ◌<◌, List, [], ◌∷◌, ◌++◌, ◌≤◌, length, drop, set, get_or, map, refl, sym, ap, ◌∙◌, arith, append_assoc}
use Rattle.std.proofs.Math.ListN.{drop_of_length-le}
use Rattle.std.proofs.Math.Numerals.{add-one}
use Rattle.std.proofs.Math.Seq.{drop-cons}
use Rattle.std.proofs.lemmas.List.{append-nil}
use Rattle.std.specs.Prelude.{bit_xor}
use Rattle.std.proofs.lemmas.List.FromFn.{map-range_with_len_more}
use Rattle.std.specs.List.{range_with_len}
use Rattle.workload.specs.Draws.{state_after, number_from}
use Rattle.workload.specs.Hearings.{place_on_air, block_changes, changes, frame_with_changes}

pub block_changes-zero : (before : List (ℕ × ℕ)) (block first byte : ℕ) → before ≡ before ++ block_changes block 0 first byte
unfolding block_changes
block_changes-zero before block first byte = sym (append-nil before)

-- one change more
pub block_changes-more : (before : List (ℕ × ℕ)) (block count first byte : ℕ) → (before ++ block_changes block count first byte) ++ (place_on_air block ((first + 9 * count) % 92), byte) ∷ [] ≡ before ++ block_changes block (count + 1) first byte
unfolding block_changes
block_changes-more before block count first byte =
    append_assoc before (map (λ t. (place_on_air block ((first + 9 * t) % 92), byte)) (range_with_len 0 count)) ((place_on_air block ((first + 9 * count) % 92), byte) ∷ [])
    ∙ ap (λ more. before ++ more) (sym (map-range_with_len_more (λ t. (place_on_air block ((first + 9 * t) % 92), byte)) 0 count count (omega arith)))

-- the changes of a block that are drawn from a state
abbrev pub changes_from : ℕ → ℕ → List (ℕ × ℕ)
changes_from block state =
    block_changes block (number_from state % 11) (number_from (state_after state) % 92)
    (1 + number_from (state_after (state_after state)) % 255)

changes-suc : (block more state : ℕ) → changes block (suc more) state ≡ (changes_from block state ++ (changes (block + 1) more (state_after (state_after (state_after state)))).0, (changes (block + 1) more (state_after (state_after (state_after state)))).1)
unfolding changes
changes-suc block more state = refl

-- one block more
pub changes-next : (block state : ℕ) → block < 6 → changes block (6 - block) state ≡ (changes_from block state ++ (changes (block + 1) (6 - (block + 1)) (state_after (state_after (state_after state)))).0, (changes (block + 1) (6 - (block + 1)) (state_after (state_after (state_after state)))).1)
changes-next block state h =
    let e : 6 - block ≡ suc (6 - (block + 1)) = omega arith in
    rw e (changes-suc block (6 - (block + 1)) state)

-- after the last block
pub changes-none : (block state : ℕ) → 6 ≡ block → changes block (6 - block) state ≡ ([], state)
unfolding changes
changes-none block state h = let e : 6 - block ≡ 0 = omega arith in rw e refl

-- one block more, and what is left then
pub blocks-more : (wrong written whole : List (ℕ × ℕ)) (block state count first byte state1 state2 state3 last : ℕ)
    → count ≡ number_from state → state1 ≡ state_after state
    → first ≡ number_from state1 → state2 ≡ state_after state1
    → byte ≡ number_from state2 → state3 ≡ state_after state2
    → written ≡ wrong ++ block_changes block (count % 11) (first % 92) (1 + byte % 255) → block < 6
    → wrong ++ (changes block (6 - block) state).0 ≡ whole
    → (changes block (6 - block) state).1 ≡ last
    → (written ++ (changes (block + 1) (6 - (block + 1)) state3).0 ≡ whole)
    × ((changes (block + 1) (6 - (block + 1)) state3).1 ≡ last)
blocks-more wrong written whole block state count first byte state1 state2 state3 last c s1 f s2 b s3 w h is left =
    let next = changes-next block state h in
    (rw (w, c, f, b, s3, s2, s1, append_assoc) (ap (λ d. wrong ++ d.0) (sym next) ∙ is), rw (s3, s2, s1) (cc))

-- the changes after the last block
pub blocks-end : (wrong whole : List (ℕ × ℕ)) (block state : ℕ) → 6 ≡ block → wrong ++ (changes block (6 - block) state).0 ≡ whole → wrong ≡ whole
blocks-end wrong whole block state h is =
    sym (append-nil wrong) ∙ ap (λ d. wrong ++ d.0) (sym (changes-none block state h)) ∙ is

pub states-end : (block state last : ℕ) → 6 ≡ block → (changes block (6 - block) state).1 ≡ last → state ≡ last
states-end block state last h left = let none = changes-none block state h in cc

-- one change more is made of a frame
pub frame_with_changes-next : (items : List (ℕ × ℕ)) (frame : List ℕ) (i place : ℕ) → i < length items → place ≡ (get_or items i (0, 0)).0
    → frame_with_changes (drop (i + 1) items) (set frame place (bit_xor (get_or frame place 0) (get_or items i (0, 0)).1)) ≡ frame_with_changes (drop i items) frame
unfolding frame_with_changes
frame_with_changes-next items frame i place h is =
    rw (is, drop-cons items i (0, 0) h, add-one i) refl

-- after the last change
pub frame_with_changes-end : (items : List (ℕ × ℕ)) (frame : List ℕ) (i : ℕ) → length items ≤ i → frame_with_changes (drop i items) frame ≡ frame
unfolding frame_with_changes
frame_with_changes-end items frame i h = rw (drop_of_length-le items h) refl
