-- The functions of frames against what they are to give.
use Rattle.std.proofs.Common.{◌≡◌, ◌↔◌, ℕ, ◌+◌, ◌*◌, ◌/◌, ◌%◌, ◌<◌, List, length, get_or, take, drop, replicate, Option, Some, None, lit<, refl, sym, ◌∙◌, ap, subst, arith, inl, inr}
use Rattle.std.specs.Option.{is_none, unwrap_or}
use Rattle.std.proofs.lemmas.Bool.{cases_lt, le-leb}
use Rattle.std.proofs.lemmas.List.{ext_get_or, get_or-drop, get_or_past}
use Rattle.std.proofs.lemmas.List.FromFn.{length-map-range_with_len, get_or-map-range_with_len}
use Rattle.list_members.specs.Places.{take-below}
use Rattle.list_members.specs.Tests.{none_from_is_none}
use Rattle.list_members.specs.FirstInRange.{first_from, first_to, passes_none, found_none}
use Rattle.rs_code.specs.CodeWord.{IsCodeWord, IsNear, IsCorrectable, differences, bound}
use Rattle.rs_code.specs.Functions.{encoded_word}
use Rattle.rs_code.specs.Laws.{HasOneEncoded, IsCorrected}
use Rattle.rs_code.specs.Instances.{uplink_instance}
use Rattle.uplink_weave.specs.Woven.{block, IsWoven, AllCorrectable, HasPayload, HasCounts, IsLostBlock}
use Rattle.uplink_weave.specs.Functions.{part, woven_frame, length-woven_frame, corrected_block, payload_in, counts_in, lost_block_in}
use Rattle.uplink_weave.specs.Laws.{IsTheFrame, GivesPayload, FrameGivesPayload, WovenGivesPayload, NearFrameGivesPayload, BurstIsSpread, BurstGivesPayload}
use Rattle.uplink_weave.proofs.Places.{length-block, is_block, same_frame}
use Rattle.uplink_weave.proofs.Frames.{near_gives_payload, near_counts}
use Rattle.uplink_weave.proofs.Parts.{length-part, part_from, part_to, joined_to, joined_from, word_there, cases_option, joined_none}

-- frames that are woven

get_or-woven_frame :
    (payload : List ℕ) (place : ℕ) → place < 552
    → get_or (woven_frame payload) place 0 ≡ get_or (encoded_word 92 20 120 (part (place % 6) payload)) (place / 6) 0
unfolding woven_frame
get_or-woven_frame payload place h =
    get_or-map-range_with_len (λ (i : ℕ). get_or (encoded_word 92 20 120 (part (i % 6) payload)) (i / 6) 0) 0 552 place place 0 h
    (omega arith)

block-woven_frame :
    (payload : List ℕ) (r : ℕ) → r < 6 → length (encoded_word 92 20 120 (part r payload)) ≡ 92
    → block r (woven_frame payload) ≡ encoded_word 92 20 120 (part r payload)
block-woven_frame payload r h long =
    sym (is_block r (woven_frame payload) (encoded_word 92 20 120 (part r payload)) long
    (λ k h'.
    let number : r ≡ (6 * k + r) % 6 = omega arith in
    let place : k ≡ (6 * k + r) / 6 = omega arith in
    ap (λ (n : ℕ). get_or (encoded_word 92 20 120 (part n payload)) k 0) number
    ∙ ap (λ (n : ℕ). get_or (encoded_word 92 20 120 (part ((6 * k + r) % 6) payload)) n 0) place
    ∙ sym (get_or-woven_frame payload (6 * k + r) (omega arith))))

bytes-part :
    (r : ℕ) (payload : List ℕ) → ((i : ℕ) → get_or payload i 0 < 256) → (i : ℕ) → get_or (part r payload) i 0 < 256
bytes-part r payload bytes =
    take-below 256 72 (drop (72 * r) payload) (lit< tt)
    (λ i. subst (λ (n : ℕ). n < 256) (sym (get_or-drop (72 * r) payload i 0)) (bytes (72 * r + i)))

encoded_is :
    (E : HasOneEncoded) (payload : List ℕ) (r : ℕ) → r < 6 → length payload ≡ 432
    → ((i : ℕ) → get_or payload i 0 < 256)
    → IsCodeWord 92 20 120 (encoded_word 92 20 120 (part r payload))
    × (take 72 (encoded_word 92 20 120 (part r payload)) ≡ part r payload)
encoded_is E payload r h full bytes =
    (E 92 20 120 (part r payload) (encoded_word 92 20 120 (part r payload)) uplink_instance (length-part r payload h full)
    (bytes-part r payload bytes)).0 refl

only_frame : (E : HasOneEncoded) (payload air : List ℕ) → IsWoven payload air → air ≡ woven_frame payload
only_frame E payload air is =
    same_frame air (woven_frame payload) is.long (length-woven_frame payload)
    (λ r h.
    let code = is.code r h in
    let front : take 72 (block r air) ≡ part r payload =
    part_from r payload (block r air) h is.full (length-block r air) (is.parts r h) in
    let same : block r air ≡ encoded_word 92 20 120 (part r payload) =
    (E 92 20 120 (part r payload) (block r air) uplink_instance (length-part r payload h is.full)
    (subst (λ (w : List ℕ). (i : ℕ) → get_or w i 0 < 256) front (take-below 256 72 (block r air) (lit< tt) code.bytes))).1 (code, front) in
    same ∙ sym (block-woven_frame payload r h (ap length (sym same) ∙ length-block r air)))

made_frame :
    (E : HasOneEncoded) (payload : List ℕ) → length payload ≡ 432 → ((i : ℕ) → get_or payload i 0 < 256)
    → IsWoven payload (woven_frame payload)
made_frame E payload full bytes = record {
  full = full;
  long = length-woven_frame payload;
  code = λ r h.
      let is = encoded_is E payload r h full bytes in
      let code = is.0 in
      subst (IsCodeWord 92 20 120) (sym (block-woven_frame payload r h code.long)) code;
  parts = λ r h.
      let is = encoded_is E payload r h full bytes in
      let code = is.0 in
      part_to r payload (block r (woven_frame payload)) (ap (take 72) (block-woven_frame payload r h code.long) ∙ is.1);
}

bytes-woven_frame :
    (E : HasOneEncoded) (payload : List ℕ) → length payload ≡ 432 → ((i : ℕ) → get_or payload i 0 < 256) → (i : ℕ)
    → get_or (woven_frame payload) i 0 < 256
bytes-woven_frame E payload full bytes i = elim (cases_lt i 552) [
  | inl inside ↦
      let is = encoded_is E payload (i % 6) (omega arith) full bytes in
      let code = is.0 in
      let e = get_or-woven_frame payload i inside in
      let fits = code.bytes (i / 6) in
      omega arith
  | inr behind ↦
      let l = length-woven_frame payload in
      let e = get_or_past (woven_frame payload) i 0 (omega arith) in
      omega arith
]

pub is_the_frame : HasOneEncoded → IsTheFrame
is_the_frame E = record {
  only = only_frame E;
  made = λ payload full bytes. (made_frame E payload full bytes, bytes-woven_frame E payload full bytes);
  long = length-woven_frame;
}

-- payloads, counts and lost blocks of frames

near_is :
    (C : IsCorrected) (air : List ℕ) (r : ℕ) (word : List ℕ)
    → (corrected_block air r ≡ Some word) ↔ IsNear 92 20 120 (block r air) word
unfolding corrected_block
near_is C air r word = C.nearest 92 20 120 (block r air) word uplink_instance

none_is :
    (C : IsCorrected) (air : List ℕ) (r : ℕ) → (corrected_block air r ≡ None) ↔ ¬ IsCorrectable 92 20 120 (block r air)
unfolding corrected_block
none_is C air r = C.none 92 20 120 (block r air) uplink_instance

long_word :
    (C : IsCorrected) (air : List ℕ) (r : ℕ) (word : List ℕ) → corrected_block air r ≡ Some word → length word ≡ 92
long_word C air r word e = let near = (near_is C air r word).0 e in near.code.long

payload_from :
    (C : IsCorrected) (air payload : List ℕ) → payload_in air ≡ Some payload → HasPayload air payload
unfolding payload_in
payload_from C air payload e =
    let are = joined_from (corrected_block air) 0 6 payload (long_word C air) e in
    record {
      full = are.long;
      parts = λ r h.
          let found = are.words r h in
          let e' : corrected_block air r ≡ Some found.0 =
          ap (corrected_block air) (let z : r ≡ 0 + r = omega arith in z) ∙ found.1 in
          (found.0, (near_is C air r found.0).0 e', part_to r payload found.0 found.2);
    }

payload_to :
    (C : IsCorrected) (air payload : List ℕ) → HasPayload air payload → payload_in air ≡ Some payload
unfolding payload_in
payload_to C air payload has =
    joined_to (corrected_block air) payload 0 6 has.full
    (λ r h h'.
    let some = has.parts r (omega arith) in
    let near = some.1 in
    (some.0, (near_is C air r some.0).1 near, part_from r payload some.0 (omega arith) has.full near.code.long some.2))

correctable_from : (C : IsCorrected) (air payload : List ℕ) → HasPayload air payload → AllCorrectable air
correctable_from C air payload has r h = let some = has.parts r h in (some.0, some.1)

lost_from : (C : IsCorrected) (air : List ℕ) (r : ℕ) → lost_block_in air ≡ Some r → IsLostBlock air r
unfolding lost_block_in
lost_from C air r e =
    let is = first_from (λ (n : ℕ). is_none (corrected_block air n)) 0 6 r e in
    record {
      below = is.high;
      lost = (none_is C air r).0 (none_from_is_none (corrected_block air r) is.passes);
      first = λ lower h.
          let word = word_there (corrected_block air lower) (is.before lower (omega arith) h) in
          (word.0, (near_is C air lower word.0).0 word.1);
    }

lost_to : (C : IsCorrected) (air : List ℕ) (r : ℕ) → IsLostBlock air r → lost_block_in air ≡ Some r
unfolding lost_block_in
lost_to C air r is =
    first_to (λ (n : ℕ). is_none (corrected_block air n)) 0 6 r (record {
      low = omega arith;
      high = is.below;
      passes = ap is_none ((none_is C air r).1 is.lost);
      before = λ lower h h'.
          let some = is.first lower h' in
          ap is_none ((near_is C air lower some.0).1 some.1);
    })

none_lost_from : (C : IsCorrected) (air : List ℕ) → lost_block_in air ≡ None → AllCorrectable air
unfolding lost_block_in
none_lost_from C air e r h =
    let word = word_there (corrected_block air r)
    (passes_none (λ (n : ℕ). is_none (corrected_block air n)) 0 6 e r (omega arith) h) in
    (word.0, (near_is C air r word.0).0 word.1)

none_lost_to : (C : IsCorrected) (air : List ℕ) → AllCorrectable air → lost_block_in air ≡ None
unfolding lost_block_in
none_lost_to C air all =
    found_none (λ (n : ℕ). is_none (corrected_block air n)) 0 6
    (λ r h h'. let some = all r h' in ap is_none ((near_is C air r some.0).1 some.1))

no_payload_from : (C : IsCorrected) (air : List ℕ) → payload_in air ≡ None → ¬ AllCorrectable air
unfolding payload_in
no_payload_from C air e all =
    let missing = joined_none (corrected_block air) 0 6 e in
    let e' : corrected_block air missing.0 ≡ None =
    ap (corrected_block air) (let z : missing.0 ≡ 0 + missing.0 = omega arith in z) ∙ missing.2 in
    (none_is C air missing.0).0 e' (all missing.0 missing.1)

no_payload_to : (C : IsCorrected) (air : List ℕ) → ¬ AllCorrectable air → payload_in air ≡ None
no_payload_to C air lost = elim (cases_option (payload_in air)) [
  | inl none ↦ none
  | inr some ↦ absurd (lost (correctable_from C air some.0 (payload_from C air some.0 some.1)))
]

get_or-counts :
    (air : List ℕ) (r : ℕ) (word : List ℕ) → r < 6 → corrected_block air r ≡ Some word
    → get_or (counts_in air) r 0 ≡ differences (block r air) word
unfolding counts_in
get_or-counts air r word h e =
    get_or-map-range_with_len (λ (n : ℕ). differences (block n air) (unwrap_or (corrected_block air n) (block n air))) 0 6 r r 0 h
    (omega arith)
    ∙ ap (λ (o : Option (List ℕ)). differences (block r air) (unwrap_or o (block r air))) e

length-counts : (air : List ℕ) → length (counts_in air) ≡ 6
unfolding counts_in
length-counts air =
    length-map-range_with_len (λ (n : ℕ). differences (block n air) (unwrap_or (corrected_block air n) (block n air))) 0 6

counts_are : (C : IsCorrected) (air : List ℕ) → AllCorrectable air → HasCounts air (counts_in air)
counts_are C air all = record {
  six = length-counts air;
  each = λ r h.
      let some = all r h in
      (some.0, some.1, get_or-counts air r some.0 h ((near_is C air r some.0).1 some.1));
}

counts_to : (C : IsCorrected) (air counts : List ℕ) → HasCounts air counts → counts ≡ counts_in air
counts_to C air counts has =
    ext_get_or 0 counts (counts_in air) (has.six ∙ sym (length-counts air))
    (λ r h.
    let six = has.six in
    let low : r < 6 = omega arith in
    let each = has.each r low in
    each.2 ∙ sym (get_or-counts air r each.0 low ((near_is C air r each.0).1 each.1)))

pub gives_payload : IsCorrected → GivesPayload
gives_payload C = record {
  payload = λ air payload. (payload_from C air payload, payload_to C air payload);
  no_payload = λ air. (no_payload_from C air, no_payload_to C air);
  counts = λ air counts all. (
    λ e. subst (HasCounts air) (sym e) (counts_are C air all),
    counts_to C air counts,
  );
  lost = λ air r. (lost_from C air r, lost_to C air r);
  none_lost = λ air. (none_lost_from C air, none_lost_to C air);
}

pub frame_gives_payload : WovenGivesPayload → IsTheFrame → GivesPayload → FrameGivesPayload
frame_gives_payload W T G payload full bytes =
    let made = T.made payload full bytes in
    let gives = W payload (woven_frame payload) made.0 in
    let all : AllCorrectable (woven_frame payload) = λ r h. let some = gives.0.parts r h in (some.0, some.1) in (
      (G.payload (woven_frame payload) payload).1 gives.0,
      sym ((G.counts (woven_frame payload) (replicate 6 0) all).1 gives.1),
      (G.none_lost (woven_frame payload)).1 all,
    )

pub near_frame_gives_payload : IsTheFrame → GivesPayload → NearFrameGivesPayload
near_frame_gives_payload T G payload air full bytes near =
    let made = T.made payload full bytes in
    let gives = near_gives_payload payload (woven_frame payload) air made.0 near in
    let all : AllCorrectable air = λ r h. let some = gives.parts r h in (some.0, some.1) in (
      (G.payload air payload).1 gives,
      sym ((G.counts air _ all).1 (near_counts payload (woven_frame payload) air made.0 near)),
      (G.none_lost air).1 all,
    )

pub burst_gives_payload : IsTheFrame → BurstIsSpread → NearFrameGivesPayload → BurstGivesPayload
burst_gives_payload T B N payload air first full bytes long same =
    let spread = B first air (woven_frame payload) long (T.long payload) same in
    (N payload air full bytes
    (λ r h. le-leb (differences (block r air) (block r (woven_frame payload))) (bound 20) (let few = spread r h in omega arith))).0
