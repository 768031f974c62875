-- A frame as it is heard: its wrong bytes are put in one after another; and what it is to be near.
use Rattle.std.proofs.Common.{◌≡◌, ℕ, ◌<◌, ◌==◌, true, if◌then◌else◌, IsTrue, List, [], ◌∷◌, length, sym, ap, subst, ◌∙◌, arith, set, slice_index, get_or, inl, inr}
use Rattle.std.specs.List.{range_with_len}
use Rattle.std.proofs.lemmas.Bool.{cases_Bool}
use Rattle.std.proofs.lemmas.Bool.Decides.{nat_tests}
use Rattle.std.proofs.lemmas.List.{get_or-set_same, get_or-set_other}
use Rattle.std.proofs.lemmas.List.FromFn.{get_or-range_with_len, length-range_with_len}
use Rattle.std.proofs.lemmas.List.Sums.{AllPass-from_list_all}
use Rattle.std.proofs.lemmas.Simd.{pick_l_whole}
use Rattle.list_members.specs.Ranges.{map_same}
use Rattle.rs_code.specs.CodeWord.{are_near}
use Rattle.uplink_weave.specs.Woven.{block, block_roots}
use Rattle.fisb_app.specs.Past.{byte_heard, air_heard}
use Rattle.fisb_app.specs.Damage.{has_near_blocks}

pub near-blocks : (heard sent : List ℕ) → has_near_blocks heard sent ≡ true → (r : ℕ) → r < 6 → IsTrue (are_near block_roots (block r heard) (block r sent))
unfolding has_near_blocks
near-blocks heard sent e r below =
    let each = AllPass-from_list_all (λ r. are_near block_roots (block r heard) (block r sent)) (range_with_len 0 6) e in
    let long = length-range_with_len 0 6 in
    let is = get_or-range_with_len 0 6 r 0 below in
    subst (λ k. are_near block_roots (block k heard) (block k sent) ≡ true) (is ∙ omega arith) (each r 0 (omega (arith, below, long)))

-- nothing is wrong
pub nothing-wrong : (air : List ℕ) → length air ≡ 552 → air_heard [] air ≡ air
unfolding air_heard
nothing-wrong air long = pick_l_whole 0 air 552 long

-- a wrong byte stands in the frame already
put-one : (air : List ℕ) (at byte place : ℕ) → at < length air → (if at == place then byte else slice_index air place) ≡ slice_index (set air at byte) place
put-one air at byte place within =
    elim (cases_Bool (at == place)) [
      | inl same ↦ (let is : at ≡ place = grind (arith, nat_tests) in rw same (sym (subst (λ p. get_or (set air at byte) p 0 ≡ byte) is (get_or-set_same air at byte 0 within))))
      | inr other ↦ rw other (sym (get_or-set_other air at place byte 0 (λ e. absurd (grind (arith, nat_tests)))))
    ]

pub one-put : (one : ℕ × ℕ) (more : List (ℕ × ℕ)) (air : List ℕ) → one.0 < length air → air_heard (one ∷ more) air ≡ air_heard more (set air one.0 one.1)
unfolding air_heard
one-put one more air within =
    map_same (λ place. byte_heard (one ∷ more) place (slice_index air place)) (λ place. byte_heard more place (slice_index (set air one.0 one.1) place)) (range_with_len 0 552)
    (λ place there. ap (byte_heard more place) (put-one air one.0 one.1 place within))
