-- A frame with its changes is the one that is heard where the changed bytes are told.
use Rattle.std.proofs.Common.{◌≡◌, ◌⊎◌, ℕ, ◌==◌, true, false, if◌then◌else◌, List, [], ◌∷◌, length, refl, sym, ap, ◌∙◌, arith, slice_index, slice_set, bit_xor, inl, inr}
use Rattle.std.specs.List.{range_with_len}
use Rattle.std.proofs.lemmas.Bool.{cases_Bool, cond-true, cond-false}
use Rattle.std.proofs.lemmas.Bool.Decides.{nat_tests}
use Rattle.std.proofs.lemmas.List.{get_or-set_other, length-set}
use Rattle.std.proofs.lemmas.Simd.{pick_l_whole}
use Rattle.list_members.specs.Ranges.{map_same}
use Rattle.workload.specs.Hearings.{frame_with_changes as changed_frame}
use Rattle.fisb_app.specs.Past.{byte_heard, air_heard}
use Rattle.fisb_app.specs.Make.{wrong_bytes}

-- the byte that is heard at a place stays, whichever places are told further
byte-stays : (changes : List (ℕ × ℕ)) (heard : List ℕ) (place byte : ℕ) → byte ≡ slice_index heard place
    → byte_heard (wrong_bytes changes heard) place byte ≡ slice_index heard place
byte-stays [] heard place byte is = is
byte-stays (change ∷ more) heard place byte is = byte-stays more heard place _ (either (cases_Bool (change.0 == place)))
  where
    either : ((change.0 == place) ≡ true) ⊎ ((change.0 == place) ≡ false) → (if change.0 == place then slice_index heard change.0 else byte) ≡ slice_index heard place
    either (inl same) = let at : change.0 ≡ place = grind (arith, nat_tests) in cond-true (change.0 == place) _ byte same ∙ ap (slice_index heard) at
    either (inr other) = cond-false (change.0 == place) _ byte other ∙ is

byte-changed : (changes : List (ℕ × ℕ)) (frame : List ℕ) (place : ℕ)
    → byte_heard (wrong_bytes changes (changed_frame changes frame)) place (slice_index frame place) ≡ slice_index (changed_frame changes frame) place
unfolding changed_frame
byte-changed [] frame place = refl
byte-changed (change ∷ more) frame place = either (byte-changed more (slice_set frame change.0 (bit_xor (slice_index frame change.0) change.1)) place) (cases_Bool (change.0 == place))
  where
    next : List ℕ
    next = slice_set frame change.0 (bit_xor (slice_index frame change.0) change.1)

    heard : List ℕ
    heard = changed_frame more next

    either : byte_heard (wrong_bytes more heard) place (slice_index next place) ≡ slice_index heard place → ((change.0 == place) ≡ true) ⊎ ((change.0 == place) ≡ false)
        → byte_heard (wrong_bytes more heard) place (if change.0 == place then slice_index heard change.0 else slice_index frame place) ≡ slice_index heard place
    either rest (inl same) = let at : change.0 ≡ place = grind (arith, nat_tests) in
        byte-stays more heard place _ (cond-true (change.0 == place) _ (slice_index frame place) same ∙ ap (slice_index heard) at)
    either rest (inr other) =
        let kept : slice_index frame place ≡ slice_index next place = sym (get_or-set_other frame change.0 place _ 0 (λ e. absurd (grind (arith, nat_tests)))) in
        ap (byte_heard (wrong_bytes more heard) place) (cond-false (change.0 == place) _ (slice_index frame place) other ∙ kept) ∙ rest

pub length-changed : (changes : List (ℕ × ℕ)) (frame : List ℕ) → length (changed_frame changes frame) ≡ length frame
unfolding changed_frame
length-changed [] frame = refl
length-changed (change ∷ more) frame = length-changed more (slice_set frame change.0 (bit_xor (slice_index frame change.0) change.1)) ∙ length-set frame _ _

pub changes-heard : (changes : List (ℕ × ℕ)) (air : List ℕ) → length air ≡ 552 → air_heard (wrong_bytes changes (changed_frame changes air)) air ≡ changed_frame changes air
unfolding air_heard
changes-heard changes air long =
    map_same (λ place. byte_heard (wrong_bytes changes (changed_frame changes air)) place (slice_index air place)) (slice_index (changed_frame changes air)) (range_with_len 0 552)
    (λ place there. byte-changed changes air place)
    ∙ pick_l_whole 0 (changed_frame changes air) 552 (length-changed changes air ∙ long)
