-- That ended entries may be forgotten.
use Rattle.std.proofs.Common.{◌≡◌, ℕ, ◌≤◌, false, nat_lt, List, [], ◌∷◌, refl, sym, ap, ◌∙◌, arith, inl, inr}
use Rattle.std.proofs.lemmas.Bool.{cases_Bool, ltb-false, le-ltb}
use Rattle.list_members.specs.Members.{IsIn-from_filter}
use Rattle.picture_core.specs.Entry.{Entry}
use Rattle.picture_core.specs.Kept.{IsRising, IsStore, keys, live_entries}
use Rattle.picture_core.proofs.PicturesFound.{IsRising-filter}

pub live_entries-rising : (m : ℕ) (kept : List Entry) → IsRising (keys kept) → IsRising (keys (live_entries m kept))
live_entries-rising m kept rising = IsRising-filter (λ (x : Entry). nat_lt m x.until) kept rising

pub live_entries-later : (kept : List Entry) (now m : ℕ) → now ≤ m → live_entries m (live_entries now kept) ≡ live_entries m kept
live_entries-later [] now m late = refl
live_entries-later (e ∷ kept) now m late = elim (cases_Bool (nat_lt now e.until)) [
  | inl lived ↦ elim (cases_Bool (nat_lt m e.until)) [
    | inl lives ↦ rw lived (rw lives (ap (λ (es : List Entry). e ∷ es) (live_entries-later kept now m late)))
    | inr over ↦ rw lived (rw over (live_entries-later kept now m late))
  ]
  | inr over ↦
      let past = ltb-false now e.until over in
      let over_too : nat_lt m e.until ≡ false = le-ltb m e.until (omega arith) in
      rw over (rw over_too (live_entries-later kept now m late))
]

-- what stands for all from a moment on does so from any later one on, also without the entries that have ended by then
pub store-later :
    (now later : ℕ) (contents kept : List Entry) → now ≤ later → IsStore now contents kept → IsStore later contents kept
store-later now later contents kept late store = record {
  rising = store.rising;
  brought = store.brought;
  pictures = λ m later_still. let late_enough : now ≤ m = omega arith in store.pictures m late_enough;
}

pub store-forgets :
    (now gone later : ℕ) (contents kept : List Entry) → now ≤ later → gone ≤ later → IsStore now contents kept
    → IsStore later contents (live_entries gone kept)
store-forgets now gone later contents kept late past store = record {
  rising = live_entries-rising gone kept store.rising;
  brought = λ e here. store.brought e (IsIn-from_filter (λ (x : Entry). nat_lt gone x.until) e kept here).0;
  pictures = λ m later_still.
      let late_enough : now ≤ m = omega arith in
      let past_enough : gone ≤ m = omega arith in
      store.pictures m late_enough ∙ sym (live_entries-later kept gone m past_enough);
}
