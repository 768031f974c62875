-- What is kept of keys is found by what they are.
use Rattle.std.proofs.Common.{◌≡◌, ℕ, Bool, ◌&&◌, cond, if◌then◌else◌, Option, Some, None, option_map, refl, sym, ap, subst, ◌∙◌, inl, inr}
use Rattle.std.specs.Ordering.{nat_cmp, is_eq}
use Rattle.std.specs.BTreeMap.{is_at}
use Rattle.std.proofs.Math.Bool.{and-true, and-false}
use Rattle.std.proofs.lemmas.Bool.{cases_Bool, eq-eqb}
use Rattle.list_members.specs.Tests.{tied_numbers}
use Rattle.text_reports.specs.TextKey.{TextKey, same_text_key}
use Rattle.picture_core.specs.Key.{Key, radar_block, text_report}
use Rattle.radar_core.specs.declared.key.BlockKey.{BlockKey}
use Rattle.std.specs.Rc.{rc_with_value}
use Rattle.ground_core.specs.Piece.{Latest, while_living}
use Rattle.ground_core.specs.PlaceNumber.{place_number}
use Rattle.ground_core.specs.NumberedKeys.{given_key, report_key}
use Rattle.ground_core.specs.Views.{given_view}
use Rattle.ground_core.specs.declared.numbered_key.NumberedKey.{NumberedKey}
use Rattle.ground_core.specs.contracts.numbered_key.NumberedKeyOrd.TheImpl as numbered
use Rattle.ground_core.specs.declared.newest.Given.{Given}
use Rattle.ground_core.proofs.KeyLemmas.{KeyLaws, text_key_is}
use Rattle.std.specs.Cmp.{tied_then}

-- the key of the map that has another report's key
abbrev pub with_key : NumberedKey → TextKey → NumberedKey
with_key a k = record { number = place_number k.place; key = rc_with_value a.key (given_key k); numbered = refl }

pub key_at : KeyLaws → (a : NumberedKey) (k : TextKey) → is_at (numbered.ghosts.cmp a) (with_key a k) ≡ same_text_key (report_key a) k
key_at keys a k =
    let first : Bool = is_eq (nat_cmp a.number (place_number k.place)) in
    sym (tied_then (nat_cmp a.number (place_number k.place)) _) ∙ ap (λ x. first && x) (keys.agrees (text_report (report_key a)) (text_report k))
    ∙ (elim (cases_Bool (same_text_key (report_key a) k)) [
      | inl t ↦ (
          let same : report_key a ≡ k = text_key_is keys (report_key a) k t in
          let numbers : a.number ≡ place_number k.place = a.numbered ∙ ap (λ (x : TextKey). place_number x.place) same in
          rw t (and-true first ∙ sym (tied_numbers a.number (place_number k.place)) ∙ eq-eqb a.number (place_number k.place) numbers))
      | inr f ↦ rw f (and-false first)
    ])

pub by_key : (P : Key → Type 0) → ((k : BlockKey) → P (radar_block k)) → ((k : TextKey) → P (text_report k)) → (key : Key) → P key
by_key P r f (radar_block k) = r k
by_key P r f (text_report k) = f k

-- what is put under a key is found under it alone
pub put_latest : KeyLaws → (a : NumberedKey) (own k : TextKey) (g : Given) (new old : Option Given) → report_key a ≡ own
    → new ≡ cond (is_at (numbered.ghosts.cmp a) (with_key a k)) (Some g) old
    → option_map given_view new ≡ (if same_text_key own k then Some (given_view g) else option_map given_view old)
put_latest keys a own k g new old is e =
    ap (option_map given_view) e ∙ ap (λ b. option_map given_view (cond b (Some g) old)) (key_at keys a k ∙ ap (λ x. same_text_key x k) is)
    ∙ (elim (cases_Bool (same_text_key own k)) [ inl t ↦ rw t refl | inr f ↦ rw f refl ])

-- what is over and is taken out under a key is found no more
pub removed_latest : KeyLaws → (a : NumberedKey) (k : TextKey) (moment : ℕ) (old : TextKey → Option Given) (new : Option Given)
    → while_living moment (option_map given_view (old (report_key a))) ≡ None
    → new ≡ cond (is_at (numbered.ghosts.cmp a) (with_key a k)) None (old k)
    → option_map given_view new ≡ (if same_text_key (report_key a) k then while_living moment (option_map given_view (old k)) else option_map given_view (old k))
removed_latest keys a k moment old new n e =
    ap (option_map given_view) e ∙ ap (λ b. option_map given_view (cond b None (old k))) (key_at keys a k)
    ∙ (elim (cases_Bool (same_text_key (report_key a) k)) [
      | inl t ↦ (
          let same : report_key a ≡ k = text_key_is keys (report_key a) k t in
          let over : while_living moment (option_map given_view (old k)) ≡ None = subst (λ x. while_living moment (option_map given_view (old x)) ≡ None) same n in
          rw t (sym over))
      | inr f ↦ rw f refl
    ])

-- what lives stays
pub living_latest : KeyLaws → (own k : TextKey) (moment : ℕ) (old : TextKey → Option Latest) → while_living moment (old own) ≡ old own
    → old k ≡ (if same_text_key own k then while_living moment (old k) else old k)
living_latest keys own k moment old lives = elim (cases_Bool (same_text_key own k)) [
  | inl t ↦ (
      let here : while_living moment (old k) ≡ old k = subst (λ x. while_living moment (old x) ≡ old x) (text_key_is keys own k t) lives in
      rw t (sym here))
  | inr f ↦ rw f refl
]
