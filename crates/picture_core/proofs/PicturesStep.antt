-- What is shown of two lists one after the other, and that both show the same where the same is added to both.
use Rattle.std.proofs.Common.{◌≡◌, ℕ, ◌≤◌, true, false, nat_lt, List, [], ◌∷◌, ◌++◌, filter, Option, Some, None}
use Rattle.std.proofs.Common.{refl, sym, ap, ◌∙◌, append-nil, arith, inl, inr}
use Rattle.std.proofs.lemmas.Bool.{cases_Bool, cond-false, ltb-true, ltb-false, lt-ltb, le-ltb}
use Rattle.std.proofs.lemmas.List.Elements.{filter-append}
use Rattle.std.proofs.lemmas.List.Sums.{fold-append}
use Rattle.picture_core.specs.Entry.{Entry}
use Rattle.picture_core.specs.Key.{Key}
use Rattle.picture_core.specs.Picture.{newest_of, shown_at, picture}
use Rattle.picture_core.specs.Kept.{IsRising, kept_at, keys, newer_of, put}
use Rattle.picture_core.specs.Shown.{AddsSame, shown_with}
use Rattle.picture_core.proofs.Keys.{same_key-itself}
use Rattle.picture_core.proofs.Pictures.{kept_at-put_own}
use Rattle.picture_core.proofs.PicturesFound.{same_entries}
use Rattle.picture_core.proofs.PicturesShown.{best, is_live_at, shown_at-is, shown_at-some, IsRising-picture, kept_at-picture}

newer_of-kept : (a b : Entry) → b.version ≤ a.version → newer_of a b ≡ a
newer_of-kept a b most = cond-false (nat_lt a.version b.version) b a (le-ltb a.version b.version most)

newer_of-regroup : (a b c : Entry) → newer_of (newer_of a b) c ≡ newer_of a (newer_of b c)
newer_of-regroup a b c = elim (cases_Bool (nat_lt a.version b.version)) [
  | inl ab ↦
      let less = ltb-true a.version b.version ab in
      elim (cases_Bool (nat_lt b.version c.version)) [
        | inl bc ↦
            let less_yet = ltb-true b.version c.version bc in
            let ac : nat_lt a.version c.version ≡ true = lt-ltb a.version c.version (omega arith) in
            rw (ab, bc, ac) refl
        | inr bc ↦ rw (ab, bc, ab) refl
      ]
  | inr ab ↦
      let most = ltb-false a.version b.version ab in
      elim (cases_Bool (nat_lt b.version c.version)) [
        | inl bc ↦ rw (ab, bc) refl
        | inr bc ↦
            let most_yet = ltb-false b.version c.version bc in
            let ac : nat_lt a.version c.version ≡ false = le-ltb a.version c.version (omega arith) in
            rw (ab, bc, ac, ab) refl
      ]
]

best-newer_of : (a b : Entry) (more : List Entry) → best (newer_of a b) more ≡ newer_of a (best b more)
best-newer_of a b [] = refl
best-newer_of a b (c ∷ more) =
    ap (λ (e : Entry). best e more) (newer_of-regroup a b c) ∙ best-newer_of a (newer_of b c) more

newest_of-append : (one other : List Entry) → newest_of (one ++ other) ≡ shown_with (newest_of one) (newest_of other)
newest_of-append [] other = refl
newest_of-append (a ∷ one) [] = ap (λ (es : List Entry). Some (best a es)) (append-nil one)
newest_of-append (a ∷ one) (b ∷ other) =
    ap Some (fold-append newer_of a one (b ∷ other) ∙ best-newer_of (best a one) b other)

pub shown_at-append :
    (one other : List Entry) (m : ℕ) (k : Key) → shown_at (one ++ other) m k ≡ shown_with (shown_at one m k) (shown_at other m k)
shown_at-append one other m k =
    ap newest_of (filter-append (is_live_at m k) one other)
    ∙ newest_of-append (filter (is_live_at m k) one) (filter (is_live_at m k) other)

-- at the key of a put entry stands the newer one of it and the one that was kept there
pub kept_at-put :
    (e : Entry) (kept : List Entry) → IsRising (keys kept)
    → kept_at e.key (put e kept) ≡ shown_with (kept_at e.key kept) (Some e)
kept_at-put e kept rising = kept_at-put_own e kept e.key rising (same_key-itself e.key)

-- the same shown at each key is the same picture
pub same_pictures :
    (one other : List Entry) (m : ℕ) → ((k : Key) → shown_at one m k ≡ shown_at other m k) → picture one m ≡ picture other m
same_pictures one other m same =
    same_entries (picture one m) (picture other m) (IsRising-picture one m) (IsRising-picture other m)
    (λ k. kept_at-picture one m k ∙ same k ∙ sym (kept_at-picture other m k))

-- what is added to one side, where all of it that reaches further than what is shown is on the other side too, is the same
-- beside what is shown, or is not above it
step_cases :
    (m : ℕ) (k : Key) (o p q : Option Entry) (xs ys : List Entry) → AddsSame m k o xs ys → shown_at xs m k ≡ p
    → shown_at ys m k ≡ q → shown_with o p ≡ shown_with o q
step_cases m k o None None xs ys adds x y = refl
step_cases m k None None (Some f) xs ys adds x y =
    let shown = shown_at-is ys m k f y in
    elim (adds.back f shown.there shown.own shown.lives) [
      | inl there ↦
          let some = shown_at-some xs m k f there shown.own shown.lives in
          let is = some.1 in
          absurd (cc)
      | inr outdone ↦ absurd outdone
    ]
step_cases m k (Some s) None (Some f) xs ys adds x y =
    let shown = shown_at-is ys m k f y in
    elim (adds.back f shown.there shown.own shown.lives) [
      | inl there ↦
          let some = shown_at-some xs m k f there shown.own shown.lives in
          let is = some.1 in
          absurd (cc)
      | inr outdone ↦ ap Some (sym (newer_of-kept s f outdone))
    ]
step_cases m k None (Some e) None xs ys adds x y =
    let shown = shown_at-is xs m k e x in
    elim (adds.there e shown.there shown.own shown.lives) [
      | inl there ↦
          let some = shown_at-some ys m k e there shown.own shown.lives in
          let is = some.1 in
          absurd (cc)
      | inr outdone ↦ absurd outdone
    ]
step_cases m k (Some s) (Some e) None xs ys adds x y =
    let shown = shown_at-is xs m k e x in
    elim (adds.there e shown.there shown.own shown.lives) [
      | inl there ↦
          let some = shown_at-some ys m k e there shown.own shown.lives in
          let is = some.1 in
          absurd (cc)
      | inr outdone ↦ ap Some (newer_of-kept s e outdone)
    ]
step_cases m k None (Some e) (Some f) xs ys adds x y =
    let shown = shown_at-is xs m k e x in
    let shown' = shown_at-is ys m k f y in
    elim (adds.there e shown.there shown.own shown.lives) [
      | inl there ↦ elim (adds.back f shown'.there shown'.own shown'.lives) [
        | inl back ↦
            let up : e.version ≤ f.version = shown'.most e there shown.own shown.lives in
            let down : f.version ≤ e.version = shown.most f back shown'.own shown'.lives in
            ap Some (adds.untied e f shown.there back shown.own shown'.own (omega arith))
        | inr outdone ↦ absurd outdone
      ]
      | inr outdone ↦ absurd outdone
    ]
step_cases m k (Some s) (Some e) (Some f) xs ys adds x y =
    let shown = shown_at-is xs m k e x in
    let shown' = shown_at-is ys m k f y in
    elim (adds.there e shown.there shown.own shown.lives) [
      | inl there ↦
          let up : e.version ≤ f.version = shown'.most e there shown.own shown.lives in
          elim (adds.back f shown'.there shown'.own shown'.lives) [
            | inl back ↦
                let down : f.version ≤ e.version = shown.most f back shown'.own shown'.lives in
                ap (λ (z : Entry). Some (newer_of s z)) (adds.untied e f shown.there back shown.own shown'.own (omega arith))
            | inr outdone ↦
                let low : f.version ≤ s.version = outdone in
                let low_too : e.version ≤ s.version = omega arith in
                ap Some (newer_of-kept s e low_too ∙ sym (newer_of-kept s f low))
          ]
      | inr outdone ↦
          let low : e.version ≤ s.version = outdone in
          elim (adds.back f shown'.there shown'.own shown'.lives) [
            | inl back ↦
                let down : f.version ≤ e.version = shown.most f back shown'.own shown'.lives in
                let low_too : f.version ≤ s.version = omega arith in
                ap Some (newer_of-kept s e low ∙ sym (newer_of-kept s f low_too))
            | inr outdone' ↦ ap Some (newer_of-kept s e low ∙ sym (newer_of-kept s f outdone'))
          ]
    ]

pub same_step :
    (one other xs ys : List Entry) (m : ℕ) (k : Key) → shown_at one m k ≡ shown_at other m k
    → AddsSame m k (shown_at one m k) xs ys → shown_at (one ++ xs) m k ≡ shown_at (other ++ ys) m k
same_step one other xs ys m k same adds =
    shown_at-append one xs m k
    ∙ step_cases m k (shown_at one m k) (shown_at xs m k) (shown_at ys m k) xs ys adds refl refl
    ∙ ap (λ (o : Option Entry). shown_with o (shown_at ys m k)) same
    ∙ sym (shown_at-append other ys m k)
