-- The kept entries stand for all that was brought: with no entry, and with each further one.
use Rattle.std.proofs.Common.{◌≡◌, ℕ, ◌+◌, ◌<◌, ◌≤◌, Bool, true, false, ◌&&◌, cond, nat_lt, ◌⊎◌, List, [], ◌∷◌, ◌++◌}
use Rattle.std.proofs.Common.{Option, Some, None, Ordering, refl, sym, ap, subst, ◌∙◌, arith, inl, inr, append-nil}
use Rattle.std.proofs.Common.{append_assoc}
use Rattle.std.specs.declared.cmp.Ordering.TheVariants.{Less, Equal, Greater}
use Rattle.std.proofs.lemmas.Bool.{cases_Bool, cond-true, cond-false, ltb-true, ltb-false, lt-ltb, le-ltb}
use Rattle.picture_core.specs.Entry.{Entry}
use Rattle.picture_core.specs.Key.{Key, same_key, key_cmp}
use Rattle.list_members.specs.Membership.{IsIn}
use Rattle.picture_core.specs.Picture.{shown_at, with_key, picture}
use Rattle.picture_core.specs.Kept.{AreAbove, IsRising, kept_at, keys, newer_of, put, put_all, live_entries, IsStore, IsMonotone}
use Rattle.picture_core.specs.Kept.{AreMonotone, HasLife, HaveLife}
use Rattle.picture_core.specs.Shown.{shown_with}
use Rattle.picture_core.proofs.Keys.{equal_keys, equal_from_key_cmp, apart_above, below_from_above}
use Rattle.picture_core.proofs.KeysRising.{by_order, AreAbove-lower, IsRising-with_key}
use Rattle.list_members.specs.Members.{IsIn-before, IsIn-after, IsIn-either}
use Rattle.picture_core.proofs.PicturesFound.{kept_at-same, kept_at-other, kept_at-above, kept_at-live, live}
use Rattle.picture_core.proofs.PicturesFound.{IsRising-filter, same_entries}
use Rattle.picture_core.proofs.PicturesShown.{IsRising-picture, kept_at-picture, shown_at-push}

-- the newer of two entries of one key has that key
newer-key : (kept e : Entry) → e.key ≡ kept.key → (newer_of kept e).key ≡ kept.key
newer-key kept e same = elim (cases_Bool (nat_lt kept.version e.version)) [
  | inl t ↦ rw t same
  | inr f ↦ rw f refl
]

-- the keys of kept entries with a new one
keys-put : (e : Entry) (kept : List Entry) → keys (put e kept) ≡ with_key e.key (keys kept)
keys-put e [] = refl
keys-put e (x ∷ more) = cases (key_cmp e.key x.key) refl (keys-put e more) where
  cases : (o : Ordering) → key_cmp e.key x.key ≡ o → keys (put e more) ≡ with_key e.key (keys more)
      → keys (put e (x ∷ more)) ≡ with_key e.key (keys (x ∷ more))
  cases Less is rest = rw is refl
  cases Equal is rest = rw is (ap (λ (k : Key). k ∷ keys more) (newer-key x e (equal_from_key_cmp e.key x.key is)))
  cases Greater is rest = rw is (ap (λ (ks : List Key). x.key ∷ ks) rest)

pub IsRising-put : (e : Entry) (kept : List Entry) → IsRising (keys kept) → IsRising (keys (put e kept))
IsRising-put e kept rising = subst IsRising (sym (keys-put e kept)) (IsRising-with_key e.key (keys kept) rising)

-- what a put entry changes is found at its key alone
pub kept_at-put_own :
    (e : Entry) (kept : List Entry) (k : Key) → IsRising (keys kept) → same_key k e.key ≡ true
    → kept_at k (put e kept) ≡ shown_with (kept_at k kept) (Some e)
kept_at-put_own e [] k rising own = kept_at-same k e [] own
kept_at-put_own e (x ∷ more) k rising own =
    let at_e = equal_keys k e.key own in
    by_order (λ (l : List Entry). kept_at k l ≡ shown_with (kept_at k (x ∷ more)) (Some e)) (key_cmp e.key x.key)
    (e ∷ x ∷ more) (newer_of x e ∷ more) (x ∷ put e more)
    (λ is.
    let none : kept_at k (x ∷ more) ≡ None =
    kept_at-above k (x ∷ more)
    (subst (λ (q : Key). AreAbove q (keys (x ∷ more))) (sym at_e) (is, AreAbove-lower e.key x.key (keys more) is rising.0)) in
    kept_at-same k e (x ∷ more) own ∙ ap (λ (o : Option Entry). shown_with o (Some e)) (sym none))
    (λ is.
    let at_x : e.key ≡ x.key = equal_from_key_cmp e.key x.key is in
    let here : kept_at k (x ∷ more) ≡ Some x = kept_at-same k x more (ap (same_key k) (sym at_x) ∙ own) in
    kept_at-same k (newer_of x e) more (ap (same_key k) (newer-key x e at_x ∙ sym at_x) ∙ own)
    ∙ ap (λ (o : Option Entry). shown_with o (Some e)) (sym here))
    (λ is.
    let other : same_key k x.key ≡ false =
    ap (λ (q : Key). same_key q x.key) at_e ∙ apart_above x.key e.key (below_from_above e.key x.key is) in
    kept_at-other k x (put e more) other ∙ kept_at-put_own e more k rising.1 own
    ∙ ap (λ (o : Option Entry). shown_with o (Some e)) (sym (kept_at-other k x more other)))

pub kept_at-put_other :
    (e : Entry) (kept : List Entry) (k : Key) → same_key k e.key ≡ false → kept_at k (put e kept) ≡ kept_at k kept
kept_at-put_other e [] k other = kept_at-other k e [] other
kept_at-put_other e (x ∷ more) k other =
    by_order (λ (l : List Entry). kept_at k l ≡ kept_at k (x ∷ more)) (key_cmp e.key x.key)
    (e ∷ x ∷ more) (newer_of x e ∷ more) (x ∷ put e more)
    (λ is. kept_at-other k e (x ∷ more) other)
    (λ is.
    let at_x : e.key ≡ x.key = equal_from_key_cmp e.key x.key is in
    kept_at-other k (newer_of x e) more (ap (same_key k) (newer-key x e at_x ∙ sym at_x) ∙ other)
    ∙ sym (kept_at-other k x more (ap (same_key k) (sym at_x) ∙ other)))
    (λ is. ap (λ (o : Option Entry). cond (same_key k x.key) (Some x) o) (kept_at-put_other e more k other))

-- a kept entry against a new one of its key, at any moment
abbrev pub LastsAgainst : Entry → Entry → Type 0
LastsAgainst e f = (f.version < e.version → f.until ≤ e.until) × (e.version ≤ f.version → e.until ≤ f.until)

shown_with-live_some :
    (m : ℕ) (f e : Entry) → LastsAgainst e f
    → cond (nat_lt m e.until) (shown_with (live m (Some f)) (Some e)) (live m (Some f)) ≡ live m (Some (newer_of f e))
shown_with-live_some m f e lasts = elim (cases_Bool (nat_lt f.version e.version)) [
  | inl newer_is ↦
      let last : f.until ≤ e.until = lasts.0 (ltb-true f.version e.version newer_is) in
      elim (cases_Bool (nat_lt m e.until)) [
        | inl lives ↦ elim (cases_Bool (nat_lt m f.until)) [
          | inl kept_lives ↦ rw kept_lives (rw newer_is (rw lives refl))
          | inr kept_over ↦ rw kept_over (rw newer_is (rw lives refl))
        ]
        | inr over ↦
            let past = ltb-false m e.until over in
            let kept_over : nat_lt m f.until ≡ false = le-ltb m f.until (omega arith) in
            rw kept_over (rw newer_is (rw over refl))
      ]
  | inr older ↦
      let last : e.until ≤ f.until = lasts.1 (ltb-false f.version e.version older) in
      elim (cases_Bool (nat_lt m e.until)) [
        | inl lives ↦
            let still = ltb-true m e.until lives in
            let kept_lives : nat_lt m f.until ≡ true = lt-ltb m f.until (omega arith) in
            rw kept_lives (rw older (rw lives (rw kept_lives refl)))
        | inr over ↦ rw older (rw over refl)
      ]
]

shown_with-live :
    (m : ℕ) (o : Option Entry) (e : Entry) → ((f : Entry) → o ≡ Some f → LastsAgainst e f)
    → cond (nat_lt m e.until) (shown_with (live m o) (Some e)) (live m o) ≡ live m (shown_with o (Some e))
shown_with-live m None e lasts = refl
shown_with-live m (Some f) e lasts = shown_with-live_some m f e (lasts f refl)

-- what is found is there, under its key
pub kept_at-in : (k : Key) (entries : List Entry) (f : Entry) → kept_at k entries ≡ Some f → IsIn f entries × (f.key ≡ k)
kept_at-in k [] f is = absurd (cc)
kept_at-in k (x ∷ more) f is = elim (cases_Bool (same_key k x.key)) [
  | inl same ↦
      let here = kept_at-same k x more same in
      let equal : f ≡ x = cc in
      (inl equal, ap (λ (z : Entry). z.key) equal ∙ sym (equal_keys k x.key same))
  | inr other ↦ let rest = kept_at-in k more f (sym (kept_at-other k x more other) ∙ is) in (inr rest.0, rest.1)
]

-- what is shown at a key by all entries, by the kept ones
shown_at-store :
    (now : ℕ) (contents kept : List Entry) → IsStore now contents kept → (m : ℕ) (k : Key) → now ≤ m
    → shown_at contents m k ≡ live m (kept_at k kept)
shown_at-store now contents kept store m k late =
    sym (kept_at-picture contents m k) ∙ ap (kept_at k) (store.pictures m late) ∙ kept_at-live k m kept store.rising

shown_at-put :
    (now : ℕ) (contents kept : List Entry) (e : Entry) → IsStore now contents kept → IsMonotone contents e → (m : ℕ) (k : Key)
    → now ≤ m → shown_at (contents ++ e ∷ []) m k ≡ live m (kept_at k (put e kept))
shown_at-put now contents kept e store monotone m k late = elim (cases_Bool (same_key k e.key)) [
  | inl own ↦
      let at_e = equal_keys k e.key own in
      shown_at-push contents m k e
      ∙ ap (λ (b : Bool). cond (b && nat_lt m e.until) (shown_with (shown_at contents m k) (Some e)) (shown_at contents m k)) own
      ∙ ap (λ (o : Option Entry). cond (nat_lt m e.until) (shown_with o (Some e)) o) (shown_at-store now contents kept store m k late)
      ∙ shown_with-live m (kept_at k kept) e (λ f is.
      let there = kept_at-in k kept f is in
      let same : f.key ≡ e.key = there.1 ∙ at_e in
      let here = store.brought f there.0 in
      (monotone.newer_lasts f here same, monotone.older_ends f here same))
      ∙ ap (live m) (sym (kept_at-put_own e kept k store.rising own))
  | inr other ↦
      shown_at-push contents m k e
      ∙ ap (λ (b : Bool). cond (b && nat_lt m e.until) (shown_with (shown_at contents m k) (Some e)) (shown_at contents m k)) other
      ∙ shown_at-store now contents kept store m k late
      ∙ ap (live m) (sym (kept_at-put_other e kept k other))
]

pub picture_of_put :
    (now : ℕ) (contents kept : List Entry) (e : Entry) → IsStore now contents kept → IsMonotone contents e → (m : ℕ) → now ≤ m
    → picture (contents ++ e ∷ []) m ≡ live_entries m (put e kept)
picture_of_put now contents kept e store monotone m late =
    let rising = IsRising-put e kept store.rising in
    same_entries (picture (contents ++ e ∷ []) m) (live_entries m (put e kept)) (IsRising-picture (contents ++ e ∷ []) m)
    (IsRising-filter (λ (x : Entry). nat_lt m x.until) (put e kept) rising)
    (λ k.
    kept_at-picture (contents ++ e ∷ []) m k
    ∙ shown_at-put now contents kept e store monotone m k late
    ∙ sym (kept_at-live k m (put e kept) rising))

-- the members of the kept entries with a new one
pub IsIn-from_put : (x e : Entry) (kept : List Entry) → IsIn x (put e kept) → (x ≡ e) ⊎ IsIn x kept
IsIn-from_put x e [] here = here
IsIn-from_put x e (y ∷ more) here =
    by_order (λ (l : List Entry). IsIn x l → (x ≡ e) ⊎ IsIn x (y ∷ more)) (key_cmp e.key y.key)
    (e ∷ y ∷ more) (newer_of y e ∷ more) (y ∷ put e more)
    (λ is h. h)
    (λ is h. elim h [
      | inl same ↦ elim (cases_Bool (nat_lt y.version e.version)) [
        | inl t ↦ inl (same ∙ cond-true (nat_lt y.version e.version) e y t)
        | inr f ↦ inr (inl (same ∙ cond-false (nat_lt y.version e.version) e y f))
      ]
      | inr later ↦ inr (inr later)
    ])
    (λ is h. elim h [
      | inl same ↦ inr (inl same)
      | inr later ↦ elim (IsIn-from_put x e more later) [
        | inl same ↦ inl same
        | inr there ↦ inr (inr there)
      ]
    ])
    here

pub store_empty : (now : ℕ) → IsStore now [] []
store_empty now = record { rising = tt; brought = λ e here. here; pictures = λ m late. refl }

pub store_put :
    (now : ℕ) (contents kept : List Entry) (e : Entry) → IsStore now contents kept → IsMonotone contents e
    → IsStore now (contents ++ e ∷ []) (put e kept)
store_put now contents kept e store monotone = record {
  rising = IsRising-put e kept store.rising;
  brought = λ x here. elim (IsIn-from_put x e kept here) [
    | inl same ↦ IsIn-after x contents (e ∷ []) (inl same)
    | inr there ↦ IsIn-before x contents (e ∷ []) (store.brought x there)
  ];
  pictures = picture_of_put now contents kept e store monotone;
}

pub store_put_all :
    (now : ℕ) (contents kept more : List Entry) → IsStore now contents kept → AreMonotone contents more
    → IsStore now (contents ++ more) (put_all more kept)
store_put_all now contents kept [] store monotone =
    subst (λ (es : List Entry). IsStore now es kept) (sym (append-nil contents)) store
store_put_all now contents kept (e ∷ more) store monotone =
    subst (λ (es : List Entry). IsStore now es (put_all more (put e kept))) (append_assoc contents (e ∷ []) more)
    (store_put_all now (contents ++ e ∷ []) (put e kept) more (store_put now contents kept e store monotone.0) monotone.1)

-- entries whose life is that of their key
pub monotone_by_life :
    (life : Key → ℕ) (contents : List Entry) (e : Entry) → HaveLife life contents → HasLife life e → IsMonotone contents e
monotone_by_life life contents e all own = record {
  newer_lasts = λ f here same less.
      let ends : f.until ≡ f.version + life f.key = all f here in
      let lives : life f.key ≡ life e.key = ap life same in
      omega arith;
  older_ends = λ f here same less.
      let ends : f.until ≡ f.version + life f.key = all f here in
      let lives : life f.key ≡ life e.key = ap life same in
      omega arith;
}

pub all_monotone_by_life :
    (life : Key → ℕ) (contents more : List Entry) → HaveLife life contents → HaveLife life more → AreMonotone contents more
all_monotone_by_life life contents [] all further = tt
all_monotone_by_life life contents (e ∷ more) all further =
    let own = further e (inl refl) in (
      monotone_by_life life contents e all own,
      all_monotone_by_life life (contents ++ e ∷ []) more
          (λ x here. elim (IsIn-either x contents (e ∷ []) here) [
            | inl there ↦ all x there
            | inr last ↦ elim last [
              | inl same ↦ subst (HasLife life) (sym same) own
              | inr none ↦ absurd none
            ]
          ])
          (λ x here. further x (inr here)),
    )
