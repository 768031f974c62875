-- Entries that rise by their keys are known by what is found at each key.
use Rattle.std.proofs.Common.{◌≡◌, ℕ, Bool, true, false, cond, nat_lt, List, [], ◌∷◌, filter, filter_map, Option}
use Rattle.std.proofs.Common.{Some, None, refl, sym, ap, ap₂, subst, ◌∙◌, inl, inr}
use Rattle.std.specs.List.{cons_option}
use Rattle.std.specs.declared.cmp.Ordering.TheVariants.{Less}
use Rattle.std.proofs.lemmas.Bool.{cases_Bool, cond-true, cond-false}
use Rattle.picture_core.specs.Entry.{Entry}
use Rattle.picture_core.specs.Key.{Key, same_key, key_cmp}
use Rattle.list_members.specs.Membership.{IsIn}
use Rattle.picture_core.specs.Kept.{AreAbove, IsRising, kept_at, keys, live_entries}
use Rattle.picture_core.proofs.Keys.{same_key-itself, equal_keys, apart_below, apart_above, cases_key}
use Rattle.picture_core.proofs.KeysRising.{AreAbove-lower, AreAbove-at}

pub kept_at-same : (k : Key) (e : Entry) (more : List Entry) → same_key k e.key ≡ true → kept_at k (e ∷ more) ≡ Some e
kept_at-same k e more same = cond-true (same_key k e.key) (Some e) (kept_at k more) same

pub kept_at-other : (k : Key) (e : Entry) (more : List Entry) → same_key k e.key ≡ false → kept_at k (e ∷ more) ≡ kept_at k more
kept_at-other k e more other = cond-false (same_key k e.key) (Some e) (kept_at k more) other

pub kept_at-above : (k : Key) (entries : List Entry) → AreAbove k (keys entries) → kept_at k entries ≡ None
kept_at-above k [] above = refl
kept_at-above k (e ∷ more) above = kept_at-other k e more (apart_below k e.key above.0) ∙ kept_at-above k more above.1

-- two such lists with the same at each key are one
pub same_entries :
    (one other : List Entry) → IsRising (keys one) → IsRising (keys other) → ((k : Key) → kept_at k one ≡ kept_at k other)
    → one ≡ other
same_entries [] [] rising rising' same = refl
same_entries [] (y ∷ ys) rising rising' same =
    let here = kept_at-same y.key y ys (same_key-itself y.key) in
    let none = same y.key in
    absurd (cc)
same_entries (x ∷ xs) [] rising rising' same =
    let here = kept_at-same x.key x xs (same_key-itself x.key) in
    let none = same x.key in
    absurd (cc)
same_entries (x ∷ xs) (y ∷ ys) rising rising' same = elim (cases_key x.key y.key) [
  | inl below ↦
      let here = kept_at-same x.key x xs (same_key-itself x.key) in
      let none = kept_at-above x.key (y ∷ ys) (below, AreAbove-lower x.key y.key (keys ys) below rising'.0) in
      let both = same x.key in
      absurd (cc)
  | inr rest ↦ elim rest [
    | inl equal ↦
        let here = kept_at-same x.key x xs (same_key-itself x.key) in
        let there : kept_at x.key (y ∷ ys) ≡ Some y =
        kept_at-same x.key y ys (ap (same_key x.key) (sym equal) ∙ same_key-itself x.key) in
        let both = same x.key in
        let heads : x ≡ y = cc in
        ap₂ (λ (z : Entry) (zs : List Entry). z ∷ zs) heads
        (same_entries xs ys rising.1 rising'.1 (λ k. elim (cases_Bool (same_key k x.key)) [
          | inl is ↦
              let at_x = equal_keys k x.key is in
              let at_y = at_x ∙ equal in
              kept_at-above k xs (subst (λ (q : Key). AreAbove q (keys xs)) (sym at_x) rising.0)
              ∙ sym (kept_at-above k ys (subst (λ (q : Key). AreAbove q (keys ys)) (sym at_y) rising'.0))
          | inr isnt ↦
              sym (kept_at-other k x xs isnt) ∙ same k ∙ kept_at-other k y ys (ap (same_key k) (sym equal) ∙ isnt)
        ]))
    | inr above ↦
        let here = kept_at-same y.key y ys (same_key-itself y.key) in
        let none = kept_at-above y.key (x ∷ xs) (above, AreAbove-lower y.key x.key (keys xs) above rising.0) in
        let both = same y.key in
        absurd (cc)
  ]
]

-- a filter keeps them in order
AreAbove-filter :
    (p : Entry → Bool) (k : Key) (entries : List Entry) → AreAbove k (keys entries) → AreAbove k (keys (filter p entries))
AreAbove-filter p k [] above = tt
AreAbove-filter p k (e ∷ more) above = elim (cases_Bool (p e)) [
  | inl t ↦ rw t (above.0, AreAbove-filter p k more above.1)
  | inr f ↦ rw f (AreAbove-filter p k more above.1)
]

pub IsRising-filter : (p : Entry → Bool) (entries : List Entry) → IsRising (keys entries) → IsRising (keys (filter p entries))
IsRising-filter p [] rising = tt
IsRising-filter p (e ∷ more) rising = elim (cases_Bool (p e)) [
  | inl t ↦ rw t (AreAbove-filter p e.key more rising.0, IsRising-filter p more rising.1)
  | inr f ↦ rw f (IsRising-filter p more rising.1)
]

-- an entry while it lives
abbrev pub live : ℕ → Option Entry → Option Entry
live moment None = None
live moment (Some e) = cond (nat_lt moment e.until) (Some e) None

pub kept_at-live :
    (k : Key) (m : ℕ) (entries : List Entry) → IsRising (keys entries)
    → kept_at k (live_entries m entries) ≡ live m (kept_at k entries)
kept_at-live k m [] rising = refl
kept_at-live k m (e ∷ more) rising = elim (cases_Bool (same_key k e.key)) [
  | inl same ↦ elim (cases_Bool (nat_lt m e.until)) [
    | inl lives ↦ rw lives (rw same (rw lives refl))
    | inr over ↦
        rw over
        (kept_at-above k (live_entries m more)
        (subst (λ (q : Key). AreAbove q (keys (live_entries m more))) (sym (equal_keys k e.key same))
        (AreAbove-filter (λ (x : Entry). nat_lt m x.until) e.key more rising.0))
        ∙ rw same (rw over refl))
  ]
  | inr other ↦ elim (cases_Bool (nat_lt m e.until)) [
    | inl lives ↦ rw lives (rw other (kept_at-live k m more rising.1))
    | inr over ↦ rw over (rw other (kept_at-live k m more rising.1))
  ]
]

-- what a function of keys gives of some keys, each under its own key
abbrev pub IsOwn : (Key → Option Entry) → Type 0
IsOwn give = (k : Key) (e : Entry) → give k ≡ Some e → e.key ≡ k

by_given :
    (P : List Entry → Type 0) (o : Option Entry) (entries : List Entry) → (o ≡ None → P entries)
    → ((e : Entry) → o ≡ Some e → P (e ∷ entries)) → P (cons_option o entries)
by_given P None entries none some = none refl
by_given P (Some e) entries none some = some e refl

AreAbove-given :
    (give : Key → Option Entry) → IsOwn give → (k : Key) (ks : List Key) → AreAbove k ks → AreAbove k (keys (filter_map give ks))
AreAbove-given give own k [] above = tt
AreAbove-given give own k (j ∷ ks) above =
    let rest = AreAbove-given give own k ks above.1 in
    by_given (λ (l : List Entry). AreAbove k (keys l)) (give j) (filter_map give ks) (λ none. rest)
    (λ e is. (subst (λ (q : Key). key_cmp k q ≡ Less) (sym (own j e is)) above.0, rest))

pub IsRising-given :
    (give : Key → Option Entry) → IsOwn give → (ks : List Key) → IsRising ks → IsRising (keys (filter_map give ks))
IsRising-given give own [] rising = tt
IsRising-given give own (j ∷ ks) rising =
    let rest = IsRising-given give own ks rising.1 in
    by_given (λ (l : List Entry). IsRising (keys l)) (give j) (filter_map give ks) (λ none. rest)
    (λ e is. (AreAbove-given give own e.key ks (subst (λ (q : Key). AreAbove q ks) (sym (own j e is)) rising.0), rest))

kept_at-none_given :
    (give : Key → Option Entry) → IsOwn give → (k : Key) (ks : List Key) → give k ≡ None
    → kept_at k (filter_map give ks) ≡ None
kept_at-none_given give own k [] none = refl
kept_at-none_given give own k (j ∷ ks) none =
    let rest = kept_at-none_given give own k ks none in
    by_given (λ (l : List Entry). kept_at k l ≡ None) (give j) (filter_map give ks) (λ nothing. rest)
    (λ e is. elim (cases_Bool (same_key k e.key)) [
      | inl same ↦
          let at_j : k ≡ j = equal_keys k e.key same ∙ own j e is in
          let some : give k ≡ Some e = ap give at_j ∙ is in
          absurd (cc)
      | inr other ↦ kept_at-other k e (filter_map give ks) other ∙ rest
    ])

kept_at-some_given :
    (give : Key → Option Entry) → IsOwn give → (k : Key) (ks : List Key) → IsRising ks → IsIn k ks
    → kept_at k (filter_map give ks) ≡ give k
kept_at-some_given give own k [] rising here = absurd here
kept_at-some_given give own k (j ∷ ks) rising (inl same) =
    by_given (λ (l : List Entry). kept_at k l ≡ give k) (give j) (filter_map give ks)
    (λ none.
    kept_at-above k (filter_map give ks) (AreAbove-given give own k ks (subst (λ (q : Key). AreAbove q ks) (sym same) rising.0))
    ∙ sym (ap give same ∙ none))
    (λ e is.
    let at_e : e.key ≡ k = own j e is ∙ sym same in
    kept_at-same k e (filter_map give ks) (ap (same_key k) at_e ∙ same_key-itself k) ∙ sym (ap give same ∙ is))
kept_at-some_given give own k (j ∷ ks) rising (inr later) =
    let rest = kept_at-some_given give own k ks rising.1 later in
    by_given (λ (l : List Entry). kept_at k l ≡ give k) (give j) (filter_map give ks) (λ none. rest)
    (λ e is.
    kept_at-other k e (filter_map give ks)
    (ap (same_key k) (own j e is) ∙ apart_above j k (AreAbove-at j k ks rising.0 later))
    ∙ rest)

pub kept_at-given :
    (give : Key → Option Entry) → IsOwn give → (k : Key) (ks : List Key) → IsRising ks
    → ((e : Entry) → give k ≡ Some e → IsIn k ks)
    → kept_at k (filter_map give ks) ≡ give k
kept_at-given give own k ks rising within = cases (give k) refl where
  cases : (o : Option Entry) → give k ≡ o → kept_at k (filter_map give ks) ≡ give k
  cases None none = kept_at-none_given give own k ks none ∙ sym none
  cases (Some e) some = kept_at-some_given give own k ks rising (within e some)
