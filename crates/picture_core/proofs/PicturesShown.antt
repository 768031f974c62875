-- The entry that is shown at a key: of the entries of the key that live it has the greatest version.
use Rattle.std.proofs.Common.{◌≡◌, ℕ, ◌<◌, ◌≤◌, Bool, ◌&&◌, cond, append-nil, nat_lt, ◌⊎◌, List, [], ◌∷◌, ◌++◌, filter}
use Rattle.std.proofs.Common.{Some, refl, sym, ap, subst, ◌∙◌, arith, inl, inr}
use Rattle.std.specs.List.{best_of}
use Rattle.std.proofs.lemmas.Bool.{cases_Bool, cond-true, cond-false, and_parts, and_from, ltb-true, ltb-false, lt-ltb}
use Rattle.std.proofs.lemmas.List.Elements.{filter-append}
use Rattle.std.proofs.lemmas.List.Sums.{fold-append}
use Rattle.picture_core.specs.Entry.{Entry}
use Rattle.picture_core.specs.Key.{Key, same_key}
use Rattle.list_members.specs.Membership.{IsIn}
use Rattle.picture_core.specs.Picture.{newest_of, shown_at, keys_of, picture}
use Rattle.picture_core.specs.Kept.{IsRising, kept_at, keys, newer_of}
use Rattle.picture_core.specs.Shown.{IsShown, shown_with}
use Rattle.picture_core.proofs.Keys.{same_key-Decides, equal_keys}
use Rattle.picture_core.proofs.KeysRising.{IsRising-keys_of, IsIn-keys_of}
use Rattle.list_members.specs.Members.{IsIn-filter, IsIn-from_filter}
use Rattle.picture_core.proofs.PicturesFound.{IsOwn, IsRising-given, kept_at-given}

-- the best of entries, each newer_of one taken
abbrev pub best : Entry → List Entry → Entry
best first more = best_of (λ a b. nat_lt b.version a.version) first more

newer-either : (a b : Entry) → (newer_of a b ≡ a) ⊎ (newer_of a b ≡ b)
newer-either a b = elim (cases_Bool (nat_lt a.version b.version)) [
  | inl t ↦ inr (cond-true (nat_lt a.version b.version) b a t)
  | inr f ↦ inl (cond-false (nat_lt a.version b.version) b a f)
]

newer-most : (a b : Entry) → (a.version ≤ (newer_of a b).version) × (b.version ≤ (newer_of a b).version)
newer-most a b = elim (cases_Bool (nat_lt a.version b.version)) [
  | inl t ↦ rw t (let less = ltb-true a.version b.version t in (omega arith, omega arith))
  | inr f ↦ rw f (let less = ltb-false a.version b.version f in (omega arith, omega arith))
]

IsIn-best : (a : Entry) (more : List Entry) → IsIn (best a more) (a ∷ more)
IsIn-best a [] = inl refl
IsIn-best a (b ∷ more) = elim (IsIn-best (newer_of a b) more) [
  | inl same ↦ elim (newer-either a b) [
    | inl first ↦ inl (same ∙ first)
    | inr second ↦ inr (inl (same ∙ second))
  ]
  | inr later ↦ inr (inr later)
]

best-most : (f a : Entry) (more : List Entry) → IsIn f (a ∷ more) → f.version ≤ (best a more).version
best-most f a [] (inl same) = subst (λ (x : Entry). f.version ≤ x.version) same (omega arith)
best-most f a [] (inr none) = absurd none
best-most f a (b ∷ more) here =
    let rest : (newer_of a b).version ≤ (best (newer_of a b) more).version =
    best-most (newer_of a b) (newer_of a b) more (inl refl) in
    let most = newer-most a b in
    let m₀ = most.0 in
    let m₁ = most.1 in
    elim here [
      | inl same ↦ let v : f.version ≡ a.version = ap (λ (x : Entry). x.version) same in omega arith
      | inr later ↦ elim later [
        | inl same ↦ let v : f.version ≡ b.version = ap (λ (x : Entry). x.version) same in omega arith
        | inr there ↦ best-most f (newer_of a b) more (inr there)
      ]
    ]

newest-in : (entries : List Entry) (e : Entry) → newest_of entries ≡ Some e → IsIn e entries
newest-in [] e is = absurd (cc)
newest-in (a ∷ more) e is = let same : best a more ≡ e = cc in subst (λ (x : Entry). IsIn x (a ∷ more)) same (IsIn-best a more)

newest-most : (entries : List Entry) (e f : Entry) → newest_of entries ≡ Some e → IsIn f entries → f.version ≤ e.version
newest-most [] e f is here = absurd here
newest-most (a ∷ more) e f is here =
    let same : best a more ≡ e = cc in subst (λ (x : Entry). f.version ≤ x.version) same (best-most f a more here)

newest-some : (entries : List Entry) (f : Entry) → IsIn f entries → (e : Entry) × (newest_of entries ≡ Some e)
newest-some [] f here = absurd here
newest-some (a ∷ more) f here = (best a more, refl)

-- what is shown at a key
abbrev pub is_live_at : ℕ → Key → Entry → Bool
is_live_at moment key entry = same_key key entry.key && nat_lt moment entry.until

IsIn-live :
    (entries : List Entry) (m : ℕ) (k : Key) (f : Entry) → IsIn f entries → f.key ≡ k → m < f.until
    → IsIn f (filter (is_live_at m k) entries)
IsIn-live entries m k f here own lives =
    IsIn-filter (is_live_at m k) f entries here
    (and_from (same_key k f.key) (nat_lt m f.until) ((same_key-Decides k f.key).1 (sym own)) (lt-ltb m f.until lives))

pub shown_at-is : (entries : List Entry) (m : ℕ) (k : Key) (e : Entry) → shown_at entries m k ≡ Some e → IsShown entries m k e
shown_at-is entries m k e is =
    let test = is_live_at m k in
    let here = IsIn-from_filter test e entries (newest-in (filter test entries) e is) in
    let passes = and_parts (same_key k e.key) (nat_lt m e.until) here.1 in
    record {
      there = here.0;
      own = sym (equal_keys k e.key passes.0);
      lives = ltb-true m e.until passes.1;
      most = λ f there own lives. newest-most (filter test entries) e f is (IsIn-live entries m k f there own lives);
    }

pub shown_at-some :
    (entries : List Entry) (m : ℕ) (k : Key) (f : Entry) → IsIn f entries → f.key ≡ k → m < f.until
    → (e : Entry) × (shown_at entries m k ≡ Some e)
shown_at-some entries m k f here own lives =
    newest-some (filter (is_live_at m k) entries) f (IsIn-live entries m k f here own lives)

-- a picture is known by what it shows at each key
shown_at-own : (entries : List Entry) (m : ℕ) → IsOwn (shown_at entries m)
shown_at-own entries m k e is = (shown_at-is entries m k e is).own

pub IsRising-picture : (entries : List Entry) (m : ℕ) → IsRising (keys (picture entries m))
IsRising-picture entries m =
    IsRising-given (shown_at entries m) (shown_at-own entries m) (keys_of entries) (IsRising-keys_of entries)

pub kept_at-picture : (entries : List Entry) (m : ℕ) (k : Key) → kept_at k (picture entries m) ≡ shown_at entries m k
kept_at-picture entries m k =
    kept_at-given (shown_at entries m) (shown_at-own entries m) k (keys_of entries) (IsRising-keys_of entries)
    (λ e is.
    let shown = shown_at-is entries m k e is in
    subst (λ (q : Key). IsIn q (keys_of entries)) shown.own (IsIn-keys_of e entries shown.there))

-- one entry more, after those that were there
newest-push : (entries : List Entry) (e : Entry) → newest_of (entries ++ e ∷ []) ≡ shown_with (newest_of entries) (Some e)
newest-push [] e = refl
newest-push (a ∷ more) e = ap Some (fold-append newer_of a more (e ∷ []))

pub shown_at-push :
    (entries : List Entry) (m : ℕ) (k : Key) (e : Entry)
    → shown_at (entries ++ e ∷ []) m k
    ≡ cond (same_key k e.key && nat_lt m e.until) (shown_with (shown_at entries m k) (Some e)) (shown_at entries m k)
shown_at-push entries m k e =
    let test = is_live_at m k in
    let split = filter-append test entries (e ∷ []) in
    elim (cases_Bool (same_key k e.key && nat_lt m e.until)) [
      | inl t ↦
          ap newest_of (split ∙ ap (λ (es : List Entry). filter test entries ++ es) (cond-true (test e) (e ∷ []) [] t))
          ∙ newest-push (filter test entries) e
          ∙ sym (cond-true (test e) (shown_with (shown_at entries m k) (Some e)) (shown_at entries m k) t)
      | inr f ↦
          ap newest_of
          (split ∙ ap (λ (es : List Entry). filter test entries ++ es) (cond-false (test e) (e ∷ []) [] f)
          ∙ append-nil (filter test entries))
          ∙ sym (cond-false (test e) (shown_with (shown_at entries m k) (Some e)) (shown_at entries m k) f)
    ]
