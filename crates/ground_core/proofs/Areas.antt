-- What is kept of the blocks of some numbers in an area, number by number.
use Rattle.std.proofs.Common.{◌≡◌, ℕ, suc, ◌+◌, ◌<◌, Bool, true, false, ◌||◌, nat_lt, if◌then◌else◌, List, [], ◌∷◌, ◌++◌, length, get_or, drop, map, Option, Some, None, refl, sym, ap, subst, ◌∙◌, inl, inr, arith}
use Rattle.std.specs.List.{list_any}
use Rattle.std.specs.Ordering.{is_eq}
use Rattle.std.proofs.lemmas.Bool.{cases_Bool, or_from}
use Rattle.std.proofs.lemmas.List.{map-append}
use Rattle.std.proofs.lemmas.List.Folds.{list_any-append}
use Rattle.list_members.specs.Membership.{IsIn}
use Rattle.list_members.specs.Members.{IsIn-either}
use Rattle.std.proofs.Math.Bool.{or-false}
use Rattle.std.proofs.Math.Seq.{drop-cons}
use Rattle.list_members.specs.ListMembers.{got_in, in_one, map_has}
use Rattle.std.proofs.lemmas.Option.{slice_get-get_or}
use Rattle.radar_core.specs.declared.key.BlockKey.{BlockKey}
use Rattle.radar_core.specs.Keys.{block_key_cmp}
use Rattle.picture_core.specs.Key.{Key, radar_block, text_report, same_key}
use Rattle.ground_core.specs.Piece.{Latest, while_living}
use Rattle.ground_core.specs.Putting.{is_among}
use Rattle.ground_core.specs.Rooms.{are_among}
use Rattle.ground_core.specs.Update.{block_key}
use Rattle.ground_core.specs.Told.{latest_version, latest_versions}
use Rattle.ground_core.specs.Views.{area_keys, block_keys, latest_at, latest_block}
use Rattle.ground_core.specs.declared.area.Area.{Area}
use Rattle.ground_core.specs.declared.item_keys.BlockNumbers.{BlockNumbers}
use Rattle.ground_core.specs.declared.newest.Newest.{Newest}
use Rattle.ground_core.specs.declared.newest_blocks.NewestBlocks.{NewestBlocks}
use Rattle.ground_core.proofs.ListLemmas.{list_any-map}

abbrev pub key_in_area : Area → ℕ → BlockKey
key_in_area area n = block_key area.product area.scale area.south n

pub keys_more : (area : Area) (xs : List ℕ) (n : ℕ) → area_keys area (xs ++ n ∷ []) ≡ area_keys area xs ++ key_in_area area n ∷ []
keys_more area xs n = map-append (key_in_area area) xs (n ∷ [])

pub any_more : (p : BlockKey → Bool) (area : Area) (xs : List ℕ) (n : ℕ)
    → list_any p (area_keys area (xs ++ n ∷ [])) ≡ (list_any p (area_keys area xs) || p (key_in_area area n))
any_more p area xs n =
    ap (list_any p) (keys_more area xs n) ∙ list_any-append p (area_keys area xs) (key_in_area area n ∷ [])
    ∙ ap (λ b. list_any p (area_keys area xs) || b) (or-false (p (key_in_area area n)))

-- one number more is put
either : {X : Type 0} (a b : Bool) (put first : X) → (if b then put else (if a then put else first)) ≡ (if a || b then put else first)
either true true put first = refl
either true false put first = refl
either false true put first = refl
either false false put first = refl

pub put_more : (area : Area) (xs : List ℕ) (n : ℕ) (other : BlockKey) (put first old new : Option Latest)
    → old ≡ (if are_among area xs other then put else first)
    → new ≡ (if is_eq (block_key_cmp (key_in_area area n) other) then put else old)
    → new ≡ (if are_among area (xs ++ n ∷ []) other then put else first)
put_more area xs n other put first old new e f =
    let b : Bool = is_eq (block_key_cmp (key_in_area area n) other) in
    f ∙ ap (λ o. if b then put else o) e ∙ either (are_among area xs other) b put first
    ∙ ap (λ t. if t then put else first) (sym (any_more (λ key. is_eq (block_key_cmp key other)) area xs n))

-- one number more is forgotten
living_twice : (moment : ℕ) (latest : Option Latest) → while_living moment (while_living moment latest) ≡ while_living moment latest
living_twice moment None = refl
living_twice moment (Some latest) = elim (cases_Bool (nat_lt moment latest.until)) [
  | inl t ↦ rw t (rw t refl)
  | inr f ↦ rw f refl
]

forget_either : (moment : ℕ) (a b : Bool) (first : Option Latest)
    → (if b then while_living moment (if a then while_living moment first else first) else (if a then while_living moment first else first))
    ≡ (if a || b then while_living moment first else first)
forget_either moment true true first = living_twice moment first
forget_either moment true false first = refl
forget_either moment false true first = refl
forget_either moment false false first = refl

pub forget_more : (moment : ℕ) (area : Area) (xs : List ℕ) (n : ℕ) (other : BlockKey) (first old new : Option Latest)
    → old ≡ (if are_among area xs other then while_living moment first else first)
    → new ≡ (if is_eq (block_key_cmp (key_in_area area n) other) then while_living moment old else old)
    → new ≡ (if are_among area (xs ++ n ∷ []) other then while_living moment first else first)
forget_more moment area xs n other first old new e f =
    let b : Bool = is_eq (block_key_cmp (key_in_area area n) other) in
    f ∙ ap (λ o. if b then while_living moment o else o) e ∙ forget_either moment (are_among area xs other) b first
    ∙ ap (λ t. if t then while_living moment first else first) (sym (any_more (λ key. is_eq (block_key_cmp key other)) area xs n))

-- room for one number more
pub room_more : (P : BlockKey → Type 0) (area : Area) (xs : List ℕ) (n : ℕ) → ((key : BlockKey) → IsIn key (area_keys area xs) → P key) → P (key_in_area area n)
    → (key : BlockKey) → IsIn key (area_keys area (xs ++ n ∷ [])) → P key
room_more P area xs n old new key i = elim (IsIn-either key (area_keys area xs) (key_in_area area n ∷ []) (subst (IsIn key) (keys_more area xs n) i)) [
  | inl a ↦ old key a
  | inr b ↦ subst P (sym (in_one key (key_in_area area n) b)) new
]

-- the keys of blocks among all keys
pub among_blocks : (area : Area) (numbers : List ℕ) (other : BlockKey) → is_among (map radar_block (area_keys area numbers)) (radar_block other) ≡ are_among area numbers other
among_blocks area numbers other = list_any-map (λ k. same_key k (radar_block other)) radar_block (area_keys area numbers)

none_of_text : (keys : List BlockKey) (p : Key → Bool) → ((k : BlockKey) → p (radar_block k) ≡ false) → list_any p (map radar_block keys) ≡ false
none_of_text [] p h = refl
none_of_text (k ∷ more) p h = or_from (p (radar_block k)) (list_any p (map radar_block more)) (h k) (none_of_text more p h)

-- the versions that are kept of the blocks of an area
pub versions_of_area : (newest : Newest) (area : Area) (numbers : List ℕ)
    → map (λ key. latest_version (latest_block newest.blocks key)) (area_keys area numbers)
    ≡ latest_versions (latest_at newest) (map (λ n. radar_block (key_in_area area n)) numbers)
versions_of_area newest area [] = refl
versions_of_area newest area (n ∷ more) = ap (λ l. latest_version (latest_block newest.blocks (key_in_area area n)) ∷ l) (versions_of_area newest area more)

pub key_at_place : (area : Area) (xs : List ℕ) (k : ℕ) → k < length xs → IsIn (key_in_area area (get_or xs k 0)) (area_keys area xs)
key_at_place area xs k below = map_has (key_in_area area) (get_or xs k 0) xs (got_in _ xs k (slice_get-get_or xs k 0 below))

pub behind_place : (area : Area) (xs : List ℕ) (k : ℕ) → k < length xs
    → area_keys area (drop k xs) ≡ key_in_area area (get_or xs k 0) ∷ area_keys area (drop (k + 1) xs)
behind_place area xs k below =
    let next : suc k ≡ k + 1 = omega arith in
    ap (area_keys area) (drop-cons xs k 0 below) ∙ ap (λ n. key_in_area area (get_or xs k 0) ∷ area_keys area (drop n xs)) next

-- what changes under the keys of blocks, among all keys
pub changed_blocks : (old : Newest) (after : NewestBlocks) (blocks : BlockNumbers) (f : Option Latest → Option Latest)
    → ((k : BlockKey) → latest_block after k ≡ (if are_among blocks.area blocks.numbers.items k then f (latest_block old.blocks k) else latest_block old.blocks k))
    → (other : Key) → latest_at (record { reports = old.reports; blocks = after }) other
    ≡ (if is_among (block_keys blocks) other then f (latest_at old other) else latest_at old other)
changed_blocks old after blocks f h (radar_block k) =
    h k ∙ ap (λ b. if b then f (latest_block old.blocks k) else latest_block old.blocks k) (sym (among_blocks blocks.area blocks.numbers.items k))
changed_blocks old after blocks f h (text_report k) =
    ap (λ b. if b then f (latest_at old (text_report k)) else latest_at old (text_report k))
    (sym (none_of_text (area_keys blocks.area blocks.numbers.items) (λ key. same_key key (text_report k)) (λ key. refl)))
