-- File numbers are counts: while an update is not expired, no number of its version and product has become free.
use Rattle.std.proofs.Common.{◌≡◌, ℕ, zero, suc, ◌+◌, ◌<◌, ◌≤◌, Bool, true, false, not, ◌&&◌, ◌==◌, nat_lt, cond, if◌then◌else◌, List, [], ◌∷◌, ◌++◌, length, map, filter, find, Option, Some, None, unwrap_or, refl, sym, ap, ◌∙◌, inl, inr, arith, length-append, append-nil}
use Rattle.std.specs.List.{list_any, range_with_len}
use Rattle.std.proofs.lemmas.Bool.{cases_Bool, and_parts, eqb-true, lt-ltb, le-ltb, ltb-false}
use Rattle.std.proofs.lemmas.Bool.Decides.{nat_tests}
use Rattle.std.proofs.lemmas.List.{map-append}
use Rattle.std.proofs.lemmas.List.FromFn.{map-range_with_len_more}
use Rattle.std.proofs.lemmas.List.Elements.{filter-append, filter_agree}
use Rattle.life_table.specs.LifeTable.{LifeTable, longest}
use Rattle.life_table.specs.Rules.{IsTable}
use Rattle.uplink_frame.specs.declared.station.StationId.{StationId}
use Rattle.apdu_core.specs.Apdu.{file_numbers}
use Rattle.ground_core.specs.Item.{Weather, Item, is_segmented}
use Rattle.ground_core.specs.History.{Event, items, item_of, is_kept, is_rival, has_number, free_number, number_for}
use Rattle.ground_core.specs.Broadcast.{IsHistory}
use Rattle.ground_core.specs.StandsFor.{is_filed}
use Rattle.ground_core.proofs.ListLemmas.{list_any-map}
use Rattle.ground_core.specs.Sound.{IsGiven, AcceptedIsGiven}
use Rattle.ground_core.proofs.Induction.{GoesOn, by_items}

abbrev pub filed_items : ℕ → ℕ → List Item → List Item
filed_items version product all = filter (is_filed version product) all

and_four : (a k p v : Bool) → (p ≡ true → v ≡ true → k ≡ true) → (a && k && p && v) ≡ (a && v && p)
and_four false k p v f = refl
and_four true true true true f = refl
and_four true true true false f = refl
and_four true true false true f = refl
and_four true true false false f = refl
and_four true false true true f = cc (f refl refl)
and_four true false true false f = refl
and_four true false false true f = refl
and_four true false false false f = refl

rival_is : (table : LifeTable) (moment : ℕ) (w : Weather) (o : Item) → moment < w.version + unwrap_or (longest table w.product) 0
    → is_rival table moment w o ≡ is_filed w.version w.product o
rival_is table moment w o lt =
    and_four (is_segmented o.weather) (is_kept table moment o.weather) (o.weather.product == w.product) (o.weather.version == w.version) (λ p v.
    let kept : nat_lt moment (w.version + unwrap_or (longest table w.product) 0) ≡ true = lt-ltb moment _ lt in
    ap (λ n. nat_lt moment (o.weather.version + unwrap_or (longest table n) 0)) (eqb-true _ _ p)
    ∙ ap (λ n. nat_lt moment (n + unwrap_or (longest table w.product) 0)) (eqb-true _ _ v) ∙ kept)

-- the numbers of a version and a product are 0, 1, 2 and so on
abbrev pub AreCounted : List Item → Type 0
AreCounted all = (version product : ℕ) → map (λ i. i.number) (filed_items version product all) ≡ map Some (range_with_len 0 (length (filed_items version product all)))

number_below : (n at count : ℕ) → at ≤ n → list_any (has_number n) (map Some (range_with_len at count)) ≡ nat_lt n (at + count)
number_below n at zero le = sym (le-ltb n (at + 0) (omega arith))
number_below n at (suc count) le = elim (cases_Bool (n == at)) [
  | inl t ↦ (let same : n ≡ at = eqb-true n at t in rw t (sym (lt-ltb n (at + suc count) (omega arith))))
  | inr f ↦ (
      let more : at + 1 ≤ n = grind (arith, nat_tests) in
      let e : (at + 1) + count ≡ at + suc count = omega arith in
      rw f (number_below n (at + 1) count more ∙ ap (nat_lt n) e))
]

find_count : (count at limit : ℕ) → at ≤ count
    → find (λ n. not (nat_lt n count)) (range_with_len at limit) ≡ (if nat_lt count (at + limit) then Some count else None)
find_count count at zero le = rw (le-ltb count (at + 0) (omega arith)) refl
find_count count at (suc limit) le = elim (cases_Bool (nat_lt at count)) [
  | inl t ↦ (
      let below : at < count = grind (arith, nat_tests) in
      let e : (at + 1) + limit ≡ at + suc limit = omega arith in
      rw t (find_count count (at + 1) limit (omega arith) ∙ ap (λ n. if nat_lt count n then Some count else None) e))
  | inr f ↦ (
      let above : count ≤ at = ltb-false at count f in
      let same : at ≡ count = omega arith in
      rw f (rw (lt-ltb count (at + suc limit) (omega arith)) (ap Some same)))
]

abbrev free_below : ℕ → List Item → Option ℕ
free_below limit rivals = find (λ n. not (list_any (λ other. has_number n other.number) rivals)) (range_with_len 0 limit)

find_same : (p q : ℕ → Bool) (xs : List ℕ) → ((x : ℕ) → p x ≡ q x) → find p xs ≡ find q xs
find_same p q [] f = refl
find_same p q (x ∷ xs) f = rw (f x) (ap (λ o. cond (q x) (Some x) o) (find_same p q xs f))

free_is : (limit count : ℕ) (rivals : List Item) → map (λ i. i.number) rivals ≡ map Some (range_with_len 0 count)
    → free_below limit rivals ≡ (if nat_lt count limit then Some count else None)
free_is limit count rivals e =
    let zero_more : 0 + limit ≡ limit = omega arith in
    find_same _ (λ n. not (nat_lt n count)) (range_with_len 0 limit) (λ n.
    let below : 0 + count ≡ count = omega arith in
    ap not (sym (list_any-map (has_number n) (λ (i : Item). i.number) rivals) ∙ ap (list_any (has_number n)) e
    ∙ number_below n 0 count (omega arith) ∙ ap (nat_lt n) below))
    ∙ find_count count 0 limit (omega arith) ∙ ap (λ n. if nat_lt count n then Some count else None) zero_more

free_number_is : (rivals : List Item) (limit : ℕ) → limit ≡ file_numbers → free_number rivals ≡ free_below limit rivals
unfolding free_number
free_number_is rivals limit e = ap (λ n. free_below n rivals) (sym e)

pub file_is_count : (table : LifeTable) (moment : ℕ) (before : List Item) (w : Weather) → moment < w.version + unwrap_or (longest table w.product) 0 → AreCounted before
    → number_for table moment before w
    ≡ (if nat_lt (length (filed_items w.version w.product before)) file_numbers then Some (length (filed_items w.version w.product before)) else None)
file_is_count table moment before w lt h =
    let rivals : filter (is_rival table moment w) before ≡ filed_items w.version w.product before
    = filter_agree (is_rival table moment w) (is_filed w.version w.product) (λ o. rival_is table moment w o lt) before in
    ap free_number rivals ∙ free_number_is (filed_items w.version w.product before) file_numbers refl
    ∙ free_is file_numbers (length (filed_items w.version w.product before)) (filed_items w.version w.product before) (h w.version w.product)

-- what is given is kept for as long as it may live
pub kept_long : (table : LifeTable) (before : List Item) (moment : ℕ) (w : Weather) → IsGiven table before moment w
    → moment < w.version + unwrap_or (longest table w.product) 0
kept_long table before moment w g =
    let listed = g.sound.listed in
    let longer = listed.not_longer in
    let alive = g.not_expired in
    let e : unwrap_or (longest table w.product) 0 ≡ listed.longest_life = ap (λ o. unwrap_or o 0) listed.has_row in
    omega arith

count_where : (test : Bool) (count n : ℕ) → (if test then Some count else None) ≡ Some n → Some n ≡ Some count
count_where true count n e = sym e
count_where false count n e = absurd (cc)

pub number_of_given : (table : LifeTable) (before : List Item) (moment : ℕ) (w : Weather) → IsGiven table before moment w
    → AreCounted before → is_segmented w ≡ true
    → number_for table moment before w ≡ Some (length (filed_items w.version w.product before))
number_of_given table before moment w g h s =
    let has = g.number s in
    let count : ℕ = length (filed_items w.version w.product before) in
    has.1 ∙ count_where (nat_lt count file_numbers) count has.0 (sym (file_is_count table moment before w (kept_long table before moment w g) h) ∙ has.1)

counted_push : (all : List Item) (item : Item) (version product : ℕ) → AreCounted all
    → (is_filed version product item ≡ true → item.number ≡ Some (length (filed_items version product all)))
    → map (λ i. i.number) (filed_items version product (all ++ item ∷ [])) ≡ map Some (range_with_len 0 (length (filed_items version product (all ++ item ∷ []))))
counted_push all item version product h f =
    let count : ℕ = length (filed_items version product all) in
    elim (cases_Bool (is_filed version product item)) [
      | inl t ↦ (
          let more : filed_items version product (all ++ item ∷ []) ≡ filed_items version product all ++ item ∷ []
          = filter-append (is_filed version product) all (item ∷ []) ∙ ap (λ b. filed_items version product all ++ cond b (item ∷ []) []) t in
          let size : length (filed_items version product all ++ item ∷ []) ≡ count + 1 = length-append (filed_items version product all) (item ∷ []) in
          let zero_more : 0 + count ≡ count = omega arith in
          ap (map (λ (i : Item). i.number)) more ∙ map-append (λ (i : Item). i.number) (filed_items version product all) (item ∷ [])
          ∙ ap (λ l. l ++ item.number ∷ []) (h version product) ∙ ap (λ n. map Some (range_with_len 0 count) ++ n ∷ []) (f t)
          ∙ sym (map-range_with_len_more Some 0 count count zero_more)
          ∙ ap (λ n. map Some (range_with_len 0 n)) (sym size ∙ ap length (sym more)))
      | inr g ↦ (
          let same : filed_items version product (all ++ item ∷ []) ≡ filed_items version product all
          = filter-append (is_filed version product) all (item ∷ []) ∙ ap (λ b. filed_items version product all ++ cond b (item ∷ []) []) g ∙ append-nil (filed_items version product all) in
          ap (map (λ (i : Item). i.number)) same ∙ h version product ∙ ap (λ l. map Some (range_with_len 0 (length l))) (sym same))
    ]

and_three : (a v p : Bool) → (a && v && p) ≡ true → (a ≡ true) × (v ≡ true) × (p ≡ true)
and_three a v p h =
    let both = and_parts (a && v) p h in
    let first = and_parts a v both.0 in
    (first.0, first.1, both.1)

number_is : (table : LifeTable) (station : StationId) (moment : ℕ) (before : List Item) (w : Weather) (version product count : ℕ)
    → is_segmented w ≡ true → number_for table moment before w ≡ Some count → (item_of table station moment before w).number ≡ Some count
number_is table station moment before w version product count s e = ap (λ b. if b then number_for table moment before w else None) s ∙ e

-- with each item that is given
pub counted_more : (table : LifeTable) (station : StationId) → GoesOn table station AreCounted
counted_more table station moment before w g h =
    let item : Item = item_of table station moment before w in
    λ v p. counted_push before item v p h (λ t.
    let three = and_three (is_segmented w) (w.version == v) (w.product == p) t in
    let same_v : w.version ≡ v = eqb-true w.version v three.1 in
    let same_p : w.product ≡ p = eqb-true w.product p three.2 in
    number_is table station moment before w w.version w.product _ three.0 (number_of_given table before moment w g h three.0)
    ∙ ap (λ n. Some (length (filed_items n w.product before))) same_v ∙ ap (λ n. Some (length (filed_items v n before))) same_p)

pub items-counted : AcceptedIsGiven → (table : LifeTable) (station : StationId) → IsTable table → (history : List Event) → IsHistory table station history
    → AreCounted (items table station history)
items-counted accepting table station is_table history h =
    by_items accepting table station AreCounted is_table (counted_more table station) (λ version product. refl) history h
