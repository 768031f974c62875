-- The last item with a key has the greatest version of the key, and what is kept tells the first reason against an update.
use Rattle.std.proofs.Common.{◌≡◌, ℕ, ◌+◌, ◌<◌, ◌≤◌, Bool, true, false, not, ◌||◌, ◌&&◌, ◌==◌, nat_lt, nat_le, max, fold, cond, if◌then◌else◌, IsTrue, List, [], ◌∷◌, ◌++◌, length, map, filter, Option, Some, None, is_none, unwrap_or, Result, Ok, Err, refl, sym, ap, subst, ◌∙◌, inl, inr, arith, append-nil}
use Rattle.std.specs.List.{AllByRecursion}
use Rattle.std.specs.Str.{chars}
use Rattle.std.proofs.lemmas.Bool.{cases_Bool, leb-false, eqb-true}
use Rattle.std.proofs.lemmas.Bool.Decides.{nat_tests}
use Rattle.std.proofs.lemmas.List.{map-append}
use Rattle.std.proofs.lemmas.List.Sums.{fold-append}
use Rattle.std.proofs.lemmas.List.Elements.{filter-append}
use Rattle.fisb_time.specs.TimeForm.{shows}
use Rattle.dlac_text.specs.Refusal.{text_refusal}
use Rattle.life_table.specs.LifeTable.{LifeTable, RadarRow, TextRow, radar_row, text_row, greatest_of, longest, greatest_life}
use Rattle.life_table.specs.Longest.{TextsAreWithin}
use Rattle.life_table.specs.Products.{is_read_product}
use Rattle.life_table.specs.Rules.{IsTable}
use Rattle.uplink_frame.specs.declared.station.StationId.{StationId}
use Rattle.list_members.specs.Membership.{IsIn}
use Rattle.list_members.specs.Members.{IsIn-from_filter}
use Rattle.list_members.specs.ListMembers.{any_in, in_map}
use Rattle.text_reports.specs.TextKey.{TextKey, KeyFault, text_key}
use Rattle.picture_core.specs.Key.{Key, radar_block, text_report, same_key}
use Rattle.picture_core.specs.Entry.{Entry}
use Rattle.picture_core.specs.Contents.{report_entries, payload_entries, life_of, life_of_row, life_of_radar}
use Rattle.picture_core.specs.Kept.{HaveLife}
use Rattle.apdu_core.specs.Apdu.{file_numbers}
use Rattle.ground_core.specs.Item.{Weather, Item, is_segmented, end_of}
use Rattle.ground_core.specs.Update.{Update, text, block, blanks, weather_by_row, block_key}
use Rattle.ground_core.specs.History.{Event, items, item_of}
use Rattle.ground_core.specs.Airing.{has_key}
use Rattle.ground_core.specs.Refusal.{GiveRefusal, bad_block, coarse, ahead, expired, not_newer, no_file, give_refusal, age_refusal, Timing, timing, version_refusal, file_refusal, given_version, given_versions, text_fault_refusal, key_refusal, weather_refusal, radar_refusal, is_block, are_blanks}
use Rattle.ground_core.specs.Sound.{AcceptedIsGiven}
use Rattle.ground_core.specs.Broadcast.{IsHistory}
use Rattle.ground_core.specs.Piece.{Latest, IsLastOrEnded}
use Rattle.ground_core.specs.StandsFor.{latest_of, latest_of_item}
use Rattle.ground_core.specs.Told.{latest_version, latest_versions, count_refusal, weather_refusal_by, key_refusal_by, refusal_by}
use Rattle.ground_core.proofs.KeyLemmas.{KeyLaws}
use Rattle.ground_core.proofs.ListLemmas.{AllByRecursion-in}
use Rattle.ground_core.proofs.Given.{text_weather, by_row_is}
use Rattle.ground_core.proofs.Induction.{GoesOn, by_items}
use Rattle.ground_core.proofs.Serials.{latest_push}
use Rattle.ground_core.proofs.Numbers.{AreCounted, filed_items, file_is_count}

-- what the proofs of a ground rest on
pub record GroundLaws (table : LifeTable) : Type 0 where
  pub keys : KeyLaws
  pub given : AcceptedIsGiven
  pub is_table : IsTable table
  pub lives : (product version : ℕ) (payload : List ℕ) → HaveLife (life_of table) (payload_entries table product version payload)

fold-max : (bound m : ℕ) (ms : List ℕ) → m < bound → AllByRecursion (λ n. n < bound) ms → fold max m ms < bound
fold-max bound m [] lt h = lt
fold-max bound m (n ∷ ms) lt h = let below = h.0 in fold-max bound (max m n) ms (omega arith) h.1

greatest_of-push : (ns : List ℕ) (n : ℕ) → AllByRecursion (λ m. m < n) ns → greatest_of (ns ++ n ∷ []) ≡ Some n
greatest_of-push [] n h = refl
greatest_of-push (m ∷ ms) n h =
    let lt : fold max m ms < n = fold-max n m ms h.0 h.1 in
    let most : max (fold max m ms) n ≡ n = omega arith in
    ap Some (fold-append max m ms (n ∷ []) ∙ most)

-- versions of earlier items with a key
below_all : (version : ℕ) (key : Key) (all : List Item) → ((i : Item) → IsIn i all → has_key key i ≡ true → i.weather.version < version)
    → AllByRecursion (λ n. n < version) (map (λ i. i.weather.version) (filter (has_key key) all))
below_all version key all h = AllByRecursion-in (λ n. n < version) _ (λ n i.
    let from = in_map (λ (x : Item). x.weather.version) n (filter (has_key key) all) i in
    let was = IsIn-from_filter (has_key key) from.0 all from.1 in
    subst (λ m. m < version) (sym from.2) (h from.0 was.0 was.1))

greatest_push : (key : Key) (all : List Item) (item : Item)
    → (has_key key item ≡ true → (i : Item) → IsIn i all → has_key key i ≡ true → i.weather.version < item.weather.version)
    → given_version key all ≡ latest_version (latest_of all key)
    → given_version key (all ++ item ∷ []) ≡ latest_version (latest_of (all ++ item ∷ []) key)
greatest_push key all item newer before =
    let after : latest_version (latest_of (all ++ item ∷ []) key) ≡ latest_version (if has_key key item then Some (latest_of_item item) else latest_of all key)
    = ap latest_version (latest_push key all item None) in
    let parts : given_version key (all ++ item ∷ []) ≡ greatest_of (map (λ i. i.weather.version) (filter (has_key key) all ++ filter (has_key key) (item ∷ [])))
    = ap (λ is. greatest_of (map (λ (i : Item). i.weather.version) is)) (filter-append (has_key key) all (item ∷ [])) in
    elim (cases_Bool (has_key key item)) [
      | inl t ↦ (
          parts ∙ ap (λ b. greatest_of (map (λ (i : Item). i.weather.version) (filter (has_key key) all ++ cond b (item ∷ []) []))) t
          ∙ ap greatest_of (map-append (λ (i : Item). i.weather.version) (filter (has_key key) all) (item ∷ []))
          ∙ greatest_of-push (map (λ (i : Item). i.weather.version) (filter (has_key key) all)) item.weather.version (below_all item.weather.version key all (newer t))
          ∙ sym (after ∙ ap (λ b. latest_version (if b then Some (latest_of_item item) else latest_of all key)) t))
      | inr f ↦ (
          parts ∙ ap (λ b. greatest_of (map (λ (i : Item). i.weather.version) (filter (has_key key) all ++ cond b (item ∷ []) []))) f
          ∙ ap (λ is. greatest_of (map (λ (i : Item). i.weather.version) is)) (append-nil (filter (has_key key) all)) ∙ before
          ∙ sym (after ∙ ap (λ b. latest_version (if b then Some (latest_of_item item) else latest_of all key)) f))
    ]

-- a key that weather has is that of one of its entries
entry_with : KeyLaws → (key : Key) (entries : List Entry) → (x : (e : Entry) × IsIn e entries × (same_key key e.key ≡ true)) → key ≡ (x.0).key
entry_with keys key entries x = (keys.same key (x.0).key).0 x.2

abbrev AreGreatest : List Item → Type 0
AreGreatest all = (key : Key) → given_version key all ≡ latest_version (latest_of all key)

greatest_more : KeyLaws → (table : LifeTable) (station : StationId) → GoesOn table station AreGreatest
greatest_more keys table station moment before w g h key =
    greatest_push key before (item_of table station moment before w) (λ t i there has.
    let e = any_in (λ (x : Entry). same_key key x.key) w.entries t in
    g.newer i e.0 there e.1 (subst (λ k. has_key k i ≡ true) (entry_with keys key w.entries e) has))
    (h key)

pub given_version_is : (table : LifeTable) → GroundLaws table → (station : StationId) (history : List Event) → IsHistory table station history
    → (key : Key) → given_version key (items table station history) ≡ latest_version (latest_of (items table station history) key)
given_version_is table laws station history h =
    by_items laws.given table station AreGreatest laws.is_table (greatest_more laws.keys table station) (λ key. refl) history h

-- each item of one key has the life of the key
abbrev pub EndsBy : ℕ → Option Latest → Type 0
EndsBy life None = Unit {0}
EndsBy life (Some latest) = latest.until ≡ latest.version + life

abbrev HaveOneLife : LifeTable → List Item → Type 0
HaveOneLife table all = (key : Key) → EndsBy (life_of table key) (latest_of all key)

life_more : (table : LifeTable) → GroundLaws table → (station : StationId) → GoesOn table station (HaveOneLife table)
life_more table laws station moment before w g h key =
    let item : Item = item_of table station moment before w in
    subst (EndsBy (life_of table key)) (sym (latest_push key before item None)) (elim (cases_Bool (has_key key item)) [
      | inl t ↦ (
          let e = any_in (λ (x : Entry). same_key key x.key) w.entries t in
          let own : key ≡ (e.0).key = entry_with laws.keys key w.entries e in
          let here : IsIn e.0 (payload_entries table w.product w.version w.payload) = subst (IsIn e.0) (sym g.sound.says) e.1 in
          let life = laws.lives w.product w.version w.payload e.0 here in
          let ends : end_of w ≡ w.version + life_of table key =
          sym (g.sound.ends e.0 e.1) ∙ life ∙ ap (λ n. n + life_of table (e.0).key) (g.sound.versions e.0 e.1) ∙ ap (λ k. w.version + life_of table k) (sym own)
          in
          subst (λ b. EndsBy (life_of table key) (if b then Some (latest_of_item item) else latest_of before key)) (sym t) ends)
      | inr f ↦ subst (λ b. EndsBy (life_of table key) (if b then Some (latest_of_item item) else latest_of before key)) (sym f) (h key)
    ])

pub one_life : (table : LifeTable) → GroundLaws table → (station : StationId) (history : List Event) → IsHistory table station history
    → (key : Key) → EndsBy (life_of table key) (latest_of (items table station history) key)
one_life table laws station history h =
    by_items laws.given table station (HaveOneLife table) laws.is_table (life_more table laws station) (λ key. tt) history h

if_alike : (b : Bool) (x y z : Option GiveRefusal) → (b ≡ false → y ≡ z) → (if b then x else y) ≡ (if b then x else z)
if_alike true x y z f = refl
if_alike false x y z f = f refl

version_alike : (moment : ℕ) (t : Timing) (k l : List (Option ℕ)) (a b : Option GiveRefusal)
    → (moment < t.version + t.life → age_refusal t.version k a ≡ age_refusal t.version l b)
    → version_refusal moment t k a ≡ version_refusal moment t l b
version_alike moment t k l a b f =
    if_alike (not (shows t.form t.version)) (Some coarse) _ _ (λ _. if_alike (nat_lt (moment + 60) t.version) (Some ahead) _ _ (λ _.
    if_alike (nat_le (t.version + t.life) moment) (Some expired) _ _ (λ g. f (leb-false (t.version + t.life) moment g))))

above_ended : (version life : ℕ) (latest : Latest) (moment : ℕ) → latest.until ≤ moment → latest.until ≡ latest.version + life → moment < version + life
    → nat_le version latest.version ≡ false
above_ended version life latest moment le e lt =
    let more : latest.version < version = omega arith in
    grind (arith, nat_tests)

-- a version against one that was given
abbrev one_age : ℕ → Option ℕ → Option GiveRefusal → Option GiveRefusal
one_age version None later = later
one_age version (Some kept) later = if nat_le version kept then Some (not_newer kept) else later

age_cons : (version : ℕ) (kept : Option ℕ) (more : List (Option ℕ)) (later : Option GiveRefusal)
    → age_refusal version (kept ∷ more) later ≡ one_age version kept (age_refusal version more later)
age_cons version None more later = refl
age_cons version (Some kept) more later = refl

-- what has ended stands against no version that is not over too
kept_age : (moment version life : ℕ) (last kept : Option Latest) (later : Option GiveRefusal) → IsLastOrEnded moment last kept → EndsBy life last → moment < version + life
    → one_age version (latest_version kept) later ≡ one_age version (latest_version last) later
kept_age moment version life last kept later (inl e) h lt = ap (λ l. one_age version (latest_version l) later) e
kept_age moment version life None kept later (inr n) h lt = ap (λ l. one_age version (latest_version l) later) n.0
kept_age moment version life (Some latest) kept later (inr n) h lt =
    ap (λ l. one_age version (latest_version l) later) n.0
    ∙ ap (λ b. if b then Some (not_newer latest.version) else later) (sym (above_ended version life latest moment n.1 h lt))

-- what is kept, as far as it counts against an update at a moment
pub record Keeps (table : LifeTable) (before : List Item) (moment : ℕ) (latest : Key → Option Latest) (count : ℕ → ℕ → ℕ) : Type 0 where
  pub newest : (key : Key) → IsLastOrEnded moment (latest_of before key) (latest key)
  pub files : (version product : ℕ) → moment < version + greatest_life table → count version product ≡ length (filed_items version product before)
  pub one_life : (key : Key) → EndsBy (life_of table key) (latest_of before key)
  pub versions : (key : Key) → given_version key before ≡ latest_version (latest_of before key)
  pub counted : AreCounted before

-- the same for the keys of an update, which have one life
ages_alike : (table : LifeTable) (before : List Item) (moment version life : ℕ) (latest : Key → Option Latest) (count : ℕ → ℕ → ℕ) (keys : List Key) (later : Option GiveRefusal)
    → Keeps table before moment latest count → moment < version + life → AllByRecursion (λ key. life_of table key ≡ life) keys
    → age_refusal version (latest_versions latest keys) later ≡ age_refusal version (given_versions before keys) later
ages_alike table before moment version life latest count [] later k lt h = refl
ages_alike table before moment version life latest count (key ∷ more) later k lt h =
    let ends : EndsBy life (latest_of before key) = subst (λ n. EndsBy n (latest_of before key)) h.0 (k.one_life key) in
    let rest = ages_alike table before moment version life latest count more later k lt h.1 in
    age_cons version (latest_version (latest key)) (latest_versions latest more) later
    ∙ ap (one_age version (latest_version (latest key))) rest
    ∙ kept_age moment version life (latest_of before key) (latest key) (age_refusal version (given_versions before more) later) (k.newest key) ends lt
    ∙ ap (λ v. one_age version v (age_refusal version (given_versions before more) later)) (sym (k.versions key))
    ∙ sym (age_cons version (given_version key before) (given_versions before more) later)

-- a product that is read lives no longer than the greatest life
pub product_within : (table : LifeTable) (product : ℕ) → IsTrue (is_read_product product) → unwrap_or (longest table product) 0 ≤ greatest_life table
product_within table product h = elim (cases_Bool (product == 63)) [
  | inl t ↦ subst (λ p. unwrap_or (longest table p) 0 ≤ greatest_life table) (sym (eqb-true product 63 t)) (omega arith)
  | inr f ↦ elim (cases_Bool (product == 64)) [
    | inl u ↦ subst (λ p. unwrap_or (longest table p) 0 ≤ greatest_life table) (sym (eqb-true product 64 u)) (omega arith)
    | inr g ↦ elim (cases_Bool (product == 413)) [
      | inl v ↦ subst (λ p. unwrap_or (longest table p) 0 ≤ greatest_life table) (sym (eqb-true product 413 v)) (omega arith)
      | inr e ↦ (let none : IsTrue (false || false || false) = subst (λ b. IsTrue (false || false || b)) e (subst (λ b. IsTrue (false || b || (product == 413))) g (subst (λ b. IsTrue (b || (product == 64) || (product == 413))) f h)) in absurd (cc))
    ]
  ]
]

none_there : (count : ℕ) → is_none (if nat_lt count file_numbers then Some count else None) ≡ not (nat_lt count file_numbers)
none_there count = elim (cases_Bool (nat_lt count file_numbers)) [
  | inl t ↦ rw t refl
  | inr f ↦ rw f refl
]

file_alike : (table : LifeTable) (before : List Item) (moment : ℕ) (w : Weather) → moment < w.version + unwrap_or (longest table w.product) 0 → AreCounted before
    → count_refusal w (length (filed_items w.version w.product before)) ≡ file_refusal table before moment w
file_alike table before moment w lt h =
    ap (λ b. if is_segmented w && b then Some no_file else None)
    (sym (none_there (length (filed_items w.version w.product before))) ∙ ap is_none (sym (file_is_count table moment before w lt h)))

row_alike : (table : LifeTable) (before : List Item) (moment version : ℕ) (chars : List ℕ) (key : TextKey) (row : TextRow) (latest : Key → Option Latest) (count : ℕ → ℕ → ℕ)
    → Keeps table before moment latest count
    → (moment < version + row.life → moment < version + unwrap_or (longest table 413) 0)
    → text_row table key.kind ≡ Some row
    → weather_refusal_by latest count moment key (text_weather key version row chars ∷ [])
    ≡ weather_refusal table before moment key (text_weather key version row chars ∷ [])
row_alike table before moment version chars key row latest count k f er =
    let w : Weather = text_weather key version row chars in
    let keys : List Key = text_report key ∷ [] in
    version_alike moment (timing row.form version row.life) (latest_versions latest keys) (given_versions before keys) (count_refusal w (count version 413)) (file_refusal table before moment w) (λ lt.
    let long = product_within table 413 refl in
    ap (λ n. age_refusal version (latest_versions latest keys) (count_refusal w n)) (k.files version 413 (omega (arith, f lt, long)))
    ∙ ap (age_refusal version (latest_versions latest keys)) (file_alike table before moment w (f lt) k.counted)
    ∙ ages_alike table before moment version row.life latest count keys (file_refusal table before moment w) k lt (ap life_of_row er, tt))

listed_alike : (table : LifeTable) (before : List Item) (moment version : ℕ) (chars : List ℕ) (key : TextKey) (row : Option TextRow) (latest : Key → Option Latest) (count : ℕ → ℕ → ℕ)
    → TextsAreWithin → Keeps table before moment latest count
    → text_key table chars ≡ Ok key → text_row table key.kind ≡ row
    → weather_refusal_by latest count moment key (weather_by_row version chars (report_entries table version chars) (text_row table key.kind))
    ≡ weather_refusal table before moment key (weather_by_row version chars (report_entries table version chars) (text_row table key.kind))
listed_alike table before moment version chars key None latest count law k ek er = rw er refl
listed_alike table before moment version chars key (Some row) latest count law k ek er =
    let l = law table key.kind row er in
    let long : unwrap_or (longest table 413) 0 ≡ l.0 = ap (λ o. unwrap_or o 0) l.1 in
    let ws = by_row_is table version chars key row ek er in
    ap (weather_refusal_by latest count moment key) ws
    ∙ row_alike table before moment version chars key row latest count k (λ lt. omega (arith, l.2, long)) er
    ∙ ap (weather_refusal table before moment key) (sym ws)

key_alike : (table : LifeTable) (before : List Item) (moment version : ℕ) (chars : List ℕ) (key : Result TextKey KeyFault) (latest : Key → Option Latest) (count : ℕ → ℕ → ℕ)
    → TextsAreWithin → Keeps table before moment latest count
    → text_key table chars ≡ key
    → key_refusal_by table latest count moment version chars key ≡ key_refusal table before moment version chars key
key_alike table before moment version chars (Err fault) latest count law k ek = refl
key_alike table before moment version chars (Ok key) latest count law k ek =
    listed_alike table before moment version chars key (text_row table key.kind) latest count law k ek refl

-- of radar, whose keys are all of its product
radar_alike : (table : LifeTable) (before : List Item) (moment version product : ℕ) (named : Bool) (row : Option RadarRow) (latest : Key → Option Latest) (count : ℕ → ℕ → ℕ) (keys : List Key)
    → Keeps table before moment latest count → radar_row table product ≡ row → AllByRecursion (λ key. life_of table key ≡ life_of_radar (radar_row table product)) keys
    → radar_refusal moment version named (latest_versions latest keys) row ≡ radar_refusal moment version named (given_versions before keys) row
radar_alike table before moment version product named None latest count keys k e own = refl
radar_alike table before moment version product named (Some row) latest count keys k e own =
    if_alike (not named) (Some bad_block) _ _ (λ _.
    version_alike moment (timing row.form version row.life) (latest_versions latest keys) (given_versions before keys) None None (λ lt.
    ages_alike table before moment version row.life latest count keys None k lt
    (subst (λ n. AllByRecursion (λ key. life_of table key ≡ n) keys) (ap life_of_radar e) own)))

numbers_own : (table : LifeTable) (product scale : ℕ) (south : Bool) (numbers : List ℕ)
    → AllByRecursion (λ key. life_of table key ≡ life_of_radar (radar_row table product)) (map (λ n. radar_block (block_key product scale south n)) numbers)
numbers_own table product scale south [] = tt
numbers_own table product scale south (n ∷ more) = (refl, numbers_own table product scale south more)

-- what is kept tells the first reason against an update
pub refusal_alike : (table : LifeTable) (before : List Item) (moment : ℕ) (update : Update) (latest : Key → Option Latest) (count : ℕ → ℕ → ℕ)
    → TextsAreWithin → Keeps table before moment latest count
    → refusal_by table latest count moment update ≡ give_refusal table before moment update
unfolding give_refusal
refusal_alike table before moment (text version text_chars) latest count law k =
    ap (text_fault_refusal (text_refusal (chars text_chars)))
    (key_alike table before moment version text_chars (text_key table text_chars) latest count law k refl)
refusal_alike table before moment (block version key intensities) latest count law k =
    radar_alike table before moment version key.product (is_block key) (radar_row table key.product) latest count (radar_block key ∷ []) k refl (refl, tt)
refusal_alike table before moment (blanks version product scale south numbers) latest count law k =
    radar_alike table before moment version product (are_blanks scale numbers) (radar_row table product) latest count
    (map (λ n. radar_block (block_key product scale south n)) numbers) k refl (numbers_own table product scale south numbers)
