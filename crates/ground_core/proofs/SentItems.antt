-- The items that are put are those of the history.
use Rattle.std.proofs.Common.{◌≡◌, ℕ, ◌+◌, ◌<◌, Bool, true, false, ◌&&◌, ◌==◌, if◌then◌else◌, cond, List, [], ◌∷◌, ◌++◌, length, map, flat_map, Option, Some, None, unwrap_or, refl, sym, ap, subst, ◌∙◌, inl, arith, length-append, append-nil}
use Rattle.std.specs.List.{range_with_len}
use Rattle.std.proofs.lemmas.Bool.{true≢false}
use Rattle.std.proofs.lemmas.List.{map-append, append_assoc}
use Rattle.std.proofs.lemmas.List.Elements.{filter-append}
use Rattle.std.proofs.lemmas.Simd.{map-map}
use Rattle.list_members.specs.Ranges.{map_same, list_any_same}
use Rattle.list_members.specs.Tests.{zero_more}
use Rattle.fisb_time.specs.declared.form.TimeForm.{TimeForm}
use Rattle.life_table.specs.LifeTable.{LifeTable, greatest_life}
use Rattle.uplink_frame.specs.declared.station.StationId.{StationId}
use Rattle.segment_core.specs.File.{parts_of}
use Rattle.segment_core.specs.File as of_file
use Rattle.picture_core.specs.Key.{Key, same_key}
use Rattle.picture_core.specs.Entry.{Entry}
use Rattle.ground_core.specs.Item.{Weather, Item, segments_of, segment_of, is_segmented, file_of}
use Rattle.ground_core.specs.History.{item_of, items_made, number_for}
use Rattle.ground_core.specs.Airing.{has_key}
use Rattle.ground_core.specs.Sound.{IsGiven, AreGiven}
use Rattle.ground_core.specs.Piece.{Piece, Latest, IsLastOrEnded, item_keys, piece_of}
use Rattle.ground_core.specs.Putting.{IsItemOf, AreItemsOf, AreItemsFrom, AreWhole, counted_with, is_among, is_counted, count_put, latest_of_sent, latest_put, pieces_at}
use Rattle.ground_core.specs.StandsFor.{latest_after, latest_of_item, is_filed}
use Rattle.ground_core.specs.Views.{keys_in, piece_at}
use Rattle.ground_core.specs.declared.item.SentItem.{SentItem}
use Rattle.ground_core.proofs.KeyLemmas.{KeyLaws, same_key_comm}
use Rattle.ground_core.proofs.ListLemmas.{list_any-map}
use Rattle.ground_core.proofs.Numbers.{AreCounted, filed_items, counted_more, kept_long, number_of_given}
use Rattle.ground_core.proofs.Versions.{product_within}

-- the piece of an item
abbrev piece_with : ℕ → List Key → ℕ → TimeForm → ℕ → ℕ → List ℕ → ℕ → Piece
piece_with serial keys product form version number payload n = record {
  serial = serial;
  keys = keys;
  file = record { product = product; form = form; version = version; number = number; payload = payload };
  number = n;
}

number_shown : (segmented : Bool) (number : Option ℕ) (count : ℕ) → (segmented ≡ true → number ≡ Some count)
    → (if segmented then count else 0) ≡ unwrap_or (if segmented then number else None) 0
number_shown true number count f = sym (ap (λ o. unwrap_or o 0) (f refl))
number_shown false number count f = refl

-- an item that is sent is this one of the history
pub record IsSent (spec : Item) (item : SentItem) : Type 0 where
  pub keys : keys_in item.keys ≡ item_keys spec
  pub latest : latest_of_sent item ≡ latest_of_item spec
  pub files_same : (version product : ℕ) → is_counted version product item ≡ is_filed version product spec
  pub pieces : pieces_at item ≡ map piece_of (segments_of spec)

abbrev pub AreSent : List Item → List SentItem → Type 0
AreSent [] [] = Unit {0}
AreSent [] (item ∷ items) = ⊥
AreSent (spec ∷ specs) [] = ⊥
AreSent (spec ∷ specs) (item ∷ items) = IsSent spec item × AreSent specs items

abbrev latest_of_parts : ℕ → ℕ → ℕ → Latest
latest_of_parts version serial until = record { version = version; serial = serial; until = until }

is_sent : (table : LifeTable) (station : StationId) (moment : ℕ) (before : List Item) (w : Weather) (serial count : ℕ) (item : SentItem)
    → IsGiven table before moment w → AreCounted before → serial ≡ length before
    → count ≡ length (filed_items w.version w.product before)
    → IsItemOf w serial count item → IsSent (item_of table station moment before w) item
is_sent table station moment before w serial count item g h s e i =
    let spec : Item = item_of table station moment before w in
    let own : item.serial ≡ length before = i.serial_is ∙ s in
    let segmented : of_file.is_segmented item.form item.payload ≡ is_segmented w
    = ap (λ f. of_file.is_segmented f item.payload) i.form ∙ ap (of_file.is_segmented w.form) i.payload in
    let number : item.file ≡ unwrap_or spec.number 0
    = i.file ∙ ap (λ n. if is_segmented w then n else 0) e
    ∙ number_shown (is_segmented w) (number_for table moment before w) (length (filed_items w.version w.product before))
    (number_of_given table before moment w g h) in
    let one : (n : ℕ) → piece_at item n ≡ piece_of (segment_of spec n) = λ (n : ℕ).
    ap (λ x. piece_with x (keys_in item.keys) item.product item.form item.version item.file item.payload n) own
    ∙ ap (λ x. piece_with (length before) x item.product item.form item.version item.file item.payload n) i.keys
    ∙ ap (λ x. piece_with (length before) (item_keys spec) x item.form item.version item.file item.payload n) i.product
    ∙ ap (λ x. piece_with (length before) (item_keys spec) w.product x item.version item.file item.payload n) i.form
    ∙ ap (λ x. piece_with (length before) (item_keys spec) w.product w.form x item.file item.payload n) i.version_is
    ∙ ap (λ x. piece_with (length before) (item_keys spec) w.product w.form w.version x item.payload n) number
    ∙ ap (λ x. piece_with (length before) (item_keys spec) w.product w.form w.version (unwrap_or spec.number 0) x n) i.payload in
    let size : item.count ≡ length (parts_of (file_of spec))
    = item.counted ∙ ap (λ f. length (of_file.parts f item.payload)) i.form ∙ ap (λ b. length (of_file.parts w.form b)) i.payload in
    record {
      keys = i.keys;
      latest = ap (λ x. latest_of_parts x item.serial item.until) i.version_is
          ∙ ap (λ x. latest_of_parts w.version x item.until) own
          ∙ ap (λ x. latest_of_parts w.version (length before) x) i.until;
      files_same = λ v p. ap (λ b. b && (item.version == v) && (item.product == p)) segmented
          ∙ ap (λ n. is_segmented w && (n == v) && (item.product == p)) i.version_is
          ∙ ap (λ n. is_segmented w && (w.version == v) && (n == p)) i.product;
      pieces = map_same (piece_at item) (λ n. piece_of (segment_of spec n)) (range_with_len 1 item.count) (λ n there. one n)
          ∙ ap (λ n. map (λ m. piece_of (segment_of spec m)) (range_with_len 1 n)) size
          ∙ sym (map-map piece_of (segment_of spec) (range_with_len 1 (length (parts_of (file_of spec)))));
    }

one_more : (b : Bool) (xs : List Item) (item : Item) → length (xs ++ cond b (item ∷ []) []) ≡ length xs + (if b then 1 else 0)
one_more true xs item = length-append xs (item ∷ [])
one_more false xs item = ap length (append-nil xs) ∙ zero_more (length xs)

pub filed_more : (version product : ℕ) (all : List Item) (item : Item)
    → length (filed_items version product (all ++ item ∷ [])) ≡ length (filed_items version product all) + (if is_filed version product item then 1 else 0)
filed_more version product all item =
    ap length (filter-append (is_filed version product) all (item ∷ [])) ∙ one_more (is_filed version product item) (filed_items version product all) item

abbrev Counts : LifeTable → ℕ → List Item → (ℕ → ℕ → ℕ) → Type 0
Counts table moment before count = (version product : ℕ) → moment < version + greatest_life table → count version product ≡ length (filed_items version product before)

within : (table : LifeTable) (before : List Item) (moment : ℕ) (w : Weather) → IsGiven table before moment w → moment < w.version + greatest_life table
within table before moment w g =
    let long = kept_long table before moment w g in
    let most = product_within table w.product g.sound.product in
    omega arith

pub are_sent : (table : LifeTable) (station : StationId) (moment : ℕ) (before : List Item) (ws : List Weather) (items : List SentItem) (serial : ℕ) (count : ℕ → ℕ → ℕ)
    → AreGiven table station moment before ws → AreCounted before → serial ≡ length before → Counts table moment before count
    → AreItemsOf count serial ws items → AreSent (items_made table station moment before ws) items
are_sent table station moment before [] [] serial count g h s e i = tt
are_sent table station moment before [] (item ∷ items) serial count g h s e i = absurd i
are_sent table station moment before (w ∷ ws) [] serial count g h s e i = absurd i
are_sent table station moment before (w ∷ ws) (item ∷ items) serial count g h s e i =
    let spec : Item = item_of table station moment before w in
    let size : length (before ++ spec ∷ []) ≡ length before + 1 = length-append before (spec ∷ []) in (
      is_sent table station moment before w serial (count w.version w.product) item g.0 h s (e w.version w.product (within table before moment w g.0)) i.0,
      are_sent table station moment (before ++ spec ∷ []) ws items (serial + 1) (counted_with w count) g.1 (counted_more table station moment before w g.0 h)
          (ap (λ n. n + 1) s ∙ sym size)
          (λ v p lt. ap (λ n. n + (if is_filed v p spec then 1 else 0)) (e v p lt) ∙ sym (filed_more v p before spec)) i.1,
    )

-- what items that are sent change, by those of the history
among_same : KeyLaws → (key : Key) (spec : Item) (item : SentItem) → IsSent spec item → is_among (keys_in item.keys) key ≡ has_key key spec
among_same laws key spec item s =
    ap (λ keys. is_among keys key) s.keys
    ∙ list_any-map (λ k. same_key k key) (λ (e : Entry). e.key) spec.weather.entries
    ∙ list_any_same (λ (e : Entry). same_key e.key key) (λ e. same_key key e.key) spec.weather.entries (λ e i. same_key_comm laws e.key key)

pub latest_same : KeyLaws → (key : Key) (specs : List Item) (items : List SentItem) (before : Option Latest) → AreSent specs items
    → latest_put key items before ≡ latest_after key specs before
latest_same laws key [] [] before s = refl
latest_same laws key [] (item ∷ items) before s = absurd s
latest_same laws key (spec ∷ specs) [] before s = absurd s
latest_same laws key (spec ∷ specs) (item ∷ items) before s =
    ap (λ b. latest_put key items (if b then Some (latest_of_sent item) else before)) (among_same laws key spec item s.0)
    ∙ ap (λ l. latest_put key items (if has_key key spec then Some l else before)) s.0.latest
    ∙ latest_same laws key specs items (if has_key key spec then Some (latest_of_item spec) else before) s.1

given_kept : (b : Bool) (moment : ℕ) (latest : Latest) (last kept : Option Latest) → IsLastOrEnded moment last kept
    → IsLastOrEnded moment (if b then Some latest else last) (if b then Some latest else kept)
given_kept true moment latest last kept h = inl refl
given_kept false moment latest last kept h = h

pub after_kept : (key : Key) (moment : ℕ) (specs : List Item) (last kept : Option Latest) → IsLastOrEnded moment last kept
    → IsLastOrEnded moment (latest_after key specs last) (latest_after key specs kept)
after_kept key moment [] last kept h = h
after_kept key moment (spec ∷ specs) last kept h =
    after_kept key moment specs _ _ (given_kept (has_key key spec) moment (latest_of_item spec) last kept h)

pub count_same : (version product : ℕ) (all specs : List Item) (items : List SentItem) (before : ℕ) → AreSent specs items
    → before ≡ length (filed_items version product all) → count_put version product items before ≡ length (filed_items version product (all ++ specs))
count_same version product all [] [] before s e = e ∙ ap (λ is. length (filed_items version product is)) (sym (append-nil all))
count_same version product all [] (item ∷ items) before s e = absurd s
count_same version product all (spec ∷ specs) [] before s e = absurd s
count_same version product all (spec ∷ specs) (item ∷ items) before s e =
    count_same version product (all ++ spec ∷ []) specs items (before + (if is_counted version product item then 1 else 0)) s.1
    (ap (λ n. n + (if is_counted version product item then 1 else 0)) e
    ∙ ap (λ b. length (filed_items version product all) + (if b then 1 else 0)) (s.0.files_same version product)
    ∙ sym (filed_more version product all spec))
    ∙ ap (λ is. length (filed_items version product is)) (append_assoc all (spec ∷ []) specs)

pub pieces_same : (specs : List Item) (items : List SentItem) → AreSent specs items → flat_map pieces_at items ≡ map piece_of (flat_map segments_of specs)
pieces_same [] [] s = refl
pieces_same [] (item ∷ items) s = absurd s
pieces_same (spec ∷ specs) [] s = absurd s
pieces_same (spec ∷ specs) (item ∷ items) s =
    ap (λ l. l ++ flat_map pieces_at items) s.0.pieces ∙ ap (λ l. map piece_of (segments_of spec) ++ l) (pieces_same specs items s.1)
    ∙ sym (map-append piece_of (segments_of spec) (flat_map segments_of specs))

pub length_same : (specs : List Item) (items : List SentItem) → AreSent specs items → length items ≡ length specs
length_same [] [] s = refl
length_same [] (item ∷ items) s = absurd s
length_same (spec ∷ specs) [] s = absurd s
length_same (spec ∷ specs) (item ∷ items) s = (let rest = length_same specs items s.1 in omega arith)

-- what is sent whole needs no count
no_count : (b : Bool) (count other : ℕ) → b ≡ false → (if b then count else 0) ≡ (if b then other else 0)
no_count true count other e = absurd (cc)
no_count false count other e = refl

pub whole_items : (count : ℕ → ℕ → ℕ) (serial : ℕ) (ws : List Weather) (items : List SentItem) → AreWhole items
    → AreItemsFrom serial ws items → AreItemsOf count serial ws items
whole_items count serial [] [] h i = tt
whole_items count serial [] (item ∷ items) h i = absurd i
whole_items count serial (w ∷ ws) [] h i = absurd i
whole_items count serial (w ∷ ws) (item ∷ items) h i =
    let a = i.0 in
    let whole : is_segmented w ≡ false = ap (of_file.is_segmented w.form) (sym a.payload) ∙ ap (λ f. of_file.is_segmented f item.payload) (sym a.form) ∙ h.0.whole in (
      record {
        serial_is = a.serial_is;
        keys = a.keys;
        version_is = a.version_is;
        until = a.until;
        product = a.product;
        form = a.form;
        payload = a.payload;
        few = λ t. absurd (true≢false (sym t ∙ whole));
        file = a.file ∙ no_count (is_segmented w) 0 (count w.version w.product) whole;
      },
      whole_items (counted_with w count) (serial + 1) ws items h.1 i.1,
    )

-- more items behind
pub items_behind : (serial : ℕ) (ws more : List Weather) (items further : List SentItem) → AreItemsFrom serial ws items
    → AreItemsFrom (serial + length items) more further → AreItemsFrom serial (ws ++ more) (items ++ further)
items_behind serial [] more [] further i j = let none : serial + 0 ≡ serial = omega arith in subst (λ n. AreItemsFrom n more further) none j
items_behind serial [] more (item ∷ items) further i j = absurd i
items_behind serial (w ∷ ws) more [] further i j = absurd i
items_behind serial (w ∷ ws) more (item ∷ items) further i j =
    let e : serial + length (item ∷ items) ≡ (serial + 1) + length items = omega arith in
    (i.0, items_behind (serial + 1) ws more items further i.1 (subst (λ n. AreItemsFrom n more further) e j))

-- no item that is sent whole is counted
not_counted : (b v p : Bool) → b ≡ false → (b && v && p) ≡ false
not_counted true v p e = absurd (cc)
not_counted false v p e = refl

pub whole_counts : (version product : ℕ) (items : List SentItem) (before : ℕ) → AreWhole items → before ≡ count_put version product items before
whole_counts version product [] before h = refl
whole_counts version product (item ∷ items) before h =
    let none : is_counted version product item ≡ false =
    not_counted (of_file.is_segmented item.form item.payload) (item.version == version) (item.product == product) h.0.whole
    in
    let same : before + (if is_counted version product item then 1 else 0) ≡ before = ap (λ b. before + (if b then 1 else 0)) none ∙ sym (zero_more before) in
    whole_counts version product items before h.1 ∙ ap (count_put version product items) (sym same)
