-- The items of a history: each is of sound weather, and told by its serial, by one of its keys and its version, and by its file number.
use Rattle.std.proofs.Common.{◌≡◌, ℕ, ◌+◌, ◌<◌, ◌⊎◌, true, false, not, ◌&&◌, ◌==◌, List, [], ◌∷◌, ◌++◌, length, filter, Some, None, unwrap_or, refl, sym, ap, subst, ◌∙◌, inl, inr, arith}
use Rattle.std.specs.Bool.{Decides}
use Rattle.std.specs.List.{list_any}
use Rattle.std.proofs.lemmas.Bool.{cond-true, and_from, lt-ltb, eq-eqb, not-true}
use Rattle.std.proofs.lemmas.List.{length-append}
use Rattle.life_table.specs.LifeTable.{LifeTable, longest}
use Rattle.uplink_frame.specs.declared.station.StationId.{StationId}
use Rattle.list_members.specs.Membership.{IsIn}
use Rattle.list_members.specs.FirstInRange.{first_from}
use Rattle.list_members.specs.Members.{IsIn-filter, IsIn-either}
use Rattle.list_members.specs.ListMembers.{in_any, any_in, in_one}
use Rattle.picture_core.specs.Key.{Key, same_key}
use Rattle.picture_core.specs.Entry.{Entry}
use Rattle.apdu_core.specs.Apdu.{file_numbers}
use Rattle.ground_core.specs.Item.{Weather, Item, is_segmented, end_of}
use Rattle.ground_core.specs.History.{is_kept, is_rival, has_number, free_number, number_for, item_of}
use Rattle.ground_core.specs.Airing.{has_key}
use Rattle.ground_core.specs.Sound.{IsSound, IsGiven, AcceptedIsGiven, AreItems, HistoriesHaveItems}
use Rattle.ground_core.proofs.Induction.{by_items}

abbrev pub KeysAreTold : Type 0
KeysAreTold = (a b : Key) → Decides (same_key a b) (a ≡ b)

pub free_is : (rivals : List Item) (n : ℕ) → free_number rivals ≡ Some n
    → (list_any (λ other. has_number n other.number) rivals ≡ false) × (n < file_numbers)
unfolding free_number
free_is rivals n e =
    let is = first_from (λ k. not (list_any (λ other. has_number k other.number) rivals)) 0 file_numbers n e in
    (not-true (list_any (λ other. has_number n other.number) rivals) is.passes, is.high)

-- the items so far, with serials below their number
record AreSo (table : LifeTable) (station : StationId) (all : List Item) : Type 0 where
  pub are : AreItems table station all
  pub below : (i : Item) → IsIn i all → i.serial < length all

none-yet : (table : LifeTable) (station : StationId) → AreSo table station []
none-yet table station = record {
  are = record {
    of_station = λ i h. absurd h;
    sound = λ i h. absurd h;
    serials = λ i j h k e. absurd h;
    keys = λ i j e h k in_e has v. absurd h;
    numbered = λ i h s. absurd h;
    files = λ i j h k s t p v n. absurd h;
  };
  below = λ i h. absurd h;
}

-- an item of the same product and version is kept while weather of it is given
kept-rival : (table : LifeTable) (moment : ℕ) (w : Weather) (j : Item) → IsSound table w → moment < end_of w → is_segmented j.weather ≡ true
    → w.product ≡ j.weather.product → w.version ≡ j.weather.version → is_rival table moment w j ≡ true
kept-rival table moment w j sound live segmented product version =
    let listed = sound.listed in
    let longer = listed.not_longer in
    let life : unwrap_or (longest table j.weather.product) 0 ≡ listed.longest_life =
    ap (λ p. unwrap_or (longest table p) 0) (sym product) ∙ ap (λ o. unwrap_or o 0) listed.has_row in
    let before : moment < j.weather.version + unwrap_or (longest table j.weather.product) 0 =
    subst (λ n. moment < j.weather.version + n) (sym life) (omega arith) in
    and_from (is_segmented j.weather && is_kept table moment j.weather && (j.weather.product == w.product)) (j.weather.version == w.version)
    (and_from (is_segmented j.weather && is_kept table moment j.weather) (j.weather.product == w.product)
    (and_from (is_segmented j.weather) (is_kept table moment j.weather) segmented (lt-ltb moment _ before))
    (eq-eqb j.weather.product w.product (sym product)))
    (eq-eqb j.weather.version w.version (sym version))

-- no rival has the number of a new item
no_rival : (table : LifeTable) (moment n : ℕ) (before : List Item) (w : Weather) (j : Item) → number_for table moment before w ≡ Some n
    → IsIn j before → is_rival table moment w j ≡ true → j.number ≡ Some n → ⊥
no_rival table moment n before w j number h rival same =
    let rivals = filter (is_rival table moment w) before in
    let has : has_number n j.number ≡ true = subst (λ o. has_number n o ≡ true) (sym same) (eq-eqb n n refl) in
    let found = in_any (λ (other : Item). has_number n other.number) j rivals (IsIn-filter (is_rival table moment w) j before h rival) has in
    let none = (free_is rivals n number).0 in
    absurd (cc)

module _ (same : KeysAreTold) (table : LifeTable) (station : StationId) (moment : ℕ) (before : List Item) (w : Weather)
    (given : IsGiven table before moment w) (so : AreSo table station before) where
  abbrev new : Item
  new = item_of table station moment before w

  -- a member of the longer list is an old item, or the new one
  either : (i : Item) → IsIn i (before ++ new ∷ []) → IsIn i before ⊎ (i ≡ new)
  either i h = elim (IsIn-either i before (new ∷ []) h) [
    | inl old ↦ inl old
    | inr last ↦ inr (in_one i new last)
  ]

  -- an old item has another serial, no key at the version, and no file of the new one
  other-serial : (i : Item) → IsIn i before → i.serial ≡ length before → ⊥
  other-serial i old e = let below = so.below i old in absurd (omega arith)

  other-key : (i : Item) (e : Entry) → IsIn i before → IsIn e w.entries → has_key e.key i ≡ true → i.weather.version ≡ w.version → ⊥
  other-key i e old in_new has versions = let newer = given.newer i e old in_new has in absurd (omega arith)

  -- an entry's own key is had by an item where the item has an entry of that key
  key-had : (i : Item) (e : Entry) (j : Item) (f : Entry) → IsIn e i.weather.entries → IsIn f j.weather.entries → same_key e.key f.key ≡ true
      → has_key f.key i ≡ true
  key-had i e j f in_i in_j keys =
      let equal : e.key ≡ f.key = (same e.key f.key).0 keys in
      in_any (λ (x : Entry). same_key f.key x.key) e i.weather.entries in_i ((same f.key e.key).1 (sym equal))

  other-file : (j : Item) → IsIn j before → is_segmented w ≡ true → is_segmented j.weather ≡ true
      → w.product ≡ j.weather.product → w.version ≡ j.weather.version → new.number ≡ j.number → ⊥
  other-file j old s t product version number =
      let found = given.number s in
      let own : new.number ≡ Some found.0 = cond-true (is_segmented w) (number_for table moment before w) None s ∙ found.1 in
      no_rival table moment found.0 before w j found.1 old
      (kept-rival table moment w j given.sound given.not_expired t product version)
      (sym number ∙ own)

  items-pushed : AreSo table station (before ++ new ∷ [])
  items-pushed = record {
    are = record {
      of_station = λ i h. elim (either i h) [ inl old ↦ (so.are).of_station i old | inr e ↦ ap (λ (x : Item). x.station) e ];
      sound = λ i h. elim (either i h) [
        | inl old ↦ (so.are).sound i old
        | inr e ↦ subst (λ (x : Item). IsSound table x.weather) (sym e) given.sound
      ];
      serials = λ i j h k e. elim (either i h) [
        | inl old_i ↦ elim (either j k) [
          | inl old_j ↦ (so.are).serials i j old_i old_j e
          | inr new_j ↦ absurd (other-serial i old_i (e ∙ ap (λ (x : Item). x.serial) new_j))
        ]
        | inr new_i ↦ elim (either j k) [
          | inl old_j ↦ absurd (other-serial j old_j (sym e ∙ ap (λ (x : Item). x.serial) new_i))
          | inr new_j ↦ new_i ∙ sym new_j
        ]
      ];
      keys = λ i j e h k in_e has versions. elim (either i h) [
        | inl old_i ↦ elim (either j k) [
          | inl old_j ↦ (so.are).keys i j e old_i old_j in_e has versions
          | inr new_j ↦
              let other = any_in (λ (x : Entry). same_key e.key x.key) j.weather.entries has in
              let in_w : IsIn other.0 w.entries = subst (λ (x : Item). IsIn other.0 x.weather.entries) new_j other.1 in
              absurd (other-key i other.0 old_i in_w (key-had i e j other.0 in_e other.1 other.2)
              (versions ∙ ap (λ (x : Item). x.weather.version) new_j))
        ]
        | inr new_i ↦ elim (either j k) [
          | inl old_j ↦ absurd (other-key j e old_j (subst (λ (x : Item). IsIn e x.weather.entries) new_i in_e) has
              (sym versions ∙ ap (λ (x : Item). x.weather.version) new_i))
          | inr new_j ↦ new_i ∙ sym new_j
        ]
      ];
      numbered = λ i h s. elim (either i h) [
        | inl old ↦ (so.are).numbered i old s
        | inr e ↦
            let t : is_segmented w ≡ true = subst (λ (x : Item). is_segmented x.weather ≡ true) e s in
            let found = given.number t in (
              found.0,
              ap (λ (x : Item). x.number) e ∙ cond-true (is_segmented w) (number_for table moment before w) None t ∙ found.1,
              (free_is (filter (is_rival table moment w) before) found.0 found.1).1,
            )
      ];
      files = λ i j h k s t p v n. elim (either i h) [
        | inl old_i ↦ elim (either j k) [
          | inl old_j ↦ (so.are).files i j old_i old_j s t p v n
          | inr new_j ↦ absurd (other-file i old_i (subst (λ (x : Item). is_segmented x.weather ≡ true) new_j t) s
              (sym (p ∙ ap (λ (x : Item). x.weather.product) new_j)) (sym (v ∙ ap (λ (x : Item). x.weather.version) new_j))
              (sym (n ∙ ap (λ (x : Item). x.number) new_j)))
        ]
        | inr new_i ↦ elim (either j k) [
          | inl old_j ↦ absurd (other-file j old_j (subst (λ (x : Item). is_segmented x.weather ≡ true) new_i s) t
              (sym (ap (λ (x : Item). x.weather.product) new_i) ∙ p) (sym (ap (λ (x : Item). x.weather.version) new_i) ∙ v)
              (sym (ap (λ (x : Item). x.number) new_i) ∙ n))
          | inr new_j ↦ new_i ∙ sym new_j
        ]
      ];
    };
    below = λ i h.
        let longer = length-append before (new ∷ []) in
        elim (either i h) [
          | inl old ↦ (let low = so.below i old in omega arith)
          | inr e ↦ (let own : i.serial ≡ length before = ap (λ (x : Item). x.serial) e in omega arith)
        ];
  }

pub histories-have_items : KeysAreTold → AcceptedIsGiven → HistoriesHaveItems
histories-have_items same accepting table station history is_table is =
    (by_items accepting table station (AreSo table station) is_table
    (λ moment before w given so. items-pushed same table station moment before w given so) (none-yet table station) history is).are
