-- What accepted radar says is sound, given in time, and newer than all of its keys before it.
use Rattle.std.proofs.Common.{◌≡◌, ℕ, ◌<◌, ◌≤◌, ◌⊎◌, Bool, true, false, not, ◌==◌, nat_lt, nat_le, IsTrue, List, [], ◌∷◌, ◌++◌, length, map, flat_map, Option, Some, None, Ok, refl, sym, ap, subst, ◌∙◌, inl, inr, arith}
use Rattle.std.specs.Bool.{Decides}
use Rattle.std.specs.List.{AllByRecursion, All, concat, list_all}
use Rattle.std.proofs.lemmas.Bool.{and_parts, eqb-true, ltb-true, leb-true, le-leb, not-false, true≢false}
use Rattle.std.proofs.lemmas.List.Elements.{All-head, All-tail}
use Rattle.bit_fields.specs.Bits.{AreBytes}
use Rattle.fisb_time.specs.Moment.{IsMoment}
use Rattle.fisb_time.specs.TimeForm.{shows}
use Rattle.fisb_time.specs.declared.form.TimeForm.{TimeForm}
use Rattle.fisb_time.specs.declared.form.TimeForm.TheVariants.{Minute, Second, DayMinute, DaySecond}
use Rattle.life_table.specs.LifeTable.{LifeTable, RadarRow, radar_row, longest}
use Rattle.life_table.specs.Products.{is_read_product}
use Rattle.life_table.specs.Rules.{IsTable}
use Rattle.uplink_frame.specs.declared.station.StationId.{StationId}
use Rattle.radar_core.specs.declared.key.BlockKey.{BlockKey}
use Rattle.radar_core.specs.Keys.{FitsKey}
use Rattle.radar_core.specs.Cells.{blank_cells}
use Rattle.radar_core.specs.Runs.{run_record}
use Rattle.radar_core.specs.Blanks.{blank_record, key_beside}
use Rattle.radar_core.specs.Groups.{blank_groups}
use Rattle.radar_core.specs.Radar.{Block, radar_blocks, blank_blocks}
use Rattle.radar_core.specs.Laws.{RunRecordsReadBack, BlankRecordsReadBack, GroupsAreRecords, IsOneRecord}
use Rattle.list_members.specs.Tests.{none_past_test}
use Rattle.list_members.specs.Membership.{IsIn}
use Rattle.list_members.specs.Members.{IsIn-before, IsIn-after, IsIn-either}
use Rattle.list_members.specs.ListMembers.{in_map, map_has, in_one, any_in, All-members}
use Rattle.list_members.specs.Ranges.{all_in}
use Rattle.list_members.specs.Finding.{find-passes}
use Rattle.segment_core.specs.Cutting.{TextsHaveFewParts}
use Rattle.picture_core.specs.Key.{Key, radar_block, same_key}
use Rattle.picture_core.specs.Entry.{Entry}
use Rattle.picture_core.specs.Contents.{block_entry, entries_by_blocks, payload_entries, radar_entries}
use Rattle.segment_core.specs.File as files
use Rattle.ground_core.specs.Item.{Weather, Item}
use Rattle.ground_core.specs.Update.{block, blanks, weather_of, radar_weather, block_weather, block_key, group_weather, groups_weather}
use Rattle.ground_core.specs.History.{accepted, item_of}
use Rattle.ground_core.specs.Airing.{has_key}
use Rattle.ground_core.specs.Broadcast.{IsAccepted}
use Rattle.ground_core.specs.Refusal.{bad_block, given_versions, timing, radar_refusal, is_block, are_blanks, rise, most_blanks, give_refusal}
use Rattle.ground_core.specs.Sound.{IsSound, IsGiven, AreGiven}
use Rattle.ground_core.proofs.Given.{IsAbove, IsClear, by_version, given-below}
use Rattle.ground_core.proofs.Rising.{Rises, rises, increasing, rises_behind, below_behind}

-- what the crates below promise of radar
pub record RadarLayers : Type 0 where
  pub runs : RunRecordsReadBack
  pub blanks : BlankRecordsReadBack
  pub groups : GroupsAreRecords
  pub longest_life : (table : LifeTable) (product : ℕ) (row : RadarRow) → IsTable table → radar_row table product ≡ Some row
      → (life : ℕ) × (longest table product ≡ Some life) × (row.life ≤ life)
  pub same : (a b : Key) → Decides (same_key a b) (a ≡ b)
  pub few : TextsHaveFewParts

-- a short payload is sent whole
whole_by : (n limit : ℕ) → n ≤ 131 → 131 ≤ limit → not (nat_le n limit) ≡ false
whole_by n limit le more = ap not (le-leb n limit (omega arith))

pub sent_whole : (form : TimeForm) (payload : List ℕ) → length payload ≤ 131 → files.is_segmented form payload ≡ false
sent_whole Minute payload le = whole_by (length payload) 418 le (omega arith)
sent_whole Second payload le = whole_by (length payload) 417 le (omega arith)
sent_whole DayMinute payload le = whole_by (length payload) 417 le (omega arith)
sent_whole DaySecond payload le = whole_by (length payload) 416 le (omega arith)

-- the product of a row is one of two
pub of_row : (table : LifeTable) (product : ℕ) (row : RadarRow) → IsTable table → radar_row table product ≡ Some row → (product ≡ 63) ⊎ (product ≡ 64)
of_row table product row is_table found =
    let same : row.product ≡ product = eqb-true row.product product (find-passes (λ (r : RadarRow). r.product == product) table.radars row found) in
    elim (is_table.radars product row found).product [
      | inl e ↦ inl (sym same ∙ e)
      | inr e ↦ inr (sym same ∙ e)
    ]

is_read : (product : ℕ) → (product ≡ 63) ⊎ (product ≡ 64) → IsTrue (is_read_product product)
is_read product (inl e) = subst (λ p. IsTrue (is_read_product p)) (sym e) refl
is_read product (inr e) = subst (λ p. IsTrue (is_read_product p)) (sym e) refl

radar_says : (table : LifeTable) (product version : ℕ) (payload : List ℕ) → (product ≡ 63) ⊎ (product ≡ 64)
    → payload_entries table product version payload ≡ radar_entries table product version payload
radar_says table product version payload (inl e) =
    subst (λ p. payload_entries table p version payload ≡ radar_entries table p version payload) (sym e) refl
radar_says table product version payload (inr e) =
    subst (λ p. payload_entries table p version payload ≡ radar_entries table p version payload) (sym e) refl

-- what is needed of the payload of some blocks
record Carries (product : ℕ) (blocks : List Block) (payload : List ℕ) : Type 0 where
  reads : radar_blocks product payload ≡ Ok blocks
  short : length payload ≤ 131
  bytes : AreBytes payload
  apart : (a b : Block) → IsIn a blocks → IsIn b blocks → a.0 ≡ b.0 → a ≡ b

key_back : (a b : BlockKey) → radar_block a ≡ radar_block b → a ≡ b
key_back a b e = cc

radar-sound : RadarLayers → (table : LifeTable) (version product : ℕ) (row : RadarRow) (blocks : List Block) (payload : List ℕ) → IsTable table
    → IsMoment version → radar_row table product ≡ Some row → shows row.form version ≡ true → Carries product blocks payload
    → IsSound table (radar_weather product version row blocks payload)
radar-sound layers table version product row blocks payload is_table moment_is found shown carries =
    let kind = of_row table product row is_table found in
    let longest_life = layers.longest_life table product row is_table found in
    let entry : Block → Entry = block_entry version row.life in
    let says : radar_entries table product version payload ≡ map entry blocks =
    ap (λ r. entries_by_blocks version r (radar_blocks product payload)) found ∙ ap (entries_by_blocks version (Some row)) carries.reads
    in
    record {
      product = is_read product kind;
      version = moment_is;
      shown = shown;
      listed = record { longest_life = longest_life.0; has_row = longest_life.1; not_longer = longest_life.2 };
      within = (is_table.radars product row found).within;
      bytes = carries.bytes;
      says = radar_says table product version payload kind ∙ says;
      versions = λ e h. (let from = in_map entry e blocks h in ap (λ (x : Entry). x.version) from.2);
      ends = λ e h. (let from = in_map entry e blocks h in ap (λ (x : Entry). x.until) from.2);
      apart = λ e f h k keys. (
          let a = in_map entry e blocks h in
          let b = in_map entry f blocks k in
          let same : radar_block a.0.0 ≡ radar_block b.0.0 = sym (ap (λ (x : Entry). x.key) a.2) ∙ keys ∙ ap (λ (x : Entry). x.key) b.2 in
          a.2 ∙ ap entry (carries.apart a.0 b.0 a.1 b.1 (key_back a.0.0 b.0.0 same)) ∙ sym b.2);
      few_segments =
          let short = carries.short in
          let few = layers.few row.form payload (omega arith) in
          omega arith;
    }

-- the keys of these blocks are newer than before
abbrev AreNewer : ℕ → List Item → List BlockKey → Type 0
AreNewer version before keys = (item : Item) (key : BlockKey) → IsIn item before → IsIn key keys → has_key (radar_block key) item ≡ true
    → item.weather.version < version

radar-given : RadarLayers → (table : LifeTable) (before : List Item) (moment version product : ℕ) (row : RadarRow) (kept : List (Option ℕ)) (blocks : List Block) (payload : List ℕ)
    → IsTable table → IsMoment version → radar_row table product ≡ Some row
    → IsClear moment (timing row.form version row.life) kept → Carries product blocks payload
    → AreNewer version before (map (λ b. b.0) blocks)
    → IsGiven table before moment (radar_weather product version row blocks payload)
radar-given layers table before moment version product row kept blocks payload is_table moment_is found clear carries newer =
    let entry : Block → Entry = block_entry version row.life in
    record {
      sound = radar-sound layers table version product row blocks payload is_table moment_is found clear.shown carries;
      not_ahead = clear.not_ahead;
      not_expired = clear.alive;
      number = λ s. absurd (true≢false (sym s ∙ sent_whole row.form payload carries.short));
      newer = λ item e old h has.
          let from = in_map entry e blocks h in
          newer item from.0.0 old (map_has (λ (b : Block). b.0) from.0 blocks from.1)
          (subst (λ (x : Entry). has_key x.key item ≡ true) from.2 has);
    }

-- what is not refused has a row, can be named, and is clear
record IsPassed (moment version : ℕ) (named : Bool) (kept : List (Option ℕ)) (found : Option RadarRow) : Type 0 where
  row : RadarRow
  row_is : found ≡ Some row
  is_named : named ≡ true
  clear : IsClear moment (timing row.form version row.life) kept

by_radar : (moment version : ℕ) (named : Bool) (kept : List (Option ℕ)) (found : Option RadarRow) → radar_refusal moment version named kept found ≡ None
    → IsPassed moment version named kept found
by_radar moment version named kept None e = absurd (cc)
by_radar moment version named kept (Some row) e =
    let test = none_past_test (not named) bad_block _ e in
    record {
      row = row;
      row_is = refl;
      is_named = not-false named test.0;
      clear = (by_version moment (timing row.form version row.life) kept None test.1).0;
    }

-- versions of keys that the version is above
above_keys : (version : ℕ) (before : List Item) (keys : List Key) → AllByRecursion (IsAbove version) (given_versions before keys)
    → (item : Item) (key : Key) → IsIn item before → IsIn key keys → has_key key item ≡ true → item.weather.version < version
above_keys version before [] h item key i j has = absurd j
above_keys version before (k ∷ keys) h item key i j has = elim j [
  | inl e ↦ given-below version k before h.0 item i (subst (λ x. has_key x item ≡ true) e has)
  | inr more ↦ above_keys version before keys h.1 item key i more has
]

refusal-block : (table : LifeTable) (before : List Item) (moment version : ℕ) (key : BlockKey) (intensities : List ℕ)
    → give_refusal table before moment (block version key intensities) ≡ None
    → radar_refusal moment version (is_block key) (given_versions before (radar_block key ∷ [])) (radar_row table key.product) ≡ None
unfolding give_refusal
refusal-block table before moment version key intensities e = e

pub named_block : (key : BlockKey) → is_block key ≡ true → FitsKey key
named_block key h =
    let both = and_parts (nat_le key.scale 2) (nat_lt key.number 1048576) h in
    record { scale = leb-true key.scale 2 both.0; number = ltb-true key.number 1048576 both.1 }

pub block-accepted : RadarLayers → (table : LifeTable) (station : StationId) (before : List Item) (moment version : ℕ) (key : BlockKey) (intensities : List ℕ)
    → IsTable table → IsAccepted table before (accepted moment (block version key intensities))
    → AreGiven table station moment before (weather_of table (block version key intensities))
block-accepted layers table station before moment version key intensities is_table is =
    let p = by_radar moment version (is_block key) _ (radar_row table key.product) (refusal-block table before moment version key intensities is.1) in
    let back = layers.runs key intensities (named_block key p.is_named) is.0.1 in
    let size = back.size in
    subst (λ found. AreGiven table station moment before (block_weather version key intensities found)) (sym p.row_is) (
      radar-given layers table before moment version key.product p.row (given_versions before (radar_block key ∷ [])) ((key, intensities) ∷ []) (run_record key intensities)
          is_table is.0.0 p.row_is p.clear
          (record {
            reads = back.same;
            short = size.most_is;
            bytes = back.bytes;
            apart = λ a b i j e. in_one a (key, intensities) i ∙ sym (in_one b (key, intensities) j);
          })
          (λ item k i j has. above_keys version before (radar_block key ∷ []) p.clear.newer item (radar_block k) i
          (inl (ap radar_block (in_one k key j))) has),
      tt,
    )

-- what is known of empty blocks that records can name
pub record AreNamed (scale : ℕ) (numbers : List ℕ) : Type 0 where
  pub scale_fits : scale ≤ 2
  pub some : 0 < length numbers
  pub most : length numbers ≤ 1024
  pub rises : Rises numbers
  pub low : (n : ℕ) → IsIn n numbers → n < 405000

pub named_blanks : (scale : ℕ) (numbers : List ℕ) → are_blanks scale numbers ≡ true → AreNamed scale numbers
named_blanks scale numbers h =
    let a = and_parts _ (list_all (λ n. nat_lt n 405000) numbers) h in
    let b = and_parts _ (rise numbers) a.0 in
    let c = and_parts _ (nat_le (length numbers) most_blanks) b.0 in
    let d = and_parts (nat_le scale 2) (nat_lt 0 (length numbers)) c.0 in
    record {
      scale_fits = leb-true scale 2 d.0;
      some = ltb-true 0 (length numbers) d.1;
      most = leb-true (length numbers) 1024 c.1;
      rises = rises numbers b.1;
      low = λ n i. ltb-true n 405000 (all_in (λ n. nat_lt n 405000) n numbers a.1 i);
    }

key_number : (product scale : ℕ) (south : Bool) (m n : ℕ) → block_key product scale south m ≡ block_key product scale south n → m ≡ n
key_number product scale south m n e = ap (λ (k : BlockKey). k.number) e

module _ (layers : RadarLayers) (table : LifeTable) (station : StationId) (moment version product scale : ℕ) (south : Bool) (row : RadarRow) (kept : List (Option ℕ))
    (is_table : IsTable table) (moment_is : IsMoment version) (found : radar_row table product ≡ Some row)
    (clear : IsClear moment (timing row.form version row.life) kept) (scale_fits : scale ≤ 2) where
  abbrev key : ℕ → BlockKey
  key = block_key product scale south

  abbrev blocks : ℕ → List ℕ → List Block
  blocks number further = blank_blocks (key number) (number ∷ further)

  abbrev weather : ℕ → List ℕ → Weather
  weather number further = radar_weather product version row (blocks number further) (blank_record (key number) further)

  -- a block of a group has one of its numbers
  block_in : (number : ℕ) (further : List ℕ) (b : Block) → IsIn b (blocks number further)
      → (m : ℕ) × IsIn m (number ∷ further) × (b ≡ (key m, blank_cells))
  block_in number further b i = in_map (λ n. (key_beside (key number) n, blank_cells)) b (number ∷ further) i

  carries : (number : ℕ) (further : List ℕ) → IsOneRecord (number ∷ further) → Carries product (blocks number further) (blank_record (key number) further)
  carries number further one =
      let back = layers.blanks (key number) further scale_fits one.0 one.1 in
      let size = back.size in
      record {
        reads = back.same;
        short = (let most = size.most_is in omega arith);
        bytes = back.bytes;
        apart = λ a b i j e. (
            let m = block_in number further a i in
            let n = block_in number further b j in
            let keys : key m.0 ≡ key n.0 = sym (ap (λ (x : Block). x.0) m.2) ∙ e ∙ ap (λ (x : Block). x.0) n.2 in
            m.2 ∙ ap (λ (x : ℕ). (key x, blank_cells)) (key_number product scale south m.0 n.0 keys) ∙ sym n.2);
      }

  -- no item before has one of these numbers but with an older version
  abbrev AreNewerNumbers : List Item → List ℕ → Type 0
  AreNewerNumbers before numbers = (item : Item) (n : ℕ) → IsIn item before → IsIn n numbers → has_key (radar_block (key n)) item ≡ true
      → item.weather.version < version

  -- an item of other numbers has none of these
  none_of_group : (before : List Item) (number : ℕ) (further : List ℕ) (n : ℕ)
      → has_key (radar_block (key n)) (item_of table station moment before (weather number further)) ≡ true → IsIn n (number ∷ further)
  none_of_group before number further n has =
      let entry : Block → Entry = block_entry version row.life in
      let e = any_in (λ (x : Entry). same_key (radar_block (key n)) x.key) (map entry (blocks number further)) has in
      let from = in_map entry e.0 (blocks number further) e.1 in
      let m = block_in number further from.0 from.1 in
      let keys : radar_block (key n) ≡ radar_block (key m.0) =
      (layers.same (radar_block (key n)) e.0.key).0 e.2 ∙ ap (λ (x : Entry). x.key) from.2 ∙ ap (λ (x : Block). radar_block x.0) m.2
      in
      subst (λ x. IsIn x (number ∷ further)) (sym (key_number product scale south n m.0 (key_back (key n) (key m.0) keys))) m.1

  group-given : (before : List Item) (number : ℕ) (further : List ℕ) → IsOneRecord (number ∷ further) → AreNewerNumbers before (number ∷ further)
      → IsGiven table before moment (weather number further)
  group-given before number further one newer =
      radar-given layers table before moment version product row kept (blocks number further) (blank_record (key number) further) is_table moment_is found clear
      (carries number further one)
      (λ item k i j has.
      let b = in_map (λ (x : Block). x.0) k (blocks number further) j in
      let m = block_in number further b.0 b.1 in
      let same : k ≡ key m.0 = b.2 ∙ ap (λ (x : Block). x.0) m.2 in
      newer item m.0 i m.1 (subst (λ x. has_key (radar_block x) item ≡ true) same has))

  groups-given : (before : List Item) (groups : List (List ℕ)) → All IsOneRecord groups → Rises (concat groups) → AreNewerNumbers before (concat groups)
      → AreGiven table station moment before (flat_map (group_weather version row key) groups)
  groups-given before [] ones rises newer = tt
  groups-given before ([] ∷ more) ones rises newer = absurd (All-head IsOneRecord [] more ones)
  groups-given before ((number ∷ further) ∷ more) ones rises newer =
      let group : List ℕ = number ∷ further in
      let item : Item = item_of table station moment before (weather number further) in (
        group-given before number further (All-head IsOneRecord group more ones)
            (λ old n i j. newer old n i (IsIn-before n group (concat more) j)),
        groups-given (before ++ item ∷ []) more (All-tail IsOneRecord group more ones) (rises_behind group (concat more) rises)
            (λ other n i j has. elim (IsIn-either other before (item ∷ []) i) [
              | inl old ↦ newer other n old (IsIn-after n group (concat more) j) has
              | inr last ↦ (
                  let here : IsIn n group = none_of_group before number further n (subst (λ x. has_key (radar_block (key n)) x ≡ true) (in_one other item last) has) in
                  let below : n < n = below_behind group (concat more) n n rises here j in
                  absurd (omega arith))
            ]),
      )

refusal-blanks : (table : LifeTable) (before : List Item) (moment version product scale : ℕ) (south : Bool) (numbers : List ℕ)
    → give_refusal table before moment (blanks version product scale south numbers) ≡ None
    → radar_refusal moment version (are_blanks scale numbers) (given_versions before (map (λ n. radar_block (block_key product scale south n)) numbers)) (radar_row table product) ≡ None
unfolding give_refusal
refusal-blanks table before moment version product scale south numbers e = e

pub blanks-accepted : RadarLayers → (table : LifeTable) (station : StationId) (before : List Item) (moment version product scale : ℕ) (south : Bool) (numbers : List ℕ)
    → IsTable table → IsAccepted table before (accepted moment (blanks version product scale south numbers))
    → AreGiven table station moment before (weather_of table (blanks version product scale south numbers))
blanks-accepted layers table station before moment version product scale south numbers is_table is =
    let key : ℕ → BlockKey = block_key product scale south in
    let keys : List Key = map (λ n. radar_block (key n)) numbers in
    let p = by_radar moment version (are_blanks scale numbers) (given_versions before keys) (radar_row table product)
    (refusal-blanks table before moment version product scale south numbers is.1) in
    let named = named_blanks scale numbers p.is_named in
    let grouping = layers.groups numbers (increasing numbers named.rises) (All-members (λ n. n < 405000) numbers named.low) in
    subst (λ found. AreGiven table station moment before (groups_weather version found key (blank_groups numbers))) (sym p.row_is)
    (groups-given layers table station moment version product scale south p.row (given_versions before keys) is_table is.0 p.row_is p.clear named.scale_fits before (blank_groups numbers)
    grouping.records (subst Rises (sym grouping.all) named.rises)
    (λ item n i j has. above_keys version before keys p.clear.newer item (radar_block (key n)) i
    (map_has (λ x. radar_block (key x)) n numbers (subst (IsIn n) grouping.all j)) has))
