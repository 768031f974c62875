-- What an accepted text says is sound, given in time, and newer than all of its key before it.
use Rattle.std.proofs.Common.{◌≡◌, ℕ, ◌+◌, ◌*◌, ◌/◌, ◌<◌, ◌≤◌, Bool, true, false, not, ◌&&◌, nat_lt, nat_le, cond, max, fold, List, [], ◌∷◌, length, map, filter, flat_map, Option, Some, None, is_none, Result, Ok, Err, refl, sym, ap, subst, ◌∙◌, inl, inr, arith}
use Rattle.std.specs.List.{AllByRecursion}
use Rattle.std.specs.Bool.{Decides}
use Rattle.std.specs.Str.{chars, IsUtf8}
use Rattle.std.proofs.lemmas.Bool.{ltb-false, leb-false, not-false}
use Rattle.std.proofs.lemmas.List.{append-nil}
use Rattle.bit_fields.specs.Bits.{AreBytes}
use Rattle.fisb_time.specs.Moment.{IsMoment}
use Rattle.fisb_time.specs.TimeForm.{shows}
use Rattle.dlac_text.specs.Alphabet.{IsDlac}
use Rattle.dlac_text.specs.Payload.{text_payload}
use Rattle.dlac_text.specs.Reports.{reports_of}
use Rattle.dlac_text.specs.Refusal.{TextRefusal, IsSendable, text_refusal}
use Rattle.life_table.specs.LifeTable.{LifeTable, TextRow, text_row, longest, greatest_of}
use Rattle.life_table.specs.Rules.{IsTable}
use Rattle.text_reports.specs.TextKey.{TextKey, KeyFault, few_words, text_key}
use Rattle.list_members.specs.Tests.{none_past_test}
use Rattle.list_members.specs.Membership.{IsIn}
use Rattle.list_members.specs.Members.{IsIn-filter}
use Rattle.list_members.specs.ListMembers.{map_has, in_one}
use Rattle.segment_core.specs.Cutting.{TextsHaveFewParts, longest_text_payload}
use Rattle.picture_core.specs.Key.{Key, text_report, same_key}
use Rattle.picture_core.specs.Entry.{Entry, report}
use Rattle.picture_core.specs.Contents.{report_entries, entry_by_key, entry_by_row}
use Rattle.ground_core.specs.Item.{Weather, Item, is_segmented}
use Rattle.ground_core.specs.Update.{text, weather_of, weather_by_key, weather_by_row}
use Rattle.ground_core.specs.History.{number_for}
use Rattle.ground_core.specs.Airing.{has_key}
use Rattle.uplink_frame.specs.declared.station.StationId.{StationId}
use Rattle.ground_core.specs.History.{accepted}
use Rattle.ground_core.specs.Broadcast.{IsAccepted}
use Rattle.ground_core.specs.Refusal.{GiveRefusal, coarse, ahead, expired, not_newer, no_file, given_version, given_versions, file_refusal, age_refusal, Timing, timing, version_refusal, weather_refusal, key_refusal, text_fault_refusal, give_refusal}
use Rattle.ground_core.specs.Sound.{IsSound, IsGiven, AreGiven}

-- what the crates below promise of texts
pub record TextLayers : Type 0 where
  pub sendable : (text : List ℕ) → IsUtf8 text → text_refusal (chars text) ≡ None → IsSendable text
  pub size : (text : List ℕ) → length (text_payload text) ≡ (6 * (length text + 1) + 7) / 8
  pub bytes : (text : List ℕ) → IsDlac text → AreBytes (text_payload text)
  pub reads : (text : List ℕ) → IsDlac text → 0 < length text → reports_of (text_payload text) ≡ text ∷ []
  pub longest_life : (table : LifeTable) (word : List ℕ) (row : TextRow) → text_row table word ≡ Some row
      → (life : ℕ) × (longest table 413 ≡ Some life) × (row.life ≤ life)
  pub same : (a b : Key) → Decides (same_key a b) (a ≡ b)
  pub few : TextsHaveFewParts

-- the entry and the weather of a text
abbrev pub entry_of : TextKey → ℕ → ℕ → List ℕ → Entry
entry_of key version life chars = record { key = text_report key; version = version; until = version + life; value = report chars }

abbrev pub text_weather : TextKey → ℕ → TextRow → List ℕ → Weather
text_weather key version row chars = record {
  product = 413;
  form = row.form;
  version = version;
  life = row.life;
  entries = entry_of key version row.life chars ∷ [];
  payload = text_payload chars;
}

-- what is not refused passed each test
by_text : (cause : Option TextRefusal) (later : Option GiveRefusal) → text_fault_refusal cause later ≡ None → (cause ≡ None) × (later ≡ None)
by_text None later e = (refl, e)
by_text (Some cause) later e = absurd (cc)

by_key : (table : LifeTable) (before : List Item) (moment version : ℕ) (chars : List ℕ) (found : Result TextKey KeyFault)
    → key_refusal table before moment version chars found ≡ None
    → (key : TextKey) × (found ≡ Ok key) × (weather_refusal table before moment key (weather_by_row version chars (report_entries table version chars) (text_row table key.kind)) ≡ None)
by_key table before moment version chars (Ok key) e = (key, refl, e)
by_key table before moment version chars (Err fault) e = absurd (cc)

by_row : (table : LifeTable) (before : List Item) (moment version : ℕ) (key : TextKey) (chars : List ℕ) (entries : List Entry) (found : Option TextRow)
    → weather_refusal table before moment key (weather_by_row version chars entries found) ≡ None
    → (row : TextRow) × (found ≡ Some row) × (weather_refusal table before moment key (weather_by_row version chars entries (Some row)) ≡ None)
by_row table before moment version key chars entries (Some row) e = (row, refl, e)
by_row table before moment version key chars entries None e = absurd (cc)

abbrev pub IsAbove : ℕ → Option ℕ → Type 0
IsAbove version None = Unit {0}
IsAbove version (Some kept) = kept < version

by_age : (version : ℕ) (kept : List (Option ℕ)) (later : Option GiveRefusal) → age_refusal version kept later ≡ None → AllByRecursion (IsAbove version) kept × (later ≡ None)
by_age version [] later e = (tt, e)
by_age version (None ∷ more) later e = let rest = by_age version more later e in ((tt, rest.0), rest.1)
by_age version (Some kept ∷ more) later e =
    let split = none_past_test (nat_le version kept) (not_newer kept) (age_refusal version more later) e in
    let rest = by_age version more later split.1 in
    ((leb-false version kept split.0, rest.0), rest.1)

-- a version that nothing stands against
pub record IsClear (moment : ℕ) (t : Timing) (kept : List (Option ℕ)) : Type 0 where
  pub shown : shows t.form t.version ≡ true
  pub not_ahead : t.version ≤ moment + 60
  pub alive : moment < t.version + t.life
  pub newer : AllByRecursion (IsAbove t.version) kept

pub by_version : (moment : ℕ) (t : Timing) (kept : List (Option ℕ)) (later : Option GiveRefusal) → version_refusal moment t kept later ≡ None
    → IsClear moment t kept × (later ≡ None)
by_version moment t kept later e =
    let by_form = none_past_test (not (shows t.form t.version)) coarse _ e in
    let by_lead = none_past_test (nat_lt (moment + 60) t.version) ahead _ by_form.1 in
    let by_life = none_past_test (nat_le (t.version + t.life) moment) expired _ by_lead.1 in
    let age = by_age t.version kept later by_life.1 in (
      record {
        shown = not-false (shows t.form t.version) by_form.0;
        not_ahead = ltb-false (moment + 60) t.version by_lead.0;
        alive = leb-false (t.version + t.life) moment by_life.0;
        newer = age.0;
      },
      age.1,
    )

-- the greatest version is not below any
fold-below : (bound n : ℕ) (more : List ℕ) → fold max n more < bound → (n < bound) × ((m : ℕ) → IsIn m more → m < bound)
fold-below bound n [] below = (below, λ m h. absurd h)
fold-below bound n (k ∷ more) below =
    let rest = fold-below bound (max n k) more below in
    let here = rest.0 in
    (omega arith, λ m h. elim h [ inl e ↦ (let same : m ≡ k = e in omega arith) | inr r ↦ rest.1 m r ])

greatest-below : (bound : ℕ) (numbers : List ℕ) → IsAbove bound (greatest_of numbers) → (m : ℕ) → IsIn m numbers → m < bound
greatest-below bound [] above m h = absurd h
greatest-below bound (n ∷ more) above m h =
    let all = fold-below bound n more above in
    elim h [ inl e ↦ (let here = all.0 in let same : m ≡ n = e in omega arith) | inr r ↦ all.1 m r ]

pub given-below : (version : ℕ) (key : Key) (before : List Item) → IsAbove version (given_version key before)
    → (item : Item) → IsIn item before → has_key key item ≡ true → item.weather.version < version
given-below version key before above item h has =
    greatest-below version (map (λ item. item.weather.version) (filter (has_key key) before)) above item.weather.version
    (map_has (λ (item : Item). item.weather.version) item (filter (has_key key) before) (IsIn-filter (has_key key) item before h has))

-- weather in segments that is not refused for its file has a number
file-numbered : (segmented : Bool) (number : Option ℕ) → cond (segmented && is_none number) (Some no_file) None ≡ None → segmented ≡ true
    → (n : ℕ) × (number ≡ Some n)
file-numbered true (Some n) e s = (n, refl)
file-numbered true None e s = absurd (cc)
file-numbered false number e s = absurd (cc)

-- a text with a key is not empty
no_key_of_nothing : (table : LifeTable) → text_key table [] ≡ Err few_words
unfolding text_key
no_key_of_nothing table = refl

not_empty : (table : LifeTable) (key : TextKey) (chars : List ℕ) → text_key table chars ≡ Ok key → 0 < length chars
not_empty table key [] e = absurd (cc (no_key_of_nothing table))
not_empty table key (c ∷ more) e = omega arith

pub report_entries-key : (table : LifeTable) (version : ℕ) (chars : List ℕ) (key : TextKey) (row : TextRow)
    → text_key table chars ≡ Ok key → text_row table key.kind ≡ Some row → report_entries table version chars ≡ entry_of key version row.life chars ∷ []
report_entries-key table version chars key row key_is row_is = ap (entry_by_key table version chars) key_is ∙ ap (entry_by_row key version chars) row_is

pub by_row_is : (table : LifeTable) (version : ℕ) (chars : List ℕ) (key : TextKey) (row : TextRow) → text_key table chars ≡ Ok key → text_row table key.kind ≡ Some row
    → weather_by_row version chars (report_entries table version chars) (text_row table key.kind) ≡ text_weather key version row chars ∷ []
by_row_is table version chars key row key_is row_is =
    ap (weather_by_row version chars (report_entries table version chars)) row_is
    ∙ ap (λ entries. weather_by_row version chars entries (Some row)) (report_entries-key table version chars key row key_is row_is)

pub weather-key : (table : LifeTable) (version : ℕ) (chars : List ℕ) (key : TextKey) (row : TextRow)
    → text_key table chars ≡ Ok key → text_row table key.kind ≡ Some row → weather_of table (text version chars) ≡ text_weather key version row chars ∷ []
weather-key table version chars key row key_is row_is =
    ap (weather_by_key table version chars) key_is ∙ by_row_is table version chars key row key_is row_is

-- a text has few segments
payload-few : TextLayers → (chars : List ℕ) → IsSendable chars → length (text_payload chars) ≤ longest_text_payload
payload-few layers chars sendable =
    let size = layers.size chars in
    let short = sendable.1 in
    omega arith

-- the weather of a text is sound
text-sound : TextLayers → (table : LifeTable) (version : ℕ) (chars : List ℕ) (key : TextKey) (row : TextRow) → IsTable table
    → IsMoment version → IsSendable chars → text_key table chars ≡ Ok key → text_row table key.kind ≡ Some row → shows row.form version ≡ true
    → IsSound table (text_weather key version row chars)
text-sound layers table version chars key row is_table moment_is sendable key_is row_is shown =
    let longest_life = layers.longest_life table key.kind row row_is in
    let entry = entry_of key version row.life chars in
    let only : (e : Entry) → IsIn e (entry ∷ []) → e ≡ entry = λ e h. in_one e entry h in
    record {
      product = refl;
      version = moment_is;
      shown = shown;
      listed = record { longest_life = longest_life.0; has_row = longest_life.1; not_longer = longest_life.2 };
      within = (is_table.texts key.kind row row_is).within;
      bytes = layers.bytes chars sendable.0;
      says =
          ap (flat_map (report_entries table version)) (layers.reads chars sendable.0 (not_empty table key chars key_is))
          ∙ append-nil (report_entries table version chars)
          ∙ report_entries-key table version chars key row key_is row_is;
      versions = λ e h. ap (λ (x : Entry). x.version) (only e h);
      ends = λ e h. ap (λ (x : Entry). x.until) (only e h);
      apart = λ e f h k keys. only e h ∙ sym (only f k);
      few_segments = let few = layers.few row.form (text_payload chars) (payload-few layers chars sendable) in omega (arith, few);
    }

text-given : TextLayers → (table : LifeTable) (before : List Item) (moment version : ℕ) (chars : List ℕ) (key : TextKey) (row : TextRow) → IsTable table
    → IsMoment version → IsSendable chars → text_key table chars ≡ Ok key → text_row table key.kind ≡ Some row
    → version_refusal moment (timing row.form version row.life) (given_versions before (text_report key ∷ [])) (file_refusal table before moment (text_weather key version row chars)) ≡ None
    → IsGiven table before moment (text_weather key version row chars)
text-given layers table before moment version chars key row is_table moment_is sendable key_is row_is passes =
    let w = text_weather key version row chars in
    let clear = by_version moment (timing row.form version row.life) (given_versions before (text_report key ∷ [])) (file_refusal table before moment w) passes in
    record {
      sound = text-sound layers table version chars key row is_table moment_is sendable key_is row_is (clear.0).shown;
      not_ahead = (clear.0).not_ahead;
      not_expired = (clear.0).alive;
      number = λ s. file-numbered (is_segmented w) (number_for table moment before w) clear.1 s;
      newer = λ item e old h has.
          given-below version (text_report key) before ((clear.0).newer).0 item old
          (subst (λ (x : Entry). has_key x.key item ≡ true) (in_one e (entry_of key version row.life chars) h) has);
    }

refusal-text : (table : LifeTable) (before : List Item) (moment version : ℕ) (chars_of : List ℕ) → give_refusal table before moment (text version chars_of) ≡ None
    → (text_refusal (chars chars_of) ≡ None) × (key_refusal table before moment version chars_of (text_key table chars_of) ≡ None)
unfolding give_refusal
refusal-text table before moment version bytes e = by_text (text_refusal (chars bytes)) (key_refusal table before moment version bytes (text_key table bytes)) e

pub text-accepted : TextLayers → (table : LifeTable) (station : StationId) (before : List Item) (moment version : ℕ) (bytes : List ℕ)
    → IsTable table → IsAccepted table before (accepted moment (text version bytes)) → AreGiven table station moment before (weather_of table (text version bytes))
text-accepted layers table station before moment version bytes is_table is =
    let typed = is.0 in
    let none = refusal-text table before moment version bytes is.1 in
    let sendable = layers.sendable bytes typed.1 none.0 in
    let keyed = by_key table before moment version bytes (text_key table bytes) none.1 in
    let rowed = by_row table before moment version keyed.0 bytes (report_entries table version bytes) (text_row table (keyed.0).kind) keyed.2 in
    let key = keyed.0 in
    let row = rowed.0 in
    let entries_are = report_entries-key table version bytes key row keyed.1 rowed.1 in
    let passes : version_refusal moment (timing row.form version row.life) (given_versions before (text_report key ∷ [])) (file_refusal table before moment (text_weather key version row bytes)) ≡ None =
    subst (λ (entries : List Entry). weather_refusal table before moment key (weather_by_row version bytes entries (Some row)) ≡ None) entries_are rowed.2 in
    subst (AreGiven table station moment before) (sym (weather-key table version bytes key row keyed.1 rowed.1))
    (text-given layers table before moment version bytes key row is_table typed.0 sendable keyed.1 rowed.1 passes, tt)
