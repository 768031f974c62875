-- What the object stands for behind each call.
use Rattle.std.proofs.Common.{◌≡◌, ℕ, ◌+◌, ◌<◌, ◌≤◌, true, nat_lt, if◌then◌else◌, List, [], ◌∷◌, ◌++◌, length, map, filter, flat_map, Some, None, refl, sym, ap, subst, ◌∙◌, inl, inr, arith, length-append, append-nil}
use Rattle.std.proofs.Math.Path.{fun_ext}
use Rattle.std.proofs.lemmas.Bool.{cases_Bool, lt-ltb, ltb-true}
use Rattle.list_members.specs.Each.{AllByRecursion-at}
use Rattle.list_members.specs.Membership.{IsIn}
use Rattle.list_members.specs.Members.{IsIn-before, IsIn-after, IsIn-either}
use Rattle.list_members.specs.ListMembers.{in_map}
use Rattle.fisb_time.specs.Moment.{IsMoment}
use Rattle.life_table.specs.Longest.{TextsAreWithin}
use Rattle.life_table.specs.LifeTable.{LifeTable, greatest_life}
use Rattle.uplink_frame.specs.declared.station.StationId.{StationId}
use Rattle.uplink_frame.specs.Laws.{StationsAreTold}
use Rattle.picture_core.specs.Key.{Key}
use Rattle.ground_core.specs.Item.{Item, segments_of}
use Rattle.ground_core.specs.Update.{Update, weather_of}
use Rattle.ground_core.specs.History.{Event, accepted, fill, items}
use Rattle.ground_core.specs.Airing.{log, waiting_segments}
use Rattle.ground_core.specs.Broadcast.{IsAccepted}
use Rattle.ground_core.specs.InTime.{not_before}
use Rattle.ground_core.specs.Refusal.{give_refusal}
use Rattle.ground_core.specs.Piece.{Piece, IsLastOrEnded, HasPlace, ArePlaced, piece_of, live_by, left_pieces, fitting_pieces}
use Rattle.ground_core.specs.Putting.{IsPut, IsAsBefore, AreItemsOf, count_put}
use Rattle.ground_core.specs.StandsFor.{StandsFor, history_clock, history_moment, latest_after, latest_of}
use Rattle.ground_core.specs.Told.{refusal_by}
use Rattle.segment_core.specs.Store.{last_above}
use Rattle.ground_core.specs.Views.{latest_at, count_at, pieces_in}
use Rattle.ground_core.specs.declared.item.SentItem.{SentItem}
use Rattle.ground_core.specs.declared.ground.Ground.{Ground}
use Rattle.ground_core.proofs.Kept.{kept_later, kept_then, live_kept}
use Rattle.ground_core.proofs.ListLemmas.{AllByRecursion-in}
use Rattle.ground_core.proofs.KeyLemmas.{KeyLaws}
use Rattle.ground_core.proofs.Order.{touched_segments}
use Rattle.ground_core.proofs.Serials.{segments-logged, log_given, log_filled, numbered_items, serial_in, latest_after-append}
use Rattle.ground_core.proofs.Numbers.{filed_items, items-counted}
use Rattle.ground_core.proofs.Versions.{GroundLaws, one_life, given_version_is, refusal_alike}
use Rattle.ground_core.proofs.Placed.{placed_put}
use Rattle.ground_core.proofs.Queue.{IsFilled, line-filled, given_line, made_items}
use Rattle.ground_core.proofs.SentItems.{AreSent, are_sent, latest_same, after_kept, count_same, pieces_same, length_same}

pub clock_below : (history : List Event) (moment : ℕ) → last_above (history_clock history) moment ≡ None → history_moment history ≤ moment
clock_below [] moment h = omega arith
clock_below (event ∷ past) moment h = not_before (event ∷ past) moment h

-- what is kept counts at each later moment as all that was given
pub kept_at : (table : LifeTable) (station : StationId) (history : List Event) (moment : ℕ) (sender : Ground) → StandsFor table station sender history
    → history_moment history ≤ moment → (key : Key) → IsLastOrEnded moment (latest_of (items table station history) key) (latest_at sender.newest key)
kept_at table station history moment sender s le key = kept_later (history_moment history) moment _ _ le (s.newest_is key)

pub lives_same : (table : LifeTable) (station : StationId) (history : List Event) (moment : ℕ) (sender : Ground) → StandsFor table station sender history
    → history_moment history ≤ moment → live_by (latest_at sender.newest) moment ≡ live_by (latest_of (items table station history)) moment
lives_same table station history moment sender s le =
    live_kept moment (latest_of (items table station history)) (latest_at sender.newest) (kept_at table station history moment sender s le)

counts_later : (f : ℕ → ℕ) (clock moment bound kept all : ℕ) → clock ≤ moment → kept ≡ (if nat_lt clock bound then all else 0)
    → (if nat_lt moment bound then f kept else 0) ≡ (if nat_lt moment bound then f all else 0)
counts_later f clock moment bound kept all le e = elim (cases_Bool (nat_lt moment bound)) [
  | inl t ↦ (
      let before : nat_lt clock bound ≡ true = lt-ltb clock bound (omega (arith, ltb-true moment bound t)) in
      let same : kept ≡ all = e ∙ ap (λ b. if b then all else 0) before in
      ap (λ n. if nat_lt moment bound then f n else 0) same)
  | inr g ↦ rw g refl
]

counts_now : (table : LifeTable) (station : StationId) (history : List Event) (moment version product : ℕ) (sender : Ground) → StandsFor table station sender history
    → history_moment history ≤ moment → moment < version + greatest_life table
    → count_at sender.files version product ≡ length (filed_items version product (items table station history))
counts_now table station history moment version product sender s le lt =
    s.files_are version product
    ∙ ap (λ b. if b then length (filed_items version product (items table station history)) else 0) (lt-ltb (history_moment history) (version + greatest_life table) (omega arith))

pub line_of : (table : LifeTable) (station : StationId) (history : List Event) (sender : Ground) (s : StandsFor table station sender history)
    → filter (live_by (latest_of (items table station history)) (history_moment history)) (pieces_in sender.line)
    ≡ map piece_of (waiting_segments (items table station history) (log table station history) (history_moment history))
line_of table station history sender s =
    let now : history_moment history ≤ history_moment history = omega arith in
    ap (λ f. filter f (pieces_in sender.line)) (sym (lives_same table station history (history_moment history) sender s now)) ∙ s.line_is

-- what counts is as it was
pub same_stands : (table : LifeTable) (station : StationId) (history : List Event) (old new : Ground) → StandsFor table station old history → IsAsBefore old new
    → StandsFor table station new history
same_stands table station history old new s b = record {
  is_history = s.is_history;
  table_is = b.table ∙ s.table_is;
  station_is = b.station ∙ s.station_is;
  clock_is = b.clock ∙ s.clock_is;
  given_is = b.given ∙ s.given_is;
  newest_is = λ key. subst (IsLastOrEnded (history_moment history) (latest_of (items table station history) key)) (sym (b.newest key)) (s.newest_is key);
  files_are = λ v p. b.files v p ∙ s.files_are v p;
  placed = λ key kept e. subst (λ l. HasPlace l key kept) (sym b.line) (s.placed key kept (sym (b.newest key) ∙ e));
  of_log = λ p i. s.of_log p (subst (IsIn p) b.line i);
  line_is = ap (λ l. filter (live_by l (history_moment history)) (pieces_in new.line)) (fun_ext b.newest)
      ∙ ap (filter (live_by (latest_at old.newest) (history_moment history))) b.line ∙ s.line_is;
}

-- what a fill changes
pub record IsTaken (old : Ground) (moment : ℕ) (new : Ground) : Type 0 where
  pub table : new.table ≡ old.table
  pub station : new.station ≡ old.station
  pub clock : new.clock ≡ Some moment
  pub given : new.given ≡ old.given
  pub newest : (key : Key) → IsLastOrEnded moment (latest_at old.newest key) (latest_at new.newest key)
  pub files : (version product : ℕ) → count_at new.files version product
      ≡ (if nat_lt moment (version + old.life) then count_at old.files version product else 0)
  pub line : filter (live_by (latest_at old.newest) moment) (pieces_in new.line)
      ≡ left_pieces 424 (filter (live_by (latest_at old.newest) moment) (pieces_in old.line))
      ++ fitting_pieces 424 (filter (live_by (latest_at old.newest) moment) (pieces_in old.line))
  pub placed : ArePlaced (latest_at old.newest) (pieces_in old.line) → ArePlaced (latest_at new.newest) (pieces_in new.line)
  pub among : (p : Piece) → IsIn p (pieces_in new.line) → IsIn p (pieces_in old.line)

pub filled_of : StationsAreTold → KeyLaws → (table : LifeTable) (station : StationId) (history : List Event) (moment slot : ℕ) (old : Ground) (new : List Piece) → StandsFor table station old history
    → last_above (history_clock history) moment ≡ None
    → filter (live_by (latest_at old.newest) moment) new
    ≡ left_pieces 424 (filter (live_by (latest_at old.newest) moment) (pieces_in old.line))
    ++ fitting_pieces 424 (filter (live_by (latest_at old.newest) moment) (pieces_in old.line))
    → IsFilled table station history moment slot (pieces_in old.line) new
filled_of told keys table station history moment slot old new s e n =
    line-filled told keys table station history (history_moment history) moment slot (pieces_in old.line) new (clock_below history moment e)
    (line_of table station history old s)
    (subst (λ f. filter f new ≡ left_pieces 424 (filter f (pieces_in old.line)) ++ fitting_pieces 424 (filter f (pieces_in old.line)))
    (lives_same table station history moment old s (clock_below history moment e)) n)

pub fill_stands : StationsAreTold → KeyLaws → (table : LifeTable) (station : StationId) (history : List Event) (moment slot : ℕ) (old new : Ground) → StandsFor table station old history
    → last_above (history_clock history) moment ≡ None → slot < 32 → IsMoment moment → IsTaken old moment new
    → StandsFor table station new (fill moment slot ∷ history)
fill_stands told keys table station history moment slot old new s e lt m t =
    let all : List Item = items table station history in
    let same : items table station (fill moment slot ∷ history) ≡ all = append-nil all in
    let f = filled_of told keys table station history moment slot old (pieces_in new.line) s e t.line in
    let le : history_moment history ≤ moment = clock_below history moment e in
    let life : old.life ≡ greatest_life table = old.longest ∙ ap greatest_life s.table_is in
    record {
      is_history = (record { is_accepted = lt; moment_is = m; not_before = not_before history moment e }, s.is_history);
      table_is = t.table ∙ s.table_is;
      station_is = t.station ∙ s.station_is;
      clock_is = t.clock;
      given_is = t.given ∙ s.given_is ∙ ap length (sym same);
      newest_is = λ key. subst (λ is. IsLastOrEnded moment (latest_of is key) (latest_at new.newest key)) (sym same)
          (kept_then moment (latest_of all key) (latest_at old.newest key) (latest_at new.newest key) (kept_at table station history moment old s le key) (t.newest key));
      files_are = λ v p. t.files v p ∙ ap (λ n. if nat_lt moment (v + n) then count_at old.files v p else 0) life
          ∙ counts_later (λ n. n) (history_moment history) moment (v + greatest_life table) (count_at old.files v p) (length (filed_items v p all)) le (s.files_are v p)
          ∙ ap (λ is. if nat_lt moment (v + greatest_life table) then length (filed_items v p is) else 0) (sym same);
      placed = t.placed s.placed;
      of_log = λ p i. (let o = s.of_log p (t.among p i) in record {
        segment = o.segment;
        given = subst (IsIn o.segment) (sym (log_filled table station history moment slot)) (IsIn-before o.segment _ _ o.given);
        piece_is = o.piece_is;
      });
      line_is = ap (λ g. filter g (pieces_in new.line))
          (live_kept moment (latest_at old.newest) (latest_at new.newest) t.newest ∙ lives_same table station history moment old s le)
          ∙ f.line;
    }

-- what counts of what is kept, at a later moment
counts_then : (moment bound kept all : ℕ) (f : ℕ → ℕ) (sum : ℕ) → (moment < bound → kept ≡ all) → f all ≡ sum
    → (if nat_lt moment bound then f kept else 0) ≡ (if nat_lt moment bound then sum else 0)
counts_then moment bound kept all f sum same e = elim (cases_Bool (nat_lt moment bound)) [
  | inl t ↦ ap (λ n. if nat_lt moment bound then f n else 0) (same (ltb-true moment bound t)) ∙ ap (λ n. if nat_lt moment bound then n else 0) e
  | inr g ↦ rw g refl
]

-- the items that are put are those that the update makes
pub items_are_sent : (table : LifeTable) → GroundLaws table → (station : StationId) (history : List Event) (moment : ℕ) (update : Update) (old : Ground) (items_put : List SentItem)
    → StandsFor table station old history → history_moment history ≤ moment
    → IsAccepted table (items table station history) (accepted moment update)
    → AreItemsOf (count_at old.files) old.given (weather_of table update) items_put
    → AreSent (made_items table station moment history update) items_put
items_are_sent table laws station history moment update old items_put s le accept are =
    are_sent table station moment (items table station history) (weather_of table update) items_put old.given (count_at old.files)
    (laws.given table station (items table station history) moment update laws.is_table accept)
    (items-counted laws.given table station laws.is_table history s.is_history) s.given_is
    (λ v p lt. counts_now table station history moment v p old s le lt) are

pub give_stands : (table : LifeTable) → GroundLaws table → (station : StationId) (history : List Event) (moment : ℕ) (update : Update) (old new : Ground) (items_put : List SentItem)
    → StandsFor table station old history → last_above (history_clock history) moment ≡ None → IsMoment moment
    → IsAccepted table (items table station history) (accepted moment update)
    → AreItemsOf (count_at old.files) old.given (weather_of table update) items_put → IsPut old moment items_put new
    → StandsFor table station new (accepted moment update ∷ history)
give_stands table laws station history moment update old new items_put s e m accept are p =
    let keys = laws.keys in
    let all : List Item = items table station history in
    let made : List Item = made_items table station moment history update in
    let after : List Event = accepted moment update ∷ history in
    let le : history_moment history ≤ moment = clock_below history moment e in
    let sent : AreSent made items_put = items_are_sent table laws station history moment update old items_put s le accept are in
    let life : old.life ≡ greatest_life table = old.longest ∙ ap greatest_life s.table_is in
    let newest : (key : Key) → IsLastOrEnded moment (latest_of (items table station after) key) (latest_at new.newest key) = λ (key : Key).
    subst (λ l. IsLastOrEnded moment l (latest_at new.newest key)) (sym (latest_after-append key all made None))
    (subst (IsLastOrEnded moment (latest_after key made (latest_of all key))) (sym (p.newest key ∙ latest_same keys key made items_put (latest_at old.newest key) sent))
    (after_kept key moment made (latest_of all key) (latest_at old.newest key) (kept_at table station history moment old s le key))) in
    let pieces : pieces_in new.line ≡ pieces_in old.line ++ map piece_of (flat_map segments_of made)
    = p.line ∙ ap (λ l. pieces_in old.line ++ l) (pieces_same made items_put sent) in
    let logs : touched_segments (log table station after) ≡ touched_segments (log table station history) ++ flat_map segments_of made
    = log_given table station history moment update in
    record {
      is_history = (record { is_accepted = accept; moment_is = m; not_before = not_before history moment e }, s.is_history);
      table_is = p.table ∙ s.table_is;
      station_is = p.station ∙ s.station_is;
      clock_is = p.clock;
      given_is = p.given ∙ ap (λ n. n + length items_put) s.given_is ∙ ap (λ n. length all + n) (length_same made items_put sent) ∙ sym (length-append all made);
      newest_is = newest;
      files_are = λ x y. p.files x y
          ∙ ap (λ n. if nat_lt moment (x + n) then count_put x y items_put (count_at old.files x y) else 0) life
          ∙ counts_then moment (x + greatest_life table) (count_at old.files x y) (length (filed_items x y all)) (count_put x y items_put) (length (filed_items x y (all ++ made)))
          (λ lt. counts_now table station history moment x y old s le lt) (count_same x y all made items_put (length (filed_items x y all)) sent refl);
      placed = placed_put keys old new moment items_put p s.placed;
      of_log = λ q k. elim (IsIn-either q (pieces_in old.line) (map piece_of (flat_map segments_of made)) (subst (IsIn q) pieces k)) [
        | inl a ↦ (let o = s.of_log q a in record {
          segment = o.segment;
          given = subst (IsIn o.segment) (sym logs) (IsIn-before o.segment _ _ o.given);
          piece_is = o.piece_is;
        })
        | inr b ↦ (let o = in_map piece_of q (flat_map segments_of made) b in record {
          segment = o.0;
          given = subst (IsIn o.0) (sym logs) (IsIn-after o.0 _ _ o.1);
          piece_is = o.2;
        })
      ];
      line_is = ap (λ f. filter f (pieces_in new.line)) (live_kept moment (latest_of (items table station after)) (latest_at new.newest) newest)
          ∙ given_line keys table station history moment update (history_moment history) (pieces_in old.line) (pieces_in new.line) le
          (AllByRecursion-in _ (pieces_in old.line) (λ q k.
          let o = s.of_log q k in
          let l = AllByRecursion-at _ _ o.segment (segments-logged table station history) o.given in
          let b = serial_in 0 all o.segment.item (numbered_items table station history) l.item in
          let z : q.serial ≡ o.segment.item.serial = ap (λ (x : Piece). x.serial) o.piece_is in
          omega (arith, b.1, z)))
          (line_of table station history old s) pieces;
    }

-- what is kept tells the first reason
pub refusal_same : (table : LifeTable) → GroundLaws table → (station : StationId) (history : List Event) (moment : ℕ) (update : Update) (sender : Ground) → TextsAreWithin
    → StandsFor table station sender history → history_moment history ≤ moment
    → refusal_by sender.table (latest_at sender.newest) (count_at sender.files) moment update
    ≡ give_refusal table (items table station history) moment update
refusal_same table laws station history moment update sender law s le =
    ap (λ t. refusal_by t (latest_at sender.newest) (count_at sender.files) moment update) s.table_is
    ∙ refusal_alike table (items table station history) moment update (latest_at sender.newest) (count_at sender.files) law (record {
      newest = kept_at table station history moment sender s le;
      files = λ v p lt. counts_now table station history moment v p sender s le lt;
      one_life = one_life table laws station history s.is_history;
      versions = given_version_is table laws station history s.is_history;
      counted = items-counted laws.given table station laws.is_table history s.is_history;
    })
