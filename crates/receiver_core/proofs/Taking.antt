-- What a joiner answers, and what a frame brings by it.
use Rattle.std.proofs.Common.{◌≡◌, ℕ, Bool, true, false, if◌then◌else◌, List, [], ◌∷◌, ◌++◌, Option, Some, None, Result, Ok, Err, refl, sym, ap, subst, ◌∙◌}
use Rattle.std.proofs.lemmas.List.{append-nil}
use Rattle.std.specs.List.{list_all}
use Rattle.std.specs.Option.{option_map}
use Rattle.apdu_core.specs.declared.apdu.Seg.{Seg}
use Rattle.life_table.specs.LifeTable.{LifeTable}
use Rattle.segment_core.specs.Arrival.{Arrival, has_piece, joined_payload, other_numbers, whole_with}
use Rattle.segment_core.specs.Bound.{AnswersComplete, payload_made_whole}
use Rattle.segment_core.specs.Store.{StandsFor, Store, answer_of, is_in_life, live_answer, taken_with}
use Rattle.segment_core.specs.Views.{arrival_view}
use Rattle.segment_core.specs.declared.arrived.Arrived.{Arrived}
use Rattle.segment_core.specs.declared.arrived.Longest.{Longest}
use Rattle.segment_core.specs.declared.arrived.Taken.{Taken}
use Rattle.segment_core.specs.declared.arrived.Taken.TheVariants as taken
use Rattle.receiver_core.specs.Steps.{arrived_with, arrival_in_time, entries_of_whole, frame_entries}
use Rattle.receiver_core.specs.UnreadParts.{frame_reasons, taken_reasons, whole_reasons}
use Rattle.receiver_core.specs.declared.unread.UnreadReason.{UnreadReason}
use Rattle.receiver_core.specs.declared.unread.UnreadReason.TheVariants as reasons

-- an answer to what is not stale passes on no more than is in the payload that it makes whole
told_by : (table : LifeTable) (again last : Bool) (a : Arrival) (payload : List ℕ)
    → (let answer = if again then taken.Again else (if last then taken.Whole payload else taken.Waits) in
    taken_reasons table a answer ≡ whole_reasons table (option_map (whole_with a) (payload_made_whole answer)))
told_by table true last a payload = refl
told_by table false true a payload = refl
told_by table false false a payload = refl

live_told : (table : LifeTable) (before : List Arrival) (a : Arrival) (s : Option Seg)
    → taken_reasons table a (live_answer before a s)
    ≡ whole_reasons table (option_map (whole_with a) (payload_made_whole (live_answer before a s)))
live_told table before a None = refl
live_told table before a (Some s) =
    told_by table (has_piece before a s s.number) (list_all (has_piece before a s) (other_numbers s)) a
    (joined_payload (before ++ a ∷ []) a s)

entries_by : AnswersComplete → (table : LifeTable) (before : List Arrival) (a : Arrival) (live : Bool)
    → entries_of_whole table (option_map (whole_with a)
    (payload_made_whole (if live then live_answer before a a.segmentation else taken.Stale)))
    ≡ frame_entries table before (if live then Ok a else Err reasons.Stale)
entries_by complete table before a true = ap (entries_of_whole table) (sym (complete before a))
entries_by complete table before a false = refl

reasons_by : AnswersComplete → (table : LifeTable) (before : List Arrival) (a : Arrival) (live : Bool)
    → taken_reasons table a (if live then live_answer before a a.segmentation else taken.Stale)
    ≡ frame_reasons table before (if live then Ok a else Err reasons.Stale)
reasons_by complete table before a true =
    live_told table before a a.segmentation ∙ ap (whole_reasons table) (sym (complete before a))
reasons_by complete table before a false = refl

joined_by : (before : List Arrival) (a : Arrival) (live : Bool)
    → (if live then before ++ a ∷ [] else before) ≡ arrived_with before (if live then Ok a else Err reasons.Stale)
joined_by before a true = refl
joined_by before a false = sym (append-nil before)

-- what is read of a frame, and what the joiner holds and answers by it
pub joins : (lives own : Longest) (moment : ℕ) (before : List Arrival) (a : Arrived)
    (read : Result Arrival UnreadReason) (store : Store)
    → own ≡ lives → arrival_in_time lives moment (Ok a) ≡ read → StandsFor store (taken_with own moment before (arrival_view a))
    → StandsFor store (arrived_with before read)
joins lives own moment before a read store same is stands =
    subst (StandsFor store)
    (ap (λ l. taken_with l moment before (arrival_view a)) same
    ∙ joined_by before (arrival_view a) (is_in_life lives moment a.product a.version) ∙ ap (arrived_with before) is) stands

pub brings : AnswersComplete → (table : LifeTable) (lives own : Longest) (moment : ℕ) (before : List Arrival) (a : Arrived)
    (read : Result Arrival UnreadReason)
    (answer : Taken) → own ≡ lives → arrival_in_time lives moment (Ok a) ≡ read → answer ≡ answer_of own moment before (arrival_view a)
    → entries_of_whole table (option_map (whole_with (arrival_view a)) (payload_made_whole answer)) ≡ frame_entries table before read
brings complete table lives own moment before a read answer same is answered =
    ap (λ t. entries_of_whole table (option_map (whole_with (arrival_view a)) (payload_made_whole t)))
    (answered ∙ ap (λ l. answer_of l moment before (arrival_view a)) same)
    ∙ entries_by complete table before (arrival_view a) (is_in_life lives moment a.product a.version) ∙ ap (frame_entries table before) is

pub tells : AnswersComplete → (table : LifeTable) (lives own : Longest) (moment : ℕ) (before : List Arrival) (a : Arrived)
    (read : Result Arrival UnreadReason)
    (answer : Taken) → own ≡ lives → arrival_in_time lives moment (Ok a) ≡ read → answer ≡ answer_of own moment before (arrival_view a)
    → taken_reasons table (arrival_view a) answer ≡ frame_reasons table before read
tells complete table lives own moment before a read answer same is answered =
    ap (taken_reasons table (arrival_view a)) (answered ∙ ap (λ l. answer_of l moment before (arrival_view a)) same)
    ∙ reasons_by complete table before (arrival_view a) (is_in_life lives moment a.product a.version) ∙ ap (frame_reasons table before) is
