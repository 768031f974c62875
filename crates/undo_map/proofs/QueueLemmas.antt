-- A queue of entries stays one where the entries or the mark change.
use Rattle.std.proofs.Common.{◌≡◌, ℕ, true, ◌+◌, ◌≤◌, List, [], ◌++◌, length, sym, ap, subst, ◌∙◌, arith, IsPermutation}
use Rattle.std.specs.Prelude.{Some, None}
use Rattle.std.specs.declared.cmp.Ordering.{Ordering}
use Rattle.std.proofs.lemmas.List.{append-nil, length-append}
use Rattle.std.proofs.lemmas.List.Sorted.{length_permutation}
use Rattle.undo_map.specs.Ends.{HavePlacesBy, IsQueueAt, IsQueueOf, KeepsPlacesBy, Queue, QueuesStay, all_places, has_place_by, place_count}
use Rattle.undo_map.specs.Marked.{Marked}
use Rattle.undo_map.proofs.EndLemmas.{places-kept, places-moved}

module _ {K V : Type 0} (R : K → K → Ordering) (end : K × V → ℕ) where
  all-settled : (queue : Queue K) → queue.added ≡ [] → all_places queue ≡ queue.places
  all-settled queue none = ap (λ (more : List (ℕ × K)). queue.places ++ more) none ∙ append-nil queue.places

  pub queue-unmarked :
      (queue : Queue K) (new : Marked K V) → queue.added ≡ [] → new.mark ≡ None → IsQueueAt R end queue.places new.entries
      → IsQueueOf R end queue new
  queue-unmarked queue new none unmarked at = record {
    now = subst (λ (ps : List (ℕ × K)). IsQueueAt R end ps new.entries) (sym (all-settled queue none)) at;
    before = λ mark is. let no : None ≡ Some mark = sym unmarked ∙ is in absurd (cc);
  }

  pub queue-undone :
      (before after : Queue K) (old new : Marked K V) → after.places ≡ before.places → after.added ≡ []
      → old.mark ≡ Some new.entries → new.mark ≡ None → IsQueueOf R end before old → IsQueueOf R end after new
  queue-undone before after old new places none marked unmarked is =
      queue-unmarked after new none unmarked
      (subst (λ (ps : List (ℕ × K)). IsQueueAt R end ps new.entries) (sym places) (is.before new.entries marked))

  moved : (before : List (ℕ × K)) (after : List (ℕ × K)) (es : List (K × V)) → IsPermutation before after → IsQueueAt R end before es
      → IsQueueAt R end after es
  moved before after es moves is = record {
    placed = places-moved R end before after es moves is.placed;
    few = let same = length_permutation before after moves in let few = is.few in omega (arith, same, few);
  }

  pub queue-marked :
      (before after : Queue K) (old new : Marked K V) → IsPermutation (all_places before) after.places → after.added ≡ []
      → new ≡ record old { mark = Some old.entries } → IsQueueOf R end before old → IsQueueOf R end after new
  queue-marked before after old new moves none same is =
      let P : Marked K V → Type 0 = IsQueueOf R end after in
      let at : IsQueueAt R end after.places old.entries = moved (all_places before) after.places old.entries moves is.now in
      subst P (sym same) record {
        now = subst (λ (ps : List (ℕ × K)). IsQueueAt R end ps old.entries) (sym (all-settled after none)) at;
        before = λ mark here. let own : old.entries ≡ mark = cc in subst (IsQueueAt R end after.places) own at;
      }

  pub queue-settled :
      (queue : Queue K) (old new : Marked K V) → new ≡ record old { mark = None } → IsQueueOf R end queue old
      → IsQueueOf R end queue new
  queue-settled queue old new same is =
      let P : Marked K V → Type 0 = IsQueueOf R end queue in
      subst P (sym same) record { now = is.now; before = λ mark no. absurd (cc) }

  pub queue-alone :
      (before after : Queue K) (marked : Marked K V) → IsPermutation (all_places before) after.places
      → IsQueueOf R end before marked → IsQueueAt R end after.places marked.entries
  queue-alone before after marked moves is = moved (all_places before) after.places marked.entries moves is.now

  count : (queue : Queue K) → length (all_places queue) ≡ place_count queue
  count queue = length-append queue.places queue.added

  put-now :
      (before after : Queue K) (es new : List (K × V))
      → (HavePlacesBy R end (all_places before) es → HavePlacesBy R end (all_places after) new)
      → place_count after + length es ≤ place_count before + length new → IsQueueAt R end (all_places before) es
      → IsQueueAt R end (all_places after) new
  put-now before after es new placed few is = record {
    placed = placed is.placed;
    few =
        let old = count before in
        let now = count after in
        let bound = is.few in
        omega (arith, old, now, bound, few);
  }

  -- where an entry is written
  pub queue-put :
      (before after : Queue K) (old new : Marked K V) → KeepsPlacesBy R before.places after.places
      → length after.places ≤ length before.places
      → (HavePlacesBy R end (all_places before) old.entries → HavePlacesBy R end (all_places after) new.entries)
      → place_count after + length old.entries ≤ place_count before + length new.entries → new.mark ≡ old.mark
      → IsQueueOf R end before old → IsQueueOf R end after new
  queue-put before after old new kept fewer placed few marks is = record {
    now = put-now before after old.entries new.entries placed few is.now;
    before = λ mark same.
        let at : IsQueueAt R end before.places mark = is.before mark (sym marks ∙ same) in
        record {
          placed = places-kept R end before.places after.places mark kept at.placed;
          few = let bound = at.few in omega (arith, bound, fewer);
        };
  }

  pub queue-written :
      (before after : Queue K) (old new : Marked K V) → after.places ≡ before.places
      → (HavePlacesBy R end (all_places before) old.entries → HavePlacesBy R end (all_places after) new.entries)
      → place_count after + length old.entries ≤ place_count before + length new.entries → new.mark ≡ old.mark
      → IsQueueOf R end before old → IsQueueOf R end after new
  queue-written before after old new places placed few marks is =
      let same = ap (λ (ps : List (ℕ × K)). length ps) places in
      queue-put before after old new
      (λ key by some. subst (λ (ps : List (ℕ × K)). has_place_by R ps key by ≡ true) (sym places) some)
      (omega (arith, same)) placed few marks is

pub queues-stay : {K V : Type 0} → QueuesStay K V
queues-stay =
    record {
      marked = queue-marked;
      undone = queue-undone;
      settled = queue-settled;
      written = queue-written;
      alone = queue-alone;
      unmarked = queue-unmarked;
    }
