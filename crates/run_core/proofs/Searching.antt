-- How the search for the end of the table goes on, and how it ends.
use Rattle.std.proofs.Common.{◌≡◌, ℕ, ◌+◌, ◌-◌, ◌<◌, ◌≤◌, Bool, true, false, List, [], Option, Some, None, option_map, length, drop, refl, sym, ap, subst, ◌∙◌, arith, append-nil, length-append}
use Rattle.std.proofs.KnownBytes.{Consumes-trans}
use Rattle.std.specs.Io.KnownBytes.{Consumes, IsAtEnd}
use Rattle.list_members.specs.Tests.{none_mapped}
use Rattle.fisb_wire.specs.Faults.{Rose}
use Rattle.run_core.specs.declared.input.Input.{Input}
use Rattle.run_core.specs.declared.search.TableEnd.{TableEnd}
use Rattle.run_core.specs.declared.search.TableEnd.TheVariants as ways
use Rattle.run_core.specs.Limits.{ring_limit}
use Rattle.run_core.specs.Lines.{lines_in}
use Rattle.run_core.specs.Opening.{opening_at}
use Rattle.run_core.specs.Reading.{IsWithin, HasGrown, newline_in}
use Rattle.run_core.specs.Run.{source_end}
use Rattle.run_core.specs.Running.{IsSought}
use Rattle.run_core.specs.Searched.{IsHeld, IsTable, IsLast, IsLooked, HasSearched, is_end_here}
use Rattle.run_core.proofs.Turns.{IsSearch, clear-more, found-from, sought-more, sought-line, sought-found, sought-long, sought-none, sought-last, sought-missing}

module _ (lb : Option (List ℕ)) (rb : ℕ) where
  pub search-moved : (la : Option (List ℕ)) (ra : ℕ) (input after : Input) (place number : ℕ) (may : Bool)
      → after ≡ input → IsSearch (source_end lb rb) (source_end la ra) input place number may → IsSearch (source_end lb rb) (source_end la ra) after place number may
  search-moved la ra input after place number may same s = subst (λ i. IsSearch (source_end lb rb) (source_end la ra) i place number may) (sym same) s

  -- bytes were read
  pub search-read : (mid la : Option (List ℕ)) (rm ra : ℕ) (input after : Input) (place number : ℕ)
      (may may' : Bool) (piece : List ℕ) → IsSearch (source_end lb rb) (source_end mid rm) input place number may
      → HasGrown input after (source_end mid rm) (source_end la ra) piece → IsWithin after
      → (may' ≡ false → newline_in (drop place after.ring.items) ≡ None) → IsSearch (source_end lb rb) (source_end la ra) after place number may'
  search-read mid la rm ra input after place number may may' piece s g within clear =
      let size = ap length g.items ∙ length-append input.ring.items piece in
      let taken = s.held.taken in
      let all = g.taken in record {
        within = within;
        held = record {
          taken = omega (arith, size, taken, all);
          consumed = subst (Consumes lb la) (sym g.items) (Consumes-trans _ _ _ _ _ s.held.consumed g.consumed);
        };
        sought = subst (λ xs. IsSought xs place number) (sym g.items)
            (sought-more input.ring.items piece place number s.sought);
        clear = clear;
        unfailed = g.unfailed ∙ s.unfailed;
      }

  module _ (la : Option (List ℕ)) (ra : ℕ) (input : Input) (place number : ℕ) (may : Bool)
      (here : IsSearch (source_end lb rb) (source_end la ra) input place number may) where
    size-of : (e k : ℕ) → e ≡ place + k → e - place ≡ k
    size-of e k is = omega (arith, is)

    -- a line ended, and it ends the table
    pub search-found : (after : Input) (e : ℕ) → after ≡ input
        → Some e ≡ option_map (λ end. place + end) (newline_in (drop place input.ring.items))
        → is_end_here input.ring.items place (e - place) ≡ true
        → IsHeld (source_end lb rb) (source_end la ra) after × IsTable after.ring.items place number × (ra ≡ rb)
    search-found after e moved is matched =
        let k = found-from place e (newline_in (drop place input.ring.items)) is in
        let test = subst (λ n. is_end_here input.ring.items place n ≡ true) (size-of e k.0 k.2) matched in
        let found = sought-found input.ring.items place number k.0 here.sought k.1 test in (
          subst (IsHeld (source_end lb rb) (source_end la ra)) (sym moved) here.held,
          subst (λ (i : Input). IsTable i.ring.items place number)
              (sym moved) found,
          here.unfailed,
        )

    -- it does not
    pub search-line : (after : Input) (e : ℕ) → after ≡ input
        → Some e ≡ option_map (λ end. place + end) (newline_in (drop place input.ring.items))
        → is_end_here input.ring.items place (e - place) ≡ false
        → IsSearch (source_end lb rb) (source_end la ra) after (e + 1) (number + 1) true
    search-line after e moved is other =
        let k = found-from place e (newline_in (drop place input.ring.items)) is in
        let test = subst (λ n. is_end_here input.ring.items place n ≡ false) (size-of e k.0 k.2) other in
        let next : place + k.0 + 1 ≡ e + 1 = (let is = k.2 in omega (arith, is)) in
        let line = subst (λ n. IsSought input.ring.items n (number + 1)) next
        (sought-line input.ring.items place number k.0 here.sought k.1 test) in
        search-moved la ra input after (e + 1) (number + 1) true moved (record {
          within = here.within;
          held = here.held;
          sought = line;
          clear = λ e. cc;
          unfailed = here.unfailed;
        })

    none-here : None ≡ option_map (λ end. place + end) (newline_in (drop place input.ring.items))
        → newline_in (drop place input.ring.items) ≡ None
    none-here is = none_mapped (λ end. place + end) (newline_in (drop place input.ring.items)) (sym is)

    -- so many bytes have none that none can come
    pub search-long : None ≡ option_map (λ end. place + end) (newline_in (drop place input.ring.items))
        → ring_limit ≤ length input.ring.items → HasSearched (source_end lb rb) (source_end la ra) input ways.Long
    search-long none long =
        let fits = here.within.items in (
          here.held,
          sought-long input.ring.items place number here.sought (none-here none) long,
          omega
              (arith, long, fits),
          here.unfailed,
        )

    pub held-after : (left : Option (List ℕ)) (reads : ℕ) (after : Input) → after ≡ input → Consumes la left []
        → IsHeld (source_end lb rb) (source_end left reads) after
    held-after left reads after moved none = subst (IsHeld (source_end lb rb) (source_end left reads)) (sym moved) (record {
      taken = here.held.taken;
      consumed = subst (Consumes lb left) (append-nil input.ring.items) (Consumes-trans _ _ _ _ _ here.held.consumed none);
    })

    -- a read failed
    pub search-failed : (left : Option (List ℕ)) (reads : ℕ) (after : Input) → after ≡ input
        → None ≡ option_map (λ end. place + end) (newline_in (drop place input.ring.items))
        → length input.ring.items < ring_limit
        → Consumes la left [] → Rose ra reads → HasSearched (source_end lb rb) (source_end left reads) after ways.Failed
    search-failed left reads after moved none short taken rose = (
      held-after left reads after moved taken,
      subst (λ (i : Input). opening_at 0 1 (lines_in false i.ring.items) ≡ None) (sym moved)
          (sought-none input.ring.items place number here.sought (none-here none)),
      subst (λ (i : Input). length i.ring.items < ring_limit) (sym moved) short,
      (let unfailed = here.unfailed in omega (arith, rose, unfailed)),
    )

    -- the input ended
    ended : (left : Option (List ℕ)) (reads : ℕ) (result : TableEnd) → newline_in (drop place input.ring.items) ≡ None
        → length input.ring.items < ring_limit → Consumes la left [] → IsAtEnd left → reads ≡ ra
        → IsLooked input.ring.items place number result → HasSearched (source_end lb rb) (source_end left reads) input result
    ended left reads (ways.Found size line) none short taken end unfailed looked = absurd looked
    ended left reads (ways.Last size line) none short taken end unfailed looked = (
      held-after left reads input refl taken,
      subst (λ n. IsLast input.ring.items size n) (sym looked.1)
          (subst (λ n. IsLast input.ring.items n number) (sym looked.0)
          (sought-last input.ring.items place number here.sought none looked.2)),
      end,
      unfailed ∙ here.unfailed,
    )
    ended left reads ways.Missing none short taken end unfailed looked =
        (held-after left reads input refl taken, sought-missing input.ring.items place number here.sought none looked, short, end, unfailed ∙ here.unfailed)
    ended left reads ways.Long none short taken end unfailed looked = absurd looked
    ended left reads ways.Failed none short taken end unfailed looked = absurd looked

    pub search-ended : (left : Option (List ℕ)) (reads : ℕ) (after final : Input) (result : TableEnd) → after ≡ input
        → final ≡ after → None ≡ option_map (λ end. place + end) (newline_in (drop place input.ring.items))
        → length input.ring.items < ring_limit → Consumes la left [] → IsAtEnd left → reads ≡ ra
        → IsLooked after.ring.items place number result → HasSearched (source_end lb rb) (source_end left reads) final result
    search-ended left reads after final result moved last none short taken end unfailed looked =
        let seen = subst (λ (i : Input). IsLooked i.ring.items place number result) moved looked in
        subst (λ i. HasSearched (source_end lb rb) (source_end left reads) i result) (sym (last ∙ moved))
        (ended left reads result (none-here none) short taken end unfailed seen)

    pub search-clear : (left : Option (List ℕ)) (reads : ℕ) (after : Input) (piece : List ℕ)
        → HasGrown input after (source_end la ra) (source_end left reads) piece
        → None ≡ option_map (λ end. place + end) (newline_in (drop place input.ring.items))
        → newline_in piece ≡ None → newline_in (drop place after.ring.items) ≡ None
    search-clear left reads after piece g none clean =
        clear-more place input after la left ra reads piece g here.sought.within (none-here none) clean
