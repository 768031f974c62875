-- A value that is written over one of its key, or beside all.
use Rattle.std.proofs.Common.{◌≡◌, ◌+◌, ◌∙◌, refl, ◌++◌, ◌∷◌, [], List, length, ap, arith, cond, nat_lt, sym, subst}
use Rattle.std.specs.Prelude.{Some, None}
use Rattle.std.specs.BTreeMap.{insert_entry, is_at}
use Rattle.std.specs.Map.{lookup, set_value}
use Rattle.std.specs.Option.{option_copied_mut}
use Rattle.std.proofs.lemmas.Map.Steps.{set_value_same}
use Rattle.std.proofs.lemmas.Result.{on_ok_weaker, on_err_weaker}
use Rattle.undo_map.specs.Ends.{HavePlaces, all_places, has_place, place_count}
use Rattle.undo_map.specs.Steps.{before_all}
use Rattle.std.specs.Ordering.{is_eq}
use Rattle.std.specs.Prelude.{true, false}
use Rattle.undo_map.proofs.EndLemmas.{either, length-insert, newer-back, on-both, on-err-both, places-insert, places-kept}
use Rattle.undo_map.proofs.EndLemmas.{places-set, set-newer}
use Rattle.undo_map.proofs.lasting.put_step.Goals as goal

pub returns-in-Some-clause-written : goal.returns-in-Some-clause-written
returns-in-Some-clause-written g c =
    let R = g.K.Ord.cmp in
    let es = c.args.entries.now.entries in
    let old = c.in-Some.older.now in
    let new = c.replace_step.new.older in
    let found : lookup (is_at (R c.args.key)) es ≡ Some old = sym c.get_mut.ensures.value ∙ ap option_copied_mut c.in-Some.is in
    on_ok_weaker c.replace_step.result
    (λ is. (c.get_mut.follows.holds new).0
    ∙ set-newer R g.met.K.Ord.total g.V.Lasting.version c.args.key old c.args.value new es c.requires found is)
    c.replace_step.ensures.written

pub returns-in-Some-clause-before : goal.returns-in-Some-clause-before
returns-in-Some-clause-before g c =
    let R = g.K.Ord.cmp in
    let es = c.args.entries.now.entries in
    let old = c.in-Some.older.now in
    let new = c.replace_step.new.older in
    let b = nat_lt (g.V.Lasting.version old) (g.V.Lasting.version c.args.value) in
    let steps = c.args.steps.now.items in
    let later = c.replace_step.new.steps.items in
    let found : lookup (is_at (R c.args.key)) es ≡ Some old = sym c.get_mut.ensures.value ∙ ap option_copied_mut c.in-Some.is in
    ap (before_all R later) (c.get_mut.follows.holds new).0
    ∙ either c.replace_step.result
    (on-both (new ≡ cond b c.args.value old)
    (later ≡ cond b (steps ++ record { key = c.args.key; was = Some old } ∷ []) steps) c.replace_step.result
    c.replace_step.ensures.written c.replace_step.ensures.steps_ok)
    (on-err-both (new ≡ old) (later ≡ steps) c.replace_step.result c.replace_step.ensures.err
    c.replace_step.ensures.steps_err)
    (λ both. newer-back R c.args.key b old c.args.value new es steps later found both.0 both.1)
    (λ both. newer-back R c.args.key false old c.args.value new es steps later found both.0 both.1)

pub returns-in-Some-clause-err : goal.returns-in-Some-clause-err
returns-in-Some-clause-err g c =
    let test = is_at (g.K.Ord.cmp c.args.key) in
    let es = c.args.entries.now.entries in
    let old = c.in-Some.older.now in
    let new = c.replace_step.new.older in
    let found : lookup test es ≡ Some old = sym c.get_mut.ensures.value ∙ ap option_copied_mut c.in-Some.is in
    on_err_weaker c.replace_step.result
    (λ is. (c.get_mut.follows.holds new).0 ∙ ap (set_value test es) is ∙ set_value_same test es old found)
    c.replace_step.ensures.err

pub returns-in-Some-clause-placed : goal.returns-in-Some-clause-placed
returns-in-Some-clause-placed g c = λ all.
    let R = g.K.Ord.cmp in
    let es = c.args.entries.now.entries in
    let old = c.in-Some.older.now in
    let new = c.replace_step.new.older in
    let found : lookup (is_at (R c.args.key)) es ≡ Some old = sym c.get_mut.ensures.value ∙ ap option_copied_mut c.in-Some.is in
    subst (HavePlaces R g.V.Lasting.end (all_places c.replace_step.new.ends)) (sym (c.get_mut.follows.holds new).0)
    (places-set R g.V.Lasting.end (all_places c.args.ends.now) (all_places c.replace_step.new.ends) c.args.key old new es found
    c.replace_step.ensures.all_kept c.replace_step.ensures.placed all)

pub returns-in-None-clause-placed : goal.returns-in-None-clause-placed
returns-in-None-clause-placed g c = λ all.
    let R = g.K.Ord.cmp in
    let es = c.get_mut.follows.lender-at-none.entries in
    let same : es ≡ c.args.entries.now.entries = rw c.get_mut.follows.holds-at-none refl in
    let every = subst (HavePlaces R g.V.Lasting.end (all_places c.args.ends.now)) (sym same) all in
    let later = c.insert_step.new.entries.entries in
    let before = all_places c.args.ends.now in
    let places = all_places c.insert_step.new.ends in
    either c.insert_step.result
    (on-both (later ≡ insert_entry R es c.args.key c.args.value)
    ((k : g.row.K.Denot) → is_eq (R c.args.key k) ≡ true
    → has_place R g.V.Lasting.end places (k, c.args.value) ≡ true) c.insert_step.result
    c.insert_step.ensures.written c.insert_step.ensures.placed)
    c.insert_step.ensures.err
    (λ both. subst (HavePlaces R g.V.Lasting.end places) (sym both.0)
    (places-insert R g.met.K.Ord.total g.V.Lasting.end before places c.args.key c.args.value es
    c.insert_step.ensures.all_kept both.1 every))
    (λ is. subst (HavePlaces R g.V.Lasting.end places) (sym is)
    (places-kept R (λ e. g.V.Lasting.end e.1) before places es c.insert_step.ensures.all_kept every))

pub returns-in-None-clause-few : goal.returns-in-None-clause-few
returns-in-None-clause-few g c =
    let R = g.K.Ord.cmp in
    let es = c.args.entries.now.entries in
    let between = c.get_mut.follows.lender-at-none.entries in
    let same : between ≡ es = rw c.get_mut.follows.holds-at-none refl in
    let absent : lookup (is_at (R c.args.key)) es ≡ None = sym c.get_mut.ensures.value ∙ ap option_copied_mut c.in-None.is in
    let more = length-insert R c.args.key c.args.value es absent in
    let later = c.insert_step.new.entries.entries in
    let after = place_count c.insert_step.new.ends in
    let before = place_count c.args.ends.now in
    either c.insert_step.result
    (on-both (later ≡ insert_entry R between c.args.key c.args.value) (after ≡ before + 1) c.insert_step.result
    c.insert_step.ensures.written c.insert_step.ensures.few_ok)
    (on-err-both (later ≡ between) (after ≡ before) c.insert_step.result c.insert_step.ensures.err c.insert_step.ensures.few_err)
    (λ both.
    let is = ap (λ (xs : List (g.row.K.Denot × g.row.V.Denot)). length xs)
    (both.0 ∙ ap (λ (xs : List (g.row.K.Denot × g.row.V.Denot)). insert_entry R xs c.args.key c.args.value) same) in
    let count = both.1 in
    omega (arith, is, more, count))
    (λ both.
    let is = ap (λ (xs : List (g.row.K.Denot × g.row.V.Denot)). length xs) (both.0 ∙ same) in
    let count = both.1 in
    omega (arith, is, count))
