-- A key without a value, one whose value lives, and one whose value is over.
use Rattle.std.proofs.Common.{◌∷◌, ◌∙◌, ◌<◌, ◌≤◌, sym, arith}
use Rattle.std.specs.BTreeMap.{is_at}
use Rattle.std.specs.Map.{lookup}
use Rattle.std.proofs.lemmas.List.Sorted.{length_permutation}
use Rattle.list_members.specs.Tests.{none_mapped, mapped_from}
use Rattle.undo_map.proofs.OverLemmas.{absent-kept, absent-placed, length-removed, live-kept, live-placed, over-dropped, over-placed}
use Rattle.undo_map.proofs.PlaceLemmas.{left-behind}
use Rattle.undo_map.proofs.lasting.drop_key.Goals as goal

pub returns-in_default-clause-entries : goal.returns-in_default-clause-entries
returns-in_default-clause-entries g c =
    let found = lookup (is_at (g.K.Ord.cmp c.args.key)) c.args.map.now.entries in
    sym (absent-kept g.K.Ord.cmp g.V.Lasting.end c.args.now c.args.key c.args.map.now.entries
    (none_mapped g.V.Lasting.end found (sym c.end_under.ensures.end ∙ c.in_default.is)))

pub returns-in_default-clause-placed : goal.returns-in_default-clause-placed
returns-in_default-clause-placed g c = λ at placed.
    let found = lookup (is_at (g.K.Ord.cmp c.args.key)) c.args.map.now.entries in
    absent-placed g.K.Ord.cmp (λ e. g.V.Lasting.end e.1) at c.args.key ((at, c.args.key) ∷ c.args.ends.now.places)
    c.args.ends.now.places c.args.map.now.entries (left-behind (at, c.args.key) c.args.ends.now.places)
    (none_mapped g.V.Lasting.end found (sym c.end_under.ensures.end ∙ c.in_default.is)) placed

pub returns-then-now-end-clause-entries : goal.returns-then-now-end-clause-entries
returns-then-now-end-clause-entries g c =
    let found = lookup (is_at (g.K.Ord.cmp c.args.key)) c.args.map.now.entries in
    let value = mapped_from g.V.Lasting.end found c.in-Some.end (sym c.end_under.ensures.end ∙ c.in-Some.is) in
    let lives : c.args.now < g.V.Lasting.end value.0 = rw value.2 (omega arith) in
    sym (live-kept g.K.Ord.cmp g.met.K.Ord.total g.V.Lasting.end c.args.now c.args.key value.0 c.args.map.now.entries
    c.end_under.ensures.ordered value.1 lives)

pub returns-then-now-end-clause-placed : goal.returns-then-now-end-clause-placed
returns-then-now-end-clause-placed g c = λ at placed.
    let found = lookup (is_at (g.K.Ord.cmp c.args.key)) c.args.map.now.entries in
    let value = mapped_from g.V.Lasting.end found c.in-Some.end (sym c.end_under.ensures.end ∙ c.in-Some.is) in
    live-placed g.K.Ord.cmp g.met.K.Ord.total g.V.Lasting.end at c.args.key value.0 c.args.ends.now.places
    c.add_again.new.self.places c.args.map.now.entries c.end_under.ensures.ordered value.1
    (rw value.2 c.add_again.ensures.places) placed

pub returns-then-now-end-clause-due : goal.returns-then-now-end-clause-due
returns-then-now-end-clause-due g c = c.add_again.ensures.due c.args.now (omega arith)

pub returns-clause-entries : goal.returns-clause-entries
returns-clause-entries g c =
    let found = lookup (is_at (g.K.Ord.cmp c.args.key)) c.args.map.now.entries in
    let value = mapped_from g.V.Lasting.end found c.in-Some.end (sym c.end_under.ensures.end ∙ c.in-Some.is) in
    let ended : g.V.Lasting.end value.0 ≤ c.args.now = rw value.2 (omega arith) in
    c.remove.ensures.entries
    ∙ over-dropped g.K.Ord.cmp g.met.K.Ord.total g.V.Lasting.end c.args.now c.args.key value.0 c.args.map.now.entries
    c.end_under.ensures.ordered value.1 ended

pub returns-clause-placed : goal.returns-clause-placed
returns-clause-placed g c = λ at placed.
    rw c.remove.ensures.entries
    (over-placed g.K.Ord.cmp g.met.K.Ord.total (λ e. g.V.Lasting.end e.1) at c.args.key
    ((at, c.args.key) ∷ c.args.ends.now.places) c.args.ends.now.places c.args.map.now.entries c.end_under.ensures.ordered
    (left-behind (at, c.args.key) c.args.ends.now.places) placed)

pub returns-then-now-end-clause-few : goal.returns-then-now-end-clause-few
returns-then-now-end-clause-few g c = λ bound.
    let more = length_permutation _ _ c.add_again.ensures.places in omega (arith, more, bound)

pub returns-clause-few : goal.returns-clause-few
returns-clause-few g c = λ bound.
    let found = lookup (is_at (g.K.Ord.cmp c.args.key)) c.args.map.now.entries in
    let value = mapped_from g.V.Lasting.end found c.in-Some.end (sym c.end_under.ensures.end ∙ c.in-Some.is) in
    let left = length-removed (is_at (g.K.Ord.cmp c.args.key)) c.args.map.now.entries value.0 value.1 in
    rw c.remove.ensures.entries (omega (arith, left, bound))
