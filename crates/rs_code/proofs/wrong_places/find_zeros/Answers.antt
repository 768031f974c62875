use Rattle.std.proofs.Common.{◌≡◌, ◌++◌, ◌-◌, take, arith, ap, sym, ◌∙◌, refl, length-set}
use Rattle.std.proofs.lemmas.List.{append-nil}
use Rattle.rs_code.specs.Mending.{zero_places}
use Rattle.rs_code.proofs.ZeroPlaces.{zero_places-none, places_found, places_passed}
use Rattle.rs_code.proofs.wrong_places.find_zeros.Goals.{then-values-place-eq0, else-values-place-eq0}
use Rattle.rs_code.proofs.wrong_places.find_zeros.Goals as goal

pub loop-i-preserved : goal.loop-i-preserved
loop-i-preserved g c =
    let within = c.loop-i.invariant.within in
    let inside = c.loop-i-test.true in
    elim c.if-values-place-eq0.branch [
      | then-values-place-eq0 w ↦
          rw (w.places-is, w.found-is)
          (record {
            long = length-set _ _ _ ∙ c.loop-i.invariant.long;
            within = omega arith;
            all = λ polynomial values.
                places_found polynomial c.loop-i.places c.loop-i.found c.loop-i.i g.row.N (g.row.N - 1 - c.loop-i.i) _
                (omega arith) (sym (values (g.row.N - 1 - c.loop-i.i) (omega arith)) ∙ w.if-values-place-eq0.true) refl
                (let l = c.loop-i.invariant.long in omega arith) (c.loop-i.invariant.all polynomial values);
          })
      | else-values-place-eq0 w ↦
          rw (w.places-is, w.found-is)
          (record {
            long = c.loop-i.invariant.long;
            within = omega arith;
            all = λ polynomial values.
                places_passed polynomial c.loop-i.places c.loop-i.found c.loop-i.i g.row.N (g.row.N - 1 - c.loop-i.i)
                (omega arith) (λ e. w.if-values-place-eq0.false (values (g.row.N - 1 - c.loop-i.i) (omega arith) ∙ e))
                (c.loop-i.invariant.all polynomial values);
          })
    ]

pub returns-clause-places : goal.returns-clause-places
returns-clause-places g c = λ polynomial values.
    let t = c.loop-i-test.false in
    sym (append-nil (take c.loop-i.found c.loop-i.places))
    ∙ ap (λ xs. take c.loop-i.found c.loop-i.places ++ xs)
    (sym (ap (zero_places polynomial) (let e : g.row.N - c.loop-i.i ≡ 0 = omega arith in e) ∙ zero_places-none polynomial))
    ∙ c.loop-i.invariant.all polynomial values
