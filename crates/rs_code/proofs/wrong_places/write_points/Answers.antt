use Rattle.std.proofs.Common.{◌≡◌, ℕ, length, take, get_or, arith, ap, sym, ◌∙◌, length-set}
use Rattle.std.proofs.lemmas.List.{ext_get_or, get_or-take, length-take-le}
use Rattle.poly256.specs.Polynomial.{element_power}
use Rattle.rs_code.specs.Mending.{points_of}
use Rattle.list_members.specs.Places.{set_next}
use Rattle.rs_code.proofs.ZeroPlaces.{length-points_of, get_or-points_of}
use Rattle.rs_code.proofs.wrong_places.write_points.Goals as goal

pub loop-i-preserved : goal.loop-i-preserved
loop-i-preserved g c = record {
  long = length-set _ _ _ ∙ c.loop-i.invariant.long;
  written = set_next (λ (k : ℕ). element_power 2 (get_or c.args.places.now k 0)) c.loop-i.points c.loop-i.i _
      (let l = c.loop-i.invariant.long in let r = c.requires in omega arith)
      (c.byte.ensures ∙ c.pow_alpha.ensures.value ∙ ap (element_power 2) c.from.ensures) c.loop-i.invariant.written;
}

pub returns : goal.returns
returns g c =
    let r = c.requires in
    let l : length (take (length c.args.places.now) c.loop-i.points) ≡ length c.args.places.now =
    length-take-le (length c.args.places.now) c.loop-i.points (let l = c.loop-i.invariant.long in omega arith) in
    ext_get_or 0 (take (length c.args.places.now) c.loop-i.points) (points_of c.args.places.now) (l ∙ sym (length-points_of c.args.places.now))
    (λ i h.
    get_or-take (length c.args.places.now) c.loop-i.points i 0 (omega arith)
    ∙ c.loop-i.invariant.written i (let t = c.loop-i-test.false in omega arith)
    ∙ sym (get_or-points_of c.args.places.now i (omega arith)))
