use Rattle.std.proofs.Common.{◌≡◌, ◌<◌, ◌≤◌, ◌-◌, ◌+◌, ◌++◌, ℕ, List, length, take, drop, get_or, arith, ap, sym, ◌∙◌, subst, rules}
use Rattle.std.proofs.lemmas.List.{get_or-take, length-take-le, take_at}
use Rattle.poly256.specs.Laws.{AreDifferent}
use Rattle.rs_code.specs.Mending.{points_of, HasLead}
use Rattle.rs_code.proofs.Mended.{TakesMarks, locator_of, few_found, mended}
use Rattle.rs_code.proofs.ZeroPlaces.{zero_points-apart, zero_places-below, length-points_of}
use Rattle.rs_code.proofs.mend.mend_with.Goals as goal

pub add_roots-requires : goal.add_roots-requires
add_roots-requires g c =
    let below = c.requires.instance.below in
    let few = c.requires.few in
    let sums : length c.take_from_sums.new.sums ≡ g.row.ROOTS = c.take_from_sums.auto.sums ∙ c.told-sums in
    let many = length-take-le (g.row.ROOTS - length c.args.marks.now) c.take_from_sums.new.sums (omega arith) in
    let low = c.find_locator-low.ensures.degree in
    let lead : HasLead c.find_locator-low.new.locator c.find_locator-low.result = record {
      lead = c.find_locator-low.ensures.locator.lead;
      past = c.find_locator-low.ensures.locator.past;
    } in
    (search rules, (c.requires.instance.short, (c.requires.inside, (lead, omega arith))))

pub whole_as_front-solve : goal.whole_as_front-solve
whole_as_front-solve g c =
    let is = locator_of g.row.N g.row.ROOTS c.args.marks.now c.take_from_sums.new.sums c.find_locator-low.new.locator c.add_roots.new.polynomial
    c.find_locator-low.result (c.take_from_sums.auto.sums ∙ c.told-sums) c.requires.few c.find_locator-low.ensures.locator
    c.find_locator-low.ensures.degree c.find_locator-low.ensures.long c.find_locator-low.ensures.bytes c.add_roots.ensures.lead
    c.add_roots.ensures.long c.byte_law-2.ensures c.add_roots.ensures.kept c.add_roots.ensures.roots in
    let long : length c.find_places-found.new.places ≡ g.row.N = c.find_places-found.ensures.long in
    let within = c.find_places-found.ensures.within in
    let l : length (take c.find_places-found.result c.find_places-found.new.places) ≡ c.find_places-found.result =
    length-take-le c.find_places-found.result c.find_places-found.new.places (omega arith) in
    let few : c.find_places-found.result ≤ g.row.ROOTS =
    few_found c.field_laws.ensures c.degree_laws.ensures c.few_roots.ensures g.row.N g.row.ROOTS c.args.marks.now c.find_locator-low.new.locator (take (g.row.ROOTS - length c.args.marks.now) c.take_from_sums.new.sums)
    c.add_roots.new.polynomial c.find_places-found.new.places c.find_locator-low.result (c.find_locator-low.result + length c.args.marks.now) c.find_places-found.result is
    c.requires.instance.below c.requires.instance.short long within c.find_places-found.ensures.places in
    (few, search rules)

pub solve-requires : goal.solve-requires
solve-requires g c =
    let is = locator_of g.row.N g.row.ROOTS c.args.marks.now c.take_from_sums.new.sums c.find_locator-low.new.locator c.add_roots.new.polynomial
    c.find_locator-low.result (c.take_from_sums.auto.sums ∙ c.told-sums) c.requires.few c.find_locator-low.ensures.locator
    c.find_locator-low.ensures.degree c.find_locator-low.ensures.long c.find_locator-low.ensures.bytes c.add_roots.ensures.lead
    c.add_roots.ensures.long c.byte_law-2.ensures c.add_roots.ensures.kept c.add_roots.ensures.roots in
    let long : length c.find_places-found.new.places ≡ g.row.N = c.find_places-found.ensures.long in
    let within = c.find_places-found.ensures.within in
    let l : length (take c.find_places-found.result c.find_places-found.new.places) ≡ c.find_places-found.result =
    length-take-le c.find_places-found.result c.find_places-found.new.places (omega arith) in
    let few : c.find_places-found.result ≤ g.row.ROOTS =
    few_found c.field_laws.ensures c.degree_laws.ensures c.few_roots.ensures g.row.N g.row.ROOTS c.args.marks.now c.find_locator-low.new.locator (take (g.row.ROOTS - length c.args.marks.now) c.take_from_sums.new.sums)
    c.add_roots.new.polynomial c.find_places-found.new.places c.find_locator-low.result (c.find_locator-low.result + length c.args.marks.now) c.find_places-found.result is
    c.requires.instance.below c.requires.instance.short long within c.find_places-found.ensures.places in
    let points : take c.find_places-found.result c.write_points.new.points ≡ points_of (take c.find_places-found.result c.find_places-found.new.places) =
    ap (λ (n : ℕ). take n c.write_points.new.points) (sym l) ∙ c.write_points.ensures in
    record {
      long =
          ap length points ∙ length-points_of (take c.find_places-found.result c.find_places-found.new.places) ∙ l
          ∙ sym (length-take-le c.find_places-found.result c.args.sums.now (let m = c.told-sums in omega arith));
      different =
          subst AreDifferent (sym (points ∙ ap points_of c.find_places-found.ensures.places))
          (zero_points-apart c.field_laws.ensures _ g.row.N c.requires.instance.short);
    }

pub add_errors-requires : goal.add_errors-requires
add_errors-requires g c =
    let is = locator_of g.row.N g.row.ROOTS c.args.marks.now c.take_from_sums.new.sums c.find_locator-low.new.locator c.add_roots.new.polynomial
    c.find_locator-low.result (c.take_from_sums.auto.sums ∙ c.told-sums) c.requires.few c.find_locator-low.ensures.locator
    c.find_locator-low.ensures.degree c.find_locator-low.ensures.long c.find_locator-low.ensures.bytes c.add_roots.ensures.lead
    c.add_roots.ensures.long c.byte_law-2.ensures c.add_roots.ensures.kept c.add_roots.ensures.roots in
    let long : length c.find_places-found.new.places ≡ g.row.N = c.find_places-found.ensures.long in
    let within = c.find_places-found.ensures.within in
    let l : length (take c.find_places-found.result c.find_places-found.new.places) ≡ c.find_places-found.result =
    length-take-le c.find_places-found.result c.find_places-found.new.places (omega arith) in
    let few : c.find_places-found.result ≤ g.row.ROOTS =
    few_found c.field_laws.ensures c.degree_laws.ensures c.few_roots.ensures g.row.N g.row.ROOTS c.args.marks.now c.find_locator-low.new.locator (take (g.row.ROOTS - length c.args.marks.now) c.take_from_sums.new.sums)
    c.add_roots.new.polynomial c.find_places-found.new.places c.find_locator-low.result (c.find_locator-low.result + length c.args.marks.now) c.find_places-found.result is
    c.requires.instance.below c.requires.instance.short long within c.find_places-found.ensures.places in
    let solved : length c.solve.new.sums ≡ c.find_places-found.result =
    c.solve.auto.sums ∙ length-take-le c.find_places-found.result c.args.sums.now (let m = c.told-sums in omega arith) in
    let front : take c.find_places-found.result (c.solve.new.sums ++ drop c.find_places-found.result c.args.sums.now) ≡ c.solve.new.sums =
    take_at c.solve.new.sums (drop c.find_places-found.result c.args.sums.now) c.find_places-found.result solved in
    let high = c.requires.instance.high in (
      search rules,
      (
        l ∙ sym (ap length front ∙ solved),
        (
          (λ i h.
              subst (λ (ps : List ℕ). i < length ps → get_or ps i 0 < g.row.N) (sym c.find_places-found.ensures.places)
              (zero_places-below _ g.row.N i) h),
          (
            c.requires.instance.short,
            omega arith,
          ),
        ),
      ),
    )

pub returns : goal.returns
returns g c = λ other near.
    let is = locator_of g.row.N g.row.ROOTS c.args.marks.now c.take_from_sums.new.sums c.find_locator-low.new.locator c.add_roots.new.polynomial
    c.find_locator-low.result (c.take_from_sums.auto.sums ∙ c.told-sums) c.requires.few c.find_locator-low.ensures.locator
    c.find_locator-low.ensures.degree c.find_locator-low.ensures.long c.find_locator-low.ensures.bytes c.add_roots.ensures.lead
    c.add_roots.ensures.long c.byte_law-2.ensures c.add_roots.ensures.kept c.add_roots.ensures.roots in
    let long : length c.find_places-found.new.places ≡ g.row.N = c.find_places-found.ensures.long in
    let within = c.find_places-found.ensures.within in
    let l : length (take c.find_places-found.result c.find_places-found.new.places) ≡ c.find_places-found.result =
    length-take-le c.find_places-found.result c.find_places-found.new.places (omega arith) in
    let few : c.find_places-found.result ≤ g.row.ROOTS =
    few_found c.field_laws.ensures c.degree_laws.ensures c.few_roots.ensures g.row.N g.row.ROOTS c.args.marks.now c.find_locator-low.new.locator (take (g.row.ROOTS - length c.args.marks.now) c.take_from_sums.new.sums)
    c.add_roots.new.polynomial c.find_places-found.new.places c.find_locator-low.result (c.find_locator-low.result + length c.args.marks.now) c.find_places-found.result is
    c.requires.instance.below c.requires.instance.short long within c.find_places-found.ensures.places in
    let points : take c.find_places-found.result c.write_points.new.points ≡ points_of (take c.find_places-found.result c.find_places-found.new.places) =
    ap (λ (n : ℕ). take n c.write_points.new.points) (sym l) ∙ c.write_points.ensures in
    let solved : length c.solve.new.sums ≡ c.find_places-found.result =
    c.solve.auto.sums ∙ length-take-le c.find_places-found.result c.args.sums.now (let m = c.told-sums in omega arith) in
    let front : take c.find_places-found.result (c.solve.new.sums ++ drop c.find_places-found.result c.args.sums.now) ≡ c.solve.new.sums =
    take_at c.solve.new.sums (drop c.find_places-found.result c.args.sums.now) c.find_places-found.result solved in
    let left : length c.take_from_sums.new.sums ≡ g.row.ROOTS = c.take_from_sums.auto.sums ∙ c.told-sums in
    let many : length (take (g.row.ROOTS - length c.args.marks.now) c.take_from_sums.new.sums) ≡ g.row.ROOTS - length c.args.marks.now =
    length-take-le (g.row.ROOTS - length c.args.marks.now) c.take_from_sums.new.sums (omega arith) in
    let takes : TakesMarks g.row.N g.row.ROOTS g.row.FIRST c.args.marks.now c.args.sums.now
    (take (g.row.ROOTS - length c.args.marks.now) c.take_from_sums.new.sums) = λ word long_word sums n h.
    get_or-take (g.row.ROOTS - length c.args.marks.now) c.take_from_sums.new.sums n 0 (omega arith)
    ∙ c.take_from_sums.ensures word g.row.FIRST long_word (λ k h'. sums k (let m = c.told-sums in omega arith)) n (let m = c.told-sums in omega arith) in
    mended c.field_laws.ensures c.degree_laws.ensures c.few_roots.ensures c.value_laws.ensures c.end_zero_laws.ensures g.row.N g.row.ROOTS g.row.FIRST
    c.args.marks.now c.args.word.now other c.args.sums.now (take (g.row.ROOTS - length c.args.marks.now) c.take_from_sums.new.sums) c.find_locator-low.new.locator
    c.add_roots.new.polynomial (take c.find_places-found.result c.find_places-found.new.places)
    (take c.find_places-found.result c.write_points.new.points) c.solve.new.sums c.add_errors.new.word c.find_locator-low.result
    (c.find_locator-low.result + length c.args.marks.now) c.find_places-found.result c.requires.instance near c.requires.inside c.told-word c.byte_law.ensures c.requires.sums takes is
    c.find_places-found.ensures.places points (sym l) c.solve.ensures
    (λ errors long_errors bytes are.
    c.add_errors.ensures errors long_errors bytes
    (λ i h. are i h ∙ ap (λ (us : List ℕ). get_or us i 0) (sym front)))
