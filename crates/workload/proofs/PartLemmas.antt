-- What the parts of a minute give.
use Rattle.std.proofs.Common.{◌≡◌, ℕ, ◌+◌, ◌%◌, List, [], ◌∷◌, eqb, true, false, refl, sym, ap, ◌∙◌}
use Rattle.std.proofs.lemmas.Bool.{eq-eqb, ne_eqb}
use Rattle.std.specs.Prelude.{codes, ◌≢◌}
use Rattle.workload.specs.declared.step.Step.TheVariants.{Text, Block, Hear}
use Rattle.workload.specs.Draws.{state_after, number_from, draws}
use Rattle.workload.specs.Texts.{report}
use Rattle.workload.specs.Blocks.{cells_of}
use Rattle.workload.specs.Hearings.{changes}
use Rattle.workload.specs.Workload.{metar, taf, block, hearing}

pub metar-is : (moment station state number middle after : ℕ) (text : List ℕ)
    → number ≡ number_from state → middle ≡ state_after state
    → text ≡ report (codes "METAR") station (draws 100000 (4 + number % 8) middle).0
    → after ≡ (draws 100000 (4 + number % 8) middle).1
    → metar moment station state ≡ (Text moment text ∷ [], after)
unfolding metar
metar-is moment station state number middle after text n m is left = rw (is, left, n, m) refl

pub taf-is : (moment station state number middle after : ℕ) (text : List ℕ)
    → number ≡ number_from state → middle ≡ state_after state
    → text ≡ report (codes "TAF") station (draws 100000 (40 + number % 60) middle).0
    → after ≡ (draws 100000 (40 + number % 60) middle).1
    → taf moment station state ≡ (Text moment text ∷ [], after)
unfolding taf
taf-is moment station state number middle after text n m is left = rw (is, left, n, m) refl

pub block-is : (moment number state after : ℕ) (intensities cells : List ℕ)
    → intensities ≡ (draws 8 16 state).0 → cells ≡ cells_of intensities → after ≡ (draws 8 16 state).1
    → block moment number state ≡ (Block moment number cells ∷ [], after)
unfolding block
block-is moment number state after intensities cells drawn is left = rw (is, drawn, left) refl

pub hearing-none : (moment state number after : ℕ) → number ≡ number_from state → number % 5 ≡ 0 → after ≡ state_after state → hearing moment state ≡ ([], after)
unfolding hearing
hearing-none moment state number after n fifth left =
    let test : eqb (number_from state % 5) 0 ≡ true = eq-eqb (number_from state % 5) 0 (ap (λ d. d % 5) (sym n) ∙ fifth) in
    rw (test, left) refl

pub hearing-is : (moment state number middle after : ℕ) (wrong : List (ℕ × ℕ))
    → number ≡ number_from state → number % 5 ≢ 0 → middle ≡ state_after state
    → wrong ≡ (changes 0 6 middle).0 → after ≡ (changes 0 6 middle).1
    → hearing moment state ≡ (Hear moment wrong ∷ [], after)
unfolding hearing
hearing-is moment state number middle after wrong n other m is left =
    let same : number_from state % 5 ≡ number % 5 = ap (λ d. d % 5) (sym n) in
    let test : eqb (number_from state % 5) 0 ≡ false = ne_eqb (number_from state % 5) 0 (λ e. other (sym same ∙ e)) in
    rw (test, is, left, m) refl
