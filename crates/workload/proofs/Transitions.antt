-- What is still to come before and after each phase of a minute.
use Rattle.std.proofs.Common.{◌≡◌, ℕ, zero, suc, ◌+◌, ◌-◌, ◌%◌, ◌<◌, ◌≤◌, true, false, cond, eqb, ltb, List, [], ◌∷◌, ◌++◌, refl, sym, ap, ◌∙◌, arith, append_assoc, eq-eqb}
use Rattle.std.proofs.lemmas.Bool.{ne_eqb}
use Rattle.std.proofs.lemmas.Bool.Decides.{nat_tests}
use Rattle.workload.specs.declared.step.Step.{Step}
use Rattle.workload.specs.declared.step.Step.TheVariants.{Blanks as blanks_step, Turn as turn_step, Show as show_step}
use Rattle.workload.specs.declared.progress.Phase.{Phase}
use Rattle.workload.specs.declared.progress.Progress.{Progress}
use Rattle.workload.specs.declared.progress.Phase.TheVariants.{Metar, Taf, Block, Turn, Hearing, Picture}
use Rattle.workload.specs.Draws.{state_after, number_from}
use Rattle.workload.specs.Workload.{Part, nothing, ◌>>◌, each_from, metar, taf, block, blanks, blocks, hearing, second, moment_of_minute, metar_in, taf_in, radar_in, minute}
use Rattle.workload.specs.Progress.{picture_in, turns, after_metars, rest_of_minute, phase_after_taf, rest, still_to_come}

-- The part `before`, from a state, is these steps and then the part `after`, from another state.
abbrev pub Goes : Part → ℕ → List Step → Part → ℕ → Type 0
Goes before state handed after next = before state ≡ (handed ++ (after next).0, (after next).1)

-- what is done first, and what is left then
pub goes-first : (first more : Part) (state next : ℕ) (handed : List Step) → first state ≡ (handed, next) → Goes (first >> more) state handed more next
goes-first first more state next handed is = rw is refl

pub goes-then : (before after more : Part) (state next : ℕ) (handed : List Step) → Goes before state handed after next → Goes (before >> more) state handed (after >> more) next
goes-then before after more state next handed is =
    rw (is, append_assoc handed (after next).0 (more (after next).1).0) refl

each_from-suc : (number more : ℕ) (part : ℕ → Part) → each_from number (suc more) part ≡ (part number >> each_from (number + 1) more part)
unfolding each_from
each_from-suc number more part = refl

each_from-zero : (number : ℕ) (part : ℕ → Part) → each_from number zero part ≡ nothing
unfolding each_from
each_from-zero number part = refl

pub each_from-next : (number last : ℕ) (part : ℕ → Part) → number < last → each_from number (last - number) part ≡ (part number >> each_from (number + 1) (last - (number + 1)) part)
each_from-next number last part h =
    let e : last - number ≡ suc (last - (number + 1)) = omega arith in
    rw e (each_from-suc number (last - (number + 1)) part)

pub each_from-none : (number last : ℕ) (part : ℕ → Part) → last ≤ number → each_from number (last - number) part ≡ nothing
each_from-none number last part h =
    let e : last - number ≡ zero = omega arith in
    rw e (each_from-zero number part)

-- the next of some parts, and what is left then
pub goes-each : (number last state next : ℕ) (part : ℕ → Part) (more : Part) (handed : List Step) → number < last → part number state ≡ (handed, next)
    → Goes (each_from number (last - number) part >> more) state handed (each_from (number + 1) (last - (number + 1)) part >> more) next
goes-each number last state next part more handed h is =
    rw (each_from-next number last part h)
    (goes-then (part number >> each_from (number + 1) (last - (number + 1)) part) (each_from (number + 1) (last - (number + 1)) part) more state next handed
    (goes-first (part number) (each_from (number + 1) (last - (number + 1)) part) state next handed is))

-- after the last of some parts
pub goes-on : (number last state : ℕ) (part : ℕ → Part) (more : Part) → last ≤ number → Goes (each_from number (last - number) part >> more) state [] more state
goes-on number last state part more h = rw (each_from-none number last part h) refl

-- within a minute
rest-goes : (left i state next : ℕ) (listed listed' : List ℕ) (phase phase' : Phase) (handed : List Step) → 0 < left
    → Goes (rest_of_minute i listed phase) state handed (rest_of_minute i listed' phase') next
    → (rest left i listed phase state).0 ≡ handed ++ (rest left i listed' phase' next).0
unfolding rest
rest-goes zero i state next listed listed' phase phase' handed h goes = absurd (omega arith)
rest-goes (suc more) i state next listed listed' phase phase' handed h goes =
    ap (λ d. d.0) (goes-then (rest_of_minute i listed phase) (rest_of_minute i listed' phase') (each_from (i + 1) more minute) state next handed goes)

pub rest-within : (left i state next : ℕ) (listed listed' : List ℕ) (phase before phase' : Phase) (handed : List Step) → 0 < left → phase ≡ before
    → Goes (rest_of_minute i listed before) state handed (rest_of_minute i listed' phase') next
    → (rest left i listed phase state).0 ≡ handed ++ (rest left i listed' phase' next).0
rest-within left i state next listed listed' phase before phase' handed h at goes =
    rw at (rest-goes left i state next listed listed' before phase' handed h goes)

-- after the last minute
pub still_to_come-none : (p : Progress) → p.left ≤ 0 → still_to_come p ≡ []
unfolding still_to_come rest
still_to_come-none p h = let none : p.left ≡ 0 = omega arith in rw none refl

-- a whole minute is what comes from its first METAR on
pub minute-is : (i : ℕ) → rest_of_minute i [] (Metar 0) ≡ minute i
unfolding rest_of_minute after_metars turns picture_in minute
minute-is i = refl

pub rest-start : (count i : ℕ) → rest count i [] (Metar 0) ≡ each_from i count minute
unfolding rest
rest-start zero i = sym (each_from-zero i minute)
rest-start (suc more) i = rw (each_from-suc i more minute, minute-is i) refl

picture-goes : (i state : ℕ) (more : Part) → ((rest_of_minute i [] Picture >> more) state).0 ≡ show_step (moment_of_minute i + 59) ∷ (more state).0
unfolding rest_of_minute picture_in
picture-goes i state more = refl

-- from one minute to the next
rest-after : (left i state : ℕ) → 0 < left → (rest left i [] Picture state).0 ≡ show_step (moment_of_minute i + 59) ∷ (rest (left - 1) (i + 1) [] (Metar 0) state).0
unfolding rest
rest-after zero i state h = absurd (omega arith)
rest-after (suc more) i state h =
    let e : suc more - 1 ≡ more = omega arith in
    rw (e, rest-start more (i + 1)) (picture-goes i state (each_from (i + 1) more minute))

pub rest-picture : (left i state moment : ℕ) (listed : List ℕ) (phase : Phase) → 0 < left → listed ≡ [] → phase ≡ Picture → moment ≡ moment_of_minute i + 59
    → (rest left i listed phase state).0 ≡ show_step moment ∷ (rest (left - 1) (i + 1) listed (Metar 0) state).0
rest-picture left i state moment listed phase h none at shown = rw (none, at, shown) (rest-after left i state h)

-- the METARs
metar_in-none : (i s state : ℕ) → (s % 30 ≡ i % 30 → ⊥) → metar_in i s state ≡ ([], state)
unfolding metar_in
metar_in-none i s state other = rw (ne_eqb (s % 30) (i % 30) other) refl

metar_in-is : (i s : ℕ) → s % 30 ≡ i % 30 → metar_in i s ≡ metar (moment_of_minute i) s
unfolding metar_in
metar_in-is i s same = rw (eq-eqb (s % 30) (i % 30) same) refl

pub metars-none : (i s state : ℕ) (listed : List ℕ) → s < 40 → (s % 30 ≡ i % 30 → ⊥) → Goes (rest_of_minute i listed (Metar s)) state [] (rest_of_minute i listed (Metar (s + 1))) state
unfolding rest_of_minute
metars-none i s state listed h other = goes-each s 40 state state (metar_in i) (after_metars i) [] h (metar_in-none i s state other)

pub metars-next : (i s moment state next : ℕ) (listed : List ℕ) (handed : List Step) → s < 40 → s % 30 ≡ i % 30 → moment ≡ moment_of_minute i + 0 → metar moment s state ≡ (handed, next) → Goes (rest_of_minute i listed (Metar s)) state handed (rest_of_minute i listed (Metar (s + 1))) next
unfolding rest_of_minute
metars-next i s moment state next listed handed h same at is =
    let start : moment_of_minute i ≡ moment = omega arith in
    goes-each s 40 state next (metar_in i) (after_metars i) handed h (rw (metar_in-is i s same, start) is)

pub metars-end : (i s state : ℕ) (listed : List ℕ) → 40 ≤ s → Goes (rest_of_minute i listed (Metar s)) state [] (rest_of_minute i listed Taf) state
unfolding rest_of_minute
metars-end i s state listed h = goes-on s 40 state (metar_in i) (after_metars i) h

-- the TAF
taf_in-none : (i state : ℕ) → 40 ≤ i % 60 → taf_in i state ≡ ([], state)
unfolding taf_in
taf_in-none i state h = let test : ltb (i % 60) 40 ≡ false = grind (arith, nat_tests) in rw test refl

taf_in-is : (i : ℕ) → i % 60 < 40 → taf_in i ≡ taf (moment_of_minute i) (i % 60)
unfolding taf_in
taf_in-is i h = let test : ltb (i % 60) 40 ≡ true = grind (arith, nat_tests) in rw test refl

radar-is : (i : ℕ) → rest_of_minute i [] (phase_after_taf i) ≡ (radar_in i >> turns i 0)
unfolding rest_of_minute phase_after_taf radar_in
radar-is i = elim (eqb (i % 5) 0) as (λ b. rest_of_minute i [] (cond b (Block 99900) (Turn 0)) ≡ (cond b (blocks (moment_of_minute i) [] 99900 900) nothing >> turns i 0)) [ true ↦ refl | false ↦ refl ]

pub taf-none : (i state : ℕ) (listed : List ℕ) (phase : Phase) → 40 ≤ i % 60 → listed ≡ [] → phase ≡ phase_after_taf i
    → Goes (rest_of_minute i listed Taf) state [] (rest_of_minute i listed phase) state
unfolding rest_of_minute after_metars
taf-none i state listed phase h none after = rw (none, after, radar-is i) (goes-first (taf_in i) (radar_in i >> turns i 0) state state [] (taf_in-none i state h))

pub taf-next : (i moment state next : ℕ) (listed : List ℕ) (phase : Phase) (handed : List Step) → i % 60 < 40 → listed ≡ [] → phase ≡ phase_after_taf i → moment ≡ moment_of_minute i + 0
    → taf moment (i % 60) state ≡ (handed, next) → Goes (rest_of_minute i listed Taf) state handed (rest_of_minute i listed phase) next
unfolding rest_of_minute after_metars
taf-next i moment state next listed phase handed h none after at is =
    let start : moment_of_minute i ≡ moment = omega arith in
    rw (none, after, radar-is i) (goes-first (taf_in i) (radar_in i >> turns i 0) state next handed (rw (taf_in-is i h, start) is))

-- the blocks
blocks-next : (moment number state : ℕ) (listed : List ℕ) → number < 100800 → blocks moment listed number (100800 - number) state
    ≡ cond (eqb (number_from state % 2) 0)
    (block moment number >> blocks moment listed (number + 1) (100800 - (number + 1)))
    (blocks moment (listed ++ number ∷ []) (number + 1) (100800 - (number + 1))) (state_after state)
unfolding blocks
blocks-next moment number state listed h = let e : 100800 - number ≡ suc (100800 - (number + 1)) = omega arith in rw e refl

blocks-last : (moment number : ℕ) (listed : List ℕ) → 100800 ≤ number → blocks moment listed number (100800 - number) ≡ blanks moment listed
unfolding blocks
blocks-last moment number listed h = let e : 100800 - number ≡ zero = omega arith in rw e refl

pub blocks-even : (i number moment state drawn middle next : ℕ) (listed : List ℕ) (handed : List Step) → number < 100800
    → drawn ≡ number_from state → middle ≡ state_after state → drawn % 2 ≡ 0 → moment ≡ moment_of_minute i + 0 → block moment number middle ≡ (handed, next)
    → Goes (rest_of_minute i listed (Block number)) state handed (rest_of_minute i listed (Block (number + 1))) next
unfolding rest_of_minute
blocks-even i number moment state drawn middle next listed handed h d m even at is =
    let start : moment_of_minute i ≡ moment = omega arith in
    let given : block (moment_of_minute i) number middle ≡ (handed, next) = rw start is in
    let more : Part = blocks (moment_of_minute i) listed (number + 1) (100800 - (number + 1)) in
    let test : eqb (number_from state % 2) 0 ≡ true = eq-eqb (number_from state % 2) 0 (ap (λ n. n % 2) (sym d) ∙ even) in
    goes-then (blocks (moment_of_minute i) listed number (100800 - number)) more (turns i 0) state next handed
    (blocks-next (moment_of_minute i) number state listed h ∙ rw (test, ← m) (goes-first (block (moment_of_minute i) number) more middle next handed given))

pub blocks-odd : (i number state drawn middle : ℕ) (listed listed' : List ℕ) → number < 100800
    → drawn ≡ number_from state → middle ≡ state_after state → (drawn % 2 ≡ 0 → ⊥) → listed' ≡ listed ++ number ∷ []
    → Goes (rest_of_minute i listed (Block number)) state [] (rest_of_minute i listed' (Block (number + 1))) middle
unfolding rest_of_minute
blocks-odd i number state drawn middle listed listed' h d m odd put =
    let more : Part = blocks (moment_of_minute i) (listed ++ number ∷ []) (number + 1) (100800 - (number + 1)) in
    let test : eqb (number_from state % 2) 0 ≡ false = ne_eqb (number_from state % 2) 0 (λ e. odd (ap (λ n. n % 2) d ∙ e)) in
    rw put (goes-then (blocks (moment_of_minute i) listed number (100800 - number)) more (turns i 0) state middle []
    (blocks-next (moment_of_minute i) number state listed h ∙ rw (test, ← m) refl))

-- the listed blocks
pub blanks-none : (i number state : ℕ) (listed : List ℕ) → 100800 ≤ number → listed ≡ []
    → Goes (rest_of_minute i listed (Block number)) state [] (rest_of_minute i listed (Turn 0)) state
unfolding rest_of_minute blanks
blanks-none i number state listed h none =
    goes-first (blocks (moment_of_minute i) listed number (100800 - number)) (turns i 0) state state [] (rw (blocks-last (moment_of_minute i) number listed h, none) refl)

blanks-some : (moment state : ℕ) (listed : List ℕ) → (listed ≡ [] → ⊥) → blanks moment listed state ≡ (blanks_step moment listed ∷ [], state)
unfolding blanks
blanks-some moment state [] some = absurd (some refl)
blanks-some moment state (number ∷ numbers) some = refl

pub blanks-next : (i number moment state : ℕ) (listed listed' numbers : List ℕ) → 100800 ≤ number → (listed ≡ [] → ⊥) → moment ≡ moment_of_minute i + 0 → numbers ≡ listed
    → Goes (rest_of_minute i listed (Block number)) state (blanks_step moment numbers ∷ []) (rest_of_minute i listed' (Turn 0)) state
unfolding rest_of_minute
blanks-next i number moment state listed listed' numbers h some at are =
    let start : moment ≡ moment_of_minute i = omega arith in
    goes-first (blocks (moment_of_minute i) listed number (100800 - number)) (turns i 0) state state (blanks_step moment numbers ∷ [])
    (rw (blocks-last (moment_of_minute i) number listed h, start, are) (blanks-some (moment_of_minute i) state listed some))

-- the turns
second-goes : (start c state : ℕ) → Goes (second start c) state (turn_step (start + c) (c % 32) ∷ []) (hearing (start + c)) state
unfolding second
second-goes start c state = refl

pub turns-next : (i c moment state : ℕ) (listed : List ℕ) → c < 60 → moment ≡ moment_of_minute i + c
    → Goes (rest_of_minute i listed (Turn c)) state (turn_step moment (c % 32) ∷ []) (rest_of_minute i listed (Hearing c)) state
unfolding rest_of_minute turns
turns-next i c moment state listed h at =
    let more : Part = each_from (c + 1) (60 - (c + 1)) (second (moment_of_minute i)) in
    rw (each_from-next c 60 (second (moment_of_minute i)) h, at)
    (goes-then (second (moment_of_minute i) c >> more) (hearing (moment_of_minute i + c) >> more) (picture_in i) state state (turn_step (moment_of_minute i + c) (c % 32) ∷ [])
    (goes-then (second (moment_of_minute i) c) (hearing (moment_of_minute i + c)) more state state (turn_step (moment_of_minute i + c) (c % 32) ∷ []) (second-goes (moment_of_minute i) c state)))

pub turns-end : (i c state : ℕ) (listed : List ℕ) → 60 ≤ c → Goes (rest_of_minute i listed (Turn c)) state [] (rest_of_minute i listed Picture) state
unfolding rest_of_minute turns
turns-end i c state listed h = goes-on c 60 state (second (moment_of_minute i)) (picture_in i) h

-- the hearings
pub hearings-next : (i c moment state next : ℕ) (listed : List ℕ) (handed : List Step) → moment ≡ moment_of_minute i + c → hearing moment state ≡ (handed, next)
    → Goes (rest_of_minute i listed (Hearing c)) state handed (rest_of_minute i listed (Turn (c + 1))) next
unfolding rest_of_minute turns
hearings-next i c moment state next listed handed at is =
    let heard : hearing (moment_of_minute i + c) state ≡ (handed, next) = rw (← at) is in
    let more : Part = each_from (c + 1) (60 - (c + 1)) (second (moment_of_minute i)) in
    goes-then (hearing (moment_of_minute i + c) >> more) more (picture_in i) state next handed (goes-first (hearing (moment_of_minute i + c)) more state next handed heard)
