-- Every step of a workload is in its ranges.
use Rattle.std.proofs.Common.{◌≡◌, ℕ, zero, suc, ◌+◌, ◌-◌, ◌*◌, ◌%◌, ◌<◌, ◌≤◌, Bool, true, false, cond, eqb, ltb, List, [], ◌∷◌, ◌++◌, length, refl, ap, ◌∙◌, subst, arith, length-append}
use Rattle.std.proofs.lemmas.List.Elements.{All-nil, All-cons, All-append, All-map}
use Rattle.std.specs.Prelude.{codes, flat_map, All, Option, Some, option_to_list}
use Rattle.std.specs.List.{range_with_len}
use Rattle.list_members.specs.ListMembers.{All-members}
use Rattle.workload.specs.declared.step.Step.{Step}
use Rattle.workload.specs.declared.step.Step.TheVariants.{Text, Blanks as blanks_step, Turn as turn_step, Hear, Show}
use Rattle.workload.specs.declared.progress.Phase.{Phase}
use Rattle.workload.specs.declared.progress.Phase.TheVariants.{Metar, Taf, Block, Turn, Hearing, Picture}
use Rattle.workload.specs.declared.progress.Progress.{Progress}
use Rattle.workload.specs.Draws.{state_after, number_from, draws}
use Rattle.workload.specs.Texts.{word, two_digits, report}
use Rattle.workload.specs.Hearings.{place_on_air, block_changes, changes}
use Rattle.workload.specs.Step.{FitsStep}
use Rattle.workload.specs.Workload.{Part, nothing, step, ◌>>◌, each_from, metar, taf, block, blanks, blocks, hearing, second, moment_of_minute, metar_in, taf_in, radar_in, minute, workload}
use Rattle.workload.specs.Progress.{picture_in, turns, after_metars, rest_of_minute, rest, still_to_come}
use Rattle.workload.proofs.Transitions.{minute-is}

-- whatever the draws, each step of the part is in its ranges
abbrev pub Fits : Part → Type 0
Fits part = (state : ℕ) → All FitsStep (part state).0

one : (s : Step) → FitsStep s → All FitsStep (s ∷ [])
one s fits = All-cons FitsStep s [] fits (All-nil FitsStep)

fits-then : (first more : Part) → Fits first → Fits more → Fits (first >> more)
fits-then first more f m state =
    All-append FitsStep (first state).0 (more (first state).1).0 (f state) (m (first state).1)

fits-each : (number count : ℕ) (part : ℕ → Part) → ((n : ℕ) → Fits (part n)) → Fits (each_from number count part)
unfolding each_from
fits-each number zero part f = λ state. All-nil FitsStep
fits-each number (suc more) part f =
    fits-then (part number) (each_from (number + 1) more part) (f number) (fits-each (number + 1) more part f)

fits-if : (b : Bool) (part : Part) → Fits part → Fits (cond b part nothing)
fits-if true part f = f
fits-if false part f = λ state. All-nil FitsStep

-- how long texts are
length-draws : (modulus count state : ℕ) → length (draws modulus count state).0 ≡ count
unfolding draws
length-draws modulus zero state = refl
length-draws modulus (suc more) state = ap suc (length-draws modulus more (state_after state))

length-words : (numbers : List ℕ) → length (flat_map word numbers) ≡ 6 * length numbers
length-words [] = refl
length-words (number ∷ numbers) =
    let rest = length-words numbers in
    omega (arith, length-append (word number) (flat_map word numbers))

length-report : (kind numbers : List ℕ) (station : ℕ) → length (report kind station numbers) ≡ length kind + 5 + 6 * length numbers
length-report kind numbers station =
    let words = length-words numbers in
    let all = length-append (((kind ++ codes " K") ++ two_digits station) ++ codes "X") (flat_map word numbers) in
    let head = length-append ((kind ++ codes " K") ++ two_digits station) (codes "X") in
    let named = length-append (kind ++ codes " K") (two_digits station) in
    let front = length-append kind (codes " K") in
    omega arith

fits-text : (kind : List ℕ) (station count state : ℕ) → length kind ≤ 5 → count ≤ 99 → length (report kind station (draws 100000 count state).0) < 1000
fits-text kind station count state k h =
    omega (arith, length-report kind (draws 100000 count state).0 station, length-draws 100000 count state)

fits-metar : (moment station : ℕ) → Fits (metar moment station)
unfolding metar
fits-metar moment station state =
    one (Text moment (report (codes "METAR") station (draws 100000 (4 + number_from state % 8) (state_after state)).0))
    (fits-text (codes "METAR") station (4 + number_from state % 8) (state_after state) (omega arith) (omega arith))

fits-taf : (moment station : ℕ) → Fits (taf moment station)
unfolding taf
fits-taf moment station state =
    one (Text moment (report (codes "TAF") station (draws 100000 (40 + number_from state % 60) (state_after state)).0))
    (fits-text (codes "TAF") station (40 + number_from state % 60) (state_after state) (omega arith) (omega arith))

-- the blocks
fits-block : (moment number : ℕ) → Fits (block moment number)
unfolding block
fits-block moment number state = one _ tt

fits-blanks : (moment : ℕ) (listed : List ℕ) → Fits (blanks moment listed)
unfolding blanks
fits-blanks moment [] state = All-nil FitsStep
fits-blanks moment (number ∷ numbers) state = one (blanks_step moment (number ∷ numbers)) tt

fits-either : (b : Bool) (part other : Part) → Fits part → Fits other → Fits (cond b part other)
fits-either true part other p o = p
fits-either false part other p o = o

fits-blocks : (moment number count : ℕ) (listed : List ℕ) → Fits (blocks moment listed number count)
unfolding blocks
fits-blocks moment number zero listed = fits-blanks moment listed
fits-blocks moment number (suc more) listed = λ state.
    fits-either (eqb (number_from state % 2) 0) (block moment number >> blocks moment listed (number + 1) more) (blocks moment (listed ++ number ∷ []) (number + 1) more)
    (fits-then (block moment number) (blocks moment listed (number + 1) more) (fits-block moment number) (fits-blocks moment (number + 1) more listed))
    (fits-blocks moment (number + 1) more (listed ++ number ∷ [])) (state_after state)

-- the turns and the hearings
abbrev IsOnAir : ℕ × ℕ → Type 0
IsOnAir change = change.0 < 552

fits-block_changes : (b count first byte : ℕ) → b < 6 → All IsOnAir (block_changes b count first byte)
unfolding block_changes
fits-block_changes b count first byte h =
    All-map IsOnAir (λ t. (place_on_air b ((first + 9 * t) % 92), byte)) (range_with_len 0 count)
    (All-members (λ t. place_on_air b ((first + 9 * t) % 92) < 552) (range_with_len 0 count) (λ t there. omega arith))

fits-changes : (b count state : ℕ) → b + count ≤ 6 → All IsOnAir (changes b count state).0
unfolding changes
fits-changes b zero state h = All-nil IsOnAir
fits-changes b (suc more) state h =
    let inside : b < 6 = omega arith in
    let fewer : b + 1 + more ≤ 6 = omega arith in
    All-append IsOnAir _ _ (fits-block_changes b _ _ _ inside) (fits-changes (b + 1) more _ fewer)

fits-hearing : (moment : ℕ) → Fits (hearing moment)
unfolding hearing
fits-hearing moment = λ state.
    fits-either (eqb (number_from state % 5) 0) nothing (λ s. (Hear moment (changes 0 6 s).0 ∷ [], (changes 0 6 s).1)) (λ s. All-nil FitsStep)
    (λ s. one (Hear moment (changes 0 6 s).0) (fits-changes 0 6 s (omega arith))) (state_after state)

fits-second : (start c : ℕ) → Fits (second start c)
unfolding second
fits-second start c =
    let slot : c % 32 < 32 = omega arith in
    fits-then (step (turn_step (start + c) (c % 32))) (hearing (start + c)) (λ state. one (turn_step (start + c) (c % 32)) slot) (fits-hearing (start + c))

-- a minute
fits-metar_in : (i s : ℕ) → Fits (metar_in i s)
unfolding metar_in
fits-metar_in i s = fits-if (eqb (s % 30) (i % 30)) (metar (moment_of_minute i) s) (fits-metar (moment_of_minute i) s)

fits-taf_in : (i : ℕ) → Fits (taf_in i)
unfolding taf_in
fits-taf_in i = fits-if (ltb (i % 60) 40) (taf (moment_of_minute i) (i % 60)) (fits-taf (moment_of_minute i) (i % 60))

fits-radar_in : (i : ℕ) → Fits (radar_in i)
unfolding radar_in
fits-radar_in i = fits-if (eqb (i % 5) 0) (blocks (moment_of_minute i) [] 99900 900) (fits-blocks (moment_of_minute i) 99900 900 [])

fits-picture : (i : ℕ) → Fits (picture_in i)
unfolding picture_in
fits-picture i state = one (Show (moment_of_minute i + 59)) tt

fits-turns : (i c : ℕ) → Fits (turns i c)
unfolding turns
fits-turns i c = fits-then (each_from c (60 - c) (second (moment_of_minute i))) (picture_in i) (fits-each c (60 - c) (second (moment_of_minute i)) (fits-second (moment_of_minute i))) (fits-picture i)

fits-after_metars : (i : ℕ) → Fits (after_metars i)
unfolding after_metars
fits-after_metars i =
    fits-then (taf_in i) (radar_in i >> turns i 0) (fits-taf_in i) (fits-then (radar_in i) (turns i 0) (fits-radar_in i) (fits-turns i 0))

fits-rest_of_minute : (i : ℕ) (listed : List ℕ) (phase : Phase) → Fits (rest_of_minute i listed phase)
unfolding rest_of_minute
fits-rest_of_minute i listed (Metar s) = fits-then (each_from s (40 - s) (metar_in i)) (after_metars i) (fits-each s (40 - s) (metar_in i) (fits-metar_in i)) (fits-after_metars i)
fits-rest_of_minute i listed Taf = fits-after_metars i
fits-rest_of_minute i listed (Block number) = fits-then (blocks (moment_of_minute i) listed number (100800 - number)) (turns i 0) (fits-blocks (moment_of_minute i) number (100800 - number) listed) (fits-turns i 0)
fits-rest_of_minute i listed (Turn c) = fits-turns i c
fits-rest_of_minute i listed (Hearing c) =
    let more : Part = each_from (c + 1) (60 - (c + 1)) (second (moment_of_minute i)) in
    fits-then (hearing (moment_of_minute i + c) >> more) (picture_in i)
    (fits-then (hearing (moment_of_minute i + c)) more (fits-hearing (moment_of_minute i + c)) (fits-each (c + 1) (60 - (c + 1)) (second (moment_of_minute i)) (fits-second (moment_of_minute i)))) (fits-picture i)
fits-rest_of_minute i listed Picture = fits-picture i

fits-minute : (i : ℕ) → Fits (minute i)
fits-minute i = let P : Part → Type 0 = λ part. Fits part in subst P (minute-is i) (fits-rest_of_minute i [] (Metar 0))

fits-rest : (left i : ℕ) (listed : List ℕ) (phase : Phase) → Fits (rest left i listed phase)
unfolding rest
fits-rest zero i listed phase = λ state. All-nil FitsStep
fits-rest (suc more) i listed phase =
    fits-then (rest_of_minute i listed phase) (each_from (i + 1) more minute) (fits-rest_of_minute i listed phase) (fits-each (i + 1) more minute fits-minute)

pub fits-still_to_come : (p : Progress) → All FitsStep (still_to_come p)
unfolding still_to_come
fits-still_to_come p = fits-rest p.left p.minute p.listed.items p.phase p.draws.state

pub fits-workload : (count seed : ℕ) → All FitsStep (workload count seed)
unfolding workload
fits-workload count seed = fits-each 0 count minute fits-minute seed

-- the first of such steps
pub fits-first : (before after : List Step) (handed : Step) → All FitsStep before → before ≡ handed ∷ after → FitsStep handed
fits-first before after handed all is =
    let P : List Step → Type 0 = λ steps. All FitsStep steps in
    subst P is all 0 handed (omega arith)

-- what is handed out
pub fits-handed : (before after : Progress) (handed : Option Step) (s : Step) → handed ≡ Some s
    → still_to_come before ≡ option_to_list handed ++ still_to_come after → FitsStep s
fits-handed before after handed s some is =
    fits-first (still_to_come before) (still_to_come after) s (fits-still_to_come before)
    (is ∙ ap (λ o. option_to_list o ++ still_to_come after) some)
