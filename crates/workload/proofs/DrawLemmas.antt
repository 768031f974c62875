-- Draws one by one.
use Rattle.std.proofs.Common.{◌≡◌, ℕ, zero, suc, ◌+◌, ◌-◌, ◌*◌, ◌/◌, ◌%◌, ◌<◌, List, [], ◌∷◌, ◌++◌, length, take, set, refl, sym, ap, ◌∙◌, arith, append_assoc}
use Rattle.std.proofs.Math.Seq.{take-length}
use Rattle.std.proofs.lemmas.List.{append-nil, take_more_set}
use Rattle.std.proofs.Math.Nat.{mod-add-mod}
use Rattle.std.proofs.lemmas.List.Elements.{All-nil, All-cons}
use Rattle.std.specs.List.{All, flat_map}
use Rattle.workload.specs.Draws.{state_after, number_from, draws}
use Rattle.workload.specs.Texts.{word, five_digits}

pub state_after-wrapping : (state : ℕ) → (state * 6364136223846793005 % 18446744073709551616 + 1442695040888963407) % 18446744073709551616 ≡ state_after state
unfolding state_after
state_after-wrapping state = mod-add-mod (state * 6364136223846793005) 18446744073709551616 1442695040888963407

pub number_from-wrapping : (state : ℕ) → (state * 6364136223846793005 % 18446744073709551616 + 1442695040888963407) % 18446744073709551616 / 8589934592 ≡ number_from state
unfolding number_from
number_from-wrapping state = ap (λ n. n / 8589934592) (state_after-wrapping state)

pub draws-suc : (modulus more state : ℕ) → draws modulus (suc more) state ≡ (number_from state % modulus ∷ (draws modulus more (state_after state)).0, (draws modulus more (state_after state)).1)
unfolding draws
draws-suc modulus more state = refl

pub draws-zero : (modulus state : ℕ) → draws modulus zero state ≡ ([], state)
unfolding draws
draws-zero modulus state = refl

-- the first of the draws that are left
pub draws-next : (modulus count done state : ℕ) → done < count → draws modulus (count - done) state ≡ (number_from state % modulus ∷ (draws modulus (count - (done + 1)) (state_after state)).0, (draws modulus (count - (done + 1)) (state_after state)).1)
draws-next modulus count done state h =
    let e : count - done ≡ suc (count - (done + 1)) = omega arith in
    rw e (draws-suc modulus (count - (done + 1)) state)

-- a word more of a text
pub words-next : (text : List ℕ) (modulus count done state : ℕ) → done < count → ((text ++ 32 ∷ []) ++ five_digits (number_from state % modulus)) ++ flat_map word (draws modulus (count - (done + 1)) (state_after state)).0 ≡ text ++ flat_map word (draws modulus (count - done) state).0
words-next text modulus count done state h =
    rw (draws-next modulus count done state h)
    (append_assoc (text ++ 32 ∷ []) (five_digits (number_from state % modulus)) (flat_map word (draws modulus (count - (done + 1)) (state_after state)).0)
    ∙ append_assoc text (32 ∷ []) (five_digits (number_from state % modulus) ++ flat_map word (draws modulus (count - (done + 1)) (state_after state)).0))

-- draws modulo a number are below it
pub draws-below : (modulus count state : ℕ) → 0 < modulus → All (λ n. n < modulus) (draws modulus count state).0
draws-below modulus zero state h = rw (draws-zero modulus state) (All-nil (λ n. n < modulus))
draws-below modulus (suc more) state h =
    let first : number_from state % modulus < modulus = omega arith in
    rw (draws-suc modulus more state)
    (All-cons (λ n. n < modulus) (number_from state % modulus) (draws modulus more (state_after state)).0 first (draws-below modulus more (state_after state) h))

-- after the last of the draws
pub draws-none : (modulus count done state : ℕ) → count ≡ done → draws modulus (count - done) state ≡ ([], state)
draws-none modulus count done state h = let e : count - done ≡ 0 = omega arith in rw e (draws-zero modulus state)

-- the state after the last of the draws
pub draws-end : (modulus count done state last : ℕ) → count ≡ done → (draws modulus (count - done) state).1 ≡ last → state ≡ last
draws-end modulus count done state last h left = let none = draws-none modulus count done state h in cc

-- a word more, and what is left then
pub words-more : (text spaced written whole : List ℕ) (modulus count done state number after last : ℕ)
    → spaced ≡ text ++ 32 ∷ [] → number ≡ number_from state → after ≡ state_after state
    → written ≡ spaced ++ five_digits (number % modulus) → done < count
    → text ++ flat_map word (draws modulus (count - done) state).0 ≡ whole
    → (draws modulus (count - done) state).1 ≡ last
    → (written ++ flat_map word (draws modulus (count - (done + 1)) after).0 ≡ whole)
    × ((draws modulus (count - (done + 1)) after).1 ≡ last)
words-more text spaced written whole modulus count done state number after last s n a w h is left =
    let next = words-next text modulus count done state h in
    let draw = draws-next modulus count done state h in
    (rw (w, s, n, a) (next ∙ is), rw a (cc))

-- a text after its last word
pub words-end : (text whole : List ℕ) (modulus count done state : ℕ) → count ≡ done → text ++ flat_map word (draws modulus (count - done) state).0 ≡ whole → text ≡ whole
words-end text whole modulus count done state h is =
    sym (append-nil text) ∙ ap (λ d. text ++ flat_map word d.0) (sym (draws-none modulus count done state h)) ∙ is

-- a number more in a list, and what is left then
pub numbers-more : (numbers whole : List ℕ) (modulus count done state number after last : ℕ)
    → number ≡ number_from state → after ≡ state_after state → done < count → count ≡ length numbers
    → take done numbers ++ (draws modulus (count - done) state).0 ≡ whole
    → (draws modulus (count - done) state).1 ≡ last
    → (take (done + 1) (set numbers done (number % modulus)) ++ (draws modulus (count - (done + 1)) after).0 ≡ whole)
    × ((draws modulus (count - (done + 1)) after).1 ≡ last)
numbers-more numbers whole modulus count done state number after last n a h long is left =
    let draw = draws-next modulus count done state h in
    let inside : done < length numbers = omega arith in
    let more = take_more_set numbers done (number % modulus) inside in
    (rw (more, n, a, append_assoc) (ap (λ d. take done numbers ++ d.0) (sym draw) ∙ is), rw a (cc))

-- a list after its last number
pub numbers-end : (numbers whole : List ℕ) (modulus count done state : ℕ) → count ≡ done → count ≡ length numbers → take done numbers ++ (draws modulus (count - done) state).0 ≡ whole → numbers ≡ whole
numbers-end numbers whole modulus count done state h long is =
    sym (take-length numbers) ∙ ap (λ n. take n numbers) (sym long ∙ h) ∙ sym (append-nil (take done numbers))
    ∙ ap (λ d. take done numbers ++ d.0) (sym (draws-none modulus count done state h)) ∙ is
