-- Draws: a state below 2^64, the numbers that it gives, and what is made with them.
use Rattle.std.specs.Prelude.{ℕ, zero, suc, ◌+◌, ◌*◌, ◌/◌, ◌%◌, ◌^◌, List, [], ◌∷◌}

-- the state after a draw
unfoldable pub state_after : ℕ → ℕ
state_after state = (state * 6364136223846793005 + 1442695040888963407) % 2 ^ 64

-- the number of a draw: the state after it divided by 2^33, whole part
unfoldable pub number_from : ℕ → ℕ
number_from state = state_after state / 2 ^ 33

-- what is made with draws: from the state before them, the thing and the state after them
abbrev pub Drawn : Type 0 → Type 0
Drawn A = ℕ → A × ℕ

-- one draw
abbrev pub draw : Drawn ℕ
draw state = (number_from state, state_after state)

-- what is there without a draw
abbrev pub give : {A : Type 0} → A → Drawn A
give thing state = (thing, state)

-- first the one thing, and with it the other
infixl 10 ◌>>=◌
abbrev pub ◌>>=◌ : {A B : Type 0} → Drawn A → (A → Drawn B) → Drawn B
(made >>= next) state = next (made state).0 (made state).1

-- so many draws, each modulo a number
unfoldable pub draws : ℕ → ℕ → Drawn (List ℕ)
draws modulus zero = give []
draws modulus (suc more) = do
  number ← draw
  numbers ← draws modulus more
  give (number % modulus ∷ numbers)
