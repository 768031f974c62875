-- The part of an input within the limit.
use Rattle.std.proofs.Common.{◌≡◌, ℕ, ◌+◌, ◌-◌, ◌≤◌, List, [], ◌∷◌, ◌++◌, length, take, arith, ap, ◌∙◌}
use Rattle.std.proofs.lemmas.List.{take-append-le, take_all, take_at}
use Rattle.std.proofs.Math.Seq.{take-append-add}
use Rattle.run_core.specs.Limits.{input_limit}
use Rattle.run_core.specs.Run.{acted_part}

-- of bytes within the limit it is all
pub part-within : (text : List ℕ) → length text ≤ input_limit → acted_part text ≡ text
unfolding acted_part
part-within text within = take_all input_limit text within

-- what comes after the limit is no part of it
pub part-full : (text more : List ℕ) → input_limit ≤ length text → acted_part (text ++ more) ≡ acted_part text
unfolding acted_part
part-full text more full = take-append-le input_limit text more full

take-past : (limit : ℕ) (text more : List ℕ) → length text ≤ limit
    → take limit (text ++ more) ≡ text ++ take (limit - length text) more
take-past limit text more within =
    let same : limit ≡ length text + (limit - length text) = omega (arith, within) in
    ap (λ n. take n (text ++ more)) same ∙ take-append-add text more (limit - length text)

-- bytes within the limit are the first of it
pub part-past : (text more : List ℕ) → length text ≤ input_limit
    → acted_part (text ++ more) ≡ text ++ take (input_limit - length text) more
unfolding acted_part
part-past text more within = take-past input_limit text more within

-- the byte past the limit is not acted on
pub part-one-over : (text : List ℕ) (byte : ℕ) → length text ≡ input_limit → acted_part (text ++ byte ∷ []) ≡ text
unfolding acted_part
part-one-over text byte full = take_at text (byte ∷ []) input_limit full
