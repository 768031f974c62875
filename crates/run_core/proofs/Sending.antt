-- Writing a piece part by part.
use Rattle.std.proofs.Common.{◌≡◌, ℕ, ◌+◌, ◌-◌, ◌≤◌, List, ◌++◌, length, take, drop, Option, Some, None, ◌∙◌, ap, append_assoc, rules, arith}
use Rattle.std.proofs.lemmas.List.{take_rest}
use Rattle.std.proofs.Math.Seq.{take-add}
use Rattle.std.specs.Io.KnownBytes.{Appends}
use Rattle.fisb_wire.specs.Ends.{SpendsCount}

-- so many bytes of the piece were written, and no write failed
pub record HasSent (before after : Option (List ℕ)) (wb wa : ℕ) (reach_before reach_after spare : Option ℕ)
    (piece : List ℕ) (sent : ℕ) : Type 0 where
  pub within : sent ≤ length piece
  pub bytes : Appends before after (take sent piece)
  pub unfailed : wa ≡ wb
  pub reach_is : reach_after ≡ reach_before
  pub asks_none : spare ≡ None

-- a sink that asks no room goes on to ask none
pub spends-none : (old new : Option ℕ) (n : ℕ) → old ≡ None → SpendsCount old new n → new ≡ None
spends-none None new n e s = s
spends-none (Some k) new n e s = grind arith

pub appends-more : (a b c : Option (List ℕ)) (p : List ℕ) (i n : ℕ)
    → Appends a b (take i p) → Appends b c (take n (take (length p - i) (drop i p))) → Appends a c (take (i + n) p)
appends-more None b c p i n first next = search rules
appends-more (Some x) None c p i n first next = elim first [ ]
appends-more (Some x) (Some y) None p i n first next = elim next [ ]
appends-more (Some x) (Some y) (Some z) p i n first next =
    rw (take-add i n p)
    (next ∙ ap (λ q. y ++ take n q) (take_rest p i) ∙ ap (λ q. q ++ take n (drop i p)) first
    ∙ append_assoc x (take i p) (take n (drop i p)))
