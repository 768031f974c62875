use Rattle.std.proofs.Common.{ℕ, ◌-◌, ◌*◌, ◌/◌, ◌%◌, ◌^◌, bit_and, length, ap, ◌∙◌, arith}
use Rattle.std.proofs.lemmas.Nat.{and_mask, one_shl}
use Rattle.apdu_core.proofs.bits.Bits.field.Goals as goal

pub returns-clause-value : goal.returns-clause-value
returns-clause-value c = λ header h.
    let n = c.args.self.number / 2 ^ (c.args.self.width - c.args.place - c.args.width) in
    ap (λ (m : ℕ). bit_and n (m - 1)) (one_shl c.args.width 128 (omega arith))
    ∙ and_mask n c.args.width
    ∙ ap (λ (k : ℕ). c.args.self.number / 2 ^ (k - c.args.place - c.args.width) % 2 ^ c.args.width) h.width
    ∙ ap (λ (m : ℕ). m / 2 ^ (8 * length header - c.args.place - c.args.width) % 2 ^ c.args.width) h.number
