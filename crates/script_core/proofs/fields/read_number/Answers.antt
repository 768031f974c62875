use Rattle.std.proofs.Common.{arith, sym, ◌∙◌}
use Rattle.script_core.proofs.DigitSteps.{front_value, number_above, number_without_digit}
use Rattle.script_core.proofs.fields.read_number.Goals as goal
use Rattle.script_core.proofs.fields.read_number.Goals.{then-not-is_ascii_digit-via-then-not-is_ascii_digit, then-not-is_ascii_digit-via-else-not-is_ascii_digit+then-value-most}

pub returns-then-not-is_ascii_digit-clause-number : goal.returns-then-not-is_ascii_digit-clause-number
returns-then-not-is_ascii_digit-clause-number c =
    let field = c.args.field.now in
    elim c.then-not-is_ascii_digit.branch [
      | then-not-is_ascii_digit-via-then-not-is_ascii_digit w ↦ number_without_digit c.args.low c.args.high c.loop-digit.digit-index field (omega arith) (sym c.is_ascii_digit.ensures.value ∙ w.if-not-is_ascii_digit.true)
      | then-not-is_ascii_digit-via-else-not-is_ascii_digit+then-value-most w ↦
          let front = front_value c.loop-digit.digit-index field in
          number_above c.args.low c.args.high field (omega (arith, front))
    ]
