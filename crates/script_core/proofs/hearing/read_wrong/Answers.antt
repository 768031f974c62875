use Rattle.std.proofs.Common.{arith, ℕ, ◌≡◌, ◌+◌, ◌∷◌, length, length-append, sym, ap, ◌∙◌, [], ◌++◌, option_copied}
use Rattle.script_core.specs.Fields.{fields_left, wrong_from}
use Rattle.script_core.proofs.WrongBytes.{wrong_step}
use Rattle.script_core.proofs.ReadLists.{read_before}
use Rattle.script_core.proofs.hearing.read_wrong.Goals as goal

pub loop-field-preserved : goal.loop-field-preserved
loop-field-preserved c =
    let items = c.loop-field.items.items in
    let one : ℕ × ℕ = (c.in-Some-read_wrong_byte.place, c.in-Some-read_wrong_byte.byte) in
    let others = fields_left (option_copied c.in-Some.behind) in
    let pushed : c.push.new.self.items ≡ items ++ one ∷ [] = c.in-Ok.ensures.items in
    let counted = c.loop-field.invariant.count in
    let fields = ap length c.in-Some.ensures in
    let longer = ap length pushed ∙ length-append items (one ∷ []) in
    let range = c.in-Some-read_wrong_byte.ensures.range in
    let below = range.0 in
    record {
      spelled = c.loop-field.invariant.spelled
          ∙ ap (λ left. read_before items (wrong_from c.loop-field.least left)) c.in-Some.ensures
          ∙ wrong_step items c.loop-field.least one c.in-Some.field.now others c.in-Some-read_wrong_byte.ensures.wrong
          ∙ ap (λ now. read_before now (wrong_from (one.0 + 1) others)) (sym pushed)
          ∙ ap (λ place. read_before c.push.new.self.items (wrong_from (place + 1) others)) (sym c.from-least.ensures);
      count = omega (arith, counted, fields, longer);
      least = let same = c.from-least.ensures in omega (arith, below, same);
    }
