use Rattle.std.proofs.Common.{ap, sym, ◌∙◌, ◌<◌, ◌+◌, ◌*◌, ◌/◌, ◌%◌, arith}
use Rattle.std.proofs.lemmas.Result.{on_ok_weaker}
use Rattle.dlac_text.proofs.CharacterRows.{four_in_alphabet}
use Rattle.dlac_text.proofs.ReadingSteps.{four_read}
use Rattle.dlac_text.proofs.reader.Reader.take_three.Goals as goal

pub push_four-requires : goal.push_four-requires
push_four-requires c =
    let some = c.are_characters.ensures c.if-are_characters.true in
    let first : c.args.x / 4 < 64 = omega (arith, c.ranges.x) in
    let second : c.args.x % 4 * 16 + c.args.y / 16 < 64 = omega (arith, c.ranges.y) in
    let third : c.args.y % 16 * 4 + c.args.z / 64 < 64 = omega (arith, c.ranges.z) in
    let fourth : c.args.z % 64 < 64 = omega arith in
    rw (c.character_or_zero-a.ensures, c.character_or_zero-b.ensures, c.character_or_zero-c.ensures, c.character_or_zero-d.ensures)
    (four_in_alphabet _ _ _ _ first second third fourth (λ e. some.0 (c.character_or_zero-a.ensures ∙ e), λ e. some.1 (c.character_or_zero-b.ensures ∙ e), λ e. some.2 (c.character_or_zero-c.ensures ∙ e), λ e. some.3 (c.character_or_zero-d.ensures ∙ e)))

pub returns-then-are_characters : goal.returns-then-are_characters
returns-then-are_characters c =
    let no_tab = ap (λ r. r.is_tab) (sym c.self.view_is) ∙ c.if-not-self.true in
    let some = c.are_characters.ensures c.if-are_characters.true in
    on_ok_weaker c.push_four.result
    (λ pushed. four_read c.args.self.now _ _ _ _ _
    (λ e. some.0 (c.character_or_zero-a.ensures ∙ e), λ e. some.1 (c.character_or_zero-b.ensures ∙ e), λ e. some.2 (c.character_or_zero-c.ensures ∙ e), λ e. some.3 (c.character_or_zero-d.ensures ∙ e)) no_tab (rw (← c.character_or_zero-a.ensures, ← c.character_or_zero-b.ensures, ← c.character_or_zero-c.ensures, ← c.character_or_zero-d.ensures) pushed)) c.push_four.ensures
