use Rattle.std.proofs.Common.{◌≡◌, ◌∷◌, map, ◌∙◌, string_bytes, codes, decimal, get_or, length, arith}
use Rattle.std.proofs.lemmas.Result.{IfOk-weaker}
use Rattle.refusal_core.specs.Refusal.{line_of_words}
use Rattle.script_core.proofs.PrintLines.{heard_pieces, heard_line}
use Rattle.script_core.proofs.frame_text.heard_line.Goals as goal

pub returns : goal.returns
returns c =
    let counts = c.args.counts in
    let six : length counts ≡ 6 = omega arith in
    IfOk-weaker c.format.result
    (λ s. string_bytes s ≡ heard_pieces c.seconds-moment.result c.args.slot c.args.site (get_or counts 0 0) (get_or counts 1 0) (get_or counts 2 0) (get_or counts 3 0) (get_or counts 4 0) (get_or counts 5 0))
    (λ s. string_bytes s ≡ line_of_words (codes "heard" ∷ decimal c.args.moment ∷ decimal c.args.slot ∷ decimal c.args.site ∷ map decimal counts))
    (λ s is. is ∙ heard_line c.args.slot c.args.site counts c.seconds-moment.ensures.value six)
    c.format.ensures.ok
