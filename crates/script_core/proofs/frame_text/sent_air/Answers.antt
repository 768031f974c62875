use Rattle.std.proofs.Common.{◌≡◌, ◌∷◌, [], ◌∙◌, string_bytes, codes, decimal, refl}
use Rattle.std.proofs.lemmas.Result.{IfOk-weaker}
use Rattle.refusal_core.specs.Refusal.{line_of_words}
use Rattle.script_core.proofs.PrintLines.{sent_air_pieces, sent_air_line}
use Rattle.script_core.proofs.frame_text.sent_air.Goals as goal

pub returns : goal.returns
returns c =
    let frame = c.args.frame.now in
    let index = c.args.index in
    let digits = c.args.digits.now in
    IfOk-weaker c.format.result
    (λ s. string_bytes s ≡ sent_air_pieces index c.seconds-moment.result frame.slot frame.bodies frame.used digits)
    (λ s. string_bytes s ≡ line_of_words (codes "sent" ∷ decimal index ∷ decimal frame.moment ∷ decimal frame.slot
    ∷ decimal frame.bodies ∷ decimal frame.used ∷ digits ∷ []))
    (λ s is. is ∙ sent_air_line index frame.slot frame.bodies frame.used c.seconds-moment.ensures.value refl)
    c.format.ensures.ok
