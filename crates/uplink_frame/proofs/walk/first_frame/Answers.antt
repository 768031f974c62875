-- The three ways in which the list ends, and the frame at the front of it.
use Rattle.std.proofs.Common.{◌≡◌, ◌+◌, ◌*◌, length, inl, inr, sym, ap, ◌∙◌, arith}
use Rattle.std.proofs.lemmas.List.{take_rest, length-drop}
use Rattle.uplink_frame.specs.UplinkFrame.{length_at_front}
use Rattle.uplink_frame.proofs.FrameList.{ends-few, ends-zeros, ends-cut, length_at_front-two, kind_at_front-two, frames_in-end, frames_in-read}
use Rattle.uplink_frame.proofs.walk.first_frame.Goals as goal

pub returns-in_default : goal.returns-in_default
returns-in_default c = frames_in-end c.args.bytes.now (ends-few c.args.bytes.now c.in_default.len_below)

pub returns-then-kind-eq0 : goal.returns-then-kind-eq0
returns-then-kind-eq0 c =
    let bytes = c.args.bytes.now in
    let size = length_at_front-two bytes c.in-len2-up.len_at_least (omega arith) (omega arith) in
    let kind = kind_at_front-two bytes c.in-len2-up.len_at_least in
    frames_in-end bytes (ends-zeros bytes (omega arith) (kind ∙ c.if-kind-eq0.true))

pub returns-then-rest-length : goal.returns-then-rest-length
returns-then-rest-length c =
    let bytes = c.args.bytes.now in
    let size = length_at_front-two bytes c.in-len2-up.len_at_least (omega arith) (omega arith) in
    frames_in-end bytes (ends-cut bytes (omega (arith, length-drop 2 bytes, ap length (take_rest bytes 2))))

pub returns : goal.returns
returns c =
    let bytes = c.args.bytes.now in
    let front = length_at_front-two bytes c.in-len2-up.len_at_least (omega arith) (omega arith) in
    let size : c.from.result * 2 + c.from-2.result ≡ length_at_front bytes = omega arith in
    frames_in-read bytes c.split_at.result.0.now c.split_at.result.1.now _ _ c.in-len2-up.len_at_least size
    (sym (kind_at_front-two bytes c.in-len2-up.len_at_least))
    c.split_at.ensures.front c.split_at.ensures.back c.if-rest-length.false
    (elim c.else-length-eq0.either [ inl w ↦ (λ none. w.1) | inr w ↦ (λ none zero. w none) ])
