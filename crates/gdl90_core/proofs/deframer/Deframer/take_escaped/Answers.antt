use Rattle.std.proofs.Common.{refl}
use Rattle.gdl90_core.proofs.Steps.{escape_at}
use Rattle.gdl90_core.proofs.deframer.Deframer.take_escaped.Goals as goal

pub returns-then-byte-eq-ESCAPED_FLAG : goal.returns-then-byte-eq-ESCAPED_FLAG
returns-then-byte-eq-ESCAPED_FLAG c = λ bytes keeps.
    escape_at c.push.new.self bytes 0x7E 0x5E c.args.byte c.if-byte-eq-ESCAPED_FLAG.true refl (c.push.ensures bytes keeps)

pub returns-then-byte-eq-ESCAPED_ESCAPE : goal.returns-then-byte-eq-ESCAPED_ESCAPE
returns-then-byte-eq-ESCAPED_ESCAPE c = λ bytes keeps.
    escape_at c.push-then-byte-eq-ESCAPED_ESCAPE.new.self bytes 0x7D 0x5D c.args.byte c.if-byte-eq-ESCAPED_ESCAPE.true refl
    (c.push-then-byte-eq-ESCAPED_ESCAPE.ensures bytes keeps)
