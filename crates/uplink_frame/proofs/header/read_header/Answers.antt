-- The eight bytes as one number, and its fields.
use Rattle.std.proofs.Common.{arith, ap, sym, ◌∙◌}
use Rattle.uplink_frame.proofs.HeaderBits.{bits_read, header_in-bits, header_of_bits, read_is}
use Rattle.uplink_frame.proofs.header.read_header.Goals as goal

pub returns : goal.returns
returns c =
    read_is c.from_be_bytes-bits.result _ _ _ _ _ _ _ c.field.ensures.value c.field-2.ensures.value c.field-3.ensures.value
    c.field-4.ensures.value c.field-5.ensures.value c.field-6.ensures.value c.field-7.ensures.value
    ∙ ap header_of_bits (bits_read c.args.payload.now c.from_be_bytes-bits.result (omega arith) c.from_be_bytes-bits.ensures)
    ∙ sym (header_in-bits c.args.payload.now (omega arith))
