-- The fields side by side in one number, whose bytes stand at the front.
use Rattle.std.proofs.Common.{ap, ◌∙◌, arith}
use Rattle.std.specs.Int.{bytes_high_first}
use Rattle.std.proofs.lemmas.List.{take_at}
use Rattle.uplink_frame.proofs.HeaderBits.{header_in-written}
use Rattle.uplink_frame.proofs.header.write_header.Goals as goal

pub returns-clause-reads_back : goal.returns-clause-reads_back
returns-clause-reads_back c =
    header_in-written _ _ c.requires
    (take_at c.copy_from_slice.new.self _ 8 (omega arith) ∙ c.copy_from_slice.ensures.after ∙ c.to_be_bytes.ensures
    ∙ ap (bytes_high_first 8) (grind arith))
