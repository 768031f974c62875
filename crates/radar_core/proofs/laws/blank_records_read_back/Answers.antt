use Rattle.radar_core.proofs.BlankBack.{blank_record-back, blank_record-size}
use Rattle.radar_core.proofs.RecordBytes.{blank_record-bytes}
use Rattle.radar_core.proofs.laws.blank_records_read_back.Goals as goal

pub returns : goal.returns
returns c = λ base further scale number group.
    let size = blank_record-size base further group in
    record {
      same = blank_record-back base further scale number group;
      size = record { least_is = size.0; most_is = size.1 };
      bytes = blank_record-bytes base further group;
    }
