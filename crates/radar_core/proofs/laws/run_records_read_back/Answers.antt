use Rattle.radar_core.proofs.ReadBack.{run_record-back, run_record-size}
use Rattle.radar_core.proofs.RecordBytes.{run_record-bytes}
use Rattle.radar_core.proofs.laws.run_records_read_back.Goals as goal

pub returns : goal.returns
returns c = λ key cells fits are.
    let size = run_record-size key cells are in
    record {
      same = run_record-back key cells fits are;
      size = record { least_is = size.1.0; most_is = size.1.1 };
      bytes = run_record-bytes key cells are;
    }
