use Rattle.apdu_core.proofs.ApduLemmas.{header_least, header_most}
use Rattle.apdu_core.proofs.WritingLemmas.{reads_back, size_of_bytes, bytes_of_bytes}
use Rattle.apdu_core.proofs.laws.apdu_reads_back.Goals as goal

pub returns : goal.returns
returns c = record {
  same = reads_back;
  size = size_of_bytes;
  bytes = bytes_of_bytes;
  header_least = header_least;
  header_most = header_most;
}
