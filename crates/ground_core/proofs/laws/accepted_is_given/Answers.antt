use Rattle.ground_core.proofs.AllGiven.{accepted-given}
use Rattle.ground_core.proofs.laws.accepted_is_given.Goals as goal

pub returns : goal.returns
returns c = accepted-given (record {
  sendable = c.refused_texts.ensures;
  size = c.payload_size.ensures.size;
  bytes = c.payload_size.ensures.bytes;
  reads = c.reading_undoes_writing.ensures.text;
  longest_life = c.longest_is_greatest.ensures.texts;
  same = c.keys_are_ordered.ensures.same;
  few = c.parts_are_few.ensures.texts;
}) (record {
  runs = c.run_records_read_back.ensures;
  blanks = c.blank_records_read_back.ensures;
  groups = c.groups_are_records.ensures;
  longest_life = c.longest_is_greatest.ensures.radars;
  same = c.keys_are_ordered.ensures.same;
  few = c.parts_are_few.ensures.texts;
})
