use Rattle.ground_core.proofs.Frames.{frames-read_back}
use Rattle.ground_core.proofs.laws.frames_read_back.Goals as goal

pub returns : goal.returns
returns c = frames-read_back (record {
  stations = c.stations_are_told.ensures;
  bodies = c.bodies_read_back.ensures.back;
  size = c.bodies_read_back.ensures.size;
  apdus = c.apdu_reads_back.ensures;
  parts = c.parts_fit_frames.ensures;
  given = c.accepted_is_given.ensures;
  items_are = c.histories_have_items.ensures;
})
