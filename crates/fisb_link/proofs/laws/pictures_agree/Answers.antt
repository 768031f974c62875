use Rattle.fisb_link.proofs.Agree.{pictures-agree}
use Rattle.fisb_link.proofs.laws.pictures_agree.Goals as goal

pub returns : goal.returns
returns c = pictures-agree (record {
  time = c.form_round_trip.ensures.named;
  apdus = c.apdu_reads_back.ensures;
  shown_fits = c.shown_fits.ensures;
  stations = c.stations_are_told.ensures;
  histories = c.histories_have_items.ensures;
  items = c.items_are_of_stations.ensures;
  segments = c.segments_are_of_items.ensures;
  same_segments = c.segments_are_same.ensures;
  frames = c.frames_read_back.ensures;
  files = record {
    parts = c.parts_fit_frames.ensures;
    only = c.only_files_complete.ensures;
    cut = c.files_complete.ensures;
    uncut = c.whole_files_complete.ensures;
    grows = c.completed_grows.ensures;
  };
  pictures = record {
    same_keys = c.keys_are_ordered.ensures.same;
    is_newest = c.shown_is_newest.ensures.is;
    some = c.shown_is_newest.ensures.some;
    step = c.same_pictures.ensures.step;
    pictures = c.same_pictures.ensures.pictures;
  };
})
