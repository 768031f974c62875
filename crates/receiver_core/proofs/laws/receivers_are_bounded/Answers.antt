use Rattle.receiver_core.proofs.Bounded.{receiver-bounded}
use Rattle.receiver_core.proofs.laws.receivers_are_bounded.Goals as goal

pub returns : goal.returns
returns c = receiver-bounded record {
  frames = record {
    near = λ form fields received moment is.
        ((c.named_is_greatest.ensures form fields received moment).0 is).candidate.not_ahead;
    headers = c.apdu_reads_back.ensures.header_least;
  };
  texts = c.longest_is_greatest.ensures.texts;
  radars = c.longest_is_greatest.ensures.radars;
  told = c.stations_are_told.ensures;
  stores = c.stores_are_bounded.ensures;
  entries = c.store_is_bounded.ensures;
}
