use Rattle.fisb_app.proofs.sender.GroundSender.give_text.Goals as goal

pub returns : goal.returns
returns c = record {
  newest = c.give_text.ensures.accepted;
  nothing_against = c.give_text.ensures.nothing_against;
  refused = c.give_text.ensures.refused;
  same = c.give_text.ensures.same;
}
