use Rattle.fisb_app.proofs.sender.GroundSender.give_blanks.Goals as goal

pub returns : goal.returns
returns c = record {
  newest = c.give_blanks.ensures.accepted;
  nothing_against = c.give_blanks.ensures.nothing_against;
  refused = c.give_blanks.ensures.refused;
  same = c.give_blanks.ensures.same;
}
