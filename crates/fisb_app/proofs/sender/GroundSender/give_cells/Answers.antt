use Rattle.fisb_app.proofs.sender.GroundSender.give_cells.Goals as goal

pub returns : goal.returns
returns c = record {
  newest = c.give_cells.ensures.accepted;
  nothing_against = c.give_cells.ensures.nothing_against;
  refused = c.give_cells.ensures.refused;
  same = c.give_cells.ensures.same;
}
