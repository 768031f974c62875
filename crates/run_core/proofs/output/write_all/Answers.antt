use Rattle.std.proofs.Common.{rules, arith, ◌∙◌}
use Rattle.std.proofs.lemmas.Grind.{common_steps}
use Rattle.run_core.proofs.Sending.{spends-none, appends-more}
use Rattle.run_core.proofs.output.write_all.Goals as goal

pub loop-sent-preserved : goal.loop-sent-preserved
loop-sent-preserved g c = record {
  within = grind (arith, common_steps);
  bytes = appends-more _ _ _ c.args.piece.now c.loop-sent.sent _ c.loop-sent.invariant.bytes c.in_ok-sent.ensures.bytes;
  unfailed = c.in_ok-sent.ensures.kept ∙ c.loop-sent.invariant.unfailed;
  reach_is = search rules;
  asks_none = spends-none _ _ _ c.loop-sent.invariant.asks_none c.in_ok-sent.ensures.spare;
}
