use Rattle.std.proofs.Common.{◌≡◌, drop, length}
use Rattle.fisb_app.specs.Past.{air_heard}
use Rattle.fisb_app.proofs.link.put_wrong.Given as goal

-- with what is still to be put in it is the frame that is heard
abbrev pub invariant-loop-place : goal.invariant-loop-place
invariant-loop-place l = record {
  heard : air_heard (drop l.place-index l.wrong) l.air ≡ air_heard l.wrong l.initial.air;
  long : length l.air ≡ 552;
}
