use Rattle.std.proofs.Common.{◌<◌, arith, lit<}
use Rattle.arrayvec.specs.ArrayVec.{array_vec_len}
use Rattle.gdl90_core.proofs.Frames.{length-front}
use Rattle.gdl90_core.proofs.framing.frame_message.Goals as goal

pub push_escaped-requires : goal.push_escaped-requires
push_escaped-requires c =
    omega (
      arith,
      c.requires.fits,
      c.loop-byte-test.true,
      length-front _ _ c.loop-byte.byte-index c.loop-byte.invariant (omega arith),
    )

pub push_escaped-requires-2 : goal.push_escaped-requires-2
push_escaped-requires-2 c =
    omega (
      arith,
      c.requires.fits,
      c.loop-byte.auto.byte-index-end,
      length-front _ _ c.loop-byte.byte-index c.loop-byte.invariant c.loop-byte.auto.byte-index-end,
    )

pub push_escaped-requires-3 : goal.push_escaped-requires-3
push_escaped-requires-3 c =
    omega (
      arith,
      c.requires.fits,
      c.loop-byte.auto.byte-index-end,
      c.push_escaped-2.ensures.room,
      length-front _ _ c.loop-byte.byte-index c.loop-byte.invariant c.loop-byte.auto.byte-index-end,
    )

pub push-requires-2 : goal.push-requires-2
push-requires-2 c =
    let room : array_vec_len c.push_escaped-3.new.out < 2052 =
    omega (
      arith,
      c.requires.fits,
      c.loop-byte.auto.byte-index-end,
      c.push_escaped-2.ensures.room,
      c.push_escaped-3.ensures.room,
      length-front _ _ c.loop-byte.byte-index c.loop-byte.invariant c.loop-byte.auto.byte-index-end,
    ) in
    (lit< tt, room)
