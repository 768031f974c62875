use Rattle.std.proofs.Common.{◌∙◌, sym}
use Rattle.dlac_text.specs.Payload.{text_payload}
use Rattle.dlac_text.proofs.Cuts.{packed_step, IsDlac-behind_four}
use Rattle.dlac_text.proofs.encoding.payload_bytes.Goals as goal

pub loop-rest-preserved : goal.loop-rest-preserved
loop-rest-preserved c =
    record {
      joined = packed_step _ _ c.loop-rest.rest.now c.packed_group-group.result _ c.in-len4-up.len_at_least c.loop-rest.invariant.joined (cc) c.in_ok-extend_from_slice.ensures.items;
      alphabet = IsDlac-behind_four c.loop-rest.rest.now c.in-len4-up.len_at_least c.loop-rest.invariant.alphabet;
    }

pub returns : goal.returns
unfolding text_payload
returns c = c.in_ok-push_last_group.ensures ∙ sym c.loop-rest.invariant.joined
