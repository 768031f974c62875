use Rattle.std.proofs.Common.{◌≡◌, Some, None, refl, sym, subst}
use Rattle.segment_core.specs.Store.{IsNotBefore}
use Rattle.uplink_weave.specs.Functions.{counts_in, lost_block_in, payload_in}
use Rattle.receiver_core.specs.Answers.{HasHeard}
use Rattle.receiver_core.specs.Hearing.{clock_of, payload_refusal}
use Rattle.receiver_core.specs.StandsFor.{StandsFor}
use Rattle.receiver_core.proofs.Hears.{air_refusal}
use Rattle.receiver_core.proofs.receiver.Receiver.hear.Goals as goal

pub returns-clause-heard : goal.returns-clause-heard
returns-clause-heard c = λ table past s.
    let air = c.args.air.now in
    let none : lost_block_in air ≡ None = (c.functions_of_a_frame.ensures.none_lost air).1 (c.in-Ok.ensures.exactly.0 refl) in
    let below : IsNotBefore (clock_of past) c.args.moment = subst
    (λ k. IsNotBefore k c.args.moment) s.clock c.take_payload.ensures.in_time in
    let is = air_refusal past c.args.moment air c.unweave.new.payload below c.in-Ok.ensures.function none in
    let payload = c.unweave.new.payload in
    subst (λ r. HasHeard (StandsFor table c.take_payload.new.self) table past r c.args.moment (payload_in air)
    (counts_in air) c.take_payload.result) is
    (subst (λ p. HasHeard (StandsFor table c.take_payload.new.self) table past
    (payload_refusal payload) c.args.moment p (counts_in air) c.take_payload.result)
    (sym c.in-Ok.ensures.function)
    (subst (λ ns. HasHeard (StandsFor table c.take_payload.new.self) table past
    (payload_refusal payload) c.args.moment (Some payload) ns c.take_payload.result)
    c.in-Ok.ensures.counted (c.take_payload.ensures.heard table past s)))
