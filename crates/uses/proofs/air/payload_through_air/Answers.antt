use Rattle.std.proofs.Common.{◌≡◌, ◌≢◌, ◌⊎◌, ℕ, ◌+◌, ◌<◌, ◌≤◌, List, length, slice_index, slice_set, Option, Some, None, Ok}
use Rattle.std.proofs.Common.{arith, inl, inr, ap, ◌∙◌}
use Rattle.std.proofs.lemmas.List.{get_or-set_other, length-set}
use Rattle.uplink_weave.specs.Functions.{payload_in, woven_frame}
use Rattle.uplink_weave.specs.Laws.{BurstGivesPayload}
use Rattle.uses.proofs.air.payload_through_air.Goals as goal

apart : (place other : ℕ) → (other < place) ⊎ (place + 60 ≤ other) → other ≢ place
apart place other (inl below) = omega arith
apart place other (inr above) = omega arith

-- a frame in which one byte is another differs only inside 60 places in a row
came : BurstGivesPayload → (payload air : List ℕ) (place heard : ℕ) → length payload ≡ 432
    → ((i : ℕ) → slice_index payload i < 256) → length air ≡ 552 → air ≡ woven_frame payload
    → payload_in (slice_set air place heard) ≡ Some payload
came law payload air place heard full bytes long is =
    law payload (slice_set air place heard) place full bytes (length-set air place heard ∙ long)
    (λ other outside. get_or-set_other air place other heard 0 (apart place other outside)
    ∙ ap (λ frame. slice_index frame other) is)

one-payload : (found : Option (List ℕ)) (a b : List ℕ) → found ≡ Some a → found ≡ Some b → a ≡ b
one-payload found a b p q = cc

no-payload : (found : Option (List ℕ)) (b : List ℕ) → found ≡ None → found ≡ Some b → ⊥
no-payload found b p q = cc

pub returns-in-Ok : goal.returns-in-Ok
returns-in-Ok c = ap Ok (one-payload _ _ _ c.in-Ok.ensures.function
    (came c.burst_gives_payload.ensures c.args.payload.now c.weave.new.air c.args.place c.args.heard
    c.told-payload c.fits-payload c.weave.array_long c.weave.ensures.function))

pub returns-in-Err : goal.returns-in-Err
returns-in-Err c = absurd (no-payload _ _ c.in-Err.ensures.none
    (came c.burst_gives_payload.ensures c.args.payload.now c.weave.new.air c.args.place c.args.heard
    c.told-payload c.fits-payload c.weave.array_long c.weave.ensures.function))
