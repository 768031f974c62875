-- The law of the two pictures.
use Rattle.std.specs.Prelude.{◌≡◌, ℕ, List, ◌∷◌}
use Rattle.life_table.specs.LifeTable.{LifeTable}
use Rattle.life_table.specs.Rules.{IsTable}
use Rattle.ground_core.specs.Broadcast.{StationEvent, IsBroadcast, frames}
use Rattle.receiver_core.specs.Reception.{received_picture}
use Rattle.fisb_link.specs.LinkPicture.{link_picture}
use Rattle.fisb_link.specs.Hearing.{Hearing, AreHeard, IsAfterHearings, receptions_of}

-- Whatever was given, sent and heard in time, and in whatever order, the picture by the bytes that
-- were heard is the one that updates, fills and hearings promise.
abbrev pub PicturesAgree : Type 0
PicturesAgree =
    (table : LifeTable) (broadcast : List StationEvent) (heard : List Hearing) (moment : ℕ)
    → IsTable table → IsBroadcast table broadcast
    → AreHeard table.late (frames table broadcast) heard
    → IsAfterHearings moment heard
    → received_picture table (receptions_of (frames table broadcast) heard) moment
    ≡ link_picture table broadcast heard moment

-- what was heard of a broadcast was heard of it with one event more, and the same was received
pub record IsStillHeard (table : LifeTable) (b : StationEvent) (past : List StationEvent)
    (heard : List Hearing) : Type 0 where
  pub still_heard : AreHeard table.late (frames table (b ∷ past)) heard
  pub received : receptions_of (frames table (b ∷ past)) heard
      ≡ receptions_of (frames table past) heard

abbrev pub HearingsStay : Type 0
HearingsStay =
    (table : LifeTable) (b : StationEvent) (past : List StationEvent) (heard : List Hearing)
    → AreHeard table.late (frames table past) heard → IsStillHeard table b past heard
