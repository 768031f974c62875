-- A frame more that was sent.
use Rattle.std.proofs.Common.{◌≡◌, ℕ, ◌+◌, Bool, List, [], ◌∷◌, ◌++◌, length, map, refl, sym, ap, ◌∙◌}
use Rattle.std.proofs.lemmas.List.{length-map, map_push}
use Rattle.life_table.specs.LifeTable.{LifeTable}
use Rattle.ground_core.specs.Airing.{Frame, frame_after, used_room}
use Rattle.ground_core.specs.OnAir.{IsOnAir}
use Rattle.ground_core.specs.declared.air_frame.AirFrame.{AirFrame}
use Rattle.script_core.specs.Script.{Line, turn}
use Rattle.script_core.specs.Printed.{sent_line}
use Rattle.fisb_app.specs.Past.{events, station_after, sent_frames}
use Rattle.fisb_app.specs.Output.{sent_frame}
use Rattle.fisb_app.specs.Stands.{Aired, aired_view}

pub frames-more : (table : LifeTable) (acted : List Line) (moment slot : ℕ)
    → sent_frames table (turn moment slot ∷ acted) ≡ sent_frames table acted ++ frame_after table (station_after acted) (events acted) moment slot ∷ []
frames-more table acted moment slot = refl

pub aired-alike : (sent : Frame) (frame : AirFrame) → IsOnAir sent frame → record { moment = frame.moment; air = frame.air } ≡ aired_view sent
aired-alike sent frame is =
    ap (λ m. record { moment = m; air = frame.air }) is.moment ∙ ap (λ a. record { moment = sent.moment; air = a }) is.air

-- one frame more is kept
pub kept-more : (table : LifeTable) (acted : List Line) (moment slot : ℕ) (kept : List Aired) (frame : AirFrame)
    → kept ≡ map aired_view (sent_frames table acted) → IsOnAir (frame_after table (station_after acted) (events acted) moment slot) frame
    → kept ++ record { moment = frame.moment; air = frame.air } ∷ [] ≡ map aired_view (sent_frames table (turn moment slot ∷ acted))
kept-more table acted moment slot kept frame is on =
    let sent = frame_after table (station_after acted) (events acted) moment slot in
    ap (λ list. list ++ record { moment = frame.moment; air = frame.air } ∷ []) is
    ∙ ap (λ one. map aired_view (sent_frames table acted) ++ one ∷ []) (aired-alike sent frame on)
    ∙ sym (map_push aired_view (sent_frames table acted) sent)
    ∙ ap (map aired_view) (sym (frames-more table acted moment slot))

-- what is written of a frame is what the definitions say of it
pub line-alike : (index : ℕ) (with_air : Bool) (sent : Frame) (frame : AirFrame) → IsOnAir sent frame
    → sent_line index frame with_air ≡ sent_line index (sent_frame sent) with_air
line-alike index with_air sent frame is =
    ap (λ m. sent_line index (record { moment = m; slot = frame.slot; bodies = frame.bodies; used = frame.used; air = frame.air }) with_air) is.moment
    ∙ ap (λ s. sent_line index (record { moment = sent.moment; slot = s; bodies = frame.bodies; used = frame.used; air = frame.air }) with_air) is.slot
    ∙ ap (λ b. sent_line index (record { moment = sent.moment; slot = sent.slot; bodies = b; used = frame.used; air = frame.air }) with_air) is.bodies
    ∙ ap (λ u. sent_line index (record { moment = sent.moment; slot = sent.slot; bodies = length sent.segments; used = u; air = frame.air }) with_air) is.used
    ∙ ap (λ a. sent_line index (record { moment = sent.moment; slot = sent.slot; bodies = length sent.segments; used = used_room sent; air = a }) with_air) is.air

-- as many were kept as were sent
pub count-alike : {A B C : Type 0} (f : A → C) (g : B → C) (xs : List A) (ys : List B) → map f xs ≡ map g ys → length xs ≡ length ys
count-alike f g xs ys e = sym (length-map xs f) ∙ ap length e ∙ length-map ys g
