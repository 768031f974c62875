-- The frame that is filled is the one of the history.
use Rattle.std.proofs.Common.{◌≡◌, ℕ, ◌+◌, List, [], ◌∷◌, ◌++◌, length, map, filter, sum_by, None, refl, sym, ap, ◌∙◌, arith, zero-add, length-append}
use Rattle.std.proofs.lemmas.List.Sums.{sum_by-append}
use Rattle.std.proofs.lemmas.List.{length-map}
use Rattle.life_table.specs.LifeTable.{LifeTable}
use Rattle.uplink_frame.specs.declared.station.StationId.{StationId}
use Rattle.uplink_frame.specs.Laws.{StationsAreTold}
use Rattle.uplink_frame.specs.UplinkFrame.{fisb_frame, spelled_frames, information_frame}
use Rattle.ground_core.specs.Item.{Segment, body_of, room_of}
use Rattle.ground_core.specs.History.{Event}
use Rattle.ground_core.specs.Starving.{aired_after}
use Rattle.ground_core.specs.Piece.{Piece, piece_of, live_by, left_pieces, fitting_pieces}
use Rattle.ground_core.specs.StandsFor.{StandsFor, history_clock}
use Rattle.segment_core.specs.Store.{last_above}
use Rattle.ground_core.specs.Views.{latest_at, pieces_in}
use Rattle.ground_core.specs.declared.ground.Ground.{Ground}
use Rattle.ground_core.proofs.KeyLemmas.{KeyLaws}
use Rattle.ground_core.proofs.Segments.{SizesOfApdus, body_size}
use Rattle.ground_core.proofs.Turns.{frame_of}
use Rattle.ground_core.proofs.State.{filled_of, clock_below, lives_same}

pub aired_pieces : StationsAreTold → KeyLaws → (table : LifeTable) (station : StationId) (history : List Event) (moment slot : ℕ) (old : Ground) (new : List Piece) → StandsFor table station old history
    → last_above (history_clock history) moment ≡ None
    → filter (live_by (latest_at old.newest) moment) new
    ≡ left_pieces 424 (filter (live_by (latest_at old.newest) moment) (pieces_in old.line))
    ++ fitting_pieces 424 (filter (live_by (latest_at old.newest) moment) (pieces_in old.line))
    → fitting_pieces 424 (filter (live_by (latest_at old.newest) moment) (pieces_in old.line)) ≡ map piece_of (aired_after table station history moment)
aired_pieces told keys table station history moment slot old new s e n =
    ap (λ f. fitting_pieces 424 (filter f (pieces_in old.line))) (lives_same table station history moment old s (clock_below history moment e))
    ∙ sym (filled_of told keys table station history moment slot old new s e n).aired

pub frames_are : (ps : List Piece) (sent : List Segment) → ps ≡ map piece_of sent → map frame_of ps ≡ map (λ s. fisb_frame (body_of s)) sent
frames_are ps sent e = ap (map frame_of) e ∙ each sent where
  each : (sent : List Segment) → map frame_of (map piece_of sent) ≡ map (λ s. fisb_frame (body_of s)) sent
  each [] = refl
  each (s ∷ more) = ap (λ l. fisb_frame (body_of s) ∷ l) (each more)

front_size : (body : List ℕ) → length (information_frame (fisb_frame body)) ≡ length body + 2
front_size body = omega arith

pub used_is : SizesOfApdus → (sent : List Segment) → length (spelled_frames (map (λ s. fisb_frame (body_of s)) sent)) ≡ sum_by room_of sent
used_is law [] = refl
used_is law (s ∷ more) =
    length-append (information_frame (fisb_frame (body_of s))) (spelled_frames (map (λ x. fisb_frame (body_of x)) more))
    ∙ ap (λ n. n + length (spelled_frames (map (λ x. fisb_frame (body_of x)) more))) (front_size (body_of s) ∙ body_size law s)
    ∙ ap (λ n. room_of s + n) (used_is law more)
    ∙ ap (λ n. n + sum_by room_of more) (sym (zero-add (room_of s)))
    ∙ sym (sum_by-append room_of (s ∷ []) more)

pub bodies_are : (ps : List Piece) (sent : List Segment) → ps ≡ map piece_of sent → length ps ≡ length sent
bodies_are ps sent e = ap length e ∙ length-map sent piece_of
