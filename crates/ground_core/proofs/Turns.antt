-- Turn by turn: what was looked at so far, and what lies ahead.
use Rattle.std.proofs.Common.{◌≡◌, ℕ, ◌+◌, ◌-◌, ◌*◌, ◌<◌, ◌≤◌, Bool, true, false, nat_le, cond, if◌then◌else◌, List, [], ◌∷◌, ◌++◌, length, get_or, map, filter, take, drop, min, refl, sym, ap, subst, ◌∙◌, inl, inr, arith, length-append, append-nil, append_assoc}
use Rattle.std.specs.List.{range_with_len}
use Rattle.std.proofs.lemmas.Bool.{cases_Bool, leb-true}
use Rattle.std.proofs.lemmas.List.{map-append, length-map, length-take, nil_from_length, take-append-le}
use Rattle.std.proofs.lemmas.List.FromFn.{map-range_with_len_more}
use Rattle.std.proofs.lemmas.List.Elements.{filter-append, filter_passes, recursion_from_All}
use Rattle.list_members.specs.Each.{filter_all}
use Rattle.list_members.specs.Membership.{IsIn}
use Rattle.list_members.specs.Members.{IsIn-before, IsIn-after, IsIn-either, IsIn-from_filter}
use Rattle.list_members.specs.ListMembers.{heads}
use Rattle.uplink_frame.specs.UplinkFrame.{InformationFrame, fisb_frame, spelled_frames}
use Rattle.ground_core.specs.Piece.{Piece, room_of_piece, body_of_piece, fitting_pieces, left_pieces}
use Rattle.ground_core.specs.Turn.{HasFront, IsDropped, IsFrontAired, IsTooLong, IsStopped, fits_in}
use Rattle.ground_core.specs.Views.{place_view, piece_at}
use Rattle.ground_core.specs.declared.item.SentItem.{SentItem}
use Rattle.ground_core.specs.declared.place.Place.{Place}

pub front_of : (xs : List Place) (x : Place) → 0 < length xs → x ≡ get_or xs 0 x → xs ≡ x ∷ drop 1 xs
front_of [] x lt e = absurd (omega arith)
front_of (y ∷ ys) x lt e = ap (λ z. z ∷ ys) (sym e)

abbrev pub has_front : (xs : List Place) (x : Place) → 0 < length xs → x ≡ get_or xs 0 x → HasFront (map place_view xs)
has_front xs x lt e = record { front = place_view x; behind = map place_view (drop 1 xs); line_is = ap (map place_view) (front_of xs x lt e) }

pub places-rotated : (xs : List Place) (x : Place) → 0 < length xs → x ≡ get_or xs 0 x
    → map place_view (drop 1 xs ++ take 1 xs) ≡ map place_view (drop 1 xs) ++ place_view x ∷ []
places-rotated xs x lt e =
    map-append place_view (drop 1 xs) (take 1 xs)
    ∙ ap (λ l. map place_view (drop 1 xs) ++ map place_view (take 1 l)) (front_of xs x lt e)

-- one more place of an item
pub pushed_pieces : (item : SentItem) (old before new : List Place) (place : Place) (n : ℕ) → place.item.value ≡ item → place.number ≡ n + 1
    → new ≡ before ++ place ∷ []
    → map place_view before ≡ map place_view old ++ map (piece_at item) (range_with_len 1 n)
    → map place_view new ≡ map place_view old ++ map (piece_at item) (range_with_len 1 (n + 1))
pushed_pieces item old before new place n i k e h =
    let next : 1 + n ≡ n + 1 = omega arith in
    ap (map place_view) e ∙ map-append place_view before (place ∷ [])
    ∙ ap (λ l. l ++ place_view place ∷ []) h
    ∙ append_assoc (map place_view old) (map (piece_at item) (range_with_len 1 n)) (place_view place ∷ [])
    ∙ ap (λ (x : SentItem). map place_view old ++ (map (piece_at item) (range_with_len 1 n) ++ piece_at x place.number ∷ [])) i
    ∙ ap (λ m. map place_view old ++ (map (piece_at item) (range_with_len 1 n) ++ piece_at item m ∷ [])) k
    ∙ ap (λ l. map place_view old ++ l) (sym (map-range_with_len_more (piece_at item) 1 n (n + 1) next))

pub pushed_others : (old before new : List Place) (place : Place) → new ≡ before ++ place ∷ [] → take (length old) before ≡ old → take (length old) new ≡ old
pushed_others old before new place e h =
    let size : min (length old) (length before) ≡ length old = sym (length-take (length old) before) ∙ ap length h in
    let le : length old ≤ length before = omega arith in
    ap (take (length old)) e ∙ take-append-le (length old) before (place ∷ []) le ∙ h

abbrev pub used_by : List InformationFrame → ℕ
used_by frames = length (spelled_frames frames)

abbrev pub frame_of : Piece → InformationFrame
frame_of p = fisb_frame (body_of_piece p)

pub record IsTurned (live : Piece → Bool) (start : List Piece) (turns : ℕ) (frames : List InformationFrame) (now : List Piece) (aired : ℕ) : Type 0 where
  pub seen : List Piece
  pub ahead : List Piece
  pub start_is : start ≡ seen ++ ahead
  pub turns_are : length seen ≡ turns
  pub line : now ≡ ahead ++ filter live seen
  pub sent : frames ≡ map frame_of (filter live seen)
  pub fits : fitting_pieces 424 (filter live start) ≡ filter live seen ++ fitting_pieces (424 - used_by frames) (filter live ahead)
  pub rest : left_pieces 424 (filter live start) ≡ left_pieces (424 - used_by frames) (filter live ahead)
  pub room : used_by frames ≤ 424
  pub count : aired ≡ length (filter live seen)
  pub few : 2 * aired ≤ used_by frames

pub turned_begins : (live : Piece → Bool) (start : List Piece) (frames : List InformationFrame) → frames ≡ [] → IsTurned live start 0 frames start 0
turned_begins live start frames e = record {
  seen = [];
  ahead = start;
  start_is = refl;
  turns_are = refl;
  line = sym (append-nil start);
  sent = e;
  fits = ap (λ f. fitting_pieces (424 - used_by f) (filter live start)) (sym e);
  rest = ap (λ f. left_pieces (424 - used_by f) (filter live start)) (sym e);
  room = subst (λ f. used_by f ≤ 424) (sym e) (omega arith);
  count = refl;
  few = omega arith;
}

one_more : (seen : List Piece) (x : Piece) (more : List Piece) → seen ++ x ∷ more ≡ (seen ++ x ∷ []) ++ more
one_more seen x more = sym (append_assoc seen (x ∷ []) more)

no_front : (now behind seen : List Piece) (front : Piece) → now ≡ front ∷ behind → now ≡ seen → seen ≡ [] → ⊥
no_front now behind seen front e f g = cc

drop_step : (live : Piece → Bool) (start : List Piece) (turns : ℕ) (frames sent : List InformationFrame) (now new : List Piece) (aired : ℕ)
    (h : IsTurned live start turns frames now aired) → (ahead : List Piece) → ahead ≡ h.ahead → turns < length start → IsDropped live now frames new sent
    → IsTurned live start (turns + 1) sent new aired
drop_step live start turns frames sent now new aired h [] e lt d =
    let size : length start ≡ length h.seen + length h.ahead = ap length h.start_is ∙ length-append h.seen h.ahead in
    let none : length h.ahead ≡ 0 = ap length (sym e) in
    absurd (omega (arith, h.turns_are))
drop_step live start turns frames sent now new aired h (x ∷ more) e lt d =
    let seen : List Piece = h.seen in
    let both = heads d.has.front x d.has.behind (more ++ filter live seen) (sym d.has.line_is ∙ h.line ∙ ap (λ l. l ++ filter live seen) (sym e)) in
    let dead : live x ≡ false = ap live (sym both.0) ∙ d.dead in
    let same : filter live (seen ++ x ∷ []) ≡ filter live seen
    = filter-append live seen (x ∷ []) ∙ ap (λ b. filter live seen ++ cond b (x ∷ []) []) dead ∙ append-nil (filter live seen) in
    let ahead : filter live h.ahead ≡ filter live more = ap (filter live) (sym e) ∙ ap (λ b. cond b (x ∷ filter live more) (filter live more)) dead in
    record {
      seen = seen ++ x ∷ [];
      ahead = more;
      start_is = h.start_is ∙ ap (λ l. seen ++ l) (sym e) ∙ one_more seen x more;
      turns_are = length-append seen (x ∷ []) ∙ ap (λ n. n + 1) h.turns_are;
      line = d.line ∙ both.1 ∙ ap (λ l. more ++ l) (sym same);
      sent = d.frames_stay ∙ h.sent ∙ ap (map frame_of) (sym same);
      fits = h.fits ∙ ap (λ l. filter live seen ++ fitting_pieces (424 - used_by frames) l) ahead
          ∙ ap (λ l. l ++ fitting_pieces (424 - used_by frames) (filter live more)) (sym same)
          ∙ ap (λ f. filter live (seen ++ x ∷ []) ++ fitting_pieces (424 - used_by f) (filter live more)) (sym d.frames_stay);
      rest = h.rest ∙ ap (left_pieces (424 - used_by frames)) ahead ∙ ap (λ f. left_pieces (424 - used_by f) (filter live more)) (sym d.frames_stay);
      room = subst (λ f. used_by f ≤ 424) (sym d.frames_stay) h.room;
      count = h.count ∙ ap length (sym same);
      few = subst (λ f. 2 * aired ≤ used_by f) (sym d.frames_stay) h.few;
    }

pub turned_drop : (live : Piece → Bool) (start : List Piece) (turns : ℕ) (frames sent : List InformationFrame) (now new : List Piece) (aired : ℕ)
    → IsTurned live start turns frames now aired → turns < length start → IsDropped live now frames new sent
    → IsTurned live start (turns + 1) sent new aired
turned_drop live start turns frames sent now new aired h lt d = drop_step live start turns frames sent now new aired h h.ahead refl lt d

two_each : (p : Piece) → 2 ≤ room_of_piece p
two_each p = omega arith

air_step : (live : Piece → Bool) (start : List Piece) (turns : ℕ) (frames sent : List InformationFrame) (now new : List Piece) (aired : ℕ)
    (h : IsTurned live start turns frames now aired) → (ahead : List Piece) → ahead ≡ h.ahead → turns < length start → IsFrontAired live now frames new sent
    → IsTurned live start (turns + 1) sent new (aired + 1)
air_step live start turns frames sent now new aired h [] e lt d =
    let size : length start ≡ length h.seen + length h.ahead = ap length h.start_is ∙ length-append h.seen h.ahead in
    let none : length h.ahead ≡ 0 = ap length (sym e) in
    absurd (omega (arith, h.turns_are))
air_step live start turns frames sent now new aired h (x ∷ more) e lt d =
    let seen : List Piece = h.seen in
    let both = heads d.has.front x d.has.behind (more ++ filter live seen) (sym d.has.line_is ∙ h.line ∙ ap (λ l. l ++ filter live seen) (sym e)) in
    let lives : live x ≡ true = ap live (sym both.0) ∙ d.lives in
    let fits : nat_le (room_of_piece x) (424 - used_by frames) ≡ true = ap (fits_in frames) (sym both.0) ∙ d.fits in
    let within : room_of_piece x ≤ 424 - used_by frames = leb-true (room_of_piece x) (424 - used_by frames) fits in
    let used : used_by sent ≡ used_by frames + room_of_piece x = d.used ∙ ap (λ p. used_by frames + room_of_piece p) both.0 in
    let less : 424 - used_by frames - room_of_piece x ≡ 424 - used_by sent = less_room (used_by frames) (used_by sent) (room_of_piece x) used in
    let two : 2 ≤ room_of_piece x = two_each x in
    let same : filter live (seen ++ x ∷ []) ≡ filter live seen ++ x ∷ []
    = filter-append live seen (x ∷ []) ∙ ap (λ b. filter live seen ++ cond b (x ∷ []) []) lives in
    let ahead : filter live h.ahead ≡ x ∷ filter live more = ap (filter live) (sym e) ∙ ap (λ b. cond b (x ∷ filter live more) (filter live more)) lives in
    let taken : fitting_pieces (424 - used_by frames) (x ∷ filter live more) ≡ x ∷ fitting_pieces (424 - used_by sent) (filter live more)
    = ap (λ b. if b then x ∷ fitting_pieces (424 - used_by frames - room_of_piece x) (filter live more) else []) fits
    ∙ ap (λ r. x ∷ fitting_pieces r (filter live more)) less in
    let left : left_pieces (424 - used_by frames) (x ∷ filter live more) ≡ left_pieces (424 - used_by sent) (filter live more)
    = ap (λ b. if b then left_pieces (424 - used_by frames - room_of_piece x) (filter live more) else x ∷ filter live more) fits
    ∙ ap (λ r. left_pieces r (filter live more)) less in
    record {
      seen = seen ++ x ∷ [];
      ahead = more;
      start_is = h.start_is ∙ ap (λ l. seen ++ l) (sym e) ∙ one_more seen x more;
      turns_are = length-append seen (x ∷ []) ∙ ap (λ n. n + 1) h.turns_are;
      line = d.line ∙ ap (λ l. l ++ d.has.front ∷ []) both.1 ∙ append_assoc more (filter live seen) (d.has.front ∷ [])
          ∙ ap (λ p. more ++ (filter live seen ++ p ∷ [])) both.0 ∙ ap (λ l. more ++ l) (sym same);
      sent = d.frames_are ∙ ap (λ fs. fs ++ frame_of d.has.front ∷ []) h.sent
          ∙ ap (λ p. map frame_of (filter live seen) ++ frame_of p ∷ []) both.0
          ∙ sym (map-append frame_of (filter live seen) (x ∷ [])) ∙ ap (map frame_of) (sym same);
      fits = h.fits ∙ ap (λ l. filter live seen ++ fitting_pieces (424 - used_by frames) l) ahead
          ∙ ap (λ l. filter live seen ++ l) taken
          ∙ one_more (filter live seen) x (fitting_pieces (424 - used_by sent) (filter live more))
          ∙ ap (λ l. l ++ fitting_pieces (424 - used_by sent) (filter live more)) (sym same);
      rest = h.rest ∙ ap (left_pieces (424 - used_by frames)) ahead ∙ left;
      room = omega (arith, used, within, h.room);
      count = ap (λ n. n + 1) h.count ∙ sym (length-append (filter live seen) (x ∷ [])) ∙ ap length (sym same);
      few = omega (arith, used, two, h.few);
    } where
      less_room : (a b r : ℕ) → b ≡ a + r → 424 - a - r ≡ 424 - b
      less_room a b r u = omega arith

pub turned_air : (live : Piece → Bool) (start : List Piece) (turns : ℕ) (frames sent : List InformationFrame) (now new : List Piece) (aired : ℕ)
    → IsTurned live start turns frames now aired → turns < length start → IsFrontAired live now frames new sent
    → IsTurned live start (turns + 1) sent new (aired + 1)
turned_air live start turns frames sent now new aired h lt d = air_step live start turns frames sent now new aired h h.ahead refl lt d

-- what the turns did together
pub record IsDone (live : Piece → Bool) (start : List Piece) (frames : List InformationFrame) (now : List Piece) (aired : ℕ) : Type 0 where
  pub number : aired ≡ length (fitting_pieces 424 (filter live start))
  pub frames_are : frames ≡ map frame_of (fitting_pieces 424 (filter live start))
  pub few : 2 * aired ≤ 424
  pub line : filter live now ≡ left_pieces 424 (filter live start) ++ fitting_pieces 424 (filter live start)
  pub among : (p : Piece) → IsIn p now → IsIn p start

all_left : (room : ℕ) (xs : List Piece) → fitting_pieces room xs ≡ [] → left_pieces room xs ≡ xs
all_left room [] h = refl
all_left room (x ∷ xs) h = elim (cases_Bool (nat_le (room_of_piece x) room)) [
  | inl t ↦ (let bad : x ∷ fitting_pieces (room - room_of_piece x) xs ≡ [] = ap (λ b. if b then x ∷ fitting_pieces (room - room_of_piece x) xs else []) (sym t) ∙ h in absurd (cc))
  | inr f ↦ rw f refl
]

pub turns-done : (live : Piece → Bool) (start : List Piece) (turns : ℕ) (frames : List InformationFrame) (now : List Piece) (aired : ℕ)
    (h : IsTurned live start turns frames now aired) → fitting_pieces (424 - used_by frames) (filter live h.ahead) ≡ []
    → IsDone live start frames now aired
turns-done live start turns frames now aired h none =
    let fitting : fitting_pieces 424 (filter live start) ≡ filter live h.seen = h.fits ∙ ap (λ l. filter live h.seen ++ l) none ∙ append-nil (filter live h.seen) in
    let left : left_pieces 424 (filter live start) ≡ filter live h.ahead = h.rest ∙ all_left (424 - used_by frames) (filter live h.ahead) none in
    record {
      number = h.count ∙ ap length (sym fitting);
      frames_are = h.sent ∙ ap (map frame_of) (sym fitting);
      few = omega (arith, h.few, h.room);
      line = ap (filter live) h.line ∙ filter-append live h.ahead (filter live h.seen)
          ∙ ap (λ l. filter live h.ahead ++ l) (filter_all live (filter live h.seen)
          (recursion_from_All (λ s. live s ≡ true) (filter live h.seen) (filter_passes live h.seen)))
          ∙ ap (λ l. l ++ filter live h.seen) (sym left) ∙ ap (λ l. left_pieces 424 (filter live start) ++ l) (sym fitting);
      among = λ p i. subst (IsIn p) (sym h.start_is) (elim (IsIn-either p h.ahead (filter live h.seen) (subst (IsIn p) h.line i)) [
        | inl a ↦ IsIn-after p h.seen h.ahead a
        | inr b ↦ IsIn-before p h.seen h.ahead (IsIn-from_filter live p h.seen b).0
      ]);
    }

nil_front : (xs ys : List Piece) → xs ++ ys ≡ [] → xs ≡ []
nil_front [] ys h = refl
nil_front (x ∷ xs) ys h = absurd (cc)

stop_step : (live : Piece → Bool) (frames : List InformationFrame) (now seen ahead : List Piece) → now ≡ ahead ++ filter live seen → IsTooLong live now frames
    → fitting_pieces (424 - used_by frames) (filter live ahead) ≡ []
stop_step live frames now seen [] e s = refl
stop_step live frames now seen (x ∷ more) e s =
    let both = heads s.has.front x s.has.behind (more ++ filter live seen) (sym s.has.line_is ∙ e) in
    let lives : live x ≡ true = ap live (sym both.0) ∙ s.lives in
    let fails : nat_le (room_of_piece x) (424 - used_by frames) ≡ false = ap (fits_in frames) (sym both.0) ∙ s.too_long in
    ap (λ b. fitting_pieces (424 - used_by frames) (cond b (x ∷ filter live more) (filter live more))) lives
    ∙ ap (λ b. if b then x ∷ fitting_pieces (424 - used_by frames - room_of_piece x) (filter live more) else []) fails

pub turned_stops : (live : Piece → Bool) (start : List Piece) (turns : ℕ) (frames sent : List InformationFrame) (now new : List Piece) (aired : ℕ)
    → IsTurned live start turns frames now aired → IsStopped live now frames new sent → IsDone live start sent new aired
turned_stops live start turns frames sent now new aired h s =
    subst (λ f. IsDone live start f new aired) (sym s.frames_stay) (subst (λ l. IsDone live start frames l aired) (sym s.line)
    (turns-done live start turns frames now aired h (elim s.cause [
      | inl e ↦ ap (λ l. fitting_pieces (424 - used_by frames) (filter live l)) (nil_front h.ahead (filter live h.seen) (sym h.line ∙ e))
      | inr t ↦ stop_step live frames now h.seen h.ahead h.line t
    ])))

pub turned_ends : (live : Piece → Bool) (start : List Piece) (turns : ℕ) (frames : List InformationFrame) (now : List Piece) (aired : ℕ)
    → IsTurned live start turns frames now aired → length start ≤ turns → IsDone live start frames now aired
turned_ends live start turns frames now aired h le =
    let size : length start ≡ length h.seen + length h.ahead = ap length h.start_is ∙ length-append h.seen h.ahead in
    let none : length h.ahead ≡ 0 = omega (arith, h.turns_are) in
    turns-done live start turns frames now aired h (ap (λ l. fitting_pieces (424 - used_by frames) (filter live l)) (nil_from_length h.ahead none))

pub turns_left : (places : List Place) (turns : ℕ) → length places ≤ turns → length (map place_view places) ≤ turns
turns_left places turns h = subst (λ n. n ≤ turns) (sym (length-map places place_view)) h

pub turns_ahead : (places : List Place) (turns : ℕ) → turns < length places → turns < length (map place_view places)
turns_ahead places turns h = subst (λ n. turns < n) (sym (length-map places place_view)) h
