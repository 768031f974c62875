-- Where room is made for items of blocks, item by item.
use Rattle.std.proofs.Common.{◌≡◌, ℕ, suc, ◌+◌, ◌<◌, length, get_or, take, drop, arith, List, [], ◌∷◌, ◌++◌, sym, ap, ◌∙◌}
use Rattle.std.proofs.lemmas.List.{map-append, take_more}
use Rattle.std.proofs.Math.Seq.{drop-cons}
use Rattle.std.specs.declared.rc.Rc.{Rc}
use Rattle.radar_core.specs.declared.key.BlockKey.{BlockKey}
use Rattle.ground_core.specs.Putting.{values_of}
use Rattle.ground_core.specs.Rooms.{HasRoom, HaveRoomFor, HaveRoomForAll}
use Rattle.ground_core.specs.declared.item.SentItem.{SentItem}
use Rattle.ground_core.specs.declared.item_keys.ItemKeys.{ItemKeys}
use Rattle.ground_core.specs.declared.item_keys.ItemKeys.TheVariants.{OfReport, OfBlocks}
use Rattle.ground_core.specs.declared.newest.Newest.{Newest}

abbrev pub Stays : Newest → Newest → Type 0
Stays old new = (other : BlockKey) → HasRoom old.blocks other → HasRoom new.blocks other

pub room_stays : (old new : Newest) → Stays old new → (keys : ItemKeys) → HaveRoomFor old keys → HaveRoomFor new keys
room_stays old new stays (OfReport key) h = absurd h
room_stays old new stays (OfBlocks blocks) h = λ key i. stays key (h key i)

pub rooms_stay : (old new : Newest) → Stays old new → (items : List SentItem) → HaveRoomForAll old items → HaveRoomForAll new items
rooms_stay old new stays [] h = tt
rooms_stay old new stays (item ∷ more) h = (room_stays old new stays item.keys h.0, rooms_stay old new stays more h.1)

pub rooms_behind : (newest : Newest) (items : List SentItem) (item : SentItem) → HaveRoomForAll newest items → HaveRoomFor newest item.keys → HaveRoomForAll newest (items ++ item ∷ [])
rooms_behind newest [] item h k = (k, tt)
rooms_behind newest (first ∷ more) item h k = (h.0, rooms_behind newest more item h.1 k)

-- the items at the front, and those behind
pub values_more : {Z : Type 0} (items : List (Rc SentItem Z)) (k : ℕ) (d : Rc SentItem Z) → k < length items → d ≡ get_or items k d
    → values_of (take (k + 1) items) ≡ values_of (take k items) ++ d.value ∷ []
values_more items k d below is =
    ap values_of (take_more items k d below ∙ ap (λ x. take k items ++ x ∷ []) (sym is))
    ∙ map-append (λ (x : Rc SentItem _). x.value) (take k items) (d ∷ [])

pub values_behind : {Z : Type 0} (items : List (Rc SentItem Z)) (k : ℕ) (d : Rc SentItem Z) → k < length items → d ≡ get_or items k d
    → values_of (drop k items) ≡ d.value ∷ values_of (drop (k + 1) items)
values_behind items k d below is =
    let next : suc k ≡ k + 1 = omega arith in
    ap values_of (drop-cons items k d below ∙ ap (λ x. x ∷ drop (suc k) items) (sym is)) ∙ ap (λ n. d.value ∷ values_of (drop n items)) next
