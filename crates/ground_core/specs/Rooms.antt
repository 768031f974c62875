-- Where room was made to put what is given last, so that putting it takes no memory.
use Rattle.std.specs.Prelude.{ℕ, Bool, List, [], ◌∷◌, IsSome}
use Rattle.std.specs.BTreeMap.{get}
use Rattle.std.specs.List.{list_any}
use Rattle.std.specs.Ordering.{is_eq}
use Rattle.list_members.specs.Membership.{IsIn}
use Rattle.radar_core.specs.declared.key.BlockKey.{BlockKey}
use Rattle.radar_core.specs.Keys.{block_key_cmp}
use Rattle.ground_core.specs.Views.{area_keys}
use Rattle.ground_core.specs.declared.area.Area.{Area}
use Rattle.ground_core.specs.declared.item.SentItem.{SentItem}
use Rattle.ground_core.specs.declared.item_keys.BlockNumbers.{BlockNumbers}
use Rattle.ground_core.specs.declared.item_keys.ItemKeys.{ItemKeys}
use Rattle.ground_core.specs.declared.item_keys.ItemKeys.TheVariants.{OfReport, OfBlocks}
use Rattle.ground_core.specs.declared.newest.Newest.{Newest}
use Rattle.ground_core.specs.declared.newest_blocks.NewestBlocks.{NewestBlocks}

-- whether a key is that of one of these numbers in an area
abbrev pub are_among : Area → List ℕ → BlockKey → Bool
are_among area numbers other = list_any (λ key. is_eq (block_key_cmp key other))
    (area_keys area numbers)

abbrev pub HasRoom : NewestBlocks → BlockKey → Type 0
HasRoom newest key = IsSome (get block_key_cmp newest.given key)

abbrev pub HaveRoom : NewestBlocks → BlockNumbers → Type 0
HaveRoom newest blocks = (key : BlockKey) → IsIn key (area_keys blocks.area blocks.numbers.items)
    → HasRoom newest key

abbrev pub IsOfBlocks : ItemKeys → Type 0
IsOfBlocks (OfReport key) = ⊥
IsOfBlocks (OfBlocks blocks) = Unit {0}

-- no room is made for a report
abbrev pub HaveRoomFor : Newest → ItemKeys → Type 0
HaveRoomFor newest (OfReport key) = ⊥
HaveRoomFor newest (OfBlocks blocks) = HaveRoom newest.blocks blocks

abbrev pub HaveRoomForAll : Newest → List SentItem → Type 0
HaveRoomForAll newest [] = Unit {0}
HaveRoomForAll newest (item ∷ more) = HaveRoomFor newest item.keys × HaveRoomForAll newest more
