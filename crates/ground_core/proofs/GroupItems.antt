-- The items of groups of blocks.
use Rattle.std.proofs.Common.{◌≡◌, Bool, true, false, if◌then◌else◌, ℕ, ◌+◌, ◌<◌, ◌≤◌, List, [], ◌∷◌, ◌++◌, length, map, take, drop, flat_map, get_or, Some, refl, sym, ap, subst, ◌∙◌, arith}
use Rattle.std.proofs.lemmas.List.{take_more, append-nil}
use Rattle.std.proofs.lemmas.Grind.{flat_map-append}
use Rattle.std.proofs.lemmas.Option.{get_or_from_slice_get}
use Rattle.std.specs.List.{slice_get}
use Rattle.life_table.specs.LifeTable.{RadarRow}
use Rattle.radar_core.specs.Radar.{blank_blocks}
use Rattle.picture_core.specs.Key.{radar_block}
use Rattle.picture_core.specs.Entry.{Entry}
use Rattle.picture_core.specs.Contents.{block_entry}
use Rattle.ground_core.specs.Item.{Weather}
use Rattle.ground_core.specs.Putting.{AreItemsFrom, IsItemOf}
use Rattle.ground_core.specs.Update.{group_weather}
use Rattle.ground_core.specs.Views.{area_keys}
use Rattle.ground_core.specs.declared.area.Area.{Area}
use Rattle.ground_core.specs.declared.item.SentItem.{SentItem}
use Rattle.ground_core.proofs.Areas.{key_in_area}

pub group_keys : (area : Area) (version life number : ℕ) (numbers : List ℕ)
    → map (λ (e : Entry). e.key) (map (block_entry version life) (blank_blocks (key_in_area area number) numbers)) ≡ map radar_block (area_keys area numbers)
group_keys area version life number [] = refl
group_keys area version life number (n ∷ more) = ap (λ l. radar_block (key_in_area area n) ∷ l) (group_keys area version life number more)

pub group_parts : (group : List ℕ) → 1 ≤ length group → group ≡ get_or group 0 0 ∷ drop 1 group
group_parts [] h = absurd (omega arith)
group_parts (n ∷ more) h = refl

pub one_of_group : (version : ℕ) (row : RadarRow) (area : Area) (serial : ℕ) (group : List ℕ) (n : ℕ) (further : List ℕ) (w : Weather) (item : SentItem) → group ≡ n ∷ further
    → group_weather version row (key_in_area area) (n ∷ further) ≡ w ∷ [] → IsItemOf w serial 0 item
    → AreItemsFrom serial (group_weather version row (key_in_area area) group) (item ∷ [])
one_of_group version row area serial group n further w item e f h =
    subst (λ g. AreItemsFrom serial (group_weather version row (key_in_area area) g) (item ∷ [])) (sym e)
    (subst (λ ws. AreItemsFrom serial ws (item ∷ [])) (sym f) (h, tt))

pub more_groups : (f : List ℕ → List Weather) (groups : List (List ℕ)) (k : ℕ) (g : List ℕ) → slice_get groups k ≡ Some g → k < length groups
    → flat_map f (take (k + 1) groups) ≡ flat_map f (take k groups) ++ f g
more_groups f groups k g e below =
    ap (flat_map f) (take_more groups k g below ∙ ap (λ x. take k groups ++ x ∷ []) (get_or_from_slice_get groups k g g e))
    ∙ flat_map-append f (take k groups) (g ∷ []) ∙ ap (λ l. flat_map f (take k groups) ++ l) (append-nil (f g))

pub zero_both : (b : Bool) → ◌≡◌ {A = ℕ} 0 (if b then 0 else 0)
zero_both true = refl
zero_both false = refl
