-- At each key the bytes that were heard show what the link promises, hearing by hearing: what a
-- hearing brings by the bytes and by the items differs by entries alone that are not above what is
-- shown.
use Rattle.std.proofs.Common.{◌≡◌, ℕ, ◌<◌, ◌≤◌, true, not, List, [], ◌∷◌, filter, Option, refl, sym, ap, subst, ◌∙◌, inl, inr, arith}
use Rattle.std.proofs.lemmas.Bool.{cases_Bool, and_parts, and_from, not-true, not_from_false}
use Rattle.std.proofs.lemmas.Option.{same_Some}
use Rattle.life_table.specs.LifeTable.{LifeTable}
use Rattle.list_members.specs.Membership.{IsIn}
use Rattle.list_members.specs.Members.{IsIn-filter, IsIn-from_filter}
use Rattle.list_members.specs.ListMembers.{in_flat_map, flat_map_has}
use Rattle.picture_core.specs.Key.{Key}
use Rattle.picture_core.specs.Entry.{Entry}
use Rattle.picture_core.specs.Picture.{shown_at}
use Rattle.picture_core.specs.Shown.{IsOutdone, ReachNoFurther}
use Rattle.ground_core.specs.Item.{Item, end_of}
use Rattle.ground_core.specs.Airing.{Frame, has_key}
use Rattle.ground_core.specs.Broadcast.{frames, all_items}
use Rattle.receiver_core.specs.Reception.{contents}
use Rattle.fisb_link.specs.LinkPicture.{is_whole, becomes_whole, link_entries}
use Rattle.fisb_link.specs.Hearing.{Hearing, IsAfterHearings, AreHeard, receptions_of}
use Rattle.fisb_link.specs.PicturesAgree.{PicturesAgree}
use Rattle.fisb_link.proofs.Layers.{Layers, PictureLayers, AreAll, Setting}
use Rattle.fisb_link.proofs.StationItems.{setting-of}
use Rattle.fisb_link.proofs.WholeItems.{item-has_key}
use Rattle.fisb_link.proofs.Complete.{new_entries, new_link, entries_of, contents-grow, new_entries-brought, whole-brought, becoming-brought}

-- what has been heard at a moment
record Heard (table : LifeTable) (all : List Item) (sent : List Frame) (heard : List Hearing)
    (moment : ℕ) : Type 0 where
  pub setting : Setting table all sent
  pub are : AreHeard table.late sent heard
  pub after : IsAfterHearings moment heard

later-still : (m n : ℕ) (heard : List Hearing) → m ≤ n → IsAfterHearings m heard
    → IsAfterHearings n heard
later-still m n [] le after = tt
later-still m n (h ∷ past) le after = omega arith

earlier : (table : LifeTable) (all : List Item) (sent : List Frame) (h : Hearing)
    (past : List Hearing) (moment : ℕ) → Heard table all sent (h ∷ past) moment
    → Heard table all sent past moment
earlier table all sent h past moment heard = record {
  setting = heard.setting;
  are = heard.are.3;
  after = later-still h.moment moment past heard.after heard.are.2;
}

-- an entry lives as long as its item
lives-on : (table : LifeTable) (all : List Item) (item : Item) (e : Entry) (moment : ℕ)
    → AreAll table all → IsIn item all → IsIn e item.weather.entries
    → moment < e.until → moment < end_of item.weather
lives-on table all item e moment are item_in there lives =
    subst (λ (n : ℕ). moment < n) ((are.sound item item_in).ends e there) lives

-- an entry that is among those that show something is not above it
outdone : PictureLayers → (entries : List Entry) (moment : ℕ) (key : Key) (e : Entry)
    → IsIn e entries → e.key ≡ key → moment < e.until
    → IsOutdone (shown_at entries moment key) e
outdone layers entries moment key e there own lives =
    let some = layers.some entries moment key e there own lives in
    subst (λ (o : Option Entry). IsOutdone o e) (sym some.1)
    ((layers.is_newest entries moment key some.0 some.1).most e there own lives)

-- what the bytes bring was brought before, or is promised now
brought-promised : (table : LifeTable) (all : List Item) (sent : List Frame) (h : Hearing)
    (past : List Hearing) (moment : ℕ) (key : Key)
    → Heard table all sent (h ∷ past) moment
    → ReachNoFurther moment key (shown_at (contents table (receptions_of sent past)) moment key)
    (new_entries table sent h past) (new_link all sent h past)
brought-promised table all sent h past moment key heard e there own lives =
    let setting = heard.setting in
    let by = new_entries-brought table all sent h past e setting heard.are there in
    let item = by.item in
    let before = earlier table all sent h past moment heard in
    let item_lives = lives-on table all item e moment setting.items_are by.item_in by.there lives in
    elim (cases_Bool (is_whole sent past item)) [
      | inl t ↦ inr
          (outdone (setting.layers).pictures (contents table (receptions_of sent past)) moment key e
          (whole-brought table all sent past moment item e setting before.are before.after
          by.item_in by.there item_lives by.some t) own lives)
      | inr f ↦
          let becomes : becomes_whole sent h past item ≡ true =
          and_from (is_whole sent (h ∷ past) item) (not (is_whole sent past item)) by.whole
          (not_from_false _ f) in
          inl (flat_map_has entries_of item e (filter (becomes_whole sent h past) all)
          (IsIn-filter (becomes_whole sent h past) item all by.item_in becomes) by.there)
    ]

-- what is promised now is brought now, while it lives
promised-brought : (table : LifeTable) (all : List Item) (sent : List Frame) (h : Hearing)
    (past : List Hearing) (moment : ℕ) (key : Key)
    → Heard table all sent (h ∷ past) moment
    → ReachNoFurther moment key (shown_at (contents table (receptions_of sent past)) moment key)
    (new_link all sent h past) (new_entries table sent h past)
promised-brought table all sent h past moment key heard e there own lives =
    let setting = heard.setting in
    let found = in_flat_map entries_of e (filter (becomes_whole sent h past) all) there in
    let item = found.0 in
    let filtered = IsIn-from_filter (becomes_whole sent h past) item all found.1 in
    let becomes =
    and_parts (is_whole sent (h ∷ past) item) (not (is_whole sent past item)) filtered.1 in
    inl (becoming-brought table all sent h past moment item e setting heard.are heard.after
    filtered.0 found.2
    (lives-on table all item e moment setting.items_are filtered.0 found.2 lives) becomes.0
    (not-true _ becomes.1))

-- in one hearing one version of a key is one entry, since it is of one frame and so of one station
new_entries-untied : (table : LifeTable) (all : List Item) (sent : List Frame) (h : Hearing)
    (past : List Hearing) (e f : Entry) → Setting table all sent
    → AreHeard table.late sent (h ∷ past) → IsIn e (new_entries table sent h past)
    → IsIn f (new_entries table sent h past)
    → e.key ≡ f.key → e.version ≡ f.version → e ≡ f
new_entries-untied table all sent h past e f setting are there there' keys versions =
    let items_are = setting.items_are in
    let one = new_entries-brought table all sent h past e setting are there in
    let other = new_entries-brought table all sent h past f setting are there' in
    let i = one.item in
    let j = other.item in
    let frame : one.frame ≡ other.frame =
    same_Some one.frame other.frame (sym one.frame_is ∙ other.frame_is) in
    let station = one.of_station ∙ ap (λ (x : Frame). x.station) frame ∙ sym other.of_station in
    let has : has_key e.key j ≡ true =
    subst (λ (key : Key). has_key key j ≡ true) (sym keys)
    (item-has_key setting.layers j f other.there) in
    let version = sym ((items_are.sound i one.item_in).versions e one.there) ∙ versions
    ∙ (items_are.sound j other.item_in).versions f other.there in
    let same = items_are.keys i j e one.item_in other.item_in station one.there has version in
    (items_are.sound i one.item_in).apart e f one.there
    (subst (λ (x : Item). IsIn f x.weather.entries) (sym same) other.there) keys

shown-agree : (table : LifeTable) (all : List Item) (sent : List Frame) (heard : List Hearing)
    (moment : ℕ) (key : Key) → Heard table all sent heard moment
    → shown_at (contents table (receptions_of sent heard)) moment key
    ≡ shown_at (link_entries all sent heard) moment key
shown-agree table all sent [] moment key heard = refl
shown-agree table all sent (h ∷ past) moment key heard =
    let setting = heard.setting in
    let before = contents table (receptions_of sent past) in
    ap (λ (es : List Entry). shown_at es moment key)
    (contents-grow table all sent h past setting heard.are)
    ∙ ((setting.layers).pictures).step before (link_entries all sent past)
    (new_entries table sent h past) (new_link all sent h past) moment key
    (shown-agree table all sent past moment key (earlier table all sent h past moment heard))
    (record {
      there = brought-promised table all sent h past moment key heard;
      back = promised-brought table all sent h past moment key heard;
      untied = λ e f there there' own own' versions.
          new_entries-untied table all sent h past e f setting heard.are there there' (own ∙ sym own') versions;
    })

pub pictures-agree : Layers → PicturesAgree
pictures-agree layers table broadcast heard moment is_table is are after =
    let all = all_items table broadcast in
    let sent = frames table broadcast in
    let setting = setting-of layers table broadcast is_table is in
    (layers.pictures).pictures (contents table (receptions_of sent heard))
    (link_entries all sent heard) moment
    (λ key. shown-agree table all sent heard moment key
    (record { setting = setting; are = are; after = after }))
