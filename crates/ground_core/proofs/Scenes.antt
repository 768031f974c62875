-- Small scenes of what a ground keeps and airs, computed by the definitions alone.
use Rattle.std.proofs.Common.{◌≡◌, ℕ, ◌+◌, true, false, List, [], ◌∷◌, replicate, Some, None, refl, codes}
use Rattle.fisb_time.specs.declared.form.TimeForm.TheVariants.{Minute}
use Rattle.life_table.specs.LifeTable.{default_table}
use Rattle.uplink_frame.specs.Station.{no_station}
use Rattle.picture_core.specs.Key.{Key, text_report}
use Rattle.picture_core.specs.Entry.{Entry, report}
use Rattle.ground_core.specs.Item.{Weather, Item}
use Rattle.ground_core.specs.History.{free_number, number_for, item_of, items_made}
use Rattle.ground_core.specs.Airing.{is_live}

-- a payload of one byte more than is sent whole, and nothing that can be read
abbrev long : ℕ → Weather
long version = record {
  product = 413;
  form = Minute;
  version = version;
  life = 7200;
  entries = [];
  payload = replicate {A = ℕ} 419 65;
}

abbrev first_long : Item
first_long = item_of default_table no_station 1700000000 [] (long 1699999980)

-- the first file has number 0, and the next of its version number 1; a file of another version has
-- number 0 too
pub first-number : first_long.number ≡ Some 0
unfolding free_number default_table
first-number = refl

pub next-number : number_for default_table 1700000060 (first_long ∷ []) (long 1699999980) ≡ Some 1
unfolding free_number default_table
next-number = refl

pub other-version : number_for default_table 1700000060 (first_long ∷ []) (long 1700000040) ≡ Some 0
unfolding free_number default_table
other-version = refl

-- the number is free again once version and longest life of the product have passed, and not a
-- second before
pub not_yet-free : number_for default_table 1700086379 (first_long ∷ []) (long 1699999980) ≡ Some 1
unfolding free_number default_table
not_yet-free = refl

pub number-freed : number_for default_table 1700086380 (first_long ∷ []) (long 1699999980) ≡ Some 0
unfolding free_number default_table
number-freed = refl

-- what is sent whole has no number
pub whole-number : (item_of default_table no_station 1700000000 []
    (record (long 1699999980) { payload = replicate {A = ℕ} 418 65 })).number ≡ None
unfolding free_number default_table
whole-number = refl

-- an item of two keys lives while it is the newest one for one of them
abbrev key_at : List ℕ → Key
key_at place = text_report (record { kind = codes "METAR"; place = place; third = None })

abbrev entry_at : List ℕ → ℕ → Entry
entry_at place version = record {
  key = key_at place;
  version = version;
  until = version + 7200;
  value = report [];
}

abbrev weather : ℕ → List Entry → Weather
weather version entries = record {
  product = 413;
  form = Minute;
  version = version;
  life = 7200;
  entries = entries;
  payload = 65 ∷ [];
}

abbrev of_two_keys : Weather
of_two_keys = weather 1699999980
    (entry_at (codes "KAAA") 1699999980 ∷ entry_at (codes "KBBB") 1699999980 ∷ [])

abbrev newer_at : List ℕ → Weather
newer_at place = weather 1700000040 (entry_at place 1700000040 ∷ [])

abbrev items_given : List Weather → List Item
items_given ws = items_made default_table no_station 1700000050 [] ws

abbrev item_of_two : Item
item_of_two = item_of default_table no_station 1700000050 [] of_two_keys

pub one-superseded : is_live (items_given (of_two_keys ∷ newer_at (codes "KAAA") ∷ [])) 1700000060
    item_of_two ≡ true
unfolding free_number default_table
one-superseded = refl

pub other-superseded : is_live (items_given (of_two_keys ∷ newer_at (codes "KBBB") ∷ [])) 1700000060
    item_of_two ≡ true
unfolding free_number default_table
other-superseded = refl

pub both-superseded :
    is_live (items_given (of_two_keys ∷ newer_at (codes "KAAA") ∷ newer_at (codes "KBBB") ∷ []))
    1700000060 item_of_two ≡ false
unfolding free_number default_table
both-superseded = refl

-- and it lives until the last second before its end
pub last-second : is_live (items_given (of_two_keys ∷ [])) 1700007179 item_of_two ≡ true
unfolding free_number default_table
last-second = refl

pub at-its_end : is_live (items_given (of_two_keys ∷ [])) 1700007180 item_of_two ≡ false
unfolding free_number default_table
at-its_end = refl
