-- The keys of a map: a report's key after a number made of its place.
use Rattle.std.specs.Ordering.{nat_cmp, ordering_then}
use Rattle.std.specs.declared.cmp.Ordering.{Ordering}
use Rattle.text_reports.specs.Views.{key_view}
use Rattle.text_reports.specs.TextKey.{TextKey}
use Rattle.text_reports.specs.declared.key.TextKey.{TextKey as GivenKey}
use Rattle.text_reports.specs.contracts.key.TextKeyOrd.TheImpl as order
use Rattle.ground_core.specs.PlaceNumber.{place_number}
use Rattle.ground_core.specs.declared.numbered_key.NumberedKey.{NumberedKey}

abbrev pub given_key : TextKey → GivenKey
given_key key = record { kind = key.kind; place = key.place; third = key.third }

-- the report's key
abbrev pub report_key : NumberedKey → TextKey
report_key key = key_view key.key.value

-- how a report's key compares to a key of a map
abbrev pub order_among : TextKey → NumberedKey → Ordering
order_among key other = ordering_then (nat_cmp (place_number key.place) other.number)
    (order.ghosts.cmp (given_key key) other.key.value)
