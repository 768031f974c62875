-- What a receiver holds, and the receptions for which it stands.
use Rattle.std.specs.Prelude.{◌≡◌, ℕ, List, None}
use Rattle.std.specs.Option.{unwrap_or}
use Rattle.life_table.specs.Products.{regional_radar, conus_radar, text_product}
use Rattle.life_table.specs.LifeTable.{LifeTable, longest_life}
use Rattle.life_table.specs.Rules.{IsTable}
use Rattle.segment_core.specs.declared.arrived.Longest.{Longest}
use Rattle.segment_core.specs.Store.{MarkedStore, StandsFor as StandsForArrivals}
use Rattle.picture_core.specs.Kept.{IsStore}
use Rattle.picture_core.specs.Marked.{MarkedEntries}
use Rattle.receiver_core.specs.Hearing.{AreReceptions, clock_of}
use Rattle.receiver_core.specs.Reception.{Reception, arrivals, contents}

-- the table by which it reads, the segments that it joins, and the entries that it shows
pub record Held : Type 0 where
  pub table : LifeTable
  pub joiner : MarkedStore
  pub picture : MarkedEntries

-- the longest life of each product that is read; 0 where the table has no row of it
abbrev pub longest_lives : LifeTable → Longest
longest_lives table = record {
  regional = longest_life table regional_radar;
  conus = longest_life table conus_radar;
  text = longest_life table text_product;
}

-- between two calls no mark stands, the table keeps the rules, and the joiner knows its lives
pub record IsSettled (held : Held) : Type 0 where
  pub rules : IsTable held.table
  pub longest : held.joiner.store.longest ≡ longest_lives held.table
  pub no_segments_marked : held.joiner.mark ≡ None
  pub no_entries_marked : held.picture.mark ≡ None

-- the moment of the last reception; 0 before the first
abbrev pub moment_now : List Reception → ℕ
moment_now heard = unwrap_or (clock_of heard) 0

-- A receiver stands for the receptions that it heard, the newest first: its joiner stands for what
-- arrived, and its entries are the picture of all that became whole, from the last reception on.
pub record StandsFor (table : LifeTable) (held : Held) (heard : List Reception) : Type 0 where
  pub reads_by : held.table ≡ table
  pub receptions : AreReceptions heard
  pub clock : held.joiner.store.clock ≡ clock_of heard
  pub joins : StandsForArrivals held.joiner.store (arrivals table heard)
  pub shows : IsStore (moment_now heard) (contents table heard) held.picture.entries
