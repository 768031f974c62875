-- What names an entry of a picture, and the order in which entries stand: radar before text.
use Rattle.std.specs.Prelude.{Bool, false}
use Rattle.std.specs.Ordering.{is_eq}
use Rattle.std.specs.declared.cmp.Ordering.{Ordering}
use Rattle.std.specs.declared.cmp.Ordering.TheVariants.{Less, Greater}
use Rattle.radar_core.specs.Keys.{block_key_cmp}
use Rattle.radar_core.specs.declared.key.BlockKey.{BlockKey}
use Rattle.text_reports.specs.TextKey.{TextKey, same_text_key, text_key_cmp}

pub data Key : Type 0 where
  radar_block : (key : BlockKey) → Key
  text_report : (key : TextKey) → Key

abbrev pub key_cmp : Key → Key → Ordering
key_cmp (radar_block a) (radar_block b) = block_key_cmp a b
key_cmp (radar_block a) (text_report b) = Less
key_cmp (text_report a) (radar_block b) = Greater
key_cmp (text_report a) (text_report b) = text_key_cmp a b

-- blocks are named alike by the same product, scale, hemisphere and number
abbrev pub same_key : Key → Key → Bool
same_key (radar_block a) (radar_block b) = is_eq (block_key_cmp a b)
same_key (radar_block a) (text_report b) = false
same_key (text_report a) (radar_block b) = false
same_key (text_report a) (text_report b) = same_text_key a b
