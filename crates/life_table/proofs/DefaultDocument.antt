-- The document of the default table, computed as a text is read.
use Rattle.std.proofs.Common.{◌≡◌, Ok, refl}
use Rattle.std.specs.Str.{is_utf8, chars}
use Rattle.toml.proofs.OnLiterals.{toml_on_literals}
use Rattle.life_table.specs.LifeTable.{default_table}
use Rattle.life_table.specs.Document.{head}
use Rattle.life_table.specs.RowsOf.{own_text, alike_text, text_entry, radar_entry}
use Rattle.life_table.specs.TableIn.{table_of_tree, table_in}
use Rattle.life_table.specs.DefaultDocument.{default_document}

pub default_is_written : table_in default_document ≡ Ok default_table
unfolding toml_on_literals is_utf8 chars head own_text alike_text text_entry radar_entry table_of_tree table_in default_table
default_is_written = refl
