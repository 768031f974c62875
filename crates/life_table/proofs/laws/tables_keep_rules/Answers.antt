use Rattle.life_table.proofs.Default.{default_table_keeps_the_rules}
use Rattle.life_table.proofs.DefaultDocument.{default_is_written}
use Rattle.life_table.proofs.Kept.{written_keeps}
use Rattle.life_table.proofs.laws.tables_keep_rules.Goals as goal

pub returns-clause-default : goal.returns-clause-default
returns-clause-default c = default_table_keeps_the_rules

pub returns-clause-read : goal.returns-clause-read
returns-clause-read c text table read = written_keeps text table read

pub returns-clause-document : goal.returns-clause-document
returns-clause-document c = default_is_written
