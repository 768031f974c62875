use Rattle.gf256_core.proofs.FieldLaws.{field_from_tables}
use Rattle.gf256_core.proofs.laws.field_laws.Goals as goal

pub returns : goal.returns
returns g c = field_from_tables g.met.T.FieldTables.laws
