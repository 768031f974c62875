use Rattle.std.specs.Str.{bytes_eq}
use Rattle.life_table.specs.LifeTable.{TextRow}
use Rattle.life_table.proofs.Greatest.{greatest_above}
use Rattle.life_table.proofs.Attained.{longest-is, longest-none, radar_below}
use Rattle.life_table.proofs.laws.longest_is_greatest.Goals as goal

pub returns-clause-longest : goal.returns-clause-longest
returns-clause-longest c = longest-is

pub returns-clause-none : goal.returns-clause-none
returns-clause-none c = longest-none

pub returns-clause-texts : goal.returns-clause-texts
returns-clause-texts c table word row found =
    greatest_above (λ (r : TextRow). r.life) (λ r. bytes_eq r.word word) table.texts row found

pub returns-clause-radars : goal.returns-clause-radars
returns-clause-radars c = radar_below
