use Rattle.std.proofs.Common.{inl, inr}
use Rattle.gdl90_core.specs.declared.deframer.Stage.TheVariants.{Inside, Escaping, Broken}
use Rattle.gdl90_core.specs.Reading.{reading_of}
use Rattle.gdl90_core.proofs.Steps.{at_stage, inside_says, escaping_says, broken_says}
use Rattle.gdl90_core.proofs.deframer.Deframer.reading_at.Goals as goal

pub returns-in-Inside : goal.returns-in-Inside
returns-in-Inside c = λ piece at.
    inside_says c.args.self.now.kept piece (reading_of c.reading.result)
    (at_stage _ Inside _ piece c.in-Inside.is at) c.reading.ensures

pub returns-in-Escaping : goal.returns-in-Escaping
returns-in-Escaping c = λ piece at. elim c.in-Escaping.is [
  | inl is ↦ escaping_says c.args.self.now.kept piece (at_stage _ Escaping _ piece is at)
  | inr is ↦ broken_says c.args.self.now.kept piece (at_stage _ Broken _ piece is at)
]
