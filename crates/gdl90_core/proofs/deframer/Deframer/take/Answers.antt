use Rattle.std.proofs.Common.{[], ◌∷◌, inl, inr, sym}
use Rattle.gdl90_core.specs.declared.deframer.Stage.TheVariants.{Outside, Start, Inside, Escaping, Broken}
use Rattle.gdl90_core.specs.Stream.{behind_flag}
use Rattle.gdl90_core.proofs.Steps.{at_stage, outside_on, broken_on, start_on, read_on}
use Rattle.gdl90_core.proofs.deframer.Deframer.take.Goals as goal

pub returns-in-Outside : goal.returns-in-Outside
returns-in-Outside c = λ stream stands. elim c.in-Outside.is [
  | inl is ↦
      at_stage Outside _ _ _ (sym is)
      (outside_on c.args.self.now.kept stream c.args.byte c.requires (at_stage _ Outside _ _ is stands))
  | inr is ↦
      at_stage Broken _ _ _ (sym is)
      (broken_on c.args.self.now.kept stream c.args.byte c.requires (at_stage _ Broken _ _ is stands))
]

pub returns-in-Start : goal.returns-in-Start
returns-in-Start c = λ stream stands.
    start_on _ _ c.args.self.now.kept stream c.args.byte c.requires
    (at_stage _ Start c.args.self.now.kept _ c.in-Start.is stands) (c.take_unescaped.ensures [] c.clear.ensures)

pub returns-in-Inside : goal.returns-in-Inside
returns-in-Inside c = λ stream stands.
    let at = at_stage _ Inside c.args.self.now.kept (behind_flag stream) c.in-Inside.is stands in
    read_on _ _ stream at.1.0 [] c.args.byte c.requires at.1.1 (c.take_unescaped-in-Inside.ensures at.1.0 at.1.2)

pub returns-in-Escaping : goal.returns-in-Escaping
returns-in-Escaping c = λ stream stands.
    let at = at_stage _ Escaping c.args.self.now.kept (behind_flag stream) c.in-Escaping.is stands in
    read_on _ _ stream at.0 (0x7D ∷ []) c.args.byte c.requires at.1 (c.take_escaped.ensures at.0 at.2)
