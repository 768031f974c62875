use Rattle.std.specs.Prelude.{Option}
use Rattle.std.proofs.Common.{List, ℕ, refl, sym, subst}
use Rattle.gdl90_core.specs.Stream.{behind_flag}
use Rattle.gdl90_core.specs.StandsFor.{PieceAnswers}
use Rattle.gdl90_core.proofs.Streams.{behind_flag-flag, ended_piece-flag}
use Rattle.gdl90_core.proofs.deframer.Deframer.feed.Goals as goal

pub returns : goal.returns
returns c = (
  (refl, (λ _. tt), λ stream stands. behind_flag-flag stream c.args.byte c.if-byte-ne-FLAG.false),
  record {
    stands = tt;
    answer = λ stream stands.
        let P : Option (List ℕ) → Type 0 = λ ended. PieceAnswers ended c.reading_at.result in
        subst P (sym (ended_piece-flag stream c.args.byte c.if-byte-ne-FLAG.false))
        (c.reading_at.ensures (behind_flag stream) stands);
  },
)
