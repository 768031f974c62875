-- The answers to a stream, in order, are what its pieces say.
use Rattle.std.specs.Prelude.{Option, Some, None}
use Rattle.std.specs.Option.{option_map, option_to_list}
use Rattle.std.proofs.Common.{ℕ, List, [], ◌∷◌, ◌++◌, sym, subst}
use Rattle.gdl90_core.specs.declared.pieces.Framed.{Framed}
use Rattle.gdl90_core.specs.Stream.{pieces_of, ended_piece}
use Rattle.gdl90_core.specs.Reading.{Reading, reading_of, SayInOrder}
use Rattle.gdl90_core.specs.StandsFor.{PieceAnswers}
use Rattle.gdl90_core.specs.Laws.{AnswersInOrder}
use Rattle.gdl90_core.proofs.Cuts.{pieces_go_on}

say-append :
    (pieces others : List (List ℕ)) (readings more : List Reading) → SayInOrder pieces readings → SayInOrder others more
    → SayInOrder (pieces ++ others) (readings ++ more)
say-append [] others [] more say say_more = say_more
say-append [] others (reading ∷ readings) more say say_more = absurd say
say-append (piece ∷ pieces) others [] more say say_more = absurd say
say-append (piece ∷ pieces) others (reading ∷ readings) more say say_more =
    (say.0, say-append pieces others readings more say.1 say_more)

-- an answer is what the piece says that was ended, if one was
answer_says :
    (ended : Option (List ℕ)) (answer : Option Framed) → PieceAnswers ended answer
    → SayInOrder (option_to_list ended) (option_to_list (option_map reading_of answer))
answer_says ended None none =
    let P : Option (List ℕ) → Type 0 = λ o. SayInOrder (option_to_list o) [] in subst P (sym none) tt
answer_says ended (Some framed) some =
    let P : Option (List ℕ) → Type 0 = λ o. SayInOrder (option_to_list o) (reading_of framed ∷ []) in
    subst P (sym some.1) (some.2, tt)

pub answers_in_order : AnswersInOrder
answers_in_order stream byte answer readings answers say =
    let more : List Reading = option_to_list (option_map reading_of answer) in
    let P : List (List ℕ) → Type 0 = λ pieces. SayInOrder pieces (readings ++ more) in
    subst P (sym (pieces_go_on stream byte))
    (say-append (pieces_of stream) (option_to_list (ended_piece stream byte)) readings more say
    (answer_says (ended_piece stream byte) answer answers))
