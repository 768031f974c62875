-- How the program ends, as the number that whoever called it gets.
use Rattle.std.specs.Prelude.{◌≡◌, ℕ, List, [], ◌∷◌, drop, codes}
use Rattle.std.specs.declared.io.ErrorKind.{ErrorKind}
use Rattle.std.specs.declared.io.ErrorKind.TheVariants.{OutOfMemory}
use Rattle.run_core.specs.Status.{code_of}
use Rattle.run_core.specs.declared.status.Status.{Status}
use Rattle.run_core.specs.declared.status.Status.TheVariants.{NoMemory}

-- where the words of the command line can't be had: the number of out of memory, or else 1
abbrev pub number_without_words : ErrorKind → ℕ
number_without_words OutOfMemory = code_of NoMemory
number_without_words _ = 1

-- the words after the program's name
abbrev pub words_of : {X : Type 0} → List X → List X
words_of arguments = drop 1 arguments

-- the words are the one word `link`
abbrev pub IsLinkAlone : List (List ℕ) → Type 0
IsLinkAlone words = words ≡ codes "link" ∷ []

-- the words are the one word `ground`
abbrev pub IsGroundAlone : List (List ℕ) → Type 0
IsGroundAlone words = words ≡ codes "ground" ∷ []

-- the words are the one word `receive`
abbrev pub IsReceiveAlone : List (List ℕ) → Type 0
IsReceiveAlone words = words ≡ codes "receive" ∷ []

-- the words are the one word `gdl`
abbrev pub IsGdlAlone : List (List ℕ) → Type 0
IsGdlAlone words = words ≡ codes "gdl" ∷ []

-- the program ends with the number of a status of which this holds
abbrev pub EndsAs : ℕ → (Status → Type 0) → Type 0
EndsAs number Holds = (status : Status) × (number ≡ code_of status) × Holds status
