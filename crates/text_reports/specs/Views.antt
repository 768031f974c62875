-- What the keys and faults of the code stand for.
use Rattle.std.specs.Prelude.{◌≡◌, ⊤, ℕ, ◌==◌, if◌then◌else◌, List, [], ◌∷◌, Option, Some, None}
use Rattle.std.specs.Prelude.{Result, Ok, Err}
use Rattle.text_reports.specs.TextKey.{TextKey, KeyFault, few_words, unlisted}
use Rattle.text_reports.specs.declared.key.TextKey.{TextKey as Key}
use Rattle.text_reports.specs.declared.key.KeyFault.{KeyFault as Fault}
use Rattle.text_reports.specs.declared.key.KeyFault.TheVariants.{FewWords, Unlisted, NoMemory}

abbrev pub key_view : Key → TextKey
key_view key = record { kind = key.kind; place = key.place; third = key.third }

-- the fault is the one of the answer; out of memory may come at any answer
abbrev pub IsFault : Fault → Result TextKey KeyFault → Type 0
IsFault FewWords answer = answer ≡ Err few_words
IsFault Unlisted answer = answer ≡ Err unlisted
IsFault NoMemory answer = ⊤

-- the third word of a key of so many words, of those after the second
abbrev pub third_of : ℕ → List (List ℕ) → Result (Option (List ℕ)) KeyFault
third_of words [] = if words == 3 then Err few_words else Ok None
third_of words (third ∷ more) = Ok (if words == 3 then Some third else None)

abbrev pub IsThirdFault : Fault → Result (Option (List ℕ)) KeyFault → Type 0
IsThirdFault FewWords answer = answer ≡ Err few_words
IsThirdFault Unlisted answer = ⊥
IsThirdFault NoMemory answer = ⊤
