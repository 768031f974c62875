-- Code words as functions, for definitions that stand above: the code word that begins with a
-- message, and the code word near a word. Both are the first such among all words, which nobody
-- computes; the laws of this crate say that there is no other, and where there is one.
use Rattle.std.specs.Prelude.{ℕ, zero, suc, ◌==◌, nat_lt, Bool, ◌&&◌, Option, unwrap_or}
use Rattle.std.specs.Prelude.{List, [], ◌∷◌, length, take, map, flat_map, find}
use Rattle.std.specs.List.{range_with_len, list_all}
use Rattle.rs_code.specs.CodeWord.{power_sum, differences, are_near}

-- all words of so many bytes
unfoldable pub words : ℕ → List (List ℕ)
words zero = [] ∷ []
words (suc count) =
    flat_map (λ byte. map (λ word. byte ∷ word) (words count)) (range_with_len 0 256)

-- whether a word is a code word
unfoldable pub is_code_word : ℕ → ℕ → ℕ → List ℕ → Bool
is_code_word count roots first word =
    (length word == count)
    && (list_all (λ byte. nat_lt byte 256) word
    && list_all (λ j. power_sum word j == 0) (range_with_len first roots))

-- whether a word begins with a message
abbrev pub begins_with : List ℕ → List ℕ → Bool
begins_with message word = differences (take (length message) word) message == 0

-- the code word that begins with a message
unfoldable pub encoded_word : ℕ → ℕ → ℕ → List ℕ → List ℕ
encoded_word count roots first message =
    unwrap_or (find (λ word. is_code_word count roots first word && begins_with message word)
    (words count)) []

-- the code word near a word, where there is one
unfoldable pub corrected_word : ℕ → ℕ → ℕ → List ℕ → Option (List ℕ)
corrected_word count roots first word =
    find (λ other. is_code_word count roots first other && are_near roots word other) (words count)
