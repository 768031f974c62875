-- How a text is sent.
use Rattle.std.specs.Prelude.{ℕ, List, [], ◌∷◌, ◌++◌, map}
use Rattle.dlac_text.specs.Alphabet.{code_of}
use Rattle.dlac_text.specs.SixBits.{packed_bytes}

-- one code a character, the code 0 that ends a report, and zero bits to a whole byte
unfoldable pub text_payload : List ℕ → List ℕ
text_payload text = packed_bytes (map code_of text ++ 0 ∷ [])
