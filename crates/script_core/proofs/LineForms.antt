-- What a line is, by its first field.
use Rattle.std.proofs.Common.{◌≡◌, ◌<◌, ℕ, true, false, List, [], ◌∷◌, length, codes, arith, refl, ap, ◌∙◌}
use Rattle.script_core.specs.Fields.{fields, line_of, line_of_fields, text_line, blank_line, hear_line, other_line, is_word}

pub line_of-fields : (bytes : List ℕ) → 0 < length bytes → line_of bytes ≡ line_of_fields (fields bytes)
line_of-fields [] some = absurd (omega arith)
line_of-fields (b ∷ more) some = refl

pub line_of_text : (bytes word : List ℕ) (others : List (List ℕ)) → 0 < length bytes → fields bytes ≡ word ∷ others → is_word word (codes "text") ≡ true
    → line_of bytes ≡ text_line others
line_of_text bytes word others some cut is_text = line_of-fields bytes some ∙ ap line_of_fields cut ∙ rw is_text

pub line_of_blank : (bytes word : List ℕ) (others : List (List ℕ)) → 0 < length bytes → fields bytes ≡ word ∷ others → is_word word (codes "text") ≡ false
    → is_word word (codes "blank") ≡ true → line_of bytes ≡ blank_line others
line_of_blank bytes word others some cut no_text is_blank = line_of-fields bytes some ∙ ap line_of_fields cut ∙ rw (no_text, is_blank)

pub line_of_hear : (bytes word : List ℕ) (others : List (List ℕ)) → 0 < length bytes → fields bytes ≡ word ∷ others → is_word word (codes "text") ≡ false
    → is_word word (codes "blank") ≡ false → is_word word (codes "hear") ≡ true → line_of bytes ≡ hear_line others
line_of_hear bytes word others some cut no_text no_blank is_hear = line_of-fields bytes some ∙ ap line_of_fields cut ∙ rw (no_text, no_blank, is_hear)

pub line_of_other : (bytes word : List ℕ) (others : List (List ℕ)) → 0 < length bytes → fields bytes ≡ word ∷ others → is_word word (codes "text") ≡ false
    → is_word word (codes "blank") ≡ false → is_word word (codes "hear") ≡ false → line_of bytes ≡ other_line word others
line_of_other bytes word others some cut no_text no_blank no_hear = line_of-fields bytes some ∙ ap line_of_fields cut ∙ rw (no_text, no_blank, no_hear)
