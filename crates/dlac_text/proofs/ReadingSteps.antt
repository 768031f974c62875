-- What reading a code, or four characters, does to the reports of all.
use Rattle.std.proofs.Common.{◌≡◌, ◌≢◌, ◌⊎◌, ℕ, Bool, true, false, List, [], ◌∷◌, ◌++◌, replicate, filter, sym, ap, ◌∙◌, append_assoc, append-nil, arith}
use Rattle.dlac_text.specs.Alphabet.{character_or_zero}
use Rattle.dlac_text.specs.Reading.{Reading, HasRead, reports_from, reports_with}
use Rattle.dlac_text.specs.Reports.{has_characters}
use Rattle.dlac_text.proofs.CharacterRows.{some_character, is_character}
use Rattle.dlac_text.proofs.Joining.{from_nothing, from_end_code, from_tab, from_character}

abbrev pub reading : List (List ℕ) → List ℕ → Bool → Reading
reading reports text is_tab = record { reports = reports; text = text; is_tab = is_tab }

pub read_on : (code : ℕ) (codes : List ℕ) (old between new : Reading) → HasRead (code ∷ []) old between → HasRead codes between new → HasRead (code ∷ codes) old new
read_on code codes old between new h k more = k more ∙ h (codes ++ more)

pub read_spaces : (reports : List (List ℕ)) (text : List ℕ) (code : ℕ) → HasRead (code ∷ []) (reading reports text true) (reading reports (text ++ replicate code 32) false)
read_spaces reports text code more = ap (λ rs. reports ++ rs) (sym (from_tab text more code))

pub read_end : (reports : List (List ℕ)) (text : List ℕ) (code : ℕ) → (code ≡ 0) ⊎ (code ≡ 29) → HasRead (code ∷ []) (reading reports text false) (reading (reports ++ filter has_characters (text ∷ [])) [] false)
read_end reports text code h more = append_assoc reports (filter has_characters (text ∷ [])) (reports_from [] more) ∙ ap (λ rs. reports ++ rs) (sym (from_end_code text more code h))

pub read_character : (reports : List (List ℕ)) (text : List ℕ) (code : ℕ) → code ≢ 0 → code ≢ 28 → code ≢ 29 → HasRead (code ∷ []) (reading reports text false) (reading reports (text ++ character_or_zero code ∷ []) false)
read_character reports text code h i j more =
    ap (λ c. reports ++ reports_from (text ++ c ∷ []) more) (is_character code h i j) ∙ ap (λ rs. reports ++ rs) (sym (from_character text more code h i j))

read_some : (reports : List (List ℕ)) (text : List ℕ) (code : ℕ) → character_or_zero code ≢ 0 → HasRead (code ∷ []) (reading reports text false) (reading reports (text ++ character_or_zero code ∷ []) false)
read_some reports text code h = let known = some_character code h in read_character reports text code known.0 known.1 known.2

-- four characters in turn, and what stands for them
pub read_four : (reports : List (List ℕ)) (text : List ℕ) (a b c d : ℕ) → character_or_zero a ≢ 0 → character_or_zero b ≢ 0 → character_or_zero c ≢ 0 → character_or_zero d ≢ 0
    → HasRead (a ∷ b ∷ c ∷ d ∷ []) (reading reports text false) (reading reports (text ++ character_or_zero a ∷ character_or_zero b ∷ character_or_zero c ∷ character_or_zero d ∷ []) false)
read_four reports text a b c d h i j k more =
    let p = character_or_zero a in
    let q = character_or_zero b in
    let r = character_or_zero c in
    let s = character_or_zero d in
    let texts : text ++ p ∷ q ∷ r ∷ s ∷ [] ≡ (((text ++ p ∷ []) ++ q ∷ []) ++ r ∷ []) ++ s ∷ [] = sym (append_assoc _ (r ∷ []) (s ∷ []) ∙ append_assoc _ (q ∷ []) (r ∷ s ∷ []) ∙ append_assoc text (p ∷ []) (q ∷ r ∷ s ∷ [])) in
    ap (λ t. reports ++ reports_from t more) texts ∙ read_some reports _ d k more ∙ read_some reports _ c j (d ∷ more) ∙ read_some reports _ b i (c ∷ d ∷ more) ∙ read_some reports text a h (b ∷ c ∷ d ∷ more)

-- the same of any two readings of which one is told by the other

pub spaces_read : (old new : Reading) (code : ℕ) → old.is_tab ≡ true → new ≡ reading old.reports (old.text ++ replicate code 32) false → HasRead (code ∷ []) old new
spaces_read old new code tab told more = rw (told, tab) (read_spaces old.reports old.text code more)

pub end_read : (old new : Reading) (code : ℕ) → (code ≡ 0) ⊎ (code ≡ 29) → old.is_tab ≡ false → new ≡ reading (old.reports ++ filter has_characters (old.text ∷ [])) [] old.is_tab → HasRead (code ∷ []) old new
end_read old new code end no_tab told more = rw (told, no_tab) (read_end old.reports old.text code end more)

pub character_read : (old new : Reading) (code : ℕ) → code ≢ 0 → code ≢ 28 → code ≢ 29 → old.is_tab ≡ false → new ≡ reading old.reports (old.text ++ character_or_zero code ∷ []) old.is_tab → HasRead (code ∷ []) old new
character_read old new code h i j no_tab told more = rw (told, no_tab) (read_character old.reports old.text code h i j more)

pub four_read : (old new : Reading) (a b c d : ℕ) → (character_or_zero a ≢ 0) × (character_or_zero b ≢ 0) × (character_or_zero c ≢ 0) × (character_or_zero d ≢ 0) → old.is_tab ≡ false
    → new ≡ reading old.reports (old.text ++ character_or_zero a ∷ character_or_zero b ∷ character_or_zero c ∷ character_or_zero d ∷ []) old.is_tab → HasRead (a ∷ b ∷ c ∷ d ∷ []) old new
four_read old new a b c d (h, i, j, k) no_tab told more = rw (told, no_tab) (read_four old.reports old.text a b c d h i j k more)

-- what is read where nothing follows
pub read_all : (reports : List (List ℕ)) (text : List ℕ) (is_tab : Bool) → reports ++ filter has_characters (text ∷ []) ≡ reports_with (reading reports text is_tab) []
read_all reports text false = ap (λ rs. reports ++ rs) (sym (from_nothing text [] (omega arith)))
read_all reports text true = ap (λ t. reports ++ filter has_characters (t ∷ [])) (sym (append-nil text))
