-- Fields side by side, and the fields that are read at their places: the one undoes the other, for any list of fields.
use Rattle.std.proofs.Common.{◌≡◌, ℕ, ◌+◌, ◌-◌, ◌*◌, ◌/◌, ◌%◌, ◌^◌, ◌<◌, List, [], ◌∷◌, length, sym, ap, ◌∙◌, arith}
use Rattle.std.proofs.Math.Nat.{mul_comm, mod-eq_of_lt}
use Rattle.std.proofs.lemmas.Nat.{pow-add, mod-pow-add, mod_below, mul-add-lt, same_from_place, pow_pos}
use Rattle.std.specs.Int.{bytes_high_first}
use Rattle.std.specs.List.{AllByRecursion}
use Rattle.bit_fields.specs.Bits.{Field, as_number, number_of, field_at}
use Rattle.apdu_core.specs.Spelling.{AreBytes}
use Rattle.bit_fields.specs.BytesAsNumbers.{joined_step, number_of-fits}
use Rattle.apdu_core.proofs.ByteLemmas.{bytes_from_number, number_of-bytes}

abbrev pub total_width : List Field → ℕ
total_width [] = 0
total_width (field ∷ more) = field.width + total_width more

-- each number is within its width
abbrev pub IsWithin : Field → Type 0
IsWithin field = field.number < 2 ^ field.width

abbrev pub AreWithin : List Field → Type 0
AreWithin fields = AllByRecursion IsWithin fields

-- each number stands in the number, the last field lowest
abbrev pub AreIn : ℕ → List Field → Type 0
AreIn n [] = Unit {0}
AreIn n (field ∷ more) = (field.number ≡ n / 2 ^ total_width more % 2 ^ field.width) × AreIn n more

-- each number stands in the bytes, the first field at this place
abbrev pub AreAt : List ℕ → ℕ → List Field → Type 0
AreAt bytes place [] = Unit {0}
AreAt bytes place (field ∷ more) = (field.number ≡ field_at bytes place field.width) × AreAt bytes (place + field.width) more

pub joined-behind : (fields : List Field) (bits : ℕ) → as_number bits fields ≡ bits * 2 ^ total_width fields + as_number 0 fields
joined-behind [] bits = omega arith
joined-behind (f ∷ more) bits =
    joined_step bits (2 ^ f.width) (2 ^ total_width more) f.number (2 ^ (f.width + total_width more)) (as_number 0 more)
    (as_number (bits * 2 ^ f.width + f.number) more) (as_number (0 * 2 ^ f.width + f.number) more)
    (joined-behind more (bits * 2 ^ f.width + f.number)) (joined-behind more (0 * 2 ^ f.width + f.number)) (pow-add 2 f.width (total_width more))

joined-cons : (f : Field) (more : List Field) → as_number 0 (f ∷ more) ≡ f.number * 2 ^ total_width more + as_number 0 more
joined-cons f more =
    let e : 0 * 2 ^ f.width + f.number ≡ f.number = omega arith in
    ap (λ (n : ℕ). as_number n more) e ∙ joined-behind more f.number

pub joined-fits : (fields : List Field) → AreWithin fields → as_number 0 fields < 2 ^ total_width fields
joined-fits [] h = omega arith
joined-fits (f ∷ more) h =
    rw (joined-cons f more, pow-add 2 f.width (total_width more), mul_comm (2 ^ f.width) (2 ^ total_width more))
    (mul-add-lt f.number (2 ^ total_width more) (as_number 0 more) (2 ^ f.width) h.0 (joined-fits more h.1))

pub within-from_in : (fields : List Field) (n : ℕ) → AreIn n fields → AreWithin fields
within-from_in [] n h = tt
within-from_in (f ∷ more) n h =
    let fits : n / 2 ^ total_width more % 2 ^ f.width < 2 ^ f.width = mod_below (n / 2 ^ total_width more) (2 ^ f.width) (pow_pos f.width) in
    (rw h.0 fits, within-from_in more n h.1)

-- fields that stand in a number make its lowest part
pub joined-from_in : (fields : List Field) (n : ℕ) → AreIn n fields → as_number 0 fields ≡ n % 2 ^ total_width fields
joined-from_in [] n h = omega arith
joined-from_in (f ∷ more) n h =
    joined-cons f more
    ∙ ap (λ (x : ℕ). x * 2 ^ total_width more + as_number 0 more) h.0
    ∙ ap (λ (x : ℕ). n / 2 ^ total_width more % 2 ^ f.width * 2 ^ total_width more + x) (joined-from_in more n h.1)
    ∙ sym (mod-pow-add n f.width (total_width more))

-- and the other way round
pub in-from_joined : (fields : List Field) (n : ℕ) → AreWithin fields → as_number 0 fields ≡ n % 2 ^ total_width fields → AreIn n fields
in-from_joined [] n h e = tt
in-from_joined (f ∷ more) n h e =
    let w = total_width more in
    let both = same_from_place f.number (as_number 0 more) (n / 2 ^ w % 2 ^ f.width) (n % 2 ^ w) (2 ^ w)
    (joined-fits more h.1) (mod_below n (2 ^ w) (pow_pos w)) (sym (joined-cons f more) ∙ e ∙ mod-pow-add n f.width w) in
    (both.0, in-from_joined more n h.1 both.1)

-- places are counted from the front
behind_place : (bits place w rest : ℕ) → place + (w + rest) ≡ bits → bits - place - w ≡ rest
behind_place bits place w rest e = omega arith

pub in-from_at : (fields : List Field) (bytes : List ℕ) (place : ℕ) → place + total_width fields ≡ 8 * length bytes → AreAt bytes place fields → AreIn (number_of bytes) fields
in-from_at [] bytes place e h = tt
in-from_at (f ∷ more) bytes place e h =
    let rest = behind_place (8 * length bytes) place f.width (total_width more) e in
    (h.0 ∙ ap (λ (k : ℕ). number_of bytes / 2 ^ k % 2 ^ f.width) rest, in-from_at more bytes (place + f.width) (omega arith) h.1)

pub at-from_in : (fields : List Field) (bytes : List ℕ) (place : ℕ) → place + total_width fields ≡ 8 * length bytes → AreIn (number_of bytes) fields → AreAt bytes place fields
at-from_in [] bytes place e h = tt
at-from_in (f ∷ more) bytes place e h =
    let rest = behind_place (8 * length bytes) place f.width (total_width more) e in
    (h.0 ∙ ap (λ (k : ℕ). number_of bytes / 2 ^ k % 2 ^ f.width) (sym rest), at-from_in more bytes (place + f.width) (omega arith) h.1)

-- bytes in which the fields stand are the fields side by side
pub bytes-from_at : (fields : List Field) (bytes : List ℕ) → AreBytes bytes → total_width fields ≡ 8 * length bytes → AreAt bytes 0 fields
    → AreWithin fields × (bytes ≡ bytes_high_first (length bytes) (as_number 0 fields))
bytes-from_at fields bytes b e h =
    let within = in-from_at fields bytes 0 (omega arith) h in
    let number : as_number 0 fields ≡ number_of bytes =
    joined-from_in fields (number_of bytes) within ∙ ap (λ (k : ℕ). number_of bytes % 2 ^ k) e ∙ mod-eq_of_lt (number_of-fits bytes b) in
    (within-from_in fields (number_of bytes) within, sym (ap (bytes_high_first (length bytes)) number ∙ bytes_from_number bytes b))

-- in the bytes of fields side by side each field stands at its place
pub at-from_bytes : (fields : List Field) (n : ℕ) → total_width fields ≡ 8 * n → AreWithin fields → length (bytes_high_first n (as_number 0 fields)) ≡ n
    → AreAt (bytes_high_first n (as_number 0 fields)) 0 fields
at-from_bytes fields n e h l =
    let bytes = bytes_high_first n (as_number 0 fields) in
    let number : as_number 0 fields ≡ number_of bytes % 2 ^ total_width fields =
    sym (ap (λ (x : ℕ). x % 2 ^ total_width fields) (number_of-bytes n (as_number 0 fields) ∙ ap (λ (k : ℕ). as_number 0 fields % 2 ^ k) (sym e) ∙ mod-eq_of_lt (joined-fits fields h))
    ∙ mod-eq_of_lt (joined-fits fields h)) in
    at-from_in fields bytes 0 (omega arith) (in-from_joined fields (number_of bytes) h number)
