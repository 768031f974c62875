-- Powers of the element 2.
use Rattle.std.proofs.Common.{◌≡◌, ℕ, zero, suc, ◌+◌, ◌<◌, List, refl, sym, ◌∙◌, ap, arith, lit<, inl, inr, get_or}
use Rattle.gf256_core.specs.Field.{power, IsField}
use Rattle.gf256_core.specs.Tables.{AreTables}
use Rattle.gf256_core.specs.Rows.{row_is_power}
use Rattle.gf256_core.specs.UatLaws.{uat_laws}
use Rattle.poly256.specs.Polynomial.{element_product, element_power}

pub power-suc : (a n : ℕ) → element_power a (suc n) ≡ element_product (element_power a n) a
unfolding power
power-suc a n = refl

pub power-zero : (a : ℕ) → element_power a 0 ≡ 1
unfolding power
power-zero a = refl

pub power-fits : (F : IsField 391) (a n : ℕ) → element_power a n < 256
unfolding power
power-fits F a zero = lit< tt
power-fits F a (suc n) = F.product_fits (element_power a n) a

pub product-one : (F : IsField 391) (a : ℕ) → a < 256 → element_product a 1 ≡ a
product-one F a h = F.product_comm a 1 ∙ F.product_one a h

pub power-add :
    (F : IsField 391) (a m n : ℕ) → element_power a (m + n) ≡ element_product (element_power a m) (element_power a n)
power-add F a m zero =
    ap (element_power a) (let e : m + 0 ≡ m = omega arith in e)
    ∙ sym (ap (element_product (element_power a m)) (power-zero a) ∙ product-one F (element_power a m) (power-fits F a m))
power-add F a m (suc n) =
    ap (element_power a) (let e : m + suc n ≡ suc (m + n) = omega arith in e)
    ∙ power-suc a (m + n)
    ∙ ap (λ (x : ℕ). element_product x a) (power-add F a m n)
    ∙ F.product_assoc (element_power a m) (element_power a n) a
    ∙ ap (element_product (element_power a m)) (sym (power-suc a n))

pub power-not_zero : (F : IsField 391) (n : ℕ) → element_power 2 n ≡ 0 → ⊥
power-not_zero F zero e = let one : ◌≡◌ {A = ℕ} 1 0 = sym (power-zero 2) ∙ e in absurd (omega arith)
power-not_zero F (suc n) e =
    elim (F.zero_factor (element_power 2 n) 2 (power-fits F 2 n) (lit< tt) (sym (power-suc 2 n) ∙ e)) [
      | inl front ↦ power-not_zero F n front
      | inr two ↦ absurd (omega arith)
    ]

same_from_powers :
    (modulus : ℕ) (powers logarithms : List ℕ) → AreTables modulus powers logarithms → (i j : ℕ) → i < 255 → j < 255
    → power modulus 2 i ≡ power modulus 2 j → i ≡ j
same_from_powers modulus powers logarithms t i j h h' e =
    sym (t.logarithm i h)
    ∙ ap (λ (x : ℕ). get_or logarithms x 0)
    (row_is_power modulus powers logarithms t i h ∙ e ∙ sym (row_is_power modulus powers logarithms t j h'))
    ∙ t.logarithm j h'

-- the first 255 powers are different
pub power-injective : (i j : ℕ) → i < 255 → j < 255 → element_power 2 i ≡ element_power 2 j → i ≡ j
power-injective i j h h' e = same_from_powers _ _ _ uat_laws i j h h' e
