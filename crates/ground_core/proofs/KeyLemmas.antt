-- What the law of keys says of the test of two of them.
use Rattle.std.proofs.Common.{◌≡◌, true, sym}
use Rattle.std.specs.Bool.{Decides}
use Rattle.std.specs.Ordering.{is_eq}
use Rattle.std.proofs.lemmas.Bool.Decides.{same_from_decides}
use Rattle.text_reports.specs.TextKey.{TextKey, same_text_key}
use Rattle.picture_core.specs.Key.{Key, text_report, key_cmp, same_key}

-- what `picture_core` promises of keys
pub record KeyLaws : Type 0 where
  pub same : (a b : Key) → Decides (same_key a b) (a ≡ b)
  pub agrees : (a b : Key) → is_eq (key_cmp a b) ≡ same_key a b

pub text_key_is : KeyLaws → (a b : TextKey) → same_text_key a b ≡ true → a ≡ b
text_key_is keys a b h = let same : text_report a ≡ text_report b = (keys.same (text_report a) (text_report b)).0 h in cc

pub same_key_comm : KeyLaws → (a b : Key) → same_key a b ≡ same_key b a
same_key_comm keys a b =
    let turned = keys.same b a in
    same_from_decides (same_key a b) (same_key b a) (keys.same a b) (λ h. sym (turned.0 h), λ e. turned.1 (sym e))
