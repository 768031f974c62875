use Rattle.std.proofs.Common.{◌≡◌}
use Rattle.std.specs.Str.{IsUtf8, IsValidUpTo, valid_up_to}
use Rattle.script_core.proofs.DigitTexts.{utf8_of_cells, ok_where}
use Rattle.script_core.proofs.picture_text.push_radar.Goals as goal

pub unwrap-digits-requires : goal.unwrap-digits-requires
unwrap-digits-requires c =
    let digits = c.put_digits.new.digits in
    let text : IsUtf8 digits = rw c.put_digits.ensures.digits (utf8_of_cells c.args.cells.now c.put_digits.ensures.cells) in
    ok_where c.from_utf8.result (λ s. (s.now ≡ digits) × IsUtf8 digits) (IsUtf8 digits) (λ e. IsValidUpTo digits (valid_up_to e)) c.from_utf8.ensures.cases text
