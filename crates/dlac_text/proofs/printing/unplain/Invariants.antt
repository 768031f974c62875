use Rattle.std.proofs.Common.{◌≡◌, length}
use denote.Text.{Utf8}
use denote.Shadow.{shadow}
use Rattle.std.specs.String.{string_bytes}
use Rattle.dlac_text.specs.Plain.{text_of_plain, prefixed_text}
use Rattle.dlac_text.proofs.printing.unplain.Given as goal

-- the text shown so far, before what the rest shows, is what all shows
abbrev pub invariant-loop-before : goal.invariant-loop-before
invariant-loop-before l = record {
  text : shadow (Utf8 l.rest);
  joined : text_of_plain l.text ≡ prefixed_text (string_bytes l.shown) (text_of_plain l.rest);
}

abbrev pub decreases-loop-before : goal.decreases-loop-before
decreases-loop-before l = length l.rest
