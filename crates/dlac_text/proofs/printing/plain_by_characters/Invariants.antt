use Rattle.std.proofs.Common.{◌≡◌, take}
use Rattle.std.specs.Str.{IsAscii}
use Rattle.std.specs.String.{string_bytes}
use Rattle.dlac_text.specs.Plain.{plain_text}
use Rattle.dlac_text.proofs.printing.plain_by_characters.Given as goal

-- the text shows the characters so far
abbrev pub invariant-loop-character : goal.invariant-loop-character
invariant-loop-character l = record {
  shown : string_bytes l.text ≡ plain_text (take l.character-index l.characters);
  ascii : IsAscii l.characters;
}
