use Rattle.std.proofs.Common.{◌∙◌, sym, ap, ◌++◌, get_or}
use Rattle.dlac_text.specs.Plain.{plain_character}
use Rattle.dlac_text.proofs.PlainLemmas.{plain_text-more}
use Rattle.dlac_text.proofs.printing.plain_by_characters.Goals as goal

pub loop-character-preserved : goal.loop-character-preserved
loop-character-preserved c =
    let characters = c.as_bytes-characters.result.now in
    let i = c.loop-character.character-index in
    record {
      shown = c.in_ok-push_plain.ensures ∙ ap (λ t. t ++ plain_character (get_or characters i 0)) c.loop-character.invariant.shown ∙ sym (plain_text-more characters i c.loop-character-test.true);
      ascii = c.loop-character.invariant.ascii;
    }
