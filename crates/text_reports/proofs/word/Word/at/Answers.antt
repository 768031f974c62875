use Rattle.std.proofs.Common.{◌≡◌, ◌<◌, ℕ, Option, Some, None, option_map, List, length, get_or, sym, ◌∙◌}
use Rattle.std.specs.List.{slice_get}
use Rattle.std.specs.Str.{chars}
use Rattle.std.proofs.lemmas.Iterator.{YieldsList-from_chars}
use Rattle.std.proofs.lemmas.Iterator.Consumers.{nth_from_yields_List}
use Rattle.std.proofs.lemmas.Option.{slice_get-get_or, same_Some}
use Rattle.text_reports.proofs.word.Word.at.Goals as goal

found_there : (r : Option ℕ) (cs : List ℕ) (place : ℕ) → option_map (λ x. x) r ≡ slice_get cs place → place < length cs → r ≡ Some (get_or cs place 0)
found_there None cs place e within = e ∙ slice_get-get_or cs place 0 within
found_there (Some c) cs place e within = e ∙ slice_get-get_or cs place 0 within

pub unwrap-requires : goal.unwrap-requires
unwrap-requires c =
    let found = nth_from_yields_List c.nth.result c.nth.new.self c.args.place c.nth.ensures.ran (YieldsList-from_chars c.as_str.result.now c.as_str.utf8 c.chars.ensures.rest) in
    let within : c.args.place < length (chars c.as_str.result.now) = rw (c.as_str.ensures.value, c.self.view_is) c.requires in
    rw (found_there c.nth.result (chars c.as_str.result.now) c.args.place found within)

pub returns : goal.returns
returns c =
    let found = nth_from_yields_List c.nth.result c.nth.new.self c.args.place c.nth.ensures.ran (YieldsList-from_chars c.as_str.result.now c.as_str.utf8 c.chars.ensures.rest) in
    let within : c.args.place < length (chars c.as_str.result.now) = rw (c.as_str.ensures.value, c.self.view_is) c.requires in
    let e = found_there c.nth.result (chars c.as_str.result.now) c.args.place found within in
    rw (← c.self.view_is, ← c.as_str.ensures.value) (same_Some _ _ (sym c.unwrap.ensures ∙ e))
