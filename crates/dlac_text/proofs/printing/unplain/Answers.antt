use Rattle.std.proofs.Common.{◌∙◌, sym, ap, ◌++◌, None, Some, lit<, rules}
use Rattle.std.specs.String.{string_bytes}
use Rattle.std.proofs.lemmas.Str.Pattern.{split_parts}
use Rattle.dlac_text.specs.Plain.{prefixed_text, text_of_plain}
use Rattle.dlac_text.proofs.PlainLemmas.{up_to_backslash, past_backslash, to_end, prefixed_text-nil}
use Rattle.dlac_text.proofs.printing.unplain.Goals as goal

pub loop-before-init : goal.loop-before-init
loop-before-init c =
    let text = c.args.text.now in
    record {
      text = c.utf8.text;
      joined = sym (prefixed_text-nil (text_of_plain text)) ∙ ap (λ t. prefixed_text t (text_of_plain text)) (sym c.new-shown.ensures.bytes);
    }

pub returns-in_default-read_escape : goal.returns-in_default-read_escape
returns-in_default-read_escape c =
    let all = text_of_plain c.args.text.now in
    let parts = split_parts 92 c.loop-before.rest.now (Some (c.in-Some.before, c.in-Some.after)) c.in-Some.ensures.cases (lit< tt) in
    let so_far = up_to_backslash all _ c.loop-before.rest.now c.in-Some.before.now c.in-Some.after.now _ c.loop-before.invariant.joined parts.0 parts.1 c.in_ok-push_str.ensures.bytes in
    sym (so_far ∙ ap (prefixed_text _) c.in_default-read_escape.ensures.shown)

pub loop-before-preserved : goal.loop-before-preserved
loop-before-preserved c =
    let all = text_of_plain c.args.text.now in
    let parts = split_parts 92 c.loop-before.rest.now (Some (c.in-Some.before, c.in-Some.after)) c.in-Some.ensures.cases (lit< tt) in
    let so_far = up_to_backslash all _ c.loop-before.rest.now c.in-Some.before.now c.in-Some.after.now _ c.loop-before.invariant.joined parts.0 parts.1 c.in_ok-push_str.ensures.bytes in
    let shown = c.in-Some-read_escape.ensures in
    record {
      text = search rules;
      joined = past_backslash all _ c.in-Some.after.now c.in-Some-read_escape.more.now _ c.in-Some-read_escape.character so_far shown.shown (c.in_ok-push.ensures.bytes ∙ ap (λ t. string_bytes c.push_str.new.self ++ t) (c.push.ensures.ascii shown.ascii));
    }

pub returns : goal.returns
returns c =
    let none = split_parts 92 c.loop-before.rest.now None c.in_default.ensures.cases (lit< tt) in
    to_end (text_of_plain c.args.text.now) _ c.loop-before.rest.now _ c.loop-before.invariant.joined none c.in_ok-push_str-2.ensures.bytes
