use Rattle.std.proofs.Common.{◌≡◌, [], ◌∷◌, None, rules}
use Rattle.std.proofs.lemmas.Result.{err_from_is_err_and, on_ok_weaker, on_err_weaker}
use Rattle.ground_core.specs.Update.{text}
use Rattle.segment_core.specs.Store.{last_above}
use Rattle.ground_core.specs.StandsFor.{history_clock}
use Rattle.ground_core.proofs.State.{same_stands}
use Rattle.ground_core.proofs.Giving.{GivenLaws, none_against, stands_given, told_given}
use Rattle.ground_core.proofs.ground.Ground.give_text.Goals as goal

pub put-requires : goal.put-requires
put-requires c = c.in_ok-item.ensures.few

pub returns-clause-accepted : goal.returns-clause-accepted
returns-clause-accepted c table station history s =
    let laws : GivenLaws c.args.self.now.table = record {
      keys = record { same = c.keys_are_ordered.ensures.same; agrees = c.keys_are_ordered.ensures.agrees };
      given = c.accepted_is_given.ensures;
      rules = c.last_above.ensures.rules;
      lives = c.life_of_entries.ensures.payload;
      longest = c.longest_is_greatest.ensures.texts;
    } in
    let in_time : last_above (history_clock history) c.args.moment ≡ None = search rules in
    on_ok_weaker c.put.result (λ p. stands_given c.args.self.now laws table station history c.args.moment (text c.args.version c.args.text.now) c.put.new.self (c.in_ok-item.item ∷ []) s in_time
    c.last_above.ensures.in_range (c.in_ok-item.ensures.in_range, c.utf8.text) c.in_ok-item.ensures.none
    c.in_ok-item.ensures.item p) c.put.ensures.ok

pub returns-clause-nothing_against : goal.returns-clause-nothing_against
returns-clause-nothing_against c table station history s =
    let laws : GivenLaws c.args.self.now.table = record {
      keys = record { same = c.keys_are_ordered.ensures.same; agrees = c.keys_are_ordered.ensures.agrees };
      given = c.accepted_is_given.ensures;
      rules = c.last_above.ensures.rules;
      lives = c.life_of_entries.ensures.payload;
      longest = c.longest_is_greatest.ensures.texts;
    } in
    let in_time : last_above (history_clock history) c.args.moment ≡ None = search rules in
    on_ok_weaker c.put.result
    (λ p. (in_time, none_against c.args.self.now laws table station history c.args.moment (text c.args.version c.args.text.now) s in_time c.in_ok-item.ensures.none)) c.put.ensures.ok

pub returns-clause-same : goal.returns-clause-same
returns-clause-same c table station history s =
    on_err_weaker c.put.result (λ b. same_stands table station history c.args.self.now c.put.new.self s b) c.put.ensures.unchanged

pub returns-in_err-item-clause-refused : goal.returns-in_err-item-clause-refused
returns-in_err-item-clause-refused c table station history s =
    let p = err_from_is_err_and c.from_residual.result c.from_residual.ensures.1 in
    let laws : GivenLaws c.args.self.now.table = record {
      keys = record { same = c.keys_are_ordered.ensures.same; agrees = c.keys_are_ordered.ensures.agrees };
      given = c.accepted_is_given.ensures;
      rules = c.last_above.ensures.rules;
      lives = c.life_of_entries.ensures.payload;
      longest = c.longest_is_greatest.ensures.texts;
    } in
    let in_time : last_above (history_clock history) c.args.moment ≡ None = search rules in
    rw (p.1, p.2) (told_given c.args.self.now laws table station history c.args.moment (text c.args.version c.args.text.now) c.in_err-item.field-0.0 s in_time c.in_err-item.ensures.fault)
