use Rattle.std.proofs.Common.{◌≡◌, None, sym, subst, rules}
use Rattle.std.proofs.lemmas.Result.{err_from_is_err_and, on_ok_weaker, on_err_weaker}
use Rattle.ground_core.specs.Update.{blanks, weather_of}
use Rattle.segment_core.specs.Store.{last_above}
use Rattle.ground_core.specs.StandsFor.{history_clock}
use Rattle.ground_core.specs.Putting.{AreItemsOf, AreWhole, values_of}
use Rattle.ground_core.specs.Views.{count_at}
use Rattle.ground_core.proofs.State.{same_stands}
use Rattle.ground_core.proofs.SentItems.{whole_items}
use Rattle.ground_core.proofs.Giving.{GivenLaws, none_against, stands_given, told_given}
use Rattle.ground_core.proofs.ground.Ground.give_blanks.Goals as goal

pub put_all-requires : goal.put_all-requires
put_all-requires c = subst (λ xs. AreWhole (values_of xs)) (sym c.deref.ensures.value) c.in_ok-items.ensures.whole

pub returns-clause-accepted : goal.returns-clause-accepted
returns-clause-accepted c table station history s =
    let laws : GivenLaws c.args.self.now.table = record {
      keys = record { same = c.keys_are_ordered.ensures.same; agrees = c.keys_are_ordered.ensures.agrees };
      given = c.accepted_is_given.ensures;
      rules = c.last_above.ensures.rules;
      lives = c.life_of_entries.ensures.payload;
      longest = c.longest_is_greatest.ensures.texts;
    } in
    let in_time : last_above (history_clock history) c.args.moment ≡ None = search rules in
    on_ok_weaker c.put_all.result (λ p. stands_given c.args.self.now laws table station history c.args.moment (blanks c.args.version c.args.product c.args.scale c.args.south c.args.numbers.now) c.put_all.new.self (values_of c.deref.result.now) s in_time
    c.last_above.ensures.in_range c.in_ok-items.ensures.in_range c.in_ok-items.ensures.none
    (subst (λ xs. AreItemsOf (count_at c.args.self.now.files) c.args.self.now.given (weather_of c.args.self.now.table (blanks c.args.version c.args.product c.args.scale c.args.south c.args.numbers.now)) (values_of xs)) (sym c.deref.ensures.value)
    (whole_items (count_at c.args.self.now.files) c.args.self.now.given (weather_of c.args.self.now.table (blanks c.args.version c.args.product c.args.scale c.args.south c.args.numbers.now)) (values_of c.in_ok-items.items.items) c.in_ok-items.ensures.whole c.in_ok-items.ensures.items)) p) c.put_all.ensures.ok

pub returns-clause-nothing_against : goal.returns-clause-nothing_against
returns-clause-nothing_against c table station history s =
    let laws : GivenLaws c.args.self.now.table = record {
      keys = record { same = c.keys_are_ordered.ensures.same; agrees = c.keys_are_ordered.ensures.agrees };
      given = c.accepted_is_given.ensures;
      rules = c.last_above.ensures.rules;
      lives = c.life_of_entries.ensures.payload;
      longest = c.longest_is_greatest.ensures.texts;
    } in
    let in_time : last_above (history_clock history) c.args.moment ≡ None = search rules in
    on_ok_weaker c.put_all.result
    (λ p. (in_time, none_against c.args.self.now laws table station history c.args.moment (blanks c.args.version c.args.product c.args.scale c.args.south c.args.numbers.now) s in_time c.in_ok-items.ensures.none)) c.put_all.ensures.ok

pub returns-clause-same : goal.returns-clause-same
returns-clause-same c table station history s =
    on_err_weaker c.put_all.result (λ b. same_stands table station history c.args.self.now c.put_all.new.self s b) c.put_all.ensures.unchanged

pub returns-in_err-items-clause-refused : goal.returns-in_err-items-clause-refused
returns-in_err-items-clause-refused c table station history s =
    let p = err_from_is_err_and c.from_residual.result c.from_residual.ensures.1 in
    let laws : GivenLaws c.args.self.now.table = record {
      keys = record { same = c.keys_are_ordered.ensures.same; agrees = c.keys_are_ordered.ensures.agrees };
      given = c.accepted_is_given.ensures;
      rules = c.last_above.ensures.rules;
      lives = c.life_of_entries.ensures.payload;
      longest = c.longest_is_greatest.ensures.texts;
    } in
    let in_time : last_above (history_clock history) c.args.moment ≡ None = search rules in
    rw (p.1, p.2) (told_given c.args.self.now laws table station history c.args.moment (blanks c.args.version c.args.product c.args.scale c.args.south c.args.numbers.now) c.in_err-items.field-0.0 s in_time c.in_err-items.ensures.fault)
