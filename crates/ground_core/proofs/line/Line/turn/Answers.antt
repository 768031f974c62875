use Rattle.std.proofs.Common.{◌≡◌, ◌<◌, if◌then◌else◌, List, length, map, refl, sym, ap, subst, ◌∙◌, inr, rules}
use Rattle.list_members.specs.Membership.{IsIn}
use Rattle.ground_core.specs.Putting.{is_among}
use Rattle.ground_core.specs.Views.{place_view, keys_in, latest_at, pieces_in}
use Rattle.ground_core.specs.declared.item.SentItem.{SentItem}
use Rattle.picture_core.specs.Key.{Key}
use Rattle.ground_core.specs.Piece.{IsLastOrEnded, ArePlaced, while_living}
use Rattle.ground_core.proofs.Kept.{kept_where}
use Rattle.ground_core.proofs.Placed.{among_itself, placed_dropped, placed_aired}
use Rattle.ground_core.proofs.KeyLemmas.{KeyLaws}
use Rattle.ground_core.proofs.Turns.{has_front, places-rotated}
use Rattle.ground_core.proofs.line.Line.turn.Goals as goal

pub returns-then-not-is_live-clause-turn : goal.returns-then-not-is_live-clause-turn
returns-then-not-is_live-clause-turn c =
    let some : 0 < length c.args.self.now.places.items = search rules in
    record {
      has = has_front c.args.self.now.places.items c.in-Some.front.now some c.in-Some.ensures.lookup;
      dead = sym c.is_live.ensures ∙ c.if-not-is_live.true;
      line = ap (map place_view) c.pop_front.ensures.rest;
      frames_stay = refl;
    }

pub returns-then-not-is_pushed-clause-turn : goal.returns-then-not-is_pushed-clause-turn
returns-then-not-is_pushed-clause-turn c =
    let some : 0 < length c.args.self.now.places.items = search rules in
    record {
      cause = inr (record {
        has = has_front c.args.self.now.places.items c.in-Some.front.now some c.in-Some.ensures.lookup;
        lives = sym c.is_live.ensures ∙ c.if-not-is_live.false;
        too_long = sym c.if-not-is_pushed.ensures.answer;
      });
      line = refl;
      frames_stay = c.if-not-is_pushed.ensures.left;
    }

pub returns-clause-turn : goal.returns-clause-turn
returns-clause-turn c =
    let some : 0 < length c.args.self.now.places.items = search rules in
    record {
      has = has_front c.args.self.now.places.items c.in-Some.front.now some c.in-Some.ensures.lookup;
      lives = sym c.is_live.ensures ∙ c.if-not-is_live.false;
      fits = sym c.if-not-is_pushed.ensures.answer;
      line = ap (map place_view) c.rotate_left.ensures.items ∙ places-rotated c.args.self.now.places.items c.in-Some.front.now some c.in-Some.ensures.lookup;
      frames_are = c.if-not-is_pushed.ensures.pushed;
      used = c.if-not-is_pushed.ensures.used;
    }

pub returns-then-not-is_live-clause-placed : goal.returns-then-not-is_live-clause-placed
returns-then-not-is_live-clause-placed c h =
    let some : 0 < length c.args.self.now.places.items = search rules in
    let has = has_front c.args.self.now.places.items c.in-Some.front.now some c.in-Some.ensures.lookup in
    let latest = latest_at c.args.newest.now in
    let after = latest_at c.forget.new.self in
    let laws : KeyLaws = record { same = c.keys_are_ordered.ensures.same; agrees = c.keys_are_ordered.ensures.agrees } in
    let named : List Key = keys_in c.deref.result.now.keys in
    let own : named ≡ has.front.keys = ap (λ (i : SentItem). keys_in i.keys) c.deref.ensures in
    subst (ArePlaced after) (sym (ap (map place_view) c.pop_front.ensures.rest))
    (placed_dropped latest after c.args.moment (pieces_in c.args.self.now) has.behind has.front has.line_is (sym c.is_live.ensures ∙ c.if-not-is_live.true)
    (λ key. subst (IsLastOrEnded c.args.moment (latest key)) (sym (c.forget.ensures key)) (kept_where (is_among named key) c.args.moment (latest key)))
    (λ key i. c.forget.ensures key
    ∙ ap (λ b. if b then while_living c.args.moment (latest key) else latest key) (among_itself laws named key (subst (IsIn key) (sym own) i)))
    h)

pub returns-clause-placed : goal.returns-clause-placed
returns-clause-placed c h =
    let some : 0 < length c.args.self.now.places.items = search rules in
    let has = has_front c.args.self.now.places.items c.in-Some.front.now some c.in-Some.ensures.lookup in
    placed_aired (latest_at c.args.newest.now) (pieces_in c.args.self.now) (map place_view c.rotate_left.new.self.items) has.behind has.front has.line_is
    (ap (map place_view) c.rotate_left.ensures.items ∙ places-rotated c.args.self.now.places.items c.in-Some.front.now some c.in-Some.ensures.lookup) h
