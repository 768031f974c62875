-- The order of the names of pieces finds equal exactly those that are the same, and what is held after writes.
use Rattle.std.proofs.Common.{◌≡◌, ℕ, ◌+◌, Bool, true, false, ◌&&◌, ◌==◌, cond, List, []}
use Rattle.std.proofs.Common.{◌∷◌, map, ◌++◌, Option, Some, None, is_some, refl, sym, ap, ◌∙◌, inl, inr, arith}
use Rattle.std.specs.BTreeMap.{insert_entry, is_at}
use Rattle.std.specs.Cmp.{both_tied, both_ways}
use Rattle.std.specs.List.{list_any, range_with_len}
use Rattle.std.specs.Map.{lookup}
use Rattle.std.specs.Ordering.{is_eq}
use Rattle.std.specs.declared.cmp.Ordering.{Ordering}
use Rattle.std.specs.declared.cmp.Ordering.TheVariants.{Less, Equal, Greater}
use Rattle.std.proofs.lemmas.List.FromFn.{map-range_with_len_more}
use Rattle.std.proofs.lemmas.Bool.{cases_Bool, and_parts, and_from}
use Rattle.std.proofs.lemmas.Bool.{eqb-true, eq-eqb, leb-true, le-leb}
use Rattle.std.proofs.lemmas.Bool.{false_from_ne_true}
use Rattle.std.proofs.Math.Bool.{and_assoc}
use Rattle.list_members.specs.ListMembers.{any_in, in_any}
use Rattle.list_members.specs.Tests.{tied_numbers}
use Rattle.uplink_frame.specs.Station.{same_flag}
use Rattle.uplink_frame.specs.Ties.{tied_flags}
use Rattle.uplink_frame.specs.Laws.{StationsAreTold}
use Rattle.undo_map.specs.Marked.{with_all}
use Rattle.segment_core.specs.Kept.{KeptPieces, kept_under, same_piece, with_number}
use Rattle.segment_core.specs.HeldPieces.{is_number_of, others_held, held_with}
use Rattle.segment_core.specs.declared.piece_name.PieceName.{PieceName}
use Rattle.segment_core.specs.contracts.piece_name.PieceNameOrd.TheImpl as order
use Rattle.list_members.specs.Ranges.{in_range, range_has}

regroup : (a b c d e f g h i : Bool) → (a && b && c && d && e && f && g && h && i)
    ≡ (a && (b && (c && d)) && (e && (f && (g && (h && i)))))
regroup true true true true e f g h i = simp and_assoc
regroup true true true false e f g h i = refl
regroup true true false d e f g h i = refl
regroup true false c d e f g h i = refl
regroup false b c d e f g h i = refl

pub agrees : (a b : PieceName) → is_eq (order.ghosts.cmp a b) ≡ same_piece a b
agrees a b =
    let station = both_tied _ _ _ _ (tied_numbers a.station.lat b.station.lat)
    (both_tied _ _ _ _ (tied_numbers a.station.lon b.station.lon)
    (both_tied _ _ _ _ (tied_flags a.station.position_valid b.station.position_valid)
    (tied_numbers a.station.site b.station.site))) in
    let rest = both_tied _ _ _ _ (tied_numbers a.product b.product) (both_tied _ _ _ _ (tied_numbers a.version b.version)
    (both_tied _ _ _ _ (tied_numbers a.file b.file) (both_tied _ _ _ _ (tied_numbers a.count b.count)
    (tied_numbers a.number b.number)))) in
    sym (regroup (a.station.lat == b.station.lat) (a.station.lon == b.station.lon)
    (same_flag a.station.position_valid b.station.position_valid)
    (a.station.site == b.station.site) (a.product == b.product) (a.version == b.version) (a.file == b.file)
    (a.count == b.count) (a.number == b.number)
    ∙ both_tied _ _ _ _ station rest)

pub kept-found : (name : PieceName) (pieces : KeptPieces) → lookup (is_at (order.ghosts.cmp name)) pieces ≡ kept_under pieces name
kept-found name [] = refl
kept-found name (e ∷ pieces) = rw (agrees name e.0, kept-found name pieces) refl

abbrev pub alone : PieceName → ℕ → PieceName × Option (List ℕ)
alone name number = (with_number name number, None)

pub alone_more : (name : PieceName) (n : ℕ) (old new : KeptPieces) (k : PieceName) → new ≡ old ++ (k, None) ∷ []
    → old ≡ map (alone name) (range_with_len 1 n) → k ≡ with_number name (n + 1) → new ≡ map (alone name)
    (range_with_len 1 (n + 1))
alone_more name n old new k e was is =
    e ∙ rw (was, is) (sym (map-range_with_len_more (alone name) 1 n (n + 1) (omega arith)))

module _ (told : StationsAreTold) where
  pub same-is : (a b : PieceName) → same_piece a b ≡ true → a ≡ b
  same-is a b e =
      let six = and_parts _ _ e in
      let five = and_parts _ _ six.0 in
      let four = and_parts _ _ five.0 in
      let three = and_parts _ _ four.0 in
      let two = and_parts _ _ three.0 in
      let station = (told a.station b.station).0 two.0 in
      let product = eqb-true a.product b.product two.1 in
      let version = eqb-true a.version b.version three.1 in
      let file = eqb-true a.file b.file four.1 in
      let count = eqb-true a.count b.count five.1 in
      let number = eqb-true a.number b.number six.1 in
      rw (station, product, version, file, count, number) refl

  pub same-self : (a : PieceName) → same_piece a a ≡ true
  same-self a = and_from _ _ (and_from _ _ (and_from _ _ (and_from _ _ (and_from _ _ ((told a.station a.station).1 refl)
      (eq-eqb a.product a.product refl))
      (eq-eqb a.version a.version refl)) (eq-eqb a.file a.file refl)) (eq-eqb a.count a.count refl))
      (eq-eqb a.number a.number refl)

  pub held_first : (k : PieceName) (v : Option (List ℕ)) (q : PieceName) (e : PieceName × Option (List ℕ)) (es : KeptPieces)
      → kept_under (insert_entry order.ghosts.cmp es k v) q ≡ cond (same_piece q k) (Some v) (kept_under es q)
      → (o : Ordering) → order.ghosts.cmp k e.0 ≡ o
      → kept_under (insert_entry order.ghosts.cmp (e ∷ es) k v) q ≡ cond (same_piece q k) (Some v) (kept_under (e ∷ es) q)
  held_first k v q e es rest Less is = rw is refl
  held_first k v q e es rest Equal is =
      let same : k ≡ e.0 = same-is k e.0 (sym (agrees k e.0) ∙ ap is_eq is) in
      let moved : same_piece q e.0 ≡ same_piece q k = ap (same_piece q) (sym same) in
      elim (cases_Bool (same_piece q k)) [
        | inl t ↦ rw (is, moved, t) refl
        | inr f ↦ rw (is, moved, f) refl
      ]
  held_first k v q e es rest Greater is = elim (cases_Bool (same_piece q e.0)) [
    | inl t ↦
        let at : q ≡ e.0 = same-is q e.0 t in
        let other : same_piece q k ≡ false = false_from_ne_true (same_piece q k) (λ (s : same_piece q k ≡ true).
        let same : k ≡ e.0 = sym (same-is q k s) ∙ at in
        let tied : true ≡ is_eq Greater = sym (same-self k) ∙ ap (same_piece k) same ∙ sym (agrees k e.0) ∙ ap is_eq is in
        absurd (cc)) in
        rw (is, t, other) refl
    | inr f ↦ rw (is, f) rest
  ]

  -- what is held after a write
  pub held-write : (k : PieceName) (v : Option (List ℕ)) (q : PieceName) (es : KeptPieces)
      → kept_under (insert_entry order.ghosts.cmp es k v) q ≡ cond (same_piece q k) (Some v) (kept_under es q)
  held-write k v q [] = refl
  held-write k v q (e ∷ es) = held_first k v q e es (held-write k v q es) (order.ghosts.cmp k e.0) refl

  held-alone : (name q : PieceName) (ns : List ℕ) (es : KeptPieces)
      → kept_under (with_all order.ghosts.cmp es (map (alone name) ns)) q
      ≡ cond (list_any (λ (n : ℕ). same_piece q (with_number name n)) ns) (Some None) (kept_under es q)
  held-alone name q [] es = refl
  held-alone name q (n ∷ ns) es =
      let later = held-alone name q ns (insert_entry order.ghosts.cmp es (with_number name n) None) in
      let here = held-write (with_number name n) None q es in
      elim (cases_Bool (same_piece q (with_number name n))) [
        | inl t ↦ elim (cases_Bool (list_any (λ (k : ℕ). same_piece q (with_number name k)) ns)) [
          | inl more ↦ rw t (later ∙ rw more refl)
          | inr none ↦ rw t (later ∙ rw none (here ∙ rw t refl))
        ]
        | inr f ↦ rw f (later ∙ ap (cond (list_any (λ (k : ℕ). same_piece q (with_number name k)) ns) (Some None))
            (here ∙ rw f refl))
      ]

  any_number : (name q : PieceName)
      → list_any (λ (n : ℕ). same_piece q (with_number name n)) (range_with_len 1 name.count) ≡ is_number_of name q
  any_number name q = both_ways _ _
      (λ (any : list_any (λ (n : ℕ). same_piece q (with_number name n)) (range_with_len 1 name.count) ≡ true).
      let some = any_in (λ (n : ℕ). same_piece q (with_number name n)) (range_with_len 1 name.count) any in
      let same : q ≡ with_number name some.0 = same-is q (with_number name some.0) some.2 in
      let number : some.0 ≡ q.number = ap (λ (p : PieceName). p.number) (sym same) in
      let within = in_range some.0 1 name.count some.1 in
      and_from _ _ (and_from _ _ (ap (λ (n : ℕ). same_piece q (with_number name n)) (sym number) ∙ some.2)
      (le-leb 1 q.number (omega arith))) (le-leb q.number name.count (omega arith)))
      (λ (is : is_number_of name q ≡ true).
      let both = and_parts _ _ is in
      let parts = and_parts _ _ both.0 in
      let least = leb-true 1 q.number parts.1 in
      let most = leb-true q.number name.count both.1 in
      in_any (λ (n : ℕ). same_piece q (with_number name n)) q.number (range_with_len 1 name.count)
      (range_has q.number 1 name.count least (omega arith)) parts.0)

  -- what is held after the numbers of a file were written alone
  pub held-numbers : (name q : PieceName) (es : KeptPieces)
      → kept_under (with_all order.ghosts.cmp es (map (alone name) (range_with_len 1 name.count))) q
      ≡ cond (is_number_of name q) (Some None) (kept_under es q)
  held-numbers name q es = held-alone name q (range_with_len 1 name.count) es
      ∙ ap (λ (b : Bool). cond b (Some None) (kept_under es q)) (any_number name q)

  -- what is held after a segment was taken that makes its file whole, and after one that waits
  pub whole-held : (old new pairs : KeptPieces) (name : PieceName) (payload : List ℕ) → is_some (kept_under old name) ≡ false
      → others_held old name ≡ true → new ≡ with_all order.ghosts.cmp old pairs
      → pairs ≡ map (alone name) (range_with_len 1 name.count)
      → (other : PieceName) → kept_under new other ≡ held_with old name payload other
  whole-held old new pairs name payload fresh others e pairs_are other =
      rw (e, pairs_are, fresh, others) (held-numbers name other old)

  pub waits-held : (old new : KeptPieces) (name : PieceName) (payload bytes : List ℕ) → is_some (kept_under old name) ≡ false
      → others_held old name ≡ false → new ≡ insert_entry order.ghosts.cmp old name (Some bytes) → bytes ≡ payload
      → (other : PieceName) → kept_under new other ≡ held_with old name payload other
  waits-held old new name payload bytes fresh others e same other =
      rw (e, same, fresh, others) (held-write name (Some payload) other old)
