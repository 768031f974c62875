-- A store goes on to stand for the arrivals that were taken.
use Rattle.std.proofs.Common.{◌≡◌, ℕ, ◌+◌, ◌≤◌, true, false, cond, List, [], ◌∷◌}
use Rattle.std.proofs.Common.{◌++◌, Option, Some, None, is_some, refl, sym, ap, subst, ◌∙◌, inl, inr, arith}
use Rattle.std.proofs.lemmas.Bool.{cases_Bool, cond-true, cond-false, and_parts, and_left, leb-true, ltb-true, lt-ltb}
use Rattle.std.proofs.lemmas.Bool.{false_from_ne_true}
use Rattle.std.proofs.lemmas.Map.Entries.{lookup-filter-keys}
use Rattle.apdu_core.specs.declared.apdu.Seg.{Seg}
use Rattle.uplink_frame.specs.Laws.{StationsAreTold}
use Rattle.segment_core.specs.Arrival.{Arrival, is_piece}
use Rattle.segment_core.specs.Kept.{KeptPieces, IsNumbered, kept_under, kept_of, with_number, piece_name, arrival_named, seg_of_name}
use Rattle.segment_core.specs.Kept.{same_piece}
use Rattle.segment_core.specs.HeldPieces.{others_held, held_with, is_number_of, held_answer, arrival_answer, held_after}
use Rattle.segment_core.specs.Store.{Store, StandsFor, IsNotBefore, FitsFile, live_answer, answer_of, taken_with}
use Rattle.segment_core.specs.Store.{is_in_life, is_in_life_at, longest_of, live_pieces}
use Rattle.segment_core.specs.declared.piece_name.PieceName.{PieceName}
use Rattle.segment_core.specs.declared.arrived.Longest.{Longest}
use Rattle.segment_core.specs.declared.arrived.Taken.TheVariants.{Stale}
use Rattle.segment_core.proofs.PieceNames.{same-is, same-self}
use Rattle.segment_core.proofs.Stands.{IsKnown, answers, keeps_file, is-named, kept_other}

-- what is live later was live before
earlier-live : (longest : Longest) (clock : Option ℕ) (moment : ℕ) (name : PieceName) → IsNotBefore clock moment
    → is_in_life_at longest (Some moment) name ≡ true → is_in_life_at longest clock name ≡ true
earlier-live longest None moment name after live = refl
earlier-live longest (Some kept) moment name after live =
    let below = ltb-true moment (name.version + longest_of longest name.product) live in
    lt-ltb kept (name.version + longest_of longest name.product) (omega arith)

abbrev store : Longest → Option ℕ → KeptPieces → Store
store longest clock pieces = record { longest = longest; clock = clock; pieces = pieces }

pub stands-later : (longest : Longest) (clock : Option ℕ) (moment : ℕ) (pieces : KeptPieces) (taken : List Arrival)
    → IsNotBefore clock moment
    → StandsFor (store longest clock pieces) taken → StandsFor (store longest (Some moment) pieces) taken
stands-later longest clock moment pieces taken after stands = record {
  keeps = λ name number live. stands.keeps name number (earlier-live longest clock moment name after live);
  numbered = stands.numbered;
}

-- an arrival without segment fields is held as nothing
pub stands-whole : (longest : Longest) (clock : Option ℕ) (moment : ℕ) (pieces : KeptPieces) (taken : List Arrival) (a : Arrival)
    → a.segmentation ≡ None → IsNotBefore clock moment → StandsFor (store longest clock pieces) taken
    → StandsFor (store longest (Some moment) pieces) (taken ++ a ∷ [])
stands-whole longest clock moment pieces taken a none after stands = record {
  keeps = λ name number live.
      stands.keeps name number (earlier-live longest clock moment name after live)
      ∙ sym (kept_other taken a name (λ n. ap (is_piece (arrival_named name) (seg_of_name name) n a) none));
  numbered = stands.numbered;
}

known-file : (longest : Longest) (clock : Option ℕ) (moment : ℕ) (pieces : KeptPieces) (taken : List Arrival) (a : Arrival)
    (s : Seg)
    → a.segmentation ≡ Some s → IsNumbered (piece_name a s) → IsNotBefore clock moment
    → is_in_life longest moment a.product a.version ≡ true
    → StandsFor (store longest clock pieces) taken → IsKnown pieces taken a s
known-file longest clock moment pieces taken a s seg number after live stands = record {
  segmentation_is = seg;
  number = number;
  keeps = λ n least most. stands.keeps (with_number (piece_name a s) n) (least, most)
      (earlier-live longest clock moment (with_number (piece_name a s) n) after live);
}

pub takes-stale : (longest : Longest) (clock : Option ℕ) (moment : ℕ) (pieces : KeptPieces) (taken : List Arrival) (a : Arrival)
    → IsNotBefore clock moment → is_in_life longest moment a.product a.version ≡ false
    → StandsFor (store longest clock pieces) taken → StandsFor (store longest (Some moment) pieces)
    (taken_with longest moment taken a)
takes-stale longest clock moment pieces taken a after stale stands =
    subst (StandsFor (store longest (Some moment) pieces))
    (sym (cond-false (is_in_life longest moment a.product a.version) (taken ++ a ∷ []) taken stale))
    (stands-later longest clock moment pieces taken after stands)

module _ (told : StationsAreTold) where
  -- a name is one of the file's where it has its fields
  other-name : (name q : PieceName) → same_piece q (with_number name q.number) ≡ false → same_piece q name ≡ false
  other-name name q differs = false_from_ne_true (same_piece q name) (λ (e : same_piece q name ≡ true).
      let same : q ≡ name = same-is told q name e in
      let at : with_number name q.number ≡ name = ap (with_number name) (ap (λ (p : PieceName). p.number) same) in
      let tied : same_piece q (with_number name q.number) ≡ true = ap (same_piece q) at ∙ e in
      absurd (cc))

  other-file : (name q : PieceName) (n : ℕ) → same_piece q (with_number name q.number) ≡ false → same_piece (with_number q n) name
      ≡ false
  other-file name q n differs = false_from_ne_true (same_piece (with_number q n) name)
      (λ (e : same_piece (with_number q n) name ≡ true).
      let same : with_number q n ≡ name = same-is told (with_number q n) name e in
      let at : q ≡ with_number name q.number = ap (λ (p : PieceName). with_number p q.number) same in
      let tied : same_piece q (with_number name q.number) ≡ true = sym (ap (same_piece q) at) ∙ same-self told q in
      absurd (cc))

  held-other : (pieces : KeptPieces) (name q : PieceName) (payload : List ℕ) → same_piece q (with_number name q.number) ≡ false
      → held_with pieces name payload q ≡ kept_under pieces q
  held-other pieces name q payload differs =
      let not_number : is_number_of name q ≡ false = and_left _ _ (and_left _ _ differs) in
      let not_name = other-name name q differs in
      elim (cases_Bool (is_some (kept_under pieces name))) [
        | inl old ↦ rw old refl
        | inr new ↦ elim (cases_Bool (others_held pieces name)) [
          | inl all ↦ rw (new, all, not_number) refl
          | inr waits ↦ rw (new, waits, not_name) refl
        ]
      ]

  -- what holds of each name that is held, of the numbers of the file and of this name holds of each that is held then
  pub held-each : (P : PieceName → Type 0) (pieces : KeptPieces) (name q : PieceName) (payload : List ℕ)
      → ((n : ℕ) → 1 ≤ n → n ≤ name.count → P (with_number name n)) → P name
      → (is_some (kept_under pieces q) ≡ true → P q) → is_some (held_with pieces name payload q) ≡ true → P q
  held-each P pieces name q payload numbers own before some = elim (cases_Bool (is_some (kept_under pieces name))) [
    | inl old ↦ before (sym (ap is_some (cond-true _ (kept_under pieces q) _ old)) ∙ some)
    | inr new ↦ elim (cases_Bool (others_held pieces name)) [
      | inl all ↦ elim (cases_Bool (is_number_of name q)) [
        | inl is ↦
            let both = and_parts _ _ is in
            let parts = and_parts _ _ both.0 in
            let same : q ≡ with_number name q.number = same-is told q (with_number name q.number) parts.0 in
            subst P (sym same) (numbers q.number (leb-true 1 q.number parts.1) (leb-true q.number name.count both.1))
        | inr not ↦ before (let was = rw (new, all, not) at some in was)
      ]
      | inr waits ↦ elim (cases_Bool (same_piece q name)) [
        | inl is ↦ subst P (sym (same-is told q name is)) own
        | inr not ↦ before (let was = rw (new, waits, not) at some in was)
      ]
    ]
  ]

  held-numbered : (pieces : KeptPieces) (name q : PieceName) (payload : List ℕ) → IsNumbered name
      → (is_some (kept_under pieces q) ≡ true → IsNumbered q) → is_some (held_with pieces name payload q) ≡ true → IsNumbered q
  held-numbered pieces name q payload number =
      held-each IsNumbered pieces name q payload (λ n least most. (least, most)) number

  -- a segment that was taken among the pieces
  pub stands-piece : (longest : Longest) (clock : Option ℕ) (moment : ℕ) (pieces later : KeptPieces) (taken : List Arrival)
      (a : Arrival) (s : Seg)
      → a.segmentation ≡ Some s → IsNumbered (piece_name a s) → IsNotBefore clock moment
      → is_in_life longest moment a.product a.version ≡ true
      → ((q : PieceName) → kept_under later q ≡ held_with pieces (piece_name a s) a.payload q)
      → StandsFor (store longest clock pieces) taken → StandsFor (store longest (Some moment) later) (taken ++ a ∷ [])
  stands-piece longest clock moment pieces later taken a s seg number after live becomes stands =
      let known = known-file longest clock moment pieces taken a s seg number after live stands in
      record {
        keeps = λ q q_number q_live. elim (cases_Bool (same_piece q (with_number (piece_name a s) q.number))) [
          | inl is ↦
              let same : q ≡ with_number (piece_name a s) q.number = same-is told q (with_number (piece_name a s) q.number) is in
              let count : q.count ≡ s.count = ap (λ (p : PieceName). p.count) same in
              let most : q.number ≤ s.count = (let bound = q_number.1 in omega arith) in
              becomes q
              ∙ ap (held_with pieces (piece_name a s) a.payload) same
              ∙ keeps_file told pieces taken a s known q.number q_number.0 most
              ∙ ap (kept_of (taken ++ a ∷ [])) (sym same)
          | inr differs ↦
              becomes q
              ∙ held-other pieces (piece_name a s) q a.payload differs
              ∙ stands.keeps q q_number (earlier-live longest clock moment q after q_live)
              ∙ sym (kept_other taken a q (λ n. is-named q n a s seg ∙ other-file (piece_name a s) q n differs))
        ];
        numbered = λ q some. held-numbered pieces (piece_name a s) q a.payload number (stands.numbered q)
            (ap is_some (sym (becomes q)) ∙ some);
      }

  pub answer-piece : (longest : Longest) (clock : Option ℕ) (moment : ℕ) (pieces : KeptPieces) (taken : List Arrival)
      (a : Arrival) (s : Seg)
      → a.segmentation ≡ Some s → IsNumbered (piece_name a s) → IsNotBefore clock moment
      → is_in_life longest moment a.product a.version ≡ true
      → StandsFor (store longest clock pieces) taken → held_answer pieces (piece_name a s) a.payload
      ≡ answer_of longest moment taken a
  answer-piece longest clock moment pieces taken a s seg number after live stands =
      answers told pieces taken a s (known-file longest clock moment pieces taken a s seg number after live stands)
      ∙ sym (cond-true (is_in_life longest moment a.product a.version) (live_answer taken a a.segmentation) Stale live)

  held-live : (longest : Longest) (moment : ℕ) (pieces : KeptPieces) (q : PieceName)
      → kept_under (live_pieces longest moment pieces) q ≡ cond (is_in_life longest moment q.product q.version) (kept_under pieces q) None
  held-live longest moment pieces q =
      lookup-filter-keys (same_piece q) (λ (k : PieceName). is_in_life longest moment k.product k.version)
      (is_in_life longest moment q.product q.version)
      (λ k same. ap (λ (p : PieceName). is_in_life longest moment p.product p.version) (sym (same-is told q k same))) pieces

  pub stands-purged : (longest : Longest) (clock : Option ℕ) (moment : ℕ) (pieces : KeptPieces) (taken : List Arrival)
      → IsNotBefore clock moment
      → StandsFor (store longest clock pieces) taken
      → StandsFor (store longest (Some moment) (live_pieces longest moment pieces)) taken
  stands-purged longest clock moment pieces taken after stands = record {
    keeps = λ name number live.
        held-live longest moment pieces name ∙ cond-true (is_in_life longest moment name.product name.version)
        (kept_under pieces name) None live
        ∙ stands.keeps name number (earlier-live longest clock moment name after live);
    numbered = λ name some. elim (cases_Bool (is_in_life longest moment name.product name.version)) [
      | inl live ↦ stands.numbered name
          (sym (ap is_some (held-live longest moment pieces name
          ∙ cond-true (is_in_life longest moment name.product name.version) (kept_under pieces name) None live)) ∙ some)
      | inr stale ↦
          let gone : false ≡ true =
          sym (ap is_some (held-live longest moment pieces name
          ∙ cond-false (is_in_life longest moment name.product name.version) (kept_under pieces name) None stale)) ∙ some in
          absurd (cc)
    ];
  }

  -- what an arrival brings, and for what the store stands with it
  pub answer-live : (longest : Longest) (clock : Option ℕ) (moment : ℕ) (pieces : KeptPieces) (taken : List Arrival) (a : Arrival)
      (o : Option Seg)
      → a.segmentation ≡ o → FitsFile o → IsNotBefore clock moment → is_in_life longest moment a.product a.version ≡ true
      → StandsFor (store longest clock pieces) taken → arrival_answer pieces a o ≡ answer_of longest moment taken a
  answer-live longest clock moment pieces taken a None seg fits after live stands =
      sym (ap (live_answer taken a) seg)
      ∙ sym (cond-true (is_in_life longest moment a.product a.version) (live_answer taken a a.segmentation) Stale live)
  answer-live longest clock moment pieces taken a (Some s) seg fits after live stands =
      answer-piece longest clock moment pieces taken a s seg (fits.0, fits.1) after live stands

  pub stands-live : (longest : Longest) (clock : Option ℕ) (moment : ℕ) (pieces later : KeptPieces) (taken : List Arrival)
      (a : Arrival) (o : Option Seg)
      → a.segmentation ≡ o → FitsFile o → IsNotBefore clock moment → is_in_life longest moment a.product a.version ≡ true
      → ((q : PieceName) → kept_under later q ≡ held_after pieces a o q)
      → StandsFor (store longest clock pieces) taken → StandsFor (store longest (Some moment) later) (taken ++ a ∷ [])
  stands-live longest clock moment pieces later taken a None seg fits after live becomes stands =
      let same = stands-whole longest clock moment pieces taken a seg after stands in
      record {
        keeps = λ name number name_live. becomes name ∙ same.keeps name number name_live;
        numbered = λ name some. same.numbered name (ap is_some (sym (becomes name)) ∙ some);
      }
  stands-live longest clock moment pieces later taken a (Some s) seg fits after live becomes stands =
      stands-piece longest clock moment pieces later taken a s seg (fits.0, fits.1) after live becomes stands

  pub takes-live : (longest : Longest) (clock : Option ℕ) (moment : ℕ) (pieces later : KeptPieces) (taken : List Arrival)
      (a : Arrival)
      → FitsFile a.segmentation → IsNotBefore clock moment → is_in_life longest moment a.product a.version ≡ true
      → ((q : PieceName) → kept_under later q ≡ held_after pieces a a.segmentation q)
      → StandsFor (store longest clock pieces) taken → StandsFor (store longest (Some moment) later)
      (taken_with longest moment taken a)
  takes-live longest clock moment pieces later taken a fits after live becomes stands =
      subst (StandsFor (store longest (Some moment) later))
      (sym (cond-true (is_in_life longest moment a.product a.version) (taken ++ a ∷ []) taken live))
      (stands-live longest clock moment pieces later taken a a.segmentation refl fits after live becomes stands)

  pub live-purged : (longest : Longest) (moment : ℕ) (pieces : KeptPieces) (name : PieceName)
      → is_some (kept_under (live_pieces longest moment pieces) name) ≡ true → is_in_life longest moment name.product name.version ≡ true
  live-purged longest moment pieces name some = elim (cases_Bool (is_in_life longest moment name.product name.version)) [
    | inl live ↦ live
    | inr stale ↦
        let gone : false ≡ true =
        sym (ap is_some (held-live longest moment pieces name
        ∙ cond-false (is_in_life longest moment name.product name.version) (kept_under pieces name) None stale)) ∙ some in
        absurd (cc)
  ]
