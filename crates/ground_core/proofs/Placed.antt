-- Nothing is kept of a key but of an item that has a place in the queue.
use Rattle.std.proofs.Common.{◌≡◌, ℕ, zero, suc, ◌≤◌, true, false, ◌&&◌, ◌==◌, nat_lt, if◌then◌else◌, List, [], ◌∷◌, ◌++◌, map, flat_map, Option, Some, None, refl, sym, ap, subst, ◌∙◌, inl, inr, arith}
use Rattle.std.specs.List.{range_with_len}
use Rattle.std.proofs.lemmas.Bool.{cases_Bool, eq-eqb}
use Rattle.std.proofs.lemmas.List.{append_assoc}
use Rattle.list_members.specs.Membership.{IsIn}
use Rattle.list_members.specs.Members.{IsIn-before, IsIn-after}
use Rattle.list_members.specs.ListMembers.{any_in, in_any}
use Rattle.picture_core.specs.Key.{Key, same_key}
use Rattle.ground_core.specs.Piece.{Piece, Latest, ArePlaced, IsLastOrEnded, while_living, lives_as, live_by}
use Rattle.ground_core.specs.Putting.{IsPut, is_among, latest_of_sent, latest_put, pieces_at}
use Rattle.ground_core.specs.Views.{latest_at, keys_in, pieces_in, piece_at}
use Rattle.ground_core.specs.declared.item.SentItem.{SentItem}
use Rattle.ground_core.specs.declared.ground.Ground.{Ground}
use Rattle.ground_core.proofs.KeyLemmas.{KeyLaws}

pub placed_among : (latest : Key → Option Latest) (old new : List Piece) → ((p : Piece) → IsIn p old → IsIn p new) → ArePlaced latest old → ArePlaced latest new
placed_among latest old new f h key kept e =
    let at = h key kept e in
    record { piece = at.piece; waits = f at.piece at.waits; serial = at.serial; of_key = at.of_key }

-- the front that went to the back is there still
pub placed_aired : (latest : Key → Option Latest) (old new behind : List Piece) (front : Piece) → old ≡ front ∷ behind → new ≡ behind ++ front ∷ []
    → ArePlaced latest old → ArePlaced latest new
placed_aired latest old new behind front e f = placed_among latest old new (λ p i.
    subst (IsIn p) (sym f) (elim (subst (IsIn p) e i) [
      | inl same ↦ IsIn-after p behind (front ∷ []) (inl same)
      | inr more ↦ IsIn-before p behind (front ∷ []) more
    ]))

was_kept : (moment : ℕ) (last after : Option Latest) (kept : Latest) → IsLastOrEnded moment last after → after ≡ Some kept → last ≡ Some kept
was_kept moment last after kept (inl e) s = sym e ∙ s
was_kept moment last after kept (inr n) s = cc (n.0)

still_lives : (moment : ℕ) (latest : Option Latest) (kept : Latest) → while_living moment latest ≡ Some kept → nat_lt moment kept.until ≡ true
still_lives moment None kept e = cc
still_lives moment (Some latest) kept e = elim (cases_Bool (nat_lt moment latest.until)) [
  | inl t ↦ (
      let some : Some latest ≡ Some kept = ap (λ b. if b then Some latest else None) (sym t) ∙ e in
      let same : latest ≡ kept = cc in
      subst (λ (l : Latest). nat_lt moment l.until ≡ true) same t)
  | inr f ↦ (let none : None ≡ Some kept = ap (λ b. if b then Some latest else None) (sym f) ∙ e in cc)
]

lives_at : (moment serial : ℕ) (kept : Latest) → nat_lt moment kept.until ≡ true → serial ≡ kept.serial → lives_as moment serial (Some kept) ≡ true
lives_at moment serial kept t e = ap (λ b. b && (kept.serial == serial)) t ∙ ap (λ n. kept.serial == n) e ∙ eq-eqb kept.serial kept.serial refl

-- the place of a dead front is that of no key of which something is kept behind it
pub placed_dropped : (latest after : Key → Option Latest) (moment : ℕ) (old behind : List Piece) (front : Piece)
    → old ≡ front ∷ behind → live_by latest moment front ≡ false
    → ((key : Key) → IsLastOrEnded moment (latest key) (after key))
    → ((key : Key) → IsIn key front.keys → after key ≡ while_living moment (latest key))
    → ArePlaced latest old → ArePlaced after behind
placed_dropped latest after moment old behind front e dead kept_all living h key kept s =
    let before : latest key ≡ Some kept = was_kept moment (latest key) (after key) kept (kept_all key) s in
    let at = h key kept before in
    elim (subst (IsIn at.piece) e at.waits) [
      | inl same ↦ (
          let own : IsIn key front.keys = subst (λ (p : Piece). IsIn key p.keys) same at.of_key in
          let lives : nat_lt moment kept.until ≡ true = still_lives moment (latest key) kept (sym (living key own) ∙ s) in
          let serial : front.serial ≡ kept.serial = ap (λ (p : Piece). p.serial) (sym same) ∙ at.serial in
          let alive : lives_as moment front.serial (latest key) ≡ true = ap (lives_as moment front.serial) before ∙ lives_at moment front.serial kept lives serial in
          let live : live_by latest moment front ≡ true = in_any (λ x. lives_as moment front.serial (latest x)) key front.keys own alive in
          absurd (cc))
      | inr more ↦ record { piece = at.piece; waits = more; serial = at.serial; of_key = at.of_key }
    ]

first_number : (f : ℕ → Piece) (n : ℕ) → 1 ≤ n → IsIn (f 1) (map f (range_with_len 1 n))
first_number f zero le = absurd (omega arith)
first_number f (suc n) le = inl refl

-- an item that is put has a first segment
among_own : KeyLaws → (keys : List Key) (key : Key) → is_among keys key ≡ true → IsIn key keys
among_own laws keys key t =
    let own = any_in (λ x. same_key x key) keys t in
    subst (λ x. IsIn x keys) ((laws.same own.0 key).0 own.2) own.1

pub among_itself : KeyLaws → (keys : List Key) (key : Key) → IsIn key keys → is_among keys key ≡ true
among_itself laws keys key i = in_any (λ x. same_key x key) key keys i ((laws.same key key).1 refl)

abbrev latest_with : (Key → Option Latest) → SentItem → Key → Option Latest
latest_with latest item key = if is_among (keys_in item.keys) key then Some (latest_of_sent item) else latest key

placed_with : KeyLaws → (latest : Key → Option Latest) (line : List Piece) (item : SentItem) → ArePlaced latest line
    → ArePlaced (latest_with latest item) (line ++ pieces_at item)
placed_with laws latest line item h key kept e = elim (cases_Bool (is_among (keys_in item.keys) key)) [
  | inl t ↦ (
      let one : Some (latest_of_sent item) ≡ Some kept = ap (λ b. if b then Some (latest_of_sent item) else latest key) (sym t) ∙ e in
      let serial : item.serial ≡ kept.serial = cc in
      record {
        piece = piece_at item 1;
        waits = IsIn-after (piece_at item 1) line (pieces_at item) (first_number (piece_at item) item.count item.some);
        serial = serial;
        of_key = among_own laws (keys_in item.keys) key t;
      })
  | inr f ↦ (
      let at = h key kept (ap (λ b. if b then Some (latest_of_sent item) else latest key) (sym f) ∙ e) in
      record { piece = at.piece; waits = IsIn-before at.piece line (pieces_at item) at.waits; serial = at.serial; of_key = at.of_key })
]

placed_items : KeyLaws → (latest : Key → Option Latest) (line : List Piece) (items : List SentItem) → ArePlaced latest line
    → ArePlaced (λ key. latest_put key items (latest key)) (line ++ flat_map pieces_at items)
placed_items laws latest line [] h = placed_among latest line (line ++ []) (λ p i. IsIn-before p line [] i) h
placed_items laws latest line (item ∷ more) h =
    placed_among (λ key. latest_put key more (latest_with latest item key)) ((line ++ pieces_at item) ++ flat_map pieces_at more) (line ++ (pieces_at item ++ flat_map pieces_at more))
    (λ p i. subst (IsIn p) (append_assoc line (pieces_at item) (flat_map pieces_at more)) i)
    (placed_items laws (latest_with latest item) (line ++ pieces_at item) more (placed_with laws latest line item h))

pub placed_put : KeyLaws → (old new : Ground) (moment : ℕ) (items : List SentItem) → IsPut old moment items new → ArePlaced (latest_at old.newest) (pieces_in old.line)
    → ArePlaced (latest_at new.newest) (pieces_in new.line)
placed_put laws old new moment items put h key kept e =
    let at = placed_items laws (latest_at old.newest) (pieces_in old.line) items h key kept (sym (put.newest key) ∙ e) in
    record { piece = at.piece; waits = subst (IsIn at.piece) (sym put.line) at.waits; serial = at.serial; of_key = at.of_key }
