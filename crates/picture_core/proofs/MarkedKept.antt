-- What holds of each kept entry holds of each that is kept after a put or a purge.
use Rattle.std.proofs.Common.{◌≡◌, ℕ, nat_lt, List, map, Some, None, Result, Ok, Err, OnOk, OnErr}
use Rattle.std.proofs.Common.{sym, ap, subst, ◌∙◌, inl, inr}
use Rattle.std.specs.Option.{option_map}
use Rattle.list_members.specs.Membership.{IsIn}
use Rattle.list_members.specs.Members.{IsIn-from_filter}
use Rattle.picture_core.specs.Entry.{Entry}
use Rattle.picture_core.specs.Kept.{live_entries, put}
use Rattle.undo_map.specs.Marked.{Marked}
use Rattle.picture_core.specs.Views.{AreMarked, marked_entries, pair_entry}
use Rattle.picture_core.specs.declared.kept.Kept.{Kept}
use Rattle.picture_core.specs.declared.key.Key.{Key}
use Rattle.picture_core.proofs.Pictures.{IsIn-from_put}

each-put :
    (P : Entry → Type 0) (e : Entry) (es : List Entry) → ((x : Entry) → IsIn x es → P x) → P e
    → (x : Entry) → IsIn x (put e es) → P x
each-put P e es all own x here = elim (IsIn-from_put x e es here) [
  | inl same ↦ subst P (sym same) own
  | inr there ↦ all x there
]

-- a put that went well, and one that changed nothing
pub marked-put :
    {A B : Type 0} (P : Entry → Type 0) (r : Result A B) (e : Entry) (old new : Marked Key Kept)
    → OnOk r ((marked_entries new).entries ≡ put e (marked_entries old).entries) → new.mark ≡ old.mark → OnErr r (new ≡ old)
    → P e → AreMarked P (marked_entries old) → AreMarked P (marked_entries new)
marked-put P (Ok x) e old new ok mark err own all = (
  λ y here.
      each-put P e (marked_entries old).entries all.0 own y (subst (λ (es : List Entry). IsIn y es) ok here),
  λ es is. all.1 es (ap (option_map (map pair_entry)) (sym mark) ∙ is),
)
marked-put P (Err x) e old new ok mark err own all =
    let Q : Marked Key Kept → Type 0 = λ m. AreMarked P (marked_entries m) in subst Q (sym err) all

-- without a mark the entries are all
pub marked-alone :
    (P : Entry → Type 0) (new : Marked Key Kept) → new.mark ≡ None
    → ((e : Entry) → IsIn e (marked_entries new).entries → P e) → AreMarked P (marked_entries new)
marked-alone P new mark all = (
  all,
  λ es is. let none : None ≡ Some es = ap (option_map (map pair_entry)) (sym mark) ∙ is in cc none,
)

-- a mark that is set at the entries, and one that is let go
pub marked-mark :
    (P : Entry → Type 0) (old new : Marked Key Kept) → new ≡ record old { mark = Some old.entries }
    → AreMarked P (marked_entries old) → AreMarked P (marked_entries new)
marked-mark P old new is all =
    let Q : Marked Key Kept → Type 0 = λ m. AreMarked P (marked_entries m) in
    subst Q (sym is) (
      all.0,
      λ es here.
          let same : map pair_entry old.entries ≡ es = cc in
          subst (λ (xs : List Entry). (e : Entry) → IsIn e xs → P e) same all.0,
    )

pub marked-settle :
    (P : Entry → Type 0) (old new : Marked Key Kept) → new ≡ record old { mark = None } → AreMarked P (marked_entries old)
    → AreMarked P (marked_entries new)
marked-settle P old new is all =
    let Q : Marked Key Kept → Type 0 = λ m. AreMarked P (marked_entries m) in
    subst Q (sym is) (all.0, λ es none. cc none)

pub marked-live :
    (P : Entry → Type 0) (m : ℕ) (old new : Marked Key Kept)
    → (marked_entries new).entries ≡ live_entries m (marked_entries old).entries
    → new.mark ≡ None → AreMarked P (marked_entries old) → AreMarked P (marked_entries new)
marked-live P m old new entries mark all =
    marked-alone P new mark
    (λ x here. all.0 x
    (IsIn-from_filter (λ (e : Entry). nat_lt m e.until) x (marked_entries old).entries
    (subst (λ (es : List Entry). IsIn x es) entries here)).0)
