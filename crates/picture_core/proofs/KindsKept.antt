-- Values stay of the kinds of their keys.
use Rattle.std.proofs.Common.{◌≡◌, ℕ, nat_lt, List, [], ◌∷◌, map, refl}
use Rattle.std.proofs.Common.{sym, subst, inl, inr}
use Rattle.std.proofs.lemmas.List.Elements.{All-nil, All-cons}
use Rattle.list_members.specs.Members.{IsIn-from_filter}
use Rattle.picture_core.specs.Entry.{Entry, AreOfKind, IsOfKind}
use Rattle.picture_core.specs.Kept.{live_entries}
use Rattle.picture_core.specs.Views.{AreShownOfKind, ShownValue, entry_view}
use Rattle.picture_core.specs.Views.{shown_value}
use Rattle.picture_core.specs.declared.entry.Entry.{Entry as ShownEntry}

kinds-live : (m : ℕ) (es : List Entry) → AreOfKind es → AreOfKind (live_entries m es)
kinds-live m es kinds x here = kinds x (IsIn-from_filter (λ (e : Entry). nat_lt m e.until) x es here).0

shown_kinds-all :
    (items : List ShownEntry) (es : List Entry) → map entry_view items ≡ map shown_value es → AreOfKind es → AreShownOfKind items
shown_kinds-all [] es same kinds = All-nil _
shown_kinds-all (i ∷ items) [] same kinds = absurd (cc)
shown_kinds-all (i ∷ items) (e ∷ es) same kinds =
    let here : entry_view i ≡ shown_value e = cc in
    let rest : map entry_view items ≡ map shown_value es = cc in
    let P : ShownEntry → Type 0 = λ x. IsOfKind (entry_view x).0 (entry_view x).2 in
    All-cons P i items
    (let Q : ShownValue → Type 0 = λ v. IsOfKind v.0 v.2 in subst Q (sym here) (kinds e (inl refl)))
    (shown_kinds-all items es rest (λ x there. kinds x (inr there)))

pub shown_kinds :
    (items : List ShownEntry) (m : ℕ) (es : List Entry) → map entry_view items ≡ map shown_value (live_entries m es)
    → AreOfKind es
    → AreShownOfKind items
shown_kinds items m es same kinds = shown_kinds-all items (live_entries m es) same (kinds-live m es kinds)
