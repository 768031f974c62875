-- What is kept of a key once what has ended is forgotten: the same is live, and the same stands against an update.
use Rattle.std.proofs.Common.{◌≡◌, ℕ, ◌≤◌, Bool, true, false, ◌&&◌, ◌==◌, nat_lt, if◌then◌else◌, Option, Some, None, refl, sym, ap, subst, ◌∙◌, inl, inr, arith}
use Rattle.std.proofs.Math.Path.{fun_ext}
use Rattle.std.proofs.lemmas.Bool.{cases_Bool, le-ltb, ltb-false}
use Rattle.picture_core.specs.Key.{Key}
use Rattle.list_members.specs.Ranges.{list_any_same}
use Rattle.ground_core.specs.Piece.{Piece, Latest, HasPassed, IsLastOrEnded, while_living, lives_as, live_by}

ended_later : (clock moment : ℕ) (latest : Option Latest) → clock ≤ moment → HasPassed clock latest → HasPassed moment latest
ended_later clock moment None le h = tt
ended_later clock moment (Some latest) le h = omega (arith, h)

pub kept_later : (clock moment : ℕ) (last kept : Option Latest) → clock ≤ moment → IsLastOrEnded clock last kept → IsLastOrEnded moment last kept
kept_later clock moment last kept le (inl e) = inl e
kept_later clock moment last kept le (inr h) = inr (h.0, ended_later clock moment last le h.1)

none_kept : (moment : ℕ) (first after : Option Latest) → first ≡ None → IsLastOrEnded moment first after → after ≡ None
none_kept moment first after e (inl same) = same ∙ e
none_kept moment first after e (inr h) = h.0

pub kept_then : (moment : ℕ) (last first after : Option Latest) → IsLastOrEnded moment last first → IsLastOrEnded moment first after → IsLastOrEnded moment last after
kept_then moment last first after (inl e) h = subst (λ l. IsLastOrEnded moment l after) e h
kept_then moment last first after (inr n) h = inr (none_kept moment first after n.0 h, n.1)

pub kept_living : (moment : ℕ) (last : Option Latest) → IsLastOrEnded moment last (while_living moment last)
kept_living moment None = inl refl
kept_living moment (Some latest) = elim (cases_Bool (nat_lt moment latest.until)) [
  | inl t ↦ inl (ap (λ b. if b then Some latest else None) t)
  | inr f ↦ inr (ap (λ b. if b then Some latest else None) f, ltb-false moment latest.until f)
]

pub kept_where : (b : Bool) (moment : ℕ) (last : Option Latest) → IsLastOrEnded moment last (if b then while_living moment last else last)
kept_where true moment last = kept_living moment last
kept_where false moment last = inl refl

dead_where_ended : (moment serial : ℕ) (last : Option Latest) → HasPassed moment last → lives_as moment serial last ≡ false
dead_where_ended moment serial None h = refl
dead_where_ended moment serial (Some latest) h = ap (λ b. b && (latest.serial == serial)) (le-ltb moment latest.until h)

lives_kept : (moment serial : ℕ) (last kept : Option Latest) → IsLastOrEnded moment last kept → lives_as moment serial kept ≡ lives_as moment serial last
lives_kept moment serial last kept (inl e) = ap (lives_as moment serial) e
lives_kept moment serial last kept (inr h) = ap (lives_as moment serial) h.0 ∙ sym (dead_where_ended moment serial last h.1)

-- the same pieces are live
pub live_kept : (moment : ℕ) (last kept : Key → Option Latest) → ((key : Key) → IsLastOrEnded moment (last key) (kept key)) → live_by kept moment ≡ live_by last moment
live_kept moment last kept h = fun_ext (λ (p : Piece).
    list_any_same (λ key. lives_as moment p.serial (kept key)) (λ key. lives_as moment p.serial (last key)) p.keys
    (λ key there. lives_kept moment p.serial (last key) (kept key) (h key)))
