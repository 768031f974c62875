-- What the tests on a text tell together.
use Rattle.std.proofs.Common.{◌≡◌, ℕ, ◌+◌, ◌*◌, ◌/◌, ◌<◌, ◌≤◌, Bool, true, false, if◌then◌else◌, List, [], ◌∷◌, Option, Some, None, Ok, sym, ap, subst, ◌∙◌, arith}
use Rattle.std.specs.Str.{chars}
use Rattle.dlac_text.specs.Refusal.{TextRefusal, text_refusal, longest_text}
use Rattle.life_table.specs.LifeTable.{LifeTable, TextRow, text_row}
use Rattle.text_reports.specs.TextKey.{TextKey, text_key}
use Rattle.picture_core.specs.Key.{Key, text_report}
use Rattle.ground_core.specs.Update.{text}
use Rattle.ground_core.specs.Refusal.{GiveRefusal, text_fault_refusal, timing, version_refusal}
use Rattle.ground_core.specs.declared.fault.GiveFault.{GiveFault}
use Rattle.ground_core.specs.Item.{Weather}
use Rattle.ground_core.specs.Piece.{Latest}
use Rattle.ground_core.specs.Putting.{IsItemOf, AreItemsOf}
use Rattle.ground_core.specs.declared.item.SentItem.{SentItem}
use Rattle.ground_core.specs.Told.{IsTold, refusal_by, key_refusal_by, weather_refusal_by, count_refusal, latest_versions}
use Rattle.ground_core.proofs.Given.{text_weather, by_row_is}

-- a text that can be sent is refused for what follows
pub told_behind : (refusal : Option TextRefusal) (later : Option GiveRefusal) (fault : GiveFault) → refusal ≡ None → IsTold later fault → IsTold (text_fault_refusal refusal later) fault
told_behind None later fault e h = h
told_behind (Some bad) later fault e h = absurd (cc)

-- with a key and a row, what stands against the version and the file is what stands against the text
pub judged_by : (table : LifeTable) (latest : Key → Option Latest) (count : ℕ → ℕ → ℕ) (moment version : ℕ) (text_chars : List ℕ) (key : TextKey) (row : TextRow)
    → text_refusal (chars text_chars) ≡ None → text_key table text_chars ≡ Ok key → text_row table key.kind ≡ Some row
    → refusal_by table latest count moment (text version text_chars)
    ≡ version_refusal moment (timing row.form version row.life) (latest_versions latest (text_report key ∷ []))
    (count_refusal (text_weather key version row text_chars) (count version 413))
judged_by table latest count moment version text_chars key row s k r =
    ap (λ f. text_fault_refusal f (key_refusal_by table latest count moment version text_chars (text_key table text_chars))) s
    ∙ ap (key_refusal_by table latest count moment version text_chars) k
    ∙ ap (weather_refusal_by latest count moment key) (by_row_is table version text_chars key row k r)

-- a payload has few bytes
pub few_bytes : (size count : ℕ) → size ≡ (6 * (count + 1) + 7) / 8 → count ≤ longest_text → size ≤ 65536
few_bytes size count e h = omega arith

pub count_below : (b : Bool) (count file : ℕ) → file ≡ (if b then count else 0) → file < 1024 → b ≡ true → count < 1024
count_below true count file e h t = omega arith
count_below false count file e h t = cc

-- the one item of an update that says one thing
pub one_item : (count : ℕ → ℕ → ℕ) (serial : ℕ) (ws : List Weather) (w : Weather) (item : SentItem) → ws ≡ w ∷ []
    → IsItemOf w serial (count w.version w.product) item → AreItemsOf count serial ws (item ∷ [])
one_item count serial ws w item e h = subst (λ l. AreItemsOf count serial l (item ∷ [])) (sym e) (h, tt)
