use Rattle.std.proofs.Common.{◌≡◌, ◌-◌, ◌≤◌, ◌<◌, ◌++◌, ◌∷◌, [], ℕ, List, length, get_or, ◌∙◌, ap, arith}
use Rattle.gdl90_core.specs.declared.piece_bytes.PieceBytes.{PieceBytes}
use Rattle.gdl90_core.proofs.Keeping.{push_long, push_short}
use Rattle.gdl90_core.proofs.piece_bytes.PieceBytes.push.Goals as goal
use Rattle.gdl90_core.proofs.piece_bytes.PieceBytes.push.Goals.{then-len-ge2, else-len-ge2}

pub returns-after-len-ge2 : goal.returns-after-len-ge2
returns-after-len-ge2 c = elim c.if-len-ge2.branch [
  | then-len-ge2 w ↦
      let old : PieceBytes = c.args.self.now in
      let size : c.len-len.result ≡ length old.bytes.items = c.len-len.ensures.value in
      let two : 2 ≤ length old.bytes.items = omega (arith, w.if-len-ge2.true, size) in
      let items : c.push.new.self.items ≡ old.bytes.items ++ c.args.byte ∷ [] =
      c.push.ensures.items ∙ ap (λ (kept : PieceBytes). kept.bytes.items ++ c.args.byte ∷ []) w.self-is in
      let read : get_or w.deref.result.now (c.len-len.result - 2) 0 ≡ get_or old.bytes.items (length old.bytes.items - 2) 0 =
      ap (λ (xs : List ℕ). get_or xs (c.len-len.result - 2) 0) w.deref.ensures.0
      ∙ ap (λ (n : ℕ). get_or old.bytes.items (n - 2) 0) size in
      push_long old _ c.args.byte (get_or w.deref.result.now (c.len-len.result - 2) 0) two
      (ap (λ (kept : PieceBytes). kept.too_long) w.self-is) items read
      (ap (λ (kept : PieceBytes). kept.remainder) w.self-is ∙ w.next_remainder-self.ensures)
  | else-len-ge2 w ↦
      let old : PieceBytes = c.args.self.now in
      let short : length old.bytes.items < 2 = omega (arith, w.if-len-ge2.false, c.len-len.ensures.value) in
      let items : c.push.new.self.items ≡ old.bytes.items ++ c.args.byte ∷ [] =
      c.push.ensures.items ∙ ap (λ (kept : PieceBytes). kept.bytes.items ++ c.args.byte ∷ []) w.self-is in
      push_short old _ c.args.byte short (ap (λ (kept : PieceBytes). kept.too_long) w.self-is) items
      (ap (λ (kept : PieceBytes). kept.remainder) w.self-is)
]
