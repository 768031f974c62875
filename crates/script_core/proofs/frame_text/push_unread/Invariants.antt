use Rattle.std.proofs.Common.{◌≡◌, ◌++◌, string_bytes, flat_map, map, take}
use Rattle.receiver_core.specs.Hearing.{unread_view}
use Rattle.script_core.specs.Printed.{unread_text}
use Rattle.script_core.proofs.frame_text.push_unread.Given as goal

-- the parts so far are told
abbrev pub invariant-loop-part : goal.invariant-loop-part
invariant-loop-part l = string_bytes l.text ≡ string_bytes l.initial.text ++ flat_map unread_text (map unread_view (take l.part-index l.parts))
