use Rattle.std.proofs.Common.{◌≡◌, ◌≤◌, ◌∙◌, Ok, ap, sym, length, map, rules}
use Rattle.std.proofs.lemmas.List.{length-map}
use Rattle.toml.specs.View.{view, items_view}
use Rattle.life_table.specs.Views.{text_view, radar_view, head_view}
use Rattle.life_table.proofs.Accepted.{written_table}
use Rattle.life_table.proofs.Written.{bad_head, bad_text, bad_radar, whole_table}
use Rattle.life_table.proofs.document.table_of_tree.Goals as goal

pub returns-in-Err-clause-fault : goal.returns-in-Err-clause-fault
returns-in-Err-clause-fault c _ = bad_head (view c.args.tree.now) c.in-Err.reason c.in-Err.ensures.head

pub returns-in-Err-text_rows-clause-fault : goal.returns-in-Err-text_rows-clause-fault
returns-in-Err-text_rows-clause-fault c named = bad_text (view c.args.tree.now) (head_view c.in-Ok.head) c.in-Err-text_rows.fault c.in-Ok.ensures.head (c.in-Err-text_rows.ensures.fault named)

pub returns-in-Err-radar_rows-clause-fault : goal.returns-in-Err-radar_rows-clause-fault
returns-in-Err-radar_rows-clause-fault c named =
    let kept = c.in-Ok-text_rows.texts.items in
    let before : c.len.result ≡ length (map text_view kept) = rw (length-map kept text_view) (search (rules, c.len.ensures)) in
    bad_radar (view c.args.tree.now) (head_view c.in-Ok.head) (map text_view kept) c.len.result c.in-Err-radar_rows.fault c.in-Ok.ensures.head c.in-Ok-text_rows.ensures.rows before (c.in-Err-radar_rows.ensures.fault named)

pub of_rows-requires : goal.of_rows-requires
of_rows-requires c =
    let texts = c.in-Ok-text_rows.texts.items in
    let radars = c.in-Ok-radar_rows.radars.items in
    let few_texts : length (map text_view texts) ≤ 64 = rw (length-map texts text_view) c.in-Ok-text_rows.ensures.few in
    let few_radars : length (map radar_view radars) ≤ 2 = rw (length-map radars radar_view) c.in-Ok-radar_rows.ensures.few in
    written_table c.in-Ok.head.late c.len.result (map text_view texts) (map radar_view radars) (items_view c.in-Ok.head.texts.now) (items_view c.in-Ok.head.radars.now)
    c.in-Ok.ensures.late few_texts few_radars c.in-Ok-text_rows.ensures.rows c.in-Ok-radar_rows.ensures.rows

pub returns-in-Ok-of_rows-clause-table : goal.returns-in-Ok-of_rows-clause-table
returns-in-Ok-of_rows-clause-table c =
    let kept = c.in-Ok-text_rows.texts.items in
    let before : c.len.result ≡ length (map text_view kept) = rw (length-map kept text_view) (search (rules, c.len.ensures)) in
    whole_table (view c.args.tree.now) (head_view c.in-Ok.head) (map text_view kept) (map radar_view c.in-Ok-radar_rows.radars.items) c.len.result c.in-Ok.ensures.head c.in-Ok-text_rows.ensures.rows before c.in-Ok-radar_rows.ensures.rows
    ∙ ap Ok (sym c.in-Ok-of_rows.ensures)
