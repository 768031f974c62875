use Rattle.fisb_app.proofs.Promised.{promised}
use Rattle.fisb_app.proofs.laws.promises_are_kept.Goals as goal

pub returns : goal.returns
returns c = promised
    (record {
      near = c.near_frame_gives_payload.ensures;
      frames_back = c.frames_read_back.ensures;
      stay = c.hearings_stay.ensures;
      agree = c.pictures_agree.ensures;
    })
    c.ranges_of_lines.ensures
    (record { default = c.tables_keep_rules.ensures.default; read = c.tables_keep_rules.ensures.read })
