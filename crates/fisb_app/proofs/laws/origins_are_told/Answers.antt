use Rattle.fisb_app.proofs.Promised.{told-of-origin}
use Rattle.fisb_app.proofs.laws.origins_are_told.Goals as goal

pub returns : goal.returns
returns c = told-of-origin
    (record {
      near = c.near_frame_gives_payload.ensures;
      frames_back = c.frames_read_back.ensures;
      stay = c.hearings_stay.ensures;
      agree = c.pictures_agree.ensures;
    })
    c.ranges_of_lines.ensures
    (record { default = c.tables_keep_rules.ensures.default; read = c.tables_keep_rules.ensures.read })
