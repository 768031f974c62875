use Rattle.std.proofs.Common.{ap, ◌∙◌, refl, sym, false, ◌+◌}
use Rattle.radar_core.specs.Keys.{front_bytes}
use Rattle.radar_core.specs.Blanks.{bitmap_of, blank_record}
use Rattle.radar_core.specs.Radar.{radar_blocks}
use Rattle.radar_core.proofs.ReadBack.{IsRecord, recorded}
use Rattle.radar_core.proofs.BlankBack.{length-bitmap_of, blank_record-back}
use Rattle.radar_core.proofs.blanks.write_blank.Goals as goal

written :
    (c : goal.After-put_bitmap) →
    IsRecord c.args.room.now c.put_bitmap.new.room (blank_record c.args.base.now c.args.further.now) c.put_bitmap.result
unfolding blank_record
written c =
    recorded c.args.room.now c.put_front.new.room c.put_bitmap.new.room (front_bytes false c.args.base.now)
    (bitmap_of c.args.base.now.number c.args.further.now) c.put_bitmap.result refl c.put_front.ensures
    (c.put_bitmap.ensures.size ∙ ap (λ n. 3 + n) (sym (length-bitmap_of c.args.base.now.number c.args.further.now)))
    c.put_bitmap.ensures.bitmap c.put_bitmap.ensures.rest

pub returns-clause-size : goal.returns-clause-size
returns-clause-size c = (written c).size_is

pub returns-clause-record : goal.returns-clause-record
returns-clause-record c = (written c).bytes

pub returns-clause-rest : goal.returns-clause-rest
returns-clause-rest c = (written c).rest

pub returns-clause-reads_back : goal.returns-clause-reads_back
returns-clause-reads_back c =
    ap (radar_blocks c.args.base.now.product) (written c).bytes
    ∙ blank_record-back c.args.base.now c.args.further.now c.requires.scale c.requires.number c.requires.group
