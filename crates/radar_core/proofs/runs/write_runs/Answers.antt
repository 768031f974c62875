use Rattle.std.proofs.Common.{ap, ◌∙◌, refl, map, sym, true, ◌+◌}
use Rattle.std.proofs.lemmas.List.{length-map}
use Rattle.radar_core.specs.Keys.{front_bytes}
use Rattle.radar_core.specs.Runs.{run_byte, longest_runs, run_record}
use Rattle.radar_core.specs.Radar.{radar_blocks}
use Rattle.radar_core.proofs.ReadBack.{IsRecord, recorded, run_record-back}
use Rattle.radar_core.proofs.runs.write_runs.Goals as goal

written : (c : goal.After-put_runs) → IsRecord c.args.room.now c.put_runs.new.room (run_record c.args.key.now c.args.cells.now) c.put_runs.result
unfolding run_record
written c =
    recorded c.args.room.now c.put_front.new.room c.put_runs.new.room (front_bytes true c.args.key.now)
    (map run_byte (longest_runs c.args.cells.now)) c.put_runs.result refl c.put_front.ensures
    (c.put_runs.ensures.size ∙ ap (λ n. 3 + n) (sym (length-map (longest_runs c.args.cells.now) run_byte))) c.put_runs.ensures.runs
    c.put_runs.ensures.rest

pub returns-clause-size : goal.returns-clause-size
returns-clause-size c = (written c).size_is

pub returns-clause-record : goal.returns-clause-record
returns-clause-record c = (written c).bytes

pub returns-clause-rest : goal.returns-clause-rest
returns-clause-rest c = (written c).rest

pub returns-clause-reads_back : goal.returns-clause-reads_back
returns-clause-reads_back c =
    ap (radar_blocks c.args.key.now.product) (written c).bytes
    ∙ run_record-back c.args.key.now c.args.cells.now c.requires c.put_runs.ensures.cells
