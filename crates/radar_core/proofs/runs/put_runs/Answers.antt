use Rattle.std.proofs.Common.{◌+◌, set, arith}
use Rattle.radar_core.proofs.RunsLemmas.{AreWritten, underway-same, first_by, longer_by, next_by, all_written}
use Rattle.radar_core.proofs.runs.put_runs.Goals as goal
use Rattle.radar_core.proofs.runs.put_runs.Goals.{then-cell-run+then-run-lt-LONGEST, else-cell-run, else-cell-run-via-then-cell-run+else-run-lt-LONGEST, else-cell-run-via-else-cell-run}

pub loop-place-init : goal.loop-place-init
loop-place-init c = first_by c.args.cells.now c.args.room.now c.at.result c.at.ensures.value c.at.ensures.cells c.told-room

pub loop-place-preserved : goal.loop-place-preserved
loop-place-preserved c =
    elim c.if-cell-run.branch [
      | then-cell-run+then-run-lt-LONGEST w ↦
          underway-same c.args.cells.now c.args.room.now _ c.if-cell-run.room _ c.if-cell-run.used (c.loop-place.place + 1) _
          c.if-cell-run.run w.room-is w.used-is w.run-is
          (longer_by c.args.cells.now c.args.room.now c.loop-place.room c.loop-place.used c.loop-place.place c.at-cell.result
          c.loop-place.run c.loop-place.invariant c.loop-place-test.true c.at.ensures.cells c.at-cell.ensures.value w.if-cell-run.true
          w.if-run-lt-LONGEST.true)
      | else-cell-run w ↦
          underway-same c.args.cells.now c.args.room.now _ c.if-cell-run.room _ c.if-cell-run.used (c.loop-place.place + 1) _
          c.if-cell-run.run w.room-is w.used-is w.run-is
          (next_by c.args.cells.now c.args.room.now c.loop-place.room c.loop-place.used c.loop-place.place c.at-cell.result w.byte.result
          c.loop-place.run c.loop-place.invariant c.loop-place-test.true c.at.ensures.cells c.at-cell.ensures.value w.byte.ensures
          (λ same. elim w.else-cell-run.branch [
            | else-cell-run-via-then-cell-run+else-run-lt-LONGEST w' ↦ w'.if-run-lt-LONGEST.false
            | else-cell-run-via-else-cell-run w' ↦ absurd (w'.if-cell-run.false same)
          ]))
    ]

written :
    (c : goal.After-way_told-2-1) →
    AreWritten c.args.cells.now c.args.room.now (set c.loop-place.room c.loop-place.used c.byte-2.result) (c.loop-place.used + 1)
written c =
    all_written c.args.cells.now c.args.room.now c.loop-place.room c.loop-place.used c.loop-place.place c.byte-2.result c.loop-place.run
    c.loop-place.invariant (omega (arith, c.at.ensures.cells.count)) (omega arith) c.told-room c.byte-2.ensures

pub returns-clause-size : goal.returns-clause-size
returns-clause-size c = (written c).size

pub returns-clause-runs : goal.returns-clause-runs
returns-clause-runs c = (written c).runs

pub returns-clause-rest : goal.returns-clause-rest
returns-clause-rest c = (written c).rest
