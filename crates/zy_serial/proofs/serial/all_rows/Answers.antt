use Rattle.std.proofs.Common.{◌≡◌, arith, length}
use Rattle.zy_table.specs.Database.{newest}
use Rattle.zy_serial.proofs.Gathered.{gathered-found, gathered-missing, gathered-all}
use Rattle.zy_serial.proofs.serial.all_rows.Goals as goal
use Rattle.zy_serial.proofs.serial.all_rows.Goals.{in-Some+in_ok-lay, in_default}

pub loop-p-preserved : goal.loop-p-preserved
loop-p-preserved c =
    let h = c.args.machine.now in
    let replay = c.page_count-p-end.ensures.replay in
    elim c.match-page.branch [
      | in-Some+in_ok-lay w ↦
          rw (w.table-is, w.in_ok-lay.ensures.ok, w.rows.ensures.value)
          (gathered-found h c.loop-p.p c.loop-p.table w.in-Some.page.now replay c.loop-p.invariant w.in-Some.ensures)
      | in_default w ↦ rw w.table-is (gathered-missing h c.loop-p.p c.loop-p.table replay c.loop-p.invariant (rw w.in_default.is at c.page.ensures))
    ]

pub returns : goal.returns
returns c =
    let all : c.loop-p.p ≡ length (newest c.args.machine.now.state) = omega arith in
    gathered-all c.args.machine.now c.loop-p.p c.loop-p.table c.page_count-p-end.ensures.replay c.loop-p.invariant all
