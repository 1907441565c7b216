use Rattle.std.proofs.Common.{◌≡◌, ◌∙◌, ap, arith, length}
use Rattle.std.proofs.lemmas.Bool.{eqb-true}
use Rattle.zy_table.specs.Database.{newest}
use Rattle.zy_serial.proofs.Covered.{covered-all, covered-found, covered-missing, covered-most, covered-none}
use Rattle.zy_serial.proofs.covering.covers.Goals as goal
use Rattle.zy_serial.proofs.covering.covers.Goals.{in-Some+else-not-has_run, in_default}

pub loop-p-init : goal.loop-p-init
loop-p-init c = covered-none c.args.machine.now.state c.args.table.now

pub overflow_add-count : goal.overflow_add-count
overflow_add-count c =
    let rows = c.rows-rows.ensures in
    let most = covered-most c.args.machine.now.state c.loop-p.p c.args.table.now c.loop-p.count rows.rise rows.fit c.loop-p.invariant in
    omega (arith, most, c.len-count.ensures.bound)

pub loop-p-preserved : goal.loop-p-preserved
loop-p-preserved c =
    let h = c.args.machine.now in
    let table = c.args.table.now in
    let replay = c.page_count-p-end.ensures.replay in
    let rise = c.rows-rows.ensures.rise in
    elim c.match-page.branch [
      | in-Some+else-not-has_run w ↦
          let has = rw (c.rows-rows.ensures.value, w.rows.ensures.value) at (w.has_run.ensures w.if-not-has_run.false) in
          rw (w.count-is, w.len-count.ensures.value) (covered-found h c.loop-p.p table c.loop-p.count w.in-Some.page.now replay rise has c.loop-p.invariant
          w.in-Some.ensures)
      | in_default w ↦ rw w.count-is (covered-missing h c.loop-p.p table c.loop-p.count replay rise c.loop-p.invariant (rw w.in_default.is at c.page.ensures))
    ]

pub returns : goal.returns
returns c = λ is.
    let all : c.loop-p.p ≡ length (newest c.args.machine.now.state) = omega arith in
    let whole = eqb-true _ _ is ∙ ap length c.rows-rows.ensures.value in
    covered-all c.args.machine.now c.loop-p.p c.args.table.now c.loop-p.count c.page_count-p-end.ensures.replay c.loop-p.invariant all whole
