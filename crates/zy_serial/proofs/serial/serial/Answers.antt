use Rattle.std.proofs.Common.{◌∙◌, [], add-one, get_or, refl}
use Rattle.std.specs.FinMap.{empty}
use Rattle.zy_table.specs.declared.entry.CommitRecord.{CommitRecord}
use Rattle.zy_serial.specs.Lone.{map_of}
use Rattle.zy_serial.proofs.LaidRows.{laid-put_rows}
use Rattle.zy_table.proofs.Programs.{program-read}
use Rattle.zy_serial.proofs.Commits.{serial-more}
use Rattle.zy_serial.proofs.serial.serial.Goals as goal

pub loop-commit-init : goal.loop-commit-init
loop-commit-init c = rw (c.in_ok-lay.ensures.ok, c.new-table.ensures, c.rows.ensures.value, laid-put_rows empty c.args.scenario.now.rows []) refl

pub loop-commit-preserved : goal.loop-commit-preserved
loop-commit-preserved c =
    let i = c.loop-commit.commit-index in
    let cs = c.args.commits.now in
    let d : CommitRecord = record { txn = 0; done = 0 } in
    let named = c.requires i d c.loop-commit-test.true in
    let program = program-read c.args.scenario.now c.from.result (get_or cs i d).txn c.index-programs-from.result c.from.ensures named
    (rw c.programs.ensures.value at c.index-programs-from.is) in
    let next = rw (← program) at c.in_ok-run.ensures in
    rw add-one (serial-more c.args.scenario.now (map_of c.loop-commit.table) (map_of c.run.new.self) cs i d c.loop-commit-test.true next
    ∙ c.loop-commit.invariant)
