use Rattle.std.proofs.Common.{◌≡◌, ◌∙◌, ◌+◌, ◌-◌, add-one, ap, arith, sym}
use Rattle.zy_table.specs.Serial.{Alone, alone}
use Rattle.zy_serial.specs.Lone.{map_of, on_map}
use Rattle.zy_serial.proofs.LoneSteps.{alone-on, alone-over}
use Rattle.zy_serial.proofs.lone.written.Goals as goal
use Rattle.zy_serial.proofs.lone.written.Goals.{else-loop-test, then-loop-test+then-is_over}

pub loop-preserved : goal.loop-preserved
loop-preserved c =
    let m = map_of c.args.table.now in
    let on = sym c.is_over.ensures ∙ c.if-is_over.false in
    rw add-one (c.in_ok-step.ensures ∙ sym (alone-on m c.args.program.now c.loop.counter (on_map m c.loop.run) (sym c.loop.invariant) on))

pub returns : goal.returns
returns c =
    let m = map_of c.args.table.now in
    let n = c.loop.counter in
    elim c.loop-test.branch [
      | else-loop-test w ↦
          let all : n ≡ c.args.done = omega arith in
          rw c.into_rows.ensures (ap (λ (x : Alone). x.map) c.loop.invariant ∙ ap (λ i. (alone m c.args.program.now i).map) all)
      | then-loop-test+then-is_over w ↦
          let over = sym (ap (λ (x : Alone). x.over) c.loop.invariant) ∙ sym w.is_over.ensures ∙ w.if-is_over.true in
          let all : (c.args.done - n) + n ≡ c.args.done = omega arith in
          rw c.into_rows.ensures (ap (λ (x : Alone). x.map) (c.loop.invariant ∙ sym (alone-over m c.args.program.now n (c.args.done - n) over))
          ∙ ap (λ i. (alone m c.args.program.now i).map) all)
    ]
