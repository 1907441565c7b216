use Rattle.std.proofs.Common.{ap, arith}
use Rattle.std.proofs.lemmas.List.{get_or_default}
use Rattle.zy_wire.specs.declared.entry.IndexEntry.{IndexEntry}
use Rattle.zy_wire.proofs.Entries.{in_order}
use Rattle.zy_wire.proofs.node.place.Goals as goal

pub returns-then-key-entries : goal.returns-then-key-entries
returns-then-key-entries c =
    let es = c.args.entries.now in
    let within = c.loop-i-test.true in (
      omega arith,
      (λ j d from to. c.loop-i.invariant j d to),
      (λ j d from to.
          let up = in_order es c.args.end c.requires.rise c.loop-i.i j d from to in
          let e : IndexEntry = record { low = 0; to = 0 } in
          let same = ap (λ (x : IndexEntry). x.low) (get_or_default es c.loop-i.i d e (omega arith)) in
          let above = c.if-key-entries.true in
          omega arith),
    )
