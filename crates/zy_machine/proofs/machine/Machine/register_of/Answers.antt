use Rattle.std.proofs.Common.{◌∙◌, sym, ap, length, ◌<◌, ◌≤◌, arith}
use Rattle.zy_table.specs.Observations.{register_of}
use Rattle.zy_machine.proofs.ObservedLemmas.{named_txn, named_program, register_read, register_past}
use Rattle.zy_machine.proofs.machine.Machine.register_of.Goals as goal

pub txn-requires : goal.txn-requires
txn-requires c = named_txn c.args.self.now c.args.choice c.in-Run.field-0 c.in-Run.t c.scenario.ensures.replay c.in-Run.is c.requires

pub returns-then-pc-len : goal.returns-then-pc-len
returns-then-pc-len c =
    let h = c.args.self.now in
    let there = named_program h.scenario c.args.choice c.in-Run.field-0 c.in-Run.t c.in-Run.is c.requires in
    let read = rw (c.programs.ensures.value, c.scenario.ensures.value) at c.index-programs-from.is in
    let next = c.pc-pc.ensures ∙ ap (λ x. x.pc) c.txn.ensures.value in
    let lt : c.pc-pc.result < length c.index-programs-from.result = omega (arith, c.if-pc-len.true, c.len.ensures.value) in
    c.shown_register.ensures
    ∙ (register_read h.scenario h.state c.in-Run.field-0 c.in-Run.t c.from.result c.pc-pc.result c.index-programs-from.result c.from.ensures there read next
    c.instr.result lt c.instr.ensures.value
    ∙ ap (register_of h.scenario h.state) (sym c.in-Run.is))

pub returns-else-pc-len : goal.returns-else-pc-len
returns-else-pc-len c =
    let h = c.args.self.now in
    let there = named_program h.scenario c.args.choice c.in-Run.field-0 c.in-Run.t c.in-Run.is c.requires in
    let read = rw (c.programs.ensures.value, c.scenario.ensures.value) at c.index-programs-from.is in
    let next = c.pc-pc.ensures ∙ ap (λ x. x.pc) c.txn.ensures.value in
    let over : length c.index-programs-from.result ≤ c.pc-pc.result = omega (arith, c.if-pc-len.false, c.len.ensures.value) in
    register_past h.scenario h.state c.in-Run.field-0 c.in-Run.t c.from.result c.pc-pc.result c.index-programs-from.result c.from.ensures there read next over
    ∙ ap (register_of h.scenario h.state) (sym c.in-Run.is)
