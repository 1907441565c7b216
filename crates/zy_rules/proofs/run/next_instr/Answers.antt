use Rattle.std.proofs.Common.{◌<◌, List, length, subst}
use Rattle.zy_isa.specs.declared.instr.Instr.{Instr}
use Rattle.zy_table.proofs.Programs.{program-read, got}
use Rattle.zy_rules.proofs.run.next_instr.Goals as goal

pub instr-requires : goal.instr-requires
instr-requires c =
    let here = program-read c.args.scenario.now c.from.result c.args.t c.index-programs-from.result c.from.ensures c.requires.program
    (rw c.programs.ensures.value at c.index-programs-from.is) in
    subst (λ (p : List Instr). c.args.pc < length p) here c.requires.pc

pub returns : goal.returns
returns c =
    let here = program-read c.args.scenario.now c.from.result c.args.t c.index-programs-from.result c.from.ensures c.requires.program
    (rw c.programs.ensures.value at c.index-programs-from.is) in
    rw here (got c.index-programs-from.result c.args.pc c.instr.result (subst (λ (p : List Instr). c.args.pc < length p) here c.requires.pc)
    c.instr.ensures.value)
