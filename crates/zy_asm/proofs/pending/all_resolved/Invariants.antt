-- The instructions so far, before those that are left, are those of the program.
use Rattle.std.proofs.Common.{◌≡◌, drop, map}
use Rattle.zy_asm.specs.Pending.{pending_of, all_resolved}
use Rattle.zy_asm.proofs.PendingLemmas.{with_front}
use Rattle.zy_asm.proofs.pending.all_resolved.Given as goal

abbrev pub invariant-loop-instr : goal.invariant-loop-instr
invariant-loop-instr l = with_front l.all.items (all_resolved l.labels (map pending_of (drop l.instr-index l.instrs)))
    ≡ all_resolved l.labels (map pending_of l.instrs)
