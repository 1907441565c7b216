-- The line is the instruction, as its three words say.
use Rattle.std.proofs.Common.{◌≡◌, ◌<◌, rules, arith, sym, length}
use Rattle.zy_asm.specs.declared.state.Stage.TheVariants as stage
use Rattle.std.proofs.lemmas.List.{length-map}
use Rattle.zy_asm.specs.Pending.{pending_of}
use Rattle.zy_asm.specs.Reading.Progress.{progress_of}
use Rattle.zy_asm.proofs.UsualLemmas.{instr_taken}
use Rattle.zy_asm.proofs.state.Reader.usual_instr.Goals as goal

pub returns : goal.returns
returns c =
    let s = progress_of c.args.self.now in
    let here : s.stage ≡ stage.Program = search rules in
    let few : length c.args.self.now.instrs.items < 64 = omega (arith, c.len.ensures, c.if-len-ge-MAX_INSTRS.false) in
    let few_seen : length s.instrs < 64 = omega (arith, length-map c.args.self.now.instrs.items pending_of, few) in (
      instr_taken s c.args.operation.now c.args.a.now c.args.b.now c.in_ok-operation.operation c.in_ok-instr.instr here few_seen
          (sym c.in_ok-operation.ensures) c.in_ok-instr.ensures,
      few,
    )
