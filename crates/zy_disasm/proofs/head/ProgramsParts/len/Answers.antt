use Rattle.std.proofs.Common.{sym}
use Rattle.zy_disasm.proofs.CanonLemmas.{length-parts}
use Rattle.zy_disasm.proofs.head.ProgramsParts.len.Goals as goal

pub returns : goal.returns
returns c = sym (length-parts 0 c.args.self.now.0.now)
