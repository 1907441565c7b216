-- Bytes whose text means a scenario have no fault.
use Rattle.zy_asm.proofs.InputLemmas.{found_in}
use Rattle.zy_asm.proofs.assembling.assemble_bytes.Goals as goal

pub returns-in-Ok-clause-found : goal.returns-in-Ok-clause-found
returns-in-Ok-clause-found c = found_in c.args.bytes.now c.in-Ok.text.now c.assemble.result c.in-Ok.ensures.1 c.in-Ok.ensures.0 c.assemble.ensures.found
