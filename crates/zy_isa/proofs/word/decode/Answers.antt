use Rattle.std.proofs.Common.{rules}
use Rattle.zy_isa.proofs.WordLemmas.{found, only}
use Rattle.zy_isa.proofs.word.decode.Goals as goal

-- src/word.rt:86:1
pub returns-clause-found : goal.returns-clause-found
returns-clause-found c = found c.args.word c.from_be_bytes.result c.instr_at.result (search rules) (search rules) (search rules) c.from_be_bytes.ensures
    (search rules) c.instr_at.ensures

-- src/word.rt:86:1
pub returns-clause-only : goal.returns-clause-only
returns-clause-only c = only c.args.word c.from_be_bytes.result c.instr_at.result c.from_be_bytes.ensures c.instr_at.ensures
