use Rattle.zy_json.proofs.BackLemmas.{Tells-json_text, IsReadAs-json_text}
use Rattle.zy_json.proofs.laws.written_is_read.Goals as goal

pub returns-clause-tells : goal.returns-clause-tells
returns-clause-tells c s utf8 line = Tells-json_text s utf8 line

pub returns-clause-back : goal.returns-clause-back
returns-clause-back c s r utf8 line reads = IsReadAs-json_text s r utf8 line reads
