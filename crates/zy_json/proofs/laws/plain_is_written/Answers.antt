use Rattle.zy_json.proofs.PlainLemmas.{plain_text-json_text}
use Rattle.zy_json.proofs.laws.plain_is_written.Goals as goal

pub returns : goal.returns
returns c s plain = plain_text-json_text s plain
