use Rattle.zy_json.proofs.BackLemmas.{IsLine-Tells}
use Rattle.zy_json.proofs.laws.read_is_line.Goals as goal

pub returns : goal.returns
returns c text s tells = IsLine-Tells text s tells
