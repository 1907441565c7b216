-- What the line's value tells is the answer.
use Rattle.json.specs.Value.{value_view}
use Rattle.zy_json.proofs.AnswerLemmas.{Reads-step_found}
use Rattle.zy_json.proofs.reading.read.Goals as goal

pub returns-in-Ok : goal.returns-in-Ok
returns-in-Ok c = Reads-step_found c.args.line.now (value_view c.in-Ok.value) c.step_told.result c.in-Ok.ensures.ok c.step_told.ensures
