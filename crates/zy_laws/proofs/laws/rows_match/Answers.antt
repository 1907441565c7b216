use Rattle.zy_laws.proofs.places.ValueAtPage.{rows_match}
use Rattle.zy_laws.proofs.laws.rows_match.Goals as goal

pub returns : goal.returns
returns c sc ok choices = rows_match sc ok choices
