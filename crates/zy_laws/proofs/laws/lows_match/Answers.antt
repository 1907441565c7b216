use Rattle.zy_laws.proofs.places.ValueAtPage.{lows_match}
use Rattle.zy_laws.proofs.laws.lows_match.Goals as goal

pub returns : goal.returns
returns c sc ok choices = lows_match sc ok choices
