use Rattle.zy_laws.proofs.sources.VersionOne.{serial_a_first}
use Rattle.zy_laws.proofs.laws.a_first.Goals as goal

pub returns : goal.returns
returns c sc ok one choices = serial_a_first sc ok one choices
