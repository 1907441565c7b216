use Rattle.zy_laws.proofs.wireframe.OneWireframe.{one_wireframe}
use Rattle.zy_laws.proofs.laws.one_wireframe.Goals as goal

pub returns : goal.returns
returns c sc choices = one_wireframe sc choices
