use Rattle.zy_laws.proofs.wireframe.OneWireframe.{one_source}
use Rattle.zy_laws.proofs.laws.one_source.Goals as goal

pub returns : goal.returns
returns c sc choices n source = one_source sc choices n source
