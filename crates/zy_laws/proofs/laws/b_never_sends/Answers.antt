use Rattle.zy_laws.proofs.travel.OneWay.{b_never_sends}
use Rattle.zy_laws.proofs.laws.b_never_sends.Goals as goal

pub returns : goal.returns
returns c sc one choices = b_never_sends sc one choices
