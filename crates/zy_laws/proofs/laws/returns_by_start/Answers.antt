use Rattle.zy_laws.proofs.travel.OneWay.{returns_by_start}
use Rattle.zy_laws.proofs.laws.returns_by_start.Goals as goal

pub returns : goal.returns
returns c sc choices more p n none off = returns_by_start sc choices more p n none off
