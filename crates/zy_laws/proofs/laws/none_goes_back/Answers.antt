use Rattle.zy_laws.proofs.travel.OneWay.{none_goes_back}
use Rattle.zy_laws.proofs.laws.none_goes_back.Goals as goal

pub returns : goal.returns
returns c sc one choices more p = none_goes_back sc one choices more p
