use Rattle.zy_laws.proofs.sources.Placed.{places_in_time}
use Rattle.zy_laws.proofs.laws.places_in_time.Goals as goal

pub returns : goal.returns
returns c sc choices order n t u p q new = places_in_time sc choices order n t u p q new
