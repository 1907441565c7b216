use Rattle.zy_laws.proofs.places.ValueAtPage.{values_at_pages}
use Rattle.zy_laws.proofs.laws.value_at_page.Goals as goal

pub returns : goal.returns
returns c sc ok choices = values_at_pages sc ok choices
