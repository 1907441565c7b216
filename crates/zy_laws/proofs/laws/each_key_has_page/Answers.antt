use Rattle.zy_laws.proofs.places.ValueAtPage.{each_key_has_page}
use Rattle.zy_laws.proofs.laws.each_key_has_page.Goals as goal

pub returns : goal.returns
returns c sc ok choices = each_key_has_page sc ok choices
