-- The words up to the count.
use Rattle.std.proofs.Common.{◌∙◌, sym}
use Rattle.std.proofs.lemmas.List.{take-map}
use Rattle.zy_text.proofs.line.Words.as_slice.Goals as goal

pub returns : goal.returns
returns c = sym (take-map (λ w. w.now) c.self.inside.count c.self.inside.words) ∙ c.self.view_is
