use Rattle.std.proofs.Common.{◌≡◌, Bool, true, Result, Ok, Err, IfOk, ◌∙◌, sym}
use Rattle.std.specs.Bool.{Decides}
use Rattle.zy_search.proofs.shows.shows.Goals as goal

-- a result that is a test decides whether the test is true
decides : {E : Type 0} (x : Bool) (r : Result Bool E) → IfOk r (λ b. b ≡ x) → IfOk r (λ b. Decides b (x ≡ true))
decides x (Ok b) is = (λ e. sym is ∙ e, λ e. is ∙ e)
decides x (Err e) is = tt

pub returns-clause-shows : goal.returns-clause-shows
returns-clause-shows c = decides _ c.shows_all.result c.shows_all.ensures.shows
