-- The law is a lemma for each direction.
use Rattle.std.specs.Prelude.{◌≡◌, true}
use Rattle.std.proofs.Common.{subst, sym}
use Rattle.zy_patterns.specs.Patterns.{exactly, matches}
use Rattle.zy_patterns.proofs.ExactLemmas.{exact_matches, exact_only}
use Rattle.zy_patterns.proofs.laws.exact_is_one.Goals as goal

pub returns : goal.returns
returns c said came = (exact_only said came, λ e. subst (λ o. matches (exactly said) o ≡ true) (sym e) (exact_matches said))
