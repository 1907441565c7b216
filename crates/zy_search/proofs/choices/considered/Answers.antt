use Rattle.std.proofs.Common.{refl, rules}
use Rattle.std.proofs.lemmas.Fn.{filter_same}
use Rattle.zy_search.specs.Choices.{is_of_kinds}
use Rattle.zy_search.proofs.choices.considered.Goals as goal

pub returns : goal.returns
returns c =
    rw (filter_same _ (λ x. is_of_kinds c.args.kinds x) _ (λ x b f k. search rules) _ _ c.retain.ensures.filtered, c.in_ok-choices.ensures) refl
