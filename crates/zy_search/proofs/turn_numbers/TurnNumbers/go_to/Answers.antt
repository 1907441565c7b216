use Rattle.std.proofs.Common.{◌∙◌, ◌++◌, ap}
use Rattle.zy_search.proofs.ReachedLemmas.{numbers_there}
use Rattle.zy_search.proofs.turn_numbers.TurnNumbers.go_to.Goals as goal

pub returns : goal.returns
returns c =
    numbers_there c.args.plan.now c.args.reached.now c.requires.informed c.args.at c.requires.there c.extend_from_slice.new.self.items
    (c.in_ok-extend_from_slice.ensures.items ∙ ap (λ xs. xs ++ c.numbers.result.now) c.clear.ensures.items ∙ c.numbers.ensures)
