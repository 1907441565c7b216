-- The place of the first choice that has an outcome.
use Rattle.std.proofs.Common.{◌≡◌, ◌∙◌, ◌<◌, nat_lt, false, arith, ℕ, List, true, length, ap}
use Rattle.std.specs.List.{list_any}
use Rattle.std.proofs.lemmas.Bool.Decides.{nat_tests}
use Rattle.zy_isa.specs.declared.choice.Choice.{Choice}
use Rattle.zy_isa.specs.Scenario.{Scenario}
use Rattle.zy_table.specs.State.{State}
use Rattle.zy_patterns.specs.declared.patterns.OutcomePattern.{OutcomePattern}
use Rattle.zy_search.specs.Choices.{considered}
use Rattle.zy_search.specs.Possible.{gives, is_possible}
use Rattle.zy_search.specs.declared.kinds.ChoiceKinds.{ChoiceKinds}

-- a number is not below itself
pub not_below : (n : ℕ) → nat_lt n n ≡ false
not_below n = grind (arith, nat_tests)

-- the test for a lower number says what it is named for
below : (i n : ℕ) → nat_lt i n ≡ true → i < n
below i n e = grind (arith, nat_tests, e)

-- where an outcome is possible, the place is one of the considered choices
pub there : (sc : Scenario) (kinds : ChoiceKinds) (x : OutcomePattern) (s : State) (cs : List Choice) (i : ℕ) → cs ≡ considered kinds (length sc.programs)
    → nat_lt i (length cs) ≡ list_any (gives sc x s) cs → is_possible sc kinds x s ≡ true → i < length cs
there sc kinds x s cs i whole some possible = below i (length cs) (some ∙ (ap (list_any (gives sc x s)) whole ∙ possible))
