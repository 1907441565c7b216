-- How many choices a history may have for its state to be judged.
use Rattle.std.proofs.Common.{◌≡◌, ◌+◌, ◌<◌, ◌≤◌, ◌||◌, ℕ, Bool, true, false, Option, Some, is_some, inl, inr, refl, sym, subst, arith}
use Rattle.std.proofs.lemmas.Bool.{cases_lt}
use Rattle.zy_isa.specs.Limits.{max_choices}
use Rattle.zy_patterns.specs.declared.patterns.OutcomePattern.{OutcomePattern}
use Rattle.zy_goals.specs.Footprints.{takes_steps}
use Rattle.zy_search.specs.declared.sought.Sought.{Sought}
use Rattle.zy_search.specs.Searches.{asks_steps, deepest_if, deepest}

-- there is room for them
within_if : (b : Bool) → deepest_if b ≤ max_choices
within_if true = omega arith
within_if false = omega arith

-- so there is, whatever is looked for
pub within : (q : Sought) → deepest q ≤ max_choices
within q = within_if (asks_steps q)

-- there is room for one more at most
nearly_if : (b : Bool) → max_choices ≤ deepest_if b + 1
nearly_if true = omega arith
nearly_if false = omega arith

-- so there is, whatever is looked for
pub nearly : (q : Sought) → max_choices ≤ deepest q + 1
nearly q = nearly_if (asks_steps q)

-- one choice is made where there is room for it, and what is full then has no more than that one
pub next_fits : (q : Sought) (m n : ℕ) → m < deepest q → (max_choices ≤ n → n ≡ m + 1) → n ≤ deepest q
next_fits q m n room full =
    elim (cases_lt n max_choices) [
      | inl less ↦ omega (arith, less, nearly q)
      | inr le ↦ omega (arith, room, full le)
    ]

-- where it takes steps, there is room for one
pub steps_fit : (q : Sought) (n : ℕ) → n ≤ deepest q → asks_steps q ≡ true → n < max_choices
steps_fit q n le e = omega (arith, subst (λ (b : Bool). n ≤ deepest_if b) e le)

-- it takes steps where an outcome is asked for
pub outcome_fits : (q : Sought) (x : OutcomePattern) (n : ℕ) → q.then ≡ Some x → n ≤ deepest q → n < max_choices
outcome_fits q x n e le = steps_fit q n le (subst (λ (o : Option OutcomePattern). is_some o || takes_steps q.goal ≡ true) (sym e) refl)
