-- Where a scenario's own run shows what is looked for.
use Rattle.std.specs.Prelude.{ℕ, zero, suc, ◌+◌, ◌++◌, ◌∷◌, [], List, length, filter, min}
use Rattle.zy_isa.specs.Scenario.{Scenario}
use Rattle.zy_machine.specs.Replays.{state_at}
use Rattle.zy_search.specs.declared.sought.Sought.{Sought}
use Rattle.zy_search.specs.Searches.{deepest, shows}

-- the numbers below n
abbrev pub below : ℕ → List ℕ
below zero = []
below (suc n) = below n ++ n ∷ []

-- the positions at which a scenario's run is judged: all, or where that takes steps, those with room for one more
abbrev pub judged : Scenario → Sought → List ℕ
judged sc q = below (min (deepest q) (length sc.choices) + 1)

-- those at which its state shows what is looked for
abbrev pub shown_along : Scenario → Sought → List ℕ
shown_along sc q = filter (λ m. shows sc q (state_at sc m)) (judged sc q)
