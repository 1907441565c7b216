use Rattle.std.proofs.Common.{◌≡◌, ◌<◌, ℕ, true}
use Rattle.zy_goals.specs.Txns.{has_property}
use Rattle.zy_goals.proofs.EachLemmas.{at}
use Rattle.zy_goals.proofs.txns.all_have.Given as goal

-- the first t transactions have the property
abbrev pub invariant-loop-t : goal.invariant-loop-t
invariant-loop-t l = (i : ℕ) → i < l.t → at (has_property l.property) l.machine.state.txns i ≡ true
