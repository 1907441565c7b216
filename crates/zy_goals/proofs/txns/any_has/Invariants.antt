use Rattle.std.proofs.Common.{◌≡◌, ◌<◌, ℕ, false}
use Rattle.zy_goals.specs.Txns.{has_property}
use Rattle.zy_goals.proofs.EachLemmas.{at}
use Rattle.zy_goals.proofs.txns.any_has.Given as goal

-- the first t transactions lack the property
abbrev pub invariant-loop-t : goal.invariant-loop-t
invariant-loop-t l = (i : ℕ) → i < l.t → at (has_property l.property) l.machine.state.txns i ≡ false
