-- The numbers that a goal compares.
use Rattle.std.specs.Prelude.{ℕ, ◌==◌, not, nat_lt, nat_le, Bool, length, unwrap_or, slice_get}
use Rattle.std.specs.FinMap.{get}
use Rattle.zy_table.specs.State.{State}
use Rattle.zy_table.specs.Change.{txn_or}
use Rattle.zy_table.specs.Database.{database}
use Rattle.zy_table.specs.Ranges.{range, total}
use Rattle.zy_goals.specs.declared.goal.Term.{Term}
use Rattle.zy_goals.specs.declared.goal.Term.TheVariants as term
use Rattle.zy_goals.specs.declared.goal.Comparison.{Comparison}
use Rattle.zy_goals.specs.declared.goal.Comparison.TheVariants as comparison

-- the committed value at a key, 0 where there is none
abbrev pub committed_at : State → ℕ → ℕ
committed_at s k = unwrap_or (get (database s) k) 0

-- the value of a term; a transaction that is not there has zeros
abbrev pub value : Term → State → ℕ
value (term.Number n) s = n
value (term.Key k) s = committed_at s k
value (term.Sum j k) s = total (committed_at s) (range j k)
value (term.Register t r) s = unwrap_or (slice_get (txn_or (slice_get s.txns t)).regs r) 0
value (term.Pc t) s = (txn_or (slice_get s.txns t)).pc
value (term.Done t) s = (txn_or (slice_get s.txns t)).done
value term.Commits s = length s.commits

-- one number compares so with another
abbrev pub compares : Comparison → ℕ → ℕ → Bool
compares comparison.Equal m n = m == n
compares comparison.NotEqual m n = not (m == n)
compares comparison.Less m n = nat_lt m n
compares comparison.AtMost m n = nat_le m n
compares comparison.Greater m n = nat_lt n m
compares comparison.AtLeast m n = nat_le n m
