-- Where transactions wait in a cycle.
use Rattle.std.specs.Prelude.{ℕ, ◌≡◌, ◌<◌, ◌==◌, ◌&&◌, ◌++◌, ◌∷◌, [], zero, suc, not, List, Bool, Option, Some, None, length, filter, slice_get}
use Rattle.std.specs.List.{list_any}
use Rattle.zy_isa.specs.declared.node.Node.{Node}
use Rattle.zy_isa.specs.declared.choice.Choice.TheVariants.{Run}
use Rattle.zy_isa.specs.Scenario.{Scenario}
use Rattle.zy_model.specs.Locks.{holds}
use Rattle.zy_table.specs.declared.outcome.Outcome.{Outcome}
use Rattle.zy_table.specs.declared.outcome.Outcome.TheVariants.{Waits}
use Rattle.zy_table.specs.State.{State, facing}
use Rattle.zy_table.specs.Change.{txn_or}
use Rattle.zy_table.specs.Play.{step}
use Rattle.zy_search.specs.declared.deadlock.Wait.{Wait}

-- ---- who waits

-- the node of t
abbrev pub node_of : State → ℕ → Node
node_of s t = (txn_or (slice_get s.txns t)).node

-- a run of t at node n with this outcome waits for the page that the outcome names, or it does not wait
abbrev pub wait_in : ℕ → Node → Outcome → Option Wait
wait_in t n (Waits p) = Some (record { txn = t; node = n; page = p })
wait_in t n o = None

-- t waits if and only if a run of it at its node does
abbrev pub wait_of : Scenario → State → ℕ → Option Wait
wait_of sc s t = wait_in t (node_of s t) (step sc (Run (node_of s t) t) s).outcome

abbrev pub with_wait : List Wait → Option Wait → List Wait
with_wait ws None = ws
with_wait ws (Some w) = ws ++ w ∷ []

-- the waits of the first n transactions
abbrev pub waits_below : Scenario → State → ℕ → List Wait
waits_below sc s zero = []
waits_below sc s (suc n) = with_wait (waits_below sc s n) (wait_of sc s n)

-- ---- who waits for whom

-- w waits for x: for another transaction, which has a lock on the page. Where a run waits, each lock of another one on that
-- page is in its way, since an exclusive lock is alone on its page
abbrev pub is_for : State → Wait → Wait → Bool
is_for s w x = not (x.txn == w.txn) && holds (facing w.node s).me.locks w.page x.txn

-- those of some waits that are for one of them
abbrev pub kept : State → List Wait → List Wait
kept s ws = filter (λ (w : Wait). list_any (λ (x : Wait). is_for s w x) ws) ws

-- what is left when those that are for none of them are taken away, n times
abbrev pub left : State → List Wait → ℕ → List Wait
left s ws zero = ws
left s ws (suc n) = kept s (left s ws n)

-- after as many times as there are waits, those that are left wait for one another in a cycle, or for one that does
abbrev pub in_cycle : State → List Wait → List Wait
in_cycle s ws = left s ws (length ws)

-- some transactions wait in a cycle
abbrev pub is_deadlocked : Scenario → State → Bool
is_deadlocked sc s = not (length (in_cycle s (waits_below sc s (length s.txns))) == 0)

-- ---- what that comes to

-- of those that wait, those that pass a test: at least one does, and each of them waits for one of them
abbrev pub IsCycle : Scenario → State → (Wait → Bool) → Type 0
IsCycle sc s test = let ws = filter test (waits_below sc s (length s.txns)) in (0 < length ws) × (kept s ws ≡ ws)
