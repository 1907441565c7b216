-- Two transactions of a list are set.
use Rattle.std.proofs.Common.{◌≡◌, ℕ, zero, suc, List, [], ◌∷◌, refl, ap, ◌∙◌}
use Rattle.std.specs.Prelude.{slice_get, slice_set, Option, ◌&&◌, if◌then◌else◌, Some, ◌+◌}
use Rattle.zy_isa.specs.declared.node.Node.{Node}
use Rattle.zy_table.specs.State.{Txn}
use Rattle.zy_table.specs.declared.status.Status.{Status}
use Rattle.zy_table.specs.Change.{txn_or}
use Rattle.zy_table.specs.Client.{is_active}
use Rattle.zy_table.specs.Run.{same_node}
use Rattle.zy_table.specs.Push.{active_from}

-- a transaction has the status and the node that it had
pub record Stays (old new : Txn) : Type 0 where
  pub status : new.status ≡ old.status
  pub node : new.node ≡ old.node

-- which is set first does not matter
pub set_swap : (xs : List Txn) (t u : ℕ) (x y : Txn) → (u ≡ t → ⊥) → slice_set (slice_set xs t x) u y ≡ slice_set (slice_set xs u y) t x
set_swap [] t u x y far = refl
set_swap (z ∷ zs) zero zero x y far = absurd (far refl)
set_swap (z ∷ zs) zero (suc u) x y far = refl
set_swap (z ∷ zs) (suc t) zero x y far = refl
set_swap (z ∷ zs) (suc t) (suc u) x y far = ap (λ (ys : List Txn). z ∷ ys) (set_swap zs t u x y (λ e. far (ap suc e)))

-- where one stays at its node with its status, the lowest that is active at a node does
pub active_stays : (m : Node) (i : ℕ) (xs : List Txn) (t : ℕ) (x : Txn) → Stays (txn_or (slice_get xs t)) x
    → active_from m i (slice_set xs t x) ≡ active_from m i xs
active_stays m i [] t x k = refl
active_stays m i (z ∷ zs) zero x k =
    ap (λ (status : Status). if is_active status && same_node x.node m then Some i else active_from m (i + 1) zs) k.status
    ∙ ap (λ (node : Node). if is_active z.status && same_node node m then Some i else active_from m (i + 1) zs) k.node
active_stays m i (z ∷ zs) (suc t) x k =
    ap (λ (o : Option ℕ). if is_active z.status && same_node z.node m then Some i else o) (active_stays m (i + 1) zs t x k)

-- the one that is set last counts
pub set_twice : (xs : List Txn) (t : ℕ) (x y : Txn) → slice_set (slice_set xs t x) t y ≡ slice_set xs t y
set_twice [] t x y = refl
set_twice (z ∷ zs) zero x y = refl
set_twice (z ∷ zs) (suc t) x y = ap (λ (ys : List Txn). z ∷ ys) (set_twice zs t x y)
