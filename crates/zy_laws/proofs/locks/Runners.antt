-- A transaction that runs at a node: the page of its key, the lock that it takes there, and where the node's pages lie.
use Rattle.zy_model.proofs.PageOf.{page_of-within}
use Rattle.std.proofs.Common.{List, inl, length, subst, sym, ℕ, ◌∷◌, arith, ◌<◌}
use Rattle.zy_isa.specs.Scenario.{Scenario}
use Rattle.zy_isa.specs.declared.node.Node.{Node}
use Rattle.zy_model.specs.declared.lock.LockKind.{LockKind}
use Rattle.zy_model.specs.Wireframe.{page_of}
use Rattle.zy_table.specs.Change.{locked, txn_at}
use Rattle.zy_table.specs.State.{View}
use Rattle.zy_laws.proofs.walk.Conditions.{Free, has_lock}
use Rattle.zy_laws.proofs.places.Installing.{Placed, placed_front}
use Rattle.zy_laws.proofs.locks.Locking.{Kept, Locking, lock_taken}
use Rattle.zy_laws.proofs.places.PageValues.{rest_of}
use Rattle.zy_laws.proofs.walk.Txns.{IsAt}

-- a state seen from n, where t runs, and its newest low keys
module _ (sc : Scenario) (n : Node) (v : View) (lows : List ℕ) (t : ℕ) (h : Kept sc n v lows) (at : IsAt v t n) where
  -- a key's page is one of the wireframe
  pub within : (key : ℕ) → page_of v.me.lows key < length lows
  within key =
      let some = subst (λ l. page_of l key < length l) (sym h.first.1) (page_of-within (0 ∷ h.first.0) key (omega arith)) in
      subst (λ l. page_of l key < length lows) (sym (h.mine.newest (h.mine.busy t at))) some

  -- the lock that a step takes, before the rest of it
  pub has_lock_locking : (key : ℕ) (kind : LockKind) → Free t key kind v → Locking sc n (has_lock t key kind v).me (has_lock t key kind v) lows
  unfolding locked txn_at
  has_lock_locking key kind f =
      lock_taken sc n v (has_lock t key kind v) lows t (page_of v.me.lows key) kind h.mine at (within key) f.here f.free
      (λ u a. a) (λ u a. a) (λ u j a s. inl s)

  -- the pages of the node lie by its own low keys
  pub home_placed : Placed v.me.lows v.me.pages
  home_placed = subst (λ l. Placed l v.me.pages) (sym (h.mine.newest (h.mine.busy t at))) (placed_front lows v.me.pages (rest_of v) h.placed).0
