-- What makes a run safe.
use Rattle.std.specs.Prelude.{◌≡◌, ◌<◌, ◌≤◌, ℕ, Contains, None, length, true, false}
use Rattle.zy_isa.specs.Limits.{max_pages, max_txns}
use Rattle.zy_isa.specs.declared.node.Node.{Node}
use Rattle.zy_isa.specs.Scenario.{Scenario}
use Rattle.zy_locks.specs.LockTable.{HasPlaces}
use Rattle.zy_model.specs.declared.lock.LockKind.TheVariants.{Exclusive}
use Rattle.zy_model.specs.Table.{may_split}
use Rattle.zy_model.specs.Wireframe.{page_of}
use Rattle.zy_table.specs.State.{NodeState, Txn}
use Rattle.zy_table.specs.Holders.{holds}
use Rattle.zy_table.specs.Pages.{page_in, owns}
use Rattle.zy_table.specs.Client.{is_active}
use Rattle.zy_table.specs.Ranges.{range_pages}
use Rattle.zy_table.specs.Run.{program_of, is_there, has_room, boundary, first_taken}
use Rattle.zy_node.specs.declared.node_store.NodeStore.{NodeStore}
use Rattle.zy_node.specs.Install.{AreRoomy}
use Rattle.zy_node.specs.Nodes.{node_shown, IsFree, IsLimited}
use Rattle.zy_node.specs.Wireframes.{lows_in}
use Rattle.zy_txns.specs.Books.{Ledger, Countable, txn_in}

-- t's commit can be numbered, and its rows find room
pub record Rooms (t : ℕ) (x : NodeStore) (b : Ledger) : Type 0 where
  pub commits : length b.commits ≤ max_txns
  pub rows : AreRoomy (lows_in x.wire) (txn_in t b).rows x.pages

-- what makes a split by a transaction safe, whatever the key
pub record MaySplit (sc : Scenario) (x : NodeState) (y : Txn) : Type 0 where
  pub room : 2 ≤ sc.cap
  pub pages : sc.pages ≤ max_pages
  pub absent : may_split x.mode ≡ true → page_in (length x.lows) x.pages ≡ None
  pub unheld : may_split x.mode ≡ true → (u : ℕ) → holds x.locks (length x.lows) u ≡ false
  pub other : (k : ℕ) → let p = page_of x.lows k in is_there k p x y ≡ false → has_room sc p x y ≡ false
      → Contains x.lows (boundary sc k p x y) → ⊥

-- an instruction of t is safe, whichever it is: it is counted, and its commit or its split is safe if one comes
pub record MayStep (sc : Scenario) (t : ℕ) (x : NodeStore) (b : Ledger) : Type 0 where
  pub counts : Countable t b
  pub room : Rooms t x b
  pub splits : MaySplit sc (node_shown x) (txn_in t b)
  pub limited : IsLimited sc.pages x

-- an access of t to a key is safe: it is counted, and its split is safe if one comes
pub record MayAccess (sc : Scenario) (t : ℕ) (x : NodeStore) (b : Ledger) : Type 0 where
  pub counts : Countable t b
  pub splits : MaySplit sc (node_shown x) (txn_in t b)
  pub limited : IsLimited sc.pages x

-- a sum of t is safe: it is counted, and each page that is asked for has a number that a page may have
pub record MaySum (sc : Scenario) (t : ℕ) (x : NodeStore) (b : Ledger) : Type 0 where
  pub counts : Countable t b
  pub slots : sc.pages ≤ max_pages
  pub limited : IsLimited sc.pages x

-- t may share the pages of the keys from a to b: no lock is in the way, and t's locks on them have places
pub record MayShare (t a b : ℕ) (x : NodeStore) : Type 0 where
  pub free : first_taken x.locks.locks t (range_pages (lows_in x.wire) a b) ≡ None
  pub room : HasPlaces (range_pages (lows_in x.wire) a b) t x.locks

-- p is the page of k, and has a number that a page may have
pub record IsPageFor (k p : ℕ) (x : NodeStore) : Type 0 where
  pub on : p ≡ page_of (lows_in x.wire) k
  pub few : p < max_pages

-- k's page p is here and free for t to write, with at the place of the lock
pub record IsWritable (t k p at : ℕ) (x : NodeStore) : Type 0 where
  pub on : p ≡ page_of (lows_in x.wire) k
  pub free : IsFree at p t Exclusive x
  pub owned : owns x.pages p ≡ true

-- an insert of t finds k's page p, which it may write, full
pub record IsFull (sc : Scenario) (t k p at : ℕ) (x : NodeStore) (b : Ledger) : Type 0 where
  pub there : t < length b.txns
  pub splits : MaySplit sc (node_shown x) (txn_in t b)
  pub limited : IsLimited sc.pages x
  pub page : IsWritable t k p at x
  pub new : is_there k p (node_shown x) (txn_in t b) ≡ false
  pub full : has_room sc p (node_shown x) (txn_in t b) ≡ false

-- a run of t at n is safe: its counts, its program counter, and its commit or its split if one comes
pub record IsReady (sc : Scenario) (n : Node) (t : ℕ) (x : NodeStore) (b : Ledger) : Type 0 where
  pub counts : Countable t b
  pub program : t < length sc.programs
  pub pc : (txn_in t b).pc < length (program_of sc t)
  pub limited : IsLimited sc.pages x
  pub rooms : is_active (txn_in t b).status ≡ true → (txn_in t b).node ≡ n → Rooms t x b
  pub splits : is_active (txn_in t b).status ≡ true → (txn_in t b).node ≡ n → MaySplit sc (node_shown x) (txn_in t b)
