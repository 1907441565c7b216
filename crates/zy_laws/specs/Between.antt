-- Between two migrations: one node is Normal, and the other Empty.
use Rattle.std.specs.Prelude.{◌≡◌, ℕ, [], true}
use Rattle.zy_isa.specs.declared.node.Node.{Node}
use Rattle.zy_table.specs.State.{View, other}
use Rattle.zy_table.specs.Change.{txn_at}
use Rattle.zy_table.specs.Client.{is_active}

-- what n, which is empty, sees: no message is on its way and no page is asked for; it has no page, no low key and no
-- lock, and each transaction that is active is at the other node
pub record NothingLeft (n : Node) (v : View) : Type 0 where
  pub links : (v.inbox ≡ []) × (v.outbox ≡ [])
  pub asked : (v.me.asked ≡ []) × (v.them.asked ≡ [])
  pub bare : (v.me.pages ≡ []) × (v.me.lows ≡ [])
  pub free : v.me.locks ≡ []
  pub idle : (t : ℕ) → is_active (txn_at v t).status ≡ true → (txn_at v t).node ≡ other n
