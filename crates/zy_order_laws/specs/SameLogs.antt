-- Who begins, and who commits at a node, as the logs of a run tell it.
use Rattle.std.specs.Prelude.{ℕ, ◌≡◌, ◌++◌, List, [], ◌∷◌, map}
use Rattle.zy_isa.specs.declared.choice.Choice.{Choice}
use Rattle.zy_isa.specs.declared.node.Node.{Node}
use Rattle.zy_table.specs.declared.entry.CommitRecord.{CommitRecord}
use Rattle.zy_table.specs.declared.entry.Entry.{Entry}
use Rattle.zy_table.specs.declared.outcome.Outcome.{Outcome}
use Rattle.zy_outcomes.specs.Accounts.{who_begins, who_commits}

-- whom each of these entries names, in their order
abbrev pub named_by : (Choice → Outcome → List ℕ) → List Entry → List ℕ
named_by who [] = []
named_by who (e ∷ es) = who e.choice e.outcome ++ named_by who es

-- the transactions that begin, in the order in which they do: that of the client's log
abbrev pub begins_of : List Entry → List ℕ
begins_of es = named_by who_begins es

-- those that commit at node n, in the order in which they do: that of the log of n
abbrev pub commits_of : Node → List Entry → List ℕ
commits_of n es = named_by (who_commits n) es

-- the logs of two runs have the same begins and, at each node, the same commits, in the same order
pub record SameLogs (one other : List Entry) : Type 0 where
  pub begins : begins_of one ≡ begins_of other
  pub commits : (n : Node) → commits_of n one ≡ commits_of n other

-- the transactions of commits
abbrev pub txns_of : List CommitRecord → List ℕ
txns_of cs = map (λ (c : CommitRecord). c.txn) cs
