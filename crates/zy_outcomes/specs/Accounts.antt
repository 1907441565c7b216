-- What an outcome tells of the step: whether an instruction was done, who begins or commits, which message was sent, which commit it was.
use Rattle.std.specs.Prelude.{ℕ, ◌≡◌, ◌==◌, ◌+◌, ◌++◌, ◌&&◌, List, [], ◌∷◌, Bool, true, false, Option, Some, None, if◌then◌else◌, length, slice_get}
use Rattle.zy_isa.specs.declared.choice.Choice.{Choice}
use Rattle.zy_isa.specs.declared.choice.Choice.TheVariants.{Begin, Run}
use Rattle.zy_isa.specs.declared.node.Node.{Node}
use Rattle.zy_model.specs.declared.kind.Kind.{Kind}
use Rattle.zy_model.specs.Messages.{Message, kind_of}
use Rattle.zy_table.specs.declared.outcome.Outcome.{Outcome}
use Rattle.zy_table.specs.declared.outcome.Outcome.TheVariants.{Aborted, Awaits, Began, Committed, Did, NotYet, Pulls, Split, Waits}
use Rattle.zy_table.specs.declared.entry.CommitRecord.{CommitRecord}
use Rattle.zy_table.specs.Change.{txn_or}
use Rattle.zy_table.specs.Run.{same_node}
use Rattle.zy_table.specs.State.{State, Txn}

-- transaction t of a state
abbrev pub txn_of : State → ℕ → Txn
txn_of s t = txn_or (slice_get s.txns t)

-- how many instructions were done
abbrev pub counted : Outcome → ℕ
counted Did = 1
counted (Committed i) = 1
counted o = 0

-- an instruction was done, and it was no commit
abbrev pub is_did : Outcome → Bool
is_did Did = true
is_did o = false

-- what a run comes to where the transaction is active there: it gets on, to the end or not, or it waits for a lock, for a
-- page, or for `dual`
abbrev pub is_of_run : Outcome → Bool
is_of_run Did = true
is_of_run (Split page new_page boundary) = true
is_of_run (Committed i) = true
is_of_run (Aborted y) = true
is_of_run (Waits p) = true
is_of_run (Pulls p) = true
is_of_run (Awaits p) = true
is_of_run NotYet = true
is_of_run o = false

-- the choice runs transaction t
abbrev pub runs : Choice → ℕ → Bool
runs (Run n u) t = u == t
runs c t = false

-- the transaction that begins by a choice with this outcome, if one does
abbrev pub who_begins : Choice → Outcome → List ℕ
who_begins (Begin t) (Began n) = t ∷ []
who_begins c o = []

-- the transaction that commits at node n by it, if one does
abbrev pub who_commits : Node → Choice → Outcome → List ℕ
who_commits n (Run m t) (Committed i) = if same_node m n then t ∷ [] else []
who_commits n c o = []

-- what was sent, and nothing else, stands at the end of the link
abbrev pub Says : Option Kind → List Message → List Message → Type 0
Says None old new = new ≡ old
Says (Some kind) old new = (m : Message) × (kind_of m ≡ kind) × (new ≡ old ++ m ∷ [])

-- the number of a commit says how many commits there are
abbrev pub IsNumbered : Outcome → List CommitRecord → Type 0
IsNumbered (Committed i) commits = i ≡ length commits
IsNumbered o commits = Unit {0}

-- transaction t, which was x, is y after a choice with this outcome: it did as many instructions more as were done in
-- the run of it, and its registers change only where its instruction was done and was no commit
pub record Accounts (c : Choice) (o : Outcome) (t : ℕ) (x y : Txn) : Type 0 where
  pub done : y.done ≡ x.done + (if runs c t then counted o else 0)
  pub regs : (runs c t && is_did o) ≡ false → y.regs ≡ x.regs
