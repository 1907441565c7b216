-- The migration order: of each migration first all that committed at its source, then all that committed at its
-- destination, each in commit order.
use Rattle.std.specs.Prelude.{◌≡◌, ℕ, List, [], ◌∷◌, ◌++◌, drop, length, Bool, true, false, slice_get}
use Rattle.std.specs.FinMap.{empty}
use Rattle.std.specs.List.{filter}
use Rattle.std.specs.List.Sorted.{IsPermutation}
use Rattle.zy_isa.specs.declared.node.Node.{Node}
use Rattle.zy_isa.specs.Scenario.{Scenario}
use Rattle.zy_isa.specs.declared.choice.Choice.{Choice}
use Rattle.zy_model.specs.Families.{is_source}
use Rattle.zy_table.specs.declared.entry.CommitRecord.{CommitRecord}
use Rattle.zy_table.specs.State.{State, facing}
use Rattle.zy_table.specs.Change.{txn_or}
use Rattle.zy_table.specs.Database.{database, laid}
use Rattle.zy_table.specs.Play.{opening, side_of, step}
use Rattle.zy_table.specs.Run.{same_node}
use Rattle.zy_table.specs.Serial.{Registers, serial}

-- the commits so far, in two lists: `first` has all before the last start and, since then, those at its source; `later`
-- has those since then at the other node (before any start it has all)
pub record Sorted : Type 0 where
  pub first : List CommitRecord
  pub later : List CommitRecord

-- after a step with these new commits, by whether the node that acts is in a source's mode before the step and after
-- it: a source's commits join `first`; where a node becomes a source, by a start, `later` joins `first`; other commits
-- join `later`
abbrev pub sorted_by : Bool → Bool → List CommitRecord → Sorted → Sorted
sorted_by true after new x = record { first = x.first ++ new; later = x.later }
sorted_by false true new x = record { first = x.first ++ x.later; later = [] }
sorted_by false false new x = record { first = x.first; later = x.later ++ new }

-- after a step: a choice in a state
unfoldable pub sorted_step : Scenario → Choice → State → Sorted → Sorted
sorted_step sc c s x =
    let n = side_of sc c s in
    let after = (step sc c s).after in
    let new = drop (length s.commits) after.commits in
    sorted_by (is_source (facing n s).me.mode) (is_source (facing n after).me.mode) new x

-- after a schedule from a state on
abbrev pub sorted : Scenario → State → List Choice → Sorted → Sorted
sorted sc s [] x = x
sorted sc s (c ∷ cs) x = sorted sc (step sc c s).after cs (sorted_step sc c s x)

-- the commits of a schedule from the opening on, in the migration order
abbrev pub migration_order : Scenario → List Choice → List CommitRecord
migration_order sc cs = let x = sorted sc (opening sc) cs (record { first = []; later = [] }) in x.first ++ x.later

-- those of these commits that were made at a node
abbrev pub at_node : Node → State → List CommitRecord → List CommitRecord
at_node n s cs = filter (λ (c : CommitRecord). same_node (txn_or (slice_get s.txns c.txn)).node n) cs

-- all commits at a node, in commit order
abbrev pub commits_at : Node → State → List CommitRecord
commits_at n s = at_node n s s.commits

-- a state is serial in an order: the order is the commit list rearranged, the database is that of the committed
-- transactions, run one by one in it, and each committed transaction has the registers of its lone run there
pub record SerialIn (order : List CommitRecord) (sc : Scenario) (s : State) : Type 0 where
  pub one_by_one : database s ≡ serial sc (laid sc.rows empty) order
  pub permuted : IsPermutation s.commits order
  pub registers : Registers sc (λ (t : ℕ). txn_or (slice_get s.txns t)) (laid sc.rows empty) order
