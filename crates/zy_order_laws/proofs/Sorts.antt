-- A line that tells its outcome tells who begins and who commits by it.
use Rattle.std.proofs.Common.{◌≡◌, ℕ, List, [], ◌∷◌, false, true, refl, sym}
use Rattle.std.specs.Prelude.{if◌then◌else◌}
use Rattle.std.proofs.lemmas.Bool.{false≢true}
use Rattle.zy_isa.specs.Choices.{actor_at}
use Rattle.zy_isa.specs.declared.choice.Choice.{Choice}
use Rattle.zy_isa.specs.declared.choice.Choice.TheVariants.{Begin, Run}
use Rattle.zy_isa.specs.declared.node.Actor.TheVariants.{C}
use Rattle.zy_isa.specs.declared.node.Node.{Node}
use Rattle.zy_isa.specs.declared.node.Node.TheVariants.{A, B}
use Rattle.zy_table.specs.Run.{same_node}
use Rattle.zy_table.specs.declared.outcome.Outcome.{Outcome}
use Rattle.zy_table.specs.declared.outcome.Outcome.TheVariants as outcome
use Rattle.zy_outcomes.specs.Accounts.{who_begins, who_commits}
use Rattle.zy_patterns.specs.Patterns.{matches}
use Rattle.zy_patterns.specs.declared.patterns.OutcomePattern.{OutcomePattern}
use Rattle.zy_patterns.specs.declared.patterns.OutcomePattern.TheVariants as pattern
use Rattle.zy_threads.specs.Turns.{is_by}

-- a begin, a commit, or neither
pub data Sort : Type 0 where
  Begins : Sort
  Commits : Sort
  Neither : Sort

-- the sort of an outcome
abbrev pub sort_of : Outcome → Sort
sort_of (outcome.Began n) = Begins
sort_of (outcome.Committed i) = Commits
sort_of o = Neither

-- the sort of what a line tells
abbrev pub sort_told : OutcomePattern → Sort
sort_told (pattern.Began n) = Begins
sort_told (pattern.Committed i) = Commits
sort_told t = Neither

-- they are the same
pub tells_sort : (t : OutcomePattern) (o : Outcome) → matches t o ≡ true → sort_of o ≡ sort_told t
tells_sort pattern.Started outcome.Started e = refl
tells_sort pattern.BadMode outcome.BadMode e = refl
tells_sort (pattern.Began asked) (outcome.Began n) e = refl
tells_sort pattern.Idle outcome.Idle e = refl
tells_sort pattern.Elsewhere outcome.Elsewhere e = refl
tells_sort pattern.NotYet outcome.NotYet e = refl
tells_sort pattern.Did outcome.Did e = refl
tells_sort (pattern.Split page new_page boundary) (outcome.Split p q k) e = refl
tells_sort (pattern.Aborted reason) (outcome.Aborted w) e = refl
tells_sort (pattern.Committed place) (outcome.Committed i) e = refl
tells_sort (pattern.Waits page) (outcome.Waits p) e = refl
tells_sort (pattern.Pulls page) (outcome.Pulls p) e = refl
tells_sort (pattern.Awaits page) (outcome.Awaits p) e = refl
tells_sort pattern.NoMessage outcome.NoMessage e = refl
tells_sort pattern.GotWire outcome.GotWire e = refl
tells_sort pattern.GotReady outcome.GotReady e = refl
tells_sort pattern.GotDual outcome.GotDual e = refl
tells_sort (pattern.Stale page) (outcome.Stale p) e = refl
tells_sort (pattern.Held page) (outcome.Held p) e = refl
tells_sort (pattern.GotPull page) (outcome.GotPull p) e = refl
tells_sort (pattern.GotPage page) (outcome.GotPage p) e = refl
tells_sort pattern.GotFinish outcome.GotFinish e = refl
tells_sort pattern.GotDone outcome.GotDone e = refl
tells_sort pattern.Stray outcome.Stray e = refl
tells_sort pattern.Finishing outcome.Finishing e = refl
tells_sort (pattern.Active txn) (outcome.Active t) e = refl
tells_sort (pattern.Pushed page) (outcome.Pushed p) e = refl
tells_sort pattern.NoPush outcome.NoPush e = refl
tells_sort t o e = absurd (false≢true e)

-- who begins by a choice, by the sort of its outcome
abbrev pub begins_by : Choice → Sort → List ℕ
begins_by (Begin t) Begins = t ∷ []
begins_by c k = []

-- who commits at n
abbrev pub commits_by : Node → Choice → Sort → List ℕ
commits_by n (Run m t) Commits = if same_node m n then t ∷ [] else []
commits_by n c k = []

-- the sort decides who begins
pub begins_is : (c : Choice) (o : Outcome) → who_begins c o ≡ begins_by c (sort_of o)
begins_is (Begin t) (outcome.Began n) = refl
begins_is (Begin t) o = refl
begins_is c o = refl

-- and who commits
pub commits_is : (n : Node) (c : Choice) (o : Outcome) → who_commits n c o ≡ commits_by n c (sort_of o)
commits_is n (Run m t) (outcome.Committed i) = refl
commits_is n (Run m t) o = refl
commits_is n c o = refl

-- by a choice of a node nobody begins
pub begins_by_client : (c : Choice) (o : Outcome) → is_by C c ≡ false → who_begins c o ≡ []
begins_by_client (Begin t) o h = absurd (false≢true (sym h))
begins_by_client c o h = refl

-- by a choice of another actor nobody commits at a node
pub commits_by_node : (n : Node) (c : Choice) (o : Outcome) → is_by (actor_at n) c ≡ false → who_commits n c o ≡ []
commits_by_node A (Run A t) o h = absurd (false≢true (sym h))
commits_by_node B (Run B t) o h = absurd (false≢true (sym h))
commits_by_node A (Run B t) (outcome.Committed i) h = refl
commits_by_node B (Run A t) (outcome.Committed i) h = refl
commits_by_node A (Run B t) o h = refl
commits_by_node B (Run A t) o h = refl
commits_by_node n c o h = refl
