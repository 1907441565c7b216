-- A way out of each state: choices that end its migration. It is not said that anybody makes them.
use Rattle.std.specs.Prelude.{ℕ, zero, suc, ◌+◌, ◌≡◌, List, [], ◌∷◌, ◌++◌, length, if◌then◌else◌, Option, Some, None, Bool, true, false}
use Rattle.std.specs.Prelude.{slice_get}
use Rattle.zy_isa.specs.declared.node.Node.{Node}
use Rattle.zy_isa.specs.declared.node.Node.TheVariants.{A, B}
use Rattle.zy_isa.specs.declared.choice.Choice.{Choice}
use Rattle.zy_isa.specs.declared.choice.Choice.TheVariants.{Kill, Take, Finish, Push}
use Rattle.zy_isa.specs.Scenario.{Scenario}
use Rattle.zy_model.specs.Families.{is_source}
use Rattle.zy_model.specs.declared.mode.NodeMode.{NodeMode}
use Rattle.zy_model.specs.declared.mode.NodeMode.TheVariants.{Empty, Normal, SDual, SFinish}
use Rattle.zy_table.specs.State.{State, Txn, Message, facing}
use Rattle.zy_table.specs.Change.{txn_or}
use Rattle.zy_table.specs.Client.{is_active}
use Rattle.zy_table.specs.Database.{database}
use Rattle.zy_table.specs.Play.{opening, play, step}
use Rattle.zy_laws.specs.Between.{NothingLeft}

-- a kill of each active transaction of these, in order; the first of them is number t
abbrev pub kills : ℕ → List Txn → List Choice
kills t [] = []
kills t (x ∷ xs) = if is_active x.status then Kill t ∷ kills (t + 1) xs else kills (t + 1) xs

-- what comes next, by the links from A to B and back and by the modes of A and B: a message is taken, and if there is
-- none, a node in SDual finishes and one in SFinish pushes
abbrev pub next_by : List Message → List Message → NodeMode → NodeMode → Option Choice
next_by (m ∷ ms) ba a b = Some (Take B)
next_by [] (m ∷ ms) a b = Some (Take A)
next_by [] [] SDual b = Some (Finish A)
next_by [] [] SFinish b = Some (Push A)
next_by [] [] a SDual = Some (Finish B)
next_by [] [] a SFinish = Some (Push B)
next_by [] [] a b = None

-- what comes next in a state
abbrev pub next : State → Option Choice
next s = next_by s.ab s.ba s.a.mode s.b.mode

-- a choice, if there is one, and those behind it
abbrev pub led_by : Option Choice → (Choice → List Choice) → List Choice
led_by None more = []
led_by (Some c) more = c ∷ more c

-- from a state on what comes next, as long as something does, but no more choices than this
abbrev pub onward : Scenario → ℕ → State → List Choice
onward sc zero s = []
onward sc (suc n) s = led_by (next s) (λ c. onward sc n (step sc c s).after)

-- as many as there can be: two for each page, one for each message, and ten
abbrev pub enough : State → ℕ
enough s =
    let pages = length s.a.pages + length s.b.pages in (pages + pages) + (length s.ab + length s.ba) + 10

-- the way out: each active transaction is killed, and then the next step is made, until there is none
abbrev pub way_out : Scenario → State → List Choice
way_out sc s = let killed = kills 0 s.txns in let after = play sc s killed in killed ++ onward sc (enough after) after

-- no transaction is active
abbrev pub NoneActive : State → Type 0
NoneActive s = (t : ℕ) → is_active (txn_or (slice_get s.txns t)).status ≡ false

-- a migration is over: one node is Empty and the other Normal, nothing is left, and no transaction is active
pub record Over (s : State) : Type 0 where
  pub empty : Node
  pub modes : ((facing empty s).me.mode ≡ Empty) × ((facing empty s).them.mode ≡ Normal)
  pub left : NothingLeft empty (facing empty s)
  pub idle : NoneActive s

-- a state, and one in which its migration has ended: it is over, the node that was its source is the empty one, and
-- commits and database are as they were
pub record Ended (s later : State) : Type 0 where
  pub over : Over later
  pub source : (n : Node) → is_source (facing n s).me.mode ≡ true → over.empty ≡ n
  pub commits : later.commits ≡ s.commits
  pub rows : database later ≡ database s

-- after these choices the migration can be ended: the way out does
unfoldable pub CanEnd : Scenario → List Choice → Type 0
CanEnd sc choices = let s = play sc (opening sc) choices in Ended s (play sc s (way_out sc s))

-- a migration step: a take, a finish or a push, which a node does of itself
abbrev pub is_migration_step : Choice → Bool
is_migration_step (Take n) = true
is_migration_step (Finish n) = true
is_migration_step (Push n) = true
is_migration_step c = false

-- each of these is a migration step, and changes the state that those before it lead to
abbrev pub EachActs : Scenario → State → List Choice → Type 0
EachActs sc s [] = Unit {0}
EachActs sc s (c ∷ cs) = (is_migration_step c ≡ true) × ((step sc c s).after ≡ s → ⊥) × EachActs sc (step sc c s).after cs

-- no migration step would change the state
abbrev pub NoneActs : Scenario → State → Type 0
NoneActs sc s = (c : Choice) → is_migration_step c ≡ true → (step sc c s).after ≡ s
