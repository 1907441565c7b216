-- What a transaction has seen, whether it commits or not: its lone run at its place in an order of commits.
use Rattle.std.specs.Prelude.{◌≡◌, ◌+◌, Bool, ◌<◌, ◌≤◌, ◌⊎◌, ◌++◌, ℕ, suc, List, [], ◌∷◌, Some, if◌then◌else◌, slice_get, take, true, false}
use Rattle.std.specs.FinMap.{empty}
use Rattle.zy_isa.specs.declared.choice.Choice.{Choice}
use Rattle.zy_isa.specs.declared.choice.Choice.TheVariants.{Run}
use Rattle.zy_isa.specs.declared.instr.Instr.{Instr}
use Rattle.zy_isa.specs.declared.instr.Instr.TheVariants.{Commit}
use Rattle.zy_isa.specs.Scenario.{Scenario}
use Rattle.zy_model.specs.Families.{is_source}
use Rattle.zy_table.specs.declared.entry.CommitRecord.{CommitRecord}
use Rattle.zy_table.specs.declared.outcome.Outcome.{Outcome}
use Rattle.zy_table.specs.declared.outcome.Outcome.TheVariants as outcome
use Rattle.zy_table.specs.declared.outcome.Why.TheVariants as why
use Rattle.zy_table.specs.State.{Txn, facing}
use Rattle.zy_table.specs.Change.{txn_or}
use Rattle.zy_table.specs.Client.{is_active, is_new}
use Rattle.zy_table.specs.Database.{Map, laid}
use Rattle.zy_table.specs.Play.{opening, play, step}
use Rattle.zy_table.specs.Run.{program_of}
use Rattle.zy_table.specs.Serial.{alone, gives_up, is_committed, serial}
use Rattle.zy_laws.specs.SourceFirst.{sorted}
use Rattle.zy_laws.specs.RealTime.{place, txns_after, txns_now}

-- x is on the lone run of its program from a map: after as many instructions as x did that run has not ended, and has
-- x's registers, its program counter, and its private rows over the map
pub record IsOnLoneRun (program : List Instr) (m : Map) (x : Txn) : Type 0 where
  pub on : (alone m program x.done).over ≡ false
  pub regs : (alone m program x.done).regs ≡ x.regs
  pub pc : (alone m program x.done).pc ≡ x.pc
  pub map : (alone m program x.done).map ≡ laid x.rows m

-- the lone run of x's program gives up with the instruction that comes after as many as x did
abbrev pub GivesUp : List Instr → Map → Txn → Type 0
GivesUp program m x = alone m program (x.done + 1) ≡ gives_up m (alone m program x.done)

-- an abort that the program of the transaction brings about
abbrev pub is_by_program : Outcome → Bool
is_by_program (outcome.Aborted why.Own) = true
is_by_program (outcome.Aborted why.BadKey) = true
is_by_program (outcome.Aborted why.Missing) = true
is_by_program (outcome.Aborted why.Duplicate) = true
is_by_program o = false

-- a lone run of `done` instructions ends by its commit, which is the last of them
pub record EndsByCommit (program : List Instr) (m : Map) (done : ℕ) : Type 0 where
  pub before : ℕ
  pub is : done ≡ suc before
  pub on : (alone m program before).over ≡ false
  pub last : slice_get program (alone m program before).pc ≡ Some Commit

-- each lone run of these commits, begun on the map of those before it, ends by its commit
abbrev pub AllEnd : Scenario → Map → List CommitRecord → Type 0
AllEnd sc m [] = Unit {0}
AllEnd sc m (c ∷ cs) =
    let program = program_of sc c.txn in EndsByCommit program m c.done × AllEnd sc (alone m program c.done).map cs

-- each transaction of these commits, if it was active in an earlier state, was on its lone run there, begun on the map
-- of those before it
abbrev pub AllSeen : Scenario → (ℕ → Txn) → Map → List CommitRecord → Type 0
AllSeen sc was m [] = Unit {0}
AllSeen sc was m (c ∷ cs) =
    let program = program_of sc c.txn in
    (is_active (was c.txn).status ≡ true → IsOnLoneRun program m (was c.txn)) × AllSeen sc was (alone m program c.done).map cs

-- the rows that commits leave, run one by one from the scenario's rows
abbrev pub rows_after : Scenario → List CommitRecord → Map
rows_after sc cs = serial sc (laid sc.rows empty) cs

-- the commits that stand before an active transaction t after these choices: at a source those before the migration and
-- those at the source, elsewhere all
abbrev pub commits_before : Scenario → List Choice → ℕ → List CommitRecord
commits_before sc choices t =
    let s = play sc (opening sc) choices in
    let o = sorted sc (opening sc) choices (record { first = []; later = [] }) in
    if is_source (facing (txn_or (slice_get s.txns t)).node s).me.mode then o.first else o.first ++ o.later

-- a place in an order of commits for transaction t, by what it has seen in these choices: behind the first `ahead` commits
pub record HasPlace (sc : Scenario) (choices : List Choice) (t : ℕ) (order : List CommitRecord) : Type 0 where
  pub ahead : ℕ
  -- at each point at which t was active, it was on its lone run from the rows that these commits leave
  pub seen : (n : ℕ) → let x = txns_after sc choices n t in
      is_active x.status ≡ true → IsOnLoneRun (program_of sc t) (rows_after sc (take ahead order)) x
  -- if its program makes t abort with its next instruction, that run gives up there
  pub ends : let s = play sc (opening sc) choices in let x = txns_now sc choices t in
      is_by_program (step sc (Run x.node t) s).outcome ≡ true → GivesUp (program_of sc t) (rows_after sc (take ahead order)) x
  -- who had committed before t began stands before the place
  pub begun : (n u : ℕ) → let x = txns_after sc choices n in
      is_new (x t).status ≡ true → is_committed (x u).status ≡ true → place u order < ahead
  -- who has not begun stands behind it
  pub later : (u : ℕ) → is_new (txns_now sc choices u).status ≡ true → ahead ≤ place u order
  -- the last commit before it, if there is one, has been made
  pub close : (ahead ≡ 0) ⊎ ((u : ℕ) × (is_committed (txns_now sc choices u).status ≡ true) × (ahead ≡ suc (place u order)))
