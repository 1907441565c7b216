-- Strict serializability, with what each transaction has seen while it was active.
use Rattle.std.specs.Prelude.{◌≡◌, ℕ, List, take, true}
use Rattle.std.specs.FinMap.{empty}
use Rattle.zy_isa.specs.Scenario.{Scenario}
use Rattle.zy_isa.specs.declared.choice.Choice.{Choice}
use Rattle.zy_table.specs.Client.{is_active}
use Rattle.zy_table.specs.Database.{laid}
use Rattle.zy_table.specs.Play.{opening, play}
use Rattle.zy_laws.specs.RealTime.{IsStable, KeepsRealTime, txns_after}
use Rattle.zy_laws.specs.SourceFirst.{SerialIn, migration_order}
use Rattle.zy_laws.specs.Views.{AllEnd, AllSeen, HasPlace}

-- opacity's condition on each transaction (no order of all transactions is given): whoever is active after some of the
-- choices, even if it aborts later, has a place in the migration order of all, by what it has seen until then
abbrev pub AllPlaced : Scenario → List Choice → Type 0
AllPlaced sc choices = (n t : ℕ) → is_active (txns_after sc choices n t).status ≡ true
    → HasPlace sc (take n choices) t (migration_order sc choices)

-- the run of these choices is strictly serializable, in the migration order
pub record StrictlySerializable (sc : Scenario) (choices : List Choice) : Type 0 where
  -- database and registers are those of the committed transactions, run one by one in this order
  pub serial : SerialIn (migration_order sc choices) sc (play sc (opening sc) choices)
  -- each of these lone runs ends by its commit
  pub ended : AllEnd sc (laid sc.rows empty) (migration_order sc choices)
  -- view equivalence, by values: each committed transaction was on its lone run at each point at which it was active
  pub seen : (n : ℕ) → AllSeen sc (txns_after sc choices n) (laid sc.rows empty) (migration_order sc choices)
  pub placed : AllPlaced sc choices
  pub real_time : KeepsRealTime sc choices
  pub stable : IsStable sc choices
