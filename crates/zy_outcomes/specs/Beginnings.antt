-- Who may begin: a transaction, and a migration.
use Rattle.std.specs.Prelude.{ℕ, ◌≡◌, [], false}
use Rattle.zy_isa.specs.declared.node.Node.{Node}
use Rattle.zy_isa.specs.declared.node.Node.TheVariants.{A}
use Rattle.zy_isa.specs.declared.choice.Choice.TheVariants.{Begin}
use Rattle.zy_isa.specs.declared.version.Version.TheVariants.{One}
use Rattle.zy_isa.specs.Scenario.{Scenario}
use Rattle.zy_model.specs.Families.{is_sending, is_idle}
use Rattle.zy_model.specs.declared.mode.NodeMode.TheVariants.{Empty, Normal}
use Rattle.zy_table.specs.declared.outcome.Outcome.TheVariants as outcome
use Rattle.zy_table.specs.declared.status.Status.TheVariants.{Active}
use Rattle.zy_table.specs.State.{State, Txn, facing}
use Rattle.zy_table.specs.Change.{fresh_registers}
use Rattle.zy_table.specs.Play.{step}
use Rattle.zy_outcomes.specs.Accounts.{txn_of}

-- a transaction that has just begun at n: its first instruction is next, its registers are 0, it has no private
-- row and has done nothing
abbrev pub fresh : Node → Txn
fresh n = record { status = Active; node = n; pc = 0; regs = fresh_registers; rows = []; done = 0 }

-- t begins at a node that is not idle, and hands over no page
pub record Begins (sc : Scenario) (s : State) (t : ℕ) : Type 0 where
  pub home : Node
  pub said : (step sc (Begin t) s).outcome ≡ outcome.Began home
  pub txn : txn_of (step sc (Begin t) s).after t ≡ fresh home
  pub busy : is_idle (facing home s).me.mode ≡ false
  pub keeps : is_sending (facing home s).me.mode ≡ false

-- a migration may start from n: n is Normal and the other node Empty, and in version 1 n is A
pub record MayStart (sc : Scenario) (n : Node) (s : State) : Type 0 where
  pub normal : (facing n s).me.mode ≡ Normal
  pub empty : (facing n s).them.mode ≡ Empty
  pub version : sc.version ≡ One → n ≡ A
