-- Why a choice has come to nothing: what is so at the node that acts, where the outcome says that it is.
use Rattle.std.specs.Prelude.{ℕ, ◌≡◌, ◌≤◌, ◌⊎◌, nat_lt, Bool, true, false, length, Some, is_some, slice_get}
use Rattle.zy_isa.specs.Limits.{max_key}
use Rattle.zy_isa.specs.Rows.{get_row}
use Rattle.zy_isa.specs.Scenario.{Scenario}
use Rattle.zy_isa.specs.declared.choice.Choice.{Choice}
use Rattle.zy_isa.specs.declared.choice.Choice.TheVariants.{Kill, Run, Take, Finish}
use Rattle.zy_isa.specs.declared.instr.Instr.{Instr}
use Rattle.zy_isa.specs.declared.node.Node.{Node}
use Rattle.zy_isa.specs.declared.rule.Rule.TheVariants as rule
use Rattle.zy_model.specs.Locks.{conflict, is_locked}
use Rattle.zy_model.specs.Messages.{Pull}
use Rattle.zy_model.specs.Table.{may_pull, may_split}
use Rattle.zy_model.specs.Wireframe.{page_of}
use Rattle.zy_model.specs.declared.lock.LockKind.{LockKind}
use Rattle.zy_model.specs.declared.lock.LockKind.TheVariants.{Shared}
use Rattle.zy_model.specs.declared.mode.NodeMode.TheVariants.{DInit}
use Rattle.zy_table.specs.declared.access.Access.{Access}
use Rattle.zy_table.specs.declared.access.Access.TheVariants.{Writes, Inserts}
use Rattle.zy_table.specs.declared.effect.Effect.{Effect}
use Rattle.zy_table.specs.declared.effect.Effect.TheVariants.{Accesses, Sums, Commits, Aborts}
use Rattle.zy_table.specs.declared.outcome.Outcome.{Outcome}
use Rattle.zy_table.specs.declared.outcome.Outcome.TheVariants.{Aborted, Active, Awaits, Held, NotYet, Pulls, Stale, Waits}
use Rattle.zy_table.specs.declared.outcome.Why.{Why}
use Rattle.zy_table.specs.declared.outcome.Why.TheVariants as why
use Rattle.zy_table.specs.Change.{txn_at}
use Rattle.zy_table.specs.Client.{is_active}
use Rattle.zy_table.specs.Effects.{effect_of}
use Rattle.zy_table.specs.Numbers.{has}
use Rattle.zy_table.specs.Pages.{owns}
use Rattle.zy_table.specs.Ranges.{range_pages}
use Rattle.zy_table.specs.Run.{has_room, is_there, lock_of, program_of}
use Rattle.zy_table.specs.State.{NodeState, State, View}
use Rattle.zy_outcomes.specs.Accounts.{txn_of}

-- t runs at n
abbrev pub RunsAt : View → ℕ → Node → Type 0
RunsAt v t n = (is_active (txn_at v t).status ≡ true) × ((txn_at v t).node ≡ n)

-- the next instruction of t does e
abbrev pub Next : Scenario → ℕ → View → Effect → Type 0
Next sc t v e = (i : Instr) × (slice_get (program_of sc t) (txn_at v t).pc ≡ Some i) × (effect_of i (txn_at v t).regs ≡ e)

-- an effect needs page p, with a lock of this kind
abbrev pub Needs : NodeState → ℕ → LockKind → Effect → Type 0
Needs n p kind (Accesses i k) = (page_of n.lows k ≡ p) × (lock_of i ≡ kind)
Needs n p kind (Sums r a b) = (has (range_pages n.lows a b) p ≡ true) × (kind ≡ Shared)
Needs n p kind e = ⊥

-- the choice runs t at n, whose next instruction needs page p, with a lock of this kind
pub record Wants (sc : Scenario) (n : Node) (v : View) (c : Choice) (p t : ℕ) (kind : LockKind) : Type 0 where
  pub run : c ≡ Run n t
  pub does : Effect
  pub next : Next sc t v does
  pub needs : Needs v.me p kind does

-- an effect is at a key that is none
abbrev pub HasBadKey : Effect → Type 0
HasBadKey (Accesses i k) = nat_lt max_key k ≡ true
HasBadKey (Sums r a b) = (nat_lt b a ≡ false) × (nat_lt max_key b ≡ true)
HasBadKey e = ⊥

-- t's next instruction is at a key that has a row, private or on its page, or has none
abbrev pub Finds : Scenario → ℕ → View → (ℕ → Access) → Bool → Type 0
Finds sc t v access there =
    (k x : ℕ) × Next sc t v (Accesses (access x) k) × (is_there k (page_of v.me.lows k) v.me (txn_at v t) ≡ there)

-- t inserts a new key on page p, which is full
abbrev pub FindsFull : Scenario → ℕ → View → ℕ → Type 0
FindsFull sc t v p =
    (k x : ℕ) × Next sc t v (Accesses (Inserts x) k) × (page_of v.me.lows k ≡ p)
    × (is_there k p v.me (txn_at v t) ≡ false) × (has_room sc p v.me (txn_at v t) ≡ false)

-- t commits, and has a private row on page p
abbrev pub CommitsOn : Scenario → ℕ → View → ℕ → Type 0
CommitsOn sc t v p =
    (k : ℕ) × Next sc t v Commits × (is_some (get_row (txn_at v t).rows k) ≡ true) × (page_of v.me.lows k ≡ p)

-- what is so where choice c aborts t, which runs at n, for this cause
abbrev pub HasCause : Scenario → Node → View → Choice → ℕ → Why → Type 0
HasCause sc n v c t why.Killed = c ≡ Kill t
HasCause sc n v c t why.Own = (c ≡ Run n t) × Next sc t v Aborts
HasCause sc n v c t why.BadKey = (e : Effect) × (c ≡ Run n t) × Next sc t v e × HasBadKey e
HasCause sc n v c t why.Missing = (c ≡ Run n t) × Finds sc t v Writes false
HasCause sc n v c t why.Duplicate = (c ≡ Run n t) × Finds sc t v Inserts true
HasCause sc n v c t (why.Frozen p) = (c ≡ Run n t) × FindsFull sc t v p × (may_split v.me.mode ≡ false)
HasCause sc n v c t why.NoPage =
    (p : ℕ) × (c ≡ Run n t) × FindsFull sc t v p × (may_split v.me.mode ≡ true) × (sc.pages ≤ length v.me.lows)
HasCause sc n v c t (why.Gone p) =
    (owns v.me.pages p ≡ false)
    × (((kind : LockKind) × Wants sc n v c p t kind × (may_pull v.me.mode ≡ false)) ⊎ ((c ≡ Run n t) × CommitsOn sc t v p))

-- the front of the inbound link asks for page p
abbrev pub IsAsked : View → ℕ → Type 0
IsAsked v p = slice_get v.inbox 0 ≡ Some (Pull p)

-- the reason of an outcome: a condition that holds whenever node n gives this outcome
abbrev pub HasReason : Scenario → Node → View → Choice → Outcome → Type 0
HasReason sc n v c (Waits p) =
    (t : ℕ) × (kind : LockKind) × Wants sc n v c p t kind × (owns v.me.pages p ≡ true) × (conflict v.me.locks p t kind ≡ true)
HasReason sc n v c (Pulls p) =
    (t : ℕ) × (kind : LockKind) × Wants sc n v c p t kind × (owns v.me.pages p ≡ false) × (may_pull v.me.mode ≡ true)
    × (has v.me.asked p ≡ false)
HasReason sc n v c (Awaits p) =
    (t : ℕ) × (kind : LockKind) × Wants sc n v c p t kind × (owns v.me.pages p ≡ false) × (may_pull v.me.mode ≡ true)
    × (has v.me.asked p ≡ true)
HasReason sc n v c NotYet = (t : ℕ) × (c ≡ Run n t) × RunsAt v t n × (v.me.mode ≡ DInit)
HasReason sc n v c (Aborted y) = (t : ℕ) × RunsAt v t n × HasCause sc n v c t y
HasReason sc n v c (Active t) = (c ≡ Finish n) × RunsAt v t n × ((u : ℕ) → RunsAt v u n → t ≤ u)
HasReason sc n v c (Held p) =
    (c ≡ Take n) × IsAsked v p × (sc.rule ≡ rule.Held) × (owns v.me.pages p ≡ true) × (is_locked v.me.locks p ≡ true)
HasReason sc n v c (Stale p) = (c ≡ Take n) × IsAsked v p × (owns v.me.pages p ≡ false)
HasReason sc n v c o = Unit {0}

-- t alone is active
abbrev pub IsAlone : State → ℕ → Type 0
IsAlone s t = (u : ℕ) → is_active (txn_of s u).status ≡ true → u ≡ t
