-- The conditions of each line of the table that changes something, and what the lines write.
use Rattle.std.proofs.Common.{◌≡◌, ℕ, ◌+◌, List, ◌∷◌, length, true, false}
use Rattle.std.specs.Prelude.{Bool, if◌then◌else◌, ◌&&◌, nat_lt, nat_le, Some, None, slice_get}
use Rattle.zy_isa.specs.declared.version.Version.TheVariants.{One}
use Rattle.zy_model.specs.Families.{is_sending}
use Rattle.zy_isa.specs.declared.node.Node.{Node}
use Rattle.zy_isa.specs.declared.node.Node.TheVariants.{A}
use Rattle.zy_isa.specs.declared.instr.Reg.{Reg}
use Rattle.zy_isa.specs.declared.instr.Instr.{Instr}
use Rattle.zy_isa.specs.Rows.{put_row}
use Rattle.zy_isa.specs.Scenario.{Scenario}
use Rattle.zy_model.specs.declared.lock.LockKind.{LockKind}
use Rattle.zy_model.specs.declared.lock.LockKind.TheVariants.{Shared, Exclusive}
use Rattle.zy_model.specs.Locks.{conflict, is_locked}
use Rattle.zy_model.specs.declared.mode.NodeMode.{NodeMode}
use Rattle.zy_model.specs.declared.mode.NodeMode.TheVariants.{Empty, Normal, SDual, SFinish, DDual, DFinish}
use Rattle.zy_model.specs.Table.{home_of, may_split, may_pull, is_waiting}
use Rattle.zy_model.specs.Messages.{Wire, Pull, Page, Finish}
use Rattle.zy_table.specs.declared.outcome.Why.{Why}
use Rattle.zy_table.specs.State.{View, Leaf, Message, Txn, with_me}
use Rattle.zy_model.specs.Wireframe.{page_of}
use Rattle.zy_table.specs.Numbers.{has, least}
use Rattle.zy_table.specs.Pages.{owns}
use Rattle.zy_table.specs.Change.{did, txn_at, locked, shares, with_reg, with_arrived}
use Rattle.zy_table.specs.Client.{is_new, is_active}
use Rattle.zy_table.specs.declared.access.Access.TheVariants as access
use Rattle.zy_table.specs.declared.effect.Effect.TheVariants as effect
use Rattle.zy_table.specs.declared.effect.Effect.{Effect}
use Rattle.zy_table.specs.Effects.{effect_of}
use Rattle.zy_table.specs.Run.{program_of, gone_pages}
use Rattle.zy_table.specs.Run.{is_there, has_room}
use Rattle.zy_table.specs.Run.{value_for}
use Rattle.zy_table.specs.Ranges.{range, range_pages, total}
use Rattle.zy_table.specs.declared.access.Access.TheVariants.{Reads}
use Rattle.zy_table.specs.Take.{is_held, all_here}
use Rattle.zy_table.specs.Push.{active_from}
use Rattle.zy_laws.proofs.walk.Txns.{IsAt}
use Rattle.zy_isa.specs.Limits.{max_key}

-- t runs at n, and e is what its next instruction does
pub record Runs (sc : Scenario) (n : Node) (t : ℕ) (e : Effect) (v : View) : Type 0 where
  pub instr : Instr
  pub active : is_active (txn_at v t).status ≡ true
  pub here : (txn_at v t).node ≡ n
  pub begun : is_waiting v.me.mode ≡ false
  pub next : slice_get (program_of sc t) (txn_at v t).pc ≡ Some instr
  pub does : effect_of instr (txn_at v t).regs ≡ e

-- t is at n where it runs
abbrev pub is_at : {sc : Scenario} {n : Node} {t : ℕ} {e : Effect} {v : View} → Runs sc n t e v → IsAt v t n
is_at runs = (runs.active, runs.here)

-- where an effect that needs no page leaves a transaction: its program counter and its registers
pub data Leads (e : Effect) (x : Txn) (pc : ℕ) (regs : List ℕ) : Type 0 where
  BySet : (r : Reg) (value : ℕ) → e ≡ effect.Sets r value → pc ≡ x.pc + 1 → regs ≡ with_reg r value x.regs → Leads e x pc regs
  ByJump : (taken : Bool) (to : ℕ) → e ≡ effect.Jumps taken to → pc ≡ (if taken then to else x.pc + 1) → regs ≡ x.regs → Leads e x pc regs
  BySum : (r : Reg) (first last : ℕ) → e ≡ effect.Sums r first last → nat_lt last first ≡ true → pc ≡ x.pc + 1 → regs ≡ with_reg r 0 x.regs → Leads e x pc regs

-- the key's page is here, and nobody's lock is in the way
pub record Free (t k : ℕ) (kind : LockKind) (v : View) : Type 0 where
  pub small : nat_lt max_key k ≡ false
  pub here : owns v.me.pages (page_of v.me.lows k) ≡ true
  pub free : conflict v.me.locks (page_of v.me.lows k) t kind ≡ false

-- t has a lock of this kind on the page of key k
abbrev pub has_lock : ℕ → ℕ → LockKind → View → View
has_lock t k kind v = locked t (page_of v.me.lows k) kind v

-- the page of key k by my wireframe
abbrev pub page : ℕ → View → ℕ
page k v = page_of v.me.lows k

-- t puts a private row, with its page locked
abbrev pub puts : ℕ → ℕ → ℕ → View → View
puts t k x v = did t ((txn_at v t).pc + 1) (txn_at v t).regs (put_row k x (txn_at v t).rows) (has_lock t k Exclusive v)

-- what t reads at a key
abbrev pub value_at : ℕ → ℕ → View → ℕ
value_at t k v = value_for (txn_at v t) v.me k

-- the keys from a to b are keys, their pages are here, and nobody's lock is in the way of sharing them
pub record FreeRange (t a b : ℕ) (v : View) : Type 0 where
  pub rises : nat_lt b a ≡ false
  pub small : nat_lt max_key b ≡ false
  pub here : (p : ℕ) → has (range_pages v.me.lows a b) p ≡ true → owns v.me.pages p ≡ true
  pub free : (p : ℕ) → has (range_pages v.me.lows a b) p ≡ true → conflict v.me.locks p t Shared ≡ false

-- t has shared locks on the pages of the keys a to b
abbrev pub has_locks : ℕ → ℕ → ℕ → View → View
has_locks t a b v = shares t (range_pages v.me.lows a b) v

-- what t reads at the keys from a to b, together
abbrev pub sum_at : ℕ → ℕ → ℕ → View → ℕ
sum_at t a b v = total (value_for (txn_at v t) v.me) (range a b)

-- the view without the front of its inbox
abbrev pub rest : View → List Message → View
rest v ms = record v { inbox = ms }

-- a page comes to a node
abbrev pub arrived : Leaf → View → View
arrived leaf v = with_me (with_arrived leaf v.me) v

-- t begins at the node that is home
pub record Beginning (n : Node) (v : View) : Type 0 where
  pub txn : ℕ
  pub home : Node
  pub at_a : n ≡ A
  pub new : is_new (txn_at v txn).status ≡ true
  pub home_is : home_of v.me.mode v.them.mode ≡ Some home

-- t, which runs at n, aborts
pub record Aborting (n : Node) (v : View) : Type 0 where
  pub txn : ℕ
  pub cause : Why
  pub active : is_active (txn_at v txn).status ≡ true
  pub here : (txn_at v txn).node ≡ n

-- t's next instruction needs no page
pub record Going (sc : Scenario) (n : Node) (v : View) : Type 0 where
  pub txn : ℕ
  pub act : Effect
  pub pc : ℕ
  pub regs : List ℕ
  pub runs : Runs sc n txn act v
  pub leads : Leads act (txn_at v txn) pc regs

-- t reads a key
pub record Getting (sc : Scenario) (n : Node) (v : View) : Type 0 where
  pub txn : ℕ
  pub register : Reg
  pub key : ℕ
  pub runs : Runs sc n txn (effect.Accesses (Reads register) key) v
  pub free : Free txn key Shared v

-- t adds up the keys from the first to the last
pub record Summing (sc : Scenario) (n : Node) (v : View) : Type 0 where
  pub txn : ℕ
  pub register : Reg
  pub first : ℕ
  pub last : ℕ
  pub runs : Runs sc n txn (effect.Sums register first last) v
  pub free : FreeRange txn first last v

-- t writes a key that is there
pub record Writing (sc : Scenario) (n : Node) (v : View) : Type 0 where
  pub txn : ℕ
  pub key : ℕ
  pub value : ℕ
  pub runs : Runs sc n txn (effect.Accesses (access.Writes value) key) v
  pub free : Free txn key Exclusive v
  pub there : is_there key (page key v) v.me (txn_at v txn) ≡ true

-- t inserts a key that is not there
pub record Inserting (sc : Scenario) (n : Node) (v : View) : Type 0 where
  pub txn : ℕ
  pub key : ℕ
  pub value : ℕ
  pub runs : Runs sc n txn (effect.Accesses (access.Inserts value) key) v
  pub free : Free txn key Exclusive v
  pub absent : is_there key (page key v) v.me (txn_at v txn) ≡ false

-- t inserts a key on a page that has room
pub record Placing (sc : Scenario) (n : Node) (v : View) : Type 0 where
  pub insert : Inserting sc n v
  pub open insert use *
  pub room : has_room sc (page key v) v.me (txn_at v txn) ≡ true

-- t cuts a full page for the key that it inserts
pub record Splitting (sc : Scenario) (n : Node) (v : View) : Type 0 where
  pub insert : Inserting sc n v
  pub open insert use *
  pub full : has_room sc (page key v) v.me (txn_at v txn) ≡ false
  pub normal : may_split v.me.mode ≡ true
  pub pages : nat_le sc.pages (length v.me.lows) ≡ false

-- t commits
pub record Committing (sc : Scenario) (n : Node) (v : View) : Type 0 where
  pub txn : ℕ
  pub runs : Runs sc n txn effect.Commits v
  pub none_gone : least (gone_pages v.me (txn_at v txn).rows) ≡ None

-- a page is asked for
pub record Asking (v : View) : Type 0 where
  pub page : ℕ
  pub gone : owns v.me.pages page ≡ false
  pub pulls : may_pull v.me.mode ≡ true
  pub unasked : has v.me.asked page ≡ false

-- a migration starts
pub record Starting (sc : Scenario) (n : Node) (v : View) : Type 0 where
  pub at_a : sc.version ≡ One → n ≡ A
  pub normal : v.me.mode ≡ Normal
  pub empty : v.them.mode ≡ Empty

-- the front of the inbox, and what is behind it
pub record Front (message : Message) (v : View) : Type 0 where
  pub after : List Message
  pub front : v.inbox ≡ message ∷ after

-- a message is taken in this mode
pub record Taking (message : Message) (in_mode : NodeMode) (v : View) : Type 0 where
  pub taken : Front message v
  pub open taken use *
  pub mode : v.me.mode ≡ in_mode

-- a wireframe is taken
pub record Wired (v : View) : Type 0 where
  pub lows : List ℕ
  pub taken : Front (Wire lows) v
  pub open taken use *
  pub empty : v.me.mode ≡ Empty

-- a pull of a page is taken
pub record Pulled (v : View) : Type 0 where
  pub page : ℕ
  pub taken : Front (Pull page) v
  pub open taken use *

-- a pull is taken of a page that is here and free to go
pub record Giving (sc : Scenario) (v : View) : Type 0 where
  pub pull : Pulled v
  pub open pull use *
  pub sends : is_sending v.me.mode ≡ true
  pub own : owns v.me.pages pull.page ≡ true
  pub free : (is_held sc.rule && is_locked v.me.locks pull.page) ≡ false

-- a page is taken, which is not the last one that DFinish waits for
pub record Paged (v : View) : Type 0 where
  pub leaf : Leaf
  pub taken : Front (Page leaf) v
  pub open taken use *
  pub pulls : may_pull v.me.mode ≡ true
  pub lacks : v.me.mode ≡ DFinish → all_here (with_arrived leaf v.me) ≡ false

-- the last page is taken
pub record PagedLast (v : View) : Type 0 where
  pub leaf : Leaf
  pub taken : Front (Page leaf) v
  pub open taken use *
  pub mode : v.me.mode ≡ DFinish
  pub all : all_here (with_arrived leaf v.me) ≡ true

-- a finish is taken, with a page missing
pub record FinishedPart (v : View) : Type 0 where
  pub take : Taking Finish DDual v
  pub open take use *
  pub lacks : all_here v.me ≡ false

-- a finish is taken, with all pages here
pub record FinishedWhole (v : View) : Type 0 where
  pub take : Taking Finish DDual v
  pub open take use *
  pub all : all_here v.me ≡ true

-- nobody runs at n, whose dual mode ends
pub record EndingDual (n : Node) (v : View) : Type 0 where
  pub dual : v.me.mode ≡ SDual
  pub idle : active_from n 0 v.txns ≡ None

-- a page is sent unasked
pub record Pushing (v : View) : Type 0 where
  pub page : ℕ
  pub finish : v.me.mode ≡ SFinish
  pub own : owns v.me.pages page ≡ true
