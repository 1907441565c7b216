-- When a line needs no memory: what it does has its place already, and what it sends has room.
use Rattle.std.specs.Prelude.{◌≡◌, ◌⊎◌, ℕ, ◌≤◌, List, ◌∷◌, [], length, IsSome, IfSome, None, slice_get, true, false}
use Rattle.zy_isa.specs.Limits.{max_key}
use Rattle.zy_isa.specs.Rows.{get_row}
use Rattle.zy_isa.specs.Scenario.{Scenario}
use Rattle.zy_isa.specs.declared.instr.Instr.{Instr}
use Rattle.zy_model.specs.Locks.{conflict}
use Rattle.zy_locks.specs.LockTable.{HasPlaces}
use Rattle.zy_model.specs.Table.{may_pull, may_split}
use Rattle.zy_model.specs.Wireframe.{page_of}
use Rattle.zy_table.specs.declared.effect.Effect.{Effect}
use Rattle.zy_table.specs.declared.effect.Effect.TheVariants.{Sets, Jumps, Accesses, Sums, Commits, Aborts}
use Rattle.zy_table.specs.Effects.{effect_of}
use Rattle.zy_table.specs.Numbers.{has, least}
use Rattle.zy_table.specs.Pages.{owns}
use Rattle.zy_table.specs.Ranges.{range_pages}
use Rattle.zy_table.specs.Run.{first_absent, first_taken, gone_pages, has_room, is_there, lock_of, program_of}
use Rattle.zy_table.specs.State.{Txn, Move}
use Rattle.zy_table.specs.declared.access.Access.{Access}
use Rattle.zy_table.specs.declared.access.Access.TheVariants.{Reads, Writes, Inserts}
use Rattle.zy_node.specs.declared.node_store.NodeStore.{NodeStore}
use Rattle.zy_node.specs.Nodes.{node_shown}
use Rattle.zy_node.specs.Wireframes.{lows_in}
use Rattle.zy_txns.specs.Books.{Ledger, txn_in}

-- a line of n push, n finish or n take: it sends nothing, or there is room for the message
abbrev pub SendNeedsNone : NodeStore → Move → Type 0
SendNeedsNone x m = (m.sent ≡ None) ⊎ (1 ≤ x.outbox.spare)

-- page p is not here: no page is pulled, or p is asked for already, or there is room for the message
abbrev pub AbsentNeedsNone : ℕ → NodeStore → Type 0
AbsentNeedsNone p x = (may_pull x.mode ≡ false) ⊎ (has x.asked p ≡ true) ⊎ (1 ≤ x.outbox.spare)

-- a full page is not cut: the mode forbids it, or there are as many pages as may be
abbrev pub IsUncut : Scenario → NodeStore → Type 0
IsUncut sc x = (may_split x.mode ≡ false) ⊎ (sc.pages ≤ length (lows_in x.wire))

-- page p is free for t's access to k: t's lock on p has a place, and a row goes over a private one; or t aborts
abbrev pub AccessNeedsNone : Scenario → ℕ → Access → ℕ → ℕ → NodeStore → Txn → Type 0
AccessNeedsNone sc t (Reads r) k p x y = HasPlaces (p ∷ []) t x.locks
AccessNeedsNone sc t (Writes v) k p x y = (is_there k p (node_shown x) y ≡ false)
    ⊎ (HasPlaces (p ∷ []) t x.locks × IsSome (get_row y.rows k))
AccessNeedsNone sc t (Inserts v) k p x y = (is_there k p (node_shown x) y ≡ true)
    ⊎ ((has_room sc p (node_shown x) y ≡ false) × IsUncut sc x)

-- t's access to k on page p; where another's lock is in the way t waits
pub record PageNeedsNone (sc : Scenario) (t : ℕ) (access : Access) (k p : ℕ) (x : NodeStore) (b : Ledger) : Type 0 where
  pub absent : owns x.pages p ≡ false → AbsentNeedsNone p x
  pub free : owns x.pages p ≡ true → conflict x.locks.locks p t (lock_of access) ≡ false
      → AccessNeedsNone sc t access k p x (txn_in t b)

-- t's access to k, if that is a key
abbrev pub KeyNeedsNone : Scenario → ℕ → Access → ℕ → NodeStore → Ledger → Type 0
KeyNeedsNone sc t access k x b = k ≤ max_key → PageNeedsNone sc t access k (page_of (lows_in x.wire) k) x b

-- t's sum over the keys from a to b: t's locks on their pages have places
pub record PagesNeedNone (t a b : ℕ) (x : NodeStore) : Type 0 where
  pub absent : IfSome (first_absent x.pages (range_pages (lows_in x.wire) a b)) (λ p. AbsentNeedsNone p x)
  pub free : first_taken x.locks.locks t (range_pages (lows_in x.wire) a b) ≡ None
      → HasPlaces (range_pages (lows_in x.wire) a b) t x.locks

-- the same, if these are keys
abbrev pub SumNeedsNone : ℕ → ℕ → ℕ → NodeStore → Type 0
SumNeedsNone t a b x = a ≤ b → b ≤ max_key → PagesNeedNone t a b x

-- t's commit: a page of its rows has gone, or there is room to note the commit
abbrev pub CommitNeedsNone : ℕ → NodeStore → Ledger → Type 0
CommitNeedsNone t x b = IsSome (least (gone_pages (node_shown x) (txn_in t b).rows)) ⊎ (1 ≤ b.spare)

-- an effect of t
abbrev pub EffectNeedsNone : Scenario → ℕ → Effect → NodeStore → Ledger → Type 0
EffectNeedsNone sc t (Sets r v) x b = Unit {0}
EffectNeedsNone sc t (Jumps taken to) x b = Unit {0}
EffectNeedsNone sc t (Accesses access k) x b = KeyNeedsNone sc t access k x b
EffectNeedsNone sc t (Sums r first last) x b = SumNeedsNone t first last x
EffectNeedsNone sc t Commits x b = CommitNeedsNone t x b
EffectNeedsNone sc t Aborts x b = Unit {0}

-- an instruction of t
abbrev pub InstrNeedsNone : Scenario → ℕ → Instr → List ℕ → NodeStore → Ledger → Type 0
InstrNeedsNone sc t i regs x b = EffectNeedsNone sc t (effect_of i regs) x b

-- the next instruction of t
abbrev pub RunNeedsNone : Scenario → ℕ → NodeStore → Ledger → Type 0
RunNeedsNone sc t x b =
    let y = txn_in t b in IfSome (slice_get (program_of sc t) y.pc) (λ (i : Instr). InstrNeedsNone sc t i y.regs x b)
