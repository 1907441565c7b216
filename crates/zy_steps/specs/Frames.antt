-- What a step leaves as it was, seen from the node whose side it is made from.
use Rattle.std.specs.Prelude.{ℕ, ◌≡◌, ◌⊎◌, ◌++◌, List, [], ◌∷◌, length, Bool, true, false}
use Rattle.zy_model.specs.declared.lock.Lock.{Lock}
use Rattle.zy_table.specs.declared.outcome.Outcome.{Outcome}
use Rattle.zy_table.specs.declared.outcome.Outcome.TheVariants.{Did, Aborted}
use Rattle.zy_table.specs.State.{View, Txn, with_me}
use Rattle.zy_table.specs.Change.{txn_at, with_txn}

-- ---- any step

-- the same list, or with one more at its end
abbrev pub OneMore : {T : Type 0} → List T → List T → Type 0
OneMore {T} old new = (new ≡ old) ⊎ ((x : T) × (new ≡ old ++ x ∷ []))

-- the same list, or without its first
abbrev pub OneLess : {T : Type 0} → List T → List T → Type 0
OneLess {T} old new = (new ≡ old) ⊎ ((x : T) × (old ≡ x ∷ new))

-- all transactions but t are as they were
pub record AllBut (t : ℕ) (old new : View) : Type 0 where
  pub many : length new.txns ≡ length old.txns
  pub others : (u : ℕ) → (u ≡ t → ⊥) → txn_at new u ≡ txn_at old u

-- The other node is as it was. At most the first message that came in is gone, at most one more goes out, and there is at
-- most one commit more. Of the transactions at most one is another.
pub record LeavesTheRest (old new : View) : Type 0 where
  pub them : new.them ≡ old.them
  pub inbox : OneLess old.inbox new.inbox
  pub outbox : OneMore old.outbox new.outbox
  pub commits : OneMore old.commits new.commits
  pub txn : ℕ
  pub txns : AllBut txn old new

-- ---- a run that changes no page

-- an instruction was done that leaves the pages as they are, or the transaction aborts
abbrev pub is_by_itself : Outcome → Bool
is_by_itself Did = true
is_by_itself (Aborted why) = true
is_by_itself o = false

-- t and the locks of its node may be others; all else is as it was
abbrev pub TxnAndLocks : ℕ → View → View → Type 0
TxnAndLocks t old new =
    (x : Txn) × (locks : List Lock) × (new ≡ with_me (record old.me { locks = locks }) (with_txn t x old))

-- the new view with t and the locks of the old one
abbrev pub taken_back : ℕ → View → View → View
taken_back t old new = with_me (record new.me { locks = old.me.locks }) (with_txn t (txn_at old t) new)
