-- The locks of a node and the room for more, and what an attempt to lock a page does.
use Rattle.std.specs.Prelude.{◌≡◌, ◌≤◌, ℕ, length, true, false, List}
use Rattle.zy_locks.specs.declared.attempt.Attempt.{Attempt}
use Rattle.zy_locks.specs.declared.attempt.Attempt.TheVariants.{Granted, Conflict, Memory}
use Rattle.zy_model.specs.declared.lock.Lock.{Lock}
use Rattle.zy_model.specs.declared.lock.LockKind.{LockKind}
use Rattle.zy_model.specs.Locks.{add_lock, conflict, holds, unheld}

-- the locks in order, and how many more there is memory for
pub record LockTable : Type 0 where
  pub locks : List Lock
  pub spare : ℕ

-- t's locks on these pages have places: t has them, or there is memory for them
abbrev pub HasPlaces : List ℕ → ℕ → LockTable → Type 0
HasPlaces ps t x = length (unheld ps t x.locks) ≤ x.spare

-- an attempt of t to lock p
abbrev pub Attempts : ℕ → ℕ → LockKind → LockTable → LockTable → Attempt → Type 0
Attempts p t kind old new Granted = (conflict old.locks p t kind ≡ false) × (new.locks ≡ add_lock p t kind old.locks)
Attempts p t kind old new Conflict = (conflict old.locks p t kind ≡ true) × (new ≡ old)
Attempts p t kind old new Memory = (conflict old.locks p t kind ≡ false) × (holds old.locks p t ≡ false)
    × (old.spare ≡ 0) × (new ≡ old)
