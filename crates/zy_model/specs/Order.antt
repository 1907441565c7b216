-- The order of locks: by page, then by transaction.
use Rattle.std.specs.Prelude.{◌≡◌, ℕ, ◌==◌, nat_lt, ◌≤◌, Bool, true, false, ◌&&◌, ◌||◌, List, [], ◌∷◌, length, Option}
use Rattle.std.specs.Prelude.{None, Some}
use Rattle.std.specs.List.{AllWithin}
use Rattle.zy_model.specs.declared.lock.Lock.{Lock}
use Rattle.zy_model.specs.declared.lock.LockKind.{LockKind}
use Rattle.zy_model.specs.Locks.{conflict}

-- whether a lock comes before t's lock on p: its page is lower, or it is on p and its transaction is lower
abbrev pub comes_before : Lock → ℕ → ℕ → Bool
comes_before x p t = nat_lt x.page p || ((x.page == p) && nat_lt x.txn t)

-- whether it is t's lock on p
abbrev pub is_held_by : Lock → ℕ → ℕ → Bool
is_held_by x p t = (x.page == p) && (x.txn == t)

-- locks rise, all behind this one
abbrev pub LocksBehind : Lock → List Lock → Type 0
LocksBehind x [] = Unit {0}
LocksBehind x (y ∷ ys) = (comes_before x y.page y.txn ≡ true) × LocksBehind y ys

-- locks in order, and at most one for each page and transaction
abbrev pub LocksRise : List Lock → Type 0
LocksRise [] = Unit {0}
LocksRise (x ∷ xs) = LocksBehind x xs

-- i locks come before t's lock on p, and the others do not
abbrev pub IsLockPlace : ℕ → ℕ → List Lock → ℕ → Type 0
IsLockPlace p t xs i = (i ≤ length xs) × AllWithin (λ x. comes_before x p t ≡ true) xs 0 i
    × AllWithin (λ x. comes_before x p t ≡ false) xs i (length xs)

-- where t's lock on p is or would be, if no other's lock is in the way of it
abbrev pub IsFreePlace : ℕ → ℕ → LockKind → List Lock → Option ℕ → Type 0
IsFreePlace p t kind xs None = conflict xs p t kind ≡ true
IsFreePlace p t kind xs (Some i) = (conflict xs p t kind ≡ false) × IsLockPlace p t xs i
