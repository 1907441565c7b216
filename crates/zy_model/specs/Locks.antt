-- The locks of one node as a list, in order of page and then transaction.
use Rattle.std.specs.Prelude.{◌≡◌, ℕ, ◌==◌, nat_lt, List, [], ◌∷◌, Bool, true, false, ◌&&◌, ◌||◌, not, if◌then◌else◌}
use Rattle.std.specs.Prelude.{filter}
use Rattle.std.specs.List.{list_any}
use Rattle.zy_model.specs.declared.lock.Lock.{Lock}
use Rattle.zy_model.specs.declared.lock.LockKind.{LockKind}
use Rattle.zy_model.specs.declared.lock.LockKind.TheVariants.{Shared, Exclusive}

abbrev pub is_shared : LockKind → Bool
is_shared Shared = true
is_shared Exclusive = false

-- a lock that keeps t from locking p: it is another's, and not both are shared
abbrev pub clashes : ℕ → ℕ → LockKind → Lock → Bool
clashes p t kind x = (x.page == p) && (not (x.txn == t) && not (is_shared x.kind && is_shared kind))

abbrev pub conflict : List Lock → ℕ → ℕ → LockKind → Bool
conflict xs p t kind = list_any (clashes p t kind) xs

abbrev pub is_locked : List Lock → ℕ → Bool
is_locked xs p = list_any (λ (x : Lock). x.page == p) xs

-- t has a lock on p
abbrev pub holds : List Lock → ℕ → ℕ → Bool
holds xs p t = list_any (λ (x : Lock). (x.page == p) && (x.txn == t)) xs

abbrev pub is_exclusive : LockKind → Bool
is_exclusive kind = not (is_shared kind)

-- t has an exclusive lock on p
abbrev pub holds_alone : List Lock → ℕ → ℕ → Bool
holds_alone xs p t = list_any (λ (x : Lock). (x.page == p) && ((x.txn == t) && is_exclusive x.kind)) xs

-- the pages of these on which t has no lock
abbrev pub unheld : List ℕ → ℕ → List Lock → List ℕ
unheld ps t xs = filter (λ (p : ℕ). not (holds xs p t)) ps

-- what a lock becomes by a further ask: exclusive stays exclusive
abbrev pub stronger : LockKind → LockKind → LockKind
stronger Exclusive k = Exclusive
stronger Shared k = k

-- t's lock on p, put in its place or made stronger there
abbrev pub add_lock : ℕ → ℕ → LockKind → List Lock → List Lock
add_lock p t kind [] = record { page = p; txn = t; kind = kind } ∷ []
add_lock p t kind (x ∷ xs) =
    if (x.page == p) && (x.txn == t) then record x { kind = stronger x.kind kind } ∷ xs
    else if nat_lt p x.page || ((x.page == p) && nat_lt t x.txn) then record { page = p; txn = t; kind = kind } ∷ x ∷ xs
    else x ∷ add_lock p t kind xs

-- the locks of the others
abbrev pub drop_locks : ℕ → List Lock → List Lock
drop_locks t xs = filter (λ (x : Lock). not (x.txn == t)) xs

-- no lock is in the way of one before it: two on one page are both shared
abbrev pub LocksAgree : List Lock → Type 0
LocksAgree [] = Unit {0}
LocksAgree (x ∷ xs) = (conflict xs x.page x.txn x.kind ≡ false) × LocksAgree xs
