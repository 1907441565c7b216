-- What a granted lock does to locks in order.
use Rattle.std.proofs.Common.{◌≡◌, true, false, ℕ, zero, suc, ◌<◌, List, [], ◌∷◌, length, get_or, refl, ap, arith}
use Rattle.std.proofs.Math.ListN.{set}
use Rattle.std.specs.List.{insert}
use Rattle.zy_model.specs.declared.lock.Lock.{Lock}
use Rattle.zy_model.specs.declared.lock.LockKind.{LockKind}
use Rattle.zy_model.specs.Locks.{stronger, add_lock}
use Rattle.zy_model.specs.Order.{comes_before, is_held_by, IsLockPlace}
use Rattle.zy_model.proofs.Rising.{lock, before_is_not_held, before_goes_behind, other_goes_before, place_rest, front_before}

-- the three ways to add a lock at the front of locks
add_lock_same : (p t : ℕ) (kind : LockKind) (x : Lock) (xs : List Lock) → is_held_by x p t ≡ true
    → add_lock p t kind (x ∷ xs) ≡ record x { kind = stronger x.kind kind } ∷ xs
add_lock_same p t kind x xs h = rw h refl

-- t's lock is put before a first lock that is neither before it nor t's on p
add_lock_below : (p t : ℕ) (kind : LockKind) (x : Lock) (xs : List Lock) → comes_before x p t ≡ false → is_held_by x p t ≡ false
    → add_lock p t kind (x ∷ xs) ≡ lock p t kind ∷ x ∷ xs
add_lock_below p t kind x xs h k = rw (k, other_goes_before x p t h k) refl

-- t's lock is put among the others behind a first lock that comes before it
add_lock_above : (p t : ℕ) (kind : LockKind) (x : Lock) (xs : List Lock) → comes_before x p t ≡ true → add_lock p t kind (x ∷ xs) ≡ x ∷ add_lock p t kind xs
add_lock_above p t kind x xs h = rw (before_is_not_held x p t h, before_goes_behind x p t h) refl

-- a lock that is there is raised in its place
pub add_lock_at : (p t i : ℕ) (kind : LockKind) (d : Lock) (xs : List Lock) → IsLockPlace p t xs i → i < length xs → is_held_by (get_or xs i d) p t ≡ true
    → add_lock p t kind xs ≡ set xs i (record (get_or xs i d) { kind = stronger (get_or xs i d).kind kind })
add_lock_at p t i kind d [] at lt e = absurd (omega arith)
add_lock_at p t zero kind d (x ∷ xs) at lt e = add_lock_same p t kind x xs e
add_lock_at p t (suc i) kind d (x ∷ xs) at lt e =
    rw (add_lock_above p t kind x xs (front_before p t i x xs at))
    (ap (λ z. x ∷ z) (add_lock_at p t i kind d xs (place_rest p t i x xs at) (omega arith) e))

-- and one that is not is put between others
pub add_lock_between : (p t i : ℕ) (kind : LockKind) (xs : List Lock) → IsLockPlace p t xs i → ((d : Lock) → i < length xs → is_held_by (get_or xs i d) p t ≡ false)
    → add_lock p t kind xs ≡ insert xs i (lock p t kind)
add_lock_between p t zero kind [] at ne = refl
add_lock_between p t (suc i) kind [] at ne = absurd (omega (arith, at.0))
add_lock_between p t zero kind (x ∷ xs) at ne = add_lock_below p t kind x xs (at.2 0 x (omega arith) (omega arith)) (ne x (omega arith))
add_lock_between p t (suc i) kind (x ∷ xs) at ne =
    rw (add_lock_above p t kind x xs (front_before p t i x xs at))
    (ap (λ z. x ∷ z) (add_lock_between p t i kind xs (place_rest p t i x xs at) (λ d lt. ne d (omega arith))))
