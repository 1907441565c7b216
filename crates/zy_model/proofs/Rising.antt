-- Laws of locks in order.
use Rattle.std.proofs.Common.{◌≡◌, Bool, true, false, ℕ, zero, suc, ◌<◌, ◌≤◌, List, [], ◌∷◌, length, get_or, arith}
use Rattle.std.specs.Prelude.{◌==◌, nat_lt, not, ◌&&◌, ◌||◌}
use Rattle.std.proofs.lemmas.Bool.{cond_both}
use Rattle.std.proofs.lemmas.Bool.Decides.{nat_tests}
use Rattle.std.specs.List.Sorted.{IsPartitionedBy}
use Rattle.zy_model.specs.declared.lock.Lock.{Lock}
use Rattle.zy_model.specs.declared.lock.LockKind.{LockKind}
use Rattle.zy_model.specs.Locks.{add_lock, drop_locks, stronger}
use Rattle.zy_model.specs.Order.{comes_before, is_held_by, LocksBehind, LocksRise, IsLockPlace}

-- a lock that comes before y, which comes before t's lock on p, comes before that lock
before_trans : (x y : Lock) (p t : ℕ) → comes_before x y.page y.txn ≡ true → comes_before y p t ≡ true → comes_before x p t ≡ true
before_trans x y p t h k = grind (arith, nat_tests, h, k)

-- where t's lock on p would be beside x
abbrev pub goes_before : ℕ → ℕ → Lock → Bool
goes_before p t x = nat_lt p x.page || ((x.page == p) && nat_lt t x.txn)

-- a lock that comes before t's lock on p is not that lock
pub before_is_not_held : (x : Lock) (p t : ℕ) → comes_before x p t ≡ true → is_held_by x p t ≡ false
before_is_not_held x p t h = grind (arith, nat_tests, h)

-- t's lock on p does not go before a lock that comes before it
pub before_goes_behind : (x : Lock) (p t : ℕ) → comes_before x p t ≡ true → goes_before p t x ≡ false
before_goes_behind x p t h = grind (arith, nat_tests, h)

-- t's lock on p goes before a lock that neither comes before it nor is it
pub other_goes_before : (x : Lock) (p t : ℕ) → comes_before x p t ≡ false → is_held_by x p t ≡ false → goes_before p t x ≡ true
other_goes_before x p t h k = grind (arith, nat_tests, h, k)

-- a lock that is not t's on p, and that t's lock on p does not go before, comes before that lock
goes_behind : (x : Lock) (p t : ℕ) → is_held_by x p t ≡ false → goes_before p t x ≡ false → comes_before x p t ≡ true
goes_behind x p t h k = grind (arith, nat_tests, h, k)

-- t's lock of a kind on p
abbrev pub lock : ℕ → ℕ → LockKind → Lock
lock p t kind = record { page = p; txn = t; kind = kind }

-- where t's lock on p goes before x, it comes before x in order
goes_in_front : (p t : ℕ) (kind : LockKind) (x : Lock) → goes_before p t x ≡ true → comes_before (lock p t kind) x.page x.txn ≡ true
goes_in_front p t kind x h = grind (arith, nat_tests, h)

-- z comes before each lock of those that rise behind it
pub behind_at : (z : Lock) (i : ℕ) (d : Lock) (xs : List Lock) → LocksBehind z xs → i < length xs
    → comes_before z (get_or xs i d).page (get_or xs i d).txn ≡ true
behind_at z i d [] h lt = absurd (omega arith)
behind_at z zero d (x ∷ xs) h lt = h.0
behind_at z (suc i) d (x ∷ xs) h lt =
    let y = get_or xs i d in
    before_trans z x y.page y.txn h.0 (behind_at x i d xs h.1 (omega arith))

-- locks that rise behind x are in order
pub behind_rise : (x : Lock) (xs : List Lock) → LocksBehind x xs → LocksRise xs
behind_rise x [] h = tt
behind_rise x (y ∷ ys) h = h.1

-- where a lock comes before t's lock on p, so do all before it
none_after : (p t : ℕ) (xs : List Lock) (i j : ℕ) (d : Lock) → LocksRise xs → i ≤ j → j < length xs → comes_before (get_or xs j d) p t ≡ true
    → comes_before (get_or xs i d) p t ≡ true
none_after p t [] i j d h le lt e = absurd (omega arith)
none_after p t (x ∷ xs) zero zero d h le lt e = e
none_after p t (x ∷ xs) zero (suc j) d h le lt e = before_trans x (get_or xs j d) p t (behind_at x j d xs h (omega arith)) e
none_after p t (x ∷ xs) (suc i) zero d h le lt e = absurd (omega arith)
none_after p t (x ∷ xs) (suc i) (suc j) d h le lt e = none_after p t xs i j d (behind_rise x xs h) (omega arith) (omega arith) e

-- locks that rise are in order as a search needs it
pub in_order : (p t : ℕ) (xs : List Lock) → LocksRise xs → IsPartitionedBy (λ x. comes_before x p t) xs
in_order p t xs h = λ i j d le lt e. none_after p t xs i j d h le lt e

-- a place behind the first lock is a place among the others
pub place_rest : (p t i : ℕ) (x : Lock) (xs : List Lock) → IsLockPlace p t (x ∷ xs) (suc i) → IsLockPlace p t xs i
place_rest p t i x xs h = (
  omega (arith, h.0),
  (λ j d low high. h.1 (suc j) d (omega arith) (omega arith)),
  (λ j d low high. h.2 (suc j) d (omega arith) (omega arith)),
)

-- the first lock comes before t's lock on p if the place of this is behind it
pub front_before : (p t i : ℕ) (x : Lock) (xs : List Lock) → IsLockPlace p t (x ∷ xs) (suc i) → comes_before x p t ≡ true
front_before p t i x xs h = h.1 0 x (omega arith) (omega arith)

-- locks rise behind a lock whatever its kind is
behind_kind : (x : Lock) (kind : LockKind) (xs : List Lock) → LocksBehind x xs → LocksBehind (record x { kind = kind }) xs
behind_kind x kind [] h = tt
behind_kind x kind (y ∷ ys) h = (h.0, h.1)

-- locks rise behind z after a lock that z comes before is taken
behind_add : (z : Lock) (p t : ℕ) (kind : LockKind) (xs : List Lock) → comes_before z p t ≡ true → LocksBehind z xs → LocksBehind z (add_lock p t kind xs)
behind_add z p t kind [] b h = (b, tt)
behind_add z p t kind (x ∷ xs) b h =
    cond_both (is_held_by x p t) (record x { kind = stronger x.kind kind } ∷ xs) _ (LocksBehind z)
    (λ _. (h.0, behind_kind x (stronger x.kind kind) xs h.1))
    (λ other. cond_both (goes_before p t x) (lock p t kind ∷ x ∷ xs) (x ∷ add_lock p t kind xs) (LocksBehind z)
    (λ e. (b, (goes_in_front p t kind x e, h.1)))
    (λ late. (h.0, behind_add x p t kind xs (goes_behind x p t other late) h.1)))

-- what is there after a lock is taken
pub rise_add : (p t : ℕ) (kind : LockKind) (xs : List Lock) → LocksRise xs → LocksRise (add_lock p t kind xs)
rise_add p t kind [] h = tt
rise_add p t kind (x ∷ xs) h =
    cond_both (is_held_by x p t) (record x { kind = stronger x.kind kind } ∷ xs) _ LocksRise
    (λ _. behind_kind x (stronger x.kind kind) xs h)
    (λ other. cond_both (goes_before p t x) (lock p t kind ∷ x ∷ xs) (x ∷ add_lock p t kind xs) LocksRise
    (λ e. (goes_in_front p t kind x e, h))
    (λ late. behind_add x p t kind xs (goes_behind x p t other late) h))

-- locks rise behind x without the first of them
behind_skip : (x y : Lock) (ys : List Lock) → LocksBehind x (y ∷ ys) → LocksBehind x ys
behind_skip x y [] h = tt
behind_skip x y (z ∷ zs) h = (before_trans x y z.page z.txn h.0 h.1.0, h.1.1)

-- locks rise behind z after t's release
behind_drop : (z : Lock) (t : ℕ) (xs : List Lock) → LocksBehind z xs → LocksBehind z (drop_locks t xs)
behind_drop z t [] h = tt
behind_drop z t (x ∷ xs) h =
    cond_both (not (x.txn == t)) (x ∷ drop_locks t xs) (drop_locks t xs) (LocksBehind z)
    (λ _. (h.0, behind_drop x t xs h.1))
    (λ _. behind_drop z t xs (behind_skip z x xs h))

-- and after a release
pub rise_drop : (t : ℕ) (xs : List Lock) → LocksRise xs → LocksRise (drop_locks t xs)
rise_drop t [] h = tt
rise_drop t (x ∷ xs) h =
    cond_both (not (x.txn == t)) (x ∷ drop_locks t xs) (drop_locks t xs) LocksRise
    (λ _. behind_drop x t xs h)
    (λ _. rise_drop t xs (behind_rise x xs h))
