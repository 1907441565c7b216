-- The places that a transaction's locks on some pages need, one page after the other.
use Rattle.std.proofs.Common.{◌≡◌, ◌+◌, ◌≤◌, Bool, true, false, ℕ, List, [], ◌∷◌, length, refl, arith}
use Rattle.std.specs.Prelude.{not, if◌then◌else◌}
use Rattle.std.proofs.lemmas.Bool.{false≢true}
use Rattle.zy_model.specs.declared.lock.LockKind.{LockKind}
use Rattle.zy_locks.specs.LockTable.{LockTable, HasPlaces}
use Rattle.zy_model.specs.Locks.{add_lock, holds, unheld}
use Rattle.zy_table.specs.State.{Lock}
use Rattle.zy_table.proofs.LockLists.{holds_more}

-- a list with or without a number in front is as long as that part and the others together
one_and_rest : (b : Bool) (p : ℕ) (ps : List ℕ) → length (if b then p ∷ ps else ps) ≡ length (if b then p ∷ [] else []) + length ps
one_and_rest true p ps = omega arith
one_and_rest false p ps = omega arith

-- those of the first page, and those of the others
pub unheld_first : (p : ℕ) (ps : List ℕ) (t : ℕ) (xs : List Lock) → length (unheld (p ∷ ps) t xs) ≡ length (unheld (p ∷ []) t xs) + length (unheld ps t xs)
unheld_first p ps t xs = one_and_rest (not (holds xs p t)) p (unheld ps t xs)

-- a list that is no longer than another is no longer than that one with or without a number in front
still_fewer : (was : Bool) (p : ℕ) (ps qs : List ℕ) → length ps ≤ length qs → length ps ≤ length (if not was then p ∷ qs else qs)
still_fewer true p ps qs le = le
still_fewer false p ps qs le = omega (arith, le)

-- one step of the next: where the first page is left out before the lock, it is left out after it
fewer : (was is : Bool) (p : ℕ) (ps qs : List ℕ) → (was ≡ true → is ≡ true) → length ps ≤ length qs
    → length (if not is then p ∷ ps else ps) ≤ length (if not was then p ∷ qs else qs)
fewer was true p ps qs h le = still_fewer was p ps qs le
fewer true false p ps qs h le = absurd (false≢true (h refl))
fewer false false p ps qs h le = omega (arith, le)

-- a lock more leaves no more pages without one
pub unheld_less : (ps : List ℕ) (p t : ℕ) (kind : LockKind) (xs : List Lock) → length (unheld ps t (add_lock p t kind xs)) ≤ length (unheld ps t xs)
unheld_less [] p t kind xs = omega arith
unheld_less (q ∷ ps) p t kind xs =
    fewer (holds xs q t) (holds (add_lock p t kind xs) q t) q (unheld ps t (add_lock p t kind xs)) (unheld ps t xs) (λ h. holds_more p t kind xs q t h)
    (unheld_less ps p t kind xs)

-- so the others have their places once the first is locked
pub places_rest : (p : ℕ) (ps : List ℕ) (t : ℕ) (kind : LockKind) (x y : LockTable) → HasPlaces (p ∷ ps) t x → y.locks ≡ add_lock p t kind x.locks
    → y.spare + length (unheld (p ∷ []) t x.locks) ≡ x.spare → HasPlaces ps t y
places_rest p ps t kind x y h locks room =
    let first = unheld_first p ps t x.locks in
    let less = unheld_less ps p t kind x.locks in
    let enough : length (unheld ps t x.locks) ≤ y.spare = omega (arith, h, first, room) in
    rw locks (omega (arith, less, enough))
