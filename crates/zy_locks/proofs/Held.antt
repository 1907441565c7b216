-- Whether a transaction has a lock on a page, and what its lock there takes of the room.
use Rattle.std.proofs.Common.{◌≡◌, ◌∙◌, Bool, true, false, ℕ, zero, suc, ◌<◌, ◌≤◌, List, [], ◌∷◌, length, get_or, refl, sym, arith, inl, inr}
use Rattle.std.specs.Prelude.{◌||◌}
use Rattle.std.proofs.lemmas.Bool.{cases_lt, false≢true}
use Rattle.std.proofs.lemmas.Bool.Decides.{nat_tests}
use Rattle.zy_model.specs.declared.lock.Lock.{Lock}
use Rattle.zy_model.specs.Locks.{holds, unheld}
use Rattle.zy_model.specs.Order.{comes_before, is_held_by, LocksBehind, LocksRise, IsLockPlace}
use Rattle.zy_model.proofs.Rising.{goes_before, before_is_not_held, other_goes_before, place_rest, front_before, behind_rise}

-- behind a lock that t's lock on p would be before there is none of t on p
still_before : (x y : Lock) (p t : ℕ) → comes_before x y.page y.txn ≡ true → goes_before p t x ≡ true → goes_before p t y ≡ true
still_before x y p t h k = grind (arith, nat_tests, h, k)

-- a lock that t's lock on p would be before is not t's on p
pub before_is_other : (x : Lock) (p t : ℕ) → goes_before p t x ≡ true → is_held_by x p t ≡ false
before_is_other x p t h = grind (arith, nat_tests, h)

-- where t's lock on p would be before x, which the others are behind, t has no lock on p among these
pub none_behind : (x : Lock) (p t : ℕ) (xs : List Lock) → LocksBehind x xs → goes_before p t x ≡ true → holds xs p t ≡ false
none_behind x p t [] h e = refl
none_behind x p t (y ∷ ys) h e =
    let later = still_before x y p t h.0 e in
    rw (before_is_other y p t later) (none_behind y p t ys h.1 later)

-- a disjunction whose second side is false where the first is false is its first side
first_of : (b rest : Bool) → (b ≡ false → rest ≡ false) → (b || rest) ≡ b
first_of true rest h = refl
first_of false rest h = h refl

-- what is at the place of t's lock on p shows whether there is one
pub holds_at : (p t i : ℕ) (d : Lock) (xs : List Lock) → LocksRise xs → IsLockPlace p t xs i → i < length xs → holds xs p t ≡ is_held_by (get_or xs i d) p t
holds_at p t i d [] rise at lt = absurd (omega arith)
holds_at p t zero d (x ∷ xs) rise at lt =
    first_of (is_held_by x p t) (holds xs p t) (λ other. none_behind x p t xs rise (other_goes_before x p t (at.2 0 x (omega arith) (omega arith)) other))
holds_at p t (suc i) d (x ∷ xs) rise at lt =
    rw (before_is_not_held x p t (front_before p t i x xs at)) (holds_at p t i d xs (behind_rise x xs rise) (place_rest p t i x xs at) (omega arith))

-- where the place of t's lock on p is behind all locks, t has no lock on p
pub holds_past : (p t i : ℕ) (xs : List Lock) → LocksRise xs → IsLockPlace p t xs i → length xs ≤ i → holds xs p t ≡ false
holds_past p t i [] rise at le = refl
holds_past p t zero (x ∷ xs) rise at le = absurd (omega arith)
holds_past p t (suc i) (x ∷ xs) rise at le =
    rw (before_is_not_held x p t (front_before p t i x xs at)) (holds_past p t i xs (behind_rise x xs rise) (place_rest p t i x xs at) (omega arith))

-- so a lock that is there is at its place
pub held_place : (p t i : ℕ) (xs : List Lock) → LocksRise xs → IsLockPlace p t xs i → holds xs p t ≡ true → i < length xs
held_place p t i xs rise at h =
    elim (cases_lt i (length xs)) [ inl lt ↦ lt | inr le ↦ absurd (false≢true (sym (holds_past p t i xs rise at le) ∙ h)) ]

-- the lock at the place of t's lock on p is that lock if and only if t has one
pub told_at : (p t i : ℕ) (b : Bool) (d : Lock) (xs : List Lock) → LocksRise xs → IsLockPlace p t xs i → holds xs p t ≡ b → i < length xs
    → is_held_by (get_or xs i d) p t ≡ b
told_at p t i b d xs rise at h lt = sym (holds_at p t i d xs rise at lt) ∙ h

-- a lock that is there takes no room, any other takes one place
pub held_takes : (p t : ℕ) (xs : List Lock) → holds xs p t ≡ true → length (unheld (p ∷ []) t xs) ≡ 0
held_takes p t xs h = rw h refl
