-- One transaction of a list is set.
use Rattle.std.proofs.Common.{◌≡◌, ℕ, zero, suc, List, [], ◌∷◌, length, refl, ap, arith}
use Rattle.std.specs.Prelude.{slice_get, slice_set}
use Rattle.zy_table.specs.State.{Txn}
use Rattle.zy_table.specs.Change.{txn_or}

-- one that is set to what it is
pub set_own : (xs : List Txn) (t : ℕ) → slice_set xs t (txn_or (slice_get xs t)) ≡ xs
set_own [] t = refl
set_own (x ∷ xs) zero = refl
set_own (x ∷ xs) (suc t) = ap (λ (zs : List Txn). x ∷ zs) (set_own xs t)

-- one that is set to what it is in a list as long, where it is set to x
pub set_in : (xs ys : List Txn) (t : ℕ) (x : Txn) → length xs ≡ length ys
    → slice_set ys t x ≡ slice_set ys t (txn_or (slice_get (slice_set xs t x) t))
set_in xs [] t x h = refl
set_in [] (y ∷ ys) t x h = absurd (omega (arith, h))
set_in (z ∷ xs) (y ∷ ys) zero x h = refl
set_in (z ∷ xs) (y ∷ ys) (suc t) x h = ap (λ (zs : List Txn). y ∷ zs) (set_in xs ys t x (omega (arith, h)))

-- one that is set in two lists that are as long is the same in both
pub get_in : (xs ys : List Txn) (t : ℕ) (x : Txn) → length xs ≡ length ys
    → txn_or (slice_get (slice_set xs t x) t) ≡ txn_or (slice_get (slice_set ys t x) t)
get_in [] [] t x h = refl
get_in [] (y ∷ ys) t x h = absurd (omega (arith, h))
get_in (z ∷ xs) [] t x h = absurd (omega (arith, h))
get_in (z ∷ xs) (y ∷ ys) zero x h = refl
get_in (z ∷ xs) (y ∷ ys) (suc t) x h = get_in xs ys t x (omega (arith, h))
