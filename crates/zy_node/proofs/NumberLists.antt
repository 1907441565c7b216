-- Lists of numbers: the standard library's tests and filters of them, and how many page numbers there are.
use Rattle.std.proofs.Common.{◌≡◌, ℕ, ◌<◌, List, [], ◌∷◌, length, eqb, not, refl, ap, arith, true, false, inl, inr}
use Rattle.std.specs.Prelude.{◌||◌, if◌then◌else◌, ◌==◌}
use Rattle.std.specs.List.{list_any, filter}
use Rattle.zy_isa.specs.Limits.{max_pages}
use Rattle.zy_table.specs.Keys.{put_key}
use Rattle.zy_table.specs.Numbers.{has, drop_number}
use Rattle.zy_table.specs.Order.{NumbersRise}
use Rattle.zy_table.proofs.KeyLists.{length-put_key}
use Rattle.zy_table.proofs.RangeWalk.{has-put}
use Rattle.zy_table.proofs.RisingNumbers.{rises_put, rises_within}

-- a number is in a list if and only if an element equals it
pub any_has : (p : ℕ) (xs : List ℕ) → list_any (λ x. eqb x p) xs ≡ has xs p
any_has p [] = refl
any_has p (x ∷ xs) = ap (λ b. (x == p) || b) (any_has p xs)

-- a list without a number is what a filter for the others leaves
pub filter_drops : (p : ℕ) (xs : List ℕ) → filter (λ x. not (eqb x p)) xs ≡ drop_number p xs
filter_drops p [] = refl
filter_drops p (x ∷ xs) = rw (filter_drops p xs) (same (x == p))
  where
    same : (b : _) → (if not b then x ∷ drop_number p xs else drop_number p xs) ≡ (if b then drop_number p xs else x ∷ drop_number p xs)
    same true = refl
    same false = refl

-- one number more below the bound
pub below_put : (p : ℕ) (xs : List ℕ) → p < max_pages → ((q : ℕ) → has xs q ≡ true → q < max_pages) → (q : ℕ) → has (put_key p xs) q ≡ true → q < max_pages
below_put p xs lt below q h = elim (has-put p xs q h) [ inl e ↦ omega (arith, e, lt) | inr i ↦ below q i ]

-- where one of the numbers below the bound is absent there is room for it
pub room_for : (p : ℕ) (xs : List ℕ) → NumbersRise 0 xs → p < max_pages → ((q : ℕ) → has xs q ≡ true → q < max_pages) → has xs p ≡ false
    → length xs < max_pages
room_for p xs rise lt below new =
    let put = rises_within 0 max_pages (put_key p xs) (omega arith) (below_put p xs lt below) (rises_put 0 p xs (omega arith) new rise) in
    omega (arith, put, length-put_key p xs)
