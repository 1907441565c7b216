-- The two signs of each number below 100.
use Rattle.std.proofs.Common.{◌≡◌, ◌==◌, ◌&&◌, ◌+◌, ◌*◌, ◌/◌, ◌%◌, ◌<◌, ℕ, Bool, true, refl, subst, slice_index_or, arith, zero, suc, inl, inr}
use Rattle.std.proofs.lemmas.Bool.{and_parts, cases_lt, eqb-true}
use Rattle.zy_io.specs.declared.digits.TheConstants.{PAIRS}

-- whether a number's two signs are in their places
is_pair : ℕ → Bool
is_pair n = (slice_index_or PAIRS (n * 2) 0 == 48 + n / 10) && (slice_index_or PAIRS (n * 2 + 1) 0 == 48 + n % 10)

-- whether the two signs of each number below n are in their places
are_pairs : ℕ → Bool
are_pairs zero = true
are_pairs (suc n) = is_pair n && are_pairs n

-- the two signs of each number below 100 are in their places
all_are : are_pairs 100 ≡ true
unfolding are_pairs is_pair
all_are = refl

-- what holds of the pairs below a number holds of each
pair : (n k : ℕ) → are_pairs n ≡ true → k < n → is_pair k ≡ true
unfolding are_pairs
pair zero k h lt = absurd (omega arith)
pair (suc n) k h lt =
    let parts = and_parts (is_pair n) (are_pairs n) h in
    elim (cases_lt k n) [
      | inl below ↦ pair n k parts.1 below
      | inr above ↦ let here : n ≡ k = omega (arith, above, lt) in subst (λ m. is_pair m ≡ true) here parts.0
    ]

-- the first of a number's two signs is the digit of its tens
pub tens : (n : ℕ) → n < 100 → slice_index_or PAIRS (n * 2) 0 ≡ 48 + n / 10
unfolding is_pair
tens n few =
    eqb-true (slice_index_or PAIRS (n * 2) 0) (48 + n / 10) (and_parts (slice_index_or PAIRS (n * 2) 0 == 48 + n / 10)
    (slice_index_or PAIRS (n * 2 + 1) 0 == 48 + n % 10) (pair 100 n all_are few)).0

-- the second of a number's two signs is the digit of its ones
pub ones : (n : ℕ) → n < 100 → slice_index_or PAIRS (n * 2 + 1) 0 ≡ 48 + n % 10
unfolding is_pair
ones n few = eqb-true (slice_index_or PAIRS (n * 2 + 1) 0) (48 + n % 10)
    (and_parts (slice_index_or PAIRS (n * 2) 0 == 48 + n / 10) (slice_index_or PAIRS (n * 2 + 1) 0 == 48 + n % 10) (pair 100 n all_are few)).1
