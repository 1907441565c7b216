-- Rising numbers: how many there are, and what a number more or less leaves of them.
use Rattle.std.proofs.Common.{◌≡◌, ◌∙◌, ℕ, zero, suc, ◌+◌, ◌<◌, ◌≤◌, List, [], ◌∷◌, length, true, false, refl, sym, arith, inl, inr}
use Rattle.std.specs.Prelude.{◌==◌, nat_le, slice_index_or}
use Rattle.std.specs.List.Sorted.{IsNonDecreasing}
use Rattle.std.proofs.lemmas.Bool.{cond_both, false≢true, or_cases, or_left, or_right, or_parts, eq-eqb, eqb-true, eqb-false, ne_eqb, leb-true, leb-false}
use Rattle.zy_table.specs.Keys.{put_key}
use Rattle.zy_table.specs.Numbers.{has, drop_number}
use Rattle.zy_table.specs.Order.{NumbersRise}

-- a new number keeps them rising
pub rises_put : (low p : ℕ) (xs : List ℕ) → low ≤ p → has xs p ≡ false → NumbersRise low xs → NumbersRise low (put_key p xs)
rises_put low p [] le new h = (le, tt)
rises_put low p (x ∷ xs) le new h =
    let parts = or_parts (x == p) (has xs p) new in
    let other = eqb-false _ _ parts.0 in
    cond_both (nat_le p x) (p ∷ x ∷ xs) (x ∷ put_key p xs) (NumbersRise low)
    (λ e. let under = leb-true _ _ e in (le, (omega (arith, other), h.1)))
    (λ e. let over = leb-false _ _ e in (h.0, rises_put (x + 1) p xs (omega (arith, over)) parts.1 h.1))

-- what rises from a number rises from a lesser one
pub rises_weaker : (low less : ℕ) (xs : List ℕ) → less ≤ low → NumbersRise low xs → NumbersRise less xs
rises_weaker low less [] le h = tt
rises_weaker low less (x ∷ xs) le h = ((let a = h.0 in omega arith), h.1)

-- a number less keeps them rising
pub rises_drop : (low p : ℕ) (xs : List ℕ) → NumbersRise low xs → NumbersRise low (drop_number p xs)
rises_drop low p [] h = tt
rises_drop low p (x ∷ xs) h =
    cond_both (x == p) (drop_number p xs) (x ∷ drop_number p xs) (NumbersRise low)
    (λ _. rises_drop low p xs (rises_weaker (x + 1) low xs (let a = h.0 in omega arith) h.1))
    (λ _. (h.0, rises_drop (x + 1) p xs h.1))

-- what is left after a number is dropped was there, and is another one
pub has-dropped : (p q : ℕ) (xs : List ℕ) → has (drop_number p xs) q ≡ true → (has xs q ≡ true) × ((p == q) ≡ false)
has-dropped p q [] h = absurd (false≢true h)
has-dropped p q (x ∷ xs) h =
    cond_both (x == p) (drop_number p xs) (x ∷ drop_number p xs) (λ ys. has ys q ≡ true → (has (x ∷ xs) q ≡ true) × ((p == q) ≡ false))
    (λ _ g. let r = has-dropped p q xs g in (or_right _ _ r.0, r.1))
    (λ far g. elim (or_cases (x == q) (has (drop_number p xs) q) g) [
      | inl e ↦ (or_left _ _ e, ne_eqb p q (λ s. false≢true (sym far ∙ eq-eqb x p (eqb-true x q e ∙ sym s))))
      | inr e ↦ let r = has-dropped p q xs e in (or_right _ _ r.0, r.1)
    ]) h

-- the numbers from low up to a bound have room for those that rise from low and are below it
pub rises_within : (low bound : ℕ) (xs : List ℕ) → low ≤ bound → ((q : ℕ) → has xs q ≡ true → q < bound) → NumbersRise low xs → low + length xs ≤ bound
rises_within low bound [] le below h = omega arith
rises_within low bound (x ∷ xs) le below h =
    let first = below x (or_left _ _ (eq-eqb x x refl)) in
    let rest = rises_within (x + 1) bound xs (omega (arith, first)) (λ q there. below q (or_right (x == q) _ there)) h.1 in
    let over = h.0 in
    omega (arith, rest, over)

-- each of them is at least the number from which they rise
pub rises_from : (low : ℕ) (xs : List ℕ) (i d : ℕ) → NumbersRise low xs → i < length xs → low ≤ slice_index_or xs i d
rises_from low [] i d h lt = absurd (omega arith)
rises_from low (x ∷ xs) zero d h lt = h.0
rises_from low (x ∷ xs) (suc i) d h lt = let first = h.0 in let rest = rises_from (x + 1) xs i d h.1 (omega arith) in omega (arith, first, rest)

-- what rises does not fall
pub rises_in_order : (low : ℕ) (xs : List ℕ) → NumbersRise low xs → IsNonDecreasing xs
rises_in_order low [] h i j d le lt = absurd (omega arith)
rises_in_order low (x ∷ xs) h zero zero d le lt = omega arith
rises_in_order low (x ∷ xs) h zero (suc j) d le lt = let above = rises_from (x + 1) xs j d h.1 (omega arith) in omega (arith, above)
rises_in_order low (x ∷ xs) h (suc i) zero d le lt = absurd (omega arith)
rises_in_order low (x ∷ xs) h (suc i) (suc j) d le lt = rises_in_order (x + 1) xs h.1 i j d (omega arith) (omega arith)
