-- The decimal digits of a number, one after the other.
use Rattle.std.proofs.Common.{◌≡◌, ℕ, ◌+◌, ◌/◌, ◌%◌, ◌<◌, ◌≤◌, ◌++◌, ◌∷◌, [], ap, ap₂, ◌∙◌, append_assoc, arith}
use Rattle.std.proofs.lemmas.Fmt.{decimal_digit, decimal_step}
use Rattle.std.specs.Fmt.{decimal}

-- a number of two digits is its tens and its ones
pub decimal_two : (n : ℕ) → 10 ≤ n → n < 100 → decimal n ≡ (48 + n / 10) ∷ (48 + n % 10) ∷ []
decimal_two n more few = decimal_step n more (omega arith) ∙ ap (λ ds. ds ++ (48 + n % 10) ∷ []) (decimal_digit (n / 10) (omega arith))

-- the last two digits
two_last : (n : ℕ) → (48 + n / 10 % 10) ∷ (48 + n % 10) ∷ [] ≡ (48 + n % 100 / 10) ∷ (48 + n % 100 % 10) ∷ []
two_last n =
    let tens : n / 10 % 10 ≡ n % 100 / 10 = omega arith in
    let ones : n % 10 ≡ n % 100 % 10 = omega arith in
    ap₂ (λ t o. (48 + t) ∷ (48 + o) ∷ []) tens ones

-- a number of three to six digits is the digits of its hundreds, and the two that are left
pub decimal_hundreds : (n : ℕ) → 100 ≤ n → n < 1000000 → decimal n ≡ decimal (n / 100) ++ (48 + n % 100 / 10) ∷ (48 + n % 100 % 10) ∷ []
decimal_hundreds n more few =
    let hundreds : n / 10 / 10 ≡ n / 100 = omega arith in
    decimal_step n (omega arith) (omega arith)
    ∙ ap (λ ds. ds ++ (48 + n % 10) ∷ []) (decimal_step (n / 10) (omega arith) (omega arith))
    ∙ append_assoc (decimal (n / 10 / 10)) ((48 + n / 10 % 10) ∷ []) ((48 + n % 10) ∷ [])
    ∙ ap₂ (λ h ds. decimal h ++ ds) hundreds (two_last n)
