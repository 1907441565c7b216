-- What is kept back, and passed on.
use Rattle.std.proofs.Common.{◌≡◌, ◌∙◌, ℕ, List, [], Result, Ok, Err, OnOk, sym, ap, length, drop, le_of_eq, drop_of_length-le}

-- where all was given, nothing is left
pub none_left : {X E : Type 0} (r : Result X E) (xs left : List ℕ) (n : ℕ) → left ≡ drop n xs → OnOk r (n ≡ length xs) → OnOk r (left ≡ [])
none_left (Ok x) xs left n e all = e ∙ ap (λ k. drop k xs) all ∙ drop_of_length-le xs (le_of_eq (sym all ∙ all))
none_left (Err e) xs left n is all = tt
