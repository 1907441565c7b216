-- Transactions that become copies of others one by one.
use Rattle.std.proofs.Common.{◌≡◌, ◌++◌, ℕ, zero, suc, ◌<◌, List, [], ◌∷◌, length, take, drop, get_or, refl, ap, arith}
use Rattle.std.proofs.Math.ListN.{set}
use Rattle.zy_table.specs.State.{Txn}
use Rattle.zy_txns.specs.InPlace.{FitsInPlace, AllFitInPlace}

-- there are as many of both
pub in_place-length : (xs ys : List Txn) → AllFitInPlace xs ys → length xs ≡ length ys
in_place-length [] [] h = refl
in_place-length [] (y ∷ ys) h = absurd h
in_place-length (x ∷ xs) [] h = absurd h
in_place-length (x ∷ xs) (y ∷ ys) h = ap suc (in_place-length xs ys h.1)

-- before a transaction becomes a copy the other one with its number fits in place
pub in_place-at : (t : ℕ) (xs ys : List Txn) (d e : Txn) → AllFitInPlace xs ys → t < length ys → FitsInPlace (get_or (take t ys ++ drop t xs) t d) (get_or ys t e)
in_place-at t xs [] d e h lt = absurd (omega (arith, lt))
in_place-at t [] (y ∷ ys) d e h lt = absurd h
in_place-at zero (x ∷ xs) (y ∷ ys) d e h lt = h.0
in_place-at (suc t) (x ∷ xs) (y ∷ ys) d e h lt = in_place-at t xs ys d e h.1 (omega (arith, lt))

-- once transaction t is a copy, the first t + 1 are
pub set-at : (t : ℕ) (xs ys : List Txn) (e : Txn) → AllFitInPlace xs ys → t < length ys
    → set (take t ys ++ drop t xs) t (get_or ys t e) ≡ take (suc t) ys ++ drop (suc t) xs
set-at t xs [] e h lt = absurd (omega (arith, lt))
set-at t [] (y ∷ ys) e h lt = absurd h
set-at zero (x ∷ xs) (y ∷ ys) e h lt = refl
set-at (suc t) (x ∷ xs) (y ∷ ys) e h lt = ap (λ zs. y ∷ zs) (set-at t xs ys e h.1 (omega (arith, lt)))

-- on the way there are as many as of the others
pub length-at : (t : ℕ) (xs ys : List Txn) → AllFitInPlace xs ys → length (take t ys ++ drop t xs) ≡ length ys
length-at zero xs ys h = in_place-length xs ys h
length-at (suc t) [] [] h = refl
length-at (suc t) [] (y ∷ ys) h = absurd h
length-at (suc t) (x ∷ xs) [] h = absurd h
length-at (suc t) (x ∷ xs) (y ∷ ys) h = ap suc (length-at t xs ys h.1)

-- where as many are copies as there are, all are
pub all-copies : (n : ℕ) (xs ys : List Txn) → AllFitInPlace xs ys → length ys ≡ n → take n ys ++ drop n xs ≡ ys
all-copies zero [] [] h e = refl
all-copies zero [] (y ∷ ys) h e = absurd h
all-copies zero (x ∷ xs) [] h e = absurd h
all-copies zero (x ∷ xs) (y ∷ ys) h e = absurd (omega (arith, e))
all-copies (suc n) [] [] h e = refl
all-copies (suc n) [] (y ∷ ys) h e = absurd h
all-copies (suc n) (x ∷ xs) [] h e = absurd h
all-copies (suc n) (x ∷ xs) (y ∷ ys) h e = ap (λ zs. y ∷ zs) (all-copies n xs ys h.1 (omega (arith, e)))
