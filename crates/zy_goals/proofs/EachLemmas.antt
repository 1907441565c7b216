-- Whether one of some values, or each, has a property, where that is known of each place.
use Rattle.std.proofs.Common.{◌≡◌, ◌∙◌, ◌+◌, ◌<◌, inl, inr, ℕ, zero, suc, List, [], ◌∷◌, length, slice_get, get_or, map, arith, refl, sym, subst}
use Rattle.std.proofs.Common.{Bool, true, false}
use Rattle.std.proofs.lemmas.List.{get_or_default}
use Rattle.std.specs.List.{list_any, list_all}
use Rattle.std.proofs.lemmas.Bool.{and_from, and_left, and_right, cases_lt, or_from, or_left, or_right}
use Rattle.zy_table.specs.State.{Txn}
use Rattle.zy_table.specs.Change.{txn_or}

-- ---- of transactions

-- whether the transaction with a number has it
abbrev pub at : (Txn → Bool) → List Txn → ℕ → Bool
at test xs i = test (txn_or (slice_get xs i))

-- the one at i has it
pub any_at : (test : Txn → Bool) (xs : List Txn) (i : ℕ) → i < length xs → at test xs i ≡ true → list_any test xs ≡ true
any_at test [] i lt e = absurd (omega (arith, lt))
any_at test (x ∷ xs) zero lt e = or_left _ _ e
any_at test (x ∷ xs) (suc i) lt e = or_right _ _ (any_at test xs i (omega (arith, lt)) e)

-- none has it
pub none_at : (test : Txn → Bool) (xs : List Txn) → ((i : ℕ) → i < length xs → at test xs i ≡ false) → list_any test xs ≡ false
none_at test [] h = refl
none_at test (x ∷ xs) h = or_from _ _ (h 0 (omega arith)) (none_at test xs (λ i lt. h (suc i) (omega (arith, lt))))

-- each has it
pub each_at : (test : Txn → Bool) (xs : List Txn) → ((i : ℕ) → i < length xs → at test xs i ≡ true) → list_all test xs ≡ true
each_at test [] h = refl
each_at test (x ∷ xs) h = and_from _ _ (h 0 (omega arith)) (each_at test xs (λ i lt. h (suc i) (omega (arith, lt))))

-- the one at i does not have it
pub other_at : (test : Txn → Bool) (xs : List Txn) (i : ℕ) → i < length xs → at test xs i ≡ false → list_all test xs ≡ false
other_at test [] i lt e = absurd (omega (arith, lt))
other_at test (x ∷ xs) zero lt e = and_left _ _ e
other_at test (x ∷ xs) (suc i) lt e = and_right _ _ (other_at test xs i (omega (arith, lt)) e)

-- what holds of each number below n, and of n, holds of each below n + 1
pub more : (P : ℕ → Type 0) (n : ℕ) → ((i : ℕ) → i < n → P i) → P n → (i : ℕ) → i < n + 1 → P i
more P n h e i lt =
    elim (cases_lt i n) [
      | inl less ↦ h i less
      | inr le ↦ let here : i ≡ n = omega (arith, le, lt) in rw here e
    ]

-- ---- of any values; where one of them settles it, std has list_any_at and list_all_at

module _ {A : Type 0} (test : A → Bool) where
  -- none has it
  pub none_here : (xs : List A) (d : A) → ((i : ℕ) → i < length xs → test (get_or xs i d) ≡ false) → list_any test xs ≡ false
  none_here [] d h = refl
  none_here (x ∷ xs) d h = or_from _ _ (h 0 (omega arith)) (none_here xs d (λ i lt. h (suc i) (omega (arith, lt))))

  -- each has it
  pub each_here : (xs : List A) (d : A) → ((i : ℕ) → i < length xs → test (get_or xs i d) ≡ true) → list_all test xs ≡ true
  each_here [] d h = refl
  each_here (x ∷ xs) d h = and_from _ _ (h 0 (omega arith)) (each_here xs d (λ i lt. h (suc i) (omega (arith, lt))))

-- ---- of values that are seen as others

module _ {A B : Type 0} (f : A → B) (test : B → Bool) where
  -- the one at i has it
  pub any_seen : (xs : List A) (i : ℕ) (x : A) → i < length xs → x ≡ get_or xs i x → test (f x) ≡ true → list_any test (map f xs) ≡ true
  any_seen [] i x lt e t = absurd (omega (arith, lt))
  any_seen (y ∷ xs) zero x lt e t = or_left _ _ (subst (λ z. test (f z) ≡ true) e t)
  any_seen (y ∷ xs) (suc i) x lt e t = or_right _ _ (any_seen xs i x (omega (arith, lt)) e t)

  -- none has it
  pub none_seen : (xs : List A) → ((i : ℕ) → i < length xs → (x : A) → x ≡ get_or xs i x → test (f x) ≡ false) → list_any test (map f xs) ≡ false
  none_seen [] h = refl
  none_seen (y ∷ xs) h = or_from _ _ (h 0 (omega arith) y refl) (none_seen xs (λ i lt x e. h (suc i) (omega (arith, lt)) x e))

  -- the value at a place, whatever is read where there is none
  pub at_place : (xs : List A) (i : ℕ) (x r : A) → i < length xs → r ≡ get_or xs i r → test (f r) ≡ false → x ≡ get_or xs i x → test (f x) ≡ false
  at_place xs i x r lt is e same = subst (λ z. test (f z) ≡ false) (is ∙ (get_or_default xs i r x lt ∙ sym same)) e
