-- Laws of the page that a key lies on.
use Rattle.std.proofs.Common.{◌≡◌, ◌∙◌, ap, ℕ, zero, suc, ◌+◌, ◌<◌, ◌≤◌, Bool, true, false, List, [], ◌∷◌, length, get_or, refl, sym, eqb, leb, ltb, arith}
use Rattle.std.proofs.Common.{Some, None, ◌⊎◌, inl, inr}
use Rattle.std.specs.Prelude.{filter, position, unwrap_or}
use Rattle.std.specs.List.{position_or_len}
use Rattle.std.proofs.lemmas.Bool.{eq-eqb, ne_eqb, eqb-true, lt-ltb, ltb-true, ltb-false, le-leb, leb-true, cond_both, cases_lt, cases_Bool, true≢false}
use Rattle.zy_model.specs.Wireframe.{greatest, low_under, page_of, IsGreatest}

-- the greatest low key that is not above k
pub low_under-le : (lows : List ℕ) (k : ℕ) → low_under lows k ≤ k
low_under-le [] k = omega arith
low_under-le (low ∷ lows) k =
    let rest = low_under-le lows k in
    cond_both (leb low k) (low ∷ filter (λ x. leb x k) lows) (filter (λ x. leb x k) lows) (λ ys. greatest ys ≤ k)
    (λ e. omega (arith, rest, leb-true low k e))
    (λ _. rest)

-- a low key that is not above k is at most the greatest of these
pub le-low_under : (lows : List ℕ) (k i : ℕ) → i < length lows → get_or lows i 0 ≤ k → get_or lows i 0 ≤ low_under lows k
le-low_under [] k i lt le = absurd (omega arith)
le-low_under (low ∷ lows) k zero lt le = rw (le-leb low k le) (omega arith)
le-low_under (low ∷ lows) k (suc i) lt le =
    let rest = le-low_under lows k i (omega arith) le in
    cond_both (leb low k) (low ∷ filter (λ x. leb x k) lows) (filter (λ x. leb x k) lows) (λ ys. get_or lows i 0 ≤ greatest ys)
    (λ _. omega (arith, rest))
    (λ _. rest)

-- a number that no low key up to k exceeds is not below the greatest of these
pub low_under-most : (lows : List ℕ) (k m : ℕ) → ((i : ℕ) → i < length lows → get_or lows i 0 ≤ k → get_or lows i 0 ≤ m) → low_under lows k ≤ m
low_under-most [] k m most = omega arith
low_under-most (low ∷ lows) k m most =
    let rest = low_under-most lows k m (λ i lt le. most (suc i) (omega arith) le) in
    cond_both (leb low k) (low ∷ filter (λ x. leb x k) lows) (filter (λ x. leb x k) lows) (λ ys. greatest ys ≤ m)
    (λ e. omega (arith, rest, most 0 (omega arith) (leb-true low k e)))
    (λ _. rest)

-- the first place at which a test passes
first_at : (q : ℕ → Bool) (xs : List ℕ) (i : ℕ) → i < length xs → q (get_or xs i 0) ≡ true → ((j : ℕ) → j < i → q (get_or xs j 0) ≡ false)
    → position_or_len q xs ≡ i
first_at q [] i lt passes fails = absurd (omega arith)
first_at q (x ∷ xs) zero lt passes fails = rw passes refl
first_at q (x ∷ xs) (suc i) lt passes fails =
    let rest = first_at q xs i (omega arith) passes (λ j below. fails (suc j) (omega arith)) in
    rw (fails 0 (omega arith)) (omega (arith, rest))

-- the number at the first place at which a test passes does pass it
passes_there : (q : ℕ → Bool) (xs : List ℕ) → position_or_len q xs < length xs → q (get_or xs (position_or_len q xs) 0) ≡ true
passes_there q [] lt = absurd (omega arith)
passes_there q (x ∷ xs) lt =
    elim (cases_Bool (q x)) [
      | inl e ↦ rw e e
      | inr e ↦
          let n = position_or_len q xs in
          let next : 1 + n ≡ suc n = omega arith in
          let within = rw e at lt in
          rw (e, next) (passes_there q xs (omega (arith, within)))
    ]

-- where a number of the list passes a test, the first place at which it passes is in the list
found : (q : ℕ → Bool) (xs : List ℕ) (i : ℕ) → i < length xs → q (get_or xs i 0) ≡ true → position_or_len q xs < length xs
found q [] i lt passes = absurd (omega arith)
found q (x ∷ xs) zero lt passes = rw passes (omega arith)
found q (x ∷ xs) (suc i) lt passes =
    let rest = found q xs i (omega arith) passes in
    elim (cases_Bool (q x)) [
      | inl e ↦ rw e (omega arith)
      | inr e ↦ rw e (omega (arith, rest))
    ]

-- a page is the one that k lies on
pub page_of-is : (lows : List ℕ) (k p : ℕ) → p < length lows → get_or lows p 0 ≤ k
    → ((i : ℕ) → i < length lows → get_or lows i 0 ≤ k → get_or lows i 0 ≤ get_or lows p 0)
    → ((i : ℕ) → i < p → get_or lows i 0 ≡ get_or lows p 0 → ⊥)
    → page_of lows k ≡ p
unfolding page_of
page_of-is lows k p lt le most other =
    let least : low_under lows k ≤ get_or lows p 0 = low_under-most lows k (get_or lows p 0) most in
    let up : get_or lows p 0 ≤ low_under lows k = le-low_under lows k p lt le in
    let same : low_under lows k ≡ get_or lows p 0 = omega arith in
    let at : position_or_len (λ low. eqb low (low_under lows k)) lows ≡ p =
    first_at (λ low. eqb low (low_under lows k)) lows p lt (eq-eqb _ _ (sym same)) (λ i below. ne_eqb _ _ (λ e. other i below (e ∙ same))) in
    rw (at, lt-ltb p (length lows) lt) refl

-- each key lies on a page that is there
pub page_of-within : (lows : List ℕ) (k : ℕ) → 0 < length lows → page_of lows k < length lows
unfolding page_of
page_of-within lows k some =
    let n = position_or_len (λ low. eqb low (low_under lows k)) lows in
    cond_both (ltb n (length lows)) (Some n) None (λ o. unwrap_or o 0 < length lows) (λ e. ltb-true _ _ e) (λ _. some)

-- a number before the first place at which a test passes does not pass it
before_first : (q : ℕ → Bool) (xs : List ℕ) (i : ℕ) → i < position_or_len q xs → q (get_or xs i 0) ≡ false
before_first q [] i lt = absurd (omega arith)
before_first q (x ∷ xs) zero lt =
    elim (cases_Bool (q x)) [
      | inl e ↦ (let bad = rw e at lt in absurd (omega (arith, bad)))
      | inr e ↦ e
    ]
before_first q (x ∷ xs) (suc i) lt =
    elim (cases_Bool (q x)) [
      | inl e ↦ (let bad = rw e at lt in absurd (omega (arith, bad)))
      | inr e ↦ (let rest = rw e at lt in before_first q xs i (omega (arith, rest)))
    ]

-- and no page before that has that low key
pub page_of-first : (lows : List ℕ) (k i : ℕ) → i < page_of lows k → get_or lows i 0 ≡ low_under lows k → ⊥
unfolding page_of
page_of-first lows k i =
    let q : ℕ → Bool = λ low. eqb low (low_under lows k) in
    let n = position_or_len q lows in
    cond_both (ltb n (length lows)) (Some n) None (λ o. i < unwrap_or o 0 → get_or lows i 0 ≡ low_under lows k → ⊥)
    (λ e below same. true≢false (sym (eq-eqb _ _ same) ∙ before_first q lows i below))
    (λ e below same. absurd (omega arith))

-- the greatest low key that is not above k is one of them, or 0
reached : (lows : List ℕ) (k : ℕ) → (low_under lows k ≡ 0) ⊎ ((i : ℕ) × (i < length lows) × (get_or lows i 0 ≡ low_under lows k))
reached [] k = inl refl
reached (low ∷ lows) k =
    let rest = reached lows k in
    cond_both (leb low k) (low ∷ filter (λ x. leb x k) lows) (filter (λ x. leb x k) lows) (λ ys. (greatest ys ≡ 0)
    ⊎ ((i : ℕ) × (i < suc (length lows)) × (get_or (low ∷ lows) i 0 ≡ greatest ys)))
    (λ _. elim (cases_lt low (low_under lows k)) [
      | inl below ↦ elim rest [
        | inl none ↦ absurd (omega arith)
        | inr one ↦ inr (
          suc one.0,
          (let i = one.0 in let lt : i < length lows = one.1 in omega arith),
          (let e : get_or lows one.0 0 ≡ low_under lows k = one.2 in omega arith),
        )
      ]
      | inr above ↦ inr (0, omega arith, omega arith)
    ])
    (λ _. elim rest [
      | inl none ↦ inl none
      | inr one ↦ inr (suc one.0, (let i = one.0 in let lt : i < length lows = one.1 in omega arith), one.2)
    ])

-- the low key of k's page is that one
pub low_of_page : (lows : List ℕ) (k i : ℕ) → i < length lows → get_or lows i 0 ≤ k → get_or lows (page_of lows k) 0 ≡ low_under lows k
unfolding page_of
low_of_page lows k i lt le =
    let q : ℕ → Bool = λ low. eqb low (low_under lows k) in
    let n = position_or_len q lows in
    let up : get_or lows i 0 ≤ low_under lows k = le-low_under lows k i lt le in
    cond_both (ltb n (length lows)) (Some n) None (λ o. get_or lows (unwrap_or o 0) 0 ≡ low_under lows k)
    (λ e. eqb-true _ _ (passes_there q lows (ltb-true _ _ e)))
    (λ e.
    let past = ltb-false _ _ e in
    elim (reached lows k) [
      | inl none ↦ (let within = found q lows i lt (eq-eqb _ _ (let same : get_or lows i 0 ≡ low_under lows k = omega arith in same)) in absurd (omega arith))
      | inr one ↦ (let within = found q lows one.0 one.1 (eq-eqb _ _ one.2) in absurd (omega arith))
    ])

-- the page that k lies on has the greatest low key that is not above k, where there is one
pub page_of-greatest : (lows : List ℕ) (k : ℕ) → IsGreatest lows k (page_of lows k)
page_of-greatest lows k = λ q lt le.
    let low = low_of_page lows k q lt le in
    let most = low_under-le lows k in
    let up = le-low_under lows k q lt le in
    (omega arith, omega arith)

-- keys with one greatest low key under them lie on one page
page_by_low : (lows : List ℕ) (a k : ℕ) → low_under lows a ≡ low_under lows k → page_of lows a ≡ page_of lows k
unfolding page_of
page_by_low lows a k e = ap (λ m. unwrap_or (position (λ low. eqb low m) lows) 0) e

-- a key not below a lies on a's page, or on one whose low key is above a
pub page_of-from : (lows : List ℕ) (a k : ℕ) → a ≤ k
    → (page_of lows a ≡ page_of lows k) ⊎ ((i : ℕ) × (i < length lows) × (a < get_or lows i 0) × (get_or lows i 0 ≤ k)
    × (page_of lows (get_or lows i 0) ≡ page_of lows k))
page_of-from lows a k le =
    let m = low_under lows k in
    let up : low_under lows a ≤ m = low_under-most lows a m (λ i lt low. le-low_under lows k i lt (omega arith)) in
    let most : m ≤ k = low_under-le lows k in
    elim (reached lows k) [
      | inl none ↦ inl (page_by_low lows a k (omega (arith, up, none)))
      | inr one ↦
          let i = one.0 in
          let lt : i < length lows = one.1 in
          let is : get_or lows i 0 ≡ m = one.2 in
          elim (cases_lt a (get_or lows i 0)) [
            | inl above ↦
                let own : get_or lows i 0 ≤ low_under lows (get_or lows i 0) = le-low_under lows (get_or lows i 0) i lt (omega arith) in
                let least = low_under-le lows (get_or lows i 0) in
                inr (i, lt, above, omega (arith, is, most), page_by_low lows (get_or lows i 0) k (omega (arith, own, least, is)))
            | inr not ↦
                let down : get_or lows i 0 ≤ low_under lows a = le-low_under lows a i lt (omega (arith, not)) in
                inl (page_by_low lows a k (omega (arith, up, down, is)))
          ]
    ]
