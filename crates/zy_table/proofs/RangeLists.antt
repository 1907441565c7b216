-- The keys of a range and their pages.
use Rattle.std.proofs.Common.{Bool, List, [], ap, arith, false, get_or, inl, inr, length, refl, suc, sym, true, zero, ℕ, ◌++◌, ◌+◌, ◌-◌, ◌<◌, ◌≤◌, ◌∙◌, ◌∷◌}
use Rattle.std.proofs.Common.{◌≡◌}
use Rattle.std.specs.Prelude.{None, Some, map, nat_le, nat_lt, ◌&&◌, ◌==◌, ◌⊎◌}
use Rattle.std.specs.List.{find}
use Rattle.std.proofs.lemmas.Bool.{and_from, cond_both, eq-eqb, eqb-true, false≢true, le-leb, lt-ltb, or_cases, or_left, or_right}
use Rattle.zy_model.specs.Wireframe.{page_of}
use Rattle.zy_model.proofs.PageOf.{page_of-from}
use Rattle.zy_table.specs.Keys.{put_key}
use Rattle.zy_table.specs.Numbers.{has}
use Rattle.zy_table.specs.Ranges.{keys_on, lows_within, range, range_pages, total}

-- a list has its first number
pub has_first : (x : ℕ) (xs : List ℕ) → has (x ∷ xs) x ≡ true
has_first x xs = or_left _ _ (eq-eqb x x refl)

-- a list has each number of the list behind its first
pub has_rest : (x q : ℕ) (xs : List ℕ) → has xs q ≡ true → has (x ∷ xs) q ≡ true
has_rest x q xs h = or_right _ _ h

-- one list behind another
pub has_front : (xs ys : List ℕ) (q : ℕ) → has xs q ≡ true → has (xs ++ ys) q ≡ true
has_front [] ys q h = absurd (false≢true h)
has_front (x ∷ xs) ys q h = elim (or_cases (x == q) (has xs q) h) [ inl e ↦ or_left _ _ e | inr e ↦ or_right _ _ (has_front xs ys q e) ]

-- two lists in a row have each number of the second
pub has_back : (xs ys : List ℕ) (q : ℕ) → has ys q ≡ true → has (xs ++ ys) q ≡ true
has_back [] ys q h = h
has_back (x ∷ xs) ys q h = or_right _ _ (has_back xs ys q h)

-- each number of two lists in a row is in one of them
pub has_either : (xs ys : List ℕ) (q : ℕ) → has (xs ++ ys) q ≡ true → (has xs q ≡ true) ⊎ (has ys q ≡ true)
has_either [] ys q h = inr h
has_either (x ∷ xs) ys q h =
    elim (or_cases (x == q) (has (xs ++ ys) q) h) [
      | inl e ↦ inl (or_left _ _ e)
      | inr e ↦ elim (has_either xs ys q e) [ inl i ↦ inl (or_right _ _ i) | inr i ↦ inr i ]
    ]

-- among the keys from k on
within_keys : (n k q : ℕ) → has (keys_on n k) q ≡ true → (k ≤ q) × (q < k + n)
within_keys zero k q h = absurd (false≢true h)
within_keys (suc n) k q h =
    elim (or_cases (k == q) (has (keys_on n (k + 1)) q) h) [
      | inl e ↦ let same = eqb-true _ _ e in (omega (arith, same), omega (arith, same))
      | inr e ↦ let rest = within_keys n (k + 1) q e in let a = rest.0 in let b = rest.1 in (omega (arith, a), omega (arith, b))
    ]

-- a key of the range from a to b is at least a and at most b
pub within_range : (a b k : ℕ) → has (range a b) k ≡ true → (a ≤ k) × (k ≤ b)
within_range a b k h = let r = within_keys (b + 1 - a) a k h in let x = r.0 in let y = r.1 in (x, omega (arith, x, y))

-- a key that is put among others
pub has-put_new : (k : ℕ) (xs : List ℕ) → has (put_key k xs) k ≡ true
has-put_new k [] = has_first k []
has-put_new k (x ∷ xs) = cond_both (nat_le k x) (k ∷ x ∷ xs) (x ∷ put_key k xs) (λ y. has y k ≡ true) (λ _. has_first k (x ∷ xs))
    (λ _. has_rest x k (put_key k xs) (has-put_new k xs))

-- keys with one put among them have each key that they had
pub has-put_old : (k : ℕ) (xs : List ℕ) (q : ℕ) → has xs q ≡ true → has (put_key k xs) q ≡ true
has-put_old k [] q h = absurd (false≢true h)
has-put_old k (x ∷ xs) q h =
    cond_both (nat_le k x) (k ∷ x ∷ xs) (x ∷ put_key k xs) (λ y. has y q ≡ true)
    (λ _. has_rest k q (x ∷ xs) h)
    (λ _. elim (or_cases (x == q) (has xs q) h) [ inl e ↦ or_left _ _ e | inr e ↦ has_rest x q (put_key k xs) (has-put_old k xs q e) ])

-- each low key above a and not above b is among the low keys of the range
pub has-within : (a b : ℕ) (lows : List ℕ) (i : ℕ) → i < length lows → a < get_or lows i 0 → get_or lows i 0 ≤ b
    → has (lows_within a b lows) (get_or lows i 0) ≡ true
has-within a b [] i lt above below = absurd (omega arith)
has-within a b (x ∷ xs) zero lt above below =
    let yes : (nat_lt a x && nat_le x b) ≡ true = and_from _ _ (lt-ltb a x above) (le-leb x b below) in
    rw yes (has-put_new x (lows_within a b xs))
has-within a b (x ∷ xs) (suc i) lt above below =
    let rest = has-within a b xs i (omega arith) above below in
    cond_both (nat_lt a x && nat_le x b) (put_key x (lows_within a b xs)) (lows_within a b xs) (λ y. has y (get_or xs i 0) ≡ true)
    (λ _. has-put_old x (lows_within a b xs) (get_or xs i 0) rest) (λ _. rest)

-- a mapped list has f x where the list has x
has-map : (f : ℕ → ℕ) (xs : List ℕ) (x : ℕ) → has xs x ≡ true → has (map f xs) (f x) ≡ true
has-map f [] x h = absurd (false≢true h)
has-map f (y ∷ ys) x h =
    elim (or_cases (y == x) (has ys x) h) [
      | inl e ↦ or_left _ _ (eq-eqb _ _ (ap f (eqb-true _ _ e)))
      | inr e ↦ or_right _ _ (has-map f ys x e)
    ]

-- each key of a range lies on one of the range's pages
pub on_range_page : (lows : List ℕ) (a b k : ℕ) → has (range a b) k ≡ true → has (range_pages lows a b) (page_of lows k) ≡ true
on_range_page lows a b k h =
    let r = within_range a b k h in
    let below : k ≤ b = r.1 in
    elim (page_of-from lows a k r.0) [
      | inl same ↦ rw (← same) (has_first (page_of lows a) (map (page_of lows) (lows_within a b lows)))
      | inr one ↦
          let low : get_or lows one.0 0 ≤ k = one.3 in
          rw (← one.4) (has_rest (page_of lows a) _ (map (page_of lows) (lows_within a b lows))
          (has-map (page_of lows) (lows_within a b lows) (get_or lows one.0 0) (has-within a b lows one.0 one.1 one.2 (omega (arith, low, below)))))
    ]

-- each of the pages of some keys is the page of a key
paged : (lows ks : List ℕ) (p : ℕ) → has (map (page_of lows) ks) p ≡ true → (k : ℕ) × (page_of lows k ≡ p)
paged lows [] p h = absurd (false≢true h)
paged lows (k ∷ ks) p h =
    elim (or_cases (page_of lows k == p) (has (map (page_of lows) ks) p) h) [
      | inl e ↦ (k, eqb-true _ _ e)
      | inr e ↦ paged lows ks p e
    ]

-- and each of these is the page of some key
pub key_of_page : (lows : List ℕ) (a b p : ℕ) → has (range_pages lows a b) p ≡ true → (k : ℕ) × (page_of lows k ≡ p)
key_of_page lows a b p h = paged lows (a ∷ lows_within a b lows) p h

-- what is found in a list of numbers is one of them, and passes
pub found_has : (q : ℕ → Bool) (xs : List ℕ) (x : ℕ) → find q xs ≡ Some x → (has xs x ≡ true) × (q x ≡ true)
found_has q [] x h = cc
found_has q (y ∷ ys) x h =
    cond_both (q y) (Some y) (find q ys) (λ o. o ≡ Some x → (has (y ∷ ys) x ≡ true) × (q x ≡ true))
    (λ e g. let same : y ≡ x = cc in rw (← same) (has_first y ys, e))
    (λ _ g. let rest = found_has q ys x g in (has_rest y x ys rest.0, rest.1)) h

-- where nothing is found none passes
pub none_passes : (q : ℕ → Bool) (xs : List ℕ) (x : ℕ) → find q xs ≡ None → has xs x ≡ true → q x ≡ false
none_passes q [] x h k = absurd (false≢true k)
none_passes q (y ∷ ys) x h k =
    cond_both (q y) (Some y) (find q ys) (λ o. o ≡ None → q x ≡ false)
    (λ _ g. cc)
    (λ e g. elim (or_cases (y == x) (has ys x) k) [
      | inl same ↦ ap q (sym (eqb-true _ _ same)) ∙ e
      | inr rest ↦ none_passes q ys x g rest
    ]) h

-- values that are equal at each of some keys have equal totals over these
pub total_same : (f g : ℕ → ℕ) (ks : List ℕ) → ((k : ℕ) → has ks k ≡ true → f k ≡ g k) → total f ks ≡ total g ks
total_same f g [] h = refl
total_same f g (k ∷ ks) h =
    let first = h k (has_first k ks) in
    let rest = total_same f g ks (λ q e. h q (has_rest k q ks e)) in
    omega (arith, first, rest)
