-- Lists of pages: whose numbers they have, and how long they are.
use Rattle.std.proofs.Common.{Bool, List, [], ap, arith, false, inl, inr, length, refl, subst, suc, sym, true, ℕ, ◌+◌, ◌∙◌, ◌∷◌, ◌≡◌, ◌≤◌}
use Rattle.std.proofs.lemmas.Bool.{cond_both, eq-eqb, eqb-false, ltb-false, ltb-true, or_left, or_parts, or_right}
use Rattle.std.specs.Prelude.{Some, nat_lt, ◌==◌, ◌||◌, ◌⊎◌}
use Rattle.zy_model.specs.Leaf.{Leaf}
use Rattle.zy_table.specs.Numbers.{least, least_with}
use Rattle.zy_table.specs.Order.{NumbersRise}
use Rattle.zy_table.specs.Pages.{lowered, numbers, owns, with_page}

-- the first two of three sides of a disjunction may change places
or_swap : (a b c : Bool) → (a || (b || c)) ≡ (b || (a || c))
or_swap true true c = refl
or_swap true false c = refl
or_swap false b c = refl

-- pages with one more have its number, and the numbers that they had
pub owns-with_page : (p : ℕ) (leaf : Leaf) (xs : List Leaf) → owns (with_page leaf xs) p ≡ ((leaf.number == p) || owns xs p)
owns-with_page p leaf [] = refl
owns-with_page p leaf (x ∷ xs) =
    cond_both (nat_lt leaf.number x.number) (leaf ∷ x ∷ xs) (x ∷ with_page leaf xs) (λ y. owns y p ≡ ((leaf.number == p) || ((x.number == p) || owns xs p)))
    (λ _. refl)
    (λ _. ap (λ b. (x.number == p) || b) (owns-with_page p leaf xs) ∙ or_swap (x.number == p) (leaf.number == p) (owns xs p))

-- pages of which one is cut have the numbers that they had
pub owns-lowered : (p b : ℕ) (xs : List Leaf) (q : ℕ) → owns (lowered p b xs) q ≡ owns xs q
owns-lowered p b [] q = refl
owns-lowered p b (x ∷ xs) q = ap (λ c. (x.number == q) || c) (owns-lowered p b xs q)

-- pages with one more are one more
pub length-with_page : (leaf : Leaf) (xs : List Leaf) → length (with_page leaf xs) ≡ length xs + 1
length-with_page leaf [] = refl
length-with_page leaf (x ∷ xs) =
    let e = length-with_page leaf xs in
    cond_both (nat_lt leaf.number x.number) (leaf ∷ x ∷ xs) (x ∷ with_page leaf xs) (λ ys. length ys ≡ suc (length xs) + 1) (λ _. omega arith)
    (λ _. omega arith)

-- pages of which one is cut are as many as they were
pub length-lowered : (p b : ℕ) (xs : List Leaf) → length (lowered p b xs) ≡ length xs
length-lowered p b [] = refl
length-lowered p b (x ∷ xs) = ap suc (length-lowered p b xs)

-- the numbers of the pages still rise with one page more whose number is new
pub numbers-with_page : (low : ℕ) (leaf : Leaf) (xs : List Leaf) → low ≤ leaf.number → owns xs leaf.number ≡ false → NumbersRise low (numbers xs)
    → NumbersRise low (numbers (with_page leaf xs))
numbers-with_page low leaf [] le new h = (le, tt)
numbers-with_page low leaf (x ∷ xs) le new h =
    let parts = or_parts (x.number == leaf.number) (owns xs leaf.number) new in
    cond_both (nat_lt leaf.number x.number) (leaf ∷ x ∷ xs) (x ∷ with_page leaf xs) (λ ys. NumbersRise low (numbers ys))
    (λ e. let under = ltb-true _ _ e in (le, ((omega arith), h.1)))
    (λ e. let over = ltb-false _ _ e in let other = eqb-false _ _ parts.0 in (h.0, numbers-with_page (x.number + 1) leaf xs (omega (arith, other)) parts.1 h.1))

-- the least of the numbers here is that of a page here
least_with-owns : (x : ℕ) (xs : List Leaf) → (least_with x (numbers xs) ≡ x) ⊎ (owns xs (least_with x (numbers xs)) ≡ true)
least_with-owns x [] = inl refl
least_with-owns x (y ∷ ys) =
    cond_both (nat_lt y.number x) y.number x (λ z. (least_with z (numbers ys) ≡ x) ⊎ (owns (y ∷ ys) (least_with z (numbers ys)) ≡ true))
    (λ _. elim (least_with-owns y.number ys) [ inl h ↦ inr (or_left _ _ (eq-eqb _ _ (sym h))) | inr h ↦ inr (or_right _ _ h) ])
    (λ _. elim (least_with-owns x ys) [ inl h ↦ inl h | inr h ↦ inr (or_right _ _ h) ])

-- the least of the numbers of some pages, if there is one, is that of one of them
pub least-owns : (xs : List Leaf) (p : ℕ) → least (numbers xs) ≡ Some p → owns xs p ≡ true
least-owns [] p e = cc
least-owns (x ∷ xs) p e =
    let same : least_with x.number (numbers xs) ≡ p = cc in
    elim (least_with-owns x.number xs) [
      | inl h ↦ or_left _ _ (eq-eqb _ _ (sym h ∙ same))
      | inr h ↦ or_right _ _ (subst (λ (z : ℕ). owns xs z ≡ true) same h)
    ]
