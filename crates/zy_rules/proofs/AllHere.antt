-- No page of a wireframe is missing if and only if there are as many pages as low keys.
use Rattle.std.proofs.Common.{◌≡◌, ◌∙◌, ℕ, zero, suc, ◌+◌, ◌<◌, ◌≤◌, List, [], ◌∷◌, length, refl, sym, ap, subst, arith, Bool, true, false, inl, inr, is_some}
use Rattle.std.specs.Prelude.{◌==◌, ◌&&◌}
use Rattle.std.proofs.Math.Dec.{eqb-suc-suc, eqb-zero-suc}
use Rattle.std.proofs.Math.Nat.{add-zero}
use Rattle.std.proofs.lemmas.Bool.{cases_eq, eq-eqb, eqb-true, ne_eqb, or_cases, or_right}
use Rattle.zy_model.specs.Leaf.{Leaf}
use Rattle.zy_model.specs.Messages.{Page}
use Rattle.zy_table.specs.State.{NodeState}
use Rattle.zy_table.specs.Order.{NumbersRise}
use Rattle.zy_table.specs.Pages.{numbers, owns}
use Rattle.zy_table.specs.Change.{with_arrived}
use Rattle.zy_table.specs.Take.{all_below, all_here}
use Rattle.zy_rules.specs.Arrivals.{IsNamed, IsNew}
use Rattle.zy_node.proofs.PageLemmas.{owns_head}
use Rattle.zy_table.proofs.PageLists.{length-with_page, numbers-with_page}
use Rattle.zy_table.proofs.PageFinds.{owns-page_in}
use Rattle.zy_table.proofs.PageLists.{owns-with_page}

-- the k numbers from one on are those of pages here
abbrev all_from : List Leaf → ℕ → ℕ → Bool
all_from xs low zero = true
all_from xs low (suc k) = owns xs low && all_from xs (suc low) k

-- each page here has a number below this one
abbrev AllBelow : List Leaf → ℕ → Type 0
AllBelow xs n = (q : ℕ) → owns xs q ≡ true → q < n

-- if each page has a number below n, so has each behind the first
under_rest : (x : Leaf) (xs : List Leaf) (n : ℕ) → AllBelow (x ∷ xs) n → AllBelow xs n
under_rest x xs n all q own = all q (or_right _ _ own)

-- a number below a rising list
owns_under : (low q : ℕ) (xs : List Leaf) → NumbersRise low (numbers xs) → q < low → owns xs q ≡ false
owns_under low q [] h lt = refl
owns_under low q (x ∷ xs) h lt = let first = h.0 in rw (ne_eqb x.number q (λ e. absurd (omega (arith, first, e))))
    (owns_under (x.number + 1) q xs h.1 (omega (arith, first)))

-- the first of a rising list is none of those behind it
all_from-rest : (x : Leaf) (xs : List Leaf) (low k : ℕ) → x.number < low → all_from (x ∷ xs) low k ≡ all_from xs low k
all_from-rest x xs low zero lt = refl
all_from-rest x xs low (suc k) lt = rw (ne_eqb x.number low (λ e. absurd (omega (arith, e))))
    (ap (λ b. owns xs low && b) (all_from-rest x xs (suc low) k (omega arith)))

-- as many numbers as lie between two
few_between : (low k : ℕ) (xs : List Leaf) → NumbersRise low (numbers xs) → AllBelow xs (low + k) → length xs ≤ k
few_between low k [] h all = omega arith
few_between low zero (x ∷ xs) h all = let first = h.0 in let last = all x.number (owns_head x xs) in absurd (omega (arith, first, last))
few_between low (suc k) (x ∷ xs) h all =
    let first = h.0 in
    let few = few_between (x.number + 1) k xs h.1 (λ q own. let last = under_rest x xs (low + suc k) all q own in omega (arith, first, last)) in
    omega (arith, few)

-- where the numbers of the pages rise from one on and stay among the k from there, these are all here if and only if there are k pages
all_from-count : (low k : ℕ) (xs : List Leaf) → NumbersRise low (numbers xs) → AllBelow xs (low + k) → all_from xs low k ≡ (length xs == k)
all_from-count low zero [] h all = refl
all_from-count low (suc k) [] h all = sym (eqb-zero-suc k)
all_from-count low zero (x ∷ xs) h all = let first = h.0 in let last = all x.number (owns_head x xs) in absurd (omega (arith, first, last))
all_from-count low (suc k) (x ∷ xs) h all =
    let first = h.0 in
    elim (cases_eq x.number low) [
      | inl e ↦
          let next : x.number + 1 ≡ suc low = omega (arith, e) in
          let behind : NumbersRise (suc low) (numbers xs) = subst (λ m. NumbersRise m (numbers xs)) next h.1 in
          rw (eq-eqb x.number low e, all_from-rest x xs (suc low) k (omega (arith, e)), eqb-suc-suc (length xs) k)
          (all_from-count (suc low) k xs behind (λ q own. let last = under_rest x xs (low + suc k) all q own in omega (arith, last)))
      | inr ne ↦
          let few = few_between (suc low) k (x ∷ xs) (omega (arith, first, ne), h.1) (λ q own. let last = all q own in omega (arith, last)) in
          rw (
            ne_eqb x.number low ne,
            owns_under (x.number + 1) low xs h.1 (omega (arith, first)),
            eqb-suc-suc (length xs) k,
            ne_eqb (length xs) k (λ e. absurd (omega (arith, few, e))),
          ) refl
    ]

-- the first two of three sides of a conjunction may change places
exchange : (a b c : Bool) → (a && (b && c)) ≡ (b && (a && c))
exchange true b c = refl
exchange false true c = refl
exchange false false c = refl

-- the last number as the first
all_from-last : (xs : List Leaf) (low k : ℕ) → all_from xs low (suc k) ≡ (owns xs (low + k) && all_from xs low k)
all_from-last xs low zero = rw (add-zero low) refl
all_from-last xs low (suc k) =
    ap (λ b. owns xs low && b) (all_from-last xs (suc low) k) ∙ (exchange (owns xs low) (owns xs (suc low + k)) (all_from xs (suc low) k)
    ∙ ap (λ n. owns xs n && (owns xs low && all_from xs (suc low) k)) (omega arith))

-- each number below n is that of a page here if and only if the n from 0 on are
all_below-from : (xs : List Leaf) (n : ℕ) → all_below xs n ≡ all_from xs 0 n
all_below-from xs zero = refl
all_below-from xs (suc n) = ap (λ b. owns xs n && b) (all_below-from xs n) ∙ (ap (λ m. owns xs m && all_from xs 0 n) (omega arith) ∙ sym (all_from-last xs 0 n))

-- pages that rise and have numbers of the wireframe
pub all_here-count : (x : NodeState) → IsNamed x → NumbersRise 0 (numbers x.pages) → (length x.pages == length x.lows) ≡ all_here x
all_here-count x named rise = sym (all_below-from x.pages (length x.lows)
    ∙ all_from-count 0 (length x.lows) x.pages rise (λ q own. let lt = named q own in omega (arith, lt)))

-- the same with a page that comes
pub all_here-arrived : (x : NodeState) (leaf : Leaf) → IsNamed x → IsNew (Page leaf) x → NumbersRise 0 (numbers x.pages)
    → (length x.pages + 1 == length x.lows) ≡ all_here (with_arrived leaf x)
all_here-arrived x leaf named new rise =
    let absent = owns-page_in leaf.number x.pages ∙ ap is_some new.1 in
    ap (λ n. n == length x.lows) (sym (length-with_page leaf x.pages))
    ∙ all_here-count (with_arrived leaf x)
    (λ q own. elim (or_cases (leaf.number == q) (owns x.pages q) (sym (owns-with_page q leaf x.pages) ∙ own)) [
      | inl e ↦
          subst (λ p. p < length x.lows) (eqb-true _ _ e) new.0
      | inr e ↦ named q e
    ])
    (numbers-with_page 0 leaf x.pages (omega arith) absent rise)
