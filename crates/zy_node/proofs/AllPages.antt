-- Where as many pages are here as there may be, each is.
use Rattle.std.proofs.Common.{◌≡◌, ℕ, suc, ◌+◌, ◌<◌, ◌≤◌, List, [], ◌∷◌, length, refl, arith, true, inl, inr, Option, Some, None}
use Rattle.std.specs.Prelude.{◌==◌}
use Rattle.std.proofs.lemmas.Bool.{cases_lt, eq-eqb, eqb-true, false≢true, or_cases, or_left, or_right}
use Rattle.zy_isa.specs.declared.row.Row.{Row}
use Rattle.zy_model.specs.Leaf.{Leaf}
use Rattle.zy_table.specs.Order.{NumbersRise}
use Rattle.zy_table.specs.Pages.{numbers, owns}
use Rattle.zy_table.specs.Run.{gone_pages}
use Rattle.zy_table.specs.State.{NodeState}
use Rattle.zy_model.specs.Wireframe.{page_of}
use Rattle.zy_model.proofs.PageOf.{page_of-within}
use Rattle.zy_node.specs.Nodes.{OwnsAll}
use Rattle.zy_node.specs.Slots.{laid_out, InPlace}
use Rattle.zy_node.proofs.SlotLemmas.{few_slots}

-- a page that is here has no lower number than the first may have
owns_above : (m q : ℕ) (xs : List Leaf) → NumbersRise m (numbers xs) → owns xs q ≡ true → m ≤ q
owns_above m q [] h own = absurd (false≢true own)
owns_above m q (x ∷ xs) h own = elim (or_cases (x.number == q) (owns xs q) own) [
  | inl e ↦ let same = eqb-true _ _ e in omega (arith, same, h.0)
  | inr e ↦ let above = owns_above (x.number + 1) q xs h.1 e in omega (arith, above, h.0)
]

-- there are no fewer pages than numbers that are all here
pub all_counted : (m n : ℕ) (xs : List Leaf) → NumbersRise m (numbers xs) → ((q : ℕ) → m ≤ q → q < n → owns xs q ≡ true) → n ≤ m + length xs
all_counted m n [] h all = elim (cases_lt m n) [ inl lt ↦ absurd (false≢true (all m (omega arith) lt)) | inr le ↦ omega (arith, le) ]
all_counted m n (x ∷ xs) h all = elim (cases_lt m n) [
  | inr le ↦ omega (arith, le)
  | inl lt ↦ elim (or_cases (x.number == m) (owns xs m) (all m (omega arith) lt)) [
    | inr e ↦ let above = owns_above (x.number + 1) m xs h.1 e in absurd (omega (arith, above, h.0))
    | inl e ↦
        let same = eqb-true _ _ e in
        let more = all_counted (x.number + 1) n xs h.1 (λ q low high. elim (or_cases (x.number == q) (owns xs q) (all q (omega (arith, low, h.0)) high)) [
          | inl f ↦ let is = eqb-true _ _ f in absurd (omega (arith, is, low))
          | inr f ↦ f
        ]) in
        omega (arith, same, more)
  ]
]

-- where there are as many pages as slots, each slot has its page
pub all_filled : (m : ℕ) (s : List (Option Leaf)) → InPlace m s → length s ≤ length (laid_out s) → (q : ℕ) → m ≤ q → q < m + length s
    → owns (laid_out s) q ≡ true
all_filled m [] h full q low high = absurd (omega (arith, low, high))
all_filled m (None ∷ s) h full q low high = let few = few_slots s in absurd (omega (arith, few, full))
all_filled m (Some x ∷ s) h full q low high = elim (cases_lt m q) [
  | inl lt ↦ or_right _ _ (all_filled (suc m) s h.1 (omega (arith, full)) q (omega (arith, lt)) (omega (arith, high)))
  | inr le ↦ or_left _ _ (eq-eqb x.number q (omega (arith, h.0, le, low)))
]

-- so no row's page has gone
pub none_gone : (x : NodeState) (rows : List Row) → OwnsAll x → gone_pages x rows ≡ []
none_gone x [] all = refl
none_gone x (r ∷ rows) all = rw (all.1 (page_of x.lows r.key) (page_of-within x.lows r.key all.0)) (none_gone x rows all)
