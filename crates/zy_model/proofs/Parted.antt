-- Rows in key order, parted at a boundary.
use Rattle.std.proofs.Common.{Bool, List, None, [], arith, false, inl, inr, leb, length, ltb, refl, suc, true, ℕ, ◌∙◌, ◌∷◌, ◌≡◌, ◌≤◌}
use Rattle.std.specs.Prelude.{filter, if◌then◌else◌}
use Rattle.std.proofs.lemmas.Bool.{lt-ltb, le-ltb, leb-true, leb-false, cond_both, cases_eq}
use Rattle.zy_isa.specs.declared.row.Row.{Row}
use Rattle.zy_isa.specs.Rows.{Rising, get_row}
use Rattle.zy_model.specs.Leaf.{rows_below, rows_from}
use Rattle.zy_model.proofs.Rows.{get_row_same, get_row_past}

-- rows that rise from a number on rise from each lower one
pub Rising-lower : (low high : ℕ) (rows : List Row) → Rising high rows → low ≤ high → Rising low rows
Rising-lower low high [] h le = tt
Rising-lower low high (r ∷ rows) h le = (omega (arith, h.0), h.1)

-- no more rows pass a test than there are
pub length-filter : (p : Row → Bool) (rows : List Row) → length (filter p rows) ≤ length rows
length-filter p [] = omega arith
length-filter p (r ∷ rows) =
    let rest = length-filter p rows in
    cond_both (p r) (r ∷ filter p rows) (filter p rows) (λ ys. length ys ≤ suc (length rows)) (λ _. omega (arith, rest)) (λ _. omega (arith, rest))

-- a key has the value that it had, on its side of the boundary
pub get_row-rows_below : (b : ℕ) (rows : List Row) (k : ℕ) → get_row (rows_below b rows) k ≡ (if ltb k b then get_row rows k else None)
get_row-rows_below b [] k = cond_both (ltb k b) None None (λ o. None ≡ o) (λ _. refl) (λ _. refl)
get_row-rows_below b (r ∷ rows) k =
    let rest = get_row-rows_below b rows k in
    elim (cases_eq r.key k) [
      | inl same ↦ cond_both (ltb r.key b) (r ∷ rows_below b rows) (rows_below b rows) (λ ys. get_row ys k ≡ (if ltb k b then get_row (r ∷ rows) k else None))
          (λ e. let below : ltb k b ≡ true = rw (← same) e in rw (below, get_row_same k r (rows_below b rows) same, get_row_same k r rows same) refl)
          (λ e. let above : ltb k b ≡ false = rw (← same) e in rest ∙ rw above refl)
      | inr other ↦ cond_both (ltb r.key b) (r ∷ rows_below b rows) (rows_below b rows) (λ ys. get_row ys k ≡ (if ltb k b then get_row (r ∷ rows) k else None))
          (λ _. rw (get_row_past k r (rows_below b rows) other, get_row_past k r rows other) rest)
          (λ _. rw (get_row_past k r rows other) rest)
    ]

-- the same for the rows at or above the boundary
pub get_row-rows_from : (b : ℕ) (rows : List Row) (k : ℕ) → get_row (rows_from b rows) k ≡ (if ltb k b then None else get_row rows k)
get_row-rows_from b [] k = cond_both (ltb k b) None None (λ o. None ≡ o) (λ _. refl) (λ _. refl)
get_row-rows_from b (r ∷ rows) k =
    let rest = get_row-rows_from b rows k in
    elim (cases_eq r.key k) [
      | inl same ↦ cond_both (leb b r.key) (r ∷ rows_from b rows) (rows_from b rows) (λ ys. get_row ys k ≡ (if ltb k b then None else get_row (r ∷ rows) k))
          (λ e. let le = leb-true _ _ e in rw (le-ltb k b (omega arith), get_row_same k r (rows_from b rows) same, get_row_same k r rows same) refl)
          (λ e. let lt = leb-false _ _ e in let below : ltb k b ≡ true = lt-ltb k b (omega arith) in rest ∙ rw below refl)
      | inr other ↦ cond_both (leb b r.key) (r ∷ rows_from b rows) (rows_from b rows) (λ ys. get_row ys k ≡ (if ltb k b then None else get_row (r ∷ rows) k))
          (λ _. rw (get_row_past k r (rows_from b rows) other, get_row_past k r rows other) rest)
          (λ _. rw (get_row_past k r rows other) rest)
    ]
