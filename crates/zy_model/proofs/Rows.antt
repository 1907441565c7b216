-- Laws of rows in key order.
use Rattle.std.proofs.Common.{◌≡◌, ℕ, ◌+◌, ◌<◌, ◌≤◌, ◌^◌, List, [], ◌∷◌, length, refl, arith, Some, None, is_some, true, inl, inr}
use Rattle.std.proofs.lemmas.Bool.{eq-eqb, ne_eqb, lt-ltb, le-ltb, cases_order}
use Rattle.zy_isa.specs.declared.row.Row.{Row}
use Rattle.zy_isa.specs.Rows.{Rising, RowsFit, row, get_row, put_row}

-- the three ways to put a row at the front of rows
pub put_row_same : (k v : ℕ) (r : Row) (rows : List Row) → k ≡ r.key → put_row k v (r ∷ rows) ≡ row k v ∷ rows
put_row_same k v r rows e = rw (eq-eqb k r.key e) refl

-- a row with a key below the first row's is put before it
pub put_row_below : (k v : ℕ) (r : Row) (rows : List Row) → k < r.key → put_row k v (r ∷ rows) ≡ row k v ∷ r ∷ rows
put_row_below k v r rows lt = rw (ne_eqb k r.key (λ e. absurd (omega arith)), lt-ltb k r.key lt) refl

-- a row with a key above the first row's is put among those behind it
pub put_row_above : (k v : ℕ) (r : Row) (rows : List Row) → r.key < k → put_row k v (r ∷ rows) ≡ r ∷ put_row k v rows
put_row_above k v r rows lt = rw (ne_eqb k r.key (λ e. absurd (omega arith)), le-ltb k r.key (omega arith)) refl

-- the value at the first row's key, and past it
pub get_row_same : (k : ℕ) (r : Row) (rows : List Row) → r.key ≡ k → get_row (r ∷ rows) k ≡ Some r.value
get_row_same k r rows e = rw (eq-eqb r.key k e) refl

-- a key that is not the first row's has its value among the others
pub get_row_past : (k : ℕ) (r : Row) (rows : List Row) → (r.key ≡ k → ⊥) → get_row (r ∷ rows) k ≡ get_row rows k
get_row_past k r rows ne = rw (ne_eqb r.key k ne) refl

-- rows that rise from above k have no value at k
pub get_row_below : (k low : ℕ) (rows : List Row) → Rising low rows → k < low → get_row rows k ≡ None
get_row_below k low [] h lt = refl
get_row_below k low (r ∷ rows) h lt = rw (get_row_past k r rows (λ e. absurd (omega (arith, h.0)))) (get_row_below k (r.key + 1) rows h.1 (omega (arith, h.0)))

-- keys still rise
pub Rising-put_row : (low k v : ℕ) (rows : List Row) → Rising low rows → low ≤ k → Rising low (put_row k v rows)
Rising-put_row low k v [] h le = (le, tt)
Rising-put_row low k v (r ∷ rows) h le =
    elim (cases_order k r.key) [
      | inl e ↦ rw (put_row_same k v r rows e) (le, rw e h.1)
      | inr (inl lt) ↦ rw (put_row_below k v r rows lt) (le, (omega arith, h.1))
      | inr (inr gt) ↦ rw (put_row_above k v r rows gt) (h.0, Rising-put_row (r.key + 1) k v rows h.1 (omega arith))
    ]

-- what fits still fits
pub RowsFit-put_row : (k v : ℕ) (rows : List Row) → RowsFit rows → k < 2 ^ 16 → v < 2 ^ 32 → RowsFit (put_row k v rows)
RowsFit-put_row k v [] h key value = (key, value, tt)
RowsFit-put_row k v (r ∷ rows) h key value =
    elim (cases_order k r.key) [
      | inl e ↦ rw (put_row_same k v r rows e) (key, value, h.2)
      | inr (inl lt) ↦ rw (put_row_below k v r rows lt) (key, value, h)
      | inr (inr gt) ↦ rw (put_row_above k v r rows gt) (h.0, h.1, RowsFit-put_row k v rows h.2 key value)
    ]

-- a row over another is none more
pub length-put_row_same : (low k v : ℕ) (rows : List Row) → Rising low rows → is_some (get_row rows k) ≡ true → length (put_row k v rows) ≡ length rows
length-put_row_same low k v [] h some = (cc)
length-put_row_same low k v (r ∷ rows) h some =
    elim (cases_order k r.key) [
      | inl e ↦ rw (put_row_same k v r rows e) refl
      | inr (inl lt) ↦
          let bad = rw (get_row_past k r rows (λ e. absurd (omega arith)), get_row_below k (r.key + 1) rows h.1 (omega arith)) at some in
          cc
      | inr (inr gt) ↦
          let rest = rw (get_row_past k r rows (λ e. absurd (omega arith))) at some in
          rw (put_row_above k v r rows gt) (omega (arith, length-put_row_same (r.key + 1) k v rows h.1 rest))
    ]
