-- Rows in key order, parted at a boundary.
use Rattle.std.proofs.Common.{Bool, List, [], ap, arith, drop, leb, refl, suc, take, zero, ℕ, ◌+◌, ◌∷◌, ◌≡◌, ◌≤◌}
use Rattle.std.specs.Prelude.{filter}
use Rattle.std.proofs.lemmas.Bool.{lt-ltb, le-ltb, le-leb, lt-leb, leb-true, cond_both}
use Rattle.zy_isa.specs.declared.row.Row.{Row}
use Rattle.zy_isa.specs.Rows.{Rising, RowsFit}
use Rattle.zy_model.specs.Leaf.{rows_below, rows_from}
use Rattle.zy_page.specs.Place.{IsRowPlace}
use Rattle.zy_page.specs.RowLists.{AreKept}
use Rattle.zy_model.proofs.Parted.{Rising-lower}
use Rattle.zy_page.proofs.Found.{place_rest, front_below}

-- a boundary whose place is at the front of rows is at the front of those behind the first
tail_above : (b : ℕ) (r : Row) (rows : List Row) → IsRowPlace b (r ∷ rows) 0 → IsRowPlace b rows 0
tail_above b r rows h = (omega arith, (λ j d low high. absurd (omega arith)), (λ j d low high. h.2 (suc j) d (omega arith) (omega arith)))

-- the first row is at or above a boundary whose place is at the front
front_above : (b : ℕ) (r : Row) (rows : List Row) → IsRowPlace b (r ∷ rows) 0 → b ≤ r.key
front_above b r rows h = h.2 0 r (omega arith) (omega arith)

-- no row is below a boundary whose place is at the front
none_below : (b : ℕ) (rows : List Row) → IsRowPlace b rows 0 → rows_below b rows ≡ []
none_below b [] h = refl
none_below b (r ∷ rows) h = rw (le-ltb r.key b (front_above b r rows h)) (none_below b rows (tail_above b r rows h))

-- all rows are at or above a boundary whose place is at the front
all_from : (b : ℕ) (rows : List Row) → IsRowPlace b rows 0 → rows_from b rows ≡ rows
all_from b [] h = refl
all_from b (r ∷ rows) h = rw (le-leb b r.key (front_above b r rows h)) (ap (λ z. r ∷ z) (all_from b rows (tail_above b r rows h)))

-- the rows before a boundary's place are those below it
pub rows_below-place : (b i : ℕ) (rows : List Row) → IsRowPlace b rows i → rows_below b rows ≡ take i rows
rows_below-place b zero rows h = none_below b rows h
rows_below-place b (suc i) [] h = refl
rows_below-place b (suc i) (r ∷ rows) h = rw (lt-ltb r.key b (front_below b i r rows h)) (ap (λ z. r ∷ z) (rows_below-place b i rows (place_rest b i r rows h)))

-- and the others are those at or above it
pub rows_from-place : (b i : ℕ) (rows : List Row) → IsRowPlace b rows i → rows_from b rows ≡ drop i rows
rows_from-place b zero rows h = all_from b rows h
rows_from-place b (suc i) [] h = refl
rows_from-place b (suc i) (r ∷ rows) h = rw (lt-leb b r.key (front_below b i r rows h)) (rows_from-place b i rows (place_rest b i r rows h))

-- rows that pass a test rise as they did among the others
Rising-filter : (p : Row → Bool) (low : ℕ) (rows : List Row) → Rising low rows → Rising low (filter p rows)
Rising-filter p low [] h = tt
Rising-filter p low (r ∷ rows) h =
    let rest = Rising-filter p (r.key + 1) rows h.1 in
    cond_both (p r) (r ∷ filter p rows) (filter p rows) (Rising low) (λ _. (h.0, rest))
    (λ _. Rising-lower low (r.key + 1) (filter p rows) rest (omega (arith, h.0)))

-- rows that pass a test fit as they did among the others
RowsFit-filter : (p : Row → Bool) (rows : List Row) → RowsFit rows → RowsFit (filter p rows)
RowsFit-filter p [] h = tt
RowsFit-filter p (r ∷ rows) h =
    let rest = RowsFit-filter p rows h.2 in
    cond_both (p r) (r ∷ filter p rows) (filter p rows) RowsFit (λ _. (h.0, h.1, rest)) (λ _. rest)

-- rows that pass a test are in order and fit, as all of them are and do
pub AreKept-filter : (p : Row → Bool) (rows : List Row) → AreKept rows → AreKept (filter p rows)
AreKept-filter p rows h = record { rise = Rising-filter p 0 rows h.rise; fit = RowsFit-filter p rows h.fit }

-- the rows that move rise from the boundary
pub Rising-rows_from : (low b : ℕ) (rows : List Row) → Rising low rows → Rising b (rows_from b rows)
Rising-rows_from low b [] h = tt
Rising-rows_from low b (r ∷ rows) h =
    cond_both (leb b r.key) (r ∷ rows_from b rows) (rows_from b rows) (Rising b)
    (λ e. (leb-true _ _ e, Rising-filter (λ (x : Row). leb b x.key) (r.key + 1) rows h.1))
    (λ _. Rising-rows_from (r.key + 1) b rows h.1)
