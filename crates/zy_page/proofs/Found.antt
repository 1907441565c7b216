-- What is at a key's place.
use Rattle.std.proofs.Common.{◌≡◌, ℕ, zero, suc, ◌+◌, ◌<◌, ◌≤◌, List, [], ◌∷◌, length, get_or, refl, ap, arith, Some, None, is_some, true, ◌⊎◌, inl, inr}
use Rattle.std.proofs.Math.ListN.{set}
use Rattle.std.specs.List.{insert}
use Rattle.std.specs.List.Sorted.{IsNonDecreasingBy}
use Rattle.zy_isa.specs.declared.row.Row.{Row}
use Rattle.zy_isa.specs.Rows.{Rising, row, get_row, put_row}
use Rattle.zy_page.specs.Place.{IsRowPlace}
use Rattle.zy_model.proofs.Rows.{put_row_same, put_row_below, put_row_above, get_row_same, get_row_past, get_row_below}

-- each key of rows that rise is at least where they rise from
pub key_from : (low i : ℕ) (d : Row) (rows : List Row) → Rising low rows → i < length rows → low ≤ (get_or rows i d).key
key_from low i d [] h lt = absurd (omega arith)
key_from low zero d (r ∷ rows) h lt = h.0
key_from low (suc i) d (r ∷ rows) h lt = omega (arith, h.0, key_from (r.key + 1) i d rows h.1 (omega arith))

-- of two rows that rise, the later one has no lesser key
keys_le : (low i j : ℕ) (d : Row) (rows : List Row) → Rising low rows → i ≤ j → j < length rows → (get_or rows i d).key ≤ (get_or rows j d).key
keys_le low i j d [] h le lt = absurd (omega arith)
keys_le low zero zero d (r ∷ rows) h le lt = omega arith
keys_le low zero (suc j) d (r ∷ rows) h le lt = omega (arith, key_from (r.key + 1) j d rows h.1 (omega arith))
keys_le low (suc i) zero d (r ∷ rows) h le lt = absurd (omega arith)
keys_le low (suc i) (suc j) d (r ∷ rows) h le lt = keys_le (r.key + 1) i j d rows h.1 (omega arith) (omega arith)

-- rows that rise are in order as a search needs it
pub in_order : (rows : List Row) → Rising 0 rows → IsNonDecreasingBy (λ (r : Row). r.key) rows
in_order rows h = λ i j d le lt. keys_le 0 i j d rows h le lt

-- a place behind the first row is a place among the others
pub place_rest : (k i : ℕ) (r : Row) (rows : List Row) → IsRowPlace k (r ∷ rows) (suc i) → IsRowPlace k rows i
place_rest k i r rows h = (
  omega (arith, h.0),
  (λ j d low high. h.1 (suc j) d (omega arith) (omega arith)),
  (λ j d low high. h.2 (suc j) d (omega arith) (omega arith)),
)

-- the first row is below k if the place of k is behind it
pub front_below : (k i : ℕ) (r : Row) (rows : List Row) → IsRowPlace k (r ∷ rows) (suc i) → r.key < k
front_below k i r rows h = h.1 0 r (omega arith) (omega arith)

-- a key that is at its place
pub get_row_at : (k i : ℕ) (d : Row) (rows : List Row) → IsRowPlace k rows i → i < length rows → (get_or rows i d).key ≡ k
    → get_row rows k ≡ Some (get_or rows i d).value
get_row_at k i d [] p lt e = absurd (omega arith)
get_row_at k zero d (r ∷ rows) p lt e = get_row_same k r rows e
get_row_at k (suc i) d (r ∷ rows) p lt e = rw (get_row_past k r rows (λ f. absurd (omega (arith, front_below k i r rows p))))
    (get_row_at k i d rows (place_rest k i r rows p) (omega arith) e)

-- a key that is not at its place has no value
pub get_row_not_at : (low k i : ℕ) (rows : List Row) → Rising low rows → IsRowPlace k rows i → ((d : Row) → i < length rows → (get_or rows i d).key ≡ k → ⊥)
    → get_row rows k ≡ None
get_row_not_at low k i [] h p ne = refl
get_row_not_at low k zero (r ∷ rows) h p ne =
    let above : k ≤ r.key = p.2 0 r (omega arith) (omega arith) in
    rw (get_row_past k r rows (ne r (omega arith))) (get_row_below k (r.key + 1) rows h.1 (omega arith))
get_row_not_at low k (suc i) (r ∷ rows) h p ne = rw (get_row_past k r rows (λ f. absurd (omega (arith, front_below k i r rows p))))
    (get_row_not_at (r.key + 1) k i rows h.1 (place_rest k i r rows p) (λ d lt. ne d (omega arith)))

-- the row put over one
pub put_row_at : (k v i : ℕ) (d : Row) (rows : List Row) → IsRowPlace k rows i → i < length rows → (get_or rows i d).key ≡ k
    → put_row k v rows ≡ set rows i (record (get_or rows i d) { value = v })
put_row_at k v i d [] p lt e = absurd (omega arith)
put_row_at k v zero d (r ∷ rows) p lt e = rw (put_row_same k v r rows (omega arith), e) refl
put_row_at k v (suc i) d (r ∷ rows) p lt e = rw (put_row_above k v r rows (front_below k i r rows p))
    (ap (λ z. r ∷ z) (put_row_at k v i d rows (place_rest k i r rows p) (omega arith) e))

-- the row put between others
pub put_row_between : (k v i : ℕ) (rows : List Row) → IsRowPlace k rows i → ((d : Row) → i < length rows → (get_or rows i d).key ≡ k → ⊥)
    → put_row k v rows ≡ insert rows i (row k v)
put_row_between k v zero [] p ne = refl
put_row_between k v (suc i) [] p ne = absurd (omega (arith, p.0))
put_row_between k v zero (r ∷ rows) p ne = rw (put_row_below k v r rows (omega (arith, p.2 0 r (omega arith) (omega arith), ne r (omega arith)))) refl
put_row_between k v (suc i) (r ∷ rows) p ne = rw (put_row_above k v r rows (front_below k i r rows p))
    (ap (λ z. r ∷ z) (put_row_between k v i rows (place_rest k i r rows p) (λ d lt. ne d (omega arith))))

-- where the search finds no row there is none
pub none_there : (k i : ℕ) (rows : List Row) → Rising 0 rows → IsRowPlace k rows i → ((d : Row) → i < length rows → (get_or rows i d).key ≡ k → ⊥)
    → is_some (get_row rows k) ≡ true → ⊥
none_there k i rows h p ne there = let bad = rw (get_row_not_at 0 k i rows h p ne) at there in cc

-- so a row that is not there yet was given room
pub room_for : (k i spare : ℕ) (rows : List Row) → Rising 0 rows → IsRowPlace k rows i → ((d : Row) → i < length rows → (get_or rows i d).key ≡ k → ⊥)
    → (1 ≤ spare) ⊎ (is_some (get_row rows k) ≡ true) → 1 ≤ spare
room_for k i spare rows h p ne given =
    elim given [
      | inl room ↦ room
      | inr there ↦ absurd (none_there k i rows h p ne there)
    ]
