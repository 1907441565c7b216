-- Where a key is in rows that are in order.
use Rattle.std.specs.Prelude.{◌≡◌, ℕ, ◌<◌, ◌≤◌, List, length, slice_index_or, Result, Ok, Err}
use Rattle.std.specs.List.{AllWithin}
use Rattle.zy_isa.specs.declared.row.Row.{Row}

-- i rows are below k, and the others are not
abbrev pub IsRowPlace : ℕ → List Row → ℕ → Type 0
IsRowPlace k rows i = (i ≤ length rows) × AllWithin (λ r. r.key < k) rows 0 i
    × AllWithin (λ r. k ≤ r.key) rows i (length rows)

-- the index of the row at k, or the one where it would be
abbrev pub FindsRow : ℕ → List Row → Result ℕ ℕ → Type 0
FindsRow k rows (Ok i) = IsRowPlace k rows i × (i < length rows) × ((d : Row) → (slice_index_or rows i d).key ≡ k)
FindsRow k rows (Err i) = IsRowPlace k rows i × ((d : Row) → i < length rows → (slice_index_or rows i d).key ≡ k → ⊥)
