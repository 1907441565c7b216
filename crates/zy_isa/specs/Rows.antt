-- Lists of rows in key order.
use Rattle.std.specs.Prelude.{◌==◌, ◌+◌, ◌-◌, ◌<◌, ◌≤◌, ◌^◌, nat_le, nat_lt, Bool, false, slice_get, length, ℕ, List}
use Rattle.std.specs.Prelude.{[], ◌∷◌, Option, Some, None, if◌then◌else◌}
use Rattle.std.specs.Option.{option_map_or}
use Rattle.zy_isa.specs.declared.row.Row.{Row}

abbrev pub row : ℕ → ℕ → Row
row k v = record { key = k; value = v }

-- keys rise, from this number on
abbrev pub Rising : ℕ → List Row → Type 0
Rising low [] = Unit {0}
Rising low (r ∷ rows) = (low ≤ r.key) × Rising (r.key + 1) rows

-- each key and each value fits its field
abbrev pub RowsFit : List Row → Type 0
RowsFit [] = Unit {0}
RowsFit (r ∷ rows) = (r.key < 2 ^ 16) × (r.value < 2 ^ 32) × RowsFit rows

-- the value at a key
abbrev pub get_row : List Row → ℕ → Option ℕ
get_row [] k = None
get_row (r ∷ rows) k = if r.key == k then Some r.value else get_row rows k

-- the row put in its place by key, over one of the same key
abbrev pub put_row : ℕ → ℕ → List Row → List Row
put_row k v [] = row k v ∷ []
put_row k v (r ∷ rows) =
    if k == r.key then row k v ∷ rows else if nat_lt k r.key then row k v ∷ r ∷ rows else r ∷ put_row k v rows

-- the index of the first row whose key is not above the one before it
abbrev pub misplaced_after : ℕ → ℕ → List Row → Option ℕ
misplaced_after last i [] = None
misplaced_after last i (r ∷ rows) = if nat_lt last r.key then misplaced_after r.key (i + 1) rows else Some i

abbrev pub misplaced_row : List Row → Option ℕ
misplaced_row [] = None
misplaced_row (r ∷ rows) = misplaced_after r.key 1 rows

abbrev pub last_row : List Row → Option Row
last_row rows = slice_get rows (length rows - 1)

-- a key that is not above the one of the last row
abbrev pub is_low : ℕ → Option Row → Bool
is_low key last = option_map_or (λ r. nat_le key r.key) last false
