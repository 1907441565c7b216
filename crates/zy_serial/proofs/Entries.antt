-- The entries of a table's map are its rows, and maps with the same entries are equal.
use Rattle.std.proofs.Common.{Bool, List, [], ap, arith, length, map, refl, sym, true, ℕ, ◌+◌, ◌<◌, ◌∙◌, ◌∷◌, ◌≡◌}
use Rattle.std.specs.Prelude.{◌==◌, ◌&&◌}
use Rattle.std.specs.Cmp.Lexicographic.{pointwise}
use Rattle.std.specs.FinMap.{empty, entries, entries-insert, len-empty, len-entries, same_entries_map}
use Rattle.std.specs.Ordering.{nat_cmp}
use Rattle.std.proofs.lemmas.Bool.{and_parts, eq-eqb, eqb-true, false≢true, lt-ltb}
use Rattle.std.proofs.lemmas.Cmp.{nat_cmp_total}
use Rattle.zy_isa.specs.Rows.{Rising}
use Rattle.zy_isa.specs.declared.row.Row.{Row}
use Rattle.zy_table.specs.Database.{Map}
use Rattle.zy_serial.specs.Lone.{map_of}
use Rattle.zy_serial.specs.SameMaps.{same_entry, same_map}

-- a row as an entry of a map: its key with its value
abbrev pub entry : Row → ℕ × ℕ
entry r = (r.key, r.value)

-- a list of no entries is empty
no_entries : (es : List (ℕ × ℕ)) → length es ≡ 0 → es ≡ []
no_entries [] e = refl
no_entries (x ∷ es) e = absurd (omega arith)

-- the empty map has no entries
entries-empty : entries (empty {X = ℕ} {R = nat_cmp}) ≡ []
entries-empty = no_entries _ (sym (len-entries (empty {X = ℕ} {R = nat_cmp})) ∙ len-empty nat_cmp ℕ)

-- the entries of the map of a table in order are its rows
pub entries-map_of : (low : ℕ) (rows : List Row) → Rising low rows → entries (map_of rows) ≡ map entry rows
entries-map_of low [] h = entries-empty
entries-map_of low (r ∷ []) h = entries-insert nat_cmp_total (map_of []) r.key r.value ∙ rw entries-empty
entries-map_of low (r ∷ (q ∷ rows)) h =
    let lt : r.key < q.key = let a = h.1.0 in omega arith in
    entries-insert nat_cmp_total (map_of (q ∷ rows)) r.key r.value ∙ rw (entries-map_of (r.key + 1) (q ∷ rows) h.1, lt-ltb r.key q.key lt)

-- a list of entries is the same as itself, and as nothing else
same_itself : (xs : List (ℕ × ℕ)) → pointwise same_entry xs xs ≡ true
same_itself [] = refl
same_itself (x ∷ xs) = rw (eq-eqb x.0 x.0 refl, eq-eqb x.1 x.1 refl) (same_itself xs)

-- lists of entries that the test finds the same are equal
same_lists : (xs ys : List (ℕ × ℕ)) → pointwise same_entry xs ys ≡ true → xs ≡ ys
same_lists [] [] e = refl
same_lists [] (y ∷ ys) e = absurd (false≢true e)
same_lists (x ∷ xs) [] e = absurd (false≢true e)
same_lists (x ∷ xs) (y ∷ ys) e =
    let parts = and_parts ((x.0 == y.0) && (x.1 == y.1)) (pointwise same_entry xs ys) e in
    let first = and_parts (x.0 == y.0) (x.1 == y.1) parts.0 in
    let key = eqb-true x.0 y.0 first.0 in
    let value = eqb-true x.1 y.1 first.1 in
    let rest = same_lists xs ys parts.1 in
    λ i. (key i, value i) ∷ rest i

-- the test finds equal maps the same
pub same_map-true : (m n : Map) → m ≡ n → same_map m n ≡ true
same_map-true m n e = ap (same_map m) (sym e) ∙ same_itself (entries m)

-- maps that the test finds the same are equal
pub same_map-equal : (m n : Map) → same_map m n ≡ true → m ≡ n
same_map-equal m n e = same_entries_map m n (same_lists (entries m) (entries n) e)

-- rows that are compared one by one
pub same-rows : (f : Row → Row → Bool) (xs ys : List Row) → ((x y : Row) → f x y ≡ ((x.key == y.key) && (x.value == y.value)))
    → pointwise f xs ys ≡ pointwise same_entry (map entry xs) (map entry ys)
same-rows f [] [] h = refl
same-rows f [] (y ∷ ys) h = refl
same-rows f (x ∷ xs) [] h = refl
same-rows f (x ∷ xs) (y ∷ ys) h = rw (h x y, same-rows f xs ys h) refl

-- and of two tables, their maps
pub same-tables : (f : Row → Row → Bool) (xs ys : List Row) → ((x y : Row) → f x y ≡ ((x.key == y.key) && (x.value == y.value))) → Rising 0 xs → Rising 0 ys
    → pointwise f xs ys ≡ same_map (map_of xs) (map_of ys)
same-tables f xs ys h rx ry = rw (entries-map_of 0 xs rx, entries-map_of 0 ys ry) (same-rows f xs ys h)
