-- Rows laid over rows, and the maps that they make.
use Rattle.std.proofs.Common.{List, [], ap, refl, sym, ℕ, ◌+◌, ◌∙◌, ◌∷◌, ◌≡◌}
use Rattle.std.specs.Prelude.{None, Some, unwrap_or}
use Rattle.std.specs.FinMap.{get, get-empty, insert}
use Rattle.std.specs.Ordering.{nat_cmp}
use Rattle.zy_isa.specs.Rows.{get_row}
use Rattle.zy_isa.specs.declared.row.Row.{Row}
use Rattle.zy_table.specs.Database.{Map, laid}
use Rattle.zy_table.specs.Ranges.{range, total}
use Rattle.zy_table.specs.Rows.{put_rows}
use Rattle.zy_table.specs.Serial.{value_in}
use Rattle.zy_node.specs.Sums.{value_beside}
use Rattle.zy_table.proofs.RangeLists.{total_same}
use Rattle.zy_node.proofs.RowSums.{own_apart, total_plus}
use Rattle.zy_laws.proofs.places.Installing.{or_else_none}
use Rattle.zy_laws.proofs.serial.LoneRuns.{get-laid, laid_put, or_else}
use Rattle.zy_laws.proofs.places.PageValues.{value_same}
use Rattle.zy_serial.specs.Lone.{map_of}

-- rows put among rows lie over the map as more rows do
pub laid-put_rows : (m : Map) (rs rows : List Row) → laid (put_rows rs rows) m ≡ laid rs (laid rows m)
laid-put_rows m [] rows = refl
laid-put_rows m (r ∷ rs) rows =
    sym (laid_put m (put_rows rs rows) r.key r.value) ∙ ap (λ z. insert z r.key r.value) (laid-put_rows m rs rows)

-- what a table has at a key
pub get-map_of : (rows : List Row) (k : ℕ) → get (map_of rows) k ≡ get_row rows k
get-map_of rows k = get-laid rows _ k ∙ ap (or_else (get_row rows k)) (get-empty nat_cmp k) ∙ or_else_none (get_row rows k)

-- what rows that lie over a table have at a key
pub get-own : (rows table : List Row) (k v : ℕ) → get_row rows k ≡ Some v → get (laid rows (map_of table)) k ≡ Some v
get-own rows table k v e = get-laid rows (map_of table) k ∙ ap (λ o. or_else o (get (map_of table) k)) e

-- at a key that the rows lack, a map with rows laid over it has what the table has
pub get-below : (rows table : List Row) (k : ℕ) → get_row rows k ≡ None → get (laid rows (map_of table)) k ≡ get_row table k
get-below rows table k e = get-laid rows (map_of table) k ∙ ap (λ o. or_else o (get (map_of table) k)) e ∙ get-map_of table k

-- what they have together: the rows above, and those below at other keys
pub total-laid : (own table : List Row) (a b : ℕ) → total (value_in (laid own (map_of table))) (range a b)
    ≡ total (value_beside [] own) (range a b) + total (value_beside own table) (range a b)
total-laid own table a b =
    total_same (value_in (laid own (map_of table))) (λ k. value_beside [] own k + value_beside own table k) (range a b) (λ k _.
    ap (λ o. unwrap_or o 0) (get-laid own (map_of table) k ∙ ap (or_else (get_row own k)) (get-map_of table k)) ∙ value_same (get_row own k) (get_row table k)
    ∙ own_apart (get_row own k) (get_row table k))
    ∙ total_plus (value_beside [] own) (value_beside own table) (range a b)
