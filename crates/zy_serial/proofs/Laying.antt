-- Rows in key order, laid over others in one pass.
use Rattle.std.proofs.Common.{List, [], ap, append_assoc, arith, drop, inl, inr, length, refl, subst, suc, sym, take, zero, ℕ, ◌+◌, ◌++◌, ◌∙◌, ◌∷◌, ◌≡◌, ◌≤◌}
use Rattle.std.specs.Prelude.{Some, slice_get, ◌==◌}
use Rattle.std.proofs.Math.Seq.{drop-length, take-length}
use Rattle.std.proofs.lemmas.Bool.{cases_eq, cond_both, eq-eqb, ne_eqb}
use Rattle.zy_isa.specs.Rows.{Rising, RowsFit, put_row, row}
use Rattle.zy_isa.specs.declared.row.Row.{Row}
use Rattle.zy_page.specs.Place.{IsRowPlace}
use Rattle.zy_page.specs.RowLists.{AreKept}
use Rattle.zy_model.proofs.Rows.{RowsFit-put_row, put_row_above, put_row_below, put_row_same}
use Rattle.zy_page.proofs.Found.{front_below, place_rest}
use Rattle.zy_page.proofs.Parted.{Rising-rows_from, rows_from-place}
use Rattle.zy_model.proofs.Parted.{Rising-lower}
use Rattle.zy_model.proofs.Rows.{Rising-put_row}
use Rattle.zy_table.proofs.RisingRows.{rises_puts}
use Rattle.zy_table.specs.Rows.{put_rows}
use Rattle.zy_serial.specs.Laying.{rows_past}

-- rows that rise from past a row leave it the first
put_rows_past : (r : Row) (rs rows : List Row) → Rising (r.key + 1) rs → put_rows rs (r ∷ rows) ≡ r ∷ put_rows rs rows
put_rows_past r [] rows h = refl
put_rows_past r (q ∷ rs) rows h =
    let rest = put_rows_past r rs rows (Rising-lower (r.key + 1) (q.key + 1) rs h.1 (let a = h.0 in omega arith)) in
    ap (put_row q.key q.value) rest ∙ put_row_above q.key q.value r (put_rows rs rows) (let a = h.0 in omega arith)

-- the rows below all that are laid stay as they are
pub put_rows_behind : (k at : ℕ) (rs rows : List Row) → Rising k rs → IsRowPlace k rows at → put_rows rs rows ≡ take at rows ++ put_rows rs (drop at rows)
put_rows_behind k zero rs rows h p = refl
put_rows_behind k (suc i) rs [] h p = refl
put_rows_behind k (suc i) rs (r ∷ rows) h p =
    let below = front_below k i r rows p in
    put_rows_past r rs rows (Rising-lower (r.key + 1) k rs h (omega (arith, below))) ∙ ap (λ z. r ∷ z) (put_rows_behind k i rs rows h (place_rest k i r rows p))

-- a row below all others comes first
put_row_first : (k v : ℕ) (rows : List Row) → Rising (k + 1) rows → put_row k v rows ≡ row k v ∷ rows
put_row_first k v [] h = refl
put_row_first k v (r ∷ rows) h = put_row_below k v r rows (let a = h.0 in omega arith)

-- rows in order, put among rows in order, leave them in order
rises_laid : (low : ℕ) (rs rows : List Row) → Rising low rs → Rising low rows → Rising low (put_rows rs rows)
rises_laid low [] rows rise h = h
rises_laid low (r ∷ rs) rows rise h =
    let rest = Rising-lower low (r.key + 1) rs rise.1 (let a = rise.0 in omega arith) in
    Rising-put_row low r.key r.value (put_rows rs rows) (rises_laid low rs rows rest h) rise.0

-- so does the first of the rows that are laid, in the place of one of the same key
put_rows_first : (r : Row) (rs rows : List Row) → Rising (r.key + 1) rs → Rising r.key rows → put_rows (r ∷ rs) rows ≡ r ∷ put_rows rs (rows_past r.key rows)
put_rows_first r rs [] rise h = put_row_first r.key r.value (put_rows rs []) (rises_laid (r.key + 1) rs [] rise tt)
put_rows_first r rs (q ∷ rows) rise h =
    elim (cases_eq q.key r.key) [
      | inl same ↦
          let rest = put_rows_past q rs rows (subst (λ k. Rising (k + 1) rs) (sym same) rise) in
          rw (eq-eqb q.key r.key same) (ap (put_row r.key r.value) rest ∙ put_row_same r.key r.value q (put_rows rs rows) (sym same))
      | inr other ↦
          let above : r.key + 1 ≤ q.key = let a = h.0 in omega arith in
          rw (ne_eqb q.key r.key other) (put_row_first r.key r.value (put_rows rs (q ∷ rows)) (rises_laid (r.key + 1) rs (q ∷ rows) rise (above, h.1)))
    ]

-- one step of the pass
pub put_rows_step : (r : Row) (rs left : List Row) (at : ℕ) → Rising (r.key + 1) rs → Rising 0 left → IsRowPlace r.key left at
    → put_rows (r ∷ rs) left ≡ take at left ++ r ∷ put_rows rs (rows_past r.key (drop at left))
put_rows_step r rs left at rise h p =
    let from = subst (Rising r.key) (rows_from-place r.key at left p) (Rising-rows_from 0 r.key left h) in
    put_rows_behind r.key at (r ∷ rs) left ((omega arith), rise) p ∙ ap (λ z. take at left ++ z) (put_rows_first r rs (drop at left) rise from)

-- what is left of the rows still rises
pub rises_past : (low k : ℕ) (rows : List Row) → Rising low rows → Rising low (rows_past k rows)
rises_past low k [] h = tt
rises_past low k (r ∷ rows) h =
    elim (cases_eq r.key k) [
      | inl same ↦ rw (eq-eqb r.key k same) (Rising-lower low (r.key + 1) rows h.1 (let a = h.0 in omega arith))
      | inr other ↦ rw (ne_eqb r.key k other) h
    ]

-- rows that fit, laid over others
RowsFit-put_rows : (rs rows : List Row) → RowsFit rs → RowsFit rows → RowsFit (put_rows rs rows)
RowsFit-put_rows [] rows more h = h
RowsFit-put_rows (r ∷ rs) rows more h = RowsFit-put_row r.key r.value (put_rows rs rows) (RowsFit-put_rows rs rows more.2 h) more.0 more.1

-- rows that fit, put among rows that are in order and fit, leave them so
pub AreKept-put_rows : (rs rows : List Row) → RowsFit rs → AreKept rows → AreKept (put_rows rs rows)
AreKept-put_rows rs rows more h = record { rise = rises_puts rs rows h.rise; fit = RowsFit-put_rows rs rows more h.fit }

-- rows without the first one of a key are no more than before
pub length-rows_past : (k : ℕ) (rows : List Row) → length (rows_past k rows) ≤ length rows
length-rows_past k [] = omega arith
length-rows_past k (r ∷ rows) = cond_both (r.key == k) rows (r ∷ rows) (λ ys. length ys ≤ length (r ∷ rows)) (λ _. omega arith) (λ _. omega arith)

-- what was laid, when one more row is
pub laid_more : (list below past rs whole laid : List Row) (r : Row) → list ++ laid ≡ whole → laid ≡ below ++ r ∷ put_rows rs past
    → ((list ++ below) ++ (r ∷ [])) ++ put_rows rs past ≡ whole
laid_more list below past rs whole laid r e step =
    append_assoc (list ++ below) (r ∷ []) (put_rows rs past) ∙ append_assoc list below (r ∷ put_rows rs past) ∙ ap (λ z. list ++ z) (sym step) ∙ e

-- the first of rows that rise is below the others
rises_first : (first : Row) (rows : List Row) → Rising 0 rows → Some first ≡ slice_get rows 0 → Rising first.key rows
rises_first first [] h e = absurd (cc)
rises_first first (r ∷ rows) h e = let same : first ≡ r = cc in rw same (omega arith, h.1)

-- rows all above others are put behind them
pub put_rows_append : (first : Row) (rs rows : List Row) → Rising 0 rs → Some first ≡ slice_get rs 0 → IsRowPlace first.key rows (length rows)
    → put_rows rs rows ≡ rows ++ put_rows rs []
put_rows_append first rs rows h e p =
    let behind = put_rows_behind first.key (length rows) rs rows (rises_first first rs h e) p in
    rw (take-length rows, drop-length rows) at behind
