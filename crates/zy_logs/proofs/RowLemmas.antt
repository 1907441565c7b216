-- Rows are read one by one, from left to right.
use Rattle.std.proofs.Common.{◌≡◌, ◌∙◌, ℕ, ◌+◌, ◌-◌, ◌<◌, true, false, List, [], ◌∷◌, ◌++◌, length, Result, Ok, Err, refl, ap, sym, arith, append-nil, append_assoc}
use Rattle.zy_isa.specs.declared.row.Row.{Row}
use Rattle.zy_isa.specs.Results.{◌>>=◌}
use Rattle.zy_logs.specs.declared.reading.cursor.Misfit.{Misfit}
use Rattle.zy_logs.specs.Rows.{next_row, onto, rows_from}
use Rattle.zy_logs.specs.Words.{Word, after, are_none}

-- rows, and those that are read behind them
abbrev pub behind : List Row → Result (List Row) Misfit → Result (List Row) Misfit
behind rows more = more >>= λ others. Ok (rows ++ others)

-- behind no rows come those that are read
pub behind_none : (more : Result (List Row) Misfit) → more ≡ behind [] more
behind_none (Ok rows) = refl
behind_none (Err s) = refl

-- one more row is before those that are read
behind_one : (rows : List Row) (r : Row) (more : Result (List Row) Misfit) → behind rows (onto r more) ≡ behind (rows ++ r ∷ []) more
behind_one rows r (Ok others) = ap Ok (sym (append_assoc rows (r ∷ []) others))
behind_one rows r (Err s) = refl

-- the next row comes behind the rows, and those that are left behind it
pub read_next : (low room : ℕ) (ws : List Word) (rows : List Row) (r : Row) → are_none ws ≡ false → next_row low room ws ≡ Ok r
    → behind rows (rows_from low room ws) ≡ behind (rows ++ r ∷ []) (rows_from (r.key + 1) (room - 1) (after ws))
read_next low room [] rows r some e = cc
read_next low room (w ∷ ws) rows r some e =
    ap (λ o. behind rows (o >>= λ x. onto x (rows_from (x.key + 1) (room - 1) ws))) e ∙ behind_one rows r (rows_from (r.key + 1) (room - 1) ws)

-- where the next one does not fit, nothing is read
pub read_stop : (low room : ℕ) (ws : List Word) (rows : List Row) (s : Misfit) → are_none ws ≡ false → next_row low room ws ≡ Err s
    → behind rows (rows_from low room ws) ≡ Err s
read_stop low room [] rows s some e = cc
read_stop low room (w ∷ ws) rows s some e = ap (λ o. behind rows (o >>= λ x. onto x (rows_from (x.key + 1) (room - 1) ws))) e

-- where no word is left, the rows are all
pub read_all : (low room : ℕ) (ws : List Word) (rows : List Row) → are_none ws ≡ true → behind rows (rows_from low room ws) ≡ Ok rows
read_all low room [] rows none = ap Ok (append-nil rows)
read_all low room (w ∷ ws) rows none = cc

-- behind a word there are fewer
pub fewer : (ws : List Word) → are_none ws ≡ false → length (after ws) < length ws
fewer [] some = cc
fewer (w ∷ ws) some = omega arith
