-- The rows of a page that words spell, each K=V, up to the end of the line.
use Rattle.std.specs.Prelude.{ℕ, ◌+◌, ◌-◌, ◌==◌, nat_lt, List, [], ◌∷◌, drop, take, position, Option, Some, None, Result, Ok, Err, if◌then◌else◌}
use Rattle.zy_isa.specs.declared.row.Row.{Row}
use Rattle.zy_isa.specs.Limits.{max_cap, max_key, max_value}
use Rattle.zy_isa.specs.Results.{◌>>=◌}
use Rattle.zy_isa.specs.Rows.{row}
use Rattle.zy_page.specs.declared.page_rows.PageRows.{PageRows}
use Rattle.zy_page.specs.RowLists.{of_rows}
use Rattle.zy_logs.specs.declared.expected.ExpectedInLog.TheVariants as expected
use Rattle.zy_logs.specs.declared.reading.cursor.Misfit.{Misfit}
use Rattle.zy_logs.specs.Parts.{number_in}
use Rattle.zy_logs.specs.Words.{Word, first, stop}

-- K=V, the first word, by where its `=` is
abbrev pub row_cut : Option ℕ → List Word → Result Row Misfit
row_cut None ws = Err (stop expected.Row ws)
row_cut (Some i) ws = do
  k ← number_in max_key (take i (first ws)) ws
  v ← number_in max_value (drop (i + 1) (first ws)) ws
  Ok (row k.0 v.0)

-- where the first `=` of a word is
abbrev pub sign_of : Word → Option ℕ
sign_of w = position (λ b. b == 61) w

-- a row that may come next: its key is `low` or above, and there is room for it
abbrev pub fitting : ℕ → ℕ → List Word → Row → Result Row Misfit
fitting low room ws r =
    if nat_lt r.key low then Err (stop expected.HigherKey ws) else
    if room == 0 then Err (stop expected.FewerRows ws) else
    Ok r

-- the row that the first word spells, where it may come next
abbrev pub next_row : ℕ → ℕ → List Word → Result Row Misfit
next_row low room ws = row_cut (sign_of (first ws)) ws >>= fitting low room ws

-- a row, and those behind it
abbrev pub onto : Row → Result (List Row) Misfit → Result (List Row) Misfit
onto r more = more >>= λ rows. Ok (r ∷ rows)

-- the rows that all of the words spell: keys rise from `low` on, and there is room for `room` rows
abbrev pub rows_from : ℕ → ℕ → List Word → Result (List Row) Misfit
rows_from low room [] = Ok []
rows_from low room (w ∷ ws) = next_row low room (w ∷ ws) >>= λ r. onto r (rows_from (r.key + 1) (room - 1) ws)

-- the rows of a page by themselves that all of the words spell
abbrev pub page_rows : List Word → Result PageRows Misfit
page_rows ws = rows_from 0 max_cap ws >>= λ rows. Ok (of_rows rows)
