-- The rows of a page, which are the first of its cells.
use Rattle.std.proofs.Common.{◌≡◌, ℕ, ◌+◌, ◌<◌, ◌≤◌, ◌^◌, ◌∙◌, List, length, get_or, set, take, sym, arith, rules}
use Rattle.std.specs.Prelude.{Ok}
use Rattle.std.specs.List.{insert, copy_within}
use Rattle.std.proofs.lemmas.List.{same_lists, places, get_or-set_same, get_or-take, length-take-le}
use Rattle.std.proofs.lemmas.Bool.{cases_eq, cases_lt}
use Rattle.zy_isa.specs.declared.row.Row.{Row}
use Rattle.zy_isa.specs.Rows.{put_row}
use Rattle.zy_page.specs.Place.{FindsRow}
use Rattle.zy_page.specs.RowLists.{AreKept}
use Rattle.zy_model.proofs.Rows.{Rising-put_row, RowsFit-put_row}
use Rattle.zy_page.proofs.Found.{put_row_at}

-- a row more, or over another
pub AreKept-put_row : (k v : ℕ) (rows : List Row) → AreKept rows → k < 2 ^ 16 → v < 2 ^ 32 → AreKept (put_row k v rows)
AreKept-put_row k v rows h key value = record { rise = Rising-put_row 0 k v rows h.rise (omega arith); fit = RowsFit-put_row k v rows h.fit key value }

-- a write to one of the first n
take-set_below : (n : ℕ) (xs : List Row) (i : ℕ) (x : Row) → i < n → n ≤ length xs → take n (set xs i x) ≡ set (take n xs) i x
take-set_below n xs i x lt le = same_lists _ _ (search (rules, places)) (λ k d h. grind (arith, places, get_or-set_same, cases_eq k i))

-- the row put over one of the first n
pub put_over : (k v i n : ℕ) (d : Row) (cells : List Row) → n ≤ length cells → FindsRow k (take n cells) (Ok i)
    → take n (set cells i (record { key = (get_or cells i d).key; value = v })) ≡ put_row k v (take n cells)
put_over k v i n d cells le found =
    let lt : i < n = rw (length-take-le n cells le) at found.1 in
    let put = put_row_at k v i d (take n cells) found.0 found.1 (found.2 d) in
    take-set_below n cells i _ lt le ∙ sym (rw (get_or-take n cells i d lt) at put)

-- the row put at one of the first n, which make room
pub put_between : (xs : List Row) (n at : ℕ) (r : Row) → at ≤ n → n < length xs
    → take (n + 1) (set (copy_within xs at n (at + 1)) at r) ≡ insert (take n xs) at r
put_between xs n at r le lt = same_lists _ _ (search (rules, places)) (λ k d h. grind (arith, places, get_or-set_same, cases_eq k at, cases_lt k at))
