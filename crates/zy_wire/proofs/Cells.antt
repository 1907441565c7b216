-- The entries of a node, which are the first of its cells.
use Rattle.std.proofs.Common.{◌≡◌, ◌+◌, ◌<◌, ◌≤◌, ℕ, List, length, set, take, arith, rules}
use Rattle.std.specs.List.{insert, copy_within}
use Rattle.std.proofs.lemmas.List.{same_lists, places, get_or-set_same}
use Rattle.std.proofs.lemmas.Bool.{cases_eq, cases_lt}
use Rattle.zy_wire.specs.declared.entry.IndexEntry.{IndexEntry}

-- the entry put at one of the first n, which make room
pub put_between : (xs : List IndexEntry) (n at : ℕ) (e : IndexEntry) → at ≤ n → n < length xs
    → take (n + 1) (set (copy_within xs at n (at + 1)) at e) ≡ insert (take n xs) at e
put_between xs n at e le lt = same_lists _ _ (search (rules, places)) (λ k d h. grind (arith, places, get_or-set_same, cases_eq k at, cases_lt k at))
