-- What each change of a list leaves rising: pages by their numbers, the rows of each page, shared locks, and the pages that are asked for.
use Rattle.std.proofs.Common.{List, [], ap, arith, length, refl, suc, ℕ, ◌++◌, ◌+◌, ◌∷◌, ◌≡◌}
use Rattle.std.specs.Prelude.{nat_lt, nat_le, ◌==◌}
use Rattle.std.proofs.lemmas.Bool.{cond_both}
use Rattle.zy_isa.specs.Rows.{Rising}
use Rattle.zy_isa.specs.declared.row.Row.{Row}
use Rattle.zy_model.proofs.Rising.{rise_add}
use Rattle.zy_model.specs.Locks.{add_lock}
use Rattle.zy_model.specs.Order.{LocksRise}
use Rattle.zy_model.specs.declared.lock.Lock.{Lock}
use Rattle.zy_model.specs.declared.lock.LockKind.TheVariants.{Shared}
use Rattle.zy_table.specs.Change.{installed, share_all}
use Rattle.zy_table.specs.Order.{NumbersRise, RowsRise}
use Rattle.zy_table.specs.Rows.{rows_on}
use Rattle.zy_table.specs.State.{Leaf}
use Rattle.zy_model.proofs.Parted.{Rising-lower}
use Rattle.zy_table.proofs.RisingRows.{rises_puts}
use Rattle.zy_table.proofs.RisingNumbers.{rises_weaker}
use Rattle.zy_laws.specs.OneOwner.{times}
use Rattle.std.proofs.lemmas.Bool.Decides.{nat_tests}
use Rattle.zy_model.specs.Leaf.{rows_below, rows_from}
use Rattle.zy_table.specs.Pages.{leaf_at, lowered, numbers, rows_of, with_page, without}

-- installing rows leaves the pages' numbers
pub numbers-installed : (lows : List ℕ) (rs : List Row) (xs : List Leaf) → numbers (installed lows rs xs) ≡ numbers xs
numbers-installed lows rs [] = refl
numbers-installed lows rs (x ∷ xs) = ap (λ ns. x.number ∷ ns) (numbers-installed lows rs xs)

-- installing rows leaves the number of pages
pub length-installed : (lows : List ℕ) (rs : List Row) (xs : List Leaf) → length (installed lows rs xs) ≡ length xs
length-installed lows rs [] = refl
length-installed lows rs (x ∷ xs) = ap suc (length-installed lows rs xs)

-- installing rows keeps the rows of each page rising
pub rows_rise-installed : (lows : List ℕ) (rs : List Row) (xs : List Leaf) → RowsRise xs → RowsRise (installed lows rs xs)
rows_rise-installed lows rs [] h = tt
rows_rise-installed lows rs (x ∷ xs) h = (rises_puts (rows_on lows x.number rs) x.rows h.0, rows_rise-installed lows rs xs h.1)

-- shared locks on several pages keep the locks in order
pub rise_share : (ps : List ℕ) (t : ℕ) (xs : List Lock) → LocksRise xs → LocksRise (share_all ps t xs)
rise_share [] t xs h = h
rise_share (p ∷ ps) t xs h = rise_share ps t (add_lock p t Shared xs) (rise_add p t Shared xs h)

-- cutting a page's rows leaves the pages' numbers
pub numbers-lowered : (p b : ℕ) (xs : List Leaf) → numbers (lowered p b xs) ≡ numbers xs
numbers-lowered p b [] = refl
numbers-lowered p b (x ∷ xs) = ap (λ ns. x.number ∷ ns) (numbers-lowered p b xs)

-- the rows below a key rise
pub rises_below : (low b : ℕ) (rows : List Row) → Rising low rows → Rising low (rows_below b rows)
rises_below low b [] h = tt
rises_below low b (r ∷ rows) h =
    cond_both (nat_lt r.key b) (r ∷ rows_below b rows) (rows_below b rows) (Rising low)
    (λ _. (h.0, rises_below (r.key + 1) b rows h.1))
    (λ _. rises_below low b rows (Rising-lower low (r.key + 1) rows h.1 (let a = h.0 in omega arith)))

-- the rows from a key on rise
pub rises_from : (low b : ℕ) (rows : List Row) → Rising low rows → Rising low (rows_from b rows)
rises_from low b [] h = tt
rises_from low b (r ∷ rows) h =
    cond_both (nat_le b r.key) (r ∷ rows_from b rows) (rows_from b rows) (Rising low)
    (λ _. (h.0, rises_from (r.key + 1) b rows h.1))
    (λ _. rises_from low b rows (Rising-lower low (r.key + 1) rows h.1 (let a = h.0 in omega arith)))

-- the rows of a page rise
pub rows_at : (p : ℕ) (xs : List Leaf) → RowsRise xs → Rising 0 (rows_of xs p)
rows_at p [] h = tt
rows_at p (x ∷ xs) h = cond_both (x.number == p) x (leaf_at xs p) (λ (y : Leaf). Rising 0 y.rows) (λ _. h.0) (λ _. rows_at p xs h.1)

-- cutting a page's rows keeps the rows of each page rising
pub rows_rise-lowered : (p b : ℕ) (xs : List Leaf) → RowsRise xs → RowsRise (lowered p b xs)
rows_rise-lowered p b [] h = tt
rows_rise-lowered p b (x ∷ xs) h = (
  cond_both (x.number == p) (rows_below b x.rows) x.rows (Rising 0) (λ _. rises_below 0 b x.rows h.0) (λ _. h.0),
  rows_rise-lowered p b xs h.1,
)

-- one page more keeps the rows of each page rising
pub rows_rise-with_page : (leaf : Leaf) (xs : List Leaf) → Rising 0 leaf.rows → RowsRise xs → RowsRise (with_page leaf xs)
rows_rise-with_page leaf [] r h = (r, tt)
rows_rise-with_page leaf (x ∷ xs) r h = cond_both (nat_lt leaf.number x.number) (leaf ∷ x ∷ xs) (x ∷ with_page leaf xs) RowsRise (λ _. (r, h))
    (λ _. (h.0, rows_rise-with_page leaf xs r h.1))

-- a page less keeps the numbers rising
pub numbers-without : (low p : ℕ) (xs : List Leaf) → NumbersRise low (numbers xs) → NumbersRise low (numbers (without p xs))
numbers-without low p [] h = tt
numbers-without low p (x ∷ xs) h =
    cond_both (x.number == p) (without p xs) (x ∷ without p xs) (λ ys. NumbersRise low (numbers ys))
    (λ _. numbers-without low p xs (rises_weaker (x.number + 1) low (numbers xs) (let a = h.0 in omega arith) h.1))
    (λ _. (h.0, numbers-without (x.number + 1) p xs h.1))

-- a page less keeps the rows of each page rising
pub rows_rise-without : (p : ℕ) (xs : List Leaf) → RowsRise xs → RowsRise (without p xs)
rows_rise-without p [] h = tt
rows_rise-without p (x ∷ xs) h = cond_both (x.number == p) (without p xs) (x ∷ without p xs) RowsRise (λ _. rows_rise-without p xs h.1)
    (λ _. (h.0, rows_rise-without p xs h.1))

-- a page more at the end keeps the rows of each page rising
pub rows_rise-last : (leaf : Leaf) (xs : List Leaf) → Rising 0 leaf.rows → RowsRise xs → RowsRise (xs ++ leaf ∷ [])
rows_rise-last leaf [] r h = (r, tt)
rows_rise-last leaf (x ∷ xs) r h = (h.0, rows_rise-last leaf xs r h.1)

-- a list without a page is shorter by how often the page was there
pub length-without : (p : ℕ) (xs : List Leaf) → length (without p xs) + times p xs ≡ length xs
length-without p [] = refl
length-without p (x ∷ xs) =
    let k = length-without p xs in
    cond_both (x.number == p) (without p xs) (x ∷ without p xs) (λ ys. length ys + times p (x ∷ xs) ≡ suc (length xs))
    (λ e. grind (arith, nat_tests, k, e))
    (λ e. grind (arith, nat_tests, k, e))
