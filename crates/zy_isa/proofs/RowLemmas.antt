-- Rows in order, and one row more behind them.
use Rattle.std.proofs.Common.{◌≡◌, ℕ, ◌+◌, ◌-◌, ◌≤◌, Bool, true, false, List, [], ◌∷◌, ◌++◌, length, Option, Some, None, refl, subst, arith, if◌then◌else◌}
use Rattle.std.proofs.Common.{nat_le, nat_lt, slice_get}
use Rattle.std.proofs.lemmas.List.{length-append}
use Rattle.zy_isa.specs.declared.row.Row.{Row}
use Rattle.zy_isa.specs.Rows.{misplaced_row, misplaced_after, last_row, is_low}
use Rattle.zy_isa.proofs.ResultLemmas.{above}
use borrow.Author.Tests.{tests}

-- where a is not at most b, the test for a misplaced row at index i finds none
low_test : (a b i : ℕ) → nat_le a b ≡ false → (if nat_lt b a then None else Some i) ≡ (let o : Option ℕ = None in o)
low_test a b i h = rw (above b a h) refl

-- no row is misplaced after a row and those behind it when one more row, above the last of them, is put at the end
misplaced_more : (x : Row) (i : ℕ) (R : List Row) (r : Row) → misplaced_after x.key i R ≡ None → is_low r.key (slice_get (x ∷ R) (length R)) ≡ false
    → misplaced_after x.key i (R ++ r ∷ []) ≡ None
misplaced_more x i [] r h low = low_test r.key x.key i low
misplaced_more x i (y ∷ R) r h low = split (nat_lt x.key y.key) h (λ g. misplaced_more y (i + 1) R r g low)
  where
    split : (b : Bool) → (if b then misplaced_after y.key (i + 1) R else Some i) ≡ None
        → (misplaced_after y.key (i + 1) R ≡ None → misplaced_after y.key (i + 1) (R ++ r ∷ []) ≡ None)
        → (if b then misplaced_after y.key (i + 1) (R ++ r ∷ []) else Some i) ≡ None
    split true g ih = ih g
    split false g ih = cc

-- a row behind rows in order whose key is above theirs
pub order_more : (R : List Row) (r : Row) → misplaced_row R ≡ None → is_low r.key (last_row R) ≡ false → misplaced_row (R ++ r ∷ []) ≡ None
order_more [] r h low = refl
order_more (x ∷ R) r h low =
    let e : length (x ∷ R) - 1 ≡ length R = omega arith in
    misplaced_more x 1 R r h (subst (λ n. is_low r.key (slice_get (x ∷ R) n) ≡ false) e low)

-- the last row is the one that is put at the end
pub last_more : (rows : List Row) (r : Row) → last_row (rows ++ r ∷ []) ≡ Some r
last_more rows r = rw length-append (let e : length rows + 1 - 1 ≡ length rows = omega arith in rw e (slice_get_seam rows r))
  where
    slice_get_seam : (xs : List Row) (y : Row) → slice_get (xs ++ y ∷ []) (length xs) ≡ Some y
    slice_get_seam [] y = refl
    slice_get_seam (x ∷ xs) y = slice_get_seam xs y

-- keys from this one on are above the last row
abbrev pub Above : ℕ → List Row → Type 0
Above low R = (key : ℕ) → low ≤ key → is_low key (last_row R) ≡ false

-- a key that is above the last one is not at most that one
above_one : (key last : ℕ) → last + 1 ≤ key → nat_le key last ≡ false
above_one key last h = grind (arith, tests)

-- keys above that of the row that is put at the end are above the last row
pub above_more : (R : List Row) (r : Row) → Above (r.key + 1) (R ++ r ∷ [])
above_more R r key h = rw (last_more R r) (above_one key r.key h)
