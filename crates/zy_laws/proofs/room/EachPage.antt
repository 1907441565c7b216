-- What holds of each page of a list, by its number and its rows.
use Rattle.std.proofs.Common.{List, [], ap, arith, false, refl, subst, sym, true, ℕ, ◌++◌, ◌+◌, ◌∙◌, ◌∷◌, ◌≡◌, ◌≤◌}
use Rattle.std.specs.Prelude.{nat_lt, ◌==◌, ◌||◌}
use Rattle.std.proofs.lemmas.Bool.{cond_both, eq-eqb, eqb-false, eqb-true, false≢true, ne_eqb, or_left, or_right}
use Rattle.std.proofs.lemmas.Bool.Decides.{nat_tests}
use Rattle.zy_isa.specs.declared.row.Row.{Row}
use Rattle.zy_table.specs.Change.{installed}
use Rattle.zy_laws.specs.OneOwner.{times}
use Rattle.zy_model.specs.Leaf.{rows_below}
use Rattle.zy_table.specs.Pages.{leaf_at, lowered, owns, rows_of, with_page, without}
use Rattle.zy_table.specs.Rows.{put_rows, rows_on}
use Rattle.zy_table.specs.State.{Leaf}
use Rattle.zy_laws.proofs.owner.PageCounts.{owns-times}
use Rattle.zy_laws.proofs.places.PageValues.{rows_of-here, rows_of-past}

-- P holds of each page of a list, by its number and rows
abbrev pub Each : (ℕ → List Row → Type 0) → List Leaf → Type 0
Each P [] = Unit {0}
Each P (x ∷ xs) = P x.number x.rows × Each P xs

-- what follows from P holds of each page too
pub each_map : (P Q : ℕ → List Row → Type 0) (xs : List Leaf) → ((p : ℕ) (rows : List Row) → P p rows → Q p rows) → Each P xs → Each Q xs
each_map P Q [] f h = tt
each_map P Q (x ∷ xs) f h = (f x.number x.rows h.0, each_map P Q xs f h.1)

-- two facts of each page are one
pub each_both : (P Q : ℕ → List Row → Type 0) (xs : List Leaf) → Each P xs → Each Q xs → Each (λ p rows. P p rows × Q p rows) xs
each_both P Q [] a b = tt
each_both P Q (x ∷ xs) a b = ((a.0, b.0), each_both P Q xs a.1 b.1)

-- a fact of the pages of two lists is one of all
pub each_append : (P : ℕ → List Row → Type 0) (xs ys : List Leaf) → Each P xs → Each P ys → Each P (xs ++ ys)
each_append P [] ys a b = b
each_append P (x ∷ xs) ys a b = (a.0, each_append P xs ys a.1 b)

-- a fact of all pages is one of each of two lists
pub each_front : (P : ℕ → List Row → Type 0) (xs ys : List Leaf) → Each P (xs ++ ys) → Each P xs × Each P ys
each_front P [] ys h = (tt, h)
each_front P (x ∷ xs) ys h = let q = each_front P xs ys h.1 in ((h.0, q.0), q.1)

-- a fact of each page after installing
pub each_installed : (P Q : ℕ → List Row → Type 0) (lows : List ℕ) (rs : List Row) (xs : List Leaf)
    → ((p : ℕ) (rows : List Row) → P p rows → Q p (put_rows (rows_on lows p rs) rows)) → Each P xs → Each Q (installed lows rs xs)
each_installed P Q lows rs [] f h = tt
each_installed P Q lows rs (x ∷ xs) f h = (f x.number x.rows h.0, each_installed P Q lows rs xs f h.1)

-- with one page more, or without one, and with the rows of one page cut
pub each_with_page : (P : ℕ → List Row → Type 0) (leaf : Leaf) (xs : List Leaf) → P leaf.number leaf.rows → Each P xs → Each P (with_page leaf xs)
each_with_page P leaf [] here h = (here, tt)
each_with_page P leaf (x ∷ xs) here h = cond_both (nat_lt leaf.number x.number) (leaf ∷ x ∷ xs) (x ∷ with_page leaf xs) (Each P) (λ _. (here, h))
    (λ _. (h.0, each_with_page P leaf xs here h.1))

-- a fact of each page but one
pub each_without : (P : ℕ → List Row → Type 0) (p : ℕ) (xs : List Leaf) → Each P xs → Each P (without p xs)
each_without P p [] h = tt
each_without P p (x ∷ xs) h = cond_both (x.number == p) (without p xs) (x ∷ without p xs) (Each P) (λ _. each_without P p xs h.1)
    (λ _. (h.0, each_without P p xs h.1))

-- a fact of each page after one is cut
pub each_lowered : (P Q : ℕ → List Row → Type 0) (p b : ℕ) (xs : List Leaf) → ((q : ℕ) (rows : List Row) → (q ≡ p → ⊥) → P q rows → Q q rows)
    → ((q : ℕ) (rows : List Row) → q ≡ p → P q rows → Q q (rows_below b rows)) → Each P xs
    → Each Q (lowered p b xs)
each_lowered P Q p b [] f g h = tt
each_lowered P Q p b (x ∷ xs) f g h = (
  cond_both (x.number == p) (rows_below b x.rows) x.rows (λ rows. Q x.number rows) (λ e. g x.number x.rows (eqb-true _ _ e) h.0)
      (λ e. f x.number x.rows (eqb-false _ _ e) h.0),
  each_lowered P Q p b xs f g h.1,
)

-- the page of a number
pub each_at : (P : ℕ → List Row → Type 0) (p : ℕ) (xs : List Leaf) → owns xs p ≡ true → Each P xs → P p (rows_of xs p)
each_at P p [] own h = absurd (false≢true own)
each_at P p (x ∷ xs) own h =
    cond_both (x.number == p) x (leaf_at xs p) (λ y. P p y.rows)
    (λ e. subst (λ z. P z x.rows) (eqb-true _ _ e) h.0)
    (λ e. each_at P p xs (ap (λ b. b || owns xs p) (sym e) ∙ own) h.1)

-- each page of a list is in it
pub each_in : (xs : List Leaf) → Each (λ p rows. owns xs p ≡ true) xs
each_in [] = tt
each_in (x ∷ xs) = (
  or_left (x.number == x.number) (owns xs x.number) (eq-eqb x.number x.number refl),
  each_map (λ p rows. owns xs p ≡ true) (λ p rows. owns (x ∷ xs) p ≡ true) xs (λ p rows h. or_right _ _ h) (each_in xs),
)

-- where no number is twice, a page's rows are those of its number
pub each_own : (xs : List Leaf) → ((p : ℕ) → times p xs ≤ 1) → Each (λ p rows. rows ≡ rows_of xs p) xs
each_own [] once = tt
each_own (x ∷ xs) once = (
  sym (rows_of-here x xs x.number (eq-eqb _ _ refl)),
  each_map (λ p rows. (owns xs p ≡ true) × (rows ≡ rows_of xs p)) (λ p rows. rows ≡ rows_of (x ∷ xs) p) xs
      (λ p rows h.
      let one = owns-times p xs h.0 in
      let few = once p in
      let far : (x.number == p) ≡ false = ne_eqb _ _ (λ e. let k : (x.number == p) ≡ true = eq-eqb _ _ e in absurd (grind (arith, nat_tests, one, few, k))) in
      h.1 ∙ sym (rows_of-past x xs p far))
      (each_both (λ p rows. owns xs p ≡ true) (λ p rows. rows ≡ rows_of xs p) xs (each_in xs)
      (each_own xs (λ p. let few = once p in cond_both (x.number == p) 1 0 (λ m. m + times p xs ≤ 1 → times p xs ≤ 1) (λ _ h. omega arith)
      (λ _ h. omega arith) few))),
)
