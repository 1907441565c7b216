-- The pages of a node when one of them is cut: what they have, and where its keys lie.
use Rattle.std.proofs.Common.{◌≡◌, ℕ, ◌<◌, ◌≤◌, List, [], ◌∷◌, ◌++◌, length, zero, suc, true, false, refl, sym, ap, ◌∙◌}
use Rattle.std.specs.Prelude.{if◌then◌else◌, ◌==◌, nat_lt, Some, None, is_some, slice_get, Contains}
use Rattle.std.proofs.lemmas.Bool.{cond_both, false≢true, eqb-true, eqb-false, or_parts, ltb-true, ltb-false}
use Rattle.zy_isa.specs.declared.row.Row.{Row}
use Rattle.zy_isa.specs.Rows.{get_row}
use Rattle.zy_model.specs.Leaf.{Leaf, rows_below, rows_from}
use Rattle.zy_model.proofs.Parted.{get_row-rows_below, get_row-rows_from}
use Rattle.zy_model.specs.Wireframe.{page_of}
use Rattle.zy_model.proofs.Longer.{page_of-others, page_of-cut_above, page_of-cut_below}
use Rattle.zy_table.specs.Pages.{leaf_at, lowered, owns, rows_of, with_page}
use Rattle.zy_laws.proofs.places.Installing.{Placed, OnPage, placed_append}

-- ---- the rows of a page, below the boundary and from it on

-- a key below the boundary is below it, and was there
some_below : (b : ℕ) (rows : List Row) (k : ℕ) → is_some (get_row (rows_below b rows) k) ≡ true → (k < b) × (is_some (get_row rows k) ≡ true)
some_below b rows k h =
    cond_both (nat_lt k b) (get_row rows k) None (λ o. is_some o ≡ true → (k < b) × (is_some (get_row rows k) ≡ true)) (λ e g. (ltb-true _ _ e, g))
    (λ _ g. absurd (false≢true g)) (ap is_some (sym (get_row-rows_below b rows k)) ∙ h)

-- a key from the boundary on is so, and was there
some_from : (b : ℕ) (rows : List Row) (k : ℕ) → is_some (get_row (rows_from b rows) k) ≡ true → (b ≤ k) × (is_some (get_row rows k) ≡ true)
some_from b rows k h =
    cond_both (nat_lt k b) None (get_row rows k) (λ o. is_some o ≡ true → (b ≤ k) × (is_some (get_row rows k) ≡ true)) (λ _ g. absurd (false≢true g))
    (λ e g. (ltb-false _ _ e, g)) (ap is_some (sym (get_row-rows_from b rows k)) ∙ h)

-- ---- where the keys lie

-- a key of a page's rows lies on that page
pub leaf_placed : (lows : List ℕ) (p : ℕ) (xs : List Leaf) (q : ℕ) → Placed lows xs → is_some (get_row (rows_of xs p) q) ≡ true → page_of lows q ≡ p
leaf_placed lows p [] q h s = absurd (false≢true s)
leaf_placed lows p (x ∷ xs) q h s =
    cond_both (x.number == p) x (leaf_at xs p) (λ y. is_some (get_row y.rows q) ≡ true → page_of lows q ≡ p)
    (λ e g. h.0.each q g ∙ eqb-true _ _ e)
    (λ _ g. leaf_placed lows p xs q h.1 g) s

-- a page more that lies where it should
pub placed-with_page : (lows : List ℕ) (leaf : Leaf) (xs : List Leaf) → OnPage lows leaf → Placed lows xs → Placed lows (with_page leaf xs)
placed-with_page lows leaf [] here h = (here, tt)
placed-with_page lows leaf (x ∷ xs) here h =
    cond_both (nat_lt leaf.number x.number) (leaf ∷ x ∷ xs) (x ∷ with_page leaf xs) (Placed lows)
    (λ _. (here, (h.0, h.1)))
    (λ _. (h.0, placed-with_page lows leaf xs here h.1))

-- a low key more at the end
get_more : (lows : List ℕ) (b i low : ℕ) → slice_get lows i ≡ Some low → slice_get (lows ++ b ∷ []) i ≡ Some low
get_more [] b i low h = cc
get_more (x ∷ lows) b zero low h = h
get_more (x ∷ lows) b (suc i) low h = get_more lows b i low h

-- the low key at the end
get_last : (lows : List ℕ) (b : ℕ) → slice_get (lows ++ b ∷ []) (length lows) ≡ Some b
get_last [] b = refl
get_last (x ∷ lows) b = get_last lows b

-- the rows that are left on the cut page lie on it, and those of another one as before
on_lowered : (more : List ℕ) (p b : ℕ) (x : Leaf) → page_of (0 ∷ more) b ≡ p → OnPage (0 ∷ more) x
    → OnPage ((0 ∷ more) ++ b ∷ []) (record x { rows = if x.number == p then rows_below b x.rows else x.rows })
on_lowered more p b x on h = record {
  low = get_more (0 ∷ more) b x.number x.low h.low;
  each = λ k. cond_both (x.number == p) (rows_below b x.rows) x.rows (λ rows. is_some (get_row rows k) ≡ true → page_of ((0 ∷ more) ++ b ∷ []) k ≡ x.number)
      (λ _ s. let parts = some_below b x.rows k s in page_of-cut_below more b k parts.0 ∙ h.each k parts.1)
      (λ off s. let here = h.each k s in page_of-others more b k (λ same. eqb-false _ _ off (sym here ∙ same ∙ on)) ∙ here);
}

-- after the cut the rows of each page lie on it
placed_lowered : (more : List ℕ) (p b : ℕ) (xs : List Leaf) → page_of (0 ∷ more) b ≡ p → Placed (0 ∷ more) xs → Placed ((0 ∷ more) ++ b ∷ []) (lowered p b xs)
placed_lowered more p b [] on h = tt
placed_lowered more p b (x ∷ xs) on h = (on_lowered more p b x on h.0, placed_lowered more p b xs on h.1)

-- the pages that are elsewhere
placed_elsewhere : (more : List ℕ) (p b : ℕ) (xs : List Leaf) → page_of (0 ∷ more) b ≡ p → owns xs p ≡ false → Placed (0 ∷ more) xs
    → Placed ((0 ∷ more) ++ b ∷ []) xs
placed_elsewhere more p b [] on off h = tt
placed_elsewhere more p b (x ∷ xs) on off h =
    let parts = or_parts (x.number == p) (owns xs p) off in (
      record {
        low = get_more (0 ∷ more) b x.number x.low h.0.low;
        each = λ k s. let here = h.0.each k s in
            page_of-others more b k (λ same. eqb-false _ _ parts.0 (sym here ∙ same ∙ on)) ∙ here;
      },
      placed_elsewhere more p b xs on parts.1 h.1,
    )

-- after the cut, with the new page, each row lies on its page
pub placed_cut : (more : List ℕ) (p b : ℕ) (xs ys : List Leaf) → page_of (0 ∷ more) b ≡ p → (Contains (0 ∷ more) b → ⊥) → owns ys p ≡ false
    → Placed (0 ∷ more) xs → Placed (0 ∷ more) ys
    → Placed ((0 ∷ more) ++ b ∷ []) (with_page (record { number = length (0 ∷ more); low = b; rows = rows_from b (rows_of xs p) }) (lowered p b xs) ++ ys)
placed_cut more p b xs ys on new off hx hy =
    placed_append ((0 ∷ more) ++ b ∷ []) _ ys
    (placed-with_page ((0 ∷ more) ++ b ∷ []) _ (lowered p b xs)
    (record {
      low = get_last (0 ∷ more) b;
      each = λ k s. let parts = some_from b (rows_of xs p) k s in
          page_of-cut_above more b k new (on ∙ sym (leaf_placed (0 ∷ more) p xs k hx parts.1)) parts.0;
    })
    (placed_lowered more p b xs on hx))
    (placed_elsewhere more p b ys on off hy)
