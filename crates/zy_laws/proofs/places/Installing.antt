-- Installing private rows on their pages lays them over the database.
use Rattle.std.proofs.Common.{Bool, List, [], ap, false, inl, inr, refl, sym, true, ℕ, ◌++◌, ◌∙◌, ◌∷◌, ◌≡◌}
use Rattle.std.specs.Prelude.{None, Option, Some, if◌then◌else◌, is_some, slice_get, ◌==◌, ◌||◌, ◌⊎◌}
use Rattle.std.specs.FinMap.{get, get-empty}
use Rattle.std.specs.Ordering.{nat_cmp}
use Rattle.std.proofs.lemmas.Bool.{cases_eq, cond_both, eq-eqb, eqb-false, eqb-true, false≢true, ne_eqb, or_cases, or_parts}
use Rattle.zy_isa.specs.Rows.{get_row}
use Rattle.zy_isa.specs.declared.row.Row.{Row}
use Rattle.zy_table.specs.Change.{installed}
use Rattle.zy_table.specs.Database.{laid_leaves}
use Rattle.zy_table.specs.Pages.{owns}
use Rattle.zy_table.specs.Rows.{put_rows, rows_on}
use Rattle.zy_table.specs.State.{Leaf, other}
use Rattle.zy_model.specs.Wireframe.{page_of}
use Rattle.zy_laws.proofs.serial.LoneRuns.{get-laid, get_row-put, or_else, or_else_put}

-- a page has its low key from the wireframe, and each of its rows lies there
pub record OnPage (lows : List ℕ) (x : Leaf) : Type 0 where
  pub low : slice_get lows x.number ≡ Some x.low
  pub each : (k : ℕ) → is_some (get_row x.rows k) ≡ true → page_of lows k ≡ x.number

-- the same of each page of a list
abbrev pub Placed : List ℕ → List Leaf → Type 0
Placed lows [] = Unit {0}
Placed lows (x ∷ xs) = OnPage lows x × Placed lows xs

-- what the pages of a list have at a key
abbrev pub found : List Leaf → ℕ → Option ℕ
found [] k = None
found (x ∷ xs) k = or_else (get_row x.rows k) (found xs k)

-- what the map of a list of pages has at a key is what the pages have
pub get-leaves : (xs : List Leaf) (k : ℕ) → get (laid_leaves xs) k ≡ found xs k
get-leaves [] k = get-empty nat_cmp k
get-leaves (x ∷ xs) k = get-laid x.rows (laid_leaves xs) k ∙ ap (or_else (get_row x.rows k)) (get-leaves xs k)

-- the first value of three
pub or_else_assoc : (a b c : Option ℕ) → or_else (or_else a b) c ≡ or_else a (or_else b c)
or_else_assoc None b c = refl
or_else_assoc (Some v) b c = refl

-- nothing behind a value changes nothing
pub or_else_none : (a : Option ℕ) → or_else a None ≡ a
or_else_none None = refl
or_else_none (Some v) = refl

-- two lists of pages have what the first has, else what the second has
pub found-append : (xs ys : List Leaf) (k : ℕ) → found (xs ++ ys) k ≡ or_else (found xs k) (found ys k)
found-append [] ys k = refl
found-append (x ∷ xs) ys k = ap (or_else (get_row x.rows k)) (found-append xs ys k) ∙ sym (or_else_assoc (get_row x.rows k) (found xs k) (found ys k))

-- a key that is not on its page is nowhere
pub none_else : (o : Option ℕ) → (is_some o ≡ true → ⊥) → o ≡ None
none_else None h = refl
none_else (Some v) h = absurd (h refl)

-- a key whose page is not in a list is on none of its pages
pub not_found : (lows : List ℕ) (xs : List Leaf) (k : ℕ) → Placed lows xs → owns xs (page_of lows k) ≡ false → found xs k ≡ None
not_found lows [] k p h = refl
not_found lows (x ∷ xs) k p h =
    let parts = or_parts _ _ h in
    let here : get_row x.rows k ≡ None = none_else _ (λ is. eqb-false _ _ parts.0 (sym (p.0.each k is))) in
    ap (λ o. or_else o (found xs k)) here ∙ not_found lows xs k p.1 parts.1

-- rows put over rows are found first
pub get_row-puts : (rs rows : List Row) (k : ℕ) → get_row (put_rows rs rows) k ≡ or_else (get_row rs k) (get_row rows k)
get_row-puts [] rows k = refl
get_row-puts (r ∷ rs) rows k =
    get_row-put r.key r.value (put_rows rs rows) k ∙ ap (λ o. if r.key == k then Some r.value else o) (get_row-puts rs rows k)
    ∙ or_else_put (r.key == k) r.value (get_row rs k) (get_row rows k)

-- of the rows on a page a key has its row if it lies on that page
pub get_row-on : (lows : List ℕ) (p : ℕ) (rs : List Row) (k : ℕ) → get_row (rows_on lows p rs) k ≡ (if page_of lows k == p then get_row rs k else None)
get_row-on lows p [] k = cond_both (page_of lows k == p) None None (λ o. None ≡ o) (λ _. refl) (λ _. refl)
get_row-on lows p (r ∷ rs) k =
    let e = get_row-on lows p rs k in
    elim (cases_eq r.key k) [
      | inl same ↦ let yes : (r.key == k) ≡ true = eq-eqb _ _ same in
          cond_both (page_of lows r.key == p) (r ∷ rows_on lows p rs) (rows_on lows p rs)
          (λ y. get_row y k ≡ (if page_of lows k == p then (if r.key == k then Some r.value else get_row rs k) else None))
          (λ on. let on' : (page_of lows k == p) ≡ true = rw (← same) on in rw (yes, on'))
          (λ off. let off' : (page_of lows k == p) ≡ false = rw (← same) off in rw off' (e ∙ ap (λ b. if b then get_row rs k else None) off'))
      | inr other ↦ let no' : (r.key == k) ≡ false = ne_eqb _ _ other in
          cond_both (page_of lows r.key == p) (r ∷ rows_on lows p rs) (rows_on lows p rs)
          (λ y. get_row y k ≡ (if page_of lows k == p then (if r.key == k then Some r.value else get_row rs k) else None))
          (λ _. rw no' e)
          (λ _. rw no' e)
    ]

-- one page with the rows that lie on it
installed_at : (lows : List ℕ) (rs : List Row) (x : Leaf) (k : ℕ)
    → get_row (put_rows (rows_on lows x.number rs) x.rows) k ≡ or_else (if page_of lows k == x.number then get_row rs k else None) (get_row x.rows k)
installed_at lows rs x k = get_row-puts (rows_on lows x.number rs) x.rows k ∙ ap (λ o. or_else o (get_row x.rows k)) (get_row-on lows x.number rs k)

-- nothing under a test is nothing
pub if_none : (b : Bool) (o : Option ℕ) → o ≡ None → (if b then o else None) ≡ None
if_none true o h = h
if_none false o h = refl

-- a key of no private row
pub installed_none : (lows : List ℕ) (rs : List Row) (xs : List Leaf) (k : ℕ) → get_row rs k ≡ None → found (installed lows rs xs) k ≡ found xs k
installed_none lows rs [] k h = refl
installed_none lows rs (x ∷ xs) k h =
    ap (λ o. or_else o (found (installed lows rs xs) k)) (installed_at lows rs x k ∙ ap (λ o. or_else o (get_row x.rows k)) (if_none _ _ h))
    ∙ ap (or_else (get_row x.rows k)) (installed_none lows rs xs k h)

-- a key of a private row, on a page that is here
pub installed_some : (lows : List ℕ) (rs : List Row) (xs : List Leaf) (k v : ℕ) → get_row rs k ≡ Some v → Placed lows xs
    → owns xs (page_of lows k) ≡ true → found (installed lows rs xs) k ≡ Some v
installed_some lows rs [] k v h p own = absurd (false≢true own)
installed_some lows rs (x ∷ xs) k v h p own =
    elim (cases_eq (page_of lows k) x.number) [
      | inl here ↦ let yes : (page_of lows k == x.number) ≡ true = eq-eqb _ _ here in
          ap (λ o. or_else o (found (installed lows rs xs) k)) (installed_at lows rs x k
          ∙ ap (λ b. or_else (if b then get_row rs k else None) (get_row x.rows k)) yes ∙ ap (λ o. or_else o (get_row x.rows k)) h)
      | inr other ↦
          let off : (page_of lows k == x.number) ≡ false = ne_eqb _ _ other in
          let none : get_row x.rows k ≡ None = none_else _ (λ is. other (p.0.each k is)) in
          let below : owns xs (page_of lows k) ≡ true = elim (or_cases (x.number == page_of lows k) (owns xs (page_of lows k)) own) [
            | inl e ↦
                absurd (other (sym (eqb-true _ _ e)))
            | inr e ↦ e
          ] in
          ap (λ o. or_else o (found (installed lows rs xs) k)) (installed_at lows rs x k
          ∙ ap (λ b. or_else (if b then get_row rs k else None) (get_row x.rows k)) off ∙ none)
          ∙ installed_some lows rs xs k v h p.1 below
    ]

-- installed rows lie where they should
is_some_else : (a b : Option ℕ) → is_some (or_else a b) ≡ true → (is_some a ≡ true) ⊎ (is_some b ≡ true)
is_some_else None b h = inr h
is_some_else (Some v) b h = inl refl

-- a value under a test shows that the test holds
is_some_if : (b : Bool) (o : Option ℕ) → is_some (if b then o else None) ≡ true → b ≡ true
is_some_if true o h = refl
is_some_if false o h = absurd (false≢true h)

-- after installing, a page's rows lie on it
installed_on : (lows : List ℕ) (rs : List Row) (x : Leaf) → OnPage lows x
    → OnPage lows (record x { rows = put_rows (rows_on lows x.number rs) x.rows })
installed_on lows rs x p = record {
  low = p.low;
  each =
      λ k h. elim (is_some_else (if page_of lows k == x.number then get_row rs k else None) (get_row x.rows k)
      (ap is_some (sym (installed_at lows rs x k)) ∙ h)) [
        | inl mine ↦ eqb-true _ _ (is_some_if (page_of lows k == x.number) (get_row rs k) mine)
        | inr old ↦ p.each k old
      ];
}

-- after installing, each row lies on its page
pub placed_installed : (lows : List ℕ) (rs : List Row) (xs ys : List Leaf) → Placed lows (xs ++ ys) → Placed lows (installed lows rs xs ++ ys)
placed_installed lows rs [] ys p = p
placed_installed lows rs (x ∷ xs) ys p = (installed_on lows rs x p.0, placed_installed lows rs xs ys p.1)

-- installing leaves which pages there are
pub owns-installed : (lows : List ℕ) (rs : List Row) (xs : List Leaf) (p : ℕ) → owns (installed lows rs xs) p ≡ owns xs p
owns-installed lows rs [] p = refl
owns-installed lows rs (x ∷ xs) p = ap (λ b. (x.number == p) || b) (owns-installed lows rs xs p)

-- of two lists of pages each is placed
pub placed_front : (lows : List ℕ) (xs ys : List Leaf) → Placed lows (xs ++ ys) → Placed lows xs × Placed lows ys
placed_front lows [] ys p = (tt, p)
placed_front lows (x ∷ xs) ys p = let q = placed_front lows xs ys p.1 in ((p.0, q.0), q.1)

-- two lists that are placed are so as one
pub placed_append : (lows : List ℕ) (xs ys : List Leaf) → Placed lows xs → Placed lows ys → Placed lows (xs ++ ys)
placed_append lows [] ys a b = b
placed_append lows (x ∷ xs) ys a b = (a.0, placed_append lows xs ys a.1 b)
