-- How many rows a page has, and how many more a transaction's private rows would bring.
use Rattle.std.proofs.Common.{Bool, List, [], ap, arith, false, inl, inr, length, refl, suc, sym, true, ℕ, ◌+◌, ◌<◌, ◌∙◌, ◌∷◌, ◌≡◌, ◌≤◌}
use Rattle.std.specs.Prelude.{None, Option, Some, if◌then◌else◌, is_some, nat_lt, not, ◌&&◌, ◌==◌}
use Rattle.std.proofs.lemmas.Bool.{cases_Bool, cond_both, eq-eqb, eqb-false, eqb-true, false≢true, ltb-true, ne_eqb}
use Rattle.zy_isa.specs.Rows.{Rising, get_row, put_row, row}
use Rattle.zy_isa.specs.declared.row.Row.{Row}
use Rattle.zy_model.proofs.Rows.{length-put_row_same}
use Rattle.zy_table.specs.Rows.{put_rows, rows_not_in, rows_on}
use Rattle.zy_model.specs.Wireframe.{page_of}
use Rattle.zy_laws.proofs.places.Installing.{get_row-puts}
use Rattle.zy_laws.proofs.serial.LoneRuns.{or_else}
use Rattle.zy_table.proofs.RisingRows.{rises_key, rises_puts}

-- is a private row of this key new on page p
abbrev pub is_new_on : List ℕ → ℕ → List Row → ℕ → Bool
is_new_on lows p held k = (page_of lows k == p) && not (is_some (get_row held k))

-- 1 where a test holds
abbrev pub one_if : Bool → ℕ
one_if b = if b then 1 else 0

-- how many private rows are new on page p
abbrev pub need : List ℕ → ℕ → List Row → List Row → ℕ
need lows p held [] = 0
need lows p held (r ∷ rows) = one_if (is_new_on lows p held r.key) + need lows p held rows

-- the rows that are needed are those of the page that are not held
pub need_is : (lows : List ℕ) (p : ℕ) (held rows : List Row) → length (rows_not_in (rows_on lows p rows) held) ≡ need lows p held rows
need_is lows p held [] = refl
need_is lows p held (r ∷ rows) =
    let e = need_is lows p held rows in
    cond_both (page_of lows r.key == p) (r ∷ rows_on lows p rows) (rows_on lows p rows)
    (λ y. length (rows_not_in y held) ≡ one_if (is_new_on lows p held r.key) + need lows p held rows)
    (λ on. cond_both (is_some (get_row held r.key)) (rows_not_in (rows_on lows p rows) held) (r ∷ rows_not_in (rows_on lows p rows) held)
    (λ y. length y ≡ one_if (is_new_on lows p held r.key) + need lows p held rows)
    (λ h. rw (on, h) (omega (arith, e)))
    (λ h. rw (on, h) (omega (arith, e))))
    (λ off. rw off (omega (arith, e)))

-- a row more makes a list longer by at most one
put_length : (k v : ℕ) (rows : List Row) → length (put_row k v rows) ≤ suc (length rows)
put_length k v [] = omega arith
put_length k v (r ∷ rows) =
    cond_both (k == r.key) (row k v ∷ rows) _ (λ y. length y ≤ suc (suc (length rows)))
    (λ _. omega arith)
    (λ _. cond_both (nat_lt k r.key) (row k v ∷ r ∷ rows) (r ∷ put_row k v rows) (λ y. length y ≤ suc (suc (length rows))) (λ _. omega arith)
    (λ _. let e = put_length k v rows in omega arith))

-- a key that was there already: nothing grows
not_below : (low k : ℕ) (r : Row) (rows : List Row) → Rising low (r ∷ rows) → is_some (get_row (r ∷ rows) k) ≡ true → k < r.key → ⊥
not_below low k r rows h s l = let e = rises_key r.key (r ∷ rows) k ((omega arith), h.1) s in absurd (omega arith)

-- another key is found behind the first row
past : (k : ℕ) (r : Row) (rows : List Row) → (k ≡ r.key → ⊥) → is_some (get_row (r ∷ rows) k) ≡ true → is_some (get_row rows k) ≡ true
past k r rows far s = ap (λ b. is_some (if b then Some r.value else get_row rows k)) (sym (ne_eqb r.key k (λ e. far (sym e)))) ∙ s

-- a value behind another one is a value
some_else : (a b : Option ℕ) → is_some b ≡ true → is_some (or_else a b) ≡ true
some_else None b h = h
some_else (Some v) b h = refl

-- what commit installs
pub installed_length : (lows : List ℕ) (p : ℕ) (rs rows : List Row) → Rising 0 rows
    → length (put_rows (rows_on lows p rs) rows) ≤ length rows + need lows p rows rs
installed_length lows p [] rows h = omega arith
installed_length lows p (r ∷ rs) rows h =
    let e = installed_length lows p rs rows h in
    let before = put_rows (rows_on lows p rs) rows in
    cond_both (page_of lows r.key == p) (r ∷ rows_on lows p rs) (rows_on lows p rs)
    (λ y. length (put_rows y rows) ≤ length rows + (one_if (is_new_on lows p rows r.key) + need lows p rows rs))
    (λ on. elim (cases_Bool (is_some (get_row rows r.key))) [
      | inl old ↦
          let there : is_some (get_row before r.key) ≡ true = ap is_some (get_row-puts (rows_on lows p rs) rows r.key) ∙ some_else _ _ old in
          let same = length-put_row_same 0 r.key r.value before (rises_puts (rows_on lows p rs) rows h) there in
          rw (on, old) (omega (arith, same, e))
      | inr new ↦ let more = put_length r.key r.value before in rw (on, new) (omega (arith, more, e))
    ])
    (λ off. rw off (omega (arith, e)))

-- a private row more
pub need_put : (lows : List ℕ) (p : ℕ) (held : List Row) (k v : ℕ) (rows : List Row)
    → need lows p held (put_row k v rows) ≤ need lows p held rows + one_if (is_new_on lows p held k)
need_put lows p held k v [] = omega arith
need_put lows p held k v (r ∷ rows) =
    cond_both (k == r.key) (row k v ∷ rows) _ (λ y. need lows p held y ≤ (one_if (is_new_on lows p held r.key) + need lows p held rows) + one_if
    (is_new_on lows p held k))
    (λ _. omega arith)
    (λ _. cond_both (nat_lt k r.key) (row k v ∷ r ∷ rows) (r ∷ put_row k v rows)
    (λ y. need lows p held y ≤ (one_if (is_new_on lows p held r.key) + need lows p held rows) + one_if (is_new_on lows p held k))
    (λ _. omega arith)
    (λ _. let e = need_put lows p held k v rows in omega (arith, e)))

-- one that was there already
pub need_same : (lows : List ℕ) (p : ℕ) (held : List Row) (low k v : ℕ) (rows : List Row) → Rising low rows → is_some (get_row rows k) ≡ true
    → need lows p held (put_row k v rows) ≡ need lows p held rows
need_same lows p held low k v [] h s = absurd (false≢true s)
need_same lows p held low k v (r ∷ rows) h s =
    cond_both (k == r.key) (row k v ∷ rows) _ (λ y. need lows p held y ≡ one_if (is_new_on lows p held r.key) + need lows p held rows)
    (λ e. ap (λ z. one_if (is_new_on lows p held z) + need lows p held rows) (eqb-true _ _ e))
    (λ e. cond_both (nat_lt k r.key) (row k v ∷ r ∷ rows) (r ∷ put_row k v rows)
    (λ y. need lows p held y ≡ one_if (is_new_on lows p held r.key) + need lows p held rows)
    (λ l. absurd (not_below low k r rows h s (ltb-true _ _ l)))
    (λ _. ap (λ z. one_if (is_new_on lows p held r.key) + z) (need_same lows p held (r.key + 1) k v rows h.1 (past k r rows (eqb-false _ _ e) s))))

-- no private row on a page: none is new there
pub need_none : (lows : List ℕ) (p : ℕ) (held rows : List Row) → ((k : ℕ) → is_some (get_row rows k) ≡ true → page_of lows k ≡ p → ⊥)
    → need lows p held rows ≡ 0
need_none lows p held [] h = refl
need_none lows p held (r ∷ rows) h =
    let off : (page_of lows r.key == p) ≡ false =
    ne_eqb _ _ (h r.key (ap (λ b. is_some (if b then Some r.value else get_row rows r.key)) (eq-eqb r.key r.key refl))) in
    let e = need_none lows p held rows (λ k s. h k (cond_both (r.key == k) (Some r.value) (get_row rows k) (λ o. is_some o ≡ true) (λ _. refl) (λ _. s))) in
    rw off (omega (arith, e))
