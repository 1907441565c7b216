-- The boundary of a split is a key of its page, and no page's low key.
use Rattle.std.proofs.Common.{◌≡◌, ℕ, zero, suc, ◌+◌, ◌/◌, ◌<◌, ◌≤◌, List, [], ◌∷◌, ◌++◌, length, true, false, refl, sym, ap, ◌∙◌, subst, arith, inl, inr}
use Rattle.std.proofs.Common.{length-append}
use Rattle.std.specs.Prelude.{◌⊎◌, if◌then◌else◌, ◌==◌, Some, None, is_some, slice_index, Contains}
use Rattle.std.proofs.lemmas.Bool.{cond_both, false_from_ne_true, false≢true, or_right, or_left, eq-eqb, eqb-true, eqb-false, or_parts, ltb-false}
use Rattle.std.proofs.lemmas.List.{get_or_default}
use Rattle.zy_isa.specs.declared.row.Row.{Row}
use Rattle.zy_isa.specs.Rows.{Rising, get_row}
use Rattle.zy_isa.specs.Scenario.{Scenario}
use Rattle.zy_model.specs.Wireframe.{page_of}
use Rattle.zy_model.proofs.PageOf.{page_of-greatest}
use Rattle.zy_table.specs.State.{View}
use Rattle.zy_table.specs.Change.{txn_at}
use Rattle.zy_table.specs.Keys.{keys_of, put_key}
use Rattle.zy_table.specs.Pages.{rows_of}
use Rattle.zy_table.specs.Rows.{rows_not_in, rows_on}
use Rattle.zy_table.specs.Run.{boundary, has_room, is_there, own_inserts}
use Rattle.zy_table.specs.Order.{NumbersRise}
use Rattle.zy_laws.proofs.places.Installing.{Placed, get_row-on}
use Rattle.zy_laws.proofs.places.CutPages.{leaf_placed}
use Rattle.zy_table.proofs.RangeWalk.{has-put}
use Rattle.zy_table.proofs.RisingRows.{rises_key}
use Rattle.zy_table.proofs.RisingNumbers.{rises_put}
use Rattle.zy_table.specs.Numbers.{has}
use Rattle.zy_table.proofs.KeyLists.{length-put_key, length-keys}

-- ---- keys in order

-- each of the keys of rows has a row
has-keys : (rows : List Row) (q : ℕ) → has (keys_of rows) q ≡ true → is_some (get_row rows q) ≡ true
has-keys [] q h = absurd (false≢true h)
has-keys (r ∷ rows) q h =
    cond_both (r.key == q) (Some r.value) (get_row rows q) (λ o. is_some o ≡ true) (λ _. refl)
    (λ off. elim (has-put r.key (keys_of rows) q h) [ inl e ↦ absurd (eqb-false _ _ off e) | inr e ↦ has-keys rows q e ])

-- each number of a list is in it
index_has : (xs : List ℕ) (i : ℕ) → i < length xs → has xs (slice_index xs i) ≡ true
index_has [] i h = absurd (omega arith)
index_has (x ∷ xs) zero h = or_left _ _ (eq-eqb x x refl)
index_has (x ∷ xs) (suc i) h = or_right (x == slice_index xs i) _ (index_has xs i (omega arith))

-- ---- no key is twice

-- the first of rising keys is below the others
rise_index : (low : ℕ) (xs : List ℕ) (i : ℕ) → NumbersRise low xs → i < length xs → low ≤ slice_index xs i
rise_index low [] i h lt = absurd (omega arith)
rise_index low (x ∷ xs) zero h lt = h.0
rise_index low (x ∷ xs) (suc i) h lt = let first = h.0 in let rest = rise_index (x + 1) xs i h.1 (omega arith) in omega arith

-- the first of rising numbers is below each other one
first_below : (low : ℕ) (xs : List ℕ) (i : ℕ) → NumbersRise low xs → i < length xs → 1 ≤ i → slice_index xs 0 < slice_index xs i
first_below low [] i h lt one = absurd (omega arith)
first_below low (x ∷ xs) zero h lt one = absurd (omega arith)
first_below low (x ∷ xs) (suc i) h lt one = let rest = rise_index (x + 1) xs i h.1 (omega arith) in omega arith

-- each row's key is not among those of the rows behind it
abbrev Differ : List Row → Type 0
Differ [] = Unit {0}
Differ (r ∷ rows) = (is_some (get_row rows r.key) ≡ true → ⊥) × Differ rows

-- the keys of rows that differ rise
rise-keys : (rows : List Row) → Differ rows → NumbersRise 0 (keys_of rows)
rise-keys [] h = tt
rise-keys (r ∷ rows) h = rises_put 0 r.key (keys_of rows) (omega arith) (false_from_ne_true _ (λ there. h.0 (has-keys rows r.key there))) (rise-keys rows h.1)

-- rising rows differ
differ_rising : (low : ℕ) (rows : List Row) → Rising low rows → Differ rows
differ_rising low [] h = tt
differ_rising low (r ∷ rows) h = ((λ there. let le = rises_key (r.key + 1) rows r.key h.1 there in absurd (omega arith)), differ_rising (r.key + 1) rows h.1)

-- a key of two lists is a key of one of them
some_append : (xs ys : List Row) (q : ℕ) → is_some (get_row (xs ++ ys) q) ≡ true → (is_some (get_row xs q) ≡ true) ⊎ (is_some (get_row ys q) ≡ true)
some_append [] ys q h = inr h
some_append (r ∷ xs) ys q h =
    cond_both (r.key == q) (Some r.value) (get_row (xs ++ ys) q) (λ o. is_some o ≡ true → (is_some (get_row (r ∷ xs) q) ≡ true)
    ⊎ (is_some (get_row ys q) ≡ true))
    (λ e _. inl (ap (λ b. is_some (if b then Some r.value else get_row xs q)) e))
    (λ e g. elim (some_append xs ys q g) [ inl i ↦ inl (ap (λ b. is_some (if b then Some r.value else get_row xs q)) e ∙ i) | inr i ↦ inr i ]) h

-- a row of a list that has it, whatever is before
some_behind : (r : Row) (rows : List Row) (q : ℕ) → is_some (get_row rows q) ≡ true → is_some (get_row (r ∷ rows) q) ≡ true
some_behind r rows q h = cond_both (r.key == q) (Some r.value) (get_row rows q) (λ o. is_some o ≡ true) (λ _. refl) (λ _. h)

-- two lists that share no key differ as one
differ_append : (xs ys : List Row) → Differ xs → Differ ys → ((q : ℕ) → is_some (get_row xs q) ≡ true → is_some (get_row ys q) ≡ true → ⊥) → Differ (xs ++ ys)
differ_append [] ys a b apart = b
differ_append (r ∷ xs) ys a b apart = (
  (λ there. elim (some_append xs ys r.key there) [
    | inl i ↦ a.0 i
    | inr i ↦ apart r.key (ap (λ b. is_some (if b then Some r.value else get_row xs r.key)) (eq-eqb r.key r.key refl)) i
  ]),
  differ_append xs ys a.1 b (λ q here there. apart q (some_behind r xs q here) there),
)

-- a key of the rows that are not held is a row's, and not held
some_not_in : (rs held : List Row) (q : ℕ) → is_some (get_row (rows_not_in rs held) q) ≡ true → (is_some (get_row rs q) ≡ true)
    × (is_some (get_row held q) ≡ false)
some_not_in [] held q h = absurd (false≢true h)
some_not_in (r ∷ rs) held q h =
    cond_both (is_some (get_row held r.key)) (rows_not_in rs held) (r ∷ rows_not_in rs held) (λ y. is_some (get_row y q) ≡ true
    → (is_some (get_row (r ∷ rs) q) ≡ true) × (is_some (get_row held q) ≡ false))
    (λ _ g. let rest = some_not_in rs held q g in (some_behind r rs q rest.0, rest.1))
    (λ off g. cond_both (r.key == q) (Some r.value) (get_row (rows_not_in rs held) q) (λ o. is_some o ≡ true → (is_some (get_row (r ∷ rs) q) ≡ true)
    × (is_some (get_row held q) ≡ false))
    (λ e _. (ap (λ b. is_some (if b then Some r.value else get_row rs q)) e, subst (λ z. is_some (get_row held z) ≡ false) (eqb-true _ _ e) off))
    (λ e i. let rest = some_not_in rs held q i in (some_behind r rs q rest.0, rest.1)) g) h

-- of rows that differ those that are not held differ
differ_not_in : (rs held : List Row) → Differ rs → Differ (rows_not_in rs held)
differ_not_in [] held h = tt
differ_not_in (r ∷ rs) held h =
    cond_both (is_some (get_row held r.key)) (rows_not_in rs held) (r ∷ rows_not_in rs held) Differ
    (λ _. differ_not_in rs held h.1)
    (λ _. ((λ there. h.0 (some_not_in rs held r.key there).0), differ_not_in rs held h.1))

-- a key of the rows on a page lies on it
some_on : (lows : List ℕ) (p : ℕ) (rs : List Row) (q : ℕ) → is_some (get_row (rows_on lows p rs) q) ≡ true → (page_of lows q ≡ p)
    × (is_some (get_row rs q) ≡ true)
some_on lows p rs q h =
    cond_both (page_of lows q == p) (get_row rs q) None (λ o. is_some o ≡ true → (page_of lows q ≡ p) × (is_some (get_row rs q) ≡ true))
    (λ e g. (eqb-true _ _ e, g)) (λ _ g. absurd (false≢true g)) (ap is_some (sym (get_row-on lows p rs q)) ∙ h)

-- of rows that differ those on a page differ
differ_on : (lows : List ℕ) (p : ℕ) (rs : List Row) → Differ rs → Differ (rows_on lows p rs)
differ_on lows p [] h = tt
differ_on lows p (r ∷ rs) h =
    cond_both (page_of lows r.key == p) (r ∷ rows_on lows p rs) (rows_on lows p rs) Differ
    (λ _. ((λ there. h.0 (some_on lows p rs r.key there).1), differ_on lows p rs h.1))
    (λ _. differ_on lows p rs h.1)

-- ---- the boundary

-- the keys among which it is
abbrev keys_at : ℕ → ℕ → ℕ → View → List ℕ
keys_at t k p v = put_key k (keys_of (rows_of v.me.pages p ++ own_inserts p v.me (txn_at v t)))

-- they lie on the page
keys_on : (t k p : ℕ) (v : View) (q : ℕ) → Placed v.me.lows v.me.pages → page_of v.me.lows k ≡ p → has (keys_at t k p v) q ≡ true → page_of v.me.lows q ≡ p
keys_on t k p v q placed on h =
    let lows = v.me.lows in
    let rows = rows_of v.me.pages p in
    let private = (txn_at v t).rows in
    elim (has-put k (keys_of (rows ++ own_inserts p v.me (txn_at v t))) q h) [
      | inl e ↦ ap (page_of lows) (sym e) ∙ on
      | inr e ↦ elim (some_append rows (own_inserts p v.me (txn_at v t)) q (has-keys (rows ++ own_inserts p v.me (txn_at v t)) q e)) [
        | inl i ↦ leaf_placed lows p v.me.pages q placed i
        | inr i ↦ (some_on lows p private q (some_not_in (rows_on lows p private) rows q i).0).0
      ]
    ]

-- where there is no room, the index is one of theirs
within_keys : (sc : Scenario) (t k p : ℕ) (v : View) → has_room sc p v.me (txn_at v t) ≡ false → (sc.cap + 1) / 2 < length (keys_at t k p v)
within_keys sc t k p v full =
    let rows = rows_of v.me.pages p in
    let new = own_inserts p v.me (txn_at v t) in
    let keys = keys_of (rows ++ new) in
    let long : length (put_key k keys) ≡ suc (length rows + length new) = length-put_key k keys ∙ ap suc (length-keys (rows ++ new) ∙ length-append rows new) in
    let no_room : sc.cap ≤ length rows + length new = ltb-false _ _ full in
    omega arith

-- the boundary lies on the page that is cut
pub boundary_on : (sc : Scenario) (t k p : ℕ) (v : View) → Placed v.me.lows v.me.pages → page_of v.me.lows k ≡ p → has_room sc p v.me (txn_at v t) ≡ false
    → page_of v.me.lows (boundary sc k p v.me (txn_at v t)) ≡ p
boundary_on sc t k p v placed on full =
    keys_on t k p v (boundary sc k p v.me (txn_at v t)) placed on (index_has (keys_at t k p v) ((sc.cap + 1) / 2) (within_keys sc t k p v full))

-- they rise
keys_rise : (t k p : ℕ) (v : View) → Rising 0 (rows_of v.me.pages p) → Rising 0 (txn_at v t).rows → is_there k p v.me (txn_at v t) ≡ false
    → NumbersRise 0 (keys_at t k p v)
keys_rise t k p v committed private new =
    let rows = rows_of v.me.pages p in
    let mine = (txn_at v t).rows in
    let on = rows_on v.me.lows p mine in
    let off = or_parts (is_some (get_row mine k)) (is_some (get_row rows k)) new in
    rises_put 0 k (keys_of (rows ++ own_inserts p v.me (txn_at v t))) (omega arith)
    (false_from_ne_true _ (λ there. elim (some_append rows (own_inserts p v.me (txn_at v t)) k (has-keys (rows ++ own_inserts p v.me (txn_at v t)) k there)) [
      | inl i ↦ false≢true (sym off.1 ∙ i)
      | inr i ↦ false≢true (sym off.0 ∙ (some_on v.me.lows p mine k (some_not_in on rows k i).0).1)
    ]))
    (rise-keys (rows ++ own_inserts p v.me (txn_at v t)) (differ_append rows (own_inserts p v.me (txn_at v t)) (differ_rising 0 rows committed)
    (differ_not_in on rows (differ_on v.me.lows p mine (differ_rising 0 mine private)))
    (λ q here there. false≢true (sym (some_not_in on rows q there).1 ∙ here))))

-- a key below the boundary lies on the page too, so the boundary is above the page's low key, and is no other page's
pub boundary_new : (sc : Scenario) (t k p : ℕ) (v : View) (more : List ℕ) → v.me.lows ≡ 0 ∷ more → 2 ≤ sc.cap → Placed v.me.lows v.me.pages
    → page_of v.me.lows k ≡ p → has_room sc p v.me (txn_at v t) ≡ false
    → Rising 0 (rows_of v.me.pages p) → Rising 0 (txn_at v t).rows → is_there k p v.me (txn_at v t) ≡ false
    → Contains v.me.lows (boundary sc k p v.me (txn_at v t)) → ⊥
boundary_new sc t k p v more begins two placed on full committed private new there =
    let lows = v.me.lows in
    let keys = keys_at t k p v in
    let b = boundary sc k p v.me (txn_at v t) in
    let i = (sc.cap + 1) / 2 in
    let within = within_keys sc t k p v full in
    let least = slice_index keys 0 in
    let less : least < b = first_below 0 keys i (keys_rise t k p v committed private new) within (omega arith) in
    let first_on : page_of lows least ≡ p = keys_on t k p v least placed on (index_has keys 0 (omega arith)) in
    let b_on : page_of lows b ≡ p = boundary_on sc t k p v placed on full in
    let some : 0 < length lows = subst (λ l. 0 < length l) (sym begins) (omega arith) in
    let zero_low : slice_index lows 0 ≡ 0 = ap (λ l. slice_index l 0) begins in
    let under : slice_index lows p ≤ least = subst (λ z. slice_index lows z ≤ least) first_on (page_of-greatest lows least 0 some (omega arith)).0 in
    let q = there.0 in
    let at : slice_index lows q ≡ b = get_or_default lows q 0 b there.1 ∙ there.2 in
    let over : slice_index lows q ≤ slice_index lows p = subst (λ z. slice_index lows q ≤ slice_index lows z) b_on
    (page_of-greatest lows b q there.1 (omega arith)).1 in
    omega arith
