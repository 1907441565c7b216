-- The opening rows lie on their pages, and are the opening database.
use Rattle.std.proofs.Common.{List, [], ap, append-nil, append_assoc, arith, length, length-append, get_or, inl, inr, refl, subst, suc, sym, zero, ℕ, ◌++◌, ◌+◌}
use Rattle.std.proofs.Common.{◌-◌, ◌<◌, ◌∙◌, ◌∷◌, ◌≡◌, ◌≤◌}
use Rattle.std.specs.Prelude.{Some, drop, if◌then◌else◌, slice_get, take, ◌==◌}
use Rattle.std.specs.FinMap.{empty, insert}
use Rattle.std.proofs.lemmas.Bool.{cases_lt, false≢true, ne_eqb}
use Rattle.std.proofs.lemmas.List.{get_or_append_left, get_or-append_right, get_or_at}
use Rattle.zy_isa.specs.Rows.{Rising}
use Rattle.zy_isa.specs.Scenario.{IsScenario, Scenario, opening_rows}
use Rattle.zy_isa.specs.declared.row.Row.{Row}
use Rattle.zy_table.specs.Database.{Map, database, laid, laid_leaves}
use Rattle.zy_table.specs.Play.{opening, opening_leaves, opening_pages}
use Rattle.zy_table.specs.Layout.{lows_of}
use Rattle.zy_model.specs.Wireframe.{page_of}
use Rattle.zy_laws.proofs.places.Installing.{Placed}
use Rattle.zy_table.proofs.RisingRows.{rises_after, rises_drop, rises_key, rises_take}
use Rattle.zy_model.proofs.PageOf.{page_of-is}
use Rattle.zy_table.proofs.OpenLemmas.{drop_less}

-- ---- the page of a key

-- the low key of a page behind the first is its first key
page_low : (i key : ℕ) → 1 ≤ i → (if i == 0 then 0 else key) ≡ key
page_low i key h = ap (λ b. if b then 0 else key) (ne_eqb i 0 (λ e. absurd (omega arith)))

-- the low keys that are not above a key are not above the page's
at_most : (low : ℕ) (behind : List ℕ) (k m : ℕ) → ((q : ℕ) → q < length behind → k < get_or behind q 0) → m < suc (length behind)
    → get_or (low ∷ behind) m 0 ≤ k → get_or (low ∷ behind) m 0 ≤ low
at_most low behind k zero after lt le = omega arith
at_most low behind k (suc m) after lt le = absurd (let up = after m (omega arith) in omega arith)

-- a key from this low key on, and below those of the pages behind it, lies on its page
page_between : (front : List ℕ) (low : ℕ) (behind : List ℕ) (k : ℕ) → low ≤ k → ((q : ℕ) → q < length front → get_or front q 0 < low)
    → ((q : ℕ) → q < length behind → k < get_or behind q 0)
    → page_of (front ++ low ∷ behind) k ≡ length front
page_between front low behind k le before after =
    let lows = front ++ low ∷ behind in
    let i = length front in
    let here : get_or lows i 0 ≡ low = get_or_at front low behind 0 i refl in
    let long : length lows ≡ i + suc (length behind) = length-append front (low ∷ behind) in
    page_of-is lows k i (omega arith) (omega arith)
    (λ q lt below. elim (cases_lt q i) [
      | inl less ↦ (let e = get_or_append_left front (low ∷ behind) 0 q less in let b = before q less in omega arith)
      | inr more ↦ (
          let e = get_or-append_right front (low ∷ behind) i q 0 refl more in
          let b = at_most low behind k (q - i) after (omega arith) (omega arith) in
          omega arith)
    ])
    (λ q less same. let e = get_or_append_left front (low ∷ behind) 0 q less in let b = before q less in omega arith)

-- the low keys of the pages of rows above a key are above it
lows_above : (fuel n i : ℕ) (rows : List Row) (k : ℕ) → 1 ≤ i → Rising (k + 1) rows → (q : ℕ) → q < length (lows_of (opening_pages fuel n i rows))
    → k < get_or (lows_of (opening_pages fuel n i rows)) q 0
lows_above zero n i rows k one rise q lt = absurd (omega arith)
lows_above (suc fuel) n i [] k one rise q lt = absurd (omega arith)
lows_above (suc fuel) n i (r ∷ rows) k one rise zero lt = let above = rise.0 in let e = page_low i r.key one in omega arith
lows_above (suc fuel) n i (r ∷ rows) k one rise (suc q) lt = lows_above fuel n (i + 1) (drop n (r ∷ rows)) k (omega arith)
    (rises_drop (k + 1) n (r ∷ rows) rise) q (omega arith)

-- the low key behind a list
get_at : (xs : List ℕ) (y : ℕ) (ys : List ℕ) → slice_get (xs ++ (y ∷ ys)) (length xs) ≡ Some y
get_at [] y ys = refl
get_at (x ∷ xs) y ys = get_at xs y ys

-- the pages behind the first, in pieces of n + 1 rows, lie where they should
placed_pages : (fuel n i : ℕ) (rows : List Row) (front : List ℕ) (least : ℕ) → length front ≡ i → 1 ≤ i → Rising least rows
    → ((q : ℕ) → q < i → get_or front q 0 < least)
    → Placed (front ++ lows_of (opening_pages fuel (suc n) i rows)) (opening_pages fuel (suc n) i rows)
placed_pages zero n i rows front least e one rise before = tt
placed_pages (suc fuel) n i [] front least e one rise before = tt
placed_pages (suc fuel) n i (r ∷ rows) front least e one rise before =
    let low = if i == 0 then 0 else r.key in
    let is : low ≡ r.key = page_low i r.key one in
    let up = rise.0 in
    let pages = opening_pages fuel (suc n) (i + 1) (drop n rows) in
    let longer : length (front ++ low ∷ []) ≡ i + 1 = length-append front (low ∷ []) ∙ ap {B = ℕ} (λ z. z + 1) e in (
      record {
        low = ap (slice_get (front ++ (low ∷ lows_of pages))) (sym e) ∙ get_at front low (lows_of pages);
        each = λ k s.
            let here : r.key ≤ k = rises_key r.key (take (suc n) (r ∷ rows)) k (rises_take r.key (suc n) (r ∷ rows) ((omega arith), rise.1)) s in
            page_between front low (lows_of pages) k (omega arith) (λ q lt. let b = before q (omega arith) in omega arith)
            (lows_above fuel (suc n) (i + 1) (drop n rows) k (omega arith) (rises_after least (suc n) (r ∷ rows) k rise s)) ∙ e;
      },
      subst (λ l. Placed l pages) (append_assoc front (low ∷ []) (lows_of pages))
          (placed_pages fuel n (i + 1) (drop n rows) (front ++ low ∷ []) (r.key + 1) longer (omega arith) (rises_drop (r.key + 1) n rows rise.1)
          (λ q lt. elim (cases_lt q i) [
            | inl less ↦ (let g = get_or_append_left front (low ∷ []) 0 q (omega arith) in let b = before q less in omega arith)
            | inr more ↦ (let g = get_or_at front low [] 0 q (omega arith) in omega arith)
          ])),
    )

-- all opening pages lie where they should
opening_placed : (n : ℕ) (rows : List Row) → Rising 0 rows → Placed (lows_of (opening_leaves (suc n) rows)) (opening_leaves (suc n) rows)
unfolding opening_leaves
opening_placed n [] h = (record { low = refl; each = λ k s. absurd (false≢true s) }, tt)
opening_placed n (r ∷ rows) h =
    let after = drop n rows in
    let lows = lows_of (opening_pages (length rows) (suc n) 1 after) in (
      record {
        low = refl;
        each = λ k s. page_between [] 0 lows k (omega arith) (λ q lt. absurd (omega arith))
            (lows_above (length rows) (suc n) 1 after k (omega arith) (rises_after 0 (suc n) (r ∷ rows) k h s));
      },
      placed_pages (length rows) n 1 after (0 ∷ []) (r.key + 1) refl (omega arith) (rises_drop (r.key + 1) n rows h.1) (λ q lt. let e : q ≡ 0 = omega arith in
          rw e (omega arith)),
    )

-- a number that is not 0 follows one
half_of : (h : ℕ) → 1 ≤ h → (n : ℕ) × (h ≡ suc n)
half_of zero e = absurd (omega arith)
half_of (suc n) e = (n, refl)

-- an opening page takes at least one row
half_some : (cap : ℕ) → 2 ≤ cap → (n : ℕ) × (opening_rows cap ≡ suc n)
half_some cap h = half_of (opening_rows cap) (omega arith)

-- the opening rows lie on their pages
abbrev pub LaidOut : Scenario → Type 0
LaidOut sc = let leaves = opening_leaves (opening_rows sc.cap) sc.rows in Placed (lows_of leaves) leaves

-- the opening rows lie on their pages, in each scenario
pub laid_out : (sc : Scenario) → IsScenario sc → LaidOut sc
laid_out sc l =
    let h = half_some sc.cap l.cap_least in
    subst (λ z. Placed (lows_of (opening_leaves z sc.rows)) (opening_leaves z sc.rows)) (sym h.1) (opening_placed h.0 sc.rows l.rows_rise)

-- all rows are there
laid-append : (xs ys : List Row) (m : Map) → laid (xs ++ ys) m ≡ laid xs (laid ys m)
laid-append [] ys m = refl
laid-append (x ∷ xs) ys m = ap (λ z. insert z x.key x.value) (laid-append xs ys m)

-- the first rows and the others are all rows
take_drop : (n : ℕ) (rows : List Row) → take n rows ++ drop n rows ≡ rows
take_drop zero rows = refl
take_drop (suc n) [] = refl
take_drop (suc n) (r ∷ rows) = ap (λ xs. r ∷ xs) (take_drop n rows)

-- the pages cut from rows are laid down as the rows are
laid_pages : (fuel n i : ℕ) (rows : List Row) → length rows ≤ fuel → laid_leaves (opening_pages fuel (suc n) i rows) ≡ laid rows empty
laid_pages zero n i [] h = refl
laid_pages zero n i (r ∷ rows) h = absurd (omega arith)
laid_pages (suc fuel) n i [] h = refl
laid_pages (suc fuel) n i (r ∷ rows) h =
    let less = drop_less n rows in
    ap (laid (take (suc n) (r ∷ rows))) (laid_pages fuel n (i + 1) (drop n rows) (omega arith))
    ∙ sym (laid-append (take (suc n) (r ∷ rows)) (drop n rows) empty)
    ∙ ap (λ xs. laid xs empty) (take_drop (suc n) (r ∷ rows))

-- the opening pages are laid down as the rows are
laid_opening : (n : ℕ) (rows : List Row) → laid_leaves (opening_leaves (suc n) rows) ≡ laid rows empty
unfolding opening_leaves
laid_opening n [] = refl
laid_opening n (r ∷ rows) = laid_pages (length (r ∷ rows)) n 0 (r ∷ rows) (omega arith)

-- the opening database is the scenario's rows
pub opening_database : (sc : Scenario) → IsScenario sc → database (opening sc) ≡ laid sc.rows empty
unfolding opening database
opening_database sc l =
    let h = half_some sc.cap l.cap_least in
    let leaves = opening_leaves (opening_rows sc.cap) sc.rows in
    ap laid_leaves (append-nil leaves) ∙ subst (λ z. laid_leaves (opening_leaves z sc.rows) ≡ laid sc.rows empty) (sym h.1) (laid_opening h.0 sc.rows)
