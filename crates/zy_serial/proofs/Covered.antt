-- The rows of a table that are those of pages, counted page by page.
use Rattle.std.proofs.Common.{Bool, List, [], ap, arith, cond, drop, false, inl, inr, length, refl, subst, suc, sym, take, true, ℕ, ◌+◌, ◌++◌, ◌<◌, ◌∙◌, ◌∷◌}
use Rattle.std.proofs.Common.{◌≡◌, ◌≤◌, ◌^◌}
use Rattle.std.specs.Prelude.{None, Option, Some, is_some, nat_lt, slice_get, ◌&&◌, ◌==◌}
use Rattle.std.specs.Bool.{Decides}
use Rattle.std.specs.Cmp.Lexicographic.{pointwise}
use Rattle.std.specs.FinMap.{nat_cmp-IsAntisymmetric, same_map}
use Rattle.std.proofs.lemmas.Bool.{and_parts, cases_eq, cond_both, eq-eqb, eqb-true, false≢true, le-ltb, lt-ltb}
use Rattle.std.proofs.lemmas.Bool.Decides.{nat_tests}
use Rattle.std.proofs.lemmas.Cmp.{nat_cmp_total}
use Rattle.std.proofs.lemmas.List.{take-append-drop}
use Rattle.std.proofs.lemmas.Slice.Eq.{starts_is}
use Rattle.zy_isa.specs.Rows.{Rising, RowsFit, get_row}
use Rattle.zy_isa.specs.declared.row.Row.{Row}
use Rattle.zy_model.proofs.Rows.{get_row_below, get_row_past, get_row_same}
use Rattle.zy_model.specs.Leaf.{Leaf}
use Rattle.zy_table.specs.Database.{all_leaves, database, newest}
use Rattle.zy_table.specs.Pages.{page_in, rows_of}
use Rattle.zy_table.specs.State.{State}
use Rattle.zy_table.proofs.PageFinds.{rows_of-none, rows_of-some}
use Rattle.zy_model.proofs.Parted.{Rising-lower}
use Rattle.zy_machine.specs.Histories.{History, IsReplay}
use Rattle.zy_laws.proofs.places.Installing.{none_else}
use Rattle.zy_serial.specs.Covering.{HasRun}
use Rattle.zy_serial.specs.Lone.{map_of}
use Rattle.zy_serial.proofs.Gathered.{Kept, home, kept, on_its_page, stands}
use Rattle.zy_serial.proofs.LaidRows.{get-map_of}

-- how many rows have a key that passes
abbrev pub counted : (ℕ → Bool) → List Row → ℕ
counted f [] = 0
counted f (r ∷ rows) = cond (f r.key) 1 0 + counted f rows

-- one row more, which passes or does not, adds at most one to the count
counted_first : (b : Bool) (n m : ℕ) → n ≤ m → cond b 1 0 + n ≤ suc m
counted_first true n m le = omega arith
counted_first false n m le = omega arith

-- at most all rows are counted
counted_most : (f : ℕ → Bool) (rows : List Row) → counted f rows ≤ length rows
counted_most f [] = omega arith
counted_most f (r ∷ rows) = counted_first (f r.key) (counted f rows) (length rows) (counted_most f rows)

-- where no key passes, no row is counted
counted_none : (f : ℕ → Bool) (rows : List Row) → ((k : ℕ) → f k ≡ false) → counted f rows ≡ 0
counted_none f [] off = refl
counted_none f (r ∷ rows) off = rw (off r.key, counted_none f rows off) refl

-- keys of two kinds
counted_parts : (f g h : ℕ → Bool) (rows : List Row) → ((k : ℕ) → cond (h k) 1 0 ≡ cond (f k) 1 0 + cond (g k) 1 0)
    → counted h rows ≡ counted f rows + counted g rows
counted_parts f g h [] each = refl
counted_parts f g h (r ∷ rows) each = omega (arith, each r.key, counted_parts f g h rows each)

-- where all rows are counted each of them passes
full_first : (b : Bool) (n m : ℕ) → cond b 1 0 + n ≡ suc m → n ≤ m → (b ≡ true) × (n ≡ m)
full_first true n m e le = (refl, omega arith)
full_first false n m e le = absurd (omega arith)

-- where all rows are counted, each key that they have passes
full : (f : ℕ → Bool) (rows : List Row) (k : ℕ) → counted f rows ≡ length rows → is_some (get_row rows k) ≡ true → f k ≡ true
full f [] k e is = absurd (false≢true is)
full f (r ∷ rows) k e is =
    let parts = full_first (f r.key) (counted f rows) (length rows) e (counted_most f rows) in
    cond_both (r.key == k) (Some r.value) (get_row rows k) (λ o. is_some o ≡ true → f k ≡ true)
    (λ same _. subst (λ z. f z ≡ true) (eqb-true _ _ same) parts.0)
    (λ _ more. full f rows k parts.1 more) is

-- as many rows as there are keys at most
few_rows : (low : ℕ) (rows : List Row) → low ≤ 2 ^ 16 → Rising low rows → RowsFit rows → low + length rows ≤ 2 ^ 16
few_rows low [] le h fit = omega arith
few_rows low (r ∷ rows) le h fit =
    let rest = few_rows (r.key + 1) rows (omega (arith, fit.0)) h.1 fit.2 in
    omega (arith, h.0, rest)

-- ---- a run of a table's rows

-- what is behind the first rows of rows in order is in order
rises_right : (low : ℕ) (front rows : List Row) → Rising low (front ++ rows) → Rising low rows
rises_right low [] rows h = h
rises_right low (r ∷ front) rows h = rises_right low front rows (Rising-lower low (r.key + 1) (front ++ rows) h.1 (let a = h.0 in omega arith))

-- the first rows of rows in order are in order
rises_left : (low : ℕ) (run back : List Row) → Rising low (run ++ back) → Rising low run
rises_left low [] back h = tt
rises_left low (r ∷ run) back h = (h.0, rises_left (r.key + 1) run back h.1)

-- the run has this key
abbrev pub at_run : List Row → ℕ → Bool
at_run run k = is_some (get_row run k)

-- a row of the run that is below all rows that are counted makes no difference to their count
run_skip : (low : ℕ) (r : Row) (run rows : List Row) → Rising low rows → r.key < low → counted (at_run (r ∷ run)) rows ≡ counted (at_run run) rows
run_skip low r run [] h lt = refl
run_skip low r run (q ∷ rows) h lt =
    let above : low ≤ q.key = h.0 in
    let here = get_row_past q.key r run (λ e. absurd (omega arith)) in
    rw (here, run_skip (q.key + 1) r run rows h.1 (omega arith)) refl

-- a run in front of other rows is counted whole, and the others are not
run_here : (low : ℕ) (run back : List Row) → Rising low (run ++ back) → counted (at_run run) (run ++ back) ≡ length run
run_here low [] back h = counted_none (at_run []) back (λ k. refl)
run_here low (r ∷ run) back h =
    let rest = run_skip (r.key + 1) r run (run ++ back) h.1 (omega arith) ∙ run_here (r.key + 1) run back h.1 in
    rw (get_row_same r.key r run refl, rest) (omega arith)

-- a run anywhere among rows in order is counted whole, and the others are not
counted_run : (low : ℕ) (front run back : List Row) → Rising low (front ++ (run ++ back)) → counted (at_run run) (front ++ (run ++ back)) ≡ length run
counted_run low [] run back h = run_here low run back h
counted_run low (r ∷ front) run back h =
    let off = get_row_below r.key (r.key + 1) run (rises_left (r.key + 1) run back (rises_right (r.key + 1) front (run ++ back) h.1)) (omega arith) in
    rw (off, counted_run (r.key + 1) front run back h.1) (omega arith)

-- a value that the first rows have is that of all rows
value_left : (run back : List Row) (k v : ℕ) → get_row run k ≡ Some v → get_row (run ++ back) k ≡ Some v
value_left [] back k v e = (cc)
value_left (r ∷ run) back k v e =
    elim (cases_eq r.key k) [
      | inl same ↦ get_row_same k r (run ++ back) same ∙ sym (get_row_same k r run same) ∙ e
      | inr other ↦ get_row_past k r (run ++ back) other ∙ value_left run back k v (sym (get_row_past k r run other) ∙ e)
    ]

-- nothing is not a value
no_value : (v : ℕ) (o : Option ℕ) → o ≡ None → o ≡ Some v → ⊥
no_value v o none some = (cc)

-- a value that the last rows have is that of all rows, where these are in order
value_right : (low : ℕ) (front rows : List Row) (k v : ℕ) → Rising low (front ++ rows) → get_row rows k ≡ Some v → get_row (front ++ rows) k ≡ Some v
value_right low [] rows k v h e = e
value_right low (r ∷ front) rows k v h e =
    let other : r.key ≡ k → ⊥ = λ same. no_value v (get_row rows k) (get_row_below k (r.key + 1) rows (rises_right (r.key + 1) front rows h.1) (omega arith))
    e in
    get_row_past k r (front ++ rows) other ∙ value_right (r.key + 1) front rows k v h.1 e

-- a value that a run of a table's rows has is the table's
run_value : (table run : List Row) (k v : ℕ) → Rising 0 table → HasRun table run → get_row run k ≡ Some v → get_row table k ≡ Some v
run_value table run k v rise has e =
    let back = has.1 in
    let at = has.2 in
    ap (λ rows. get_row rows k) at ∙ value_right 0 has.0 (run ++ back) k v (subst (Rising 0) at rise) (value_left run back k v e)

-- as many rows of a table have a key of a run of its rows as the run has
run_counted : (table run : List Row) → Rising 0 table → HasRun table run → counted (at_run run) table ≡ length run
run_counted table run rise has =
    let at = has.2 in
    ap (counted (at_run run)) at ∙ counted_run 0 has.0 run has.1 (subst (Rising 0) at rise)

-- as `==` of two rows decides
row_decides : (x y : Row) → Decides ((x.key == y.key) && (x.value == y.value)) (x ≡ y)
row_decides x y = (
  λ e.
      let parts = and_parts (x.key == y.key) (x.value == y.value) e in
      let key = eqb-true x.key y.key parts.0 in
      let value = eqb-true x.value y.value parts.1 in
      λ i. record { key = key i; value = value i },
  λ e. rw (eq-eqb x.key y.key (ap (λ (r : Row). r.key) e), eq-eqb x.value y.value (ap (λ (r : Row). r.value) e)) refl,
)

-- rows that the rest of a table begins with
pub run_at : (f : Row → Row → Bool) (table rest run : List Row) (at : ℕ) (b : Bool) → ((x y : Row) → f x y ≡ ((x.key == y.key) && (x.value == y.value)))
    → rest ≡ drop at table → b ≡ pointwise f run (take (length run) rest) → b ≡ true → HasRun table run
run_at f table rest run at b same from starts is =
    let begins = (starts_is (λ x y. subst (λ t. Decides t (x ≡ y)) (sym (same x y)) (row_decides x y)) rest run b starts).0 is in
    (take at table, drop (length run) rest, sym (take-append-drop at table) ∙ ap (λ more. take at table ++ more) (sym from ∙ begins))

-- no rows are a run of each table
nothing_run : (table : List Row) → HasRun table []
nothing_run table = ([], table, refl)

-- rows without a first one
pub no_run : (table run : List Row) → None ≡ slice_get run 0 → HasRun table run
no_run table [] e = nothing_run table
no_run table (r ∷ run) e = absurd (cc)

-- ---- the pages below p

-- a key of theirs that has a value
abbrev pub is_kept : State → ℕ → ℕ → Bool
is_kept s p k = nat_lt (home s k) p && is_some (stands s k)

-- their values are the table's, and as many of its rows have them
pub record Covered (s : State) (p : ℕ) (table : List Row) (count : ℕ) : Type 0 where
  pub each : (k v : ℕ) → home s k < p → stands s k ≡ Some v → get_row table k ≡ Some v
  pub total : count ≡ counted (is_kept s p) table

-- no page is below 0, and none of a table's rows is counted
pub covered-none : (s : State) (table : List Row) → Covered s 0 table 0
covered-none s table = record {
  each = λ k v below e. absurd (omega arith);
  total = sym (counted_none (is_kept s 0) table (λ k. rw (le-ltb (home s k) 0 (omega arith)) refl));
}

-- one page more
kept_more : (s : State) (p : ℕ) (run : List Row) (k : ℕ) → Kept s → rows_of (all_leaves s) p ≡ run
    → cond (is_kept s (p + 1) k) 1 0 ≡ cond (is_kept s p k) 1 0 + cond (at_run run k) 1 0
kept_more s p run k keeps e =
    elim (cases_eq (home s k) p) [
      | inl same ↦
          let lower : nat_lt (home s k) p ≡ false = le-ltb (home s k) p (omega arith) in
          let now : nat_lt (home s k) (p + 1) ≡ true = lt-ltb (home s k) (p + 1) (omega arith) in
          let mine : stands s k ≡ get_row run k = ap (λ q. get_row (rows_of (all_leaves s) q) k) same ∙ ap (λ rs. get_row rs k) e in
          rw (lower, now, mine) (omega arith)
      | inr other ↦
          let same : nat_lt (home s k) (p + 1) ≡ nat_lt (home s k) p = grind (arith, nat_tests, other) in
          let off : get_row run k ≡ None =
          none_else _ (λ is. other (on_its_page (newest s) (all_leaves s) p k keeps.placed (ap (λ rs. is_some (get_row rs k)) e ∙ is))) in
          rw (same, off) (omega arith)
    ]

-- where the rows of page p are a run of the table, as many rows more are counted for the pages below p + 1
covered-more : (s : State) (p : ℕ) (table run : List Row) (count : ℕ) → Kept s → Rising 0 table → HasRun table run → rows_of (all_leaves s) p ≡ run
    → Covered s p table count → Covered s (p + 1) table (count + length run)
covered-more s p table run count keeps rise has e g = record {
  each = λ k v below value.
      elim (cases_eq (home s k) p) [
        | inl same ↦ run_value table run k v rise has (ap (λ rs. get_row rs k) (sym e) ∙ ap (λ q. get_row (rows_of (all_leaves s) q) k) (sym same) ∙ value)
        | inr other ↦ g.each k v (omega (arith, below, other)) value
      ];
  total =
      let parts = counted_parts (is_kept s p) (at_run run) (is_kept s (p + 1)) table (λ k. kept_more s p run k keeps e) in
      omega (arith, parts, g.total, run_counted table run rise has);
}

-- of a table in order whose rows fit, at most 65536 rows are counted
pub covered-most : (s : State) (p : ℕ) (table : List Row) (count : ℕ) → Rising 0 table → RowsFit table → Covered s p table count → count ≤ 2 ^ 16
covered-most s p table count rise fit g = omega (arith, g.total, counted_most (is_kept s p) table, few_rows 0 table (omega arith) rise fit)

-- where page p was looked for and found, and its rows are a run of the table, as many rows more are counted
pub covered-found : (h : History) (p : ℕ) (table : List Row) (count : ℕ) (x : Leaf) → IsReplay h → Rising 0 table → HasRun table x.rows
    → Covered h.state p table count
    → Some x ≡ page_in p (all_leaves h.state) → Covered h.state (p + 1) table (count + length x.rows)
covered-found h p table count x is rise has g e = covered-more h.state p table x.rows count (kept h is) rise has
    (rows_of-some p x (all_leaves h.state) (sym e)) g

-- where page p was looked for and is not there, no row more is counted for the pages below p + 1
pub covered-missing : (h : History) (p : ℕ) (table : List Row) (count : ℕ) → IsReplay h → Rising 0 table → Covered h.state p table count
    → None ≡ page_in p (all_leaves h.state) → Covered h.state (p + 1) table count
covered-missing h p table count is rise g e =
    subst (Covered h.state (p + 1) table) (omega arith) (covered-more h.state p table [] count (kept h is) rise (nothing_run table)
    (rows_of-none p (all_leaves h.state) (sym e)) g)

-- all pages, and all rows of the table
covered_value : (s : State) (p : ℕ) (table : List Row) (k : ℕ) (o : Option ℕ) → Covered s p table (length table) → home s k < p → stands s k ≡ o
    → get_row table k ≡ o
covered_value s p table k (Some v) g below e = g.each k v below e
covered_value s p table k None g below e =
    none_else _ (λ is.
    let passes = full (is_kept s p) table k (sym g.total) is in
    false≢true (sym (ap is_some e) ∙ (and_parts (nat_lt (home s k) p) (is_some (stands s k)) passes).1))

-- where all rows of a table are counted for all pages, the table's map is the database
pub covered-all : (h : History) (p : ℕ) (table : List Row) (count : ℕ) → IsReplay h → Covered h.state p table count → p ≡ length (newest h.state)
    → count ≡ length table → map_of table ≡ database h.state
covered-all h p table count is g all whole =
    let keeps = kept h is in
    same_map nat_cmp_total nat_cmp-IsAntisymmetric _ _ (λ k.
    let below : home h.state k < p = let w = keeps.within k in omega arith in
    get-map_of table k ∙ covered_value h.state p table k (stands h.state k) (subst (Covered h.state p table) whole g) below refl ∙ sym (keeps.values k))
