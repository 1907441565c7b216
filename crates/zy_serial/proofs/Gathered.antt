-- The rows of the pages, gathered page by page.
use Rattle.std.proofs.Common.{List, [], ap, arith, false, inl, inr, length, subst, sym, true, ℕ, ◌+◌, ◌<◌, ◌∙◌, ◌∷◌, ◌≡◌}
use Rattle.std.specs.Prelude.{None, Option, Some, if◌then◌else◌, is_some, nat_lt}
use Rattle.std.specs.FinMap.{get, nat_cmp-IsAntisymmetric, same_map}
use Rattle.std.proofs.lemmas.Bool.{cases_eq, eq-eqb, false≢true, le-ltb, lt-ltb, ne_eqb}
use Rattle.std.proofs.lemmas.Bool.Decides.{nat_tests}
use Rattle.std.proofs.lemmas.Cmp.{nat_cmp_total}
use Rattle.zy_isa.specs.Rows.{get_row}
use Rattle.zy_isa.specs.declared.row.Row.{Row}
use Rattle.zy_model.specs.Leaf.{Leaf}
use Rattle.zy_table.specs.Database.{all_leaves, database, newest}
use Rattle.zy_machine.specs.Histories.{History, IsReplay, choices_of}
use Rattle.zy_table.specs.Pages.{rows_of, page_in}
use Rattle.zy_table.specs.Play.{opening, play}
use Rattle.zy_table.specs.Rows.{put_rows}
use Rattle.zy_table.specs.State.{State}
use Rattle.zy_model.specs.Wireframe.{page_of}
use Rattle.zy_laws.proofs.places.Installing.{Placed, get_row-puts, none_else, or_else_none}
use Rattle.zy_laws.proofs.serial.LoneRuns.{or_else}
use Rattle.zy_model.proofs.PageOf.{page_of-within}
use Rattle.zy_table.proofs.PageFinds.{rows_of-none, rows_of-some}
use Rattle.zy_laws.proofs.places.PageValues.{rows_of-here, rows_of-past}
use Rattle.zy_laws.proofs.locks.Reached.{reached}
use Rattle.zy_laws.proofs.places.ValueAtPage.{newest_lows, values_at_pages}
use Rattle.zy_serial.specs.Lone.{map_of}
use Rattle.zy_serial.proofs.LaidRows.{get-map_of}

-- the page of a key, and what is there
abbrev pub home : State → ℕ → ℕ
home s k = page_of (newest s) k

-- the value that a key has on its page
abbrev pub stands : State → ℕ → Option ℕ
stands s k = get_row (rows_of (all_leaves s) (home s k)) k

-- the rows of the pages below p
pub record Gathered (s : State) (p : ℕ) (rows : List Row) : Type 0 where
  pub each : (k : ℕ) → get_row rows k ≡ (if nat_lt (home s k) p then stands s k else None)

-- a row of a page lies there
pub on_its_page : (lows : List ℕ) (xs : List Leaf) (p k : ℕ) → Placed lows xs → is_some (get_row (rows_of xs p) k) ≡ true → page_of lows k ≡ p
on_its_page lows [] p k placed is = absurd (false≢true is)
on_its_page lows (x ∷ xs) p k placed is =
    elim (cases_eq x.number p) [
      | inl here ↦ placed.0.each k (ap (λ rows. is_some (get_row rows k)) (sym (rows_of-here x xs p (eq-eqb _ _ here))) ∙ is) ∙ here
      | inr far ↦ on_its_page lows xs p k placed.1 (ap (λ rows. is_some (get_row rows k)) (sym (rows_of-past x xs p (ne_eqb _ _ far))) ∙ is)
    ]

-- where every row lies on its page
pub record Kept (s : State) : Type 0 where
  pub placed : Placed (newest s) (all_leaves s)
  pub within : (k : ℕ) → home s k < length (newest s)
  pub values : (k : ℕ) → get (database s) k ≡ stands s k

-- every row lies on its page in the state that a machine's choices lead to
kept_played : (h : History) → IsReplay h → Kept (play h.scenario (opening h.scenario) (choices_of h.entries))
kept_played h is =
    let sc = h.scenario in
    let cs = choices_of h.entries in
    let s = play sc (opening sc) cs in
    let r = reached sc is.tested cs in
    let same = newest_lows sc s r.lows r.kept in
    record {
      placed = subst (λ lows. Placed lows (all_leaves s)) (sym same) r.kept.placed;
      within = λ k. subst (λ lows. page_of lows k < length lows) (sym (same ∙ r.kept.first.1)) (page_of-within (0 ∷ r.kept.first.0) k (omega arith));
      values = values_at_pages sc is.tested cs;
    }

-- every row lies on its page in the state of a machine
pub kept : (h : History) → IsReplay h → Kept h.state
kept h is = subst Kept (sym is.state) (kept_played h is)

-- one page more
more_at : (here : ℕ) (p : ℕ) (mine below own : Option ℕ) → below ≡ (if nat_lt here p then own else None) → (here ≡ p → mine ≡ own)
    → ((here ≡ p → ⊥) → mine ≡ None)
    → or_else mine below ≡ (if nat_lt here (p + 1) then own else None)
more_at here p mine below own e at off =
    elim (cases_eq here p) [
      | inl same ↦
          let lower : nat_lt here p ≡ false = le-ltb here p (omega arith) in
          let now : nat_lt here (p + 1) ≡ true = lt-ltb here (p + 1) (omega arith) in
          rw (now, e, lower, at same) (or_else_none own)
      | inr other ↦
          let same : nat_lt here (p + 1) ≡ nat_lt here p = grind (arith, nat_tests, other) in
          rw (same, off other) e
    ]

-- the rows below p with those of page p put among them are the rows below p + 1
pub gathered-more : (s : State) (p : ℕ) (rows more : List Row) → Kept s → Gathered s p rows → rows_of (all_leaves s) p ≡ more
    → Gathered s (p + 1) (put_rows more rows)
gathered-more s p rows more keeps g e = record {
  each = λ k.
      get_row-puts more rows k ∙ more_at (home s k) p (get_row more k) (get_row rows k) (stands s k) (g.each k)
      (λ same. ap (λ rs. get_row rs k) (sym e) ∙ ap (λ q. get_row (rows_of (all_leaves s) q) k) (sym same))
      (λ other. none_else _ (λ is. other (on_its_page (newest s) (all_leaves s) p k keeps.placed (ap (λ rs. is_some (get_row rs k)) e ∙ is))));
}

-- the same where page p was looked for and found
pub gathered-found : (h : History) (p : ℕ) (rows : List Row) (x : Leaf) → IsReplay h → Gathered h.state p rows → Some x ≡ page_in p (all_leaves h.state)
    → Gathered h.state (p + 1) (put_rows x.rows rows)
gathered-found h p rows x is g e = gathered-more h.state p rows x.rows (kept h is) g (rows_of-some p x (all_leaves h.state) (sym e))

-- where page p was looked for and is not there, the rows below p are those below p + 1
pub gathered-missing : (h : History) (p : ℕ) (rows : List Row) → IsReplay h → Gathered h.state p rows → None ≡ page_in p (all_leaves h.state)
    → Gathered h.state (p + 1) rows
gathered-missing h p rows is g e = gathered-more h.state p rows [] (kept h is) g (rows_of-none p (all_leaves h.state) (sym e))

-- all pages: their rows are the database
pub gathered-all : (h : History) (p : ℕ) (rows : List Row) → IsReplay h → Gathered h.state p rows → p ≡ length (newest h.state) → map_of rows ≡ database h.state
gathered-all h p rows is g all =
    let keeps = kept h is in
    same_map nat_cmp_total nat_cmp-IsAntisymmetric _ _ (λ k.
    let below : home h.state k < p = let w = keeps.within k in omega arith in
    get-map_of rows k ∙ g.each k ∙ ap (λ b. if b then stands h.state k else None) (lt-ltb (home h.state k) p below) ∙ sym (keeps.values k))
