use Rattle.std.proofs.Common.{◌≡◌, Bool, refl, sym, ap, subst, rules, Option, Some, None}
use Rattle.std.specs.Prelude.{IfSome, ◌==◌, ◌&&◌}
use Rattle.std.specs.Bool.{Decides}
use Rattle.std.specs.Option.{option_eq}
use Rattle.std.proofs.lemmas.Bool.{and_parts, and_from, false≢true}
use Rattle.std.proofs.lemmas.Bool.Decides.{Decides-eqb}
use Rattle.std.proofs.lemmas.Slice.Eq.{slice_eq-Decides}
use Rattle.zy_isa.specs.declared.row.Row.{Row}
use Rattle.zy_page.specs.declared.page_rows.PageRows.{PageRows}
use Rattle.zy_page.specs.contracts.page_rows.PageRowsPartialEq.TheImpl as derived
use Rattle.zy_logs.proofs.log_line.are_rows.Goals as goal

-- rows are the same where the test says so
same_row : (a b : Row) → Decides ((a.key == b.key) && (a.value == b.value)) (a ≡ b)
same_row a b = search rules

-- so are the rows of a page
same_rows : (a b : PageRows) → Decides (derived.eq-value.it a b) (a ≡ b)
same_rows a b =
    let len = Decides-eqb a.len b.len in
    let cells = slice_eq-Decides same_row a.cells b.cells _ refl in (
      λ e. let both = and_parts _ _ e in λ i. record { len = len.0 both.0 i; cells = cells.0 both.1 i },
      λ same. and_from _ _ (len.1 (ap (λ (x : PageRows). x.len) same)) (cells.1 (ap (λ (x : PageRows). x.cells) same)),
    )

-- and those that a step shows are these
same_shown : (came : Option PageRows) (rows : PageRows) → Decides (option_eq derived.eq-value.it came (Some rows)) (came ≡ Some rows)
same_shown None rows = (λ e. absurd (false≢true e), λ same. absurd (cc same))
same_shown (Some x) rows = let is = same_rows x rows in (λ e. ap Some (is.0 e), λ same. is.1 (cc same))

pub returns-in-Some : goal.returns-in-Some
returns-in-Some c =
    let came = c.args.came in
    let is : Decides c.eq.result (came ≡ Some c.in-Some.rows) =
    subst (λ (b : Bool). Decides b (came ≡ Some c.in-Some.rows)) (sym c.eq.ensures) (same_shown came c.in-Some.rows) in
    subst (λ (o : Option PageRows). Decides c.eq.result (IfSome o (λ rows. came ≡ Some rows))) (sym c.in-Some.is) is
