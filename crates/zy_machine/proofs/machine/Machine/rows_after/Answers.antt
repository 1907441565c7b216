use Rattle.std.proofs.Common.{◌≡◌, ◌∙◌, sym, ap, Some, option_copied}
use Rattle.zy_page.specs.RowLists.{of_rows}
use Rattle.zy_table.specs.Database.{all_leaves}
use Rattle.zy_table.specs.Pages.{page_in}
use Rattle.zy_table.proofs.PageFinds.{rows_of-some, rows_of-none}
use Rattle.zy_machine.proofs.ObservedLemmas.{moved_rows}
use Rattle.zy_machine.proofs.machine.Machine.rows_after.Goals as goal

pub returns-in-Some : goal.returns-in-Some
returns-in-Some c =
    let s = c.args.self.now.state in
    let p = c.in_ok-number.number in
    let page : page_in p (all_leaves s) ≡ Some c.in-Some.page.now = sym c.page.ensures ∙ ap option_copied c.in-Some.is in
    let rows = c.of.ensures ∙ ap of_rows (c.rows.ensures.value ∙ sym (rows_of-some p c.in-Some.page.now (all_leaves s) page)) in
    ap Some rows ∙ moved_rows s c.args.outcome p (sym c.in_ok-number.ensures)

pub returns-in-None : goal.returns-in-None
returns-in-None c =
    let s = c.args.self.now.state in
    let p = c.in_ok-number.number in
    let rows = c.new.ensures ∙ ap of_rows (sym (rows_of-none p (all_leaves s) (sym c.page.ensures ∙ ap option_copied c.in-None.is))) in
    ap Some rows ∙ moved_rows s c.args.outcome p (sym c.in_ok-number.ensures)
