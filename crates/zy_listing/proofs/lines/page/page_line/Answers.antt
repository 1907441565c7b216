-- The page that is found is that of the number, and so is its place.
use Rattle.std.proofs.Common.{sym, subst}
use Rattle.zy_machine.specs.Finds.{FindsPage}
use Rattle.zy_table.specs.Database.{all_leaves}
use Rattle.zy_table.proofs.PageFinds.{leaf_at-some}
use Rattle.zy_listing.proofs.lines.page.page_line.Goals as goal

pub returns : goal.returns
returns c =
    let s = c.args.machine.now.state in
    let found = subst (FindsPage c.args.p s) c.unwrap-place.ensures c.located.ensures in
    rw (leaf_at-some c.args.p c.unwrap-place.result.1.now (all_leaves s) (sym found.1), ← found.0) c.append.ensures
