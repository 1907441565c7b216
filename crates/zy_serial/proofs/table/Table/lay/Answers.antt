use Rattle.std.proofs.Common.{subst}
use Rattle.zy_page.specs.RowLists.{AreKept}
use Rattle.zy_serial.proofs.Laying.{AreKept-put_rows}
use Rattle.zy_serial.proofs.table.Table.lay.Goals as goal

pub invariant_of-self-then-lie_below : goal.invariant_of-self-then-lie_below
invariant_of-self-then-lie_below c =
    let kept = AreKept-put_rows c.args.rows.now c.self.inside.rows.items c.merge.ensures.fit c.self.invariant in
    let behind = rw c.deref.ensures.value at (c.lie_below.ensures c.if-lie_below.true) in
    rw (c.merge.ensures.items, c.reserve.ensures.items) (subst AreKept behind kept)

pub invariant_of-self-else-lie_below : goal.invariant_of-self-else-lie_below
invariant_of-self-else-lie_below c =
    let kept = AreKept-put_rows c.args.rows.now c.self.inside.rows.items c.merge-else-lie_below.ensures.fit c.self.invariant in
    rw (
      c.swap.ensures.x_after,
      c.merge-else-lie_below.ensures.items,
      c.reserve-else-lie_below.ensures.items,
      c.clear.ensures.items,
      c.deref-else-lie_below.ensures.value,
    ) kept
