use Rattle.std.proofs.Common.{arith}
use Rattle.zy_isa.specs.Limits.{max_pages}
use Rattle.zy_table.proofs.RisingNumbers.{rises_within}
use Rattle.zy_node.proofs.page_set.PageSet.set_to.Goals as goal

pub unwrap-requires : goal.unwrap-requires
unwrap-requires c =
    let others = c.other.invariant in
    let fits = rises_within 0 max_pages _ (omega arith) others.1 others.0 in
    c.extend_from_slice.ensures.succeeds (omega (arith, fits, c.self.invariant.2, c.clear.ensures.len, c.clear.ensures.capacity, c.deref.ensures.len))
