use Rattle.std.proofs.Common.{◌∙◌, ◌<◌, length, ap, sym, arith}
use Rattle.std.proofs.lemmas.Bool.{le-ltb}
use Rattle.zy_model.specs.Order.{is_held_by}
use Rattle.zy_locks.proofs.Held.{holds_at, holds_past}
use Rattle.zy_locks.proofs.locks.Locks.holds_at.Goals as goal

pub returns-then-at-len : goal.returns-then-at-len
returns-then-at-len c =
    let locks = c.self.inside.locks.items in
    let placed = rw (← c.self.view_is) at c.requires in
    let lt : c.args.at < length locks = omega (arith, c.if-at-len.true, rw (← c.self.view_is) at c.len.ensures) in
    let there = holds_at c.args.page c.args.txn c.args.at c.index.result.now locks c.self.invariant.0 placed lt in
    rw (← c.self.view_is) (c.is_held_by.ensures ∙ (ap (λ y. is_held_by y c.args.page c.args.txn) c.index.ensures ∙ sym there))

pub returns-else-at-len : goal.returns-else-at-len
returns-else-at-len c =
    let placed = rw (← c.self.view_is) at c.requires in
    rw (← c.self.view_is, le-ltb c.args.at c.len.result c.if-at-len.false) (sym
    (holds_past c.args.page c.args.txn c.args.at c.self.inside.locks.items c.self.invariant.0 placed
    (omega (arith, c.if-at-len.false, rw (← c.self.view_is) at c.len.ensures))))
