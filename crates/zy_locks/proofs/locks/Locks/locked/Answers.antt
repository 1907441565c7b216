use Rattle.std.proofs.Common.{arith, sym}
use Rattle.std.proofs.lemmas.Bool.{le-ltb}
use Rattle.zy_model.specs.declared.lock.Lock.{Lock}
use Rattle.zy_model.specs.declared.lock.LockKind.TheVariants.{Shared}
use Rattle.zy_locks.proofs.PageRun.{is_locked_at, is_locked_past}
use Rattle.zy_locks.proofs.locks.Locks.locked.Goals as goal

pub returns-then-at-len : goal.returns-then-at-len
returns-then-at-len c =
    let placed = rw c.deref.ensures.value at c.place-at.ensures in
    rw (← c.self.view_is) (is_locked_at c.args.page c.place-at.result c.index.result.now c.self.inside.locks.items c.self.invariant.0 placed
    (omega (arith, rw (← c.self.view_is) at c.len.ensures)) c.index.ensures)

pub returns-else-at-len : goal.returns-else-at-len
returns-else-at-len c =
    let placed = rw c.deref.ensures.value at c.place-at.ensures in
    let d : Lock = record { page = 0; txn = 0; kind = Shared } in
    rw (← c.self.view_is, le-ltb c.place-at.result c.len.result c.if-at-len.false)
    (sym (is_locked_past c.args.page c.place-at.result d c.self.inside.locks.items c.self.invariant.0 placed
    (omega (arith, rw (← c.self.view_is) at c.len.ensures))))
