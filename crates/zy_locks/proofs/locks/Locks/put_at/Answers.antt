use Rattle.std.proofs.Common.{◌≡◌, ◌∙◌, sym, arith, false, true}
use Rattle.std.proofs.Math.ListN.{set}
use Rattle.std.proofs.lemmas.Bool.{false≢true}
use Rattle.std.proofs.lemmas.List.{get_or_default}
use Rattle.zy_model.specs.Locks.{add_lock, stronger}
use Rattle.zy_locks.proofs.Added.{add_lock_at, add_lock_between}
use Rattle.zy_locks.proofs.Agreeing.{agree_add}
use Rattle.zy_locks.proofs.Alone.{alone_kept}
use Rattle.zy_model.proofs.Alone.{exclusive_holds}
use Rattle.zy_locks.proofs.Held.{held_place, told_at}
use Rattle.zy_model.proofs.Rising.{rise_add}
use Rattle.zy_locks.proofs.locks.Locks.put_at.Goals as goal

pub index-requires : goal.index-requires
index-requires c =
    let placed = rw (← c.self.view_is) at c.requires.place in
    let held = rw (← c.self.view_is) at (sym c.holds_at.ensures ∙ c.if-holds_at.true) in
    omega (arith, held_place c.args.page c.args.txn c.args.at c.self.inside.locks.items c.self.invariant.0 placed held, c.self.inside.locks.ok.0)

pub index_mut-requires : goal.index_mut-requires
index_mut-requires c =
    let placed = rw (← c.self.view_is) at c.requires.place in
    let held = rw (← c.self.view_is) at (sym c.holds_at.ensures ∙ c.if-holds_at.true) in
    omega (arith, held_place c.args.page c.args.txn c.args.at c.self.inside.locks.items c.self.invariant.0 placed held, c.self.inside.locks.ok.0)

-- the locks with the one at the place made stronger
raised : (c : goal.After-self-1) → add_lock c.args.page c.args.txn c.args.kind c.self.inside.locks.items
    ≡ set c.self.inside.locks.items c.args.at (record c.index_mut.result.now { kind = c.stronger.result })
raised c =
    let locks = c.self.inside.locks.items in
    let was = c.index_mut.result.now in
    let placed = rw (← c.self.view_is) at c.requires.place in
    let held = rw (← c.self.view_is) at (sym c.holds_at.ensures ∙ c.if-holds_at.true) in
    let lt = held_place c.args.page c.args.txn c.args.at locks c.self.invariant.0 placed held in
    let one = c.index.ensures ∙ (get_or_default locks c.args.at c.index.result.now was lt ∙ sym c.index_mut.ensures.value) in
    let kind : c.stronger.result ≡ stronger was.kind c.args.kind = rw (← one) c.stronger.ensures in
    let there = told_at c.args.page c.args.txn c.args.at true was locks c.self.invariant.0 placed held lt in
    rw kind (rw (← c.index_mut.ensures.value) at (add_lock_at c.args.page c.args.txn c.args.at c.args.kind was locks placed lt there))

pub invariant_of-self : goal.invariant_of-self
invariant_of-self c =
    let locks = c.self.inside.locks.items in
    let free = rw (← c.self.view_is) at c.requires.free in
    let rise = rise_add c.args.page c.args.txn c.args.kind locks c.self.invariant.0 in
    let agree = agree_add c.args.page c.args.txn c.args.kind locks free c.self.invariant.1 in
    (rw (raised c) at rise, rw (raised c) at agree)

pub returns-then-holds_at-clause-locks : goal.returns-then-holds_at-clause-locks
returns-then-holds_at-clause-locks c = rw (← c.self.view_is) (sym (raised c))

pub returns-then-holds_at-clause-alone : goal.returns-then-holds_at-clause-alone
returns-then-holds_at-clause-alone c alone =
    let kept = alone_kept c.args.page c.args.txn c.args.kind c.self.inside.locks.items c.self.invariant.0 (rw (← c.self.view_is) at alone) in
    rw (← c.self.view_is) (sym (raised c) ∙ kept)

-- the locks with a new one at the place
put : (c : goal.After-unwrap) → c.insert.new.self.items ≡ add_lock c.args.page c.args.txn c.args.kind c.self.inside.locks.items
put c =
    let locks = c.self.inside.locks.items in
    let placed = rw (← c.self.view_is) at c.requires.place in
    let none = rw (← c.self.view_is) at (sym c.holds_at.ensures ∙ c.if-holds_at.false) in
    rw c.unwrap.ensures at c.insert.ensures.items
    ∙ sym (add_lock_between c.args.page c.args.txn c.args.at c.args.kind locks placed
    (λ d lt. told_at c.args.page c.args.txn c.args.at false d locks c.self.invariant.0 placed none lt))

pub invariant_of-self-else-holds_at : goal.invariant_of-self-else-holds_at
invariant_of-self-else-holds_at c =
    let locks = c.self.inside.locks.items in
    let free = rw (← c.self.view_is) at c.requires.free in
    rw (put c) (
      rise_add c.args.page c.args.txn c.args.kind locks c.self.invariant.0,
      agree_add c.args.page c.args.txn c.args.kind locks free c.self.invariant.1,
    )

pub returns-else-holds_at-clause-locks : goal.returns-else-holds_at-clause-locks
returns-else-holds_at-clause-locks c = rw (← c.self.view_is) (put c)

pub returns-else-holds_at-clause-alone : goal.returns-else-holds_at-clause-alone
returns-else-holds_at-clause-alone c alone =
    absurd (false≢true (sym (sym c.holds_at.ensures ∙ c.if-holds_at.false) ∙ exclusive_holds c.args.self.now.locks c.args.page c.args.txn alone))
