use Rattle.std.proofs.Common.{add-one, ◌∙◌, length, ap, arith}
use Rattle.zy_txns.proofs.InPlaceLemmas.{in_place-at, set-at, length-at, all-copies}
use Rattle.zy_txns.proofs.book.set_all.Goals as goal

pub index_mut-requires : goal.index_mut-requires
index_mut-requires c =
    let whole = ap length c.loop-t.invariant ∙ length-at c.loop-t.t c.args.xs.now.items c.args.ys.now c.requires in
    omega (arith, whole, c.loop-t-test.true, c.loop-t.xs.ok.0)

pub set_to-requires : goal.set_to-requires
set_to-requires c =
    rw (← c.loop-t.invariant, ← c.index_mut.ensures.value, ← c.index-ys-t.is) at
    (in_place-at c.loop-t.t c.args.xs.now.items c.args.ys.now c.index_mut.result.now c.index-ys-t.result c.requires c.loop-t-test.true)

pub loop-t-preserved : goal.loop-t-preserved
loop-t-preserved c =
    rw (c.set_to.ensures, c.loop-t.invariant, add-one) (rw (← c.index-ys-t.is) at
    (set-at c.loop-t.t c.args.xs.now.items c.args.ys.now c.index-ys-t.result c.requires c.loop-t-test.true))

pub returns : goal.returns
returns c =
    c.loop-t.invariant ∙ all-copies c.loop-t.t c.args.xs.now.items c.args.ys.now c.requires (omega (arith, c.loop-t-test.false, c.loop-t.auto.t-end))
