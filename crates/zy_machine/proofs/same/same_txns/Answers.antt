use Rattle.std.proofs.Common.{◌≡◌, ◌∙◌, ◌≤◌, slice_get, sym, refl, arith, nat_lt}
use Rattle.std.proofs.lemmas.Bool.Decides.{nat_tests}
use Rattle.zy_table.specs.Change.{txn_or}
use Rattle.zy_machine.proofs.SameLemmas.{below_more, same_txns_at}
use Rattle.zy_machine.proofs.same.same_txns.Goals as goal

pub loop-t-preserved : goal.loop-t-preserved
loop-t-preserved c = λ i lt.
    below_more (λ j. txn_or (slice_get c.args.x.now.txns j) ≡ txn_or (slice_get c.args.y.now.txns j)) c.loop-t.t i (nat_lt i c.loop-t.t) refl
    c.loop-t.invariant (sym c.txn.ensures ∙ (c.same_txn.ensures c.if-not-same_txn.false ∙ c.txn-in-loop-t.ensures)) lt

pub returns : goal.returns
returns c = λ e.
    let few : c.len-4.result ≤ 256 = grind (arith, nat_tests, e) in
    same_txns_at c.args.x.now.txns c.args.y.now.txns (sym c.len.ensures ∙ c.if-len.false ∙ c.len-2.ensures)
    (λ i lt. c.loop-t.invariant i (omega (arith, lt, few, c.loop-t-test.false, c.min-t-end.ensures, c.len-3.ensures, c.len-4.ensures)))
