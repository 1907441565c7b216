use Rattle.std.proofs.Common.{◌≡◌, ◌∙◌, get_or, sym, refl, arith, nat_lt}
use Rattle.zy_machine.proofs.SameLemmas.{below_more, same_numbers}
use Rattle.zy_machine.proofs.same.same_lows.Goals as goal

pub loop-p-preserved : goal.loop-p-preserved
loop-p-preserved c = λ i lt.
    below_more (λ j. get_or c.args.x.now.lows j 0 ≡ get_or c.args.y.now.lows j 0) c.loop-p.p i (nat_lt i c.loop-p.p) refl c.loop-p.invariant
    (sym c.low_of.ensures.value ∙ c.if-low_of.false ∙ c.low_of-in-loop-p.ensures.value) lt

pub returns : goal.returns
returns c = λ e.
    same_numbers c.args.x.now.lows c.args.y.now.lows (sym c.len.ensures.value ∙ c.if-len.false ∙ c.len-2.ensures.value)
    (λ i lt. c.loop-p.invariant i (omega (arith, lt, c.len-p-end.ensures.value, c.loop-p-test.false)))
