use Rattle.std.proofs.Common.{◌∙◌, sym, refl, arith, nat_lt}
use Rattle.zy_links.specs.declared.message.Message.TheVariants as sent
use Rattle.zy_machine.proofs.SameLemmas.{below_more, same_all, same_at, SameAt}
use Rattle.zy_machine.proofs.same.same_messages.Goals as goal

pub loop-i-preserved : goal.loop-i-preserved
loop-i-preserved c = λ j lt.
    let all = sym c.len.ensures ∙ c.if-len.false ∙ c.len-2.ensures in
    below_more (SameAt c.args.x.now.messages c.args.y.now.messages) c.loop-i.i j (nat_lt j c.loop-i.i) refl c.loop-i.invariant
    (same_at c.args.x.now.messages c.args.y.now.messages c.loop-i.i c.message_at.result.now c.message_at-in-loop-i.result.now
    (omega (arith, c.loop-i-test.true, c.len-i-end.ensures)) (omega (arith, all, c.loop-i-test.true, c.len-i-end.ensures))
    c.message_at.ensures c.message_at-in-loop-i.ensures (c.same_message.ensures c.if-not-same_message.false)) lt

pub returns : goal.returns
returns c = λ e.
    let all = sym c.len.ensures ∙ c.if-len.false ∙ c.len-2.ensures in
    same_all sent.Ready c.args.x.now.messages c.args.y.now.messages all (λ i lt. c.loop-i.invariant i
    (omega (arith, lt, c.len-i-end.ensures, c.loop-i-test.false)))
