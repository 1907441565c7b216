-- The fault of one message's text is that of all.
use Rattle.std.proofs.Common.{Err, ap, ◌∙◌, arith, ◌<◌, length}
use Rattle.std.proofs.lemmas.Result.{err_from_is_err_and}
use Rattle.zy_listing.proofs.LinkLemmas.{messages-stop}
use Rattle.zy_listing.proofs.lines.link.MessagesLine.append.Goals as goal

pub returns-in_err-append : goal.returns-in_err-append
returns-in_err-append c =
    let p = err_from_is_err_and c.from_residual.result c.from_residual.ensures.1 in
    let messages = c.args.self.now.0.now.messages in
    let there : c.loop-i.i < length messages = omega arith in
    messages-stop messages c.loop-i.i c.message_at.result.now c.args.line.now c.loop-i.line c.append.new.line _ _ there c.message_at.ensures c.loop-i.invariant
    c.in_err-append.ensures (p.1 ∙ ap Err p.2)
