use Rattle.std.proofs.Common.{◌∙◌}
use Rattle.zy_order.proofs.WayLemmas.{none_together}
use Rattle.zy_order.proofs.logs.Logs.next_by.Goals as goal

pub returns-in_err-line-in-Both : goal.returns-in_err-line-in-Both
returns-in_err-line-in-Both c = rw c.from_residual-in_err-line-in-Both.ensures (λ lines by next.
    none_together c.args.version c.in-Both.node c.args.self.now c.args.cursors c.in_err-line-in-Both.ensures lines.by lines.line lines.other
    (by ∙ c.in-Both.is) next)
