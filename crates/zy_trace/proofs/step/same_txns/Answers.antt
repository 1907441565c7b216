use Rattle.std.proofs.Common.{◌∙◌, ap, sym, length}
use Rattle.zy_isa.specs.Scenario.{Scenario}
use Rattle.zy_trace.proofs.TraceLemmas.{counted}
use Rattle.zy_trace.proofs.step.same_txns.Goals as goal

pub returns : goal.returns
returns c =
    counted c.args.before.now c.safe_counts.ensures c.len-before.ensures.replay
    ∙ ap (λ (s : Scenario). length s.programs) c.requires
    ∙ sym (counted c.args.now.now c.safe_counts.ensures c.len-now.ensures.replay)
