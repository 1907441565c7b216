use Rattle.std.proofs.Common.{subst, sym}
use Rattle.std.proofs.lemmas.Result.{IfOk-weaker}
use Rattle.zy_laws.specs.WayOut.{Ended}
use Rattle.zy_table.specs.Play.{play}
use Rattle.zy_ending.proofs.WayLemmas.{ended}
use Rattle.zy_ending.proofs.ending.way_out.Goals as goal

pub returns-clause-ended : goal.returns-clause-ended
returns-clause-ended c =
    let m = c.args.machine.now in
    IfOk-weaker c.end-made.result _ _
    (λ v e. subst (λ cs. Ended m.state (play m.scenario m.state cs)) (sym e) (ended m c.entries.ensures.replay)) c.end-made.ensures.choices
