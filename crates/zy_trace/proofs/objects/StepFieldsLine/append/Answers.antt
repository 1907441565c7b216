-- The actor, the message and the rows are those of the step.
use Rattle.std.proofs.Common.{sym}
use Rattle.zy_trace.proofs.objects.StepFieldsLine.append.Goals as goal

pub returns : goal.returns
returns c = rw (sym c.actor.ensures, sym c.sent_kind.ensures, sym c.moved_rows.ensures) c.append.ensures
