-- The test says whether the run is serial.
use Rattle.std.proofs.Common.{Bool, subst}
use Rattle.std.specs.List.{flat_map}
use Rattle.zy_io.specs.Writing.{line_of, Wrote}
use Rattle.zy_trace.specs.Trace.{last_lines}
use Rattle.zy_trace.proofs.trace.write_end.Goals as goal

pub returns : goal.returns
returns g c =
    let Text : Bool → Type 0 = λ same. Wrote (g.K.Sink.sent c.args.sink.now) (g.K.Sink.sent c.write.new.sink) c.write.result (flat_map line_of (last_lines c.args.machine.now.state same)) in
    subst Text c.in_ok-agrees.ensures c.write.ensures
