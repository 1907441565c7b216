-- The lines of the steps so far went out, and both machines are behind them.
use Rattle.std.proofs.Common.{◌≡◌, take}
use Rattle.zy_io.specs.Streams.{NoneFailed, Sends}
use Rattle.std.specs.List.{flat_map}
use Rattle.zy_io.specs.Writing.{line_of}
use Rattle.zy_table.specs.Play.{opening}
use Rattle.zy_trace.specs.Steps.{ran}
use Rattle.zy_trace.proofs.TraceLemmas.{blocks}
use Rattle.zy_trace.proofs.trace.write_steps.Given as goal

abbrev pub invariant-loop : goal.invariant-loop
invariant-loop g l =
    let sent = g.K.Sink.sent in
    let sc = l.fn.now.scenario in
    record {
      alike : l.before ≡ l.now;
      made : l.now ≡ ran sc (take l.counter sc.choices);
      so_far : Sends (sent l.fn.sink) (sent l.sink) (flat_map (flat_map line_of) (take l.counter (blocks l.fn.form sc 1 (opening sc) sc.choices)));
      none_failed : NoneFailed (sent l.fn.sink) (sent l.sink);
    }
