-- What was given so far is in the sink.
use Rattle.std.proofs.Common.{◌-◌, ◌≤◌, length, take}
use Rattle.zy_io.specs.Streams.{Sends, NoneFailed}
use Rattle.zy_io.proofs.buffered.give.Given as goal

abbrev pub invariant-loop-given : goal.invariant-loop-given
invariant-loop-given g l = record {
  within : l.given ≤ length l.bytes;
  so_far : Sends (g.K.Sink.sent l.initial.sink) (g.K.Sink.sent l.sink) (take l.given l.bytes);
  none_failed : NoneFailed (g.K.Sink.sent l.initial.sink) (g.K.Sink.sent l.sink);
}

abbrev pub decreases-loop-given : goal.decreases-loop-given
decreases-loop-given g l = length l.bytes - l.given
