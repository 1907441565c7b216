-- What went out is a prefix of the text, and the rest is its back.
use Rattle.std.proofs.Common.{length}
use Rattle.zy_io.specs.Streams.{NoneFailed, Remains}
use Rattle.zy_io.proofs.stream.Sink.put_all.Given as goal

abbrev pub invariant-loop-rest : goal.invariant-loop-rest
invariant-loop-rest g l = record {
  so_far : Remains (g.Self.Sink.sent l.initial.self) (g.Self.Sink.sent l.self) l.bytes l.rest;
  none_failed : NoneFailed (g.Self.Sink.sent l.initial.self) (g.Self.Sink.sent l.self);
}

abbrev pub decreases-loop-rest : goal.decreases-loop-rest
decreases-loop-rest g l = length l.rest
