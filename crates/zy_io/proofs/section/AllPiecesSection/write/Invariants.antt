-- The lines before this place went out.
use Rattle.std.proofs.Common.{take}
use Rattle.zy_io.specs.Streams.{Sends, NoneFailed}
use Rattle.std.specs.List.{flat_map}
use Rattle.zy_io.specs.Writing.{line_of}
use Rattle.zy_io.proofs.section.AllPiecesSection.write.Given as goal

abbrev pub invariant-loop-place : goal.invariant-loop-place
invariant-loop-place g l = record {
  so_far : Sends (g.K.Sink.sent l.initial.sink) (g.K.Sink.sent l.sink) (flat_map line_of (take l.place (g.L.PieceLines.texts l.self.0)));
  none_failed : NoneFailed (g.K.Sink.sent l.initial.sink) (g.K.Sink.sent l.sink);
}
