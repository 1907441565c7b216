-- What the lines that were read say went out, and the others are left.
use Rattle.std.proofs.Common.{length}
use Rattle.zy_io.specs.Streams.{NoneFailed}
use Rattle.zy_text.specs.Words.{lines_of}
use Rattle.zy_debug_text.proofs.SaidLemmas.{Said}
use Rattle.zy_debug_text.proofs.session.write_session.Given as goal

abbrev pub invariant-loop-words : goal.invariant-loop-words
invariant-loop-words g l =
    let sent = g.K.Sink.sent in
    record {
      said : Said (sent l.fn.sink) (sent l.sink) l.fn.debugger (lines_of l.commands) (lines_of l.rest) l.debugger;
      same : NoneFailed (sent l.fn.sink) (sent l.sink);
    }

abbrev pub decreases-loop-words : goal.decreases-loop-words
decreases-loop-words g l = length l.rest
