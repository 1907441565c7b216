-- The session begins at the start.
use Rattle.std.proofs.Common.{List, ℕ, refl, subst}
use Rattle.std.proofs.lemmas.Result.{err_from_is_err_and}
use Rattle.zy_io.specs.Streams.{Sent}
use Rattle.zy_text.specs.Words.{lines_of}
use Rattle.zy_debug.specs.Sessions.{Session}
use Rattle.zy_debug_text.specs.Console.{SaysPrefix, WroteSession, opened}
use Rattle.zy_debug_text.proofs.SaidLemmas.{said_nothing, said_stops}
use Rattle.zy_engine.proofs.debugging.write_replies.Goals as goal

-- where nothing went out, nothing but a prefix did
nothing_said : (a : Sent) (s : Session) (lines : List (List ℕ)) → SaysPrefix a a s lines
nothing_said a s lines = said_stops a a s s lines lines (said_nothing a s lines)

pub returns-in_err-debugger : goal.returns-in_err-debugger
returns-in_err-debugger g c =
    let p = err_from_is_err_and c.from_residual.result c.from_residual.ensures.1 in
    let start = opened c.args.scenario in
    (start, rw p.1 (rw p.2 (nothing_said (g.K.Sink.sent c.args.sink.now) start (lines_of c.args.commands.now), refl)))

pub returns : goal.returns
returns g c = (
  c.write_session-written.new.debugger,
  subst (λ s. WroteSession (g.K.Sink.sent c.args.sink.now) (g.K.Sink.sent c.write_session-written.new.sink) c.write_session-written.result s (lines_of c.args.commands.now) c.write_session-written.new.debugger)
      c.in_ok-debugger.ensures c.write_session-written.ensures,
)
