-- The words of a line are those that were taken, and what it says is what went out.
use Rattle.std.proofs.Common.{◌∙◌, sym, subst, arith}
use Rattle.std.proofs.lemmas.Result.{err_from_is_err_and}
use Rattle.zy_io.specs.Streams.{Sends, SendsPrefix}
use Rattle.zy_text.specs.Words.{lines_of, words_of}
use Rattle.zy_text.specs.Lines.{first_line}
use Rattle.zy_text.proofs.LineLemmas.{line_taken}
use Rattle.zy_debug_text.specs.Console.{LineSays}
use Rattle.zy_debug_text.proofs.SaidLemmas.{said_more, said_stops, said_torn, says_first}
use Rattle.zy_debug_text.proofs.session.write_session.Goals as goal

pub returns-in_err-answer : goal.returns-in_err-answer
returns-in_err-answer g c =
    let sent = g.K.Sink.sent in
    let p = err_from_is_err_and c.from_residual.result c.from_residual.ensures.1 in
    rw p.1 (rw p.2 (
      said_stops (sent c.args.sink.now) (sent c.loop-words.sink) c.args.debugger.now c.loop-words.debugger (lines_of c.args.commands.now)
          (lines_of c.loop-words.rest.now)
          c.loop-words.invariant.said,
      c.loop-words.invariant.same,
    ))

pub returns-in_err-put_all : goal.returns-in_err-put_all
returns-in_err-put_all g c =
    let sent = g.K.Sink.sent in
    let p = err_from_is_err_and c.from_residual-in_err-put_all.result c.from_residual-in_err-put_all.ensures.1 in
    let some = sym c.is_empty.ensures ∙ c.loop-words-test.true in
    let line = first_line c.loop-words.rest.now in
    let taken = line_taken c.loop-words.rest.now c.take_line-rest.result.now some c.take_line-rest.ensures.below in
    let says = says_first c.loop-words.debugger c.answer.new.debugger (words_of line) c.answer.new.line
    (subst (λ ws. LineSays c.loop-words.debugger ws c.answer.new.debugger c.answer.new.line)
    (c.as_slice.ensures ∙ c.take_line-rest.ensures.words) c.in_ok-answer.ensures) in
    let front = subst (SendsPrefix (sent c.loop-words.sink) (sent c.put_all.new.self)) c.as_bytes.ensures.value c.in_err-put_all.ensures.0 in
    rw p.1 (rw p.2 (
      said_torn (sent c.args.sink.now) (sent c.loop-words.sink) c.args.debugger.now c.loop-words.debugger c.answer.new.debugger
          (lines_of c.args.commands.now) (lines_of c.loop-words.rest.now) (lines_of c.take_line-rest.result.now) c.answer.new.line
          c.loop-words.invariant.said (record { line = line; first = taken; says = says }) (sent c.put_all.new.self) front,
      omega (arith, c.in_err-put_all.ensures.1, c.loop-words.invariant.same),
    ))

pub loop-words-preserved : goal.loop-words-preserved
loop-words-preserved g c =
    let sent = g.K.Sink.sent in
    let some = sym c.is_empty.ensures ∙ c.loop-words-test.true in
    let line = first_line c.loop-words.rest.now in
    let taken = line_taken c.loop-words.rest.now c.take_line-rest.result.now some c.take_line-rest.ensures.below in
    let says = says_first c.loop-words.debugger c.answer.new.debugger (words_of line) c.answer.new.line
    (subst (λ ws. LineSays c.loop-words.debugger ws c.answer.new.debugger c.answer.new.line)
    (c.as_slice.ensures ∙ c.take_line-rest.ensures.words) c.in_ok-answer.ensures) in
    let wrote = subst (Sends (sent c.loop-words.sink) (sent c.put_all.new.self)) c.as_bytes.ensures.value c.in_ok-put_all.ensures.0 in
    record {
      said = said_more (sent c.args.sink.now) (sent c.loop-words.sink) c.args.debugger.now c.loop-words.debugger c.answer.new.debugger
          (lines_of c.args.commands.now) (lines_of c.loop-words.rest.now) (lines_of c.take_line-rest.result.now) c.answer.new.line
          c.loop-words.invariant.said (record { line = line; first = taken; says = says }) (sent c.put_all.new.self) wrote;
      same = omega (arith, c.in_ok-put_all.ensures.1, c.loop-words.invariant.same);
    }
