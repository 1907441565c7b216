-- What is in the buffer are the lines of the state.
use Rattle.std.proofs.Common.{◌≡◌, ◌++◌, ◌∙◌, ap, map, refl, subst}
use Rattle.std.specs.List.{flat_map}
use Rattle.std.proofs.lemmas.Result.{err_from_is_err_and}
use Rattle.zy_io.specs.Streams.{Sends, SendsPrefix}
use Rattle.zy_io.proofs.StreamLemmas.{SendsPrefix-none}
use Rattle.zy_io.specs.Writing.{line_of}
use Rattle.zy_trace.specs.Subjects.{inset, state_lines}
use Rattle.zy_trace.proofs.trace.StateLinesSection.write.Goals as goal

pub returns-in_err-append_state : goal.returns-in_err-append_state
returns-in_err-append_state g c =
    let p = err_from_is_err_and c.from_residual.result c.from_residual.ensures.1 in
    rw (p.1, p.2) (SendsPrefix-none (g.K.Sink.sent c.args.sink.now) _, refl)

pub returns-in_err-put_all : goal.returns-in_err-put_all
returns-in_err-put_all g c =
    let s = c.args.self.now.machine.now.state in
    let p = err_from_is_err_and c.from_residual-in_err-put_all.result c.from_residual-in_err-put_all.ensures.1 in
    let text : c.as_bytes.result.now ≡ flat_map line_of (map inset (state_lines s)) =
    c.as_bytes.ensures.value ∙ (c.in_ok-append_state.ensures ∙ ap (λ l. l ++ flat_map line_of (map inset (state_lines s))) c.clear.ensures) in
    rw (p.1, p.2) (
      subst (SendsPrefix (g.K.Sink.sent c.args.sink.now) (g.K.Sink.sent c.put_all.new.self)) text c.in_err-put_all.ensures.0,
      c.in_err-put_all.ensures.1,
    )

pub returns : goal.returns
returns g c =
    let s = c.args.self.now.machine.now.state in
    let text : c.as_bytes.result.now ≡ flat_map line_of (map inset (state_lines s)) =
    c.as_bytes.ensures.value ∙ (c.in_ok-append_state.ensures ∙ ap (λ l. l ++ flat_map line_of (map inset (state_lines s))) c.clear.ensures) in
    (subst (Sends (g.K.Sink.sent c.args.sink.now) (g.K.Sink.sent c.put_all.new.self)) text c.in_ok-put_all.ensures.0, c.in_ok-put_all.ensures.1)
