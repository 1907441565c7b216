-- The lines in quotation marks are those that have changed.
use Rattle.std.proofs.Common.{◌∙◌, ◌++◌, ap₂, append-nil, sym, false}
use Rattle.zy_io.specs.Writing.{line_of}
use Rattle.zy_trace.specs.Objects.{listed_text, quoted, traced_text}
use Rattle.zy_trace.specs.Subjects.{changed, lines_of_subject, subjects}
use Rattle.zy_trace.proofs.TraceLemmas.{lines_each}
use Rattle.zy_trace.proofs.step.put_traced.Goals as goal

pub returns : goal.returns
returns c =
    let s = c.args.before.now.state in
    let t = c.args.now.now.state in
    let o = c.args.step.now in
    let lines = c.as_bytes.ensures.value
    ∙ (c.in_ok-append_since.ensures ∙ ap₂ (λ l m. l ++ m) c.clear-2.ensures (lines_each quoted (lines_of_subject false s t) (subjects t))) in
    c.in_ok-append_traced.ensures
    ∙ ap₂ (λ l m. l ++ line_of (listed_text o m)) c.clear.ensures lines
    ∙ sym (append-nil (line_of (traced_text o (changed s t))))
