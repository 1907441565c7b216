-- The lines that are shown are those that have changed.
use Rattle.std.proofs.Common.{◌∙◌, ◌++◌, ap₂, false}
use Rattle.zy_io.specs.Writing.{line_of}
use Rattle.zy_listing.specs.Texts.{step_text}
use Rattle.zy_trace.specs.Subjects.{changed, lines_of_subject, subjects}
use Rattle.zy_trace.proofs.TraceLemmas.{inset_line, inset_lines, lines_each}
use Rattle.zy_trace.proofs.step.put_lines.Goals as goal

pub returns : goal.returns
returns c =
    let s = c.args.before.now.state in
    let t = c.args.now.now.state in
    c.in_ok-append_since.ensures
    ∙ ap₂ (λ l m. l ++ m)
    (c.in_ok-append_step.ensures ∙ ap₂ (λ l n. l ++ line_of (step_text n c.args.step.now.entry)) c.clear.ensures c.len.ensures.value)
    (lines_each inset_line (lines_of_subject false s t) (subjects t) ∙ inset_lines (changed s t))
