-- A line that was done, the fault of a line, and that of the end.
use Rattle.std.proofs.Common.{◌≡◌, ◌∙◌, ℕ, ap, ap₂, arith, rules, sym, inl, inr, Err}
use Rattle.zy_text.specs.Words.{lines_of}
use Rattle.zy_text.specs.Lines.{first_line}
use Rattle.zy_asm.specs.declared.faults.LineFault.{LineFault}
use Rattle.zy_asm.specs.declared.faults.Reason.{Reason}
use Rattle.zy_asm.specs.Reasons.{kind_of, fault_of}
use Rattle.zy_asm.specs.Reading.Progress.{progress_of}
use Rattle.zy_asm.specs.Reading.{reading, read_lines}
use Rattle.zy_asm.proofs.CodeLemmas.{empty_lines, fault_at, fault_end, line_done}
use Rattle.zy_text.proofs.LineLemmas.{line_taken}
use Rattle.zy_asm.proofs.reading.read.Goals as goal

pub loop-words-preserved-in-Some : goal.loop-words-preserved-in-Some
loop-words-preserved-in-Some c =
    let some = sym c.is_empty.ensures ∙ c.loop-words-test.true in
    let rest = c.loop-words.rest.now in
    let step = rw c.in-Some.is at c.take_usual.ensures.step in
    let below = rw c.in-Some.is at c.take_usual.ensures.below in
    record {
      same = line_done (progress_of c.loop-words.reader) (progress_of c.take_usual.new.self) c.loop-words.line (lines_of rest)
          (lines_of c.in-Some.below.now) (first_line rest) (reading c.args.text.now)
          c.loop-words.invariant.same (line_taken rest c.in-Some.below.now some below.lines) step;
      few = omega (arith, below.shorter, c.loop-words.invariant.few);
    }

pub loop-words-preserved : goal.loop-words-preserved
loop-words-preserved c =
    let some = sym c.is_empty.ensures ∙ c.loop-words-test.true in
    let rest = c.loop-words.rest.now in
    let before : progress_of c.take_usual.new.self ≡ progress_of c.loop-words.reader = search rules in
    record {
      same = line_done (progress_of c.take_usual.new.self) (progress_of c.take-outcome.new.self) c.loop-words.line (lines_of rest)
          (lines_of c.take-outcome.result.1.now) (first_line rest) (reading c.args.text.now)
          (ap (λ s. read_lines s c.loop-words.line (lines_of rest)) before ∙ c.loop-words.invariant.same)
          (line_taken rest c.take-outcome.result.1.now some c.take-outcome.ensures.below)
          (rw c.in_default-outcome.is at c.take-outcome.ensures.step);
      few = omega (arith, c.take-outcome.ensures.shorter, c.loop-words.invariant.few);
    }

-- the fault of a line, by the line and the reason
as_told : (f : LineFault) (line : ℕ) (r : Reason) → f.line ≡ line → f.reason ≡ r → record { line = line; kind = kind_of r } ≡ fault_of f
as_told f line r h e = ap₂ (λ (l : ℕ) (x : Reason). record { line = l; kind = kind_of x }) (sym h) (sym e)

pub returns-in-Err : goal.returns-in-Err
returns-in-Err c =
    let some = sym c.is_empty.ensures ∙ c.loop-words-test.true in
    let rest = c.loop-words.rest.now in
    let before : progress_of c.take_usual.new.self ≡ progress_of c.loop-words.reader = search rules in
    let step = rw c.in-Err.is at c.take-outcome.ensures.step in
    let told = as_told c.rejected.result c.loop-words.line c.in-Err.fault.reason c.rejected.ensures.line c.rejected.ensures.reason in
    elim step [
      | inl e ↦ inl (ap kind_of c.rejected.ensures.reason ∙ e)
      | inr e ↦
          inr (fault_at (progress_of c.take_usual.new.self) c.loop-words.line (lines_of rest) (lines_of c.take-outcome.result.1.now)
          (first_line rest) (kind_of c.in-Err.fault.reason) (reading c.args.text.now)
          (ap (λ s. read_lines s c.loop-words.line (lines_of rest)) before ∙ c.loop-words.invariant.same)
          (line_taken rest c.take-outcome.result.1.now some c.take-outcome.ensures.below)
          e ∙ ap Err told)
    ]

pub returns-in-Err-end_reached : goal.returns-in-Err-end_reached
returns-in-Err-end_reached c =
    let told = as_told c.rejected-in-Err-end_reached.result c.loop-words.line c.in-Err-end_reached.reason
    c.rejected-in-Err-end_reached.ensures.line (c.rejected-in-Err-end_reached.ensures.reason ∙ c.at.ensures) in
    inr (fault_end (progress_of c.loop-words.reader) c.loop-words.line (lines_of c.loop-words.rest.now) (kind_of c.in-Err-end_reached.reason)
    (reading c.args.text.now)
    c.loop-words.invariant.same (empty_lines c.loop-words.rest.now (sym c.is_empty.ensures ∙ c.loop-words-test.false)) (sym c.in-Err-end_reached.ensures)
    ∙ ap Err told)
