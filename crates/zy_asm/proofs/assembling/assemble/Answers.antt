-- What is read is meant, and has no fault.
use Rattle.std.proofs.Common.{◌∙◌, sym, subst}
use Rattle.zy_isa.specs.Scenario.{IsScenario}
use Rattle.zy_text.specs.Text.{Means}
use Rattle.zy_asm.specs.Reading.Progress.{progress_of}
use Rattle.zy_asm.specs.Reasons.{fault_of}
use Rattle.zy_asm.proofs.OnlyLemmas.{read_text, Means-from_read, only_of, fault_of as memory_fault}
use Rattle.zy_asm.proofs.assembling.assemble.Goals as goal

pub of_parts-requires : goal.of_parts-requires
of_parts-requires c = (read_text c.args.text.now (progress_of c.in-Ok.reader) c.in-Ok.ensures).tested

pub returns-in-Err-clause-only : goal.returns-in-Err-clause-only
returns-in-Err-clause-only c = λ s q. memory_fault c.args.text.now (fault_of c.in-Err.refusal) s c.in-Err.ensures q

pub returns-in-Ok-clause-found : goal.returns-in-Ok-clause-found
returns-in-Ok-clause-found c =
    let e = c.of_parts.ensures.value in
    let text = c.args.text.now in
    subst (Means text) (sym e) (Means-from_read text (progress_of c.in-Ok.reader) (read_text text (progress_of c.in-Ok.reader) c.in-Ok.ensures)
    (subst IsScenario e c.of_parts.ensures.tested))

pub returns-in-Ok-clause-only : goal.returns-in-Ok-clause-only
returns-in-Ok-clause-only c = λ s q. c.of_parts.ensures.value ∙ only_of c.args.text.now (progress_of c.in-Ok.reader) s c.in-Ok.ensures q
