-- A place among the texts is that of a step.
use Rattle.std.proofs.Common.{◌<◌, length, sym, arith, rules}
use Rattle.zy_listing.proofs.ListingLemmas.{length-steps, step-at}
use Rattle.zy_listing.proofs.lines.step.StepsPieceLines.line.Goals as goal

pub overflow_add-result : goal.overflow_add-result
overflow_add-result c =
    let h : c.args.place < length c.args.self.now.0.now = omega (arith, c.requires, length-steps 1 c.args.self.now.0.now) in
    search rules

pub offset_bounds-self-place : goal.offset_bounds-self-place
offset_bounds-self-place c =
    let h : c.args.place < length c.args.self.now.0.now = omega (arith, c.requires, length-steps 1 c.args.self.now.0.now) in
    search rules

pub bounds-self-place : goal.bounds-self-place
bounds-self-place c = omega (arith, c.requires, length-steps 1 c.args.self.now.0.now)

pub returns-clause-text : goal.returns-clause-text
returns-clause-text c = sym (step-at c.args.place _ c.args.self.now.0.now c.requires)
