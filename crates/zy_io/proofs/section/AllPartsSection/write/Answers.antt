-- The fault of one part is that of all.
use Rattle.std.proofs.Common.{[], Err, ap, ◌∙◌, arith, rules}
use Rattle.std.proofs.lemmas.Grind.{common_steps}
use Rattle.std.specs.List.{flat_map}
use Rattle.std.proofs.lemmas.Result.{err_from_is_err_and}
use Rattle.zy_io.specs.Writing.{line_of}
use Rattle.zy_io.proofs.WritingLemmas.{Wrote-element-stops, flat_map-flat_map}
use Rattle.zy_io.proofs.section.AllPartsSection.write.Goals as goal

pub returns-in_err-write_part : goal.returns-in_err-write_part
returns-in_err-write_part g c =
    let p = err_from_is_err_and c.from_residual.result c.from_residual.ensures.1 in
    rw flat_map-flat_map
    (Wrote-element-stops _ _ _ (flat_map line_of) (g.P.Parts.parts c.args.self.now.0) c.loop-place.place [] c.in_err-write_part.field-0.0 _
    (omega arith) c.loop-place.invariant.so_far
    c.loop-place.invariant.none_failed c.in_err-write_part.ensures (p.1 ∙ ap Err p.2))

pub returns : goal.returns
returns g c = rw flat_map-flat_map (search (rules, common_steps))
