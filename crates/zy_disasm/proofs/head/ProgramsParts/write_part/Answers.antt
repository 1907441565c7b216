-- A place among the parts is that of a program.
use Rattle.std.proofs.Common.{◌<◌, length, arith, rules, zero-add}
use Rattle.zy_disasm.proofs.CanonLemmas.{length-parts, parts-at}
use Rattle.zy_disasm.proofs.head.ProgramsParts.write_part.Goals as goal

pub offset_bounds-self-place : goal.offset_bounds-self-place
offset_bounds-self-place g c =
    let h : c.args.place < length c.args.self.now.0.now = omega (arith, c.requires.within, length-parts 0 c.args.self.now.0.now) in
    search rules

pub bounds-self-place : goal.bounds-self-place
bounds-self-place g c = omega (arith, c.requires.within, length-parts 0 c.args.self.now.0.now)

pub returns : goal.returns
returns g c =
    let ps = c.args.self.now.0.now in
    let h : c.args.place < length ps = omega (arith, c.requires.within, length-parts 0 ps) in
    rw (parts-at 0 c.args.place c.index-self-place.result ps h, zero-add c.args.place) (rw (c.words.ensures.value) at c.write.ensures)
