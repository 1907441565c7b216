use Rattle.std.proofs.Common.{◌∙◌, refl, sym}
use Rattle.zy_serial.proofs.Entries.{same-tables, same_map-true}
use Rattle.zy_serial.proofs.Commits.{commits-named}
use Rattle.zy_serial.proofs.serial.same.Goals as goal

pub serial-requires : goal.serial-requires
serial-requires c = rw (c.commits.ensures, c.scenario.ensures.value) (commits-named c.args.machine.now c.scenario.ensures.replay)

pub returns-then-covers : goal.returns-then-covers
returns-then-covers c =
    let run = rw (c.scenario.ensures.value, c.commits.ensures) at c.in_ok-alone.ensures.map in
    let equal = sym (c.covers.ensures c.if-covers.true) ∙ run in
    sym (same_map-true _ _ equal)

pub returns : goal.returns
returns c =
    let one = same-tables _ c.in_ok-pages.pages c.in_ok-alone.alone (λ x y. refl) c.rows.ensures.rise c.rows-2.ensures.rise in
    let run = rw (c.scenario.ensures.value, c.commits.ensures) at c.in_ok-alone.ensures.map in
    rw (← c.in_ok-pages.ensures, ← run) (rw (c.rows.ensures.value, c.rows-2.ensures.value) at c.eq.ensures ∙ one)
