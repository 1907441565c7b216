use Rattle.std.proofs.Common.{◌<◌, None, length, arith, get_or}
use Rattle.std.proofs.lemmas.List.{get_or_default}
use Rattle.std.proofs.lemmas.List.Edits.{map_over_more}
use Rattle.zy_debug.specs.Scans.{watch_of}
use Rattle.zy_debug.specs.declared.scan.Watched.{Watched}
use Rattle.zy_debug.specs.declared.stop.Reading.TheVariants.{Nothing}
use Rattle.zy_debug.proofs.scan.renew.Goals as goal

pub loop-w-preserved : goal.loop-w-preserved
loop-w-preserved c =
    let ys = c.loop-w.w-items in
    let i = c.loop-w.w-index in
    let d : Watched = record { slot = None; before = Nothing } in
    let lt : i < length ys = omega arith in
    rw c.slot_reading-w.ensures (map_over_more (λ w. watch_of c.args.machine.now.state w.slot) c.deref_mut-w-items.result.now ys i (get_or ys i d)
    (omega (arith, c.loop-w-test.true)) c.loop-w.invariant (get_or_default ys i d (get_or ys i d) lt))
