-- What the last call gave was too much, or there was no memory for it.
use Rattle.std.proofs.Common.{arith}
use Rattle.std.proofs.lemmas.Grind.{common_steps}
use Rattle.std.proofs.lemmas.Result.{err_from_is_err_and}
use Rattle.std.proofs.KnownBytes.{Consumes-trans}
use Rattle.zy_io.proofs.reading.read_all.Goals as goal

pub returns-in_err-extend_from_slice-clause-reads :
    goal.returns-in_err-extend_from_slice-clause-reads
returns-in_err-extend_from_slice-clause-reads g c =
    let p = err_from_is_err_and c.from_residual-in_err-extend_from_slice.result c.from_residual-in_err-extend_from_slice.ensures.1 in
    rw (p.1, p.2) (
      (
        _,
        Consumes-trans _ _ _ _ _ c.loop-count.invariant.so_far c.in-Ok.ensures.bytes.0,
        grind (arith, common_steps),
      ),
      omega (arith, c.in-Ok.ensures.failed, c.loop-count.invariant.none_failed),
    )

pub returns-then-count-room-clause-reads : goal.returns-then-count-room-clause-reads
returns-then-count-room-clause-reads g c = (
  (
    _,
    Consumes-trans _ _ _ _ _ c.loop-count.invariant.so_far c.in-Ok.ensures.bytes.0,
    grind (arith, common_steps),
  ),
  omega (arith, c.in-Ok.ensures.failed, c.loop-count.invariant.none_failed),
)
