use Rattle.std.proofs.Common.{ap, arith, length}
use Rattle.zy_step_cache.proofs.ArenaLemmas.{many_lists}
use Rattle.zy_step_cache.proofs.arena.Arena.len.Goals as goal

pub returns : goal.returns
returns c =
    let a = c.self.inside in
    omega (arith, c.self.invariant.1, many_lists a.width a.even a.numbers.items a.others.items, ap length c.self.view_is)
