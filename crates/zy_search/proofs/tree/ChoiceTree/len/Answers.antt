use Rattle.std.proofs.Common.{arith, sym, [], ◌∷◌}
use Rattle.zy_search.proofs.PathLemmas.{length-grown}
use Rattle.zy_search.proofs.tree.ChoiceTree.len.Goals as goal

pub returns : goal.returns
returns c = rw (sym c.self.view_is) (omega (arith, c.len.ensures, length-grown ([] ∷ []) c.self.inside.branches.items))
