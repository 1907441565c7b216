use Rattle.std.proofs.Common.{◌∙◌, sym}
use Rattle.std.proofs.lemmas.Bool.{eqb-true}
use Rattle.zy_step_cache.proofs.ExploredLemmas.{commits_told}
use Rattle.zy_step_cache.proofs.explored.Explored.same_commits.Goals as goal

pub returns : goal.returns
returns c is sc states s t k at are =
    let same = sym c.at.ensures ∙ (eqb-true c.at.result c.at-2.result is ∙ c.at-2.ensures) in
    commits_told sc c.args.self.now states s t c.args.place c.args.numbers.now (rw c.numbers.ensures at same) k at are
