use Rattle.std.proofs.Common.{◌∙◌, ap, sym, option_copied}
use Rattle.zy_step_cache.proofs.LowestLemmas.{none_there}
use Rattle.zy_step_cache.proofs.explored.numbers_in.Goals as goal

pub returns-in-None : goal.returns-in-None
returns-in-None c = sym (none_there c.args.vectors.now c.args.place (sym c.get.ensures ∙ ap option_copied c.in-None.is))
