use Rattle.std.proofs.Common.{◌∙◌, ap, sym, slice_index_or, option_copied}
use Rattle.zy_step_cache.proofs.LowestLemmas.{none_there}
use Rattle.zy_step_cache.proofs.places.byte_of.Goals as goal

pub returns-in-None : goal.returns-in-None
returns-in-None c =
    sym (ap (λ xs. slice_index_or xs c.args.i 0) (none_there c.args.table.now c.args.number (sym c.bytes.ensures ∙ ap option_copied c.in-None.is)))
