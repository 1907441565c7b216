-- Behind the common front the rests say what the lists say.
use Rattle.std.proofs.Common.{◌∙◌, ap, sym}
use Rattle.zy_listing.specs.Locked.{locks_on}
use Rattle.zy_trace.proofs.KeptLemmas.{rests_say, rest_whole}
use Rattle.zy_trace.proofs.kept.rests_at.Goals as goal

pub returns : goal.returns
returns c =
    let i = c.common-i.result in
    let old = c.locks-old.result.now in
    let new = c.locks-new.result.now in
    λ n p h.
    ap (locks_on n p) (sym c.locks-old.ensures)
    ∙ (rests_say old new i c.common-i.ensures.same n p (ap (locks_on n p) (sym (rest_whole i old)) ∙ (h ∙ ap (locks_on n p) (rest_whole i new)))
    ∙ ap (locks_on n p) c.locks-new.ensures)
