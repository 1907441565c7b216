use Rattle.std.proofs.Common.{◌∙◌, arith}
use Rattle.std.proofs.lemmas.List.{length-set, length-take-le}
use Rattle.zy_page.proofs.Cells.{put_between}
use Rattle.zy_page.proofs.page.Page.insert.Goals as goal

pub invariant_of-self : goal.invariant_of-self
invariant_of-self c =
    let was = c.self.inside in
    let here = rw (← c.self.view_is) at c.requires in
    let at_most = length-take-le was.len was.cells (omega (arith, c.self.invariant.few, c.self.invariant.full)) in
    let full = length-set c.copy_within.new.self c.args.at c.args.row ∙ c.copy_within.ensures.len ∙ c.self.invariant.full in
    let put = put_between was.cells was.len c.args.at c.args.row (omega (arith, here.within, at_most))
    (omega (arith, here.room, at_most, c.self.invariant.full)) in
    record { few = omega (arith, here.room, at_most); full = full; kept = rw (c.copy_within.ensures.after, put) here.kept }

pub returns : goal.returns
returns c =
    let was = c.self.inside in
    let here = rw (← c.self.view_is) at c.requires in
    let at_most = length-take-le was.len was.cells (omega (arith, c.self.invariant.few, c.self.invariant.full)) in
    let put = put_between was.cells was.len c.args.at c.args.row (omega (arith, here.within, at_most))
    (omega (arith, here.room, at_most, c.self.invariant.full)) in
    rw (← c.self.view_is, c.copy_within.ensures.after) (λ i. record { number = was.number; low = was.low; rows = put i })
