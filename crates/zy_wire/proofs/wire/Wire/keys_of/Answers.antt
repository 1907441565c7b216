use Rattle.std.proofs.Common.{◌∙◌, leb, ltb, sym, arith}
use Rattle.std.proofs.lemmas.Bool.{and_right, le-ltb, ne_eqb}
use Rattle.zy_model.specs.Wireframe.{page_of}
use Rattle.zy_model.proofs.PageOf.{page_of-within}
use Rattle.zy_wire.proofs.wire.Wire.keys_of.Goals as goal

pub returns-else-from-len : goal.returns-else-from-len
returns-else-from-len c =
    λ k.
    let lows = c.args.self.now.lows in
    let within = page_of-within lows k (omega (arith, c.len.ensures.some, c.len.ensures.value)) in
    and_right (leb 0 k) (ltb k 0) (le-ltb k 0 (omega arith)) ∙ sym (ne_eqb (page_of lows k) c.args.page (λ same. absurd (omega arith)))
