use Rattle.std.proofs.Common.{◌≡◌, ◌∙◌, arith, get_or}
use Rattle.std.proofs.lemmas.List.{get_or_default}
use Rattle.zy_alloc_failures.proofs.parts.grown.Goals as goal

-- a page with that low key would be the key's own
pub grow-requires : goal.grow-requires
grow-requires c = λ has.
    let lows = c.args.wire.now.lows in
    let here : get_or lows has.0 0 ≡ c.args.low = get_or_default lows has.0 0 c.args.low has.1 ∙ has.2 in
    let g = c.page_of-page.ensures.greatest has.0 has.1 (omega arith) in
    c.if-low_of-low.false (omega (arith, g.0, g.1, c.low_of.ensures.value))
