use Rattle.std.proofs.Common.{◌≡◌, ◌∙◌, length, subst, ap, arith}
use Rattle.std.specs.Prelude.{Contains}
use Rattle.zy_wire.specs.declared.entry.IndexEntry.{IndexEntry}
use Rattle.zy_wire.specs.Nodes.{node}
use Rattle.zy_wire.proofs.Held.{key_at}
use Rattle.zy_wire.proofs.Grown.{IsSound-grown}
use Rattle.zy_wire.proofs.wire.Wire.put.Goals as goal

pub put-requires-clause-fresh : goal.put-requires-clause-fresh
put-requires-clause-fresh c = λ j d lt same.
    let lows = c.self.inside.lows.items in
    let new = rw (← c.self.view_is) at c.requires.fresh in
    let holds = c.make_way-leaf.ensures.holds lows c.self.invariant.holds in
    let has = holds c.make_way-leaf.result.0 c.make_way-leaf.ensures.at.there in
    new (subst (Contains lows) (same ∙ ap (λ (e : IndexEntry). e.low) c.of_page.ensures)
    (key_at lows j d (node c.make_way-leaf.new.self.nodes c.make_way-leaf.result.0).entries has.keys lt))

pub invariant_of-self : goal.invariant_of-self
invariant_of-self c =
    let lows = c.self.inside.lows.items in
    let new = rw (← c.self.view_is) at c.requires.fresh in
    let few = rw (← c.self.view_is) at c.requires.few in
    let last : c.len-page.result ≡ length lows = omega (arith, ap (λ w. length w.lows) c.self.view_is) in
    let made = c.make_way-leaf.ensures in
    let put = c.put.ensures in
    let held = put.holds lows (made.holds lows c.self.invariant.holds) (ap (λ (e : IndexEntry). e.to) c.of_page.ensures ∙ last) in
    let there = rw c.of_page.ensures at held in
    rw c.push_reserved.ensures.items (IsSound-grown c.self.inside.pages c.args.low lows c.self.inside.tree.nodes c.put.new.self.nodes c.self.inside.tree.top
    c.put.new.self.top c.self.invariant new (omega (arith, c.ranges.low.fits)) few there (omega (arith, made.top, put.top))
    (omega (arith, made.nodes, put.nodes)))
