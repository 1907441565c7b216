use Rattle.std.proofs.Common.{arith, subst, sym}
use Rattle.zy_model.specs.Wireframe.{IsGreatest}
use Rattle.zy_model.proofs.PageOf.{page_of-greatest}
use Rattle.zy_wire.proofs.Leaves.{leaf_of, page_at}
use Rattle.zy_wire.proofs.wire.Wire.page_of.Goals as goal

pub page-requires : goal.page-requires
page-requires c =
    let v = c.self.invariant in
    let lows = c.self.inside.lows.items in
    let f = page_at lows c.leaf.result.now c.args.key c.entry_under.result v.apart
    (leaf_of lows _ c.args.key c.leaf.result.now v.holds c.leaf.ensures) c.entry_under.ensures in
    omega (arith, f.within, v.few)

pub returns : goal.returns
returns c =
    let v = c.self.invariant in
    let lows = c.self.inside.lows.items in
    let f = page_at lows c.leaf.result.now c.args.key c.entry_under.result v.apart
    (leaf_of lows _ c.args.key c.leaf.result.now v.holds c.leaf.ensures) c.entry_under.ensures in
    rw (← c.self.view_is, c.page.ensures) (record {
      value = sym f.is;
      within = f.within;
      few = omega (arith, f.within, v.few);
      under = f.under;
      greatest = subst (IsGreatest lows c.args.key) f.is (page_of-greatest lows c.args.key);
    })
