use Rattle.std.proofs.Common.{arith, sym, ◌∙◌, ◌-◌, ◌<◌}
use Rattle.zy_node.specs.Nodes.{node_shown}
use Rattle.zy_node.specs.Wireframes.{lows_in}
use Rattle.zy_rules.proofs.SumLemmas.{on_last_page, on_page_before, one_page, page_apart, sum_apart}
use Rattle.zy_rules.proofs.sum.sum.Goals as goal

pub loop-next-init : goal.loop-next-init
loop-next-init c =
    let n = node_shown c.args.me.now in
    let x = c.args.txn.now in
    let apart = sum_apart x n c.args.first c.args.last in
    let own = rw c.rows-private.ensures.value at c.sum_of_rows-sum.ensures in
    record {
      rest = omega (arith, apart, own);
      page = sym c.page_of-page.ensures.value;
      rises = c.requires;
    }

pub loop-next-preserved : goal.loop-next-preserved
loop-next-preserved c =
    let n = node_shown c.args.me.now in
    let x = c.args.txn.now in
    let lows = lows_in c.args.me.now.wire in
    let low = c.loop-next.low in
    let e = c.in-Some.next in
    let next = c.in-Some.ensures.next in
    let apart = page_apart x n low c.args.last e.low next.2 next.3 in
    let up : low < e.low = next.2 in
    let one = one_page x n low (e.low - 1) c.loop-next.page (λ k from to. on_page_before lows low c.args.last e.low k next.0 next.3 from (omega (arith, to, up))
    ∙ c.loop-next.invariant.page) in
    let part = rw c.rows-private.ensures.value at c.sum_of_page-sum.ensures in
    record {
      rest = omega (arith, apart, one, part, c.loop-next.invariant.rest);
      page = next.1;
      rises = next.3;
    }

pub returns : goal.returns
returns c =
    let n = node_shown c.args.me.now in
    let x = c.args.txn.now in
    let lows = lows_in c.args.me.now.wire in
    let low = c.loop-next.low in
    let one = one_page x n low c.args.last c.loop-next.page (λ k from to. on_last_page lows low c.args.last k c.in_default.ensures.next from to
    ∙ c.loop-next.invariant.page) in
    let part = rw c.rows-private.ensures.value at c.sum_of_page.ensures in
    omega (arith, one, part, c.loop-next.invariant.rest)
