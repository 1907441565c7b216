use Rattle.std.proofs.Common.{◌<◌, ◌+◌, ◌∙◌, ap, arith, length, sym}
use Rattle.std.proofs.lemmas.Bool.{lt-ltb}
use Rattle.zy_table.specs.Pages.{rows_of}
use Rattle.zy_table.specs.Run.{own_inserts}
use Rattle.zy_table.proofs.RowLists.{length-new}
use Rattle.zy_node.specs.Nodes.{node_shown}
use Rattle.zy_node.specs.Wireframes.{lows_in}
use Rattle.zy_rules.proofs.run.has_room.Goals as goal

pub returns-then-rows-free : goal.returns-then-rows-free
returns-then-rows-free c =
    let x = c.args.me.now in
    let p = c.args.p in
    let few = length-new (lows_in x.wire) p c.args.txn.now.rows (rows_of x.pages p) in
    let all = ap length c.rows-rows.ensures.value in
    let room : length (rows_of x.pages p) + length (own_inserts p (node_shown x) c.args.txn.now) < c.args.scenario.now.cap =
    omega (arith, few, all, c.if-rows-free.true, c.saturating_sub-free.ensures, c.page_len.ensures.value, c.from.ensures, c.cap.ensures.value) in
    lt-ltb _ _ c.if-rows-free.true ∙ sym (lt-ltb _ _ room)
