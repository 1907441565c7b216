use Rattle.std.proofs.Common.{ap, ◌∙◌, length-drop, arith, rules}
use Rattle.zy_wire.specs.declared.entry.IndexEntry.{IndexEntry}
use Rattle.zy_wire.specs.Nodes.{kept_entries}
use Rattle.zy_wire.proofs.Cut.{Ready, full_of, child_there, child_full, Written, Writes, Cut-made, IsTree-cut, Holds-cut}
use Rattle.zy_wire.proofs.tree.Tree.cut.Goals as goal

pub index_mut-requires : goal.index_mut-requires
index_mut-requires c =
    let was = rw (← c.self.view_is) at c.requires in
    let r : Ready c.self.inside.nodes.items c.self.inside.root.0 c.self.inside.top c.args.parent.0 c.args.child.0 c.args.key =
    record { tree = c.self.invariant; at = was.at; above = was.above; leads = was.leads; full = was.full } in
    let there = child_there _ _ _ _ _ _ r in
    let len = c.self.inside.nodes.ok.0 in
    omega arith

pub cut-upper-requires : goal.cut-upper-requires
cut-upper-requires c =
    let was = rw (← c.self.view_is) at c.requires in
    let r : Ready c.self.inside.nodes.items c.self.inside.root.0 c.self.inside.top c.args.parent.0 c.args.child.0 c.args.key =
    record { tree = c.self.invariant; at = was.at; above = was.above; leads = was.leads; full = was.full } in
    child_full _ _ _ _ _ _ r c.index.result c.index_mut.result.now c.index.ensures c.index_mut.ensures.value

pub low-low-requires : goal.low-low-requires
low-low-requires c =
    let was = rw (← c.self.view_is) at c.requires in
    let r : Ready c.self.inside.nodes.items c.self.inside.root.0 c.self.inside.top c.args.parent.0 c.args.child.0 c.args.key =
    record { tree = c.self.invariant; at = was.at; above = was.above; leads = was.leads; full = was.full } in
    let full = child_full _ _ _ _ _ _ r c.index.result c.index_mut.result.now c.index.ensures c.index_mut.ensures.value in
    rw c.cut-upper.ensures.upper (omega (arith, length-drop kept_entries c.index_mut.result.now.entries))

pub invariant_of-self : goal.invariant_of-self
invariant_of-self c =
    let was = rw (← c.self.view_is) at c.requires in
    let nodes = c.self.inside.nodes.items in
    let r : Ready nodes c.self.inside.root.0 c.self.inside.top c.args.parent.0 c.args.child.0 c.args.key =
    record { tree = c.self.invariant; at = was.at; above = was.above; leads = was.leads; full = was.full } in
    let placed = rw (c.node.ensures.value, ← c.self.view_is) at c.place-at.ensures in
    let written : Written = record {
      child_index = c.index.result;
      parent_index = c.index-2.result;
      entry_index = c.place-at.result;
      child = c.index_mut.result.now;
      lower = c.cut-upper.new.self;
      upper = c.cut-upper.result;
      pushed = c.push_reserved.new.self.items;
      entry = c.of_node.result;
      parent = c.index_mut-2.result.now;
      widened = c.insert.new.self;
    } in
    let writes : Writes nodes c.args.parent.0 c.args.child.0 written = record {
      at_c = c.index.ensures;
      at_p = c.index-2.ensures;
      read_c = c.index_mut.ensures.value;
      lower = c.cut-upper.ensures.lower;
      upper = c.cut-upper.ensures.upper;
      push = c.push_reserved.ensures.items;
      low = ap (λ (e : IndexEntry). e.low) c.of_node.ensures ∙ c.low-low.ensures;
      to = ap (λ (e : IndexEntry). e.to) c.of_node.ensures ∙ (c.len.ensures ∙ c.self.inside.nodes.ok.0);
      read_p = c.index_mut-2.ensures.value;
      wide = c.insert.ensures;
    } in
    IsTree-cut _ _ _ _ _ _ _ c.self.invariant (full_of _ _ _ _ _ _ r) (Cut-made _ _ _ _ _ _ r written placed writes)

pub returns : goal.returns
returns c =
    let was = rw (← c.self.view_is) at c.requires in
    let nodes = c.self.inside.nodes.items in
    let r : Ready nodes c.self.inside.root.0 c.self.inside.top c.args.parent.0 c.args.child.0 c.args.key =
    record { tree = c.self.invariant; at = was.at; above = was.above; leads = was.leads; full = was.full } in
    let placed = rw (c.node.ensures.value, ← c.self.view_is) at c.place-at.ensures in
    let written : Written = record {
      child_index = c.index.result;
      parent_index = c.index-2.result;
      entry_index = c.place-at.result;
      child = c.index_mut.result.now;
      lower = c.cut-upper.new.self;
      upper = c.cut-upper.result;
      pushed = c.push_reserved.new.self.items;
      entry = c.of_node.result;
      parent = c.index_mut-2.result.now;
      widened = c.insert.new.self;
    } in
    let writes : Writes nodes c.args.parent.0 c.args.child.0 written = record {
      at_c = c.index.ensures;
      at_p = c.index-2.ensures;
      read_c = c.index_mut.ensures.value;
      lower = c.cut-upper.ensures.lower;
      upper = c.cut-upper.ensures.upper;
      push = c.push_reserved.ensures.items;
      low = ap (λ (e : IndexEntry). e.low) c.of_node.ensures ∙ c.low-low.ensures;
      to = ap (λ (e : IndexEntry). e.to) c.of_node.ensures ∙ (c.len.ensures ∙ c.self.inside.nodes.ok.0);
      read_p = c.index_mut-2.ensures.value;
      wide = c.insert.ensures;
    } in
    let made = Cut-made _ _ _ _ _ _ r written placed writes in
    rw (← c.self.view_is) (record {
      number = c.len.ensures ∙ c.self.inside.nodes.ok.0;
      lower = made.lower;
      upper = rw (c.len.ensures, c.self.inside.nodes.ok.0) made.upper;
      top = search rules;
      nodes = made.more;
      room = search rules;
      holds = Holds-cut _ _ _ _ _ _ _ c.self.invariant (full_of _ _ _ _ _ _ r) made;
    })
