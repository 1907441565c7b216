-- The way down from a node to the node below that has a key.
use Rattle.std.proofs.Common.{◌≡◌, ℕ, zero, suc, ◌+◌, ◌<◌, ◌≤◌, List, [], ◌∷◌, length, get_or, drop, ap, add-one, arith}
use Rattle.zy_wire.specs.declared.entry.IndexEntry.{IndexEntry}
use Rattle.zy_wire.specs.ByLow.{front, Leads}
use Rattle.zy_wire.specs.Nodes.{TreeNode, node, IsChild, Children, LeadsTo, Fits, IsAt}
use Rattle.zy_wire.proofs.Entries.{below_front}

-- the entry at an index has a node of the level below, with the keys from its low key up to the next entry
pub child_at : (nodes : List TreeNode) (level end at : ℕ) (d : IndexEntry) (es : List IndexEntry) → Children nodes level end es → at < length es
    → IsChild nodes level (get_or es at d).low (front (drop (suc at) es) end) (get_or es at d).to
child_at nodes level end at d [] h lt = absurd (omega arith)
child_at nodes level end zero d (e ∷ es) h lt = h.0
child_at nodes level end (suc at) d (e ∷ es) h lt = child_at nodes level end at d es h.1 (omega arith)

-- the node below that has a key
pub record Below (nodes : List TreeNode) (n : TreeNode) (id k : ℕ) : Type 0 where
  pub at : IsAt nodes id k
  pub level : (node nodes id).level + 1 ≡ n.level
  pub leads : LeadsTo k n.entries id

-- the last entry whose low key is not above k leads to a node of the level below that has k
pub below : (nodes : List TreeNode) (n : TreeNode) (k : ℕ) (e : IndexEntry) → Fits nodes n → 1 ≤ n.level → k < n.end → Leads k n.entries e → Below nodes n e.to k
below nodes n k e fits up lt l =
    let within : l.at < length n.entries = omega (arith, l.place.0) in
    let child = rw (l.is e) at (child_at nodes n.level n.end l.at e n.entries (fits.children up) within) in
    let under = rw (l.is e) at (l.place.1 l.at e (omega arith) (omega arith)) in
    let next = rw (add-one l.at) at (below_front k (l.at + 1) n.entries n.end l.place lt) in
    record {
      at = record { there = child.there; low = omega (arith, child.low, under); below = omega (arith, child.end, next) };
      level = child.level;
      leads = record { at = l.at; place = l.place; is = λ d. ap (λ e. e.to) (l.is d) };
    }
