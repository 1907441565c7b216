-- Nodes that have the level and the keys that they had.
use Rattle.std.proofs.Common.{◌≡◌, ◌∙◌, ℕ, zero, suc, ◌+◌, ◌<◌, ◌≤◌, List, [], ◌∷◌, length, get_or, take, drop, ap, arith}
use Rattle.std.specs.List.{insert}
use Rattle.zy_wire.specs.declared.entry.IndexEntry.{IndexEntry}
use Rattle.zy_wire.specs.ByLow.{front}
use Rattle.zy_wire.specs.Nodes.{TreeNode, node, low_of, IsChild, Children, Fits, IsAt, Once}
use Rattle.zy_wire.proofs.Entries.{front-insert, front-take, low_from, low_below, Rise-lift}
use Rattle.zy_wire.proofs.Descent.{child_at}

-- a node has the level and the keys that it had
pub record Same (nodes nodes' : List TreeNode) (x : ℕ) : Type 0 where
  pub level : (node nodes' x).level ≡ (node nodes x).level
  pub low : low_of (node nodes' x) ≡ low_of (node nodes x)
  pub end : (node nodes' x).end ≡ (node nodes x).end

-- a node that is what it was has the level and the keys that it had
pub Same-is : (nodes nodes' : List TreeNode) (x : ℕ) → node nodes' x ≡ node nodes x → Same nodes nodes' x
Same-is nodes nodes' x e = record { level = ap (λ (n : TreeNode). n.level) e; low = ap (λ (n : TreeNode). low_of n) e; end = ap (λ (n : TreeNode). n.end) e }

-- a child that has the level and the keys that it had is still a child
pub IsChild-lift : (nodes nodes' : List TreeNode) (above from to id : ℕ) → length nodes ≤ length nodes' → Same nodes nodes' id → IsChild nodes above from to id
    → IsChild nodes' above from to id
IsChild-lift nodes nodes' above from to id more same h =
    record { there = (let t = h.there in omega arith); level = ap (λ n. n + 1) same.level ∙ h.level; low = same.low ∙ h.low; end = same.end ∙ h.end }

-- the same for the children of all entries
pub Children-lift : (nodes nodes' : List TreeNode) (level end : ℕ) (es : List IndexEntry) → length nodes ≤ length nodes'
    → ((j : ℕ) (d : IndexEntry) → j < length es → Same nodes nodes' (get_or es j d).to) → Children nodes level end es → Children nodes' level end es
Children-lift nodes nodes' level end [] more same h = tt
Children-lift nodes nodes' level end (e ∷ es) more same h = (
  IsChild-lift nodes nodes' level e.low (front es end) e.to more (same 0 e (omega arith)) h.0,
  Children-lift nodes nodes' level end es more (λ j d lt. same (suc j) d (omega arith)) h.1,
)

-- the first i entries, and the others
pub Children-take : (nodes : List TreeNode) (level end i : ℕ) (es : List IndexEntry) → Children nodes level end es
    → Children nodes level (front (drop i es) end) (take i es)
Children-take nodes level end zero [] h = tt
Children-take nodes level end (suc i) [] h = tt
Children-take nodes level end zero (e ∷ es) h = tt
Children-take nodes level end (suc i) (e ∷ es) h = (rw (front-take i es end) h.0, Children-take nodes level end i es h.1)

-- the entries from index i on have their children, with the keys that they had
pub Children-drop : (nodes : List TreeNode) (level end i : ℕ) (es : List IndexEntry) → Children nodes level end es → Children nodes level end (drop i es)
Children-drop nodes level end zero [] h = tt
Children-drop nodes level end (suc i) [] h = tt
Children-drop nodes level end zero (e ∷ es) h = h
Children-drop nodes level end (suc i) (e ∷ es) h = Children-drop nodes level end i es h.1

-- one entry more, behind the one whose node was cut
pub Children-insert : (nodes nodes' : List TreeNode) (level end i : ℕ) (d new : IndexEntry) (es : List IndexEntry) → length nodes ≤ length nodes'
    → Children nodes level end es
    → i < length es
    → ((j : ℕ) (d' : IndexEntry) → j < length es → (j ≡ i → ⊥) → Same nodes nodes' (get_or es j d').to)
    → IsChild nodes' level (get_or es i d).low new.low (get_or es i d).to
    → IsChild nodes' level new.low (front (drop (suc i) es) end) new.to
    → Children nodes' level end (insert es (suc i) new)
Children-insert nodes nodes' level end i d new [] more h lt same lower upper = absurd (omega arith)
Children-insert nodes nodes' level end zero d new (e ∷ es) more h lt same lower upper =
    (lower, (upper, Children-lift nodes nodes' level end es more (λ j d' in'. same (suc j) d' (omega arith) (λ z. absurd (omega arith))) h.1))
Children-insert nodes nodes' level end (suc i) d new (e ∷ es) more h lt same lower upper = (
  rw (front-insert (suc i) new es end (omega arith) (omega arith)) (IsChild-lift nodes nodes' level e.low (front es end) e.to more
      (same 0 e (omega arith) (λ z. absurd (omega arith))) h.0),
  Children-insert nodes nodes' level end i d new es more h.1 (omega arith)
      (λ j d' in' other. same (suc j) d' (omega arith) (λ z. other (omega arith))) lower upper,
)

-- the low key of an entry is a key of its node
pub own_low : (nodes : List TreeNode) (x j : ℕ) (d : IndexEntry) → x < length nodes → Fits nodes (node nodes x) → j < length (node nodes x).entries
    → IsAt nodes x (get_or (node nodes x).entries j d).low
own_low nodes x j d there fits lt =
    let n = node nodes x in
    let from = low_from (low_of n) j d n.entries n.end (Rise-lift 0 (low_of n) n.entries n.end fits.rise (omega arith)) lt in
    record { there = there; low = from; below = low_below 0 j d n.entries n.end fits.rise lt }

-- two nodes of a level that have a child of one number are one
pub one_parent : (nodes : List TreeNode) (x y i j : ℕ) (d : IndexEntry) → Once nodes → x < length nodes → y < length nodes → Fits nodes (node nodes x)
    → Fits nodes (node nodes y)
    → 1 ≤ (node nodes x).level → 1 ≤ (node nodes y).level → i < length (node nodes x).entries → j < length (node nodes y).entries
    → (get_or (node nodes x).entries i d).to ≡ (get_or (node nodes y).entries j d).to → x ≡ y
one_parent nodes x y i j d once tx ty fx fy ux uy li lj same =
    let n = node nodes x in
    let m = node nodes y in
    let a = child_at nodes n.level n.end i d n.entries (fx.children ux) li in
    let b = rw (← same) at (child_at nodes m.level m.end j d m.entries (fy.children uy) lj) in
    let lows : (get_or n.entries i d).low ≡ (get_or m.entries j d).low = omega (arith, a.low, b.low) in
    once x y (get_or n.entries i d).low (own_low nodes x i d tx fx li) (rw lows (own_low nodes y j d ty fy lj)) (omega (arith, a.level, b.level))

-- a node whose children have the levels and the keys that they had
pub Fits-lift : (nodes nodes' : List TreeNode) (n : TreeNode) → length nodes ≤ length nodes' → Fits nodes n
    → (1 ≤ n.level → (j : ℕ) (d : IndexEntry) → j < length n.entries → Same nodes nodes' (get_or n.entries j d).to) → Fits nodes' n
Fits-lift nodes nodes' n more fits same = record {
  some = fits.some;
  rise = fits.rise;
  children = λ up. Children-lift nodes nodes' n.level n.end n.entries more (same up) (fits.children up);
}

-- a key is one of a node's if it is one after the change, where the node has the keys that it had
pub IsAt-back : (nodes nodes' : List TreeNode) (x k : ℕ) → x < length nodes → Same nodes nodes' x → IsAt nodes' x k → IsAt nodes x k
IsAt-back nodes nodes' x k there same h = record {
  there = there;
  low = (let l = h.low in omega (arith, same.low));
  below = (let b = h.below in omega (arith, same.end));
}
