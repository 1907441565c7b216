-- The nodes of a tree as everyone sees them.
use Rattle.std.specs.Prelude.{◌≡◌, ℕ, ◌+◌, ◌^◌, ◌<◌, ◌≤◌, List, [], ◌∷◌, length, slice_index_or, take, drop}
use Rattle.zy_isa.specs.Limits.{max_key}
use Rattle.zy_wire.specs.declared.entry.IndexEntry.{IndexEntry}
use Rattle.zy_wire.specs.ByLow.{front, Rise, IsEntryPlace}

-- the least number above every key
abbrev pub key_end : ℕ
key_end = max_key + 1

-- the least number above every level
abbrev pub level_end : ℕ
level_end = 2 ^ 16

-- the least number above that of every node
abbrev pub node_end : ℕ
node_end = 2 ^ 32

-- the least number above that of every page
abbrev pub page_end : ℕ
page_end = 2 ^ 16

-- the most entries of a node
abbrev pub most_entries : ℕ
most_entries = 8

-- how many entries stay where a full node is cut
abbrev pub kept_entries : ℕ
kept_entries = 4

-- a node: its level, the least number above its keys, and its entries
pub record TreeNode : Type 0 where
  pub level : ℕ
  pub end : ℕ
  pub entries : List IndexEntry

-- how many entries there are, at most `most_entries`, which are the first of the cells
pub record IsCells (len : ℕ) (cells : List IndexEntry) : Type 0 where
  pub few : len ≤ most_entries
  pub full : length cells ≡ most_entries

-- no node
unfoldable pub no_node : TreeNode
no_node = record { level = 0; end = 0; entries = [] }

-- the node with a number
abbrev pub node : List TreeNode → ℕ → TreeNode
node nodes id = slice_index_or nodes id no_node

-- what is left of a full node that is cut
abbrev pub lower_half : TreeNode → TreeNode
lower_half n = record n { end = front (drop kept_entries n.entries) n.end; entries = take kept_entries n.entries }

-- and the new node
abbrev pub upper_half : TreeNode → TreeNode
upper_half n = record n { entries = drop kept_entries n.entries }

-- the least key of a node
abbrev pub low_of : TreeNode → ℕ
low_of n = front n.entries n.end

-- the node with this number is of the level below that one, and has exactly the keys from one on and below another
pub record IsChild (nodes : List TreeNode) (above from to id : ℕ) : Type 0 where
  pub there : id < length nodes
  pub level : (node nodes id).level + 1 ≡ above
  pub low : low_of (node nodes id) ≡ from
  pub end : (node nodes id).end ≡ to

-- each entry has a node of the level below, with the keys up to the next entry
abbrev pub Children : List TreeNode → ℕ → ℕ → List IndexEntry → Type 0
Children nodes level end [] = Unit {0}
Children nodes level end (e ∷ es) = IsChild nodes level e.low (front es end) e.to × Children nodes level end es

-- the last entry whose low key is not above k is of the node with this number
pub record LeadsTo (k : ℕ) (es : List IndexEntry) (id : ℕ) : Type 0 where
  pub at : ℕ
  pub place : IsEntryPlace k es (at + 1)
  pub is : (d : IndexEntry) → (slice_index_or es at d).to ≡ id

-- a node among the others
pub record Fits (nodes : List TreeNode) (n : TreeNode) : Type 0 where
  pub some : 1 ≤ length n.entries
  pub rise : Rise 0 n.entries n.end
  pub children : 1 ≤ n.level → Children nodes n.level n.end n.entries

-- a key is one of this node's
pub record IsAt (nodes : List TreeNode) (id k : ℕ) : Type 0 where
  pub there : id < length nodes
  pub low : low_of (node nodes id) ≤ k
  pub below : k < (node nodes id).end

-- a node of level 0 has a key
pub record LeafAt (nodes : List TreeNode) (k : ℕ) (n : TreeNode) : Type 0 where
  pub id : ℕ
  pub at : IsAt nodes id k
  pub is : n ≡ node nodes id
  pub level : n.level ≡ 0
  pub fits : Fits nodes n

-- no two nodes of a level have a key
abbrev pub Once : List TreeNode → Type 0
Once nodes = (a b k : ℕ) → IsAt nodes a k → IsAt nodes b k → (node nodes a).level ≡ (node nodes b).level → a ≡ b

-- nodes that are a tree, with this root, of this level
pub record IsTree (nodes : List TreeNode) (root top : ℕ) : Type 0 where
  pub there : root < length nodes
  pub level : (node nodes root).level ≡ top
  pub low : low_of (node nodes root) ≡ 0
  pub end : (node nodes root).end ≡ key_end
  pub each : (id : ℕ) → id < length nodes → Fits nodes (node nodes id)
  pub under : (id : ℕ) → id < length nodes → (node nodes id).level ≤ top
  pub once : Once nodes

-- a tree: its nodes, the number and the level of its root, and how many more nodes there is memory for
pub record Tree : Type 0 where
  pub nodes : List TreeNode
  pub root : ℕ
  pub top : ℕ
  pub room : ℕ
