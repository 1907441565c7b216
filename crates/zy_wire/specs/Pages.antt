-- The pages that the entries of a tree are of.
use Rattle.std.specs.Prelude.{◌≡◌, ℕ, ◌*◌, ◌<◌, ◌≤◌, List, [], ◌∷◌, length, slice_index, slice_index_or, Contains, ◌⊎◌}
use Rattle.zy_wire.specs.declared.entry.IndexEntry.{IndexEntry}
use Rattle.zy_wire.specs.Nodes.{TreeNode, node, low_of, key_end}

-- each low key is that of a page
abbrev pub Keys : List ℕ → List IndexEntry → Type 0
Keys lows [] = Unit {0}
Keys lows (e ∷ es) = Contains lows e.low × Keys lows es

-- each entry has the low key of its page
abbrev pub Match : List ℕ → List IndexEntry → Type 0
Match lows [] = Unit {0}
Match lows (e ∷ es) = (e.to < length lows) × (slice_index lows e.to ≡ e.low) × Match lows es

-- the entry of a page
pub record EntryOf (es : List IndexEntry) (page : ℕ) : Type 0 where
  pub at : ℕ
  pub within : at < length es
  pub is : (d : IndexEntry) → (slice_index_or es at d).to ≡ page

-- each page with a low key from one on and below another has an entry
abbrev pub Whole : List ℕ → ℕ → ℕ → List IndexEntry → Type 0
Whole lows from to es = (p : ℕ) → p < length lows → from ≤ slice_index lows p → slice_index lows p < to → EntryOf es p

-- what a node has to do with the pages
pub record Has (lows : List ℕ) (n : TreeNode) : Type 0 where
  pub keys : Keys lows n.entries
  pub last : (n.end ≡ key_end) ⊎ Contains lows n.end
  pub match : n.level ≡ 0 → Match lows n.entries
  pub whole : n.level ≡ 0 → Whole lows (low_of n) n.end n.entries

abbrev pub Holds : List ℕ → List TreeNode → Type 0
Holds lows nodes = (id : ℕ) → id < length nodes → Has lows (node nodes id)

-- no two pages have one low key
abbrev pub Apart : List ℕ → Type 0
Apart lows = (i j : ℕ) → i < j → j < length lows → slice_index lows i ≡ slice_index lows j → ⊥

-- each low key is a key
abbrev pub Small : List ℕ → Type 0
Small lows = (p : ℕ) → p < length lows → slice_index lows p < key_end

-- pages with these low keys, from page 0 at 0 on, and no more than there may be, with the nodes of a tree over them
pub record IsSound (pages : ℕ) (lows : List ℕ) (nodes : List TreeNode) (top : ℕ) : Type 0 where
  pub holds : Holds lows nodes
  pub apart : Apart lows
  pub small : Small lows
  pub some : 1 ≤ length lows
  pub first : slice_index lows 0 ≡ 0
  pub few : length lows ≤ pages
  pub shallow : top < length lows
  pub sparse : length nodes ≤ length lows * length lows
