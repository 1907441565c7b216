-- What a node of level 0 says of the pages.
use Rattle.std.proofs.Common.{◌≡◌, ℕ, ◌+◌, ◌<◌, ◌≤◌, List, length, get_or, drop, sym, ap, subst, None, Some, arith, ◌⊎◌, inl, inr}
use Rattle.std.specs.Prelude.{Contains}
use Rattle.std.proofs.lemmas.Bool.{cases_lt, cases_order}
use Rattle.zy_wire.specs.declared.entry.IndexEntry.{IndexEntry}
use Rattle.zy_wire.specs.ByLow.{front, Rise, IsEntryPlace, Leads}
use Rattle.zy_wire.specs.Nodes.{TreeNode, low_of, LeafAt, key_end}
use Rattle.zy_wire.specs.Pages.{Apart, Small, EntryOf, Has, Holds}
use Rattle.zy_model.specs.Wireframe.{page_of, IsNextLow}
use Rattle.zy_model.proofs.PageOf.{page_of-is}
use Rattle.zy_wire.proofs.Entries.{low_from, low_rises, front_drop, front_past, front_end, below_front, Rise-lift, Rise-drop}
use Rattle.zy_wire.proofs.Held.{match_at, key_at, low_of_entry}

-- a node of level 0 that has a key
pub record Leaf (lows : List ℕ) (n : TreeNode) (k : ℕ) : Type 0 where
  pub has : Has lows n
  pub level : n.level ≡ 0
  pub rise : Rise 0 n.entries n.end
  pub low : low_of n ≤ k
  pub below : k < n.end

-- a node of level 0 that has a key agrees with the pages where all nodes do
pub leaf_of : (lows : List ℕ) (nodes : List TreeNode) (k : ℕ) (n : TreeNode) → Holds lows nodes → LeafAt nodes k n → Leaf lows n k
leaf_of lows nodes k n holds l = record {
  has = subst (Has lows) (sym l.is) (holds l.id l.at.there);
  level = l.level;
  rise = l.fits.rise;
  low = rw l.is l.at.low;
  below = rw l.is l.at.below;
}

-- the page that an entry is of
pub record PageAt (lows : List ℕ) (k p : ℕ) : Type 0 where
  pub within : p < length lows
  pub under : get_or lows p 0 ≤ k
  pub is : page_of lows k ≡ p

-- a low key not above the entry's key is no later than the entry
no_later : (lows : List ℕ) (n : TreeNode) (k at q : ℕ) (d : IndexEntry) → Leaf lows n k → IsEntryPlace k n.entries (at + 1) → (e : EntryOf n.entries q)
    → get_or lows q 0 ≤ k
    → get_or lows q 0 ≤ (get_or n.entries at d).low
no_later lows n k at q d l place e le =
    let is = low_of_entry lows n.entries q d e (l.has.match l.level) in
    elim (cases_order e.at at) [
      | inl same ↦ (let here = ap (λ j. (get_or n.entries j d).low) same in omega arith)
      | inr (inl before) ↦ (let up = low_rises 0 e.at at d n.entries n.end l.rise before (omega (arith, place.0)) in omega arith)
      | inr (inr past) ↦ absurd (let over = place.2 e.at d (omega arith) e.within in omega arith)
    ]

-- the last entry whose low key is not above k is of the page that k lies on
pub page_at : (lows : List ℕ) (n : TreeNode) (k : ℕ) (e : IndexEntry) → Apart lows → Leaf lows n k → Leads k n.entries e → PageAt lows k e.to
page_at lows n k e apart l leads =
    let d = leads.is e in
    let within : leads.at < length n.entries = omega (arith, leads.place.0) in
    let m = rw d at (match_at lows n.entries leads.at e (l.has.match l.level) within) in
    let under = rw d at (leads.place.1 leads.at e (omega arith) (omega arith)) in
    let first = rw d at (low_from (low_of n) leads.at e n.entries n.end (Rise-lift 0 (low_of n) n.entries n.end l.rise (omega arith)) within) in
    let here : get_or lows e.to 0 ≡ e.low = m.1 in
    let le : get_or lows e.to 0 ≤ k = omega arith in
    let lt = l.below in
    record {
      within = m.0;
      under = le;
      is = page_of-is lows k e.to m.0 le
          (λ q in' low. elim (cases_lt (get_or lows q 0) (low_of n)) [
            | inl below ↦ omega arith
            | inr above ↦ (let most = rw d at (no_later lows n k leads.at q e l leads.place (l.has.whole l.level q in' above (omega arith)) low) in omega arith)
          ])
          (λ q before same. apart q e.to before m.0 same);
    }

-- the least low key above a key, or a number above all of them
pub record Next (lows : List ℕ) (k end : ℕ) : Type 0 where
  pub over : k < end
  pub key : (end ≡ key_end) ⊎ Contains lows end
  pub least : (q : ℕ) → q < length lows → k < get_or lows q 0 → end ≤ get_or lows q 0

-- the first low key behind the place of k is the least low key above k, or the node's end
pub next_at : (lows : List ℕ) (n : TreeNode) (k i : ℕ) → Leaf lows n k → IsEntryPlace k n.entries i → Next lows k (front (drop i n.entries) n.end)
next_at lows n k i l place =
    let d : IndexEntry = record { low = 0; to = 0 } in
    let most = front_end 0 (drop i n.entries) n.end (Rise-drop 0 i n.entries n.end l.rise) in
    record {
      over = below_front k i n.entries n.end place l.below;
      key = elim (cases_lt i (length n.entries)) [
        | inl lt ↦ inr (rw (front_drop i d n.entries n.end lt) (key_at lows i d n.entries l.has.keys lt))
        | inr past ↦ rw (front_past i n.entries n.end past) l.has.last
      ];
      least = λ q in' up. elim (cases_lt (get_or lows q 0) n.end) [
        | inl below ↦
            let e = l.has.whole l.level q in' (let low = l.low in omega arith) below in
            let is = low_of_entry lows n.entries q d e (l.has.match l.level) in
            elim (cases_order i e.at) [
              | inl same ↦ (let first = front_drop i d n.entries n.end (let w = e.within in omega arith) in
                  let here = ap (λ j. (get_or n.entries j d).low) same in omega arith)
              | inr (inl before) ↦ (let first = front_drop i d n.entries n.end (let w = e.within in omega arith) in
                  let r = low_rises 0 i e.at d n.entries n.end l.rise before e.within in omega arith)
              | inr (inr past) ↦ absurd (let under = place.1 e.at d (omega arith) past in omega arith)
            ]
        | inr above ↦ omega arith
      ];
    }

-- where that number is a key, it is the least low key above k
pub next_some : (lows : List ℕ) (k end : ℕ) → Next lows k end → end < key_end → IsNextLow lows k (Some end)
next_some lows k end next lt =
    let key : Contains lows end = elim next.key [ inl none ↦ absurd (omega arith) | inr key ↦ key ] in
    (key, next.over, next.least)

-- where that number is above all keys, no low key is above k
pub next_none : (lows : List ℕ) (k end : ℕ) → Small lows → Next lows k end → key_end ≤ end → IsNextLow lows k None
next_none lows k end small next le = λ q in'. elim (cases_lt k (get_or lows q 0)) [
  | inl up ↦ absurd (let least = next.least q in' up in let s = small q in' in omega arith)
  | inr down ↦ down
]
