-- A full node that is cut, and the entry of its upper half in the node above.
use Rattle.std.proofs.Common.{add-one, ◌≡◌, ◌∙◌, ℕ, suc, ◌+◌, ◌<◌, ◌≤◌, List, [], ◌∷◌, ◌++◌, length, get_or, set, take, drop, refl, sym, ap, subst, arith}
use Rattle.std.proofs.Common.{length-take, length-drop, ◌⊎◌, inl, inr}
use Rattle.std.specs.Prelude.{Contains}
use Rattle.std.specs.List.{insert}
use Rattle.std.proofs.lemmas.Bool.{cases_lt, cases_eq}
use Rattle.std.proofs.lemmas.List.{get_or-set_same, get_or-set_other, length-set, get_or_append_left, get_or_at, get_or_read, length_push}
use Rattle.std.proofs.lemmas.List.Edits.{length-insert}
use Rattle.zy_wire.specs.declared.entry.IndexEntry.{IndexEntry}
use Rattle.zy_wire.specs.ByLow.{front, IsEntryPlace}
use Rattle.zy_wire.specs.Nodes.{most_entries, kept_entries, TreeNode, no_node, node, low_of, IsChild, Children, lower_half, upper_half, LeadsTo, Fits}
use Rattle.zy_wire.specs.Nodes.{IsAt, IsTree}
use Rattle.zy_wire.specs.Pages.{Whole, Has, Holds}
use Rattle.zy_wire.proofs.Entries.{low_rises, low_below, front_drop, front-insert, front-take, Rise-take, Rise-drop, Rise-insert, one_place}
use Rattle.zy_wire.proofs.Descent.{child_at}
use Rattle.zy_wire.proofs.Spans.{Same, Same-is, Children-lift, Children-take, Children-drop, Children-insert, Fits-lift, IsAt-back, one_parent}
use Rattle.zy_wire.proofs.Held.{key_at, Keys-take, Keys-drop, Keys-insert, Match-take, Match-drop, Whole-take, Whole-drop}

-- a full child c of p, that of p's entry i
pub record Full (nodes : List TreeNode) (p c i : ℕ) : Type 0 where
  pub there : p < length nodes
  pub above : 1 ≤ (node nodes p).level
  pub within : i < length (node nodes p).entries
  pub is : (d : IndexEntry) → (get_or (node nodes p).entries i d).to ≡ c
  pub full : length (node nodes c).entries ≡ most_entries

-- where the upper half begins
abbrev pub middle : List TreeNode → ℕ → ℕ
middle nodes c = front (drop kept_entries (node nodes c).entries) (node nodes c).end

-- the node above, with the new entry
abbrev pub widened : List TreeNode → ℕ → ℕ → ℕ → TreeNode
widened nodes p c i = record {
  level = (node nodes p).level;
  end = (node nodes p).end;
  entries = insert (node nodes p).entries (suc i) (record { low = middle nodes c; to = length nodes });
}

-- the nodes afterwards
abbrev pub after : List TreeNode → ℕ → ℕ → ℕ → List TreeNode
after nodes p c i = set (set nodes c (lower_half (node nodes c)) ++ upper_half (node nodes c) ∷ []) p (widened nodes p c i)

-- what is where
pub record Cut (nodes nodes' : List TreeNode) (p c i : ℕ) : Type 0 where
  pub more : length nodes' ≡ length nodes + 1
  pub parent : node nodes' p ≡ widened nodes p c i
  pub lower : node nodes' c ≡ lower_half (node nodes c)
  pub upper : node nodes' (length nodes) ≡ upper_half (node nodes c)
  pub other : (x : ℕ) → x < length nodes → (x ≡ p → ⊥) → (x ≡ c → ⊥) → node nodes' x ≡ node nodes x

-- the middle is above the least key of the child and below its end
pub record Middle (nodes : List TreeNode) (c : ℕ) : Type 0 where
  pub up : low_of (node nodes c) < middle nodes c
  pub down : middle nodes c < (node nodes c).end

-- a full node that fits has its middle between its least key and its end
pub middle_of : (nodes : List TreeNode) (c : ℕ) → Fits nodes (node nodes c) → length (node nodes c).entries ≡ most_entries → Middle nodes c
middle_of nodes c fits full =
    let n = node nodes c in
    let d : IndexEntry = record { low = 0; to = 0 } in
    let mid = front_drop kept_entries d n.entries n.end (omega arith) in
    let first = front_drop 0 d n.entries n.end (omega arith) in
    let up = low_rises 0 0 kept_entries d n.entries n.end fits.rise (omega arith) (omega arith) in
    let down = low_below 0 kept_entries d n.entries n.end fits.rise (omega arith) in
    record { up = omega arith; down = omega arith }

-- what the code writes, one after the other: the child as it is read, its halves, the nodes with the upper one, the entry for it, the node above
pub record Written : Type 0 where
  pub child_index : ℕ
  pub parent_index : ℕ
  pub entry_index : ℕ
  pub child : TreeNode
  pub lower : TreeNode
  pub upper : TreeNode
  pub pushed : List TreeNode
  pub entry : IndexEntry
  pub parent : TreeNode
  pub widened : TreeNode

-- it is written for the child c of p
pub record Writes (nodes : List TreeNode) (p c : ℕ) (x : Written) : Type 0 where
  pub at_c : x.child_index ≡ c
  pub at_p : x.parent_index ≡ p
  pub read_c : x.child ≡ get_or nodes x.child_index x.child
  pub lower : x.lower ≡ lower_half x.child
  pub upper : x.upper ≡ upper_half x.child
  pub push : x.pushed ≡ set nodes x.child_index x.lower ++ x.upper ∷ []
  pub low : x.entry.low ≡ low_of x.upper
  pub to : x.entry.to ≡ length nodes
  pub read_p : x.parent ≡ get_or x.pushed x.parent_index x.parent
  pub wide : x.widened ≡ record {
    level = x.parent.level;
    end = x.parent.end;
    entries = insert x.parent.entries x.entry_index x.entry;
  }

-- c is a full child of the node p of a tree, that of p's entry i.
module _ (nodes : List TreeNode) (root top p c i : ℕ) (t : IsTree nodes root top) (f : Full nodes p c i) where
  -- the child, as the node above knows it
  pub child_of : (d : IndexEntry)
      → IsChild nodes (node nodes p).level (get_or (node nodes p).entries i d).low (front (drop (suc i) (node nodes p).entries) (node nodes p).end) c
  child_of d =
      rw (f.is d) at (child_at nodes (node nodes p).level (node nodes p).end i d (node nodes p).entries ((t.each p f.there).children f.above) f.within)

  -- a full child is not the node above it
  apart : p ≡ c → ⊥
  apart same =
      let child = child_of (record { low = 0; to = 0 }) in
      let level = ap (λ x. (node nodes x).level) same in
      omega (arith, child.level)

  -- the nodes afterwards are those of a cut
  pub Cut-is : Cut nodes (after nodes p c i) p c i
  Cut-is =
      let child = child_of (record { low = 0; to = 0 }) in
      let other = apart in
      let l = lower_half (node nodes c) in
      let u = upper_half (node nodes c) in
      let w = widened nodes p c i in
      let first = set nodes c l in
      let second = first ++ u ∷ [] in
      let one : length first ≡ length nodes = length-set nodes c l in
      let two : length second ≡ length first + 1 = length_push first u in
      let three : length (set second p w) ≡ length second = length-set second p w in
      let lt = f.there in
      let lt' = child.there in
      record {
        more = omega arith;
        parent = get_or-set_same second p w no_node (omega arith);
        lower = get_or-set_other second p c w no_node (λ e. other (sym e)) ∙ (get_or_append_left first (u ∷ []) no_node c (omega arith)
            ∙ get_or-set_same nodes c l no_node child.there);
        upper = get_or-set_other second p (length nodes) w no_node (λ e. absurd (omega arith)) ∙ get_or_at first u [] no_node (length nodes) one;
        other = λ x in' notp notc. get_or-set_other second p x w no_node notp ∙ (get_or_append_left first (u ∷ []) no_node x (omega arith)
            ∙ get_or-set_other nodes c x l no_node notc);
      }

  -- the nodes as they are written are the nodes after a cut
  pub after_is : (x : Written) → x.entry_index ≡ suc i → Writes nodes p c x → set x.pushed x.parent_index x.widened ≡ after nodes p c i
  after_is x place h =
      let child = child_of (record { low = 0; to = 0 }) in
      let other = apart in
      let lower = lower_half (node nodes c) in
      let upper = upper_half (node nodes c) in
      let second = set nodes c lower ++ upper ∷ [] in
      let same : x.child ≡ node nodes c = get_or_read nodes c x.child child.there (rw h.at_c at h.read_c) no_node in
      let isl : x.lower ≡ lower = h.lower ∙ ap (λ n. lower_half n) same in
      let isu : x.upper ≡ upper = h.upper ∙ ap (λ n. upper_half n) same in
      let push : x.pushed ≡ second = rw (isl, isu, h.at_c) at h.push in
      let one : length (set nodes c lower) ≡ length nodes = length-set nodes c lower in
      let two : length second ≡ length (set nodes c lower) + 1 = length_push (set nodes c lower) upper in
      let there = f.there in
      let read : x.parent ≡ get_or second p x.parent = rw (push, h.at_p) at h.read_p in
      let old : x.parent ≡ node nodes p = get_or_read second p x.parent (omega arith) read no_node
      ∙ (get_or_append_left (set nodes c lower) (upper ∷ []) no_node p (omega arith) ∙ get_or-set_other nodes c p lower no_node other) in
      let low : x.entry.low ≡ middle nodes c = h.low ∙ ap (λ n. low_of n) isu in
      let entry : x.entry ≡ record { low = middle nodes c; to = length nodes } = (λ z. record { low = low z; to = h.to z }) in
      let wide : x.widened ≡ widened nodes p c i = rw (old, entry, place) at h.wide in
      rw (push, h.at_p, wide) refl

-- the node that had a key
record Was (nodes nodes' : List TreeNode) (c x k : ℕ) : Type 0 where
  old : ℕ
  at : IsAt nodes old k
  level : (node nodes' x).level ≡ (node nodes old).level
  is : ((x ≡ old) × (x ≡ c → k < middle nodes c)) ⊎ ((x ≡ length nodes) × (old ≡ c) × (middle nodes c ≤ k))

-- two nodes that come from one old node and have one key are the same node
one : (nodes nodes' : List TreeNode) (c a b k : ℕ) (x : Was nodes nodes' c a k) (y : Was nodes nodes' c b k) → x.old ≡ y.old → a ≡ b
one nodes nodes' c a b k x y same =
    elim x.is [
      | inl ox ↦ elim y.is [
        | inl oy ↦ ox.0 ∙ (same ∙ sym oy.0)
        | inr ny ↦ absurd (let lt = ox.1 (ox.0 ∙ (same ∙ ny.1)) in let le = ny.2 in omega arith)
      ]
      | inr nx ↦ elim y.is [
        | inl oy ↦ absurd (let lt = oy.1 (oy.0 ∙ (sym same ∙ nx.1)) in let le = nx.2 in omega arith)
        | inr ny ↦ nx.0 ∙ sym ny.0
      ]
    ]

-- The tree's nodes are cut there.
module _ (nodes nodes' : List TreeNode) (root top p c i : ℕ) (t : IsTree nodes root top) (f : Full nodes p c i) (k : Cut nodes nodes' p c i) where
  -- every node but the one that is cut has the level and the keys that it had
  kept : (x : ℕ) → x < length nodes → (x ≡ c → ⊥) → Same nodes nodes' x
  kept x lt notc =
      let n = node nodes p in
      elim (cases_eq x p) [
        | inl here ↦ subst (Same nodes nodes') (sym here) (record {
          level = ap (λ (m : TreeNode). m.level) k.parent;
          low = ap (λ (m : TreeNode). low_of m) k.parent
              ∙ front-insert (suc i) (record { low = middle nodes c; to = length nodes }) n.entries n.end (omega arith) (let w = f.within in omega arith);
          end = ap (λ (m : TreeNode). m.end) k.parent;
        })
        | inr notp ↦ Same-is nodes nodes' x (k.other x lt notp notc)
      ]

  -- the halves, as the node above knows them
  lower_child : (d : IndexEntry) → IsChild nodes' (node nodes p).level (get_or (node nodes p).entries i d).low (middle nodes c) c
  lower_child d =
      let child = child_of nodes root top p c i t f d in
      record {
        there = (let z = child.there in let m = k.more in omega arith);
        level = ap (λ (m : TreeNode). m.level + 1) k.lower ∙ child.level;
        low = ap (λ (m : TreeNode). low_of m) k.lower ∙ (front-take kept_entries (node nodes c).entries (node nodes c).end ∙ child.low);
        end = ap (λ (m : TreeNode). m.end) k.lower;
      }

  -- the same for the upper half, which is the new node
  upper_child : (d : IndexEntry)
      → IsChild nodes' (node nodes p).level (middle nodes c) (front (drop (suc i) (node nodes p).entries) (node nodes p).end) (length nodes)
  upper_child d =
      let child = child_of nodes root top p c i t f d in
      record {
        there = (let m = k.more in omega arith);
        level = ap (λ (m : TreeNode). m.level + 1) k.upper ∙ child.level;
        low = ap (λ (m : TreeNode). low_of m) k.upper;
        end = ap (λ (m : TreeNode). m.end) k.upper ∙ child.end;
      }

  -- the node above fits
  parent_fits : Fits nodes' (widened nodes p c i)
  parent_fits =
      let d : IndexEntry = record { low = 0; to = 0 } in
      let n = node nodes p in
      let fits = t.each p f.there in
      let child = child_of nodes root top p c i t f d in
      let m = middle_of nodes c (t.each c child.there) f.full in
      let new : IndexEntry = record { low = middle nodes c; to = length nodes } in
      let more = k.more in
      let in' = f.within in
      record {
        some = omega (arith, length-insert n.entries (suc i) new (omega arith));
        rise = Rise-insert 0 (suc i) new n.entries n.end fits.rise (omega arith) (omega arith)
            (λ j d' lt.
            let here = child_of nodes root top p c i t f d' in
            let low : (get_or n.entries i d').low < middle nodes c = omega (arith, here.low, m.up) in
            elim (cases_lt j i) [
              | inl before ↦ (let r = low_rises 0 j i d' n.entries n.end fits.rise before in' in omega arith)
              | inr past ↦ (let same : j ≡ i = omega arith in let e = ap (λ z. (get_or n.entries z d').low) same in omega arith)
            ])
            (omega (arith, child.end, m.down));
        children = λ up. Children-insert nodes nodes' n.level n.end i d new n.entries (omega arith) (fits.children up) in'
            (λ j d' lt not.
            let at = child_at nodes n.level n.end j d' n.entries (fits.children up) lt in
            kept (get_or n.entries j d').to at.there (λ same.
            let here = child_of nodes root top p c i t f d' in
            let lows : low_of (node nodes (get_or n.entries j d').to) ≡ low_of (node nodes c) = ap (λ z. low_of (node nodes z)) same in
            elim (cases_lt j i) [
              | inl before ↦ absurd (let r = low_rises 0 j i d' n.entries n.end fits.rise before in' in omega (arith, at.low, here.low))
              | inr past ↦ elim (cases_lt i j) [
                | inl behind ↦ absurd (let r = low_rises 0 i j d' n.entries n.end fits.rise behind lt in omega (arith, at.low, here.low))
                | inr both ↦ not (omega arith)
              ]
            ]))
            (rw (f.is d) (lower_child d))
            (upper_child d);
      }

  -- the children of the node that is cut are not itself
  child_kept : c < length nodes → 1 ≤ (node nodes c).level → Children nodes' (node nodes c).level (node nodes c).end (node nodes c).entries
  child_kept there up =
      let n = node nodes c in
      let children = (t.each c there).children up in
      Children-lift nodes nodes' n.level n.end n.entries (let m = k.more in omega arith)
      (λ j d lt.
      let at = child_at nodes n.level n.end j d n.entries children lt in
      kept (get_or n.entries j d).to at.there (λ same. let e = ap (λ x. (node nodes x).level) same in omega (arith, at.level)))
      children

  -- the lower half fits among the nodes afterwards
  lower_fits : c < length nodes → Fits nodes' (lower_half (node nodes c))
  lower_fits there =
      let n = node nodes c in
      record {
        some = omega (arith, length-take kept_entries n.entries, f.full);
        rise = Rise-take 0 kept_entries n.entries n.end (t.each c there).rise;
        children = λ up. Children-take nodes' n.level n.end kept_entries n.entries (child_kept there up);
      }

  -- the same for the upper half
  upper_fits : c < length nodes → Fits nodes' (upper_half (node nodes c))
  upper_fits there =
      let n = node nodes c in
      record {
        some = omega (arith, length-drop kept_entries n.entries, f.full);
        rise = Rise-drop 0 kept_entries n.entries n.end (t.each c there).rise;
        children = λ up. Children-drop nodes' n.level n.end kept_entries n.entries (child_kept there up);
      }

  -- the children of the others are kept: none is the node that is cut
  other_fits : (x : ℕ) → x < length nodes → (x ≡ p → ⊥) → Fits nodes' (node nodes x)
  other_fits x there notp =
      let n = node nodes x in
      Fits-lift nodes nodes' n (let m = k.more in omega arith) (t.each x there)
      (λ up j d lt.
      let at = child_at nodes n.level n.end j d n.entries ((t.each x there).children up) lt in
      kept (get_or n.entries j d).to at.there (λ same.
      notp (one_parent nodes x p j i d t.once there f.there (t.each x there) (t.each p f.there) up f.above lt f.within (same ∙ sym (f.is d)))))

  -- each node that has a key after the cut comes from one that had it before
  was : (x key : ℕ) → IsAt nodes' x key → Was nodes nodes' c x key
  was x key h =
      let d : IndexEntry = record { low = 0; to = 0 } in
      let child = child_of nodes root top p c i t f d in
      let m = middle_of nodes c (t.each c child.there) f.full in
      let there = child.there in
      elim (cases_lt x (length nodes)) [
        | inl lt ↦ elim (cases_eq x c) [
          | inl here ↦
              let level = ap (λ (n : TreeNode). n.level) (ap (λ y. node nodes' y) here ∙ k.lower) in
              let low : low_of (node nodes' x) ≡ low_of (node nodes c) = ap (λ (n : TreeNode). low_of n) (ap (λ y. node nodes' y) here ∙ k.lower)
              ∙ front-take kept_entries (node nodes c).entries (node nodes c).end in
              let end : (node nodes' x).end ≡ middle nodes c = ap (λ (n : TreeNode). n.end) (ap (λ y. node nodes' y) here ∙ k.lower) in
              let under : key < middle nodes c = (let b = h.below in omega arith) in
              record {
                old = c;
                at = record { there = there; low = (let l = h.low in omega arith); below = omega (arith, m.down) };
                level = level;
                is = inl (here, (λ z. under));
              }
          | inr notc ↦
              let same = kept x lt notc in
              record { old = x; at = IsAt-back nodes nodes' x key lt same h; level = same.level; is = inl (refl, (λ z. absurd (notc z))) }
        ]
        | inr past ↦
            let more = k.more in
            let here : x ≡ length nodes = (let l = h.there in omega arith) in
            let is : node nodes' x ≡ upper_half (node nodes c) = ap (λ y. node nodes' y) here ∙ k.upper in
            let low : low_of (node nodes' x) ≡ middle nodes c = ap (λ (n : TreeNode). low_of n) is in
            let end : (node nodes' x).end ≡ (node nodes c).end = ap (λ (n : TreeNode). n.end) is in
            let over : middle nodes c ≤ key = (let l = h.low in omega arith) in
            record {
              old = c;
              at = record { there = there; low = omega (arith, m.up); below = (let b = h.below in omega arith) };
              level = ap (λ (n : TreeNode). n.level) is;
              is = inr (here, refl, over);
            }
      ]

  -- a tree of which a full node is cut is a tree with the same root
  pub IsTree-cut : IsTree nodes' root top
  IsTree-cut =
      let d : IndexEntry = record { low = 0; to = 0 } in
      let child = child_of nodes root top p c i t f d in
      let more = k.more in
      let there = child.there in
      let notroot : root ≡ c → ⊥ = λ same. (let l = ap (λ x. (node nodes x).level) same in let u = t.under p f.there in let r = t.level in
      omega (arith, child.level)) in
      let r = kept root t.there notroot in
      record {
        there = (let z = t.there in omega arith);
        level = r.level ∙ t.level;
        low = r.low ∙ t.low;
        end = r.end ∙ t.end;
        each = λ x lt. elim (cases_lt x (length nodes)) [
          | inl old ↦ elim (cases_eq x p) [
            | inl here ↦ subst (λ y. Fits nodes' (node nodes' y)) (sym here) (subst (Fits nodes') (sym k.parent) (parent_fits))
            | inr notp ↦ elim (cases_eq x c) [
              | inl here ↦
                  subst (λ y. Fits nodes' (node nodes' y)) (sym here) (subst (Fits nodes') (sym k.lower) (lower_fits there))
              | inr notc ↦ subst (Fits nodes') (sym (k.other x old notp notc)) (other_fits x old notp)
            ]
          ]
          | inr past ↦
              let here : x ≡ length nodes = omega arith in
              subst (λ y. Fits nodes' (node nodes' y)) (sym here) (subst (Fits nodes') (sym k.upper) (upper_fits there))
        ];
        under = λ x lt. elim (cases_lt x (length nodes)) [
          | inl old ↦ elim (cases_eq x c) [
            | inl here ↦ (let l = ap (λ (n : TreeNode). n.level) (ap (λ y. node nodes' y) here ∙ k.lower) in let u = t.under c there in omega arith)
            | inr notc ↦ (let s = kept x old notc in let u = t.under x old in omega (arith, s.level))
          ]
          | inr past ↦
              let here : x ≡ length nodes = omega arith in
              let l = ap (λ (n : TreeNode). n.level) (ap (λ y. node nodes' y) here ∙ k.upper) in
              let u = t.under c there in
              omega arith
        ];
        once = λ a b key ha hb level.
            let x = was a key ha in
            let y = was b key hb in
            one nodes nodes' c a b key x y (t.once x.old y.old key x.at y.at (sym x.level ∙ (level ∙ y.level)));
      }

  -- the nodes after a cut agree with the low keys of the pages as they did before
  pub Holds-cut : (lows : List ℕ) → Holds lows nodes → Holds lows nodes'
  Holds-cut lows holds = λ x lt.
      let d : IndexEntry = record { low = 0; to = 0 } in
      let child = child_of nodes root top p c i t f d in
      let more = k.more in
      let n = node nodes c in
      let fits = t.each c child.there in
      let m = middle_of nodes c fits f.full in
      let had = holds c child.there in
      let five : kept_entries < length n.entries = omega (arith, f.full) in
      let key : Contains lows (middle nodes c) = subst (Contains lows) (sym (front_drop kept_entries d n.entries n.end five)) (key_at lows kept_entries d n.entries had.keys five) in
      elim (cases_lt x (length nodes)) [
        | inl old ↦ elim (cases_eq x p) [
          | inl here ↦
              let hp = holds p f.there in
              subst (λ y. Has lows (node nodes' y)) (sym here) (subst (Has lows) (sym k.parent) (record {
                keys = Keys-insert lows (suc i) (record { low = middle nodes c; to = length nodes }) (node nodes p).entries key hp.keys;
                last = hp.last;
                match = λ leaf. absurd (let up = f.above in omega arith);
                whole = λ leaf. absurd (let up = f.above in omega arith);
              }))
          | inr notp ↦ elim (cases_eq x c) [
            | inl here ↦ subst (λ y. Has lows (node nodes' y)) (sym here) (subst (Has lows) (sym k.lower) (record {
              keys = Keys-take lows kept_entries n.entries had.keys;
              last = inr key;
              match = λ leaf. Match-take lows kept_entries n.entries (had.match leaf);
              whole = λ leaf. subst (λ from. Whole lows from (middle nodes c) (take kept_entries n.entries)) (sym (front-take kept_entries n.entries n.end))
                  (Whole-take lows (low_of n) n.end kept_entries n.entries fits.rise five (had.match leaf) (omega (arith, m.down)) (had.whole leaf));
            }))
            | inr notc ↦ subst (Has lows) (sym (k.other x old notp notc)) (holds x old)
          ]
        ]
        | inr past ↦
            let here : x ≡ length nodes = omega arith in
            subst (λ y. Has lows (node nodes' y)) (sym here) (subst (Has lows) (sym k.upper) (record {
              keys = Keys-drop lows kept_entries n.entries had.keys;
              last = had.last;
              match = λ leaf. Match-drop lows kept_entries n.entries (had.match leaf);
              whole = λ leaf. Whole-drop lows (low_of n) n.end kept_entries n.entries fits.rise five (had.match leaf) (omega (arith, m.up)) (had.whole leaf);
            }))
      ]

-- what is known before the nodes are written
pub record Ready (nodes : List TreeNode) (root top p c k : ℕ) : Type 0 where
  pub tree : IsTree nodes root top
  pub at : IsAt nodes p k
  pub above : 1 ≤ (node nodes p).level
  pub leads : LeadsTo k (node nodes p).entries c
  pub full : length (node nodes c).entries ≡ most_entries

-- A node is ready to be cut.
module _ (nodes : List TreeNode) (root top p c k : ℕ) (r : Ready nodes root top p c k) where
  -- a node that is ready to be cut is a full child of the node above it
  pub full_of : Full nodes p c r.leads.at
  full_of = record {
    there = r.at.there;
    above = r.above;
    within = (let w = r.leads.place.0 in omega arith);
    is = r.leads.is;
    full = r.full;
  }

  -- a node that is ready to be cut is among the nodes
  pub child_there : c < length nodes
  child_there = (child_of nodes root top p c r.leads.at r.tree full_of (record { low = 0; to = 0 })).there

  -- a node that is ready to be cut has its most entries as it is read
  pub child_full : (at : ℕ) (x : TreeNode) → at ≡ c → x ≡ get_or nodes at x → length x.entries ≡ most_entries
  child_full at x here read =
      let same : x ≡ node nodes c = get_or_read nodes c x child_there (rw here at read) no_node in
      ap (λ (n : TreeNode). length n.entries) same ∙ r.full

  -- the nodes as they are written are those of a cut
  pub Cut-made : (x : Written) → IsEntryPlace k (node nodes p).entries x.entry_index → Writes nodes p c x
      → Cut nodes (set x.pushed x.parent_index x.widened) p c r.leads.at
  Cut-made x placed h =
      let i = r.leads.at in
      let place : x.entry_index ≡ suc i = one_place k x.entry_index (i + 1) (node nodes p).entries placed r.leads.place ∙ add-one i in
      rw (after_is nodes root top p c i r.tree full_of x place h) (Cut-is nodes root top p c i r.tree full_of)
