-- One entry more in a node of level 0.
use Rattle.std.proofs.Common.{◌≡◌, ◌∙◌, ℕ, ◌+◌, ◌<◌, ◌≤◌, List, [], ◌∷◌, ◌++◌, length, get_or, set, sym, ap, subst, arith, inl, inr}
use Rattle.std.specs.List.{insert, All}
use Rattle.std.proofs.lemmas.Bool.{cases_lt, cases_eq}
use Rattle.std.proofs.lemmas.List.{get_or-set_same, get_or-set_other, length-set, get_or_append_left, get_or_at, get_or_read, length_push}
use Rattle.std.proofs.lemmas.List.Edits.{length-insert}
use Rattle.std.proofs.lemmas.List.Elements.{Contains-push}
use Rattle.zy_wire.specs.declared.entry.IndexEntry.{IndexEntry}
use Rattle.zy_wire.specs.ByLow.{IsEntryPlace}
use Rattle.zy_wire.specs.Nodes.{TreeNode, no_node, node, low_of, Fits, IsAt, IsTree}
use Rattle.zy_wire.specs.Pages.{EntryOf, Whole, Has, Holds}
use Rattle.zy_wire.proofs.Entries.{place_some, below_front, Rise-insert, front-insert}
use Rattle.zy_wire.proofs.Spans.{Same, Same-is, Fits-lift, IsAt-back}
use Rattle.zy_wire.proofs.Held.{Keys-push, Keys-insert, Match-push, Match-insert, EntryOf-old, EntryOf-new, last-push}

-- the node with the entry
abbrev pub with : TreeNode → ℕ → IndexEntry → TreeNode
with n at e = record { level = n.level; end = n.end; entries = insert n.entries at e }

-- an entry that has a place in a node of level 0
pub record Enters (nodes : List TreeNode) (id at : ℕ) (e : IndexEntry) : Type 0 where
  pub key : IsAt nodes id e.low
  pub leaf : (node nodes id).level ≡ 0
  pub place : IsEntryPlace e.low (node nodes id).entries at
  pub fresh : All (λ (x : IndexEntry). x.low ≡ e.low → ⊥) (node nodes id).entries

-- each node has the level and the keys that it had before the entry
same_node : (nodes : List TreeNode) (root top id at : ℕ) (e : IndexEntry) → IsTree nodes root top → Enters nodes id at e → (x : ℕ)
    → Same nodes (set nodes id (with (node nodes id) at e)) x
same_node nodes root top id at e t h x =
    let n = node nodes id in
    let fits = t.each id h.key.there in
    let nodes' = set nodes id (with n at e) in
    elim (cases_eq x id) [
      | inl here ↦
          let is : node nodes' id ≡ with n at e = get_or-set_same nodes id (with n at e) no_node h.key.there in
          let some = place_some e.low at n.entries n.end fits.some h.key.low h.place in
          subst (Same nodes nodes') (sym here) (record {
            level = ap (λ (k : TreeNode). k.level) is;
            low = ap (λ (k : TreeNode). low_of k) is ∙ front-insert at e n.entries n.end some fits.some;
            end = ap (λ (k : TreeNode). k.end) is;
          })
      | inr other ↦ Same-is nodes nodes' x (get_or-set_other nodes id x (with n at e) no_node other)
    ]

-- a tree with one entry more in a node of level 0 is a tree with the same root
pub IsTree-entered : (nodes : List TreeNode) (root top id at : ℕ) (e : IndexEntry) → IsTree nodes root top → Enters nodes id at e
    → IsTree (set nodes id (with (node nodes id) at e)) root top
IsTree-entered nodes root top id at e t h =
    let n = node nodes id in
    let fits = t.each id h.key.there in
    let nodes' = set nodes id (with n at e) in
    let more : length nodes' ≡ length nodes = length-set nodes id (with n at e) in
    let same = same_node nodes root top id at e t h in
    let r = same root in
    record {
      there = (let z = t.there in omega arith);
      level = r.level ∙ t.level;
      low = r.low ∙ t.low;
      end = r.end ∙ t.end;
      each = λ x lt. elim (cases_eq x id) [
        | inl here ↦
            let is : node nodes' id ≡ with n at e = get_or-set_same nodes id (with n at e) no_node h.key.there in
            subst (λ y. Fits nodes' (node nodes' y)) (sym here) (subst (Fits nodes') (sym is) (record {
              some = omega (arith, length-insert n.entries at e h.place.0);
              rise = Rise-insert 0 at e n.entries n.end fits.rise h.place.0 (omega arith)
                  (λ j d lt'. let le = h.place.1 j d (omega arith) lt' in let no' = h.fresh j d (let b = h.place.0 in omega arith) in omega arith)
                  (below_front e.low at n.entries n.end h.place h.key.below);
              children = λ up. absurd (let l = h.leaf in omega arith);
            }))
        | inr other ↦
            let is : node nodes' x ≡ node nodes x = get_or-set_other nodes id x (with n at e) no_node other in
            subst (Fits nodes') (sym is) (Fits-lift nodes nodes' (node nodes x) (omega arith) (t.each x (omega arith)) (λ up j d in'. same _))
      ];
      under = λ x lt. (let s = same x in let u = t.under x (omega arith) in omega (arith, s.level));
      once = λ a b k ha hb level.
          let sa = same a in
          let sb = same b in
          t.once a b k (IsAt-back nodes nodes' a k (let z = ha.there in omega arith) sa ha) (IsAt-back nodes nodes' b k (let z = hb.there in omega arith) sb hb)
          (sym sa.level ∙ level ∙ sb.level);
    }

-- a page is found where it was, and the new one at its place
whole_here : (lows : List ℕ) (n : TreeNode) (at : ℕ) (e : IndexEntry) → at ≤ length n.entries → e.to ≡ length lows → Whole lows (low_of n) n.end n.entries
    → Whole (lows ++ e.low ∷ []) (low_of n) n.end (insert n.entries at e)
whole_here lows n at e le last whole = λ p lt low below.
    let more = length_push lows e.low in
    elim (cases_lt p (length lows)) [
      | inl old ↦ (let is = get_or_append_left lows (e.low ∷ []) 0 p old in EntryOf-old at p e n.entries le (whole p old (omega arith) (omega arith)))
      | inr new ↦ (let here : e.to ≡ p = omega arith in subst (EntryOf (insert n.entries at e)) here (EntryOf-new at e n.entries le))
    ]

-- the nodes with the entry of a new page agree with the low keys, of which the new page's is the last
pub Holds-entered : (lows : List ℕ) (nodes : List TreeNode) (root top id at : ℕ) (e : IndexEntry) → IsTree nodes root top → Enters nodes id at e → e.to ≡ length lows
    → Holds lows nodes
    → Holds (lows ++ e.low ∷ []) (set nodes id (with (node nodes id) at e))
Holds-entered lows nodes root top id at e t h last holds = λ x lt.
    let n = node nodes id in
    let fits = t.each id h.key.there in
    let lows' = lows ++ e.low ∷ [] in
    let nodes' = set nodes id (with n at e) in
    let more : length nodes' ≡ length nodes = length-set nodes id (with n at e) in
    let longer : length lows' ≡ length lows + 1 = length_push lows e.low in
    let new : get_or lows' e.to 0 ≡ e.low = get_or_at lows e.low [] 0 e.to (sym last) in
    elim (cases_eq x id) [
      | inl here ↦
          let is : node nodes' id ≡ with n at e = get_or-set_same nodes id (with n at e) no_node h.key.there in
          let was = holds id h.key.there in
          let some = place_some e.low at n.entries n.end fits.some h.key.low h.place in
          subst (λ y. Has lows' (node nodes' y)) (sym here) (subst (Has lows') (sym is) (record {
            keys = Keys-insert lows' at e n.entries (Contains-push lows e.low) (Keys-push lows e.low n.entries was.keys);
            last = last-push lows e.low n.end was.last;
            match = λ leaf. Match-insert lows' at e n.entries (omega arith) new (Match-push lows e.low n.entries (was.match leaf));
            whole = λ leaf. subst (λ from. Whole lows' from n.end (insert n.entries at e)) (sym (front-insert at e n.entries n.end some fits.some))
                (whole_here lows n at e h.place.0 last (was.whole leaf));
          }))
      | inr other ↦
          let is : node nodes' x ≡ node nodes x = get_or-set_other nodes id x (with n at e) no_node other in
          let in' : x < length nodes = omega arith in
          let was = holds x in' in
          subst (Has lows') (sym is) (record {
            keys = Keys-push lows e.low (node nodes x).entries was.keys;
            last = last-push lows e.low (node nodes x).end was.last;
            match = λ leaf. Match-push lows e.low (node nodes x).entries (was.match leaf);
            whole = λ leaf p lt' low below. elim (cases_lt p (length lows)) [
              | inl old ↦ (let same = get_or_append_left lows (e.low ∷ []) 0 p old in was.whole leaf p old (omega arith) (omega arith))
              | inr past ↦
                  let here : p ≡ e.to = omega arith in
                  let same = ap (λ q. get_or lows' q 0) here ∙ new in
                  absurd (other (t.once x id e.low (record { there = in'; low = omega arith; below = omega arith }) h.key (leaf ∙ sym h.leaf)))
            ];
          })
    ]

-- the nodes with the one that has the entry
pub written : (nodes : List TreeNode) (i id at : ℕ) (e : IndexEntry) (x y : TreeNode) → id < length nodes → i ≡ id → x ≡ get_or nodes i x → y ≡ with x at e
    → set nodes i y ≡ set nodes id (with (node nodes id) at e)
written nodes i id at e x y lt here read is =
    let same : x ≡ node nodes id = get_or_read nodes id x lt (rw here at read) no_node in
    rw here (ap (set nodes id) (is ∙ ap (λ n. with n at e) same))
