-- A new root above the old one.
use Rattle.std.proofs.Common.{◌≡◌, ◌∙◌, ℕ, ◌+◌, ◌<◌, List, [], ◌∷◌, ◌++◌, length, refl, sym, ap, subst, arith, inl, inr}
use Rattle.std.specs.Prelude.{Contains}
use Rattle.std.proofs.lemmas.Bool.{cases_lt}
use Rattle.std.proofs.lemmas.List.{get_or_append_left, get_or_at, length_push}
use Rattle.zy_wire.specs.declared.entry.IndexEntry.{IndexEntry}
use Rattle.zy_wire.specs.Nodes.{TreeNode, no_node, node, low_of, Fits, IsTree, key_end}
use Rattle.zy_wire.specs.Pages.{Has, Holds}
use Rattle.zy_wire.proofs.Entries.{front_drop}
use Rattle.zy_wire.proofs.Descent.{child_at}
use Rattle.zy_wire.proofs.Spans.{Same, Same-is, Fits-lift, IsAt-back}
use Rattle.zy_wire.proofs.Held.{key_at}

-- the new root
abbrev pub above : ℕ → ℕ → TreeNode
above root top = record { level = top + 1; end = key_end; entries = record { low = 0; to = root } ∷ [] }

-- a node is what it was when one more is put behind the others
old_node : (nodes : List TreeNode) (n : TreeNode) (x : ℕ) → x < length nodes → node (nodes ++ n ∷ []) x ≡ node nodes x
old_node nodes n x lt = get_or_append_left nodes (n ∷ []) no_node x lt

-- the last node is the one that is put behind the others
new_node : (nodes : List TreeNode) (n : TreeNode) → node (nodes ++ n ∷ []) (length nodes) ≡ n
new_node nodes n = get_or_at nodes n [] no_node (length nodes) refl

-- a tree with a new root above its old one is a tree, with one level more
pub IsTree-raised : (nodes : List TreeNode) (root top : ℕ) → IsTree nodes root top → IsTree (nodes ++ above root top ∷ []) (length nodes) (top + 1)
IsTree-raised nodes root top t =
    let n = above root top in
    let nodes' = nodes ++ n ∷ [] in
    let more : length nodes' ≡ length nodes + 1 = length_push nodes n in
    let last : node nodes' (length nodes) ≡ n = new_node nodes n in
    let same : (x : ℕ) → x < length nodes → Same nodes nodes' x = λ x lt. Same-is nodes nodes' x (old_node nodes n x lt) in
    record {
      there = omega arith;
      level = ap (λ (k : TreeNode). k.level) last;
      low = ap (λ (k : TreeNode). low_of k) last;
      end = ap (λ (k : TreeNode). k.end) last;
      each = λ id lt. elim (cases_lt id (length nodes)) [
        | inl old ↦ subst (Fits nodes') (sym (old_node nodes n id old))
            (Fits-lift nodes nodes' (node nodes id) (omega arith) (t.each id old)
            (λ up j d in'. same _ (child_at nodes _ _ j d _ ((t.each id old).children up) in').there))
        | inr past ↦
            let here : id ≡ length nodes = omega arith in
            let r = same root t.there in
            subst (λ x. Fits nodes' (node nodes' x)) (sym here) (subst (Fits nodes') (sym last) (record {
              some = omega arith;
              rise = (omega arith, omega arith);
              children =
                  λ up. (
                    record {
                      there = (let h = t.there in omega arith);
                      level = ap (λ z. z + 1) (r.level ∙ t.level);
                      low = r.low ∙ t.low;
                      end = r.end ∙ t.end;
                    },
                    tt,
                  );
            }))
      ];
      under = λ id lt. elim (cases_lt id (length nodes)) [
        | inl old ↦ (let s = same id old in let u = t.under id old in omega (arith, s.level))
        | inr past ↦ (let here : id ≡ length nodes = omega arith in let l = ap (λ (k : TreeNode). k.level) (ap (λ x. node nodes' x) here ∙ last) in omega arith)
      ];
      once = λ a b k ha hb level. elim (cases_lt a (length nodes)) [
        | inl olda ↦ elim (cases_lt b (length nodes)) [
          | inl oldb ↦ t.once a b k (IsAt-back nodes nodes' a k olda (same a olda) ha) (IsAt-back nodes nodes' b k oldb (same b oldb) hb)
              (sym (same a olda).level ∙ level ∙ (same b oldb).level)
          | inr pastb ↦
              let here : b ≡ length nodes = (let h = hb.there in omega arith) in
              let l = ap (λ (m : TreeNode). m.level) (ap (λ x. node nodes' x) here ∙ last) in
              let s = same a olda in
              let u = t.under a olda in
              absurd (omega (arith, s.level))
        ]
        | inr pasta ↦
            let here : a ≡ length nodes = (let h = ha.there in omega arith) in
            let l = ap (λ (m : TreeNode). m.level) (ap (λ x. node nodes' x) here ∙ last) in
            elim (cases_lt b (length nodes)) [
              | inl oldb ↦ (let s = same b oldb in let u = t.under b oldb in absurd (omega (arith, s.level)))
              | inr pastb ↦ (let h = hb.there in omega arith)
            ]
      ];
    }

-- the nodes with a new root agree with the low keys of the pages
pub Holds-raised : (lows : List ℕ) (nodes : List TreeNode) (root top : ℕ) → IsTree nodes root top → Holds lows nodes → Holds lows (nodes ++ above root top ∷ [])
Holds-raised lows nodes root top t h = λ id lt.
    let n = above root top in
    let nodes' = nodes ++ n ∷ [] in
    let more : length nodes' ≡ length nodes + 1 = length_push nodes n in
    elim (cases_lt id (length nodes)) [
      | inl old ↦ subst (Has lows) (sym (old_node nodes n id old)) (h id old)
      | inr past ↦
          let here : id ≡ length nodes = omega arith in
          let d : IndexEntry = record { low = 0; to = 0 } in
          let some : 0 < length (node nodes root).entries = (let f = t.each root t.there in omega (arith, f.some)) in
          subst (λ x. Has lows (node nodes' x)) (sym here) (subst (Has lows) (sym (new_node nodes n)) (record {
            keys = (
              subst (Contains lows) (sym (front_drop 0 d (node nodes root).entries (node nodes root).end some) ∙ t.low)
                  (key_at lows 0 d (node nodes root).entries (h root t.there).keys some),
              tt,
            );
            last = inl refl;
            match = λ z. absurd (omega arith);
            whole = λ z. absurd (omega arith);
          }))
    ]
