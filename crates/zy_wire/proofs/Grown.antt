-- One page more.
use Rattle.std.proofs.Common.{◌≡◌, ◌∙◌, ℕ, ◌+◌, ◌*◌, ◌<◌, ◌≤◌, List, [], ◌∷◌, ◌++◌, length, get_or, sym, ap, arith, refl, inl, inr}
use Rattle.std.specs.Prelude.{Contains}
use Rattle.std.proofs.lemmas.Bool.{cases_lt}
use Rattle.std.proofs.lemmas.List.{get_or_append_left, get_or_at, get_or_default, length_push}
use Rattle.zy_wire.specs.Nodes.{TreeNode, key_end}
use Rattle.zy_wire.specs.Pages.{Holds, IsSound}

-- the square of n + 1
square : (n : ℕ) → (n + 1) * (n + 1) ≡ n * n + 2 * n + 1
square n = omega arith

-- a sound wireframe with one more page, whose low key is new, and with at most top + 2 more nodes is sound
pub IsSound-grown : (pages low : ℕ) (lows : List ℕ) (nodes nodes' : List TreeNode) (top top' : ℕ) → IsSound pages lows nodes top → (Contains lows low → ⊥)
    → low < key_end → length lows < pages
    → Holds (lows ++ low ∷ []) nodes' → top' ≤ top + 1 → length nodes' ≤ length nodes + top + 2 → IsSound pages (lows ++ low ∷ []) nodes' top'
IsSound-grown pages low lows nodes nodes' top top' h new small few holds level count =
    let lows' = lows ++ low ∷ [] in
    let more : length lows' ≡ length lows + 1 = length_push lows low in
    let last : get_or lows' (length lows) 0 ≡ low = get_or_at lows low [] 0 (length lows) refl in
    let s = square (length lows) in
    record {
      holds = holds;
      apart = λ i j up lt same. elim (cases_lt j (length lows)) [
        | inl old ↦ h.apart i j up old (sym (get_or_append_left lows (low ∷ []) 0 i (omega arith)) ∙ (same ∙ get_or_append_left lows (low ∷ []) 0 j old))
        | inr past ↦
            let here : j ≡ length lows = omega arith in
            let in' : i < length lows = omega arith in
            new (
              i,
              in',
              get_or_default lows i low 0 in' ∙ (sym (get_or_append_left lows (low ∷ []) 0 i in')
                  ∙ (same ∙ (ap (λ z. get_or lows' z 0) here ∙ last))),
            )
      ];
      small = λ p lt. elim (cases_lt p (length lows)) [
        | inl old ↦ (let e = get_or_append_left lows (low ∷ []) 0 p old in let b = h.small p old in omega arith)
        | inr past ↦ (let here : p ≡ length lows = omega arith in let e = ap (λ z. get_or lows' z 0) here ∙ last in omega arith)
      ];
      some = omega arith;
      first = get_or_append_left lows (low ∷ []) 0 0 h.some ∙ h.first;
      few = omega arith;
      shallow = (let t = h.shallow in omega arith);
      sparse = rw more (rw s (let a = h.sparse in let b = h.shallow in omega arith));
    }
