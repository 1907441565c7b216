-- The bytes of the pages in slots, one after another.
use Rattle.std.proofs.Common.{◌≡◌, ◌∙◌, ℕ, suc, ◌+◌, ◌<◌, List, [], ◌∷◌, ◌++◌, length, take, slice_index_or, Option, Some, None, refl, sym, ap, arith, append_assoc}
use Rattle.std.proofs.Math.Seq.{take-suc}
use Rattle.std.specs.List.{flat_map}
use Rattle.zy_model.specs.Leaf.{Leaf}
use Rattle.zy_node.specs.Slots.{laid_out}
use Rattle.zy_state_ids.specs.Packed.{leaf}

-- the bytes of the pages in slots
abbrev in_slots : List (Option Leaf) → List ℕ
in_slots slots = flat_map leaf (laid_out slots)

-- one slot behind others
behind : (xs : List (Option Leaf)) (x : Option Leaf) → in_slots (xs ++ x ∷ []) ≡ in_slots xs ++ in_slots (x ∷ [])
behind [] x = refl
behind (None ∷ xs) x = behind xs x
behind (Some y ∷ xs) x = ap (λ bytes. leaf y ++ bytes) (behind xs x) ∙ sym (append_assoc (leaf y) (in_slots xs) (in_slots (x ∷ [])))

-- one slot more
one_more : (slots : List (Option Leaf)) (i : ℕ) (d : Option Leaf) → i < length slots
    → in_slots (take (suc i) slots) ≡ in_slots (take i slots) ++ in_slots (slice_index_or slots i d ∷ [])
one_more slots i d h = ap in_slots (take-suc slots i d h) ∙ behind (take i slots) (slice_index_or slots i d)

-- one slot more was put
pub put_more : (slots : List (Option Leaf)) (i : ℕ) (x : Option Leaf) (start before after : List ℕ) → i < length slots → x ≡ slice_index_or slots i x
    → before ≡ start ++ in_slots (take i slots) → after ≡ before ++ in_slots (x ∷ []) → after ≡ start ++ in_slots (take (i + 1) slots)
put_more slots i x start before after h is b a =
    let next : suc i ≡ i + 1 = omega arith in
    a ∙ ap (λ ys. ys ++ in_slots (x ∷ [])) b ∙ append_assoc start (in_slots (take i slots)) (in_slots (x ∷ []))
    ∙ ap (λ y. start ++ (in_slots (take i slots) ++ in_slots (y ∷ []))) is ∙ ap (λ ys. start ++ ys) (sym (one_more slots i x h))
    ∙ ap (λ n. start ++ in_slots (take n slots)) next
