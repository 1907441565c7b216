-- The part of a state at each place.
use Rattle.std.proofs.Common.{◌≡◌, ℕ, zero, suc, List, Option, Some, slice_get, ap}
use Rattle.zy_table.specs.State.{State}
use Rattle.zy_steps.specs.declared.part.StatePart.{StatePart}
use Rattle.zy_state_ids.specs.Packed.{node_state, items, message, commit}
use Rattle.zy_state_ids.specs.Parts.{txn_parts, parts}
use Rattle.zy_step_cache.specs.Places.{txn_place}

-- the part at a place
abbrev pub part_at : StatePart → State → ℕ → Option (List ℕ)
part_at part s p = slice_get (parts part s) p

-- a transaction's part
abbrev pub txn_part_at : StatePart → State → ℕ → Option (List ℕ)
txn_part_at part s u = slice_get (txn_parts part s) u

-- two states have the same part at each place that is not among some, where they are the same in what they are made of
module _ (part : StatePart) (s t : State) (Among : ℕ → Type 0)
    (a : (Among 0 → ⊥) → s.a ≡ t.a) (b : (Among 1 → ⊥) → s.b ≡ t.b) (ab : (Among 2 → ⊥) → s.ab ≡ t.ab) (ba : (Among 3 → ⊥) → s.ba ≡ t.ba)
    (commits : (Among 4 → ⊥) → s.commits ≡ t.commits) (txns : (u : ℕ) → (Among (txn_place u) → ⊥) → txn_part_at part s u ≡ txn_part_at part t u) where
  pub offside : (p : ℕ) → (Among p → ⊥) → part_at part s p ≡ part_at part t p
  offside zero n = ap (λ x. Some (node_state x)) (a n)
  offside (suc zero) n = ap (λ x. Some (node_state x)) (b n)
  offside (suc (suc zero)) n = ap (λ x. Some (items message x)) (ab n)
  offside (suc (suc (suc zero))) n = ap (λ x. Some (items message x)) (ba n)
  offside (suc (suc (suc (suc zero)))) n = ap (λ x. Some (items commit x)) (commits n)
  offside (suc (suc (suc (suc (suc u))))) n = txns u n
