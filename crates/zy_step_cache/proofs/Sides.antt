-- The parts of a state as a node sees it.
use Rattle.std.proofs.Common.{◌≡◌, ℕ, List, Option, Some, refl}
use Rattle.zy_isa.specs.declared.node.Node.{Node}
use Rattle.zy_isa.specs.declared.node.Node.TheVariants.{A, B}
use Rattle.zy_table.specs.State.{View, seen_from, other}
use Rattle.zy_steps.specs.declared.part.StatePart.{StatePart}
use Rattle.zy_state_ids.specs.Packed.{node_state, items, message, commit}
use Rattle.zy_step_cache.specs.Places.{node_place, link_place, commits_place, txn_place}
use Rattle.zy_step_cache.proofs.Offside.{part_at, txn_part_at, offside}

module _ (part : StatePart) where
  -- a node, and the links
  pub me_at : (x : Node) (v : View) → part_at part (seen_from x v) (node_place x) ≡ Some (node_state v.me)
  me_at A v = refl
  me_at B v = refl

  pub them_at : (x : Node) (v : View) → part_at part (seen_from x v) (node_place (other x)) ≡ Some (node_state v.them)
  them_at A v = refl
  them_at B v = refl

  pub outbox_at : (x : Node) (v : View) → part_at part (seen_from x v) (link_place x) ≡ Some (items message v.outbox)
  outbox_at A v = refl
  outbox_at B v = refl

  pub inbox_at : (x : Node) (v : View) → part_at part (seen_from x v) (link_place (other x)) ≡ Some (items message v.inbox)
  inbox_at A v = refl
  inbox_at B v = refl

  pub commits_at : (x : Node) (v : View) → part_at part (seen_from x v) commits_place ≡ Some (items commit v.commits)
  commits_at A v = refl
  commits_at B v = refl

  -- a transaction
  abbrev pub txn_in : View → ℕ → Option (List ℕ)
  txn_in v u = txn_part_at part (seen_from A v) u

  pub txn_at_place : (x : Node) (v : View) (u : ℕ) → part_at part (seen_from x v) (txn_place u) ≡ txn_in v u
  txn_at_place A v u = refl
  txn_at_place B v u = refl

  -- two views have the same parts off some places, where they are the same in what they are made of
  pub off_view : (x : Node) (v w : View) (Among : ℕ → Type 0) → ((Among (node_place x) → ⊥) → v.me ≡ w.me) → ((Among (node_place (other x)) → ⊥) → v.them ≡ w.them)
      → ((Among (link_place x) → ⊥) → v.outbox ≡ w.outbox) → ((Among (link_place (other x)) → ⊥) → v.inbox ≡ w.inbox)
      → ((Among commits_place → ⊥) → v.commits ≡ w.commits) → ((u : ℕ) → (Among (txn_place u) → ⊥) → txn_in v u ≡ txn_in w u)
      → (p : ℕ) → (Among p → ⊥) → part_at part (seen_from x v) p ≡ part_at part (seen_from x w) p
  off_view A v w Among me them outbox inbox commits txns = offside part (seen_from A v) (seen_from A w) Among me them outbox inbox commits txns
  off_view B v w Among me them outbox inbox commits txns = offside part (seen_from B v) (seen_from B w) Among them me inbox outbox commits txns
