-- What a step shows, where the same was done from another state.
use Rattle.std.proofs.Common.{◌≡◌, ◌∙◌, inl, inr, ℕ, List, refl, sym, ap, subst, Option}
use Rattle.std.specs.Option.{option_map}
use Rattle.std.proofs.lemmas.Bool.{cases_eq}
use Rattle.zy_isa.specs.declared.node.Node.{Node}
use Rattle.zy_isa.specs.declared.node.Node.TheVariants.{A, B}
use Rattle.zy_isa.specs.declared.choice.Choice.{Choice}
use Rattle.zy_isa.specs.declared.choice.Choice.TheVariants.{Start, Kill}
use Rattle.zy_isa.specs.Choices.{actor_of, actor_at}
use Rattle.zy_isa.specs.Scenario.{Scenario}
use Rattle.zy_model.specs.declared.lock.Lock.{Lock}
use Rattle.zy_page.specs.declared.page_rows.PageRows.{PageRows}
use Rattle.zy_page.specs.RowLists.{of_rows}
use Rattle.zy_table.specs.declared.entry.Entry.{Entry}
use Rattle.zy_table.specs.declared.outcome.Outcome.{Outcome}
use Rattle.zy_table.specs.State.{State, Leaf, Step, Txn, facing}
use Rattle.zy_table.specs.Change.{txn_at}
use Rattle.zy_table.specs.Database.{all_leaves}
use Rattle.zy_table.specs.Pages.{rows_of}
use Rattle.zy_table.specs.Play.{step, side_of, entry_of}
use Rattle.zy_table.specs.Observations.{txn_of, value_of, moved_page, rows_after, client_node, observation_at}
use Rattle.zy_laws.proofs.walk.Txns.{at_either}
use Rattle.zy_steps.proofs.SetTwo.{Stays}
use Rattle.zy_steps.proofs.SameValues.{of_view}
use Rattle.zy_steps.proofs.FarValues.{set_txns, moved_other, far_value}
use Rattle.zy_steps.proofs.Passes.{IsSettled, moved, moved_step, start_side}

-- the node that a choice of the client shows
abbrev node_of : Scenario → State → Choice → Option Node
node_of sc s c = client_node c (side_of sc c s) (step sc c s).outcome

-- the rows that a step shows
abbrev pub rows_shown : Step → Option PageRows
rows_shown x = rows_after x.after x.outcome

-- the same entry, value, rows and node: the same observation
pub same_observation : (sc : Scenario) (c : Choice) (r s : State) → entry_of c (step sc c r) ≡ entry_of c (step sc c s)
    → value_of sc r c ≡ value_of sc s c → rows_shown (step sc c r) ≡ rows_shown (step sc c s) → node_of sc r c ≡ node_of sc s c
    → observation_at sc r c ≡ observation_at sc s c
same_observation sc c r s entry value rows node =
    let x = step sc c s in
    ap (λ (e : Entry). record { entry = e; value = value_of sc r c; rows = rows_shown (step sc c r); node = node_of sc r c }) entry
    ∙ (ap (λ (v : Option ℕ). record { entry = entry_of c x; value = v; rows = rows_shown (step sc c r); node = node_of sc r c }) value
    ∙ (ap (λ (o : Option PageRows). record { entry = entry_of c x; value = value_of sc s c; rows = o; node = node_of sc r c }) rows
    ∙ ap (λ (k : Option Node). record { entry = entry_of c x; value = value_of sc s c; rows = rows_shown x; node = k }) node))

module _ (n : Node) (t : ℕ) (y : Txn) (ls : List Lock) (s : State) where
  -- all pages are as they were
  moved_leaves : all_leaves (moved n t y ls s) ≡ all_leaves s
  moved_leaves = by_node n where
    by_node : (k : Node) → all_leaves (moved k t y ls s) ≡ all_leaves s
    by_node A = refl
    by_node B = refl

  -- so are the rows of the page that an outcome moved
  moved_rows : (o : Outcome) → rows_after (moved n t y ls s) o ≡ rows_after s o
  moved_rows o = ap (λ (xs : List Leaf). option_map (λ p. of_rows (rows_of xs p)) (moved_page o)) moved_leaves

  module _ (stays : Stays (txn_at (facing n s) t) y) where
    -- t is at the node where it was
    own_node : (txn_of (moved n t y ls s) t).node ≡ (txn_of s t).node
    own_node =
        let r = moved n t y ls s in
        elim (at_either (facing n s) (facing n r) t y (set_txns n t y ls s)) [
          | inl new ↦ ap (λ (x : Txn). x.node) (of_view n r t ∙ new) ∙ (stays.node ∙ ap (λ (x : Txn). x.node) (sym (of_view n s t)))
          | inr old ↦ ap (λ (x : Txn). x.node) (of_view n r t ∙ (old ∙ sym (of_view n s t)))
        ]

    -- so is each transaction
    each_node : (u : ℕ) → (txn_of (moved n t y ls s) u).node ≡ (txn_of s u).node
    each_node u = elim (cases_eq u t) [
      | inl e ↦ subst (λ (k : ℕ). (txn_of (moved n t y ls s) k).node ≡ (txn_of s k).node) (sym e) own_node
      | inr far ↦ ap (λ (x : Txn). x.node) (moved_other n t y ls s u far)
    ]

    -- a choice is made from the side that it was made from
    moved_side : (sc : Scenario) (c : Choice) → side_of sc c (moved n t y ls s) ≡ side_of sc c s
    moved_side sc Start = start_side sc n t y ls s
    moved_side sc (Kill u) = each_node u
    moved_side sc c = refl

-- a choice of another actor shows the same where t and locks of n are others
pub far_observation : (sc : Scenario) (n : Node) (t : ℕ) (y z : Txn) (ls ms : List Lock) (s : State) (c : Choice)
    → Stays (txn_at (facing n s) t) y → IsSettled n t (facing n s) → (actor_of c ≡ actor_at n → ⊥)
    → step sc c (moved n t y ls s) ≡ moved_step n t z ms (step sc c s) → observation_at sc (moved n t y ls s) c ≡ observation_at sc s c
far_observation sc n t y z ls ms s c stays settled far e =
    let there = moved n t y ls s in
    let x = step sc c s in
    same_observation sc c there s (ap (entry_of c) e) (far_value sc n t y z ls ms s c settled far e)
    (ap rows_shown e ∙ moved_rows n t z ms x.after x.outcome)
    (ap (λ (k : Node). client_node c k (step sc c there).outcome) (moved_side n t y ls s stays sc c)
    ∙ ap (λ (k : Step). client_node c (side_of sc c s) k.outcome) e)
