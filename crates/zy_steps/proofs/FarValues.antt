-- The values that steps of others show, where a run of t was made before them.
use Rattle.std.proofs.Common.{◌≡◌, ◌∙◌, inl, inr, ℕ, List, refl, sym, ap, subst, true}
use Rattle.std.specs.Prelude.{slice_set}
use Rattle.std.proofs.lemmas.Bool.{cases_eq, false≢true}
use Rattle.zy_isa.specs.declared.node.Node.{Node}
use Rattle.zy_isa.specs.declared.node.Node.TheVariants.{A, B}
use Rattle.zy_isa.specs.declared.choice.Choice.{Choice}
use Rattle.zy_isa.specs.declared.choice.Choice.TheVariants.{Run}
use Rattle.zy_isa.specs.Choices.{actor_of, actor_at}
use Rattle.zy_isa.specs.Scenario.{Scenario}
use Rattle.zy_model.specs.declared.lock.Lock.{Lock}
use Rattle.zy_table.specs.declared.outcome.Outcome.TheVariants.{Did}
use Rattle.zy_table.specs.State.{State, Step, Txn, facing}
use Rattle.zy_table.specs.Change.{txn_at}
use Rattle.zy_table.specs.Client.{is_active}
use Rattle.zy_table.specs.Run.{same_node}
use Rattle.zy_table.specs.Play.{step, move}
use Rattle.zy_table.specs.Observations.{txn_of, value_of}
use Rattle.zy_laws.proofs.walk.Txns.{at_self, at_other}
use Rattle.zy_steps.proofs.DidRuns.{stands}
use Rattle.zy_steps.proofs.Passes.{IsSettled, moved, moved_step}
use Rattle.zy_steps.proofs.SameValues.{of_view, same_value, no_value}

-- nodes that the test says are the same are
pub same_nodes : (k n : Node) → same_node k n ≡ true → k ≡ n
same_nodes A A e = refl
same_nodes A B e = absurd (false≢true e)
same_nodes B A e = absurd (false≢true e)
same_nodes B B e = refl

module _ (n : Node) (t : ℕ) (y : Txn) (ls : List Lock) (s : State) where
  -- t is set, and no other transaction
  pub set_txns : (facing n (moved n t y ls s)).txns ≡ slice_set (facing n s).txns t y
  set_txns = by_node n where
    by_node : (k : Node) → (facing k (moved k t y ls s)).txns ≡ slice_set (facing k s).txns t y
    by_node A = refl
    by_node B = refl

  -- so t is what was set, where it is active
  pub moved_self : is_active (txn_at (facing n s) t).status ≡ true → txn_of (moved n t y ls s) t ≡ y
  moved_self on = of_view n (moved n t y ls s) t ∙ at_self (facing n s) (facing n (moved n t y ls s)) t y set_txns on

  -- another is as it was
  pub moved_other : (u : ℕ) → (u ≡ t → ⊥) → txn_of (moved n t y ls s) u ≡ txn_of s u
  moved_other u far =
      of_view n (moved n t y ls s) u ∙ (at_other (facing n s) (facing n (moved n t y ls s)) t u y set_txns far ∙ sym (of_view n s u))

-- the run of t by another node than its own does nothing
not_there : (sc : Scenario) (n m : Node) (t : ℕ) (s : State) → IsSettled n t (facing n s) → (actor_at m ≡ actor_at n → ⊥)
    → (step sc (Run m t) s).outcome ≡ Did → ⊥
unfolding step move
not_there sc n m t s settled far did =
    let at = stands sc m t (facing m s) did in
    let same : txn_at (facing m s) t ≡ txn_at (facing n s) t = sym (of_view m s t) ∙ of_view n s t in
    let active = ap (λ (x : Txn). is_active x.status) (sym same) ∙ at.active in
    far (ap actor_at (sym (same_nodes _ m at.here) ∙ (ap (λ (x : Txn). x.node) same ∙ same_nodes _ n (settled.own active))))

-- a choice of another actor shows the same value where t and locks of n are others
pub far_value : (sc : Scenario) (n : Node) (t : ℕ) (y z : Txn) (ls ms : List Lock) (s : State) (c : Choice) → IsSettled n t (facing n s)
    → (actor_of c ≡ actor_at n → ⊥) → step sc c (moved n t y ls s) ≡ moved_step n t z ms (step sc c s)
    → value_of sc (moved n t y ls s) c ≡ value_of sc s c
far_value sc n t y z ls ms s (Run m u) settled far e = elim (cases_eq u t) [
  | inl is ↦
      let idle : (step sc (Run m u) s).outcome ≡ Did → ⊥ =
      subst (λ (k : ℕ). (step sc (Run m k) s).outcome ≡ Did → ⊥) (sym is) (not_there sc n m t s settled far) in
      no_value sc m u (moved n t y ls s) (λ did. idle (sym (ap (λ (x : Step). x.outcome) e) ∙ did)) ∙ sym (no_value sc m u s idle)
  | inr apart ↦
      same_value sc m u (moved n t y ls s) s (moved_other n t y ls s u apart) (ap (λ (x : Step). x.outcome) e)
      (ap (λ (x : Step). txn_of x.after u) e ∙ moved_other n t z ms (step sc (Run m u) s).after u apart)
]
far_value sc n t y z ls ms s c settled far e = refl
