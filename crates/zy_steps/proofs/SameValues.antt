-- The value that a step shows, where the same was done from another state.
use Rattle.std.proofs.Common.{◌≡◌, ◌∙◌, ℕ, refl, ap, Option, None}
use Rattle.std.specs.Prelude.{slice_get}
use Rattle.std.specs.Option.{option_and_then}
use Rattle.zy_isa.specs.declared.node.Node.{Node}
use Rattle.zy_isa.specs.declared.node.Node.TheVariants.{A, B}
use Rattle.zy_isa.specs.declared.choice.Choice.TheVariants.{Run}
use Rattle.zy_isa.specs.declared.instr.Reg.{Reg}
use Rattle.zy_isa.specs.Scenario.{Scenario}
use Rattle.zy_table.specs.declared.outcome.Outcome.{Outcome}
use Rattle.zy_table.specs.declared.outcome.Outcome.TheVariants.{Did}
use Rattle.zy_table.specs.State.{State, Txn, facing}
use Rattle.zy_table.specs.Change.{txn_at}
use Rattle.zy_table.specs.Run.{program_of}
use Rattle.zy_table.specs.Play.{step}
use Rattle.zy_table.specs.Observations.{shown_register, txn_of, register_of, value_in, value_of}

-- a transaction is that of each view
pub of_view : (n : Node) (s : State) (t : ℕ) → txn_of s t ≡ txn_at (facing n s) t
unfolding txn_at
of_view A s t = refl
of_view B s t = refl

-- the same transaction before and after, and the same outcome: the same value
pub same_value : (sc : Scenario) (n : Node) (t : ℕ) (r s : State) → txn_of r t ≡ txn_of s t
    → (step sc (Run n t) r).outcome ≡ (step sc (Run n t) s).outcome
    → txn_of (step sc (Run n t) r).after t ≡ txn_of (step sc (Run n t) s).after t
    → value_of sc r (Run n t) ≡ value_of sc s (Run n t)
same_value sc n t r s before outcome after =
    let register : register_of sc r (Run n t) ≡ register_of sc s (Run n t) =
    ap (λ (x : Txn). option_and_then shown_register (slice_get (program_of sc t) x.pc)) before in
    ap (λ (x : Txn). value_in x (step sc (Run n t) r).outcome (register_of sc r (Run n t))) after
    ∙ (ap (λ (o : Outcome). value_in (txn_of (step sc (Run n t) s).after t) o (register_of sc r (Run n t))) outcome
    ∙ ap (value_in (txn_of (step sc (Run n t) s).after t) (step sc (Run n t) s).outcome) register)

-- a run that did not do its instruction shows none
pub no_value : (sc : Scenario) (n : Node) (t : ℕ) (s : State) → ((step sc (Run n t) s).outcome ≡ Did → ⊥) → value_of sc s (Run n t) ≡ None
no_value sc n t s not_did = none (txn_of (step sc (Run n t) s).after t) (step sc (Run n t) s).outcome (register_of sc s (Run n t)) not_did where
  none : (x : Txn) (o : Outcome) (r : Option Reg) → (o ≡ Did → ⊥) → value_in x o r ≡ None
  none x Did r h = absurd (h refl)
  none x o r h = refl
