-- The transactions of a machine, and the instruction that one does next.
use Rattle.std.proofs.Common.{◌≡◌, ◌∙◌, ◌<◌, ◌≤◌, List, length, sym, ap, subst, arith, ℕ, true, None, Some, slice_index_or}
use Rattle.std.specs.Prelude.{slice_get}
use Rattle.std.specs.Option.{option_and_then, option_map}
use Rattle.std.proofs.lemmas.Bool.{ltb-true}
use Rattle.std.proofs.lemmas.Option.{slice_get_past}
use Rattle.zy_isa.specs.declared.instr.Instr.{Instr}
use Rattle.zy_isa.specs.declared.node.Node.{Node}
use Rattle.zy_isa.specs.declared.choice.Choice.{Choice}
use Rattle.zy_isa.specs.declared.choice.Choice.TheVariants.{Run}
use Rattle.zy_isa.specs.Choices.{names_below}
use Rattle.zy_isa.specs.Scenario.{Scenario}
use Rattle.zy_table.specs.declared.outcome.Outcome.{Outcome}
use Rattle.zy_table.specs.State.{State}
use Rattle.zy_table.specs.Observations.{shown_register, txn_of, register_of, moved_page, page_rows, rows_after}
use Rattle.zy_table.proofs.Programs.{program-read, got}
use Rattle.zy_laws.specs.Counts.{Safe}
use Rattle.zy_laws.proofs.counts.SafeCounts.{safe}
use Rattle.zy_machine.specs.Histories.{History, IsReplay, choices_of}

-- there are as many transactions as programs
pub replay_txns : (h : History) → IsReplay h → length h.state.txns ≡ length h.scenario.programs
replay_txns h r =
    let counts : Safe h.scenario (length (choices_of h.entries)) h.state =
    subst (Safe h.scenario (length (choices_of h.entries))) (sym r.state) (safe h.scenario r.tested (choices_of h.entries)) in
    counts.txns

-- a run that is named has a program
pub named_program : (sc : Scenario) (c : Choice) (n : Node) (t : ℕ) → c ≡ Run n t → names_below (length sc.programs) c ≡ true → t < length sc.programs
named_program sc c n t is named = ltb-true t (length sc.programs) (rw is at named)

-- and a transaction
pub named_txn : (h : History) (c : Choice) (n : Node) (t : ℕ) → IsReplay h → c ≡ Run n t → names_below (length h.scenario.programs) c ≡ true
    → t < length h.state.txns
named_txn h c n t r is named =
    omega (arith, named_program h.scenario c n t is named, replay_txns h r)

-- the register of the instruction that was read, or none behind the program
module _ (sc : Scenario) (s : State) (n : Node) (t i pc : ℕ) (program : List Instr) (at : i ≡ t) (there : t < length sc.programs)
    (read : program ≡ slice_index_or sc.programs i program) (next : pc ≡ (txn_of s t).pc) where
  register_at : register_of sc s (Run n t) ≡ option_and_then shown_register (slice_get program pc)
  register_at =
      ap (λ (p : List Instr). option_and_then shown_register (slice_get p (txn_of s t).pc)) (program-read sc i t program at there read)
      ∙ ap (λ (k : ℕ). option_and_then shown_register (slice_get program k)) (sym next)

  pub register_read : (instr : Instr) → pc < length program → instr ≡ slice_index_or program pc instr → shown_register instr ≡ register_of sc s (Run n t)
  register_read instr lt is = ap (option_and_then shown_register) (sym (got program pc instr lt is)) ∙ sym register_at

  pub register_past : length program ≤ pc → None ≡ register_of sc s (Run n t)
  register_past over = ap (option_and_then shown_register) (sym (slice_get_past program pc over)) ∙ sym register_at

-- the rows of the page that a step moved
pub moved_rows : (s : State) (o : Outcome) (p : ℕ) → moved_page o ≡ Some p → Some (page_rows s p) ≡ rows_after s o
moved_rows s o p e = ap (option_map (page_rows s)) (sym e)
