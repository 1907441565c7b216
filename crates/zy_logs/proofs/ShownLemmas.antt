-- A step shows values and rows that a line may have.
use Rattle.std.proofs.Common.{◌≡◌, ◌≤◌, true, Option, Some, None, IfSome, refl}
use Rattle.std.proofs.lemmas.Bool.{or_left, or_right}
use Rattle.zy_isa.specs.Limits.{max_value}
use Rattle.zy_isa.specs.declared.choice.Choice.{Choice}
use Rattle.zy_isa.specs.declared.choice.Choice.TheVariants.{Run}
use Rattle.zy_isa.specs.declared.instr.Reg.{Reg}
use Rattle.zy_isa.specs.Scenario.{Scenario}
use Rattle.zy_table.specs.declared.outcome.Outcome.{Outcome}
use Rattle.zy_table.specs.declared.outcome.Outcome.TheVariants.{Did, GotPull, GotPage, Pushed}
use Rattle.zy_table.specs.Database.{all_leaves}
use Rattle.zy_table.specs.Observations.{register_of, value_after, rows_after, observation_at}
use Rattle.zy_table.specs.Pages.{rows_of}
use Rattle.zy_table.specs.Play.{step}
use Rattle.zy_table.specs.State.{State}
use Rattle.zy_logs.specs.InFull.{ArePageRows, AreShown, HoldRows, HoldValues, IsShown}
use Rattle.zy_logs.specs.Possible.{can_give, can_have_rows, is_take, is_push}
use Rattle.zy_patterns.specs.Patterns.{exactly}
use Rattle.zy_logs.proofs.PossibleSteps.{step_exactly}

-- where a choice led, a value is shown beside `did` alone, and a register holds it
shown : (c : Choice) (s : State) (o : Outcome) (r : Option Reg) → HoldValues s → IfSome (value_after c s o r) (λ v. (v ≤ max_value) × (o ≡ Did))
shown (Run n t) s Did (Some r) h = (h t r, refl)
shown (Run n t) s Did None h = tt
shown (Run n t) s o r h = tt
shown c s o r h = tt

-- so it is where a step shows one
pub step_shown : (sc : Scenario) (c : Choice) (s : State) → HoldValues (step sc c s).after → IsShown (observation_at sc s c)
step_shown sc c s h = shown c (step sc c s).after (step sc c s).outcome (register_of sc s c) h

-- a choice that can give the outcome of a step which moves a page may have rows
moves : (c : Choice) (o : Outcome) (s : State) → can_give c (exactly o) ≡ true → HoldRows s
    → IfSome (rows_after s o) (λ rows. (can_have_rows c ≡ true) × ArePageRows rows)
moves c (GotPull p) s can h = (or_left (is_take c) (is_push c) can, (rows_of (all_leaves s) p, refl, h p))
moves c (GotPage p) s can h = (or_left (is_take c) (is_push c) can, (rows_of (all_leaves s) p, refl, h p))
moves c (Pushed p) s can h = (or_right (is_take c) (is_push c) can, (rows_of (all_leaves s) p, refl, h p))
moves c o s can h = tt

-- so it is where a step shows rows
pub step_rows : (sc : Scenario) (c : Choice) (s : State) → HoldRows (step sc c s).after → AreShown (observation_at sc s c)
step_rows sc c s h = moves c (step sc c s).outcome (step sc c s).after (step_exactly sc c s) h
