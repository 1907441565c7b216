-- A step, and so a run, does not ask for the choices that the scenario itself names.
use Rattle.std.proofs.Common.{◌≡◌, ◌∙◌, ℕ, List, [], ◌∷◌, Option, Some, None, refl, ap, slice_get}
use Rattle.zy_isa.specs.declared.node.Node.{Node}
use Rattle.zy_isa.specs.declared.instr.Instr.{Instr}
use Rattle.zy_isa.specs.declared.choice.Choice.{Choice}
use Rattle.zy_isa.specs.declared.choice.Choice.TheVariants.{Start, Begin, Kill, Run, Take, Finish, Push}
use Rattle.zy_isa.specs.Scenario.{Scenario}
use Rattle.zy_model.specs.Messages.{Message, Wire, Ready, Dual, Pull, Page, Finish as FinishMessage, Done}
use Rattle.zy_model.specs.declared.table.MessageLine.{MessageLine}
use Rattle.zy_model.specs.declared.table.MessageLine.TheVariants.{Stray, Turns}
use Rattle.zy_table.specs.declared.access.Access.{Access}
use Rattle.zy_table.specs.declared.access.Access.TheVariants.{Reads, Writes, Inserts}
use Rattle.zy_table.specs.State.{State, View, Step, facing, as_step}
use Rattle.zy_table.specs.Change.{txn_at}
use Rattle.zy_table.specs.declared.effect.Effect.{Effect}
use Rattle.zy_table.specs.declared.effect.Effect.TheVariants.{Accesses}
use Rattle.zy_table.specs.Effects.{effect_of}
use Rattle.zy_table.specs.Run.{run_step, instr_step, effect_step, key_step, page_step, access_step, insert_step, full_step, split_step, program_of}
use Rattle.zy_table.specs.Take.{take_step, front_step, message_step, pull_step, mode_line}
use Rattle.zy_laws.specs.Orders.{reordered}
use Rattle.zy_table.specs.Play.{opening, move, step, play, entries, entry_of}

-- an access does not ask for the choices
key : (sc : Scenario) (order : List Choice) (t : ℕ) (x : Access) (k : ℕ) (s : View) → key_step (reordered sc order) t x k s ≡ key_step sc t x k s
unfolding key_step page_step access_step insert_step full_step split_step
key sc order t (Reads r) k s = refl
key sc order t (Writes v) k s = refl
key sc order t (Inserts v) k s = refl

-- an effect does not ask for the choices
effect : (sc : Scenario) (order : List Choice) (t : ℕ) (e : Effect) (s : View) → effect_step (reordered sc order) t e s ≡ effect_step sc t e s
unfolding effect_step
effect sc order t (Accesses i k) s = key sc order t i k s
effect sc order t e s = refl

-- an instruction does not ask for the choices
instr : (sc : Scenario) (order : List Choice) (t : ℕ) (i : Option Instr) (regs : List ℕ) (s : View)
    → instr_step (reordered sc order) t i regs s ≡ instr_step sc t i regs s
unfolding instr_step
instr sc order t None regs s = refl
instr sc order t (Some i) regs s = effect sc order t (effect_of i regs) s

-- a run does not ask for the choices
run : (sc : Scenario) (order : List Choice) (n : Node) (t : ℕ) (s : View) → run_step (reordered sc order) n t s ≡ run_step sc n t s
unfolding run_step
run sc order n t s = (rw (instr sc order t (slice_get (program_of sc t) (txn_at s t).pc) (txn_at s t).regs s) refl)

-- a pull does not ask for the choices
pull : (sc : Scenario) (order : List Choice) (p : ℕ) (row : MessageLine) (s r : View) → pull_step (reordered sc order) p row s r ≡ pull_step sc p row s r
unfolding pull_step
pull sc order p Stray s r = refl
pull sc order p (Turns mode sent) s r = refl

-- a message does not ask for the choices
message : (sc : Scenario) (order : List Choice) (m : Message) (s r : View) → message_step (reordered sc order) m s r ≡ message_step sc m s r
unfolding message_step
message sc order (Wire lows) s r = refl
message sc order Ready s r = refl
message sc order Dual s r = refl
message sc order (Pull p) s r = (pull sc order p (mode_line (Pull p) s) s r)
message sc order (Page leaf) s r = refl
message sc order FinishMessage s r = refl
message sc order Done s r = refl

-- a take does not ask for the choices
front : (sc : Scenario) (order : List Choice) (ms : List Message) (s : View) → front_step (reordered sc order) ms s ≡ front_step sc ms s
unfolding front_step
front sc order [] s = refl
front sc order (m ∷ ms) s = (message sc order m s (record s { inbox = ms }))

-- a step does not ask for the choices
pub one : (sc : Scenario) (order : List Choice) (c : Choice) (s : State) → step (reordered sc order) c s ≡ step sc c s
unfolding step move take_step
one sc order Start s = refl
one sc order (Begin t) s = refl
one sc order (Kill t) s = refl
one sc order (Run n t) s = (ap (as_step n) (run sc order n t (facing n s)))
one sc order (Take n) s = (ap (as_step n) (front sc order (facing n s).inbox (facing n s)))
one sc order (Finish n) s = refl
one sc order (Push n) s = refl

-- a schedule leads to the same state under any choices of the scenario
pub play-reordered : (sc : Scenario) (order : List Choice) (s : State) (cs : List Choice) → play (reordered sc order) s cs ≡ play sc s cs
play-reordered sc order s [] = refl
play-reordered sc order s (c ∷ cs) = ap (λ (x : Step). play (reordered sc order) x.after cs) (one sc order c s) ∙ play-reordered sc order (step sc c s).after cs

-- a schedule has the same entries under any choices of the scenario
pub entries-reordered : (sc : Scenario) (order : List Choice) (s : State) (cs : List Choice) → entries (reordered sc order) s cs ≡ entries sc s cs
entries-reordered sc order s [] = refl
entries-reordered sc order s (c ∷ cs) = ap (λ (x : Step). entry_of c x ∷ entries (reordered sc order) x.after cs) (one sc order c s)
    ∙ ap (λ es. entry_of c (step sc c s) ∷ es) (entries-reordered sc order (step sc c s).after cs)

-- the opening state does not ask for the choices
pub opening-reordered : (sc : Scenario) (order : List Choice) → opening (reordered sc order) ≡ opening sc
unfolding opening
opening-reordered sc order = refl
