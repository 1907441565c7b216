-- A board, and one turn of an actor on it.
use Rattle.std.specs.Prelude.{◌≡◌, ℕ, ◌+◌, ◌<◌, ◌≤◌, Bool, true, false, List, [], ◌∷◌, ◌++◌, length, take}
use Rattle.std.specs.Prelude.{if◌then◌else◌, slice_get, Option, None, Some}
use Rattle.zy_isa.specs.declared.node.Actor.{Actor}
use Rattle.zy_isa.specs.declared.node.Actor.TheVariants.{C, A, B}
use Rattle.zy_isa.specs.declared.choice.Choice.{Choice}
use Rattle.zy_isa.specs.Choices.{actor_of}
use Rattle.zy_isa.specs.Scenario.{IsScenario}
use Rattle.zy_table.specs.declared.entry.Entry.{Entry}
use Rattle.zy_table.specs.Play.{step, entry_of}
use Rattle.zy_machine.specs.Histories.{History, choices_of}

abbrev pub is_c : Actor → Bool
is_c C = true
is_c A = false
is_c B = false

abbrev pub is_a : Actor → Bool
is_a C = false
is_a A = true
is_a B = false

abbrev pub is_b : Actor → Bool
is_b C = false
is_b A = false
is_b B = true

-- the choice is the actor's
abbrev pub is_by : Actor → Choice → Bool
is_by C c = is_c (actor_of c)
is_by A c = is_a (actor_of c)
is_by B c = is_b (actor_of c)

-- the choices of one actor, in order
abbrev pub sub : Actor → List Choice → List Choice
sub x [] = []
sub x (c ∷ cs) = if is_by x c then c ∷ sub x cs else sub x cs

-- each actor's choices, whole and in order
pub record IsMerge (h choices : List Choice) : Type 0 where
  pub of_c : sub C h ≡ sub C choices
  pub of_a : sub A h ≡ sub A choices
  pub of_b : sub B h ≡ sub B choices

-- a ledger of one part, which counts all turns of an actor among the choices
abbrev pub IsLedgerOf : Actor → List Choice → ℕ → ℕ → Type 0
IsLedgerOf x choices parts turns = (parts ≡ 1) × (turns ≡ length (sub x choices))

-- one actor's choices, and how many of them it has taken
pub record Turns : Type 0 where
  pub schedule : List Choice
  pub cursor : ℕ

-- a machine, and the turns of each actor on it
pub record BoardView : Type 0 where
  pub machine : History
  pub c : Turns
  pub a : Turns
  pub b : Turns

abbrev pub turns_of : BoardView → Actor → Turns
turns_of t C = t.c
turns_of t A = t.a
turns_of t B = t.b

-- one more is taken
abbrev pub one_further : Turns → Turns
one_further l = record { schedule = l.schedule; cursor = l.cursor + 1 }

-- what comes of the choice
abbrev pub entry_at : History → Choice → Entry
entry_at h c = entry_of c (step h.scenario c h.state)

-- the history with what came of one choice more
abbrev pub after_choice : History → Choice → History
after_choice h c = record {
  scenario = h.scenario;
  state = (step h.scenario c h.state).after;
  entries = h.entries ++ entry_at h c ∷ [];
}

-- the choice was made, and the actor's cursor moved by one
abbrev pub after_turn : BoardView → Actor → Choice → BoardView
after_turn t C c = record { machine = after_choice t.machine c; c = one_further t.c; a = t.a; b = t.b }
after_turn t A c = record { machine = after_choice t.machine c; c = t.c; a = one_further t.a; b = t.b }
after_turn t B c = record { machine = after_choice t.machine c; c = t.c; a = t.a; b = one_further t.b }

-- what a turn of the actor answers, and what is then on the board
abbrev pub IsTurn : Actor → BoardView → Option Entry → BoardView → Type 0
IsTurn x t None n = (n ≡ t) × ((turns_of t x).cursor ≡ length (turns_of t x).schedule)
IsTurn x t (Some e) n = (slice_get (turns_of t x).schedule (turns_of t x).cursor ≡ Some e.choice)
    × (e ≡ entry_at t.machine e.choice) × (n ≡ after_turn t x e.choice)

-- the schedule is all of the actor's choices, and the history has those up to the cursor
pub record AreTurnsOf (x : Actor) (m : History) (l : Turns) : Type 0 where
  pub whole : l.schedule ≡ sub x m.scenario.choices
  pub taken : sub x (choices_of m.entries) ≡ take l.cursor l.schedule
  pub within : l.cursor ≤ length l.schedule

pub record IsBoard (t : BoardView) : Type 0 where
  pub tested : IsScenario t.machine.scenario
  pub of_c : AreTurnsOf C t.machine t.c
  pub of_a : AreTurnsOf A t.machine t.a
  pub of_b : AreTurnsOf B t.machine t.b

-- an actor that has taken n turns and then m: one more, or none where it has taken all
abbrev pub Counts : ℕ → ℕ → Option Entry → ℕ → Type 0
Counts turns n None m = (n ≡ turns) × (m ≡ n)
Counts turns n (Some e) m = (n < turns) × (m ≡ n + 1)
