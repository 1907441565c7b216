-- What a trace says of a state.
use Rattle.std.specs.Prelude.{◌≡◌, ℕ, false, List, [], ◌∷◌}
use Rattle.zy_isa.specs.declared.choice.Choice.{Choice}
use Rattle.zy_isa.specs.Scenario.{Scenario}
use Rattle.zy_table.specs.State.{State}
use Rattle.zy_table.specs.Play.{step, play}
use Rattle.zy_trace.specs.declared.subject.Subject.{Subject}
use Rattle.zy_trace.specs.Subjects.{line_in, lines_of_subject}

-- the line that is shown, and else the one before
abbrev pub or_before : List (List ℕ) → List ℕ → List ℕ
or_before [] before = before
or_before (line ∷ lines) before = line

-- the line of a subject that was shown last in these steps, and else the one before them
abbrev pub last_shown : Scenario → State → List Choice → Subject → List ℕ → List ℕ
last_shown sc s [] x before = before
last_shown sc s (c ∷ cs) x before = let t = (step sc c s).after in
    last_shown sc t cs x (or_before (lines_of_subject false s t x) before)

-- whoever keeps the last line of each subject has the lines of the last state
abbrev pub LastLines : Type 0
LastLines =
    (sc : Scenario) (s : State) (cs : List Choice) (x : Subject)
    → last_shown sc s cs x (line_in s x) ≡ line_in (play sc s cs) x
