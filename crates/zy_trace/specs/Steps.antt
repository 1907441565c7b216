-- A machine that makes the choices of its scenario one after another, and what is written of each.
use Rattle.std.specs.Prelude.{ℕ, ◌+◌, List, [], ◌∷◌, ◌++◌, length, get_or}
use Rattle.std.specs.List.{flat_map}
use Rattle.zy_isa.specs.declared.choice.Choice.{Choice}
use Rattle.zy_isa.specs.declared.choice.Choice.TheVariants.{Start}
use Rattle.zy_isa.specs.Scenario.{Scenario}
use Rattle.zy_io.specs.Writing.{line_of}
use Rattle.zy_table.specs.State.{Step}
use Rattle.zy_table.specs.Play.{play, entries, opening, step, entry_of}
use Rattle.zy_machine.specs.Histories.{History}
use Rattle.zy_serial.specs.SameMaps.{is_serial}
use Rattle.zy_trace.specs.declared.form.StepForm.{StepForm}
use Rattle.zy_trace.specs.Trace.{step_lines, last_lines}

-- the machine that has made these choices
abbrev pub ran : Scenario → List Choice → History
ran sc cs = record { scenario = sc; state = play sc (opening sc) cs; entries = entries sc (opening sc) cs }

-- the choice that a machine makes next
abbrev pub next_choice : History → Choice
next_choice h = get_or h.scenario.choices (length h.entries) Start

-- the step that it makes
abbrev pub next_step : History → Step
next_step h = step h.scenario (next_choice h) h.state

-- the machine after that step
abbrev pub with_next : History → History
with_next h = let x = next_step h in
    record { scenario = h.scenario; state = x.after; entries = h.entries ++ entry_of (next_choice h) x ∷ [] }

-- the lines of that step
abbrev pub next_lines : StepForm → History → List (List ℕ)
next_lines form h = step_lines form h.scenario (length h.entries + 1) h.state (next_choice h)

-- the text of a machine's last state, and whether the serial run agrees with it
abbrev pub end_text : History → List ℕ
end_text h = flat_map line_of (last_lines h.state (is_serial h.scenario h.state))
