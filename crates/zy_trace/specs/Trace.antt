-- The trace of a scenario: its opening state, its steps, and below each step the lines of the state that it changed.
use Rattle.std.specs.Prelude.{ℕ, ◌+◌, Bool, List, [], ◌∷◌, ◌++◌, codes, map}
use Rattle.std.specs.List.{flat_map}
use Rattle.zy_isa.specs.declared.choice.Choice.{Choice}
use Rattle.zy_text.specs.Canon.{canon}
use Rattle.zy_isa.specs.Scenario.{Scenario}
use Rattle.zy_io.specs.Writing.{line_of}
use Rattle.zy_table.specs.State.{State}
use Rattle.zy_table.specs.declared.observation.Observation.{Observation}
use Rattle.zy_table.specs.Observations.{observation_at}
use Rattle.zy_table.specs.Play.{play, opening, step}
use Rattle.zy_listing.specs.Texts.{step_text, serial_text}
use Rattle.zy_listing.specs.Listing.{final_texts}
use Rattle.zy_serial.specs.SameMaps.{is_serial}
use Rattle.zy_trace.specs.declared.form.StepForm.{StepForm}
use Rattle.zy_trace.specs.declared.form.StepForm.TheVariants.{Lines, Object, TracedObject}
use Rattle.zy_trace.specs.Objects.{object_text, traced_text}
use Rattle.zy_trace.specs.Subjects.{changed, inset, state_lines}

-- what step i shows, and the lines that it changed: its line and below it those, one object without them, or one with them
abbrev pub form_lines : StepForm → ℕ → Observation → List (List ℕ) → List (List ℕ)
form_lines Lines i o lines = step_text i o.entry ∷ map inset lines
form_lines Object i o lines = object_text o ∷ []
form_lines TracedObject i o lines = traced_text o lines ∷ []

-- step i, a choice made in a state, and what it changed
abbrev pub step_lines : StepForm → Scenario → ℕ → State → Choice → List (List ℕ)
step_lines form sc i s c = form_lines form i (observation_at sc s c) (changed s (step sc c s).after)

-- the lines of the step of each choice, from step i on
abbrev pub steps_lines : StepForm → Scenario → ℕ → State → List Choice → List (List ℕ)
steps_lines form sc i s [] = []
steps_lines form sc i s (c ∷ cs) = step_lines form sc i s c ++ steps_lines form sc (i + 1) (step sc c s).after cs

abbrev pub opening_lines : State → List (List ℕ)
opening_lines s = codes "trace" ∷ codes "0 opening" ∷ map inset (state_lines s)

-- the end of the listing
abbrev pub last_lines : State → Bool → List (List ℕ)
last_lines s same = final_texts s ++ (serial_text same ∷ codes "end" ∷ [])

-- what is below the scenario
abbrev pub trace_lines : Scenario → State → Bool → List (List ℕ)
trace_lines sc t same = opening_lines (opening sc) ++ (steps_lines Lines sc 1 (opening sc) sc.choices ++ last_lines t same)

-- the trace, where the choices have led to state t
unfoldable pub trace_from : Scenario → State → List ℕ
trace_from sc t = canon sc ++ flat_map line_of (trace_lines sc t (is_serial sc t))

abbrev pub trace : Scenario → List ℕ
trace sc = trace_from sc (play sc (opening sc) sc.choices)

-- the steps of a run in this form
abbrev pub steps_text : StepForm → Scenario → List ℕ
steps_text form sc = flat_map line_of (steps_lines form sc 1 (opening sc) sc.choices)
