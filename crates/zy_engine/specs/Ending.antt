-- What the engine writes that ends the migration of a scenario.
use Rattle.std.specs.Prelude.{◌≡◌, ◌<◌, ◌+◌, ◌++◌, ℕ, List, [], Result, IfOk, length}
use Rattle.zy_io.specs.Streams.{Sent}
use Rattle.zy_io.specs.declared.writing.TextFault.{TextFault}
use Rattle.zy_isa.specs.Limits.{max_choices}
use Rattle.zy_isa.specs.Scenario.{Scenario}
use Rattle.zy_isa.specs.declared.choice.Choice.{Choice}
use Rattle.zy_laws.specs.WayOut.{way_out}
use Rattle.zy_table.specs.Play.{opening, play}
use Rattle.zy_threads.specs.Orders.{reordered}
use Rattle.zy_engine.specs.declared.ending.Ending.{Ending}
use Rattle.zy_engine.specs.declared.ending.Ending.TheVariants.{Written, NoRoom}
use Rattle.zy_engine.specs.declared.wording.Wording.{Wording}
use Rattle.zy_engine.specs.Searching.{IsWorded, WroteSome}

-- the way out of the state that a scenario's choices lead to
abbrev pub way_of : Scenario → List Choice
way_of sc = way_out sc (play sc (opening sc) sc.choices)

-- a text of an answer: of the scenario with the way out behind its choices, or nothing, where there is no room for it
abbrev pub IsEnding : Wording → Scenario → Ending → List ℕ → Type 0
IsEnding w sc Written text = IsWorded w (reordered sc (sc.choices ++ way_of sc)) text
IsEnding w sc NoRoom text = (text ≡ []) × (max_choices < length sc.choices + length (way_of sc))

-- a call that writes a text of an answer, which at Ok is the one that is returned
pub record WroteEnding (w : Wording) (sc : Scenario) (old new : Sent)
    (result : Result Ending TextFault) : Type 0 where
  pub ending : Ending
  pub returned : IfOk result (λ e. e ≡ ending)
  pub wrote : WroteSome (IsEnding w sc ending) old new result
