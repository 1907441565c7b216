-- What the engine of a search writes.
use Rattle.std.specs.Prelude.{◌≡◌, ◌++◌, ◌⊎◌, ℕ, List, [], Option, Some, None, Result, IfOk, take}
use Rattle.zy_io.specs.Streams.{Sent}
use Rattle.zy_io.specs.Writing.{Wrote}
use Rattle.zy_io.specs.declared.writing.TextFault.{TextFault}
use Rattle.zy_text.specs.Canon.{canon}
use Rattle.zy_text.specs.Text.{Means}
use Rattle.zy_isa.specs.Scenario.{Scenario}
use Rattle.zy_isa.specs.declared.choice.Choice.{Choice}
use Rattle.zy_table.specs.Play.{play, opening, entries}
use Rattle.zy_machine.specs.Histories.{History}
use Rattle.zy_threads.specs.Orders.{reordered}
use Rattle.zy_search.specs.declared.answer.SearchAnswer.{SearchAnswer}
use Rattle.zy_search.specs.declared.answer.SearchAnswer.TheVariants.{Found, Nowhere, Spent}
use Rattle.zy_search.specs.declared.answer.SearchReport.{SearchReport}
use Rattle.zy_search.specs.declared.sought.Sought.{Sought}
use Rattle.zy_search.specs.Searches.{IsAnswer, IsDue}
use Rattle.zy_engine.specs.declared.searching.SearchOptions.{SearchOptions}
use Rattle.zy_engine.specs.declared.wording.Wording.{Wording}
use Rattle.zy_engine.specs.declared.wording.Wording.TheVariants as wording

-- the choices that are steps already taken: a scenario's first ones, where their number is given, or else all
abbrev pub taken : Option ℕ → Scenario → List Choice
taken None sc = sc.choices
taken (Some n) sc = take n sc.choices

-- the machine after them
abbrev pub history_of : Option ℕ → Scenario → History
history_of from sc = record {
  scenario = sc;
  state = play sc (opening sc) (taken from sc);
  entries = entries sc (opening sc) (taken from sc);
}

-- a text of a scenario, in one wording or the other: its canonical text, or one that means it
abbrev pub IsWorded : Wording → Scenario → List ℕ → Type 0
IsWorded wording.Canonical sc text = text ≡ canon sc
IsWorded wording.Own sc text = Means text sc ⊎ (text ≡ canon sc)

-- a text of an answer: of the scenario with the choices that were found behind those taken, or nothing
abbrev pub IsTextOf : Wording → Scenario → List Choice → SearchAnswer → List ℕ → Type 0
IsTextOf w sc choices (Found v) text = IsWorded w (reordered sc (choices ++ v.items)) text
IsTextOf w sc choices Nowhere text = text ≡ []
IsTextOf w sc choices (Spent n) text = text ≡ []

-- a call that writes some text like this
pub record WroteSome {X : Type 0} (Is : List ℕ → Type 0) (old new : Sent)
    (result : Result X TextFault) : Type 0 where
  pub text : List ℕ
  pub is : Is text
  pub wrote : Wrote old new result text

-- a call that writes a text of an answer, which at Ok is the one that is returned
pub record WroteAnswer (o : SearchOptions) (q : Sought) (sc : Scenario) (old new : Sent)
    (result : Result SearchReport TextFault) : Type 0 where
  pub answer : SearchAnswer
  pub is : IsAnswer (history_of o.from sc) q answer
  pub returned : IfOk result (λ r. r.answer ≡ answer)
  pub due : IfOk result (λ r. IsDue (history_of o.from sc) q o.most r.answer)
  pub wrote : WroteSome (IsTextOf o.wording sc (taken o.from sc) answer) old new result
