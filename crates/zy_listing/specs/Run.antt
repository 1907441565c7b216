-- What a run of the program gives, and what a call that writes something of it does.
use Rattle.std.specs.Prelude.{◌≡◌, ℕ, List, Result, IfOk}
use Rattle.zy_io.specs.Streams.{Sent}
use Rattle.zy_io.specs.Writing.{Wrote}
use Rattle.zy_io.specs.declared.writing.TextFault.{TextFault}
use Rattle.zy_isa.specs.Scenario.{Scenario}
use Rattle.zy_table.specs.Play.{entries, play, opening}
use Rattle.zy_machine.specs.Histories.{choices_of, History}
use Rattle.zy_listing.specs.Listing.{listing}
use Rattle.zy_serial.specs.SameMaps.{is_serial}

-- the listing of a machine, with what the test against the serial run says at its end
abbrev pub listing_of : History → List ℕ
listing_of m = listing m.scenario (choices_of m.entries) (is_serial m.scenario m.state)

-- the listing of a scenario under its choices, with what the test against the serial run says at its end
abbrev pub listing_run : Scenario → List ℕ
listing_run sc = listing sc sc.choices (is_serial sc (play sc (opening sc) sc.choices))

-- the machine that has made all choices of a scenario
abbrev pub run_of : Scenario → History
run_of sc = record {
  scenario = sc;
  state = play sc (opening sc) sc.choices;
  entries = entries sc (opening sc) sc.choices;
}

-- A call that writes something of a scenario. The writer's bytes went from old to new, and the number of its calls that failed
-- from before to after.
module _ {X : Type 0} (output : Scenario → List ℕ) (sc : Scenario) (old new : Sent) where
  -- at Ok all of it went out; else a prefix of it
  abbrev pub WroteOutput : Result X TextFault → Type 0
  WroteOutput result = Wrote old new result (output sc)

-- and that makes its choices: it returns the machine that has made them
pub record WroteRun (output : Scenario → List ℕ) (sc : Scenario) (old new : Sent)
    (result : Result History TextFault) : Type 0 where
  pub wrote : WroteOutput output sc old new result
  pub machine : IfOk result (λ m. m ≡ run_of sc)
