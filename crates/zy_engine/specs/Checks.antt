-- What the engine of a check does: its input is to be the listing of the scenario at its head.
use Rattle.std.specs.Prelude.{◌≡◌, ℕ, List, Result, Ok, Err, IfOk}
use Rattle.zy_io.specs.Streams.{Sent, Sends, SendsPrefix, NoneFailed, OneFailed}
use Rattle.zy_io.specs.Writing.{line_of}
use Rattle.zy_io.specs.declared.writing.TextFault.{TextFault}
use Rattle.zy_io.specs.declared.writing.TextFault.TheVariants as writing
use Rattle.zy_isa.specs.Scenario.{Scenario}
use Rattle.zy_text.specs.Cut.{cut}
use Rattle.zy_listing.specs.Run.{listing_run, run_of}
use Rattle.zy_check.specs.declared.verdict.Verdict.{Verdict}
use Rattle.zy_check.specs.Differs.{verdict, verdict_text}
use Rattle.zy_engine.specs.declared.checking.CheckedListing.{CheckedListing}
use Rattle.zy_engine.specs.declared.faults.BenchFault.{BenchFault}
use Rattle.zy_engine.specs.declared.format.Format.TheVariants.{Text}
use Rattle.zy_engine.specs.OnInput.{OnInput}

-- the words of a verdict, as they go out
abbrev pub verdict_line : Verdict → List ℕ
verdict_line v = line_of (verdict_text v)

-- A call that writes a text went from old to new.
module _ (old new : Sent) where
  -- at Ok all of the text went out; at Write a prefix of it, since a call failed or took none; at Memory nothing
  abbrev pub WroteOrNothing : {X : Type 0} → Result X TextFault → List ℕ → Type 0
  WroteOrNothing (Ok x) text = Sends old new text × NoneFailed old new
  WroteOrNothing (Err writing.Write) text = SendsPrefix old new text × OneFailed old new
  WroteOrNothing (Err writing.Memory) text = new ≡ old

-- a call that writes the verdict on an input and the listing of a scenario, and returns it with the machine of the run
pub record WroteVerdict (input : List ℕ) (sc : Scenario) (old new : Sent)
    (result : Result CheckedListing TextFault) : Type 0 where
  pub returned : IfOk result (λ c. c.verdict ≡ verdict input (listing_run sc))
  pub machine : IfOk result (λ c. c.machine ≡ run_of sc)
  pub wrote : WroteOrNothing old new result (verdict_line (verdict input (listing_run sc)))

-- it is due for the scenario part of the input
abbrev pub Checks : List ℕ → Sent → Sent → Result CheckedListing BenchFault → Type 0
Checks input = OnInput (WroteVerdict input) Text (cut input)
