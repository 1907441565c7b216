-- The scenario part of a listing gives that listing.
use Rattle.std.proofs.Common.{◌≡◌, ◌∙◌, ℕ, List, Result, Ok, Err, inl, inr, subst, sym}
use Rattle.zy_io.specs.Streams.{Sent, Sends}
use Rattle.zy_io.specs.Inputs.{reported_of}
use Rattle.zy_io.specs.declared.writing.TextFault.{TextFault}
use Rattle.zy_isa.specs.declared.choice.Choice.{Choice}
use Rattle.zy_text.specs.Canon.{canon}
use Rattle.zy_isa.specs.Scenario.{Scenario, IsScenario}
use Rattle.zy_text.specs.Text.{Means}
use Rattle.zy_asm.proofs.CanonLemmas.{Means-canon}
use Rattle.zy_asm.proofs.OnlyLemmas.{only, only_of}
use Rattle.zy_listing.specs.Run.{listing_run, WroteRun}
use Rattle.zy_check.proofs.LawLemmas.{cut-run}
use Rattle.zy_threads.specs.Orders.{reordered}
use Rattle.zy_threads.specs.Turns.{IsMerge}
use Rattle.zy_threads.proofs.MergeLemmas.{merge_scenario}
use Rattle.zy_machine.specs.Histories.{History}
use Rattle.zy_engine.specs.declared.format.Format.TheVariants.{Text}
use Rattle.zy_engine.specs.Again.{RunsAgain}
use Rattle.zy_engine.specs.Faults.{of_writing}
use Rattle.zy_engine.specs.OnInput.{OnInput}

-- a text means one scenario
means_one : (text : List ℕ) (s t : Scenario) → Means text s → Means text t → s ≡ t
means_one text s t h k = sym (only_of text _ s (only text s h) h) ∙ only_of text _ t (only text s h) k

-- a run of the canonical text of a scenario, where it is done, writes the listing of that scenario
module _ (sc : Scenario) (h : IsScenario sc) (old new : Sent) (machine : History) where
  -- what it wrote is a listing of a scenario that the text means
  wrote : (came : Result History TextFault) (s : Scenario) → Ok machine ≡ reported_of of_writing came → Means (canon sc) s
      → WroteRun listing_run s old new came → Sends old new (listing_run sc)
  wrote (Ok m) s e means due =
      subst (λ (t : Scenario). Sends old new (listing_run t)) (means_one (canon sc) s sc means (Means-canon sc h)) due.wrote.0
  wrote (Err f) s e means due = absurd (cc)

  written_again : OnInput (WroteRun listing_run) Text (canon sc) old new (Ok machine) → Sends old new (listing_run sc)
  written_again on = elim on [
    | inl done ↦ wrote done.came done.meant done.reported done.accepted.stands done.due
    | inr refused ↦ let e = refused.reported in absurd (cc)
  ]

-- the listing of a scenario gives itself again
scenario_again : (sc : Scenario) → IsScenario sc → RunsAgain sc
scenario_again sc h = record {
  part = cut-run sc h;
  means = Means-canon sc h;
  again = λ old new machine on. written_again sc h old new machine
      (subst (λ t. OnInput (WroteRun listing_run) Text t old new (Ok machine)) (cut-run sc h) on);
}

-- so does that of a scenario with its choices in another order
pub merge_again : (sc : Scenario) → IsScenario sc → (order : List Choice) → IsMerge order sc.choices → RunsAgain (reordered sc order)
merge_again sc h order merge = scenario_again (reordered sc order) (merge_scenario sc h order merge)
