-- What a check finds.
use Rattle.std.specs.Prelude.{◌≡◌, ℕ, List}
use Rattle.zy_isa.specs.Scenario.{Scenario}
use Rattle.zy_text.specs.Text.{Means}
use Rattle.zy_listing.specs.Run.{listing_run}
use Rattle.zy_check.specs.declared.verdict.Verdict.{Verdict}
use Rattle.zy_text.specs.Cut.{cut}
use Rattle.zy_check.specs.Differs.{verdict}

-- the scenario part means a scenario, and this is the verdict on the input and that scenario's listing
abbrev pub IsVerdict : List ℕ → Verdict → Type 0
IsVerdict input v = (sc : Scenario) × Means (cut input) sc × (v ≡ verdict input (listing_run sc))

-- the input is the listing of the scenario that its scenario part means
abbrev pub IsListing : List ℕ → Type 0
IsListing input = (sc : Scenario) × Means (cut input) sc × (input ≡ listing_run sc)
