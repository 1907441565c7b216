-- The listing of a machine that has made all choices of its scenario.
use Rattle.std.proofs.Common.{◌≡◌, ◌∙◌, ap}
use Rattle.zy_isa.specs.Scenario.{Scenario}
use Rattle.zy_table.specs.Play.{play, opening}
use Rattle.zy_laws.proofs.walk.PlayPush.{choices-entries}
use Rattle.zy_machine.specs.Histories.{History}
use Rattle.zy_listing.specs.Listing.{listing}
use Rattle.zy_serial.specs.SameMaps.{is_serial}
use Rattle.zy_listing.specs.Run.{listing_of, listing_run, run_of}

-- its listing is that of the scenario
pub listing-whole : (sc : Scenario) (h : History) → h ≡ run_of sc → listing_of h ≡ listing_run sc
listing-whole sc h made =
    ap listing_of made
    ∙ ap (λ cs. listing sc cs (is_serial sc (play sc (opening sc) sc.choices))) (choices-entries sc (opening sc) sc.choices)
