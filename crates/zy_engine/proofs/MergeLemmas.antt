-- The listing of a run whose choices were made in another order.
use Rattle.std.proofs.Common.{◌≡◌, ◌∙◌, Bool, List, [], ◌∷◌, ◌++◌, refl, sym, ap}
use Rattle.zy_isa.specs.declared.choice.Choice.{Choice}
use Rattle.zy_isa.specs.Scenario.{Scenario}
use Rattle.zy_table.specs.declared.entry.CommitRecord.{CommitRecord}
use Rattle.zy_table.specs.Database.{Map, database}
use Rattle.std.specs.List.{flat_map}
use Rattle.zy_io.specs.Writing.{line_of}
use Rattle.zy_text.specs.Canon.{canon}
use Rattle.zy_table.specs.declared.entry.Entry.{Entry}
use Rattle.zy_table.specs.Play.{opening, play, entries}
use Rattle.zy_table.specs.Run.{program_of}
use Rattle.zy_table.specs.Serial.{serial, alone}
use Rattle.zy_table.specs.State.{State}
use Rattle.zy_machine.specs.Histories.{History, choices_of}
use Rattle.zy_listing.specs.Listing.{listing, ending_texts}
use Rattle.zy_serial.specs.Lone.{map_of}
use Rattle.zy_listing.specs.Run.{listing_run}
use Rattle.zy_serial.specs.SameMaps.{is_serial, same_map}
use Rattle.zy_threads.specs.Orders.{reordered, IsRunOf}
use Rattle.zy_threads.proofs.Reordered.{opening-reordered, play-reordered, entries-reordered}

-- the serial run does not ask for the choices
serial-reordered : (sc : Scenario) (order : List Choice) (m : Map) (cs : List CommitRecord) → serial (reordered sc order) m cs ≡ serial sc m cs
serial-reordered sc order m [] = refl
serial-reordered sc order m (c ∷ cs) = serial-reordered sc order (alone m (program_of sc c.txn) c.done).map cs

-- nor does the test against it
is_serial-reordered : (sc : Scenario) (order : List Choice) (s : State) → is_serial (reordered sc order) s ≡ is_serial sc s
is_serial-reordered sc order s = ap (λ m. same_map (database s) m) (serial-reordered sc order (map_of sc.rows) s.commits)

-- nor does the listing, but for its scenario part
listing-reordered : (sc : Scenario) (order : List Choice) (same : Bool) → listing (reordered sc order) order same ≡ listing sc order same
unfolding listing
listing-reordered sc order same =
    let s = opening-reordered sc order in
    let steps = ap (λ x. entries (reordered sc order) x order) s ∙ entries-reordered sc order (opening sc) order in
    let end = ap (λ x. play (reordered sc order) x order) s ∙ play-reordered sc order (opening sc) order in
    ap (λ (es : List Entry). canon (reordered sc order) ++ flat_map line_of
    (ending_texts es (play (reordered sc order) (opening (reordered sc order)) order) same)) steps
    ∙ ap (λ (x : State). canon (reordered sc order) ++ flat_map line_of (ending_texts (entries sc (opening sc) order) x same)) end

-- a machine's listing is that of the run of its scenario with its choices in the order of its history
pub listing-again : (h : History)
    → (let order = choices_of h.entries in IsRunOf (reordered h.scenario order) h
    → listing h.scenario order (is_serial h.scenario h.state) ≡ listing_run (reordered h.scenario order))
listing-again h run =
    let order = choices_of h.entries in
    sym (listing-reordered h.scenario order (is_serial h.scenario h.state))
    ∙ ap (listing (reordered h.scenario order) order) (sym (is_serial-reordered h.scenario order h.state) ∙ ap (is_serial (reordered h.scenario order)) run.0)
