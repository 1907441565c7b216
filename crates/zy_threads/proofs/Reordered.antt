-- A replay is the run of a scenario.
use Rattle.std.proofs.Common.{◌∙◌, sym}
use Rattle.zy_machine.specs.Histories.{History, IsReplay, choices_of}
use Rattle.zy_table.specs.Play.{opening}
use Rattle.zy_threads.specs.Orders.{reordered, IsRunOf}
pub use Rattle.zy_laws.proofs.walk.Reordered.{play-reordered, entries-reordered, opening-reordered}

-- a replay is the run of its scenario with its choices in the order of its history
pub is_run : (h : History) → IsReplay h → IsRunOf (reordered h.scenario (choices_of h.entries)) h
is_run h r =
    let sc = h.scenario in
    let order = choices_of h.entries in (
      r.state ∙ sym (rw (opening-reordered sc order) (play-reordered sc order (opening sc) order)),
      r.entries ∙ sym (rw (opening-reordered sc order) (entries-reordered sc order (opening sc) order)),
    )
