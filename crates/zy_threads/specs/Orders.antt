-- A scenario whose choices were made in another order.
use Rattle.std.specs.Prelude.{◌≡◌}
use Rattle.zy_isa.specs.Scenario.{Scenario}
use Rattle.zy_table.specs.Play.{play, opening, entries}
use Rattle.zy_machine.specs.Histories.{History}
pub use Rattle.zy_laws.specs.Orders.{reordered}

-- the state and the steps are those of the scenario's run by one thread
abbrev pub IsRunOf : Scenario → History → Type 0
IsRunOf sc h = (h.state ≡ play sc (opening sc) sc.choices) × (h.entries ≡ entries sc (opening sc) sc.choices)
