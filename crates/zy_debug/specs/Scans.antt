-- The next position at which a stop fires, and the one before.
use Rattle.std.specs.Prelude.{ℕ, ◌≡◌, ◌<◌, ◌≤◌, Option, Some, None, length}
use Rattle.zy_isa.specs.Scenario.{Scenario}
use Rattle.zy_table.specs.State.{State}
use Rattle.zy_debug.specs.declared.stop.Stop.{Stop}
use Rattle.zy_debug.specs.declared.scan.Watched.{Watched}
use Rattle.zy_debug.specs.Stops.{Slots, firing, slot_reading}

-- m is the least position above p at which a stop fires, and i the lowest slot that fires there
pub record IsNext (sc : Scenario) (slots : Slots) (p m i : ℕ) : Type 0 where
  pub above : p < m
  pub most : m ≤ length sc.choices
  pub fires : firing sc slots m ≡ Some i
  pub least : (k : ℕ) → p < k → k < m → firing sc slots k ≡ None

-- m is the greatest position above b and below p at which a stop fires, and i the lowest slot that fires there
pub record IsLast (sc : Scenario) (slots : Slots) (b p m i : ℕ) : Type 0 where
  pub above : b < m
  pub below : m < p
  pub fires : firing sc slots m ≡ Some i
  pub greatest : (k : ℕ) → m < k → k < p → firing sc slots k ≡ None

-- what a look at the positions above b and below p has found
abbrev pub LastIn : Scenario → Slots → ℕ → ℕ → Option (ℕ × ℕ) → Type 0
LastIn sc slots b p (Some f) = IsLast sc slots b p f.0 f.1
LastIn sc slots b p None = (k : ℕ) → b < k → k < p → firing sc slots k ≡ None

-- where `cont` goes from p: to m, by slot i or to the end
abbrev pub Conts : Scenario → Slots → ℕ → Option ℕ → ℕ → Type 0
Conts sc slots p (Some i) m = IsNext sc slots p m i
Conts sc slots p None m = (m ≡ length sc.choices) × ((k : ℕ) → p < k → k ≤ length sc.choices → firing sc slots k ≡ None)

-- where `rcont` goes from p: to m, by slot i or to the start
abbrev pub RConts : Scenario → Slots → ℕ → Option ℕ → ℕ → Type 0
RConts sc slots p (Some i) m = IsLast sc slots 0 p m i
RConts sc slots p None m = (m ≡ 0) × ((k : ℕ) → 0 < k → k < p → firing sc slots k ≡ None)

-- a slot with what its stop reads in a state
abbrev pub watch_of : State → Option Stop → Watched
watch_of s x = record { slot = x; before = slot_reading x s }
