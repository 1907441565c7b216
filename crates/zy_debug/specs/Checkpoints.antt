-- Machines that are kept as they were at some positions.
use Rattle.std.specs.Prelude.{◌≡◌, ◌≤◌, ℕ, ◌==◌, Bool, List, [], ◌∷◌, ◌++◌, length, if◌then◌else◌}
use Rattle.std.specs.List.{list_any}
use Rattle.circular_buffer.specs.Buffer.{keep_last}
use Rattle.zy_isa.specs.Scenario.{Scenario}
use Rattle.zy_machine.specs.Histories.{History}
use Rattle.zy_machine.specs.Replays.{Follows}

-- the machines in the order in which they came, and how many there may be
pub record Kept : Type 0 where
  pub room : ℕ
  pub machines : List History

abbrev pub is_kept : Kept → ℕ → Bool
is_kept k m = list_any (λ (h : History). length h.entries == m) k.machines

-- a copy more, unless one of its position is kept; where there is no room the oldest goes
abbrev pub with_copy : History → Kept → Kept
with_copy h k = if is_kept k (length h.entries) then k
    else record k { machines = keep_last k.room (k.machines ++ h ∷ []) }

-- the copies that are spread over the scenario, the last ones that were passed, and those close to where a replay ended
pub record Shelves : Type 0 where
  pub spread : Kept
  pub passed : Kept
  pub close : Kept

-- a machine that has made the first choices of this scenario
pub record IsReplayOf (sc : Scenario) (h : History) : Type 0 where
  pub scenario : h.scenario ≡ sc
  pub follows : Follows h

abbrev pub AreReplaysOf : Scenario → List History → Type 0
AreReplaysOf sc [] = Unit {0}
AreReplaysOf sc (h ∷ hs) = IsReplayOf sc h × AreReplaysOf sc hs

pub record HoldReplaysOf (sc : Scenario) (s : Shelves) : Type 0 where
  pub spread : AreReplaysOf sc s.spread.machines
  pub passed : AreReplaysOf sc s.passed.machines
  pub close : AreReplaysOf sc s.close.machines

-- a machine that can be replayed to a position
pub record IsBelow (sc : Scenario) (t : ℕ) (h : History) : Type 0 where
  pub replay : IsReplayOf sc h
  pub below : length h.entries ≤ t
  pub target : t ≤ length sc.choices
