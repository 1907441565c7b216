-- Where steps may be missing from the logs that an input has, and how many.
use Rattle.std.specs.Prelude.{◌≡◌, ◌+◌, ℕ, List, [], ◌∷◌, Bool, if◌then◌else◌}
use Rattle.zy_isa.specs.declared.node.Actor.{Actor}
use Rattle.zy_isa.specs.declared.node.Actor.TheVariants.{C, A, B}
use Rattle.zy_threads.specs.Turns.{is_c, is_a, is_b}
use Rattle.zy_logs.specs.declared.log_line.Logged.{Logged}
use Rattle.zy_logs.specs.declared.log_line.Logged.TheVariants.{Step, Gap}
use Rattle.zy_logs.specs.declared.logs.NumberedLine.{NumberedLine}
use Rattle.zy_order.specs.declared.gaps.Gaps.{Gaps}
use Rattle.zy_order.specs.Gaps.{gaps_of}

-- the second actor is the first
abbrev pub is_of : Actor → Actor → Bool
is_of C y = is_c y
is_of A y = is_a y
is_of B y = is_b y

-- where n steps of an actor may be missing so far: a line of its log ends the gap, and a gap of its own adds to it
abbrev pub and_then : ℕ → Actor → ℕ → Logged → (ℕ → List ℕ) → List ℕ
and_then gap x n (Step line) rest = if is_of x line.log then n ∷ rest 0 else rest n
and_then gap x n (Gap y) rest = if is_of x y then rest (n + gap) else rest n

-- how many steps of an actor may be missing before each line of its log, and behind the last, where n may be so far
abbrev pub gaps_from : ℕ → Actor → ℕ → List NumberedLine → List ℕ
gaps_from gap x n [] = n ∷ []
gaps_from gap x n (l ∷ lines) = and_then gap x n l.logged (λ m. gaps_from gap x m lines)

-- the gaps of lines, where a gap stands for at most `gap` steps
abbrev pub AreGapsIn : ℕ → List NumberedLine → Gaps → Type 0
AreGapsIn gap lines gaps = (x : Actor) → gaps_of x gaps ≡ gaps_from gap x 0 lines
