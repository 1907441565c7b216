-- How many steps may be missing in all.
use Rattle.std.proofs.Common.{◌≡◌, ◌∙◌, ◌+◌, ◌∷◌, ◌++◌, ℕ, suc, List, [], Bool, true, false, refl, sym, ap, arith, length}
use Rattle.std.specs.Prelude.{if◌then◌else◌, sum}
use Rattle.std.proofs.lemmas.List.Sums.{sum_by-cons}
use Rattle.zy_isa.specs.declared.node.Actor.{Actor}
use Rattle.zy_isa.specs.declared.node.Actor.TheVariants.{C, A, B}
use Rattle.zy_machine.specs.Histories.{History}
use Rattle.zy_threads.specs.Turns.{is_c, is_a, is_b}
use Rattle.zy_logs.specs.declared.log_line.LogLine.{LogLine}
use Rattle.zy_logs.specs.declared.log_line.Logged.{Logged}
use Rattle.zy_logs.specs.declared.log_line.Logged.TheVariants.{Step, Gap}
use Rattle.zy_logs.specs.declared.logs.NumberedLine.{NumberedLine}
use Rattle.zy_logs.specs.Logs.{steps_of, steps_in, step_of, steps}
use Rattle.zy_order.specs.declared.gaps.Gaps.{Gaps}
use Rattle.zy_order.specs.Orders.{lines_of}
use Rattle.zy_order.specs.Answers.{IsInput}
use Rattle.zy_order_engine.specs.Missing.{is_of, and_then, gaps_from, AreGapsIn}
use Rattle.zy_order_engine.specs.Ordering.{CanFollow}

-- ---- as many gaps as lines, and one

-- a line more, or not
longer : (n : ℕ) (line : LogLine) (lines : List LogLine) (rest : ℕ → List ℕ) (b : Bool) → ((m : ℕ) → length (rest m) ≡ length lines + 1)
    → length (if b then n ∷ rest 0 else rest n) ≡ length (if b then line ∷ lines else lines) + 1
longer n line lines rest true same = omega (arith, same 0)
longer n line lines rest false same = same n

-- the lines of an actor's log among one and others
lines_more : (x : Actor) (line : LogLine) (lines : List LogLine)
    → lines_of x (line ∷ lines) ≡ (if is_of x line.log then line ∷ lines_of x lines else lines_of x lines)
lines_more C line lines = refl
lines_more A line lines = refl
lines_more B line lines = refl

-- a gap more of any actor
gap_same : (n gap : ℕ) (b : Bool) (rest : ℕ → List ℕ) (lines : List LogLine) → ((m : ℕ) → length (rest m) ≡ length lines + 1)
    → length (if b then rest (n + gap) else rest n) ≡ length lines + 1
gap_same n gap true rest lines same = same (n + gap)
gap_same n gap false rest lines same = same n

-- by what a line says
gaps_behind : (gap : ℕ) (x : Actor) (n : ℕ) (logged : Logged) (rest : ℕ → List ℕ) (lines : List LogLine)
    → ((m : ℕ) → length (rest m) ≡ length (lines_of x lines) + 1)
    → length (and_then gap x n logged rest) ≡ length (lines_of x (step_of logged ++ lines)) + 1
gaps_behind gap x n (Step line) rest lines same =
    longer n line (lines_of x lines) rest (is_of x line.log) same ∙ ap (λ (ls : List LogLine). length ls + 1) (sym (lines_more x line lines))
gaps_behind gap x n (Gap y) rest lines same = gap_same n gap (is_of x y) rest (lines_of x lines) same

-- so there is a gap before each line of an actor's log, and one behind the last
gaps_many : (gap : ℕ) (x : Actor) (n : ℕ) (lines : List NumberedLine) → length (gaps_from gap x n lines) ≡ length (lines_of x (steps lines)) + 1
gaps_many gap C n [] = omega arith
gaps_many gap A n [] = omega arith
gaps_many gap B n [] = omega arith
gaps_many gap x n (l ∷ lines) =
    gaps_behind gap x n l.logged (λ m. gaps_from gap x m lines) (steps lines) (λ m. gaps_many gap x m lines)

-- ---- as many steps in all as the lines count for

-- what the gaps of the three actors have room for, with the lines of steps
abbrev in_all : ℕ → List ℕ → List ℕ → List ℕ → ℕ
in_all lines c a b = lines + (sum c + (sum a + sum b))

-- a line of an actor's log ends its gap
all_line : (y : Actor) (lines total n m k : ℕ) (c a b : ℕ → List ℕ) → ((i j l : ℕ) → in_all lines (c i) (a j) (b l) ≡ i + (j + l) + total)
    → in_all (suc lines) (if is_c y then n ∷ c 0 else c n) (if is_a y then m ∷ a 0 else a m) (if is_b y then k ∷ b 0 else b k)
    ≡ n + (m + k) + (1 + total)
all_line C lines total n m k c a b same = omega (arith, same 0 m k, sum_by-cons (λ x. x) n (c 0))
all_line A lines total n m k c a b same = omega (arith, same n 0 k, sum_by-cons (λ x. x) m (a 0))
all_line B lines total n m k c a b same = omega (arith, same n m 0, sum_by-cons (λ x. x) k (b 0))

-- a gap of an actor adds to its own
all_gap : (y : Actor) (lines total gap n m k : ℕ) (c a b : ℕ → List ℕ) → ((i j l : ℕ) → in_all lines (c i) (a j) (b l) ≡ i + (j + l) + total)
    → in_all lines (if is_c y then c (n + gap) else c n) (if is_a y then a (m + gap) else a m) (if is_b y then b (k + gap) else b k)
    ≡ n + (m + k) + (gap + total)
all_gap C lines total gap n m k c a b same = omega (arith, same (n + gap) m k)
all_gap A lines total gap n m k c a b same = omega (arith, same n (m + gap) k)
all_gap B lines total gap n m k c a b same = omega (arith, same n m (k + gap))

-- by what a line says
all_behind : (gap n m k : ℕ) (logged : Logged) (lines : List LogLine) (total : ℕ) (c a b : ℕ → List ℕ)
    → ((i j l : ℕ) → in_all (length lines) (c i) (a j) (b l) ≡ i + (j + l) + total)
    → in_all (length (step_of logged ++ lines)) (and_then gap C n logged c) (and_then gap A m logged a) (and_then gap B k logged b)
    ≡ n + (m + k) + (steps_of gap logged + total)
all_behind gap n m k (Step line) lines total c a b same = all_line line.log (length lines) total n m k c a b same
all_behind gap n m k (Gap y) lines total c a b same = all_gap y (length lines) total gap n m k c a b same

-- so the gaps of lines, and the lines of steps, have room for as many steps as the lines count for
all_steps : (gap n m k : ℕ) (lines : List NumberedLine)
    → in_all (length (steps lines)) (gaps_from gap C n lines) (gaps_from gap A m lines) (gaps_from gap B k lines)
    ≡ n + (m + k) + steps_in gap lines
all_steps gap n m k [] =
    omega (arith, sum_by-cons (λ x. x) n [], sum_by-cons (λ x. x) m [], sum_by-cons (λ x. x) k [])
all_steps gap n m k (l ∷ lines) =
    all_behind gap n m k l.logged (steps lines) (steps_in gap lines) (λ i. gaps_from gap C i lines) (λ i. gaps_from gap A i lines)
    (λ i. gaps_from gap B i lines) (λ i j l. all_steps gap i j l lines)

-- lines that can follow a machine's steps are an input of a search for an order, with their gaps
pub input_is : (h : History) (gap : ℕ) (lines : List NumberedLine) (gaps : Gaps) → CanFollow h gap lines → AreGapsIn gap lines gaps
    → IsInput h (steps lines) gaps
input_is h gap lines gaps follow are = record {
  logs = follow.logs;
  named = follow.named;
  many = λ x. ap (λ (ns : List ℕ). length ns) (are x) ∙ gaps_many gap x 0 lines;
  room = omega (
    arith,
    follow.room,
    all_steps gap 0 0 0 lines,
    ap (λ (ns : List ℕ). sum ns) (are C),
    ap (λ (ns : List ℕ). sum ns) (are A),
    ap (λ (ns : List ℕ). sum ns) (are B),
  );
}
