-- The lines of the logs: how many there are, and of which choices.
use Rattle.std.proofs.Common.{◌≡◌, ◌∙◌, ℕ, zero, suc, ◌+◌, inl, inr, List, [], ◌∷◌, length, refl, sym, ap, subst, arith, Bool, true, false}
use Rattle.std.specs.Prelude.{if◌then◌else◌}
use Rattle.zy_isa.specs.declared.node.Actor.{Actor}
use Rattle.zy_isa.specs.declared.node.Actor.TheVariants.{C, A, B}
use Rattle.zy_isa.specs.Choices.{names_below}
use Rattle.zy_isa.specs.Scenario.{AreNamed}
use Rattle.zy_machine.specs.Histories.{History, IsReplay}
use Rattle.zy_threads.specs.Turns.{is_c, is_a, is_b}
use Rattle.zy_logs.specs.Logs.{IsInALog, AreInLogs}
use Rattle.zy_logs.specs.declared.log_line.LogLine.{LogLine}
use Rattle.zy_order.specs.declared.logs.Logs.{Logs}
use Rattle.zy_order.specs.declared.plan.Plan.{Plan}
use Rattle.zy_order.specs.declared.gaps.Gaps.{Gaps}
use Rattle.zy_search.specs.Choices.{considered}
use Rattle.zy_order.specs.Orders.{lines_of, choices_of}
use Rattle.zy_order.specs.Ways.{log_of, line_count, IsLineOf, AreLinesOf, AreLogs}
use Rattle.zy_order.specs.Answers.{IsInput}
use Rattle.zy_order.specs.Gaps.{gaps_of, gap_count}
use Rattle.zy_order.specs.Reaches.{IsPlan, all_kinds}
use Rattle.zy_order.proofs.OrderLemmas.{is_same, lines_cons}

-- ---- how many

-- a list with one element more, or not
length_if : {X : Type 0} (b : Bool) (x : X) (xs : List X) → length (if b then x ∷ xs else xs) ≡ (if b then length xs + 1 else length xs)
length_if true x xs = omega arith
length_if false x xs = refl

-- one line more counts for one of the three actors
one_of : (x : Actor) (l m n k : ℕ) → l + (m + n) ≡ k → (if is_c x then l + 1 else l) + ((if is_a x then m + 1 else m) + (if is_b x then n + 1 else n)) ≡ k + 1
one_of C l m n k e = omega arith
one_of A l m n k e = omega arith
one_of B l m n k e = omega arith

-- the three actors have as many lines as there are
pub lines_lengths : (lines : List LogLine) → length (lines_of C lines) + (length (lines_of A lines) + length (lines_of B lines)) ≡ length lines
lines_lengths [] = refl
lines_lengths (line ∷ lines) =
    let x = line.log in
    let l : length (lines_of C (line ∷ lines)) ≡ (if is_c x then length (lines_of C lines) + 1 else length (lines_of C lines))
    = length_if (is_c x) line (lines_of C lines) in
    let m : length (lines_of A (line ∷ lines)) ≡ (if is_a x then length (lines_of A lines) + 1 else length (lines_of A lines))
    = length_if (is_a x) line (lines_of A lines) in
    let n : length (lines_of B (line ∷ lines)) ≡ (if is_b x then length (lines_of B lines) + 1 else length (lines_of B lines))
    = length_if (is_b x) line (lines_of B lines) in
    let all = one_of x (length (lines_of C lines)) (length (lines_of A lines)) (length (lines_of B lines)) (length lines) (lines_lengths lines) in
    (λ i. l i + (m i + n i)) ∙ all ∙ omega arith

-- so do the logs
pub logs_count : (lines : List LogLine) (gaps : Gaps) (l : Logs) → AreLogs lines gaps l → line_count l ≡ length lines
logs_count lines gaps l is = omega (arith, lines_lengths lines, ap length is.of_c, ap length is.of_a, ap length is.of_b)

-- ---- of which choices

-- the log of an actor is its lines
pub log_is : (x : Actor) (lines : List LogLine) (gaps : Gaps) (l : Logs) → AreLogs lines gaps l → log_of x l ≡ lines_of x lines
log_is C lines gaps l is = is.of_c
log_is A lines gaps l is = is.of_a
log_is B lines gaps l is = is.of_b

-- actors that are the same by the test are
same_actor : (x y : Actor) → is_same x y ≡ true → y ≡ x
same_actor C C e = refl
same_actor C A e = absurd (cc e)
same_actor C B e = absurd (cc e)
same_actor A C e = absurd (cc e)
same_actor A A e = refl
same_actor A B e = absurd (cc e)
same_actor B C e = absurd (cc e)
same_actor B A e = absurd (cc e)
same_actor B B e = refl

-- an actor has one line more, if it is of its log
lines_more : (count : ℕ) (x : Actor) (line : LogLine) (lines : List LogLine) (b : Bool) → (b ≡ true → IsLineOf count x line) → AreLinesOf count x lines
    → AreLinesOf count x (if b then line ∷ lines else lines)
lines_more count x line lines true is rest zero other e = let same : line ≡ other = cc e in subst (IsLineOf count x) same (is refl)
lines_more count x line lines true is rest (suc i) other e = rest i other e
lines_more count x line lines false is rest i other e = rest i other e

-- a line that stands in a log is of it
stands_of : (count : ℕ) (x : Actor) (line : LogLine) → IsInALog line → names_below count line.choice ≡ true → line.log ≡ x → IsLineOf count x line
stands_of count x line in_log named log = record {
  log = log;
  actor = elim in_log [ inl own ↦ inl (own ∙ log) | inr client ↦ inr client ];
  named = named;
}

-- the lines of an actor are of its log
lines_are_of : (count : ℕ) (x : Actor) (lines : List LogLine) → AreInLogs lines → AreNamed count (choices_of lines) → AreLinesOf count x (lines_of x lines)
lines_are_of count x [] in_logs named = λ i line e. absurd (cc e)
lines_are_of count x (line ∷ lines) in_logs named =
    subst (AreLinesOf count x) (sym (lines_cons x line lines))
    (lines_more count x line (lines_of x lines) (is_same x line.log) (λ e. stands_of count x line in_logs.0 named.0 (same_actor x line.log e))
    (lines_are_of count x lines in_logs.1 named.1))

-- a plan has logs of the lines, and its history has room for all steps
pub plan_is : (p : Plan) (h : History) (lines : List LogLine) (gaps : Gaps) → p.start ≡ h → AreLogs lines gaps p.logs → IsReplay h → IsInput h lines gaps
    → p.choices.items ≡ considered all_kinds (length h.scenario.programs)
    → IsPlan p
plan_is p h lines gaps same is replay input choices =
    let count = length p.start.scenario.programs in
    let named = subst (λ (k : History). AreNamed (length k.scenario.programs) (choices_of lines)) (sym same) input.named in
    record {
      replay = subst IsReplay (sym same) replay;
      lines = λ x. subst (AreLinesOf count x) (sym (log_is x lines gaps p.logs is)) (lines_are_of count x lines input.logs named);
      gaps = λ x.
          ap (λ (g : Gaps). length (gaps_of x g)) is.of_gaps ∙ (input.many x
          ∙ ap (λ (ls : List LogLine). length ls + 1) (sym (log_is x lines gaps p.logs is)));
      room = omega (
        arith,
        input.room,
        logs_count lines gaps p.logs is,
        ap gap_count is.of_gaps,
        ap (λ (k : History). length k.entries) same,
      );
      choices = choices ∙ ap (λ (k : History). considered all_kinds (length k.scenario.programs)) (sym same);
    }
