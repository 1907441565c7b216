-- What is answered of the ways along the logs is answered of the orders of the lines.
use Rattle.std.proofs.Common.{◌≡◌, ◌∙◌, ℕ, List, length, refl, sym, ap, subst, arith}
use Rattle.zy_isa.specs.declared.node.Actor.{Actor}
use Rattle.zy_isa.specs.declared.node.Actor.TheVariants.{C, A, B}
use Rattle.zy_isa.specs.declared.choice.Choice.{Choice}
use Rattle.zy_machine.specs.Histories.{History}
use Rattle.zy_logs.specs.declared.log_line.LogLine.{LogLine}
use Rattle.zy_order.specs.declared.logs.Logs.{Logs}
use Rattle.zy_order.specs.declared.gaps.Gaps.{Gaps}
use Rattle.zy_order.specs.declared.cursors.Cursors.{Cursors}
use Rattle.zy_order.specs.declared.plan.Plan.{Plan}
use Rattle.zy_order.specs.declared.answer.OrderAnswer.{OrderAnswer}
use Rattle.zy_order.specs.declared.answer.OrderAnswer.TheVariants.{Found, OtherEnd, Nowhere, Spent}
use Rattle.zy_order.specs.Gaps.{gaps_of, Completes}
use Rattle.zy_order.specs.Orders.{ToldStep, lines_of, all_of, lines_told, choices_told, Fits, IsPrefixOrder}
use Rattle.zy_order.specs.Ways.{log_of, cursor, at_start, IsNoFurther, AreLinesOf, AreMatched, IsWay, AreLogs}
use Rattle.zy_order.specs.Answers.{MatchesAll, MatchesWithEnd, MatchesPrefixes, MatchesFurthest, HasOtherEnd, IsNowhere, IsAnswer}
use Rattle.zy_order.specs.Reaches.{AnswersFor, IsPlan}
use Rattle.zy_order.proofs.GapLemmas.{ahead_start, ahead_whole}
use Rattle.zy_order.proofs.WayLemmas.{HaveGaps, within_start}
use Rattle.zy_order.proofs.OrderLemmas.{IsAhead, logs_in, order_of, way_of}
use Rattle.zy_order.proofs.LineLemmas.{log_is}

-- ---- one log, from its start

-- what completes the first lines of an actor's log is ahead of the start
from_start : (count : ℕ) (x : Actor) (l : Logs) (to : Cursors) (lines : List LogLine)
    → Completes count x (cursor x to) (log_of x l) (gaps_of x l.gaps) lines → IsAhead count l at_start to x lines
from_start count C l to lines c = ahead_start count C l.c.items l.gaps.c.items to.c.lines lines c
from_start count A l to lines c = ahead_start count A l.a.items l.gaps.a.items to.a.lines lines c
from_start count B l to lines c = ahead_start count B l.b.items l.gaps.b.items to.b.lines lines c

-- the other way
to_whole : (count : ℕ) (x : Actor) (l : Logs) (to : Cursors) (lines : List LogLine) → IsAhead count l at_start to x lines
    → Completes count x (cursor x to) (log_of x l) (gaps_of x l.gaps) lines
to_whole count C l to lines a = ahead_whole count C l.c.items l.gaps.c.items to.c.lines lines a
to_whole count A l to lines a = ahead_whole count A l.a.items l.gaps.a.items to.a.lines lines a
to_whole count B l to lines a = ahead_whole count B l.b.items l.gaps.b.items to.b.lines lines a

-- cursors that have taken these numbers of lines
abbrev cursors_with : (Actor → ℕ) → Cursors
cursors_with taken = record {
  c = record { lines = taken C; missing = 0 };
  a = record { lines = taken A; missing = 0 };
  b = record { lines = taken B; missing = 0 };
}

-- they have
lines_with : (x : Actor) (taken : Actor → ℕ) → cursor x (cursors_with taken) ≡ taken x
lines_with C taken = refl
lines_with A taken = refl
lines_with B taken = refl

-- ---- all three

module _ (h : History) (lines : List LogLine) (gaps : Gaps) (l : Logs) (is : AreLogs lines gaps l) (many : HaveGaps l)
    (are : (x : Actor) → AreLinesOf (length h.scenario.programs) x (log_of x l)) where
  -- the numbers of a scenario's transactions are below this
  abbrev count : ℕ
  count = length h.scenario.programs

  -- the logs are the lines of their actors
  logs_are : logs_in l ≡ (λ x. lines_of x lines)
  logs_are = λ i x. log_is x lines gaps l is i

  -- completions are of the lines and gaps where they are of the logs
  of_lines : (x : Actor) (k : ℕ) (order : List LogLine) → Completes count x k (log_of x l) (gaps_of x l.gaps) order
      → Completes count x k (lines_of x lines) (gaps_of x gaps) order
  of_lines x k order c =
      subst (λ (g : Gaps). Completes count x k (lines_of x lines) (gaps_of x g) order) is.of_gaps
      (subst (λ (ls : List LogLine). Completes count x k ls (gaps_of x l.gaps) order) (log_is x lines gaps l is) c)

  -- the other way
  of_logs : (x : Actor) (k : ℕ) (order : List LogLine) → Completes count x k (lines_of x lines) (gaps_of x gaps) order
      → Completes count x k (log_of x l) (gaps_of x l.gaps) order
  of_logs x k order c =
      subst (λ (ls : List LogLine). Completes count x k ls (gaps_of x l.gaps) order) (sym (log_is x lines gaps l is))
      (subst (λ (g : Gaps). Completes count x k (lines_of x lines) (gaps_of x g) order) (sym is.of_gaps) c)

  -- the choices of a way are those of an order of prefixes, which takes as many lines as the way matches
  order_by : (cs : List Choice) (to : Cursors) → IsWay h.scenario l at_start h.state cs to
      → (order : List ToldStep) × IsPrefixOrder h.scenario h.state lines gaps (λ x. cursor x to) order × (cs ≡ choices_told order)
  order_by cs to way =
      let found = order_of h.scenario l at_start to h.state cs many (within_start l) are way in
      let told = lines_told found.0 in (
        found.0,
        record {
          merges = λ x. of_lines x (cursor x to) (lines_of x told) (to_whole count x l to (lines_of x told) (found.1.ahead x));
          fits = subst (λ (log : Actor → List LogLine). Fits h.scenario log h.state found.0) logs_are found.1.fits;
        },
        found.1.choices,
      )

  -- so it matches prefixes of the logs
  matches_prefixes : (cs : List Choice) (to : Cursors) → IsWay h.scenario l at_start h.state cs to → MatchesPrefixes h lines gaps cs
  matches_prefixes cs to way = let found = order_by cs to way in ((λ x. cursor x to), found.0, found.1, found.2)

  -- where all lines are matched, as many are as each actor has
  all_taken : (to : Cursors) → AreMatched l to → (x : Actor) → cursor x to ≡ all_of lines x
  all_taken to end C = end.of_c ∙ ap (λ (ls : List LogLine). length ls) is.of_c
  all_taken to end A = end.of_a ∙ ap (λ (ls : List LogLine). length ls) is.of_a
  all_taken to end B = end.of_b ∙ ap (λ (ls : List LogLine). length ls) is.of_b

  -- an order of prefixes that takes other numbers of lines, which are the same
  taken_same : (taken others : Actor → ℕ) (order : List ToldStep) → ((x : Actor) → taken x ≡ others x)
      → IsPrefixOrder h.scenario h.state lines gaps taken order → IsPrefixOrder h.scenario h.state lines gaps others order
  taken_same taken others order same o = record {
    merges = λ x.
        subst (λ (k : ℕ). Completes count x k (lines_of x lines) (gaps_of x gaps) (lines_of x (lines_told order))) (same x) (o.merges x);
    fits = o.fits;
  }

  -- so a way to the end of the logs matches all lines
  matches_all : (cs : List Choice) (to : Cursors) → IsWay h.scenario l at_start h.state cs to → AreMatched l to → MatchesAll h lines gaps cs
  matches_all cs to way end =
      let found = order_by cs to way in
      (found.0, taken_same (λ x. cursor x to) (all_of lines) found.0 (all_taken to end) found.1, found.2)

  -- the choices of an order of prefixes are a way, which matches as many lines as the order takes
  way_by : (taken : Actor → ℕ) (order : List ToldStep) → IsPrefixOrder h.scenario h.state lines gaps taken order
      → (end : Cursors) × IsWay h.scenario l at_start h.state (choices_told order) end × ((x : Actor) → cursor x end ≡ taken x)
  way_by taken order o =
      let to = cursors_with taken in
      let told = lines_told order in
      let ahead : (x : Actor) → IsAhead count l at_start to x (lines_of x told) = λ x.
      from_start count x l to (lines_of x told)
      (of_logs x (cursor x to) (lines_of x told)
      (subst (λ (k : ℕ). Completes count x k (lines_of x lines) (gaps_of x gaps) (lines_of x told)) (sym (lines_with x taken)) (o.merges x))) in
      let fits = subst (λ (log : Actor → List LogLine). Fits h.scenario log h.state order) (sym logs_are) o.fits in
      let found = way_of h.scenario l at_start to h.state order are ahead fits in
      (found.end, found.way, λ x. found.lines x ∙ lines_with x taken)

  -- an order of all lines is a way to the end of the logs
  end_by : (order : List ToldStep) (end : Cursors) → ((x : Actor) → cursor x end ≡ all_of lines x) → AreMatched l end
  end_by order end all = record {
    of_c = all C ∙ ap (λ (ls : List LogLine). length ls) (sym is.of_c);
    of_a = all A ∙ ap (λ (ls : List LogLine). length ls) (sym is.of_a);
    of_b = all B ∙ ap (λ (ls : List LogLine). length ls) (sym is.of_b);
  }

  -- where no way leads further than one, it has the choices of a furthest order of prefixes
  matches_furthest : (cs : List Choice) (to : Cursors) → IsWay h.scenario l at_start h.state cs to
      → ((ds : List Choice) → (end : Cursors) → IsWay h.scenario l at_start h.state ds end → IsNoFurther end to)
      → MatchesFurthest h lines gaps cs
  matches_furthest cs to way most =
      let found = order_by cs to way in (
        (λ x. cursor x to),
        found.0,
        record {
          prefix = found.1;
          nodes = λ others other o.
              let by = way_by others other o in
              let no_further = most (choices_told other) by.0 by.1 in
              omega (arith, no_further.nodes, by.2 A, by.2 B);
          client = λ others other o e.
              let by = way_by others other o in
              let no_further = most (choices_told other) by.0 by.1 in
              omega (arith, no_further.client (omega (arith, e, by.2 A, by.2 B)), by.2 C);
        },
        found.2,
      )

-- so each answer that holds of the ways of a plan holds of the orders of its logs
pub answers : (p : Plan) (h : History) (lines : List LogLine) (gaps : Gaps) (a : OrderAnswer) → p.start ≡ h → AreLogs lines gaps p.logs
    → IsPlan p → AnswersFor p a → IsAnswer h lines gaps p.end a
answers p h lines gaps (Found v) same is plan x =
    subst (λ (k : History). MatchesWithEnd k lines gaps p.end v.items) same
    (record { all = matches_all p.start lines gaps p.logs is plan.gaps plan.lines v.items x.0 x.1 x.2.matched; end = x.2.end })
answers p h lines gaps (OtherEnd v) same is plan x =
    subst (λ (k : History). HasOtherEnd k lines gaps p.end v.items) same (record {
      all = matches_all p.start lines gaps p.logs is plan.gaps plan.lines v.items x.0 x.1.way x.1.matched;
      none = λ order o.
          let by = way_by p.start lines gaps p.logs is plan.gaps plan.lines (all_of lines) order o in
          x.1.none (choices_told order) by.0 by.1 (end_by p.start lines gaps p.logs is plan.gaps plan.lines order by.0 by.2);
    })
answers p h lines gaps (Nowhere v) same is plan x =
    subst (λ (k : History). IsNowhere k lines gaps v.items) same (record {
      none = λ order o.
          let by = way_by p.start lines gaps p.logs is plan.gaps plan.lines (all_of lines) order o in
          x.1.none (choices_told order) by.0 by.1 (end_by p.start lines gaps p.logs is plan.gaps plan.lines order by.0 by.2);
      furthest = matches_furthest p.start lines gaps p.logs is plan.gaps plan.lines v.items x.0 x.1.way x.1.most;
    })
answers p h lines gaps (Spent v) same is plan x =
    subst (λ (k : History). MatchesPrefixes k lines gaps v.items) same (matches_prefixes p.start lines gaps p.logs is plan.gaps plan.lines v.items x.0 x.1)
