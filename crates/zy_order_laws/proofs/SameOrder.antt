-- Orders of the same logs, which have no gaps and whose lines are of their actors and tell their outcomes, have the same migration order.
use Rattle.std.proofs.Common.{◌≡◌, ◌∙◌, ℕ, ◌++◌, List, [], ◌∷◌, ap, append_assoc, arith, false, inl, inr, length, refl, subst, sym, true, ◌≤◌}
use Rattle.std.specs.Prelude.{Bool, IfSome, None, Option, Some, if◌then◌else◌, is_some, option_to_list, sum}
use Rattle.std.proofs.lemmas.Bool.{cases_Bool, cond_both, false≢true}
use Rattle.std.proofs.lemmas.List.Sums.{sum_by-cons}
use Rattle.zy_isa.specs.Choices.{actor_at, actor_of}
use Rattle.zy_isa.specs.Scenario.{IsScenario, Scenario}
use Rattle.zy_isa.specs.declared.choice.Choice.{Choice}
use Rattle.zy_isa.specs.declared.node.Actor.{Actor}
use Rattle.zy_isa.specs.declared.node.Actor.TheVariants as actor
use Rattle.zy_isa.specs.declared.version.Version.{Version}
use Rattle.zy_table.specs.Play.{entries, opening, play, step}
use Rattle.zy_table.specs.State.{State}
use Rattle.zy_table.specs.declared.outcome.Outcome.{Outcome}
use Rattle.zy_laws.specs.SourceFirst.{migration_order}
use Rattle.zy_outcomes.specs.Accounts.{who_begins, who_commits}
use Rattle.zy_patterns.specs.Patterns.{matches}
use Rattle.zy_logs.specs.declared.log_line.LogLine.{LogLine}
use Rattle.zy_patterns.specs.declared.patterns.OutcomePattern.{OutcomePattern}
use Rattle.zy_threads.specs.Turns.{is_a, is_b, is_by, is_c}
use Rattle.zy_order.specs.declared.gaps.Gaps.{Gaps}
use Rattle.zy_order.specs.Gaps.{Completes, gap_count, gaps_of}
use Rattle.zy_order.specs.Orders.{ToldStep, AreOne, AreWhole, Fits, IsOrder, choices_told, lines_of, lines_told, stands_in}
use Rattle.zy_order.proofs.WayLemmas.{no_client}
use Rattle.zy_order_laws.specs.Complete.{AllOwn, AllTell, AreComplete}
use Rattle.zy_order_laws.specs.SameLogs.{named_by, txns_of}
use Rattle.zy_order_laws.proofs.SameLogs.{same_order}
use Rattle.zy_order_laws.proofs.Sorts.{Sort, begins_by, begins_by_client, begins_is, commits_by, commits_by_node, commits_is, sort_of, sort_told, tells_sort}

-- ---- logs without gaps

-- a list that is as long as none is empty
none_long : (lines : List LogLine) (n : ℕ) → length lines ≤ n → n ≡ 0 → lines ≡ []
none_long [] n few none = refl
none_long (line ∷ lines) n few none = absurd (omega (arith, few, none))

-- where nothing may be missing, a log completes to itself alone
whole : (count : ℕ) (x : Actor) (log : List LogLine) (gaps : List ℕ) (lines : List LogLine) → sum gaps ≡ 0
    → Completes count x (length log) log gaps lines → lines ≡ log
whole count x log [] lines none h = absurd h
whole count x [] (n ∷ gaps) lines none h =
    let parts = sum_by-cons (λ (m : ℕ). m) n gaps in none_long lines n h.few (omega (arith, none, parts))
whole count x (line ∷ log) (n ∷ gaps) lines none h =
    let parts = sum_by-cons (λ (m : ℕ). m) n gaps in
    h.is ∙ ap (λ ls. ls ++ line ∷ h.rest) (none_long h.filled n h.gap.few (omega (arith, none, parts)))
    ∙ ap (λ ls. line ∷ ls) (whole count x log gaps h.rest (omega (arith, none, parts)) h.goes_on)

-- where no step is missing, none is of an actor
no_gaps : (x : Actor) (gaps : Gaps) → gap_count gaps ≡ 0 → sum (gaps_of x gaps) ≡ 0
no_gaps actor.C gaps none = omega (arith, none)
no_gaps actor.A gaps none = omega (arith, none)
no_gaps actor.B gaps none = omega (arith, none)

-- so each actor's lines in an order are those of its log
same_lines : (sc : Scenario) (s : State) (lines : List LogLine) (gaps : Gaps) (order : List ToldStep) (x : Actor) → gap_count gaps ≡ 0
    → IsOrder sc s lines gaps order → lines_of x (lines_told order) ≡ lines_of x lines
same_lines sc s lines gaps order x none h =
    whole (length sc.programs) x (lines_of x lines) (gaps_of x gaps) (lines_of x (lines_told order)) (no_gaps x gaps none) (h.merges x)

-- the lines of a log tell their outcomes, where all lines do
log_tells : (x : Actor) (lines : List LogLine) → AllTell lines → AllTell (lines_of x lines)
log_tells x [] h = tt
log_tells x (line ∷ lines) h =
    cond_both (stands_in x line) (line ∷ lines_of x lines) (lines_of x lines) AllTell (λ _. (h.0, log_tells x lines h.1)) (λ _. log_tells x lines h.1)

-- ---- steps that one line alone tells

-- the lines of a log stand in the logs of their choices' actors, where all lines do
log_own : (x : Actor) (lines : List LogLine) → AllOwn lines → AllOwn (lines_of x lines)
log_own x [] h = tt
log_own x (line ∷ lines) h =
    cond_both (stands_in x line) (line ∷ lines_of x lines) (lines_of x lines) AllOwn (λ _. (h.0, log_own x lines h.1)) (λ _. log_own x lines h.1)

-- a line stands in its log
stands_there : (x : Actor) (line : LogLine) → line.log ≡ x → stands_in x line ≡ true
stands_there actor.C line e = ap is_c e
stands_there actor.A line e = ap is_a e
stands_there actor.B line e = ap is_b e

-- and in that of its choice's actor, if this is its log
stands_by : (x : Actor) (line : LogLine) → line.log ≡ actor_of line.choice → stands_in x line ≡ is_by x line.choice
stands_by actor.C line e = ap is_c e
stands_by actor.A line e = ap is_a e
stands_by actor.B line e = ap is_b e

-- of such lines the first one does
own_first : (line : LogLine) (lines : List LogLine) (b : Bool) → b ≡ true → AllOwn (if b then line ∷ lines else lines)
    → line.log ≡ actor_of line.choice
own_first line lines true e own = own.0
own_first line lines false e own = absurd (false≢true e)

-- and so do the others
own_others : (line : LogLine) (lines : List LogLine) (b : Bool) → AllOwn (if b then line ∷ lines else lines) → AllOwn lines
own_others line lines true own = own.1
own_others line lines false own = own

-- all lines do where those of each log do
each_own : (lines : List LogLine) → ((x : Actor) → AllOwn (lines_of x lines)) → AllOwn lines
each_own [] own = tt
each_own (line ∷ lines) own = (
  own_first line (lines_of line.log lines) (stands_in line.log line) (stands_there line.log line refl) (own line.log),
  each_own lines (λ x. own_others line (lines_of x lines) (stands_in x line) (own x)),
)

-- a step is told by one line alone, which stands in the log of its choice's actor
record IsAlone (x : ToldStep) : Type 0 where
  own : x.line.log ≡ actor_of x.line.choice
  alone : x.other ≡ None

-- each of many is
abbrev AreAlone : List ToldStep → Type 0
AreAlone [] = Unit {0}
AreAlone (x ∷ xs) = IsAlone x × AreAlone xs

-- two lines of one step do not both stand in the log of its actor
not_both : (v : Version) (log : Actor → List LogLine) (line other : LogLine) → line.log ≡ actor_of line.choice → other.log ≡ actor_of other.choice
    → AreOne v log line other → ⊥
not_both v log line other first second one =
    no_client one.node (sym one.client ∙ (first ∙ (ap actor_of one.may.choice ∙ (sym second ∙ one.stands))))

-- so there is no second line, and those of the other steps stand in the logs of their actors as well
one_alone : (v : Version) (log : Actor → List LogLine) (line : LogLine) (other : Option LogLine) (rest : List LogLine) → AreWhole v log line other
    → AllOwn (line ∷ (option_to_list other ++ rest)) → (other ≡ None) × AllOwn rest
one_alone v log line None rest whole own = (refl, own.1)
one_alone v log line (Some other) rest whole own = absurd (not_both v log line other own.0 own.1.0 whole)

-- steps that fit are each told by one line alone, where all lines stand in the logs of their choices' actors
fit_alone : (sc : Scenario) (log : Actor → List LogLine) (s : State) (order : List ToldStep) → Fits sc log s order → AllOwn (lines_told order)
    → AreAlone order
fit_alone sc log s [] fits own = tt
fit_alone sc log s (x ∷ xs) fits own =
    let one = one_alone sc.version log x.line x.other (lines_told xs) fits.0 own in
    (record { own = own.0; alone = one.0 }, fit_alone sc log (step sc x.line.choice s).after xs fits.2 one.1)

-- no step of an order of complete logs has a second line
no_second_line : (sc : Scenario) (s : State) (lines : List LogLine) (gaps : Gaps) → AreComplete lines gaps → (order : List ToldStep)
    → IsOrder sc s lines gaps order → AreAlone order
no_second_line sc s lines gaps complete order h =
    fit_alone sc (λ x. lines_of x lines) s order h.fits
    (each_own (lines_told order) (λ x. subst AllOwn (sym (same_lines sc s lines gaps order x complete.whole h)) (log_own x lines complete.own)))

-- the lines of an order are the one of its first step, and those behind it
alone_lines : (x : ToldStep) (xs : List ToldStep) → IsAlone x → lines_told (x ∷ xs) ≡ x.line ∷ lines_told xs
alone_lines x xs one = ap (λ (other : Option LogLine). x.line ∷ (option_to_list other ++ lines_told xs)) one.alone

-- ---- whom the lines of an actor name

-- whom entries name in a way that the sort of the outcome decides, and that only choices of x have
module _ (who : Choice → Outcome → List ℕ) (by : Choice → Sort → List ℕ) (is : (c : Choice) (o : Outcome) → who c o ≡ by c (sort_of o))
    (x : Actor) (only : (c : Choice) (o : Outcome) → is_by x c ≡ false → who c o ≡ []) where
  -- whom a choice names with what is told of it
  abbrev named : Choice → Option OutcomePattern → List ℕ
  named c None = []
  named c (Some t) = by c (sort_told t)

  -- whom lines name
  abbrev all_named : List LogLine → List ℕ
  all_named [] = []
  all_named (line ∷ lines) = named line.choice line.told ++ all_named lines

  -- the line that tells an outcome names whom its entry does
  line_names : (c : Choice) (o : Outcome) (t : Option OutcomePattern) → IfSome t (λ y. matches y o ≡ true) → is_some t ≡ true → who c o ≡ named c t
  line_names c o None h tells = absurd (false≢true tells)
  line_names c o (Some t) h tells = is c o ∙ ap (by c) (tells_sort t o h)

  -- so whom the entries of an order name is told by the lines of x in it, where each step is told by one line alone
  order_names : (sc : Scenario) (log : Actor → List LogLine) (order : List ToldStep) (s : State) → Fits sc log s order → AreAlone order
      → AllTell (lines_of x (lines_told order)) → named_by who (entries sc s (choices_told order)) ≡ all_named (lines_of x (lines_told order))
  order_names sc log [] s fits alone told = refl
  order_names sc log (y ∷ ys) s fits alone told =
      let line = y.line in
      let o = (step sc line.choice s).outcome in
      let after = (step sc line.choice s).after in
      let rest = named_by who (entries sc after (choices_told ys)) in
      let behind = lines_of x (lines_told ys) in
      let first : lines_of x (lines_told (y ∷ ys)) ≡ (if stands_in x line then line ∷ behind else behind) =
      ap (λ (ls : List LogLine). lines_of x ls) (alone_lines y ys alone.0) in
      let parts : lines_of x (lines_told (y ∷ ys)) ≡ (if is_by x line.choice then line ∷ behind else behind) =
      first ∙ ap (λ b. if b then line ∷ behind else behind) (stands_by x line alone.0.own) in
      elim (cases_Bool (is_by x line.choice)) [
        | inl own ↦
            let all : lines_of x (lines_told (y ∷ ys)) ≡ line ∷ behind = parts ∙ ap (λ b. if b then line ∷ behind else behind) own in
            let each : AllTell (line ∷ behind) = subst AllTell all told in
            ap (λ ts. ts ++ rest) (line_names line.choice o line.told fits.1.0.0 each.0)
            ∙ ap (λ ts. named line.choice line.told ++ ts) (order_names sc log ys after fits.2 alone.1 each.1) ∙ sym (ap all_named all)
        | inr far ↦
            let all : lines_of x (lines_told (y ∷ ys)) ≡ behind = parts ∙ ap (λ b. if b then line ∷ behind else behind) far in
            ap (λ ts. ts ++ rest) (only line.choice o far) ∙ order_names sc log ys after fits.2 alone.1 (subst AllTell all told)
            ∙ sym (ap all_named all)
      ]

  -- whom the entries of a run in two parts name
  both_name : (sc : Scenario) (s : State) (cs ds : List Choice)
      → named_by who (entries sc s (cs ++ ds)) ≡ named_by who (entries sc s cs) ++ named_by who (entries sc (play sc s cs) ds)
  both_name sc s [] ds = refl
  both_name sc s (c ∷ cs) ds =
      let z = step sc c s in
      ap (λ ts. who c z.outcome ++ ts) (both_name sc z.after cs ds)
      ∙ sym (append_assoc (who c z.outcome) (named_by who (entries sc z.after cs)) (named_by who (entries sc (play sc z.after cs) ds)))

  -- in each order the same are named
  same_names : (sc : Scenario) (before : List Choice) (lines : List LogLine) (gaps : Gaps) → AreComplete lines gaps → (order : List ToldStep)
      → IsOrder sc (play sc (opening sc) before) lines gaps order
      → named_by who (entries sc (opening sc) (before ++ choices_told order)) ≡ named_by who (entries sc (opening sc) before) ++ all_named (lines_of x lines)
  same_names sc before lines gaps complete order h =
      let s = play sc (opening sc) before in
      let log = same_lines sc s lines gaps order x complete.whole h in
      both_name sc (opening sc) before (choices_told order)
      ∙ ap (λ ts. named_by who (entries sc (opening sc) before) ++ ts)
      (order_names sc (λ y. lines_of y lines) order s h.fits (no_second_line sc s lines gaps complete order h)
      (subst AllTell (sym log) (log_tells x lines complete.told)) ∙ ap all_named log)

-- ---- the law

-- the begins of each order are those of the client's log, and the commits at a node those of its log
pub one_migration_order : (sc : Scenario) → IsScenario sc → (before : List Choice) (lines : List LogLine) (gaps : Gaps) → AreComplete lines gaps
    → (one other : List ToldStep) → let s = play sc (opening sc) before in IsOrder sc s lines gaps one → IsOrder sc s lines gaps other
    → txns_of (migration_order sc (before ++ choices_told one)) ≡ txns_of (migration_order sc (before ++ choices_told other))
one_migration_order sc ok before lines gaps complete one other a b =
    same_order sc ok (before ++ choices_told one) (before ++ choices_told other) (record {
      begins = same_names who_begins begins_by begins_is actor.C begins_by_client sc before lines gaps complete one a
          ∙ sym (same_names who_begins begins_by begins_is actor.C begins_by_client sc before lines gaps complete other b);
      commits = λ n. let names = same_names (who_commits n) (commits_by n) (commits_is n) (actor_at n) (commits_by_node n) sc before lines gaps complete in
          names one a ∙ sym (names other b);
    })
