-- The run of the scenario that goes out.
use Rattle.std.proofs.Common.{◌≡◌, ◌≤◌, ◌∙◌, ◌+◌, ◌++◌, ◌∷◌, ℕ, zero, suc, List, [], Bool, true, false, None, Option, Some, refl, sym, ap, subst, arith, length, length-append}
use Rattle.std.proofs.lemmas.List.{length-map}
use Rattle.std.specs.Prelude.{if◌then◌else◌, option_to_list, sum}
use Rattle.std.proofs.lemmas.List.Sums.{sum_by-cons}
use Rattle.zy_isa.specs.declared.node.Actor.{Actor}
use Rattle.zy_isa.specs.declared.node.Actor.TheVariants.{C, A, B}
use Rattle.zy_isa.specs.declared.choice.Choice.{Choice}
use Rattle.zy_isa.specs.Choices.{names_below}
use Rattle.zy_isa.specs.Limits.{max_choices}
use Rattle.zy_isa.specs.Scenario.{Scenario, IsScenario, AreNamed}
use Rattle.zy_table.specs.State.{State, Step}
use Rattle.zy_isa.specs.declared.choice.Choice.TheVariants.{Run, Start}
use Rattle.zy_isa.specs.declared.node.Node.{Node}
use Rattle.zy_isa.specs.declared.instr.Reg.{Reg}
use Rattle.zy_table.specs.declared.observation.Observation.{Observation}
use Rattle.zy_table.specs.Play.{step, play, opening, side_of, entry_of}
use Rattle.zy_table.specs.Observations.{observation_at, observations, register_of, value_after, rows_after, client_node}
use Rattle.zy_laws.specs.Orders.{reordered}
use Rattle.zy_laws.proofs.walk.Reordered.{one, opening-reordered}
use Rattle.zy_logs.specs.declared.log_line.LogLine.{LogLine}
use Rattle.zy_order.specs.Answers.{IsInput, MatchesAll, MatchesPrefixes}
use Rattle.zy_order.specs.declared.gaps.Gaps.{Gaps}
use Rattle.zy_order.specs.Gaps.{gaps_of, gap_count, AreMissing, Completes}
use Rattle.zy_order.specs.Orders.{ToldStep, Fits, Merges, IsPrefixOrder, all_of, choices_of, choices_told, lines_in, lines_of, lines_told}
use Rattle.zy_order.proofs.OrderLemmas.{is_same, lines_cons}
use Rattle.zy_order.proofs.LineLemmas.{lines_lengths}
use Rattle.zy_engine.specs.Searching.{history_of}
use Rattle.zy_order_engine.specs.Runs.{extended, steps_of, AgreeEach, RunsOrder, RunsPrefix}
use Rattle.zy_laws.proofs.walk.PlayPush.{length-entries}

-- ---- its steps

-- the steps of choices, and of others behind them
observations-append : (sc : Scenario) (s : State) (cs ds : List Choice)
    → observations sc s (cs ++ ds) ≡ observations sc s cs ++ observations sc (play sc s cs) ds
observations-append sc s [] ds = refl
observations-append sc s (c ∷ cs) ds = ap (λ os. observation_at sc s c ∷ os) (observations-append sc (step sc c s).after cs ds)

-- the register that a choice shows does not ask for the choices that the scenario itself names
register-reordered : (sc : Scenario) (order : List Choice) (s : State) (c : Choice) → register_of (reordered sc order) s c ≡ register_of sc s c
register-reordered sc order s (Run n t) = refl
register-reordered sc order s c = refl

-- nor does the side from which it is made
side-reordered : (sc : Scenario) (order : List Choice) (s : State) (c : Choice) → side_of (reordered sc order) c s ≡ side_of sc c s
side-reordered sc order s Start = refl
side-reordered sc order s c = refl

-- what the step of a choice shows, by its register and its side
abbrev shown : Choice → Step → Option Reg → Node → Observation
shown c x r side = record {
  entry = entry_of c x;
  value = value_after c x.after x.outcome r;
  rows = rows_after x.after x.outcome;
  node = client_node c side x.outcome;
}

-- nor does what a step shows
observation-reordered : (sc : Scenario) (order : List Choice) (s : State) (c : Choice) → observation_at (reordered sc order) s c ≡ observation_at sc s c
observation-reordered sc order s c =
    let re = reordered sc order in
    let x = step sc c s in
    ap (λ (y : Step). shown c y (register_of re s c) (side_of re c s)) (one sc order c s)
    ∙ (ap (λ (r : Option Reg). shown c x r (side_of re c s)) (register-reordered sc order s c)
    ∙ ap (shown c x (register_of sc s c)) (side-reordered sc order s c))

-- nor what many show
observations-reordered : (sc : Scenario) (order : List Choice) (s : State) (cs : List Choice)
    → observations (reordered sc order) s cs ≡ observations sc s cs
observations-reordered sc order s [] = refl
observations-reordered sc order s (c ∷ cs) =
    ap (λ (o : Observation). o ∷ observations (reordered sc order) (step (reordered sc order) c s).after cs) (observation-reordered sc order s c)
    ∙ (ap (λ (x : Step). observation_at sc s c ∷ observations (reordered sc order) x.after cs) (one sc order c s)
    ∙ ap (λ os. observation_at sc s c ∷ os) (observations-reordered sc order (step sc c s).after cs))

-- steps that fit agree with what those of their choices show
agree_each : (sc : Scenario) (log : Actor → List LogLine) (s : State) (order : List ToldStep) → Fits sc log s order
    → AgreeEach order (observations sc s (choices_told order))
agree_each sc log s [] fits = tt
agree_each sc log s (x ∷ xs) fits = (refl, fits.1, agree_each sc log (step sc x.line.choice s).after xs fits.2)

-- with the choices of an order behind its own the run makes each step of the order
steps_behind : (sc : Scenario) (order : List ToldStep) (cs : List Choice) → cs ≡ choices_told order
    → steps_of (extended sc cs) ≡ steps_of sc ++ observations sc (play sc (opening sc) sc.choices) (choices_told order)
steps_behind sc order cs is =
    let after = play sc (opening sc) sc.choices in
    let choices = sc.choices ++ cs in
    ap (λ s. observations (reordered sc choices) s choices) (opening-reordered sc choices)
    ∙ (observations-reordered sc choices (opening sc) choices
    ∙ (observations-append sc (opening sc) sc.choices cs ∙ ap (λ ds. steps_of sc ++ observations sc after ds) is))

-- the run makes each step of an order of prefixes
begun_by : (sc : Scenario) (lines : List LogLine) (gaps : Gaps) (taken : Actor → ℕ) (order : List ToldStep) (cs : List Choice)
    → IsPrefixOrder sc (history_of None sc).state lines gaps taken order → cs ≡ choices_told order → RunsPrefix sc lines gaps taken cs
begun_by sc lines gaps taken order cs is same =
    let after = play sc (opening sc) sc.choices in
    record {
      order = order;
      merges = is.merges;
      steps = observations sc after (choices_told order);
      behind = steps_behind sc order cs same;
      agree = agree_each sc (λ x. lines_of x lines) after order is.fits;
    }

-- so it does of an order
pub runs : (sc : Scenario) (lines : List LogLine) (gaps : Gaps) (cs : List Choice) → MatchesAll (history_of None sc) lines gaps cs
    → RunsOrder sc lines gaps cs
runs sc lines gaps cs all = begun_by sc lines gaps (all_of lines) all.0 cs all.1 all.2

pub begun_runs : (sc : Scenario) (lines : List LogLine) (gaps : Gaps) (cs : List Choice) → MatchesPrefixes (history_of None sc) lines gaps cs
    → (taken : Actor → ℕ) × RunsPrefix sc lines gaps taken cs
begun_runs sc lines gaps cs begun = (begun.0, begun_by sc lines gaps begun.0 begun.1 cs begun.2 begun.3)

-- ---- it is a scenario

-- an actor is the same as itself
same_self : (x : Actor) → is_same x x ≡ true
same_self C = refl
same_self A = refl
same_self B = refl

-- a line more, or not, names a transaction that is there
more_named : (count : ℕ) (line : LogLine) (lines : List LogLine) (b : Bool) → names_below count line.choice ≡ true → AreNamed count (choices_of lines)
    → AreNamed count (choices_of (if b then line ∷ lines else lines))
more_named count line lines true one rest = (one, rest)
more_named count line lines false one rest = rest

-- the lines of a log do where all lines do
own_named : (count : ℕ) (x : Actor) (lines : List LogLine) → AreNamed count (choices_of lines) → AreNamed count (choices_of (lines_of x lines))
own_named count x [] named = tt
own_named count x (line ∷ lines) named =
    subst (λ ls. AreNamed count (choices_of ls)) (sym (lines_cons x line lines))
    (more_named count line (lines_of x lines) (is_same x line.log) named.0 (own_named count x lines named.1))

-- of such lines the first one does
head_named : (count : ℕ) (line : LogLine) (lines : List LogLine) (b : Bool) → b ≡ true
    → AreNamed count (choices_of (if b then line ∷ lines else lines)) → names_below count line.choice ≡ true
head_named count line lines true e named = named.0
head_named count line lines false e named = absurd (cc e)

-- and so do the others
tail_named : (count : ℕ) (line : LogLine) (lines : List LogLine) (b : Bool)
    → AreNamed count (choices_of (if b then line ∷ lines else lines)) → AreNamed count (choices_of lines)
tail_named count line lines true named = named.1
tail_named count line lines false named = named

-- all lines do where those of each log do
each_named : (count : ℕ) (lines : List LogLine) → ((x : Actor) → AreNamed count (choices_of (lines_of x lines))) → AreNamed count (choices_of lines)
each_named count [] named = tt
each_named count (line ∷ lines) named =
    let x = line.log in
    let parted : (y : Actor) → AreNamed count (choices_of (if is_same y x then line ∷ lines_of y lines else lines_of y lines))
    = λ y. subst (λ ls. AreNamed count (choices_of ls)) (lines_cons y line lines) (named y) in (
      head_named count line (lines_of x lines) (is_same x x) (same_self x) (parted x),
      each_named count lines (λ y. tail_named count line (lines_of y lines) (is_same y x) (parted y)),
    )

-- missing steps name transactions that are there
missing_named : (count : ℕ) (x : Actor) (lines : List LogLine) → AreMissing count x lines → AreNamed count (choices_of lines)
missing_named count x [] missing = tt
missing_named count x (line ∷ lines) missing = (missing.0.named, missing_named count x lines missing.1)

-- lines that are named, another one and others
named_around : (count : ℕ) (front : List LogLine) (line : LogLine) (back : List LogLine) → AreNamed count (choices_of front)
    → names_below count line.choice ≡ true → AreNamed count (choices_of back) → AreNamed count (choices_of (front ++ line ∷ back))
named_around count [] line back front one rest = (one, rest)
named_around count (l ∷ ls) line back front one rest = (front.0, named_around count ls line back front.1 one rest)

-- so do lines that complete the first lines of a log whose lines do
completes_named : (count : ℕ) (x : Actor) (k : ℕ) (log : List LogLine) (gaps : List ℕ) (lines : List LogLine) → AreNamed count (choices_of log)
    → Completes count x k log gaps lines → AreNamed count (choices_of lines)
completes_named count x k log [] lines named c = absurd c
completes_named count x zero log (n ∷ gaps) lines named c = missing_named count x lines c.missing
completes_named count x (suc k) [] (n ∷ gaps) lines named c = absurd c
completes_named count x (suc k) (l ∷ log) (n ∷ gaps) lines named c =
    subst (λ ls. AreNamed count (choices_of ls)) (sym c.is)
    (named_around count c.filled l c.rest (missing_named count x c.filled c.gap.missing) named.0
    (completes_named count x k log gaps c.rest named.1 c.goes_on))

-- and they are no more than the log and its gaps have room for
completes_few : (count : ℕ) (x : Actor) (k : ℕ) (log : List LogLine) (gaps : List ℕ) (lines : List LogLine) → Completes count x k log gaps lines
    → length lines ≤ length log + sum gaps
completes_few count x k log [] lines c = absurd c
completes_few count x zero log (n ∷ gaps) lines c = omega (arith, c.few, sum_by-cons (λ m. m) n gaps)
completes_few count x (suc k) [] (n ∷ gaps) lines c = absurd c
completes_few count x (suc k) (l ∷ log) (n ∷ gaps) lines c = omega (
  arith,
  completes_few count x k log gaps c.rest c.goes_on,
  c.gap.few,
  ap (λ (ls : List LogLine). length ls) c.is,
  length-append c.filled (l ∷ c.rest),
  sum_by-cons (λ m. m) n gaps,
)

-- behind a line that may be there others are named as well
behind_named : (count : ℕ) (other : Option LogLine) (lines : List LogLine) → AreNamed count (choices_of (option_to_list other ++ lines))
    → AreNamed count (choices_of lines)
behind_named count None lines named = named
behind_named count (Some line) lines named = named.1

-- the choices of steps do where those of their lines do
told_named : (count : ℕ) (order : List ToldStep) → AreNamed count (choices_of (lines_told order)) → AreNamed count (choices_told order)
told_named count [] named = tt
told_named count (x ∷ xs) named = (named.0, told_named count xs (behind_named count x.other (lines_told xs) named.1))

-- a step has a line, so there are no more steps than lines
told_few : (order : List ToldStep) → length order ≤ length (lines_told order)
told_few [] = omega arith
told_few (x ∷ xs) = omega (arith, told_few xs, length-append (lines_in x) (lines_told xs))

module _ (sc : Scenario) (lines : List LogLine) (gaps : Gaps) (taken : Actor → ℕ) (order : List ToldStep) (merges : Merges sc lines gaps taken order) where
  -- the choices of a merge name transactions that are there
  merge_named : AreNamed (length sc.programs) (choices_of lines) → AreNamed (length sc.programs) (choices_told order)
  merge_named named =
      let count = length sc.programs in
      let told = lines_told order in
      told_named count order (each_named count told (λ x. completes_named count x (taken x) (lines_of x lines) (gaps_of x gaps) (lines_of x told)
      (own_named count x lines named) (merges x)))

  -- and there are no more than the logs have room for
  merge_few : length order ≤ length lines + gap_count gaps
  merge_few =
      let count = length sc.programs in
      let told = lines_told order in
      let few : (x : Actor) → length (lines_of x told) ≤ length (lines_of x lines) + sum (gaps_of x gaps) = λ x.
      completes_few count x (taken x) (lines_of x lines) (gaps_of x gaps) (lines_of x told) (merges x) in
      omega (arith, told_few order, lines_lengths told, lines_lengths lines, few C, few A, few B)

-- a choice for each step
length_choices : (order : List ToldStep) → length (choices_told order) ≡ length order
length_choices order = length-map order (λ (x : ToldStep). x.line.choice)

-- choices that are named, and others
named_both : (count : ℕ) (cs ds : List Choice) → AreNamed count cs → AreNamed count ds → AreNamed count (cs ++ ds)
named_both count [] ds front back = back
named_both count (c ∷ cs) ds front back = (front.0, named_both count cs ds front.1 back)

-- a scenario with choices behind its own is one, where there is room for them and they name transactions that are there
with_choices : (sc : Scenario) (cs : List Choice) → IsScenario sc → length sc.choices + length cs ≤ max_choices → AreNamed (length sc.programs) cs
    → IsScenario (extended sc cs)
with_choices sc cs is room named = record {
  cap_least = is.cap_least;
  cap_most = is.cap_most;
  pages_least = is.pages_least;
  pages_most = is.pages_most;
  few_rows = is.few_rows;
  few_opening_pages = is.few_opening_pages;
  rows_rise = is.rows_rise;
  rows_fit = is.rows_fit;
  few_programs = is.few_programs;
  programs = is.programs;
  instrs_known = is.instrs_known;
  few_choices = omega (arith, room, length-append sc.choices cs);
  choices_named = named_both (length sc.programs) sc.choices cs is.choices_named named;
}

-- the scenario with the choices of an order of prefixes behind its own is one
begun_is : (sc : Scenario) (lines : List LogLine) (gaps : Gaps) (taken : Actor → ℕ) (order : List ToldStep) (cs : List Choice) → IsScenario sc
    → IsInput (history_of None sc) lines gaps → IsPrefixOrder sc (history_of None sc).state lines gaps taken order → cs ≡ choices_told order
    → IsScenario (extended sc cs)
begun_is sc lines gaps taken order cs is input by same =
    let count = length sc.programs in
    with_choices sc cs is
    (omega (
      arith,
      input.room,
      length-entries sc (opening sc) sc.choices,
      ap length same,
      length_choices order,
      merge_few sc lines gaps taken order by.merges,
    ))
    (subst (AreNamed count) (sym same) (merge_named sc lines gaps taken order by.merges input.named))

-- so is that with the choices of an order
pub is_extended : (sc : Scenario) (lines : List LogLine) (gaps : Gaps) (cs : List Choice) → IsScenario sc → IsInput (history_of None sc) lines gaps
    → MatchesAll (history_of None sc) lines gaps cs → IsScenario (extended sc cs)
is_extended sc lines gaps cs is input all = begun_is sc lines gaps (all_of lines) all.0 cs is input all.1 all.2

pub is_begun : (sc : Scenario) (lines : List LogLine) (gaps : Gaps) (cs : List Choice) → IsScenario sc → IsInput (history_of None sc) lines gaps
    → MatchesPrefixes (history_of None sc) lines gaps cs → IsScenario (extended sc cs)
is_begun sc lines gaps cs is input begun = begun_is sc lines gaps begun.0 begun.1 cs is input begun.2 begun.3
