-- A merge of a scenario's choices makes a scenario.
use Rattle.std.proofs.Common.{◌≡◌, ℕ, Bool, true, false, List, [], ◌∷◌, length, sym, ap, subst, arith}
use Rattle.std.specs.Prelude.{if◌then◌else◌}
use Rattle.zy_isa.specs.declared.node.Actor.{Actor}
use Rattle.zy_isa.specs.declared.node.Actor.TheVariants.{C, A, B}
use Rattle.zy_isa.specs.declared.choice.Choice.{Choice}
use Rattle.zy_isa.specs.Choices.{actor_of, names_below}
use Rattle.zy_isa.specs.Scenario.{Scenario, IsScenario, AreNamed}
use Rattle.zy_threads.specs.Orders.{reordered}
use Rattle.zy_threads.specs.Turns.{sub, is_by, is_c, is_a, is_b, IsMerge}
use Rattle.zy_threads.proofs.TurnLemmas.{sub_lengths}

-- one choice more, or not
kept_step : (count : ℕ) (d : Choice) (ds : List Choice) (b : Bool) → names_below count d ≡ true → AreNamed count ds → AreNamed count (if b then d ∷ ds else ds)
kept_step count d ds true named rest = (named, rest)
kept_step count d ds false named rest = rest

-- where each choice names a transaction, so does each of an actor's
named_kept : (count : ℕ) (x : Actor) (cs : List Choice) → AreNamed count cs → AreNamed count (sub x cs)
named_kept count x [] h = tt
named_kept count x (d ∷ cs) h = kept_step count d (sub x cs) (is_by x d) h.0 (named_kept count x cs h.1)

-- a choice goes to its actor's list
back_step : (count : ℕ) (d : Choice) (cs : List Choice) (x : Actor)
    → (AreNamed count (sub C cs) → AreNamed count (sub A cs) → AreNamed count (sub B cs) → AreNamed count cs)
    → AreNamed count (if is_c x then d ∷ sub C cs else sub C cs) → AreNamed count (if is_a x then d ∷ sub A cs else sub A cs)
    → AreNamed count (if is_b x then d ∷ sub B cs else sub B cs)
    → AreNamed count (d ∷ cs)
back_step count d cs C rest c a b = (c.0, rest c.1 a b)
back_step count d cs A rest c a b = (a.0, rest c a.1 b)
back_step count d cs B rest c a b = (b.0, rest c a b.1)

-- where those of each actor do, all do
named_back : (count : ℕ) (cs : List Choice) → AreNamed count (sub C cs) → AreNamed count (sub A cs) → AreNamed count (sub B cs) → AreNamed count cs
named_back count [] c a b = tt
named_back count (d ∷ cs) c a b = back_step count d cs (actor_of d) (named_back count cs) c a b

-- there are as many
merge_length : (order choices : List Choice) → IsMerge order choices → length order ≡ length choices
merge_length order choices m =
    omega (arith, sub_lengths order, sub_lengths choices, ap length m.of_c, ap length m.of_a, ap length m.of_b)

-- choices in another order name the same transactions
merge_named : (count : ℕ) (order choices : List Choice) → IsMerge order choices → AreNamed count choices → AreNamed count order
merge_named count order choices m named =
    named_back count order
    (subst (AreNamed count) (sym m.of_c) (named_kept count C choices named))
    (subst (AreNamed count) (sym m.of_a) (named_kept count A choices named))
    (subst (AreNamed count) (sym m.of_b) (named_kept count B choices named))

-- a scenario with its choices in such an order is one
pub merge_scenario : (sc : Scenario) → IsScenario sc → (order : List Choice) → IsMerge order sc.choices → IsScenario (reordered sc order)
merge_scenario sc was order m = record {
  cap_least = was.cap_least;
  cap_most = was.cap_most;
  pages_least = was.pages_least;
  pages_most = was.pages_most;
  few_rows = was.few_rows;
  few_opening_pages = was.few_opening_pages;
  rows_rise = was.rows_rise;
  rows_fit = was.rows_fit;
  few_programs = was.few_programs;
  programs = was.programs;
  few_choices = omega (arith, merge_length order sc.choices m, was.few_choices);
  choices_named = merge_named (length sc.programs) order sc.choices m was.choices_named;
  instrs_known = was.instrs_known;
}
