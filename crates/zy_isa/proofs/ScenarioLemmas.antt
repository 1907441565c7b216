-- What the tests of a scenario show.
use Rattle.std.proofs.Common.{◌≡◌, ◌+◌, ◌≤◌, ℕ, List, [], ◌∷◌, ◌++◌, Bool, true, false, cond, Option, None, Some, nat_lt, if◌then◌else◌, refl, arith, length}
use Rattle.std.proofs.Common.{inl, inr}
use Rattle.std.specs.Prelude.{not, position, option_map}
use Rattle.std.specs.List.{position_or_len}
use Rattle.std.specs.Option.{option_or}
use Rattle.std.proofs.lemmas.Bool.{cases_lt, lt-ltb, le-ltb}
use Rattle.zy_isa.specs.declared.version.Version.{Version}
use Rattle.zy_isa.specs.declared.row.Row.{Row}
use Rattle.zy_isa.specs.declared.choice.Choice.{Choice}
use Rattle.zy_isa.specs.declared.instr.Instr.{Instr}
use Rattle.zy_isa.specs.declared.scenario.ScenarioFault.TheVariants as fault
use Rattle.zy_isa.specs.Limits.{min_cap, max_cap, max_pages, max_rows, max_txns, max_choices}
use Rattle.zy_isa.specs.Rows.{Rising, RowsFit, misplaced_row, misplaced_after}
use Rattle.zy_isa.specs.Choices.{names_below}
use Rattle.zy_isa.specs.Operations.{has}
use Rattle.zy_isa.specs.Programs.{HasEach, unknown, unknown_from}
use Rattle.zy_isa.specs.Scenario.{Scenario, misnamed_choice, choices_fault, instrs_fault, AreKnown, is_outside, has_many_rows, AreNamed, ArePrograms}
use Rattle.zy_isa.specs.Scenario.{IsScenario, opening_pages_for, scenario_fault}
use Rattle.zy_isa.proofs.ResultLemmas.{in_range, neither, not_over, out_of_neither, over_not}

-- if no row after a key is misplaced, the rows rise from the number behind that key on
rising_after : (last i : ℕ) (rows : List Row) → misplaced_after last i rows ≡ None → Rising (last + 1) rows
rising_after last i [] e = tt
rising_after last i (r ∷ rows) e =
    elim (cases_lt last r.key) [
      | inl above ↦ (omega arith, rising_after r.key (i + 1) rows (rw (lt-ltb last r.key above) at e))
      | inr low ↦ let clash = rw (le-ltb last r.key low) at e in cc
    ]

-- rows of which none is misplaced rise
pub rising : (rows : List Row) → misplaced_row rows ≡ None → Rising 0 rows
rising [] e = tt
rising (r ∷ rows) e = (omega arith, rising_after r.key 1 rows e)

-- an option that maps to None is None
no_option : {X Y : Type 0} (f : X → Y) (o : Option X) → option_map f o ≡ None → o ≡ None
no_option f None h = refl
no_option f (Some x) h = cc

-- where no element passes a test, the search for one runs to the end of the list
pub none_found : {X : Type 0} (p : X → Bool) (xs : List X) → position p xs ≡ None → length xs ≤ position_or_len p xs
none_found p xs e =
    elim (cases_lt (position_or_len p xs) (length xs)) [
      | inl found ↦ let clash = rw (lt-ltb _ _ found) at e in cc
      | inr none ↦ none
    ]

-- one step of the next: the first choice names a transaction that exists, and so do those behind it
named_first : (count : ℕ) (c : Choice) (cs : List Choice) (b : Bool) → (length cs ≤ position_or_len (λ x. not (names_below count x)) cs → AreNamed count cs)
    → names_below count c ≡ b → length (c ∷ cs) ≤ cond (not (not b)) (1 + position_or_len (λ x. not (names_below count x)) cs) 0 → AreNamed count (c ∷ cs)
named_first count c cs true rest e h = (e, rest (omega arith))
named_first count c cs false rest e h = absurd (omega arith)

-- if the search for a misnamed choice runs to the end of the list, each choice names a transaction that exists
named_each : (count : ℕ) (choices : List Choice) → length choices ≤ position_or_len (λ c. not (names_below count c)) choices → AreNamed count choices
named_each count [] h = tt
named_each count (c ∷ cs) h = named_first count c cs (names_below count c) (named_each count cs) refl h

-- choices of which none is misnamed name transactions
pub are_named : (count : ℕ) (choices : List Choice) → misnamed_choice count choices ≡ None → AreNamed count choices
are_named count choices e = named_each count choices (none_found _ choices e)

-- choices without a fault are at most `max_choices`, and none is misnamed
fit_if : (count : ℕ) (cs : List Choice) (b : Bool) → nat_lt max_choices (length cs) ≡ b
    → (if b then Some fault.ChoiceCount else option_map fault.Choice (misnamed_choice count cs)) ≡ None
    → (length cs ≤ max_choices) × (misnamed_choice count cs ≡ None)
fit_if count cs true e h = cc
fit_if count cs false e h = (not_over (length cs) max_choices e, no_option fault.Choice (misnamed_choice count cs) h)

-- choices without a fault are few, and name transactions
pub fit_choices : (count : ℕ) (cs : List Choice) → choices_fault count cs ≡ None → (length cs ≤ max_choices) × AreNamed count cs
fit_choices count cs h =
    let f = fit_if count cs (nat_lt max_choices (length cs)) refl h in
    (f.0, are_named count cs f.1)

-- where each choice names a transaction that exists, the search for a misnamed one runs to the end of the list
all_named : (count : ℕ) (cs : List Choice) → AreNamed count cs → position_or_len (λ c. not (names_below count c)) cs ≡ length cs
all_named count [] h = refl
all_named count (c ∷ cs) h = rw h.0 (omega (arith, all_named count cs h.1))

-- where each choice names a transaction that exists, none is misnamed
pub none_misnamed : (count : ℕ) (cs : List Choice) → AreNamed count cs → misnamed_choice count cs ≡ None
none_misnamed count cs h = rw (all_named count cs h, over_not (length cs) (length cs) (omega arith)) refl

-- a choice more that names a transaction
pub named_more : (count : ℕ) (cs : List Choice) (c : Choice) → AreNamed count cs → names_below count c ≡ true → AreNamed count (cs ++ c ∷ [])
named_more count [] c h n = (n, tt)
named_more count (x ∷ cs) c h n = (h.0, named_more count cs c h.1 n)

-- a test that found nothing, and those behind it
past : {F : Type 0} (b : Bool) (f : F) (rest : Option F) → (if b then Some f else rest) ≡ None → (b ≡ false) × (rest ≡ None)
past true f rest h = cc
past false f rest h = (refl, h)

-- if neither of two options gave anything, both are None
past_first : {F : Type 0} (first rest : Option F) → option_or first rest ≡ None → (first ≡ None) × (rest ≡ None)
past_first None rest h = (refl, h)
past_first (Some f) rest h = cc

-- ---- instructions that a version has

-- one step of the next: a version has the first instruction, and those behind it
known_first : (version : Version) (n : ℕ) (i : Instr) (is : List Instr) (b : Bool) → has version i ≡ b
    → ((m : ℕ) → unknown_from version m is ≡ None → HasEach version is)
    → (if b then unknown_from version (n + 1) is else Some n) ≡ None → HasEach version (i ∷ is)
known_first version n i is true e rest h = (e, rest (n + 1) h)
known_first version n i is false e rest h = cc

-- a version has each instruction of a list in which none is unknown to it
is_known : (version : Version) (is : List Instr) (n : ℕ) → unknown_from version n is ≡ None → HasEach version is
is_known version [] n h = tt
is_known version (i ∷ is) n h = known_first version n i is (has version i) refl (is_known version is) h

-- if a version has each instruction of a list, none is unknown to it
none_unknown : (version : Version) (n : ℕ) (is : List Instr) → HasEach version is → unknown_from version n is ≡ None
none_unknown version n [] h = refl
none_unknown version n (i ∷ is) h = rw h.0 (none_unknown version (n + 1) is h.1)

-- programs without a fault have instructions of the version alone
pub are_known : (version : Version) (t : ℕ) (ps : List (List Instr)) → instrs_fault version t ps ≡ None → AreKnown version ps
are_known version t [] e = tt
are_known version t (p ∷ ps) e =
    let d = past_first (option_map (fault.Instruction t) (unknown version p)) _ e in
    (is_known version p 0 (no_option (fault.Instruction t) (unknown version p) d.0), are_known version (t + 1) ps d.1)

-- programs whose instructions a version has, each one, have no fault of instructions
pub no_instrs_fault : (version : Version) (t : ℕ) (ps : List (List Instr)) → AreKnown version ps → instrs_fault version t ps ≡ None
no_instrs_fault version t [] h = refl
no_instrs_fault version t (p ∷ ps) h = rw (none_unknown version 0 p h.0) (no_instrs_fault version (t + 1) ps h.1)

-- an instruction more, and a program more
pub known_more : (version : Version) (is : List Instr) (i : Instr) → HasEach version is → has version i ≡ true → HasEach version (is ++ i ∷ [])
known_more version [] i h e = (e, tt)
known_more version (x ∷ is) i h e = (h.0, known_more version is i h.1 e)

-- a version has each instruction of each program when one more, whose instructions it has, is put at the end
pub program_more : (version : Version) (ps : List (List Instr)) (p : List Instr) → AreKnown version ps → HasEach version p → AreKnown version (ps ++ p ∷ [])
program_more version [] p h e = (e, tt)
program_more version (x ∷ ps) p h e = (h.0, program_more version ps p h.1 e)

-- parts within the limits make a scenario without a fault
pub no_fault : (s : Scenario) → min_cap ≤ s.cap → s.cap ≤ max_cap → 1 ≤ s.pages → s.pages ≤ max_pages → length s.rows ≤ max_rows
    → opening_pages_for s.cap (length s.rows) ≤ s.pages
    → misplaced_row s.rows ≡ None → length s.programs ≤ max_txns → length s.choices ≤ max_choices → AreNamed (length s.programs) s.choices
    → AreKnown s.version s.programs → scenario_fault s ≡ None
no_fault s least most some few rows pages order programs choices named known =
    rw (
      out_of_neither s.cap min_cap max_cap least most,
      out_of_neither s.pages 1 max_pages some few,
      over_not (length s.rows) max_rows rows,
      over_not (opening_pages_for s.cap (length s.rows)) s.pages pages,
      order,
      over_not (length s.programs) max_txns programs,
      over_not (length s.choices) max_choices choices,
      none_misnamed (length s.programs) s.choices named,
      no_instrs_fault s.version 0 s.programs known,
    ) refl

-- parts without a fault make a scenario within the limits
pub scenario_of : (s : Scenario) → scenario_fault s ≡ None → RowsFit s.rows → ArePrograms s.programs → IsScenario s
scenario_of s e fit programs =
    let cap = past (is_outside min_cap max_cap s.cap) fault.Cap _ e in
    let pages = past (is_outside 1 max_pages s.pages) fault.Pages _ cap.1 in
    let rows = past (has_many_rows s) fault.RowCount _ pages.1 in
    let order = past_first (option_map fault.RowOrder (misplaced_row s.rows)) _ rows.1 in
    let few = past (nat_lt max_txns (length s.programs)) fault.TxnCount _ order.1 in
    let last = past_first (choices_fault (length s.programs) s.choices) _ few.1 in
    let named = fit_choices (length s.programs) s.choices last.0 in
    let cap_within = in_range s.cap min_cap max_cap cap.0 in
    let pages_within = in_range s.pages 1 max_pages pages.0 in
    let many = neither (nat_lt max_rows (length s.rows)) (nat_lt s.pages (opening_pages_for s.cap (length s.rows))) rows.0 in
    record {
      cap_least = cap_within.0;
      cap_most = cap_within.1;
      pages_least = pages_within.0;
      pages_most = pages_within.1;
      few_rows = not_over (length s.rows) max_rows many.0;
      few_opening_pages = not_over _ s.pages many.1;
      rows_rise = rising s.rows (no_option fault.RowOrder (misplaced_row s.rows) order.0);
      rows_fit = fit;
      few_programs = not_over (length s.programs) max_txns few.0;
      programs = programs;
      few_choices = named.0;
      choices_named = named.1;
      instrs_known = are_known s.version 0 s.programs last.1;
    }
