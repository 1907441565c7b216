-- The run of the scenario that a search hands out.
use Rattle.std.proofs.Common.{◌≡◌, ◌∙◌, ℕ, ◌+◌, ◌≤◌, List, [], ◌∷◌, ◌++◌, ◌&&◌, ◌||◌, not, length, refl, sym, ap, subst, arith, length-append}
use Rattle.std.proofs.Common.{Bool, true, false, Option, Some, None, zero, suc, ◌==◌}
use Rattle.std.proofs.Math.Bool.{false≢true}
use Rattle.std.proofs.lemmas.Bool.{and_parts}
use Rattle.std.specs.List.{list_all, list_any}
use Rattle.zy_isa.specs.Limits.{max_choices}
use Rattle.zy_isa.specs.declared.choice.Choice.{Choice}
use Rattle.zy_isa.specs.declared.choice.Choice.TheVariants.{Run}
use Rattle.zy_isa.specs.declared.rule.Rule.TheVariants.{Held}
use Rattle.zy_isa.specs.Scenario.{Scenario, IsScenario, AreNamed}
use Rattle.zy_table.specs.State.{State, Step}
use Rattle.zy_table.specs.declared.entry.CommitRecord.{CommitRecord}
use Rattle.zy_table.specs.Database.{Map, database}
use Rattle.zy_table.specs.Serial.{serial, alone}
use Rattle.zy_table.specs.Run.{program_of}
use Rattle.zy_table.specs.Play.{play, step, opening}
use Rattle.zy_machine.specs.Histories.{History, IsReplay, choices_of}
use Rattle.zy_machine.proofs.HistoryLemmas.{length-choices_of}
use Rattle.zy_serial.specs.SameMaps.{same_map, is_serial}
use Rattle.zy_serial.specs.Lone.{map_of}
use Rattle.zy_search.specs.declared.sought.Sought.{Sought}
use Rattle.zy_goals.specs.declared.goal.Selector.TheVariants as selector
use Rattle.zy_goals.specs.declared.goal.TxnProperty.TheVariants as property
use Rattle.zy_goals.specs.declared.goal.Fact.TheVariants.{Differs}
use Rattle.zy_goals.specs.declared.goal.Goal.{Goal, Is}
use Rattle.zy_patterns.specs.declared.patterns.OutcomePattern.{OutcomePattern}
use Rattle.zy_patterns.specs.Patterns.{matches}
use Rattle.zy_goals.specs.Txns.{selected_have}
use Rattle.zy_goals.specs.Goals.{Context, meets}
use Rattle.zy_search.specs.Choices.{considered}
use Rattle.zy_search.specs.Stuck.{is_still, is_stuck}
use Rattle.zy_search.specs.declared.deadlock.Wait.{Wait}
use Rattle.zy_search.specs.Deadlocks.{node_of, wait_in, wait_of, with_wait, waits_below, in_cycle, is_deadlocked}
use Rattle.zy_search.specs.Possible.{gives}
use Rattle.zy_search.specs.Searches.{reached, context_of, may_follow, shows, Shows, Finds, IsLast}
use Rattle.zy_laws.specs.Orders.{reordered}
use Rattle.zy_laws.proofs.walk.Reordered.{one, play-reordered, opening-reordered}
use Rattle.zy_search.specs.Schedules.{scheduled, before_last, ending}
use Rattle.zy_search.proofs.SearchLemmas.{are_named, named_if}
use Rattle.zy_search.proofs.DepthLemmas.{within}
use Rattle.zy_search.specs.declared.kinds.ChoiceKinds.{ChoiceKinds}

-- choices, and then others
pub play-append : (sc : Scenario) (s : State) (cs ds : List Choice) → play sc s (cs ++ ds) ≡ play sc (play sc s cs) ds
play-append sc s [] ds = refl
play-append sc s (c ∷ cs) ds = play-append sc (step sc c s).after cs ds

-- the serial run does not ask for the choices
serial-reordered : (sc : Scenario) (order : List Choice) (m : Map) (commits : List CommitRecord) → serial (reordered sc order) m commits ≡ serial sc m commits
serial-reordered sc order m [] = refl
serial-reordered sc order m (c ∷ commits) = serial-reordered sc order (alone m (program_of sc c.txn) c.done).map commits

-- a scenario with other choices comes by the choices that were made and by more to where these lead
comes_to : (h : History) (order cs : List Choice) → IsReplay h
    → play (reordered h.scenario order) (opening (reordered h.scenario order)) (choices_of h.entries ++ cs) ≡ reached h cs
comes_to h order cs r =
    let sc = h.scenario in
    let before = choices_of h.entries in
    ap (λ (s : State). play (reordered sc order) s (before ++ cs)) (opening-reordered sc order)
    ∙ (play-reordered sc order (opening sc) (before ++ cs)
    ∙ (play-append sc (opening sc) before cs
    ∙ ap (λ (s : State). play sc s cs) (sym r.state)))

-- so the run of the scenario that is handed out ends where the choices led
pub ends : (h : History) (cs : List Choice) → IsReplay h → ending (scheduled h cs) ≡ reached h cs
ends h cs r = comes_to h (choices_of h.entries ++ cs) cs r

-- two tests that are alike are so of each of some choices
all_alike : (f g : Choice → Bool) → ((c : Choice) → f c ≡ g c) → (cs : List Choice) → list_all f cs ≡ list_all g cs
all_alike f g e [] = refl
all_alike f g e (c ∷ cs) = ap (λ b. b && list_all f cs) (e c) ∙ ap (λ b. g c && b) (all_alike f g e cs)

-- and of one of them
any_alike : (f g : Choice → Bool) → ((c : Choice) → f c ≡ g c) → (cs : List Choice) → list_any f cs ≡ list_any g cs
any_alike f g e [] = refl
any_alike f g e (c ∷ cs) = ap (λ b. b || list_any f cs) (e c) ∙ ap (λ b. g c || b) (any_alike f g e cs)

-- what a state shows does not depend on the choices that the scenario names
module _ (sc : Scenario) (order : List Choice) (kinds : ChoiceKinds) (s : State) where
  -- nor does the serial run
  same_serial : is_serial (reordered sc order) s ≡ is_serial sc s
  same_serial = ap (same_map (database s)) (serial-reordered sc order (map_of sc.rows) s.commits)

  -- nor whether nothing goes on
  same_stuck : is_stuck (reordered sc order) kinds s ≡ is_stuck sc kinds s
  same_stuck =
      ap (λ b. selected_have selector.Any property.Active s.txns && b)
      (all_alike _ (λ c. is_still (step sc c s).outcome) (λ c. ap (λ (x : Step). is_still x.outcome) (one sc order c s))
      (considered kinds (length sc.programs)))

  -- nor who waits
  same_wait : (t : ℕ) → wait_of (reordered sc order) s t ≡ wait_of sc s t
  same_wait t = ap (λ (x : Step). wait_in t (node_of s t) x.outcome) (one sc order (Run (node_of s t) t) s)

  same_waits : (n : ℕ) → waits_below (reordered sc order) s n ≡ waits_below sc s n
  same_waits zero = refl
  same_waits (suc n) =
      ap (λ (ws : List Wait). with_wait ws (wait_of (reordered sc order) s n)) (same_waits n)
      ∙ ap (λ (w : Option Wait). with_wait (waits_below sc s n) w) (same_wait n)

  -- nor whether some wait in a cycle
  same_deadlock : is_deadlocked (reordered sc order) s ≡ is_deadlocked sc s
  same_deadlock = ap (λ (ws : List Wait). not (length (in_cycle s ws) == 0)) (same_waits (length s.txns))

  -- so all of them together do not
  same_context : context_of (reordered sc order) kinds s ≡ context_of sc kinds s
  same_context =
      ap (λ (b : Bool). record { differs = not b; stuck = is_stuck (reordered sc order) kinds s; deadlock = is_deadlocked (reordered sc order) s }) same_serial
      ∙ (ap (λ (b : Bool). record { differs = not (is_serial sc s); stuck = b; deadlock = is_deadlocked (reordered sc order) s }) same_stuck
      ∙ ap (λ (b : Bool). record { differs = not (is_serial sc s); stuck = is_stuck sc kinds s; deadlock = b }) same_deadlock)

  -- nor does the outcome of a choice
  same_outcome : (x : OutcomePattern) (c : Choice) → gives (reordered sc order) x s c ≡ gives sc x s c
  same_outcome x c = ap (λ (d : Step). matches x d.outcome) (one sc order c s)

  -- nor whether one is possible
  same_follow : (o : Option OutcomePattern) → may_follow (reordered sc order) kinds o s ≡ may_follow sc kinds o s
  same_follow None = refl
  same_follow (Some x) = any_alike (gives (reordered sc order) x s) (gives sc x s) (same_outcome x) (considered kinds (length sc.programs))

-- all of it together
same_shows : (sc : Scenario) (order : List Choice) (q : Sought) (s : State) → shows (reordered sc order) q s ≡ shows sc q s
same_shows sc order q s =
    ap (λ (t : Context). meets t q.goal s && may_follow (reordered sc order) q.kinds q.then s) (same_context sc order q.kinds s)
    ∙ ap (λ (b : Bool). meets (context_of sc q.kinds s) q.goal s && b) (same_follow sc order q.kinds s q.then)

-- what is found shows itself in a run
pub found : (h : History) (q : Sought) (cs : List Choice) → IsReplay h → Finds h q cs → Shows (scheduled h cs) q (ending (scheduled h cs))
found h q cs r f =
    subst (λ (s : State). Shows (scheduled h cs) q s) (sym (ends h cs r))
    (same_shows h.scenario (choices_of h.entries ++ cs) q (reached h cs) ∙ f.shows)

-- what does not lead there does not in a run
pub not_found : (h : History) (q : Sought) (cs : List Choice) → IsReplay h → (Shows h.scenario q (reached h cs) → ⊥)
    → Shows (scheduled h cs) q (ending (scheduled h cs)) → ⊥
not_found h q cs r none shown =
    none (sym (same_shows h.scenario (choices_of h.entries ++ cs) q (reached h cs))
    ∙ subst (λ (s : State). Shows (scheduled h cs) q s) (ends h cs r) shown)

-- choices that name transactions that are there, and others
named_both : (count : ℕ) (cs ds : List Choice) → AreNamed count cs → AreNamed count ds → AreNamed count (cs ++ ds)
named_both count [] ds a b = b
named_both count (c ∷ cs) ds a b = (a.0, named_both count cs ds a.1 b)

-- choices for which there is room, and which name transactions that are there, make a scenario behind those that were made
is_scheduled : (h : History) (cs : List Choice) → IsReplay h → AreNamed (length h.scenario.programs) cs → length h.entries + length cs ≤ max_choices
    → IsScenario (scheduled h cs)
is_scheduled h cs r named room = record {
  cap_least = r.tested.cap_least;
  cap_most = r.tested.cap_most;
  pages_least = r.tested.pages_least;
  pages_most = r.tested.pages_most;
  few_rows = r.tested.few_rows;
  few_opening_pages = r.tested.few_opening_pages;
  rows_rise = r.tested.rows_rise;
  rows_fit = r.tested.rows_fit;
  few_programs = r.tested.few_programs;
  programs = r.tested.programs;
  instrs_known = r.tested.instrs_known;
  few_choices = omega (arith, room, length-append (choices_of h.entries) cs, length-choices_of h.entries);
  choices_named = named_both (length h.scenario.programs) (choices_of h.entries) cs r.named named;
}

-- so do the choices that were found
pub is_scenario : (h : History) (q : Sought) (cs : List Choice) → IsReplay h → Finds h q cs → IsScenario (scheduled h cs)
is_scenario h q cs r f =
    is_scheduled h cs r (are_named q.kinds (length h.scenario.programs) cs f.path.considered) (omega (arith, f.path.room, within q))

-- ---- the step behind what is found

module _ (h : History) (q : Sought) (x : OutcomePattern) (cs : List Choice) (c : Choice) (r : IsReplay h) (f : Finds h q cs) (l : IsLast h q x cs c) where
  -- so do these and the last one
  pub is_scenario_with : IsScenario (scheduled h (cs ++ c ∷ []))
  is_scenario_with =
      let n = length h.scenario.programs in
      is_scheduled h (cs ++ c ∷ []) r (named_both n cs (c ∷ []) (are_named q.kinds n cs f.path.considered) (named_if q.kinds n c l.considered, tt))
      (omega (arith, l.room, length-append cs (c ∷ [])))

  -- one choice before its end, its run is in a state that shows what was looked for
  pub shows_before : Shows (scheduled h (cs ++ c ∷ [])) q (before_last h cs c)
  shows_before =
      let order = choices_of h.entries ++ (cs ++ c ∷ []) in
      subst (λ (s : State). Shows (reordered h.scenario order) q s) (sym (comes_to h order cs r)) (same_shows h.scenario order q (reached h cs) ∙ f.shows)

  -- and the last choice has the outcome there
  pub gives_last : gives (scheduled h (cs ++ c ∷ [])) x (before_last h cs c) c ≡ true
  gives_last =
      let order = choices_of h.entries ++ (cs ++ c ∷ []) in
      subst (λ (s : State). gives (reordered h.scenario order) x s c ≡ true) (sym (comes_to h order cs r))
      (same_outcome h.scenario order q.kinds (reached h cs) x c ∙ l.outcome)

-- ---- under held

-- under held every schedule's database is that of the serial run
abbrev pub AlwaysSerial : Type 0
AlwaysSerial = (sc : Scenario) → IsScenario sc → sc.rule ≡ Held → (choices : List Choice) → is_serial sc (play sc (opening sc) choices) ≡ true

-- under held each state that choices lead to has the database of the serial run
is_held : AlwaysSerial → (h : History) → IsReplay h → h.scenario.rule ≡ Held → (cs : List Choice) → is_serial h.scenario (reached h cs) ≡ true
is_held always h r held cs =
    let sc = h.scenario in
    let all = play-append sc (opening sc) (choices_of h.entries) cs ∙ ap (λ (x : State). play sc x cs) (sym r.state) in
    subst (λ (x : State). is_serial sc x ≡ true) all (always sc r.tested held (choices_of h.entries ++ cs))

-- where it is so, what is found is found without a difference
pub without : AlwaysSerial → (h : History) (q : Sought) (cs : List Choice) → IsReplay h → h.scenario.rule ≡ Held → Finds h q cs
    → meets (record (context_of h.scenario q.kinds (reached h cs)) { differs = false }) q.goal (reached h cs) ≡ true
without always h q cs r held f =
    let s = reached h cs in
    let one = (and_parts (meets (context_of h.scenario q.kinds s) q.goal s) (may_follow h.scenario q.kinds q.then s) f.shows).0 in
    subst (λ (b : Bool). meets (record (context_of h.scenario q.kinds s) { differs = not b }) q.goal s ≡ true) (is_held always h r held cs) one

-- so no difference is found
pub never_differs : AlwaysSerial → (h : History) (q : Sought) (cs : List Choice) → IsReplay h → h.scenario.rule ≡ Held → q.goal ≡ Is Differs
    → Finds h q cs → ⊥
never_differs always h q cs r held e f =
    let s = reached h cs in
    false≢true (subst (λ (g : Goal). meets (record (context_of h.scenario q.kinds s) { differs = false }) g s ≡ true) e
    (without always h q cs r held f))
