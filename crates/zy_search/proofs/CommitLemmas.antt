-- Only a commit makes another database, and another serial run.
use Rattle.std.proofs.Common.{◌≡◌, ◌∙◌, ◌&&◌, not, sym, ap, subst, refl, List, [], ◌∷◌, ◌++◌, Bool, true, Option, Some, None, is_none}
use Rattle.std.proofs.Math.Bool.{false≢true}
use Rattle.std.proofs.lemmas.Bool.{and_parts}
use Rattle.zy_isa.specs.declared.choice.Choice.{Choice}
use Rattle.zy_isa.specs.Scenario.{Scenario}
use Rattle.zy_table.specs.State.{State}
use Rattle.zy_table.specs.declared.entry.CommitRecord.{CommitRecord}
use Rattle.zy_table.specs.Play.{opening, play, step}
use Rattle.zy_table.specs.Database.{Map, database}
use Rattle.zy_table.specs.Serial.{serial}
use Rattle.zy_laws.proofs.serial.Values.{commits_alone}
use Rattle.zy_machine.specs.Histories.{History, IsReplay, choices_of}
use Rattle.zy_serial.specs.Lone.{map_of}
use Rattle.zy_serial.specs.SameMaps.{same_map, is_serial}
use Rattle.zy_search.specs.declared.sought.Sought.{Sought}
use Rattle.zy_patterns.specs.declared.patterns.OutcomePattern.{OutcomePattern}
use Rattle.zy_goals.specs.Goals.{meets}
use Rattle.zy_goals.specs.Footprints.{is_of_commits}
use Rattle.zy_goals.proofs.FootprintLemmas.{same_goal}
use Rattle.zy_search.specs.Searches.{reached, Shows, shows, context_of, may_follow, is_by_commits}
use Rattle.zy_search.specs.declared.kinds.ChoiceKinds.{ChoiceKinds}

-- where no outcome is asked for, every state is one after which it may follow
nothing_follows : (sc xc : Scenario) (kinds : ChoiceKinds) (o : Option OutcomePattern) (s r : State) → is_none o ≡ true
    → may_follow sc kinds o s ≡ may_follow xc kinds o r
nothing_follows sc xc kinds None s r e = refl
nothing_follows sc xc kinds (Some x) s r e = absurd (false≢true e)

-- choices and then others
play_on : (sc : Scenario) (s : State) (cs ds : List Choice) → play sc (play sc s cs) ds ≡ play sc s (cs ++ ds)
play_on sc s [] ds = refl
play_on sc s (c ∷ cs) ds = play_on sc (step sc c s).after cs ds

-- A step without a commit, from a state that choices lead to.
module _ (h : History) (q : Sought) (cs : List Choice) (c : Choice) (r : IsReplay h) where
  abbrev before : State
  before = reached h cs

  abbrev after : State
  after = (step h.scenario c before).after

  -- it leaves the database
  same_database : after.commits ≡ before.commits → database after ≡ database before
  same_database =
      let sc = h.scenario in
      let from = ap (λ (s : State). play sc s cs) r.state ∙ play_on sc (opening sc) (choices_of h.entries) cs in
      subst (λ (s : State). (step sc c s).after.commits ≡ s.commits → database (step sc c s).after ≡ database s) (sym from)
      (commits_alone sc r.tested (choices_of h.entries ++ cs) c)

  -- so it does not bring about what only a commit can bring about
  pub never_by_others : after.commits ≡ before.commits → is_by_commits q ≡ true → (Shows h.scenario q before → ⊥) → Shows h.scenario q after → ⊥
  never_by_others same by none shown =
      let sc = h.scenario in
      let pages = same_database same in
      let is : is_serial sc after ≡ is_serial sc before =
      ap (λ (x : Map). same_map x (serial sc (map_of sc.rows) after.commits)) pages
      ∙ ap (λ (x : List CommitRecord). same_map (database before) (serial sc (map_of sc.rows) x)) same in
      let parts = and_parts (is_none q.then) (is_of_commits q.goal) by in
      let goals = same_goal after before pages same (context_of sc q.kinds after) (context_of sc q.kinds before) (ap not is) q.goal parts.1 in
      let follows = nothing_follows sc sc q.kinds q.then after before parts.0 in
      let all : shows sc q after ≡ shows sc q before =
      ap (λ (x : Bool). x && may_follow sc q.kinds q.then after) goals
      ∙ ap (λ (x : Bool). meets (context_of sc q.kinds before) q.goal before && x) follows in
      none (sym all ∙ shown)
