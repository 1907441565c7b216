-- What a search finds out.
use Rattle.std.specs.Prelude.{ℕ, ◌≡◌, ◌≤◌, ◌<◌, ◌+◌, ◌-◌, ◌⊎◌, ◌&&◌, ◌||◌, ◌++◌, ◌∷◌, [], not, List, Bool, true, false, length}
use Rattle.std.specs.Prelude.{Option, Some, None, is_some, is_none}
use Rattle.std.specs.List.{All}
use Rattle.zy_isa.specs.Limits.{max_choices}
use Rattle.zy_isa.specs.declared.choice.Choice.{Choice}
use Rattle.zy_isa.specs.Scenario.{Scenario}
use Rattle.zy_table.specs.State.{State}
use Rattle.zy_table.specs.Play.{play}
use Rattle.zy_machine.specs.Histories.{History}
use Rattle.zy_serial.specs.SameMaps.{is_serial}
use Rattle.zy_search.specs.declared.sought.Sought.{Sought}
use Rattle.zy_search.specs.declared.answer.SearchAnswer.{SearchAnswer}
use Rattle.zy_search.specs.declared.answer.SearchAnswer.TheVariants as answer
use Rattle.zy_patterns.specs.declared.patterns.OutcomePattern.{OutcomePattern}
use Rattle.zy_goals.specs.Goals.{Context, meets}
use Rattle.zy_goals.specs.Footprints.{takes_steps, is_of_commits}
use Rattle.zy_search.specs.Stuck.{AreMoves, is_stuck}
use Rattle.zy_search.specs.Deadlocks.{is_deadlocked}
use Rattle.zy_search.specs.Possible.{gives, is_possible}
use Rattle.zy_search.specs.Choices.{AreConsidered, is_considered}
use Rattle.zy_search.specs.Paths.{AreApart}
use Rattle.zy_search.specs.declared.kinds.ChoiceKinds.{ChoiceKinds}

-- what a state of a scenario does not decide by itself
abbrev pub context_of : Scenario → ChoiceKinds → State → Context
context_of sc kinds s = record { differs = not (is_serial sc s); stuck = is_stuck sc kinds s; deadlock = is_deadlocked sc s }

-- an outcome like the one that is asked for after `then` is possible, if one is asked for
abbrev pub may_follow : Scenario → ChoiceKinds → Option OutcomePattern → State → Bool
may_follow sc kinds None s = true
may_follow sc kinds (Some x) s = is_possible sc kinds x s

abbrev pub shows : Scenario → Sought → State → Bool
shows sc q s = meets (context_of sc q.kinds s) q.goal s && may_follow sc q.kinds q.then s

-- a state shows what is looked for
abbrev pub Shows : Scenario → Sought → State → Type 0
Shows sc q s = shows sc q s ≡ true

-- only a commit can bring about what is looked for
abbrev pub is_by_commits : Sought → Bool
is_by_commits q = is_none q.then && is_of_commits q.goal

-- it takes steps to judge whether a state shows it
abbrev pub asks_steps : Sought → Bool
asks_steps q = is_some q.then || takes_steps q.goal

-- the most choices, from the opening on, after which a state is judged: where that takes steps, there is room for one more
abbrev pub deepest_if : Bool → ℕ
deepest_if true = max_choices - 1
deepest_if false = max_choices

-- the most choices after which a state is judged for what is looked for
abbrev pub deepest : Sought → ℕ
deepest q = deepest_if (asks_steps q)

-- the state that choices lead to from a machine's
abbrev pub reached : History → List Choice → State
reached h cs = play h.scenario h.state cs

-- choices that a search considers from a machine
abbrev pub Considers : History → Sought → List Choice → Type 0
Considers h q cs = AreConsidered q.kinds (length h.scenario.programs) cs

-- considered choices, of each of which something comes, after which the history has room for a state to be judged
pub record IsPath (h : History) (q : Sought) (cs : List Choice) : Type 0 where
  pub considered : Considers h q cs
  pub moves : AreMoves h.scenario h.state cs
  pub room : length h.entries + length cs ≤ deepest q

-- these choices lead to a state that shows what is looked for
pub record Finds (h : History) (q : Sought) (cs : List Choice) : Type 0 where
  pub path : IsPath h q cs
  pub shows : Shows h.scenario q (reached h cs)

-- fewer than n choices lead to no such state
abbrev pub NoneBelow : History → Sought → ℕ → Type 0
NoneBelow h q n = (cs : List Choice) → Considers h q cs → length cs < n → Shows h.scenario q (reached h cs) → ⊥

-- no choices do, however many
abbrev pub NoneAtAll : History → Sought → Type 0
NoneAtAll h q = (cs : List Choice) → Considers h q cs → Shows h.scenario q (reached h cs) → ⊥

-- found: these choices lead to a state that shows it, and no fewer do
pub record FindsFirst (h : History) (q : Sought) (cs : List Choice) : Type 0 where
  pub finds : Finds h q cs
  pub shortest : NoneBelow h q (length cs)

-- the answer of the search through the states, without the step that `then` asks for
abbrev pub IsReached : History → Sought → SearchAnswer → Type 0
IsReached h q (answer.Found v) = FindsFirst h q v.items
IsReached h q answer.Nowhere = NoneAtAll h q
IsReached h q (answer.Spent fewer) = NoneBelow h q fewer

-- a considered choice with an outcome like x in the state that choices lead to, for which the history has room
pub record IsLast (h : History) (q : Sought) (x : OutcomePattern) (cs : List Choice) (c : Choice) : Type 0 where
  pub considered : is_considered q.kinds (length h.scenario.programs) c ≡ true
  pub outcome : gives h.scenario x (reached h cs) c ≡ true
  pub room : length h.entries + length cs < max_choices

-- what goes out: the choices that lead to the state, and one more if an outcome is asked for
abbrev pub EndsBy : History → Sought → Option OutcomePattern → List Choice → List Choice → Type 0
EndsBy h q None cs out = out ≡ cs
EndsBy h q (Some x) cs out = (c : Choice) × IsLast h q x cs c × (out ≡ cs ++ c ∷ [])

abbrev pub IsFound : History → Sought → List Choice → Type 0
IsFound h q out = (cs : List Choice) × FindsFirst h q cs × EndsBy h q q.then cs out

-- the answer of a search
abbrev pub IsAnswer : History → Sought → SearchAnswer → Type 0
IsAnswer h q (answer.Found v) = IsFound h q v.items
IsAnswer h q answer.Nowhere = NoneAtAll h q
IsAnswer h q (answer.Spent fewer) = NoneBelow h q fewer

-- at least `most` paths of at most n choices are known, none of them twice, and none leads to a state that shows it
pub record Fills (h : History) (q : Sought) (most n : ℕ) : Type 0 where
  pub paths : List (List Choice)
  pub many : most ≤ length paths
  pub apart : AreApart paths
  pub each : All (λ cs. IsPath h q cs × (length cs ≤ n) × (Shows h.scenario q (reached h cs) → ⊥)) paths

-- the history has no room to judge a state after as many choices as the bound
abbrev pub HasNoRoom : History → Sought → ℕ → Type 0
HasNoRoom h q fewer = deepest q < length h.entries + fewer

-- a search gives up only where it knows as many paths as it may, or where the history has no room for longer ones
abbrev pub IsDue : History → Sought → ℕ → SearchAnswer → Type 0
IsDue h q most (answer.Found v) = Unit {0}
IsDue h q most answer.Nowhere = Unit {0}
IsDue h q most (answer.Spent fewer) = Fills h q most fewer ⊎ HasNoRoom h q fewer

-- the history has room for the steps that are tried
abbrev pub MayTry : Sought → History → Type 0
MayTry q h = asks_steps q ≡ true → length h.entries < max_choices
