-- What a search keeps, and what each of its parts adds.
use Rattle.std.specs.Prelude.{ℕ, ◌≡◌, ◌≤◌, ◌<◌, ◌+◌, ◌^◌, ◌⊎◌, ◌++◌, List, [], ◌∷◌, Option, None, Some, Bool, true, false, length}
use Rattle.std.specs.Prelude.{Contains}
use Rattle.zy_isa.specs.Limits.{max_choices}
use Rattle.zy_isa.specs.declared.node.Actor.{Actor}
use Rattle.zy_isa.specs.declared.node.Node.{Node}
use Rattle.zy_isa.specs.declared.choice.Choice.{Choice}
use Rattle.zy_isa.specs.declared.choice.Choice.TheVariants.{Run}
use Rattle.zy_isa.specs.Choices.{actor_of, actor_at, names_below}
use Rattle.zy_table.specs.declared.observation.Observation.{Observation}
use Rattle.zy_table.specs.State.{State}
use Rattle.zy_table.specs.Play.{step}
use Rattle.zy_table.specs.Observations.{observation_at}
use Rattle.zy_machine.specs.Histories.{History, IsReplay}
use Rattle.zy_patterns.specs.declared.patterns.OutcomePattern.{OutcomePattern}
use Rattle.zy_patterns.specs.declared.patterns.OutcomePattern.TheVariants as pattern
use Rattle.zy_logs.specs.declared.log_line.LogLine.{LogLine}
use Rattle.zy_search.specs.declared.branch.Branch.{Branch}
use Rattle.zy_search.specs.declared.kinds.ChoiceKinds.{ChoiceKinds}
use Rattle.zy_search.specs.Choices.{considered}
use Rattle.zy_search.specs.Searches.{reached}
use Rattle.zy_search.specs.Visits.{path_at, length_at, Grows, IsHere}
use Rattle.zy_order.specs.Machines.{AreRecentMachines, IsPlaced}
use Rattle.zy_order.specs.declared.placed_machine.PlacedMachine.{PlacedMachine}
use Rattle.zy_order.specs.declared.logs.Logs.{Logs}
use Rattle.zy_order.specs.declared.cursors.Cursors.{Cursors}
use Rattle.zy_order.specs.declared.plan.Plan.{Plan}
use Rattle.zy_order.specs.declared.reached.Reached.{Reached}
use Rattle.zy_order.specs.declared.search.Search.{Search}
use Rattle.zy_order.specs.declared.search.Position.{Position}
use Rattle.zy_order.specs.declared.turns.Turns.{Turns}
use Rattle.zy_order.specs.declared.answer.OrderAnswer.{OrderAnswer}
use Rattle.zy_order.specs.declared.answer.OrderAnswer.TheVariants as answer
use Rattle.zy_order.specs.declared.follow.Followed.{Followed}
use Rattle.zy_order.specs.declared.follow.Followed.TheVariants as followed
use Rattle.zy_order.specs.declared.line.Met.{Met}
use Rattle.zy_order.specs.declared.line.Met.TheVariants as met
use Rattle.zy_order.specs.Answers.{HasEnd}
use Rattle.zy_order.specs.Gaps.{gaps_of}
use Rattle.zy_order.specs.declared.tellers.StepLines.{StepLines}
use Rattle.zy_order.specs.declared.tellers.Tellers.{Tellers}
use Rattle.zy_order.specs.declared.tellers.Tellers.TheVariants.{One, Both}
use Rattle.zy_order.specs.Orders.{Agree}
use Rattle.zy_order.specs.Ways.{log_of, at_start, cursors_in, advanced_by, with_missing, step_count}
use Rattle.zy_order.specs.Ways.{IsNoFurther, NeedNoMore, AreMatched, IsNextLine, ComeNext, TellNext, HasGap, Leads, IsWay, AreLinesOf}

-- ---- what a search goes by

-- all kinds of choices
abbrev pub all_kinds : ChoiceKinds
all_kinds = record { start = true; begin = true; kill = true; run = true; take = true; finish = true; push = true }

-- the start is a machine's, the logs have lines of their actors, a gap before each and one behind the last, the history has
-- room for all steps, and the choices are all that a scenario has
pub record IsPlan (p : Plan) : Type 0 where
  pub replay : IsReplay p.start
  pub lines : (x : Actor) → AreLinesOf (length p.start.scenario.programs) x (log_of x p.logs)
  pub gaps : (x : Actor) → length (gaps_of x p.logs.gaps) ≡ length (log_of x p.logs) + 1
  pub room : length p.start.entries + step_count p.logs ≤ max_choices
  pub choices : p.choices.items ≡ considered all_kinds (length p.start.scenario.programs)

-- choices go along the logs from the start to cursors
abbrev pub IsWayOf : Plan → List Choice → Cursors → Type 0
IsWayOf p cs to = IsWay p.start.scenario p.logs at_start p.start.state cs to

-- a furthest way: no way matches all lines, and none leads further
pub record IsFurthestWay (p : Plan) (cs : List Choice) (to : Cursors) : Type 0 where
  pub way : IsWayOf p cs to
  pub none : (ds : List Choice) → (end : Cursors) → IsWayOf p ds end → AreMatched p.logs end → ⊥
  pub most : (ds : List Choice) → (end : Cursors) → IsWayOf p ds end → IsNoFurther end to

-- a way that matches all lines, where no way that does has the end that is asked for
pub record IsOtherEndWay (p : Plan) (cs : List Choice) (to : Cursors) : Type 0 where
  pub way : IsWayOf p cs to
  pub matched : AreMatched p.logs to
  pub none : (ds : List Choice) → (end : Cursors) → IsWayOf p ds end → AreMatched p.logs end → HasEnd p.end (reached p.start ds) → ⊥

-- ---- what it has reached

-- the cursors where the path at a place leads
abbrev pub cursors_at : Reached → ℕ → Cursors
cursors_at r i = cursors_in r.cursors.items i

-- a path leads to this state, with cursors that have these lines matched and need no more missing steps
abbrev pub IsKnown : History → Reached → Cursors → State → Type 0
IsKnown h r cursors s =
    (i : ℕ) × (i < length r.visited) × NeedNoMore (cursors_at r i) cursors × (reached h (path_at r.visited i) ≡ s)

-- all numbers of a list are below n
abbrev pub AreBelow : List ℕ → ℕ → Type 0
AreBelow xs n = (i : ℕ) → Contains xs i → i < n

-- ways along the logs, the empty one first, each with its cursors; and places of those that are to be followed
pub record IsReached (p : Plan) (r : Reached) : Type 0 where
  pub some : 0 < length r.visited
  pub few : length r.visited < 2 ^ 32
  pub first : path_at r.visited 0 ≡ []
  pub start : cursors_at r 0 ≡ at_start
  pub ways : (i : ℕ) → i < length r.visited → IsWayOf p (path_at r.visited i) (cursors_at r i)
  pub many : length r.cursors.items ≡ length r.visited
  pub there : AreBelow r.todo.items (length r.visited)

-- a search is under way
pub record IsUnderWay (p : Plan) (r : Reached) : Type 0 where
  pub plan : IsPlan p
  pub reached : IsReached p r

-- a search is under way, with machines of the plan's scenario: each of its recent is where the path leads that it names
pub record IsSearch (p : Plan) (s : Search) : Type 0 where
  pub under_way : IsUnderWay p s.reached
  pub recent : AreRecentMachines p.start s.reached.visited s.recent
  pub twin : s.twin.scenario ≡ p.start.scenario

-- no path leads further than that at a place
abbrev pub IsFurthestPath : Reached → ℕ → Type 0
IsFurthestPath r best = (i : ℕ) → i < length r.cursors.items → IsNoFurther (cursors_at r i) (cursors_at r best)

-- the paths that were reached are still at their places, with their cursors
pub record Extends (old new : Reached) : Type 0 where
  pub paths : Grows old.visited new.visited
  pub cursors : (i : ℕ) → i < length old.visited → cursors_at new i ≡ cursors_at old i

-- ---- one choice more

-- what the step of a choice shows where the path at a place leads
abbrev pub observation_by : History → Reached → ℕ → Choice → Observation
observation_by h r i c = observation_at h.scenario (reached h (path_at r.visited i)) c

-- the state after a choice where the path at a place leads
abbrev pub state_by : History → Reached → ℕ → Choice → State
state_by h r i c = (step h.scenario c (reached h (path_at r.visited i))).after

-- where the path at a place leads, the next lines of some logs do not fit, or a path leads where their choice does
abbrev pub IsMet : History → Logs → Reached → ℕ → Tellers → Type 0
IsMet h logs r i by = (c : Choice) → (tell : TellNext h.scenario.version logs (cursors_at r i) (observation_by h r i c)) → tell.lines.by ≡ by
    → IsKnown h r (advanced_by by (cursors_at r i)) (state_by h r i c)

-- the same of an actor's log alone and, if it is a node, of its log with the client's
abbrev pub IsMetWith : History → Logs → Reached → ℕ → Actor → Type 0
IsMetWith h logs r i x = IsMet h logs r i (One x) × ((n : Node) → x ≡ actor_at n → IsMet h logs r i (Both n))

-- where the path at a place leads, a choice may not be that of a missing step, or a path leads where it does
abbrev pub IsTried : History → Logs → Reached → ℕ → Choice → Type 0
IsTried h logs r i c = HasGap (actor_of c) logs (cursors_at r i)
    → IsKnown h r (with_missing (actor_of c) (cursors_at r i)) (state_by h r i c)

-- where the path at a place leads, each choice is tried as that of a missing step
abbrev pub AreTried : History → Logs → Reached → ℕ → Type 0
AreTried h logs r i = (c : Choice) → names_below (length h.scenario.programs) c ≡ true → IsTried h logs r i c

-- where the path at a place leads, the next line of each actor is met
abbrev pub AreMet : History → Logs → Reached → ℕ → Type 0
AreMet h logs r i = (x : Actor) → IsMetWith h logs r i x

-- where the path at a place leads, each choice is tried as that of a missing step, and the next line of each actor is met
pub record FollowsAll (h : History) (logs : Logs) (r : Reached) (i : ℕ) : Type 0 where
  pub tried : AreTried h logs r i
  pub met : AreMet h logs r i

-- a line tells of a `run` that did
pub record TellsDid (line : LogLine) : Type 0 where
  pub node : Node
  pub txn : ℕ
  pub run : line.choice ≡ Run node txn
  pub did : line.told ≡ Some pattern.Did

-- the outcome changes nothing
abbrev pub is_nothing : OutcomePattern → Bool
is_nothing pattern.BadMode = true
is_nothing pattern.Idle = true
is_nothing pattern.Elsewhere = true
is_nothing pattern.NotYet = true
is_nothing (pattern.Waits page) = true
is_nothing (pattern.Awaits page) = true
is_nothing pattern.NoMessage = true
is_nothing (pattern.Held page) = true
is_nothing pattern.Stray = true
is_nothing (pattern.Active txn) = true
is_nothing pattern.NoPush = true
is_nothing t = false

-- a line tells that nothing came of its choice
pub record TellsNothing (line : LogLine) : Type 0 where
  pub what : OutcomePattern
  pub told : line.told ≡ Some what
  pub nothing : is_nothing what ≡ true

-- the next line of a node may be followed alone: its choice is the node's, it tells of a `run` that did, or that nothing came, and no
-- step may be missing before it
pub record MayBeAlone (n : Node) (logs : Logs) (cursors : Cursors) (line : LogLine) : Type 0 where
  pub next : IsNextLine (actor_at n) logs cursors line
  pub own : actor_of line.choice ≡ actor_at n
  pub tells : TellsDid line ⊎ TellsNothing line
  pub whole : HasGap (actor_at n) logs cursors → ⊥

-- where the path at a place leads, lines agree with what the step of their choice shows
abbrev pub AgreeAt : History → Reached → ℕ → StepLines → Type 0
AgreeAt h r i lines = Agree lines.line lines.other (observation_by h r i lines.line.choice)

-- and a path leads where that step does
pub record LeadsOn (h : History) (r : Reached) (i : ℕ) (lines : StepLines) : Type 0 where
  pub agree : AgreeAt h r i lines
  pub known : IsKnown h r (advanced_by lines.by (cursors_at r i)) (state_by h r i lines.line.choice)

-- the line of a node's log, alone
abbrev pub alone_at : Node → LogLine → StepLines
alone_at n line = record { by = One (actor_at n); line = line; other = None }

-- where the path at a place leads, a next line that may be followed alone leads on
pub record FollowsAlone (h : History) (logs : Logs) (r : Reached) (i : ℕ) : Type 0 where
  pub node : Node
  pub line : LogLine
  pub may : MayBeAlone node logs (cursors_at r i) line
  pub leads : LeadsOn h r i (alone_at node line)

-- all lines are matched, and the state has the end that is asked for
pub record IsComplete (p : Plan) (cursors : Cursors) (s : State) : Type 0 where
  pub matched : AreMatched p.logs cursors
  pub end : HasEnd p.end s

-- the path at a place is an order with the end that is asked for
abbrev pub IsCompleteAt : Plan → Reached → ℕ → Type 0
IsCompleteAt p r i = IsComplete p (cursors_at r i) (reached p.start (path_at r.visited i))

-- the path at a place was followed: it is no such order, and all steps were followed, or one line alone
pub record IsFollowed (p : Plan) (r : Reached) (i : ℕ) : Type 0 where
  pub part : IsCompleteAt p r i → ⊥
  pub steps : FollowsAll p.start p.logs r i ⊎ FollowsAlone p.start p.logs r i

-- each path but those that are to do was followed
abbrev pub AreFollowedBut : Plan → Reached → List ℕ → Type 0
AreFollowedBut p r todo = (i : ℕ) → i < length r.visited → Contains todo i ⊎ IsFollowed p r i

-- the last place to do was taken, and each path but it and those to do was followed; or none was, and each path was
abbrev pub IsTaken : Plan → Reached → Option ℕ → Type 0
IsTaken p r None = (i : ℕ) → i < length r.visited → IsFollowed p r i
IsTaken p r (Some at) = (at < length r.visited) × AreFollowedBut p r (r.todo.items ++ at ∷ [])

-- a search follows its paths: each but those that are to do was followed
pub record Follows (p : Plan) (s : Search) : Type 0 where
  pub search : IsSearch p s
  pub followed : AreFollowedBut p s.reached s.reached.todo.items

-- the path at a place can be gone to, with a machine
pub record IsDue (p : Plan) (s : Search) (at : ℕ) (m : PlacedMachine) : Type 0 where
  pub search : IsSearch p s
  pub there : at < length s.reached.visited
  pub machine : IsPlaced p.start s.reached.visited m

-- each actor has a turn
abbrev pub HasEachActor : Turns → Type 0
HasEachActor turns = (x : Actor) → (x ≡ turns.first) ⊎ (x ≡ turns.second) ⊎ (x ≡ turns.third)

-- ---- what a part of a search adds

-- a search goes on from a path: a machine is where it leads
pub record StandsAt (p : Plan) (s : Search) (at : ℕ) (m : History) : Type 0 where
  pub search : IsSearch p s
  pub there : at < length s.reached.visited
  pub machine : IsHere p.start s.reached.visited at m

-- a search goes on from a position
abbrev pub IsAt : Position → Search → Type 0
IsAt here s = StandsAt here.plan.now s here.at here.machine.now

-- a machine that has made one choice more than the path at a place
pub record IsNext (h : History) (r : Reached) (at : ℕ) (c : Choice) (m : History) : Type 0 where
  pub scenario : m.scenario ≡ h.scenario
  pub state : m.state ≡ state_by h r at c
  pub longer : length m.entries ≡ length h.entries + length_at r.visited at + 1

-- what came of the lines of a step where the path at a place leads
abbrev pub IsMetBy : History → Reached → ℕ → StepLines → Met → Type 0
IsMetBy h r i lines met.Unfit = AgreeAt h r i lines → ⊥
IsMetBy h r i lines met.Known = LeadsOn h r i lines
IsMetBy h r i lines met.Spent = Unit {0}

-- a branch leads on to cursors, and the twin has made its choice
pub record GoesOn (p : Plan) (s : Search) (b : Branch) (to : Cursors) : Type 0 where
  pub search : IsSearch p s
  pub there : b.from < length s.reached.visited
  pub leads : Leads p.start.scenario p.logs (cursors_at s.reached b.from) (observation_by p.start s.reached b.from b.by) to
  pub next : IsNext p.start s.reached b.from b.by s.twin

-- the twin has made the choice of lines that come next where the path at a place leads, and this is what its step shows
pub record HasMade (p : Plan) (s : Search) (at : ℕ) (lines : StepLines) (shown : Observation) : Type 0 where
  pub search : IsSearch p s
  pub there : at < length s.reached.visited
  pub next : ComeNext p.start.scenario.version p.logs (cursors_at s.reached at) lines
  pub made : IsNext p.start s.reached at lines.line.choice s.twin
  pub came : shown ≡ observation_by p.start s.reached at lines.line.choice

-- a search went from old to new: each new path is to be followed, and each that was to be still is
pub record Adds (p : Plan) (old new : Search) : Type 0 where
  pub search : IsSearch p new
  pub extends : Extends old.reached new.reached
  pub more : (i : ℕ) → length old.reached.visited ≤ i → i < length new.reached.visited → Contains new.reached.todo.items i
  pub still : (i : ℕ) → Contains old.reached.todo.items i → Contains new.reached.todo.items i

-- a search went from old to new, and nothing but its recent is another
pub record KeepsOthers (p : Plan) (old new : Search) : Type 0 where
  pub reached : new.reached ≡ old.reached
  pub twin : new.twin ≡ old.twin
  pub recent : AreRecentMachines p.start new.reached.visited new.recent

-- ---- what comes of it

-- what came of following the paths: one is an order with the end that is asked for, or each was followed, or the search gave up
abbrev pub Settles : Plan → Reached → Followed → Type 0
Settles p r (followed.Whole i) = (i < length r.visited) × IsCompleteAt p r i
Settles p r followed.Nowhere = (i : ℕ) → i < length r.visited → IsFollowed p r i
Settles p r followed.Spent = Unit {0}

-- what each answer says of the ways along the logs
abbrev pub AnswersFor : Plan → OrderAnswer → Type 0
AnswersFor p (answer.Found v) = (to : Cursors) × IsWayOf p v.items to × IsComplete p to (reached p.start v.items)
AnswersFor p (answer.OtherEnd v) = (to : Cursors) × IsOtherEndWay p v.items to
AnswersFor p (answer.Nowhere v) = (to : Cursors) × IsFurthestWay p v.items to
AnswersFor p (answer.Spent v) = (to : Cursors) × IsWayOf p v.items to
