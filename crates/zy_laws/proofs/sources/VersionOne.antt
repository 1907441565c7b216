-- In version 1 the database is that of the committed transactions, run one by one: those at A, and then those at B.
use Rattle.std.proofs.Common.{List, ap, append-nil, false, refl, subst, sym, ℕ, ◌++◌, ◌∙◌, ◌≡◌, ◌≤◌}
use Rattle.zy_isa.specs.Scenario.{IsScenario, Scenario}
use Rattle.zy_isa.specs.declared.choice.Choice.{Choice}
use Rattle.zy_isa.specs.declared.node.Node.{Node}
use Rattle.zy_isa.specs.declared.node.Node.TheVariants.{A, B}
use Rattle.zy_isa.specs.declared.version.Version.TheVariants.{One}
use Rattle.zy_model.specs.Families.{is_source}
use Rattle.zy_table.specs.Change.{txn_at}
use Rattle.zy_table.specs.Play.{move, opening, play, side_of, step}
use Rattle.zy_table.specs.State.{State, View, facing, seen_from}
use Rattle.zy_laws.specs.SourceFirst.{SerialIn, Sorted, commits_at, sorted, sorted_step}
use Rattle.zy_laws.proofs.locks.Locking.{Kept}
use Rattle.zy_laws.proofs.locks.Reached.{kept_from, lows_then, opening_reached, step_kept}
use Rattle.zy_laws.proofs.order.ListsInOrder.{Tidy, opening_tidy, step_tidy}
use Rattle.zy_laws.proofs.places.Opening.{laid_out}
use Rattle.zy_laws.proofs.sources.ByNode.{AllCommitted, Before, ByNode, Since, a_event, all_after, b_event}
use Rattle.zy_laws.proofs.sources.Sides.{none}
use Rattle.zy_laws.proofs.sources.Sorting.{sorted_after}
use Rattle.zy_laws.proofs.sources.SourceFirst.{serial_source_first, sorted-keeps, then_step}
use Rattle.zy_laws.proofs.travel.OneWay.{not_at_b, opening_b, sourced, step_off}
use Rattle.zy_laws.proofs.walk.Events.{Event, step_happens}

-- the commits of a state, sorted: all are of committed transactions, and those at A come before those at B
record Parted (s : State) (o : Sorted) : Type 0 where
  all : AllCommitted (txn_at (facing A s)) s.commits
  by : ByNode s.a.mode (txn_at (facing A s)) s.commits o

-- an event of either node keeps it
event_parted : (sc : Scenario) → sc.version ≡ One → (n : Node) (s : State) (w : View) (lows : List ℕ) (o : Sorted) → Event sc n (facing n s) w
    → Kept sc n (facing n s) lows → is_source s.b.mode ≡ false → w.them ≡ (facing n s).them → Parted s o
    → Parted (seen_from n w) (sorted_after (facing n s) w o)
unfolding txn_at
event_parted sc one A s w lows o e k off them p = record {
  all = all_after (facing A s) w e p.all;
  by = a_event sc (facing A s) w lows o e k off p.all p.by;
}
event_parted sc one B s w lows o e k off them p = record {
  all = all_after (facing B s) w e p.all;
  by = b_event sc (facing B s) w lows o e one k off them p.all p.by;
}

-- what holds of each state of version 1, with the newest low keys
record Split (sc : Scenario) (s : State) (o : Sorted) : Type 0 where
  lows : List ℕ
  kept : Kept sc A (facing A s) lows
  off : is_source s.b.mode ≡ false
  parted : Parted s o

-- a step keeps it
step_split : (sc : Scenario) → sc.version ≡ One → 2 ≤ sc.cap → (c : Choice) (s : State) (o : Sorted) → Tidy s → Split sc s o
    → Split sc (step sc c s).after (sorted_step sc c s o)
unfolding step sorted_step
step_split sc one two c s o x h =
    let n = side_of sc c s in
    let v = facing n s in
    let w = (move sc c v).after in
    let happens = step_happens sc c s in
    let them = (sourced sc n (move sc c v).outcome v w happens.event happens.told).them in
    record {
      lows = lows_then sc c s h.lows;
      kept = step_kept sc c s h.lows two x h.kept;
      off = step_off sc c s B (not_at_b sc _ _ one) h.off;
      parted = subst (Parted (seen_from n w)) (then_step n s w o)
          (event_parted sc one n s w h.lows o happens.event (kept_from sc n s h.lows h.kept) h.off them h.parted);
    }

-- it holds at the opening
opening_split : (sc : Scenario) → IsScenario sc → Split sc (opening sc) none
unfolding opening
opening_split sc l =
    let a = opening_reached sc (laid_out sc l) in
    record { lows = a.lows; kept = a.kept; off = opening_b sc; parted = record { all = tt; by = Before refl refl refl refl } }

-- those at A come before those at B
a_before_b : (s : State) (o : Sorted) → ByNode s.a.mode (txn_at (facing A s)) s.commits o → o.first ++ o.later ≡ commits_at A s ++ commits_at B s
unfolding txn_at
a_before_b s o (Before normal a b c) = ap (λ xs. xs ++ o.later) a ∙ b ∙ sym (append-nil (commits_at A s)) ∙ ap (λ xs. commits_at A s ++ xs) (sym c)
a_before_b s o (Since leaving a b) = ap (λ xs. xs ++ o.later) a ∙ ap (λ xs. commits_at A s ++ xs) b

-- the law: in version 1 the order is that of the commits at A, and then of those at B
pub serial_a_first : (sc : Scenario) → IsScenario sc → sc.version ≡ One → (cs : List Choice) → let s = play sc (opening sc) cs in
    SerialIn (commits_at A s ++ commits_at B s) sc s
serial_a_first sc l one cs =
    let s = play sc (opening sc) cs in
    let h = sorted-keeps sc Tidy (Split sc) (step_tidy sc) (step_split sc one l.cap_least) cs (opening sc) none (opening_tidy sc l) (opening_split sc l) in
    subst (λ order. SerialIn order sc s) (a_before_b s (sorted sc (opening sc) cs none) h.parted.by) (serial_source_first sc l cs)
