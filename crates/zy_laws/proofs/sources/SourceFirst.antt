-- After every schedule the database is that of the committed transactions, run one by one, within each migration those at its source first.
use Rattle.std.proofs.Common.{List, [], ap, refl, subst, sym, ℕ, ◌++◌, ◌∙◌, ◌∷◌, ◌≡◌, ◌≤◌}
use Rattle.std.specs.Prelude.{slice_get, drop, length}
use Rattle.zy_isa.specs.Scenario.{IsScenario, Scenario}
use Rattle.zy_isa.specs.declared.choice.Choice.{Choice}
use Rattle.zy_isa.specs.declared.node.Node.{Node}
use Rattle.zy_isa.specs.declared.node.Node.TheVariants.{A, B}
use Rattle.zy_model.specs.Families.{is_source}
use Rattle.zy_table.specs.Change.{txn_at, txn_or}
use Rattle.zy_table.specs.Database.{Map, database}
use Rattle.zy_table.specs.Play.{move, opening, play, side_of, step}
use Rattle.zy_table.specs.Serial.{Registers, serial}
use Rattle.zy_table.specs.State.{State, View, facing, seen_from}
use Rattle.zy_laws.specs.SourceFirst.{SerialIn, Sorted, sorted, sorted_by, sorted_step, migration_order}
use Rattle.zy_laws.proofs.locks.LockingSteps.{kept_event}
use Rattle.zy_laws.proofs.locks.Reached.{inv_view, lows_then}
use Rattle.zy_laws.proofs.order.ListsInOrder.{Tidy, opening_tidy, ordered_from, step_tidy}
use Rattle.zy_laws.proofs.owner.OneOwner.{step_inv}
use Rattle.zy_laws.proofs.places.Opening.{laid_out, opening_database}
use Rattle.zy_laws.proofs.sources.Aside.{serial-append}
use Rattle.zy_laws.proofs.sources.Halves.{Divided}
use Rattle.zy_laws.proofs.sources.Sides.{Holds, divided_from, divided_to, none, opening_holds}
use Rattle.zy_laws.proofs.sources.Sorting.{divided_event, sorted_after}
use Rattle.zy_laws.proofs.walk.Events.{step_happens}

-- sorting by the views of the node that acts is sorting by the states
pub then_step : (n : Node) (s : State) (w : View) (o : Sorted) → sorted_after (facing n s) w o
    ≡ sorted_by (is_source (facing n s).me.mode) (is_source (facing n (seen_from n w)).me.mode) (drop (length s.commits) (seen_from n w).commits) o
then_step A s w o = refl
then_step B s w o = refl

-- a step keeps it, with the newest low keys after the step
pub step_divided : (sc : Scenario) (start : Map) → 2 ≤ sc.cap → (c : Choice) (s : State) (lows : List ℕ) (o : Sorted) → Tidy s
    → Divided sc A (facing A s) start lows o
    → Divided sc A (facing A (step sc c s).after) start (lows_then sc c s lows) (sorted_step sc c s o)
unfolding step sorted_step
step_divided sc start two c s lows o x h =
    let n = side_of sc c s in
    let v = facing n s in
    let w = (move sc c v).after in
    let event = (step_happens sc c s).event in
    let before = divided_from sc n s start lows o h in
    let inv = inv_view n w (step_inv sc c s h.kept.inv) in
    let next = divided_event sc n v w start lows o before event (kept_event sc n v w lows two (ordered_from n s x.ordered) before.kept inv event) in
    divided_to sc n w start (lows_then sc c s lows) _ (subst (Divided sc n w start (lows_then sc c s lows)) (then_step n s w o) next)

-- a step keeps it
pub step_holds : (sc : Scenario) (start : Map) → 2 ≤ sc.cap → (c : Choice) (s : State) (o : Sorted) → Tidy s → Holds sc start s o
    → Holds sc start (step sc c s).after (sorted_step sc c s o)
step_holds sc start two c s o x h = record { lows = lows_then sc c s h.lows; divided = step_divided sc start two c s h.lows o x h.divided }

-- what every step keeps of a state and the sorted commits holds after every schedule, beside what is known of every state on the way
pub sorted-keeps : (sc : Scenario) (Q : State → Type 0) (P : State → Sorted → Type 0) → ((c : Choice) (s : State) → Q s → Q (step sc c s).after)
    → ((c : Choice) (s : State) (o : Sorted) → Q s → P s o → P (step sc c s).after (sorted_step sc c s o))
    → (cs : List Choice) (s : State) (o : Sorted) → Q s → P s o → P (play sc s cs) (sorted sc s cs o)
sorted-keeps sc Q P known keeps [] s o q p = p
sorted-keeps sc Q P known keeps (c ∷ cs) s o q p =
    sorted-keeps sc Q P known keeps cs (step sc c s).after (sorted_step sc c s o) (known c s q) (keeps c s o q p)

-- so does the whole statement
pub reached_holds : (sc : Scenario) → IsScenario sc → (cs : List Choice)
    → Holds sc (database (opening sc)) (play sc (opening sc) cs) (sorted sc (opening sc) cs none)
reached_holds sc l cs =
    sorted-keeps sc Tidy (Holds sc (database (opening sc))) (step_tidy sc) (step_holds sc (database (opening sc)) l.cap_least) cs (opening sc) none
    (opening_tidy sc l) (opening_holds sc (laid_out sc l))

-- the law: the database is that of the committed transactions, run one by one in the migration order
pub serial_source_first : (sc : Scenario) → IsScenario sc → (cs : List Choice) → SerialIn (migration_order sc cs) sc (play sc (opening sc) cs)
unfolding database txn_at
serial_source_first sc l cs =
    let s = play sc (opening sc) cs in
    let o = sorted sc (opening sc) cs none in
    let order = o.first ++ o.later in
    let h = (reached_holds sc l cs).divided in
    let start = opening_database sc l in
    record {
      one_by_one = h.is_serial ∙ sym (serial-append sc (database (opening sc)) o.first o.later) ∙ ap (λ m. serial sc m order) start;
      permuted = h.permuted;
      registers = subst (λ m. Registers sc (λ (t : ℕ). txn_or (slice_get s.txns t)) m order) start h.registers;
    }
