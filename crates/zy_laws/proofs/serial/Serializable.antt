-- After every schedule the database is that of the committed transactions, run one by one.
use Rattle.zy_isa.specs.declared.rule.Rule.TheVariants.{Held}
use Rattle.zy_table.specs.Take.{is_held}
use Rattle.std.proofs.Common.{List, ap, append-nil, refl, subst, sym, true, ℕ, ◌∙◌, ◌≡◌, ◌≤◌}
use Rattle.std.specs.Prelude.{slice_get}
use Rattle.zy_isa.specs.Scenario.{IsScenario, Scenario}
use Rattle.zy_isa.specs.declared.choice.Choice.{Choice}
use Rattle.zy_isa.specs.declared.node.Node.{Node}
use Rattle.zy_isa.specs.declared.node.Node.TheVariants.{A, B}
use Rattle.zy_table.specs.Change.{txn_at, txn_or}
use Rattle.zy_table.specs.Database.{Map, database}
use Rattle.zy_table.specs.Play.{move, opening, play, side_of, step}
use Rattle.zy_table.specs.Serial.{Registers, Serializable, serial}
use Rattle.zy_table.specs.State.{State, View, facing, seen_from}
use Rattle.zy_laws.proofs.serial.Listed.{listed}
use Rattle.zy_laws.proofs.serial.Values.{commits_from}
use Rattle.zy_laws.proofs.locks.LockingSteps.{kept_event}
use Rattle.zy_laws.proofs.locks.Reached.{inv_view, lows_then}
use Rattle.zy_laws.proofs.order.ListsInOrder.{Tidy, opening_tidy, ordered_from, step_tidy}
use Rattle.zy_laws.proofs.owner.OneOwner.{step_inv}
use Rattle.zy_laws.proofs.places.Opening.{laid_out, opening_database}
use Rattle.zy_laws.proofs.sources.Halves.{Divided}
use Rattle.zy_laws.proofs.sources.Sides.{Holds, divided_from, divided_to, opening_holds}
use Rattle.zy_laws.proofs.sources.Sorting.{in_order, serial_event}
use Rattle.zy_laws.proofs.walk.Events.{step_happens}
use Rattle.zy_laws.proofs.walk.PlayPush.{play-keeps-with}

-- the commit list of a view is that of its state
pub commits_back : (n : Node) (w : View) → (seen_from n w).commits ≡ w.commits
commits_back A w = refl
commits_back B w = refl

-- a step keeps it
step_holds : (sc : Scenario) (start : Map) → 2 ≤ sc.cap → is_held sc.rule ≡ true → (c : Choice) (s : State) → Tidy s → Holds sc start s (in_order s.commits)
    → Holds sc start (step sc c s).after (in_order (step sc c s).after.commits)
unfolding step
step_holds sc start two held c s x h =
    let n = side_of sc c s in
    let v = facing n s in
    let w = (move sc c v).after in
    let event = (step_happens sc c s).event in
    let before = divided_from sc n s start h.lows (in_order s.commits) h.divided in
    let same = commits_from n s in
    let inv = inv_view n w (step_inv sc c s h.divided.kept.inv) in
    let next = serial_event sc n v w start h.lows held (subst (λ cs. Divided sc n v start h.lows (in_order cs)) (sym same) before) event
    (kept_event sc n v w h.lows two (ordered_from n s x.ordered) before.kept inv event) in
    record {
      lows = lows_then sc c s h.lows;
      divided = divided_to sc n w start (lows_then sc c s h.lows) _
          (subst (λ cs. Divided sc n w start (lows_then sc c s h.lows) (in_order cs)) (sym (commits_back n w)) next);
    }

-- the law: the database is that of the committed transactions, run one by one
pub serializable : (sc : Scenario) → IsScenario sc → sc.rule ≡ Held → (cs : List Choice) → Serializable sc (play sc (opening sc) cs)
unfolding database opening txn_at
serializable sc l held cs =
    let s = play sc (opening sc) cs in
    let h = play-keeps-with sc Tidy (λ z. Holds sc (database (opening sc)) z (in_order z.commits)) (step_tidy sc)
    (step_holds sc (database (opening sc)) l.cap_least (ap is_held held)) cs (opening sc)
    (opening_tidy sc l) (opening_holds sc (laid_out sc l)) in
    let start = opening_database sc l in
    record {
      one_by_one = h.divided.is_serial ∙ ap (λ m. serial sc m s.commits) start;
      listed = listed sc cs;
      registers = subst (λ m. Registers sc (λ (t : ℕ). txn_or (slice_get s.txns t)) m s.commits) start
          (subst (Registers sc (txn_at (facing A s)) (database (opening sc))) (append-nil s.commits) h.divided.registers);
    }
