-- What each transaction that runs or has committed had seen in an earlier state of the schedule.
use Rattle.std.proofs.Common.{List, [], ap, arith, false, refl, subst, sym, true, ℕ, ◌++◌, ◌∙◌, ◌∷◌, ◌≡◌, ◌≤◌}
use Rattle.std.specs.Prelude.{Bool, Some, drop, if◌then◌else◌, slice_get, take}
use Rattle.std.specs.FinMap.{empty}
use Rattle.std.proofs.lemmas.Bool.{false≢true}
use Rattle.std.proofs.lemmas.List.{take-append-drop}
use Rattle.zy_isa.specs.Scenario.{IsScenario, Scenario}
use Rattle.zy_isa.specs.declared.choice.Choice.{Choice}
use Rattle.zy_isa.specs.declared.instr.Instr.{Instr}
use Rattle.zy_isa.specs.declared.instr.Instr.TheVariants.{Commit}
use Rattle.zy_isa.specs.declared.node.Node.{Node}
use Rattle.zy_isa.specs.declared.node.Node.TheVariants.{A, B}
use Rattle.zy_model.specs.Families.{is_source}
use Rattle.zy_table.specs.Change.{nobody, txn_at, txn_or}
use Rattle.zy_table.specs.Client.{is_active}
use Rattle.zy_table.specs.Database.{Map, database, laid}
use Rattle.zy_table.specs.declared.effect.Effect.{Effect}
use Rattle.zy_table.specs.declared.effect.Effect.TheVariants.{Commits}
use Rattle.zy_table.specs.declared.entry.CommitRecord.{CommitRecord}
use Rattle.zy_table.specs.Effects.{effect_of}
use Rattle.zy_table.specs.Play.{move, opening, play, side_of, step}
use Rattle.zy_table.specs.Run.{program_of}
use Rattle.zy_table.specs.Serial.{Registers, alone, serial}
use Rattle.zy_table.specs.State.{State, Txn, View, facing, other, seen_from}
use Rattle.zy_laws.specs.RealTime.{txns_after}
use Rattle.zy_laws.specs.SourceFirst.{Sorted, migration_order, sorted, sorted_step}
use Rattle.zy_laws.specs.Views.{AllEnd, AllSeen, IsOnLoneRun, commits_before, rows_after}
use Rattle.zy_laws.proofs.locks.Locking.{whole}
use Rattle.zy_laws.proofs.order.ListsInOrder.{Tidy, opening_tidy, step_tidy}
use Rattle.zy_laws.proofs.owner.Roles.{Owned, turned}
use Rattle.zy_laws.proofs.places.Installing.{Placed}
use Rattle.zy_laws.proofs.places.Opening.{laid_out, opening_database}
use Rattle.zy_laws.proofs.places.PageValues.{db}
use Rattle.zy_laws.proofs.serial.LoneRuns.{Lone, lone, on_map}
use Rattle.zy_laws.proofs.serial.Values.{turned_db}
use Rattle.zy_laws.proofs.sources.Aside.{serial-append}
use Rattle.zy_laws.proofs.sources.Halves.{base}
use Rattle.zy_laws.proofs.sources.Histories.{Entires, Past, Retraced, past_same, retraced_event}
use Rattle.zy_laws.proofs.sources.RealTime.{play-append, sorted-append}
use Rattle.zy_laws.proofs.sources.Sides.{Holds, divided_from, none, opening_holds}
use Rattle.zy_laws.proofs.sources.Sorting.{sorted_after}
use Rattle.zy_laws.proofs.sources.SourceFirst.{sorted-keeps, step_holds, then_step}
use Rattle.zy_laws.proofs.travel.OneWay.{sourced}
use Rattle.zy_laws.proofs.walk.Events.{step_happens}
use Rattle.zy_laws.proofs.walk.Txns.{IsAt, active_off, active_old}

-- what holds from one side holds from the other
turned_retraced : (sc : Scenario) (was : ℕ → Txn) (n m : Node) (v : View) (start : Map) (o : Sorted) → other m ≡ n → other n ≡ m → db (turned v) ≡ db v
    → Retraced sc was n v start o → Retraced sc was m (turned v) start o
unfolding txn_at
turned_retraced sc was n m v start o back forth same h =
    let d = serial sc start o.first in
    record {
      mine = λ t a active. past_same (ap (base (is_source v.them.mode) d) same) (omega arith) (h.theirs t (subst (λ z. IsAt v t z) (sym forth) a) active);
      theirs = λ t a active. past_same (ap (base (is_source v.me.mode) d) same) (omega arith) (h.mine t (subst (λ z. IsAt v t z) back a) active);
      all = h.all;
      begun = h.begun;
    }

-- what holds from A holds from either node
retraced_from : (sc : Scenario) (was : ℕ → Txn) (n : Node) (s : State) (start : Map) (o : Sorted) → db (facing n s) ≡ db (facing A s)
    → Retraced sc was A (facing A s) start o → Retraced sc was n (facing n s) start o
retraced_from sc was A s start o same h = h
retraced_from sc was B s start o same h = turned_retraced sc was A B (facing A s) start o refl refl same h

-- what holds from either node holds from A
retraced_to : (sc : Scenario) (was : ℕ → Txn) (n : Node) (w : View) (start : Map) (o : Sorted) → db (facing A (seen_from n w)) ≡ db w
    → Retraced sc was n w start o → Retraced sc was A (facing A (seen_from n w)) start o
retraced_to sc was A w start o same h = h
retraced_to sc was B w start o same h = turned_retraced sc was B A w start o refl refl same h

-- the database is the same from either node
pub db_from : (n : Node) (s : State) (lows : List ℕ) → Placed lows (whole (facing A s)) → Owned (facing A s) → db (facing n s) ≡ db (facing A s)
db_from A s lows placed o = refl
db_from B s lows placed o = turned_db lows (facing A s) placed o

-- and from the node that acts
db_to : (n : Node) (w : View) (lows : List ℕ) → Placed lows (whole (facing A (seen_from n w))) → Owned (facing A (seen_from n w))
    → db (facing A (seen_from n w)) ≡ db w
db_to A w lows placed o = refl
db_to B w lows placed o = sym (turned_db lows (turned w) placed o)

-- what holds of each state after an earlier one
pub record Known (sc : Scenario) (was : ℕ → Txn) (start : Map) (s : State) (o : Sorted) : Type 0 where
  pub holds : Holds sc start s o
  pub told : Retraced sc was A (facing A s) start o

-- a step keeps it
step_known : (sc : Scenario) (was : ℕ → Txn) (start : Map) → 2 ≤ sc.cap → (c : Choice) (s : State) (o : Sorted) → Tidy s → Known sc was start s o
    → Known sc was start (step sc c s).after (sorted_step sc c s o)
unfolding step sorted_step
step_known sc was start two c s o x k =
    let n = side_of sc c s in
    let v = facing n s in
    let w = (move sc c v).after in
    let happens = step_happens sc c s in
    let them = (sourced sc n (move sc c v).outcome v w happens.event happens.told).them in
    let before = k.holds.divided.kept in
    let next = step_holds sc start two c s o x k.holds in
    let after = next.divided.kept in
    record {
      holds = next;
      told = subst (Retraced sc was A (facing A (seen_from n w)) start) (then_step n s w o)
          (retraced_to sc was n w start (sorted_after v w o) (db_to n w next.lows after.placed after.inv.owned)
          (retraced_event sc was n v w start k.holds.lows o (divided_from sc n s start k.holds.lows o k.holds.divided) happens.event them
          (retraced_from sc was n s start o (db_from n s k.holds.lows before.placed before.inv.owned) k.told)));
    }

-- no transaction is active
abbrev idle : ℕ → Txn
idle t = nobody

-- it holds at the opening
opening_known : (sc : Scenario) → IsScenario sc → Known sc idle (database (opening sc)) (opening sc) none
opening_known sc l = record {
  holds = opening_holds sc (laid_out sc l);
  told = record {
    mine = λ t a active. absurd (false≢true active);
    theirs = λ t a active. absurd (false≢true active);
    all = tt;
    begun = λ t active. absurd (false≢true active);
  };
}

-- committed transactions were not active
entires_now : (sc : Scenario) (f : ℕ → Txn) (m : Map) (cs : List CommitRecord) → Registers sc f m cs → Entires sc idle m cs → Entires sc f m cs
entires_now sc f m [] r h = tt
entires_now sc f m (c ∷ cs) r h =
    let x = h.0 in (
      record {
        before = x.before;
        is = x.is;
        on = x.on;
        instr = x.instr;
        next = x.next;
        does = x.does;
        past = λ active. absurd (false≢true (sym (active_off (f c.txn).status active) ∙ r.0.0));
      },
      entires_now sc f (alone m (program_of sc c.txn) c.done).map cs r.1 h.1,
    )

-- of its own transactions it holds in each state
itself : (sc : Scenario) (start : Map) (s : State) (o : Sorted) → Known sc idle start s o → Known sc (txn_at (facing A s)) start s o
itself sc start s o k =
    let d = k.holds.divided in
    record {
      holds = k.holds;
      told = record {
        mine = λ t a active. let f = d.mine.runs t a in record { keys = f.keys; run = f.run; early = omega arith };
        theirs = λ t a active. let f = d.theirs.runs t a in record { keys = f.keys; run = f.run; early = omega arith };
        all = entires_now sc (txn_at (facing A s)) start (o.first ++ o.later) d.registers k.told.all;
        begun = λ t active. active_old (txn_at (facing A s) t).status active;
      };
    }

-- after a schedule in two parts it holds of the transactions after the first
known_both : (sc : Scenario) → IsScenario sc → (cs more : List Choice)
    → Known sc (txn_at (facing A (play sc (opening sc) cs))) (database (opening sc)) (play sc (opening sc) (cs ++ more)) (sorted sc (opening sc) (cs ++ more) none)
known_both sc l cs more =
    let start = database (opening sc) in
    let s = play sc (opening sc) cs in
    let o = sorted sc (opening sc) cs none in
    let both : Known sc idle start s o × Tidy s =
    sorted-keeps sc Tidy (λ z x. Known sc idle start z x × Tidy z) (step_tidy sc)
    (λ c z x y h. (step_known sc idle start l.cap_least c z x y h.0, step_tidy sc c z y)) cs (opening sc) none (opening_tidy sc l)
    (opening_known sc l, opening_tidy sc l) in
    let was = txn_at (facing A s) in
    let h : Known sc was start (play sc s more) (sorted sc s more o) = sorted-keeps sc Tidy (Known sc was start) (step_tidy sc)
    (step_known sc was start l.cap_least) more s o both.1 (itself sc start s o both.0) in
    subst (λ z. Known sc was start z (sorted sc (opening sc) (cs ++ more) none)) (sym (play-append sc (opening sc) cs more))
    (subst (Known sc was start (play sc s more)) (sym (sorted-append sc (opening sc) cs more none)) h)

-- and so of those after any part of a schedule
pub known : (sc : Scenario) → IsScenario sc → (cs : List Choice) (n : ℕ)
    → Known sc (txns_after sc cs n) (database (opening sc)) (play sc (opening sc) cs) (sorted sc (opening sc) cs none)
unfolding txn_at
known sc l cs n =
    subst (λ xs. Known sc (txns_after sc cs n) (database (opening sc)) (play sc (opening sc) xs) (sorted sc (opening sc) xs none)) (take-append-drop n cs)
    (known_both sc l (take n cs) (drop n cs))

-- whether an effect commits
abbrev commits : Effect → Bool
commits Commits = true
commits e = false

-- one instruction alone has this effect
commit_only : (i : Instr) (regs : List ℕ) → effect_of i regs ≡ Commits → i ≡ Commit
commit_only Commit regs is = refl
commit_only i regs is = absurd (false≢true (ap commits is))

-- each lone run ends by its commit
all_end : (sc : Scenario) (was : ℕ → Txn) (m : Map) (cs : List CommitRecord) → Entires sc was m cs → AllEnd sc m cs
all_end sc was m [] h = tt
all_end sc was m (c ∷ cs) h =
    let x = h.0 in
    let program = program_of sc c.txn in
    let run = on_map m program x.before x.on in (
      record {
        before = x.before;
        is = x.is;
        on = run.over;
        last = ap (slice_get program) run.pc ∙ x.next ∙ ap (λ i. Some i) (commit_only x.instr (lone m program x.before).regs x.does);
      },
      all_end sc was (alone m program c.done).map cs h.1,
    )

-- a transaction that lies on its lone run has come as far as it
pub on_lone_run : (program : List Instr) (m : Map) (done : ℕ) (x : Txn) → Past program m done x → IsOnLoneRun program m x
on_lone_run program m done x p =
    let run = on_map m program x.done (ap (λ (y : Lone). y.over) p.run) in
    record {
      on = run.over;
      regs = run.regs ∙ ap (λ (y : Lone). y.regs) p.run;
      pc = run.pc ∙ ap (λ (y : Lone). y.pc) p.run;
      map = run.map ∙ ap (λ (y : Lone). laid y.rows m) p.run;
    }

-- and so has each committed one that was active
all_seen : (sc : Scenario) (was : ℕ → Txn) (m : Map) (cs : List CommitRecord) → Entires sc was m cs → AllSeen sc was m cs
all_seen sc was m [] h = tt
all_seen sc was m (c ∷ cs) h = (
  λ active. on_lone_run (program_of sc c.txn) m h.0.before (was c.txn) (h.0.past active),
  all_seen sc was (alone m (program_of sc c.txn) c.done).map cs h.1,
)

-- the law: the lone runs in the migration order end by their commits
pub lone_runs_end : (sc : Scenario) → IsScenario sc → (cs : List Choice) → AllEnd sc (laid sc.rows empty) (migration_order sc cs)
lone_runs_end sc l cs =
    subst (λ m. AllEnd sc m (migration_order sc cs)) (opening_database sc l)
    (all_end sc (txns_after sc cs 0) (database (opening sc)) (migration_order sc cs) (known sc l cs 0).told.all)

-- the law: each committed transaction had come as far as its lone run in the migration order
pub committed_views : (sc : Scenario) → IsScenario sc → (cs : List Choice) (n : ℕ)
    → AllSeen sc (txns_after sc cs n) (laid sc.rows empty) (migration_order sc cs)
committed_views sc l cs n =
    subst (λ m. AllSeen sc (txns_after sc cs n) m (migration_order sc cs)) (opening_database sc l)
    (all_seen sc (txns_after sc cs n) (database (opening sc)) (migration_order sc cs) (known sc l cs n).told.all)

-- what a node's transactions run on, as a serial run
base_serial : (sc : Scenario) (start d : Map) (source : Bool) (o : Sorted) → d ≡ serial sc (serial sc start o.first) o.later
    → base source (serial sc start o.first) d ≡ serial sc start (if source then o.first else o.first ++ o.later)
base_serial sc start d true o is = refl
base_serial sc start d false o is = is ∙ sym (serial-append sc start o.first o.later)

-- what a transaction lies on that runs at a node
past_at : (sc : Scenario) (was : ℕ → Txn) (start : Map) (s : State) (o : Sorted) (t : ℕ) (m : Node) → Known sc was start s o → IsAt (facing A s) t m
    → is_active (was t).status ≡ true
    → Past (program_of sc t) (serial sc start (if is_source (facing m s).me.mode then o.first else o.first ++ o.later)) (txn_at (facing A s) t).done (was t)
past_at sc was start s o t A k a active =
    past_same (sym (base_serial sc start (db (facing A s)) (is_source s.a.mode) o k.holds.divided.is_serial)) (omega arith) (k.told.mine t a active)
past_at sc was start s o t B k a active =
    past_same (sym (base_serial sc start (db (facing A s)) (is_source s.b.mode) o k.holds.divided.is_serial)) (omega arith) (k.told.theirs t a active)

-- the law: each active transaction had come as far as its lone run on the commits that it has before it
pub active_views : (sc : Scenario) → IsScenario sc → (cs : List Choice) (n t : ℕ)
    → is_active (txn_or (slice_get (play sc (opening sc) cs).txns t)).status ≡ true → is_active (txns_after sc cs n t).status ≡ true
    → IsOnLoneRun (program_of sc t) (rows_after sc (commits_before sc cs t)) (txns_after sc cs n t)
unfolding txn_at
active_views sc l cs n t now active =
    let s = play sc (opening sc) cs in
    let o = sorted sc (opening sc) cs none in
    let x = txn_or (slice_get s.txns t) in
    let p = past_at sc (txns_after sc cs n) (database (opening sc)) s o t x.node (known sc l cs n) (now, refl) active in
    subst (λ m. IsOnLoneRun (program_of sc t) (serial sc m (commits_before sc cs t)) (txns_after sc cs n t)) (opening_database sc l)
    (on_lone_run (program_of sc t) (serial sc (database (opening sc)) (commits_before sc cs t)) x.done (txns_after sc cs n t) p)
