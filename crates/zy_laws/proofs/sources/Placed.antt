-- Each transaction, also one that aborts, has a place in the order of every longer schedule.
use Rattle.std.proofs.Common.{List, [], ap, append_assoc, append-nil, arith, false, inl, inr, length, refl, subst, suc, sym, true, ℕ, if◌then◌else◌, ◌++◌, ◌+◌, ◌<◌, ◌∙◌, ◌∷◌, ◌≡◌, ◌≤◌}
use Rattle.std.specs.Prelude.{◌⊎◌, Bool, ◌==◌, drop, slice_get, take}
use Rattle.std.specs.FinMap.{get}
use Rattle.std.specs.List.Sorted.{IsPermutation}
use Rattle.std.proofs.Math.Seq.{take-append_seam}
use Rattle.std.proofs.lemmas.Bool.{cases_Bool, cond_both, eq-eqb, false≢true, false_from_ne_true}
use Rattle.std.proofs.lemmas.List.{length-append, take-append-drop}
use Rattle.zy_isa.specs.Scenario.{IsScenario, Scenario}
use Rattle.zy_isa.specs.declared.choice.Choice.{Choice}
use Rattle.zy_isa.specs.declared.choice.Choice.TheVariants.{Run}
use Rattle.zy_isa.specs.declared.node.Node.{Node}
use Rattle.zy_isa.specs.declared.node.Node.TheVariants.{A, B}
use Rattle.zy_model.specs.Families.{is_source}
use Rattle.zy_model.specs.Wireframe.{page_of}
use Rattle.zy_table.specs.Change.{txn_at, txn_or}
use Rattle.zy_table.specs.Client.{is_active, is_new}
use Rattle.zy_table.specs.Database.{Map, database}
use Rattle.zy_table.specs.declared.entry.CommitRecord.{CommitRecord}
use Rattle.zy_table.specs.Play.{move, opening, play, side_of, step}
use Rattle.zy_table.specs.Numbers.{has}
use Rattle.zy_table.specs.Pages.{owns}
use Rattle.zy_table.specs.Run.{program_of, run_step}
use Rattle.zy_table.specs.Serial.{CommitsListed, Registers, is_committed, serial, times_listed}
use Rattle.zy_table.specs.State.{State, Txn, View, facing, seen_from}
use Rattle.zy_table.proofs.RangeLists.{has_either}
use Rattle.zy_laws.specs.RealTime.{place, txns_after}
use Rattle.zy_laws.specs.SourceFirst.{Sorted, migration_order, sorted, sorted_step}
use Rattle.zy_laws.specs.Views.{GivesUp, HasPlace, IsOnLoneRun, is_by_program, rows_after}
use Rattle.zy_laws.proofs.locks.Reached.{lows_then}
use Rattle.zy_laws.proofs.order.ListsInOrder.{Tidy, opening_tidy, step_tidy}
use Rattle.zy_laws.proofs.places.Opening.{opening_database}
use Rattle.zy_laws.proofs.places.PageValues.{db}
use Rattle.zy_laws.proofs.serial.Listed.{listed}
use Rattle.zy_laws.proofs.serial.LoneRuns.{Agree, agree_back}
use Rattle.zy_laws.proofs.sources.Aside.{registers_parts, serial-append}
use Rattle.zy_laws.proofs.sources.Ending.{not_both}
use Rattle.zy_laws.proofs.sources.GivingUp.{gives_alone, run_gives}
use Rattle.zy_laws.proofs.sources.Halves.{Divided, base, page_here}
use Rattle.zy_laws.proofs.sources.Histories.{Past, past_keys, past_same}
use Rattle.zy_laws.proofs.sources.Places.{NoneIs, listed_both, listed_permuted, none_listed, place_back, place_front}
use Rattle.zy_laws.proofs.sources.RealTime.{After, after_both, listed_once, none_new, sorted-append, step_after, timed_from}
use Rattle.zy_laws.proofs.sources.Seen.{Known, on_lone_run, db_from, known}
use Rattle.zy_laws.proofs.sources.Sides.{divided_from, none}
use Rattle.zy_laws.proofs.sources.Sorting.{sorted_after}
use Rattle.zy_laws.proofs.sources.SourceFirst.{reached_holds, sorted-keeps, step_divided, then_step}
use Rattle.zy_laws.proofs.sources.Standing.{Away, Front, In_first, In_later, Stand, stand_event}
use Rattle.zy_laws.proofs.sources.Timed.{Aged, Ends_in_first, Ends_in_later, Timed}
use Rattle.zy_laws.proofs.travel.OneWay.{sourced}
use Rattle.zy_laws.proofs.walk.Events.{step_happens}
use Rattle.zy_laws.proofs.walk.Txns.{IsAt}

-- the last of a list, if there is one
last_or : (xs : List CommitRecord) → (xs ≡ []) ⊎ ((init : List CommitRecord) × (c : CommitRecord) × (xs ≡ init ++ c ∷ []))
last_or [] = inl refl
last_or (x ∷ xs) = elim (last_or xs) [
  | inl none ↦ inr ([], x, ap (λ ys. x ∷ ys) none)
  | inr (init, c, is) ↦ inr (x ∷ init, c, ap (λ ys. x ∷ ys) is)
]

-- the last of the commits so far is of a committed transaction
last_ended : (sc : Scenario) (f : ℕ → Txn) (m : Map) (xs init : List CommitRecord) (c : CommitRecord) → xs ≡ init ++ c ∷ [] → Registers sc f m xs
    → is_committed (f c.txn).status ≡ true
last_ended sc f m xs init c is r = (registers_parts sc f m init (c ∷ []) (subst (Registers sc f m) is r)).1.0.0

-- where a state's own transactions stand: one at a source behind the first list, and else behind all
standing_by : (sc : Scenario) (start : Map) (v : View) (lows keys : List ℕ) (o : Sorted) → db v ≡ serial sc (serial sc start o.first) o.later
    → Registers sc (txn_at v) start (o.first ++ o.later) → (source : Bool) → (source ≡ false → Away v.me lows keys × Away v.them lows keys)
    → Stand sc (txn_at v) start (base source (serial sc start o.first) (db v)) keys (if source then o.first else o.first ++ o.later) v lows o
standing_by sc start v lows keys o is r true away =
    let parts = registers_parts sc (txn_at v) start o.first o.later r in
    In_first o.first [] (sym (append-nil o.first)) (record {
      agree = record { each = λ k h. refl };
      held = λ u h. h;
      last = elim (last_or o.first) [
        | inl bare ↦ inl bare
        | inr (init, c, e) ↦ inr (init, c, e, last_ended sc (txn_at v) start o.first init c e parts.0)
      ];
      unbegun = none_new sc (txn_at v) start o.first parts.0;
    })
standing_by sc start v lows keys o is r false away =
    let parts = registers_parts sc (txn_at v) start o.first o.later r in
    let begun = none_new sc (txn_at v) start (o.first ++ o.later) r in
    elim (last_or o.later) [
      | inl alone ↦
          let all : o.first ++ o.later ≡ o.first = ap (λ xs. o.first ++ xs) alone ∙ append-nil o.first in
          In_first o.first [] (sym (append-nil o.first)) (record {
            agree = record { each = λ k h. ap (λ z. get z k) (sym (is ∙ ap (serial sc (serial sc start o.first)) alone)) };
            held = λ u h. subst (λ xs. 1 ≤ times_listed u xs) all h;
            last = elim (last_or o.first) [
              | inl bare ↦ inl bare
              | inr (init, c, e) ↦ inr (init, c, e, last_ended sc (txn_at v) start o.first init c e parts.0)
            ];
            unbegun = none_new sc (txn_at v) start o.first parts.0;
          })
      | inr (init, c, e) ↦
          let ended = last_ended sc (txn_at v) (serial sc start o.first) o.later init c e parts.1 in
          In_later init c [] (e ∙ sym (append-nil (init ++ c ∷ []))) ended (record {
            agree = record {
              each = λ k h. ap (λ xs. get (serial sc start (o.first ++ xs)) k) (sym e) ∙ ap (λ z. get z k) (serial-append sc start o.first o.later ∙ sym is);
            };
            held = λ u h. subst (λ xs. 1 ≤ times_listed u (o.first ++ xs)) e h;
            last = inr (o.first ++ init, c, sym (append_assoc o.first init (c ∷ [])), ended);
            unbegun = subst (λ xs. NoneIs is_new (txn_at v) (o.first ++ xs)) e begun;
          }) (away refl).0 (away refl).1
    ]

-- whoever had committed before t began stands in what t has before it
firm_by : (was : ℕ → Txn) (v : View) (o : Sorted) (t u : ℕ) (source : Bool) → Timed was A v o
    → (Aged was A v.me v → Aged was B v.them v → source ≡ true → is_new (was t).status ≡ false) → is_new (was t).status ≡ true
    → is_committed (was u).status ≡ true → times_listed u (o.first ++ o.later) ≡ 1
    → 1 ≤ times_listed u (if source then o.first else o.first ++ o.later)
firm_by was v o t u false timed old new ended once = omega (arith, once)
firm_by was v o t u true (Ends_in_first front more is f r l) old new ended once =
    let none_later = none_listed is_committed was u o.later l ended in
    let both = listed_both u o.first o.later in
    omega (arith, none_later, both, once)
firm_by was v o t u true (Ends_in_later early more is f b r mine theirs) old new ended once =
    absurd (false≢true (sym (old mine theirs refl) ∙ new))

-- transaction t, which runs at n, looks at these keys with its next step, if that step is an abort by its program, and then gives up in its
-- lone run, too
record Looking (sc : Scenario) (n : Node) (v : View) (d : Map) (keys : List ℕ) (t : ℕ) : Type 0 where
  looks : List ℕ
  here : (k : ℕ) → has looks k ≡ true → owns v.me.pages (page_of v.me.lows k) ≡ true
  ends : is_by_program (run_step sc n t v).outcome ≡ true → (e : Map) → Agree d e (looks ++ keys) → GivesUp (program_of sc t) e (txn_at v t)

-- each transaction that runs does
looking : (sc : Scenario) (n : Node) (v : View) (start : Map) (lows : List ℕ) (o : Sorted) (s : Divided sc n v start lows o) (t : ℕ) → (a : IsAt v t n)
    → Looking sc n v (base (is_source v.me.mode) (serial sc start o.first) (db v)) (s.mine.runs t a).keys t
looking sc n v start lows o s t a = elim (cases_Bool (is_by_program (run_step sc n t v).outcome)) [
  | inl is ↦
      let next = run_gives sc n v start lows o s t a is in
      record {
        looks = next.gives.looks;
        here = next.gives.here;
        ends = λ _ e agree.
            gives_alone v (base (is_source v.me.mode) (serial sc start o.first) (db v)) e (program_of sc t) (txn_at v t) next.instr (s.mine.runs t a)
            next.is next.gives agree;
      }
  | inr off ↦ record { looks = []; here = λ k h. absurd (false≢true h); ends = λ is. absurd (false≢true (sym off ∙ is)) }
]

-- where n is no source, the pages of all that it has touched and looks at are there
touched_here : (sc : Scenario) (n : Node) (v : View) (start : Map) (lows : List ℕ) (o : Sorted) (s : Divided sc n v start lows o) (t : ℕ)
    → (a : IsAt v t n) → (g : Looking sc n v (base (is_source v.me.mode) (serial sc start o.first) (db v)) (s.mine.runs t a).keys t)
    → is_source v.me.mode ≡ false → (k : ℕ) → has (g.looks ++ (s.mine.runs t a).keys) k ≡ true → page_here v.me lows k ≡ true
touched_here sc n v start lows o s t a g off k h = elim (has_either g.looks (s.mine.runs t a).keys k h) [
  | inl look ↦ subst (λ l. owns v.me.pages (page_of l k) ≡ true) (s.kept.mine.newest (s.kept.mine.busy t a)) (g.here k look)
  | inr touched ↦ s.kept.mine.kept (page_of lows k) t (inr off) ((s.mine.runs t a).covered k touched)
]

-- an active transaction of a state: what it runs on, the keys that it has touched or looks at, what it has before it, and where it stands
record Starting (sc : Scenario) (start : Map) (s : State) (lows : List ℕ) (o : Sorted) (t : ℕ) (m : Node) : Type 0 where
  d : Map
  keys : List ℕ
  least : List CommitRecord
  stand : Stand sc (txn_at (facing A s)) start d keys least (facing A s) lows o
  lies : (was : ℕ → Txn) → Known sc was start s o → is_active (was t).status ≡ true → (e : Map) → Agree d e keys
      → Past (program_of sc t) e (txn_at (facing A s) t).done (was t)
  firm : (was : ℕ → Txn) → After was s o → (u : ℕ) → is_new (was t).status ≡ true → is_committed (was u).status ≡ true
      → times_listed u (o.first ++ o.later) ≡ 1 → 1 ≤ times_listed u least
  ends : is_by_program (step sc (Run m t) s).outcome ≡ true → (e : Map) → Agree d e keys → GivesUp (program_of sc t) e (txn_at (facing A s) t)

-- by its node
starting : (sc : Scenario) (start : Map) (s : State) (lows : List ℕ) (o : Sorted) (t : ℕ) (m : Node) → Divided sc A (facing A s) start lows o
    → IsAt (facing A s) t m → Starting sc start s lows o t m
unfolding step move txn_at
starting sc start s lows o t A h a =
    let v = facing A s in
    let f = h.mine.runs t a in
    let g = looking sc A v start lows o h t a in
    let keys = g.looks ++ f.keys in
    let d = base (is_source s.a.mode) (serial sc start o.first) (db v) in
    record {
      d = d;
      keys = keys;
      least = if is_source s.a.mode then o.first else o.first ++ o.later;
      stand = standing_by sc start v lows keys o h.is_serial h.registers (is_source s.a.mode) (λ off. (
        λ source. absurd (false≢true (sym off ∙ source)),
        λ source k i. false_from_ne_true _
            (λ there. not_both v h.kept.inv.owned (page_of lows k) (touched_here sc A v start lows o h t a g off k i) there),
      ));
      lies = λ was k active e agree. past_keys e (txn_at v t).done f (agree_back d e g.looks f.keys agree) (omega arith) (k.told.mine t a active);
      firm = λ was k u new ended once. firm_by was v o t u (is_source s.a.mode) k.timed (λ mine theirs source. mine.old source t a) new ended once;
      ends = g.ends;
    }
starting sc start s lows o t B h a =
    let v = facing A s in
    let w = facing B s in
    let i = divided_from sc B s start lows o h in
    let f = i.mine.runs t a in
    let g = looking sc B w start lows o i t a in
    let keys = g.looks ++ f.keys in
    let m = serial sc start o.first in
    let d = base (is_source s.b.mode) m (db w) in
    let same : d ≡ base (is_source s.b.mode) m (db v) = ap (base (is_source s.b.mode) m) (db_from B s lows h.kept.placed h.kept.inv.owned) in
    let least = if is_source s.b.mode then o.first else o.first ++ o.later in
    record {
      d = d;
      keys = keys;
      least = least;
      stand = subst (λ z. Stand sc (txn_at v) start z keys least v lows o) (sym same)
          (standing_by sc start v lows keys o h.is_serial h.registers (is_source s.b.mode) (λ off. (
            λ source k j. false_from_ne_true _
                (λ there. not_both v h.kept.inv.owned (page_of lows k) there (touched_here sc B w start lows o i t a g off k j)),
            λ source. absurd (false≢true (sym off ∙ source)),
          )));
      lies = λ was k active e agree.
          past_keys e (txn_at v t).done f (agree_back d e g.looks f.keys agree) (omega arith) (past_same same (omega arith) (k.told.theirs t a active));
      firm = λ was k u new ended once. firm_by was v o t u (is_source s.b.mode) k.timed (λ mine theirs source. theirs.old source t a) new ended once;
      ends = g.ends;
    }

-- what holds of each later state
record Stood (sc : Scenario) (was : ℕ → Txn) (start d : Map) (keys : List ℕ) (least : List CommitRecord) (s : State) (o : Sorted) : Type 0 where
  lows : List ℕ
  divided : Divided sc A (facing A s) start lows o
  after : After was s o
  stand : Stand sc was start d keys least (facing A s) lows o

-- seen from A, and so from either node
stand_from : {sc : Scenario} {was : ℕ → Txn} {start d : Map} {keys : List ℕ} {least : List CommitRecord} (n : Node) (s : State) (lows : List ℕ) (o : Sorted)
    → Stand sc was start d keys least (facing A s) lows o → Stand sc was start d keys least (facing n s) lows o
stand_from A s lows o x = x
stand_from B s lows o (In_first front more is f) = In_first front more is f
stand_from B s lows o (In_later init c more is ended f mine theirs) = In_later init c more is ended f theirs mine

-- seen from either node, and so from A
stand_to : {sc : Scenario} {was : ℕ → Txn} {start d : Map} {keys : List ℕ} {least : List CommitRecord} (n : Node) (w : View) (lows : List ℕ) (o : Sorted)
    → Stand sc was start d keys least w lows o → Stand sc was start d keys least (facing A (seen_from n w)) lows o
stand_to A w lows o x = x
stand_to B w lows o (In_first front more is f) = In_first front more is f
stand_to B w lows o (In_later init c more is ended f mine theirs) = In_later init c more is ended f theirs mine

-- a step keeps it
step_stood : (sc : Scenario) (was : ℕ → Txn) (start d : Map) (keys : List ℕ) (least : List CommitRecord) → 2 ≤ sc.cap → (c : Choice) (s : State)
    (o : Sorted) → Tidy s → Stood sc was start d keys least s o → Stood sc was start d keys least (step sc c s).after (sorted_step sc c s o)
unfolding step sorted_step
step_stood sc was start d keys least two c s o x h =
    let n = side_of sc c s in
    let v = facing n s in
    let w = (move sc c v).after in
    let happens = step_happens sc c s in
    let them = (sourced sc n (move sc c v).outcome v w happens.event happens.told).them in
    let lows = lows_then sc c s h.lows in
    record {
      lows = lows;
      divided = step_divided sc start two c s h.lows o x h.divided;
      after = step_after sc was c s o h.after;
      stand = subst (Stand sc was start d keys least (facing A (seen_from n w)) lows) (then_step n s w o) (stand_to n w lows (sorted_after v w o)
          (stand_event sc was start d keys least n v w h.lows o (divided_from sc n s start h.lows o h.divided) happens.event them
          (timed_from was n s o h.after.timed) (stand_from n s h.lows o h.stand)));
    }

-- an order in two parts
record Fronted (sc : Scenario) (was : ℕ → Txn) (start d : Map) (keys : List ℕ) (least order : List CommitRecord) : Type 0 where
  front : List CommitRecord
  back : List CommitRecord
  is : order ≡ front ++ back
  fact : Front sc was start d keys least front

-- the sorted commits
fronted : {sc : Scenario} {was : ℕ → Txn} {start d : Map} {keys : List ℕ} {least : List CommitRecord} {v : View} {lows : List ℕ} (o : Sorted)
    → Stand sc was start d keys least v lows o → Fronted sc was start d keys least (o.first ++ o.later)
fronted o (In_first front more is f) = record {
  front = front;
  back = more ++ o.later;
  is = ap (λ xs. xs ++ o.later) is ∙ append_assoc front more o.later;
  fact = f;
}
fronted o (In_later init c more is ended f mine theirs) = record {
  front = o.first ++ (init ++ c ∷ []);
  back = more;
  is = ap (λ xs. o.first ++ xs) is ∙ sym (append_assoc o.first (init ++ c ∷ []) more);
  fact = f;
}

-- the place of a commit that those before it do not list
place_last : (init : List CommitRecord) (c : CommitRecord) (back : List CommitRecord) → times_listed c.txn init ≡ 0
    → place c.txn ((init ++ c ∷ []) ++ back) ≡ length init
place_last [] c back off = ap (λ b. if b then 0 else suc (place c.txn back)) (eq-eqb c.txn c.txn refl)
place_last (x ∷ xs) c back off =
    cond_both (x.txn == c.txn) 0 (suc (place c.txn ((xs ++ c ∷ []) ++ back))) (λ n. n ≡ suc (length xs))
    (λ same. let one : 1 + times_listed c.txn xs ≡ 0 = subst (λ b. (if b then 1 else 0) + times_listed c.txn xs ≡ 0) same off in absurd (omega (arith, one)))
    (λ far.
    let rest : 0 + times_listed c.txn xs ≡ 0 = subst (λ b. (if b then 1 else 0) + times_listed c.txn xs ≡ 0) far off in
    ap suc (place_last xs c back (omega (arith, rest))))

-- the front ends in nothing, or in a commit that had been made
close_by : (was : ℕ → Txn) (order front back : List CommitRecord) → order ≡ front ++ back
    → ((u : ℕ) → is_committed (was u).status ≡ true → times_listed u order ≡ 1)
    → (front ≡ []) ⊎ ((init : List CommitRecord) × (c : CommitRecord) × (front ≡ init ++ c ∷ []) × (is_committed (was c.txn).status ≡ true))
    → (length front ≡ 0) ⊎ ((u : ℕ) × (is_committed (was u).status ≡ true) × (length front ≡ suc (place u order)))
close_by was order front back is once (inl none) = inl (ap length none)
close_by was order front back is once (inr (init, c, e, ended)) =
    let whole : order ≡ (init ++ c ∷ []) ++ back = is ∙ ap (λ xs. xs ++ back) e in
    let one : times_listed c.txn ((init ++ c ∷ []) ++ back) ≡ 1 = ap (times_listed c.txn) (sym whole) ∙ once c.txn ended in
    let parts = listed_both c.txn (init ++ c ∷ []) back in
    let more = listed_both c.txn init (c ∷ []) in
    let self : times_listed c.txn (c ∷ []) ≡ 1 = ap (λ b. (if b then 1 else 0) + 0) (eq-eqb c.txn c.txn refl) in
    let off : times_listed c.txn init ≡ 0 = omega (arith, one, parts, more, self) in
    let at : place c.txn order ≡ length init = ap (place c.txn) whole ∙ place_last init c back off in
    let long : length front ≡ length init + 1 = ap length e ∙ length-append init (c ∷ []) in
    inr (c.txn, ended, omega (arith, at, long))

-- who had committed in an earlier state is listed once in the order
once_of : (s : State) (order : List CommitRecord) (was : ℕ → Txn) (o : Sorted) → CommitsListed s → IsPermutation s.commits order → After was s o → (u : ℕ)
    → is_committed (was u).status ≡ true → times_listed u order ≡ 1
once_of s order was o all same h u ended = listed_permuted u s.commits order same ∙ listed_once s all u (h.still u ended)

-- where an active transaction of a state stands in the order of a longer schedule
fronted_then : (sc : Scenario) → (l : IsScenario sc) → (cs more : List Choice) (t : ℕ) (m : Node)
    → (g : Starting sc (database (opening sc)) (play sc (opening sc) cs) (reached_holds sc l cs).lows (sorted sc (opening sc) cs none) t m)
    → Fronted sc (txn_at (facing A (play sc (opening sc) cs))) (database (opening sc)) g.d g.keys g.least (migration_order sc (cs ++ more))
fronted_then sc l cs more t m g =
    let start = database (opening sc) in
    let s = play sc (opening sc) cs in
    let o = sorted sc (opening sc) cs none in
    let was = txn_at (facing A s) in
    let now = reached_holds sc l cs in
    let first : Stood sc was start g.d g.keys g.least s o = record {
      lows = now.lows;
      divided = now.divided;
      after = subst (λ xs. After was (play sc (opening sc) xs) (sorted sc (opening sc) xs none)) (append-nil cs) (after_both sc l cs []);
      stand = g.stand;
    } in
    let tidy : Tidy s = sorted-keeps sc Tidy (λ z _. Tidy z) (step_tidy sc) (λ c z y u _. step_tidy sc c z u) cs (opening sc) none
    (opening_tidy sc l) (opening_tidy sc l) in
    let last : Stood sc was start g.d g.keys g.least (play sc s more) (sorted sc s more o) =
    sorted-keeps sc Tidy (Stood sc was start g.d g.keys g.least) (step_tidy sc) (step_stood sc was start g.d g.keys g.least l.cap_least) more s o tidy first in
    subst (λ (y : Sorted). Fronted sc was start g.d g.keys g.least (y.first ++ y.later)) (sym (sorted-append sc (opening sc) cs more none))
    (fronted (sorted sc s more o) last.stand)

-- of any part of a schedule, after all of it
after_part : (sc : Scenario) → IsScenario sc → (cs : List Choice) (n : ℕ)
    → After (txns_after sc cs n) (play sc (opening sc) cs) (sorted sc (opening sc) cs none)
unfolding txn_at
after_part sc l cs n =
    subst (λ xs. After (txns_after sc cs n) (play sc (opening sc) xs) (sorted sc (opening sc) xs none)) (take-append-drop n cs)
    (after_both sc l (take n cs) (drop n cs))

-- its place is behind that front
placed_by : (sc : Scenario) → IsScenario sc → (cs : List Choice) (t : ℕ) (order : List CommitRecord) (lows : List ℕ)
    → (g : Starting sc (database (opening sc)) (play sc (opening sc) cs) lows (sorted sc (opening sc) cs none) t
    (txn_or (slice_get (play sc (opening sc) cs).txns t)).node)
    → Fronted sc (txn_at (facing A (play sc (opening sc) cs))) (database (opening sc)) g.d g.keys g.least order
    → ((u : ℕ) → is_committed (txn_at (facing A (play sc (opening sc) cs)) u).status ≡ true → times_listed u order ≡ 1) → HasPlace sc cs t order
unfolding txn_at
placed_by sc l cs t order lows g f once =
    let s = play sc (opening sc) cs in
    let o = sorted sc (opening sc) cs none in
    let front_is : take (length f.front) order ≡ f.front = ap (take (length f.front)) f.is ∙ take-append_seam f.front f.back in
    record {
      ahead = length f.front;
      seen = λ n old.
          let x = txns_after sc cs n in
          let m = serial sc (database (opening sc)) f.front in
          subst (λ xs. IsOnLoneRun (program_of sc t) (rows_after sc xs) (x t)) (sym front_is)
          (subst (λ d. IsOnLoneRun (program_of sc t) (serial sc d f.front) (x t)) (opening_database sc l)
          (on_lone_run (program_of sc t) m (txn_at (facing A s) t).done (x t) (g.lies x (known sc l cs n) old m f.fact.agree)));
      ends = λ is.
          let x = txn_or (slice_get s.txns t) in
          let m = serial sc (database (opening sc)) f.front in
          subst (λ xs. GivesUp (program_of sc t) (rows_after sc xs) x) (sym front_is)
          (subst (λ d. GivesUp (program_of sc t) (serial sc d f.front) x) (opening_database sc l) (g.ends is m f.fact.agree));
      begun = λ n u new ended.
          let x = txns_after sc cs n in
          let now = after_part sc l cs n in
          subst (λ xs. place u xs < length f.front) (sym f.is) (place_front u f.front f.back (f.fact.held u (g.firm x now u new ended
          (once_of s (o.first ++ o.later) x o (listed sc cs) (reached_holds sc l cs).divided.permuted now u ended))));
      later = λ u new.
          subst (λ xs. length f.front ≤ place u xs) (sym f.is)
          (place_back u f.front f.back (none_listed is_new (txn_at (facing A s)) u f.front f.fact.unbegun new));
      close = close_by (txn_at (facing A s)) order f.front f.back f.is once f.fact.last;
    }

-- the law: whoever is active has a place in the order of every longer schedule, whatever becomes of it
pub has_place : (sc : Scenario) → IsScenario sc → (cs more : List Choice) (t : ℕ)
    → is_active (txn_or (slice_get (play sc (opening sc) cs).txns t)).status ≡ true → HasPlace sc cs t (migration_order sc (cs ++ more))
unfolding txn_at
has_place sc l cs more t active =
    let now = reached_holds sc l cs in
    let g = starting sc (database (opening sc)) (play sc (opening sc) cs) now.lows (sorted sc (opening sc) cs none) t
    (txn_or (slice_get (play sc (opening sc) cs).txns t)).node now.divided (active, refl) in
    placed_by sc l cs t (migration_order sc (cs ++ more)) now.lows g (fronted_then sc l cs more t (txn_or (slice_get (play sc (opening sc) cs).txns t)).node g)
    (once_of (play sc (opening sc) (cs ++ more)) (migration_order sc (cs ++ more)) (txn_at (facing A (play sc (opening sc) cs)))
    (sorted sc (opening sc) (cs ++ more) none) (listed sc (cs ++ more)) (reached_holds sc l (cs ++ more)).divided.permuted (after_both sc l cs more))

-- the law: of two places that of a transaction which was active before the other began is not behind the other's
pub places_in_time : (sc : Scenario) (cs : List Choice) (order : List CommitRecord) (n t u : ℕ) → (p : HasPlace sc (take n cs) t order)
    → (q : HasPlace sc cs u order) → is_new (txns_after sc cs n u).status ≡ true → p.ahead ≤ q.ahead
places_in_time sc cs order n t u p q new = elim p.close [
  | inl none ↦ omega (arith, none)
  | inr (w, ended, is) ↦ let before = q.begun n w new ended in omega (arith, is, before)
]
