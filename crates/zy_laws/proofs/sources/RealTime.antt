-- Whoever has committed before another begins stands before it in the order.
use Rattle.std.proofs.Common.{List, [], ap, append_assoc, append-nil, inl, inr, refl, subst, sym, true, ℕ, ◌<◌, ◌++◌, ◌∙◌, ◌∷◌, ◌≡◌, ◌≤◌}
use Rattle.std.specs.Prelude.{◌⊎◌, Bool, if◌then◌else◌, slice_get}
use Rattle.std.specs.List.Sorted.{IsPermutation}
use Rattle.zy_isa.specs.Scenario.{IsScenario, Scenario}
use Rattle.zy_isa.specs.declared.choice.Choice.{Choice}
use Rattle.zy_isa.specs.declared.node.Node.{Node}
use Rattle.zy_isa.specs.declared.node.Node.TheVariants.{A, B}
use Rattle.zy_model.specs.declared.mode.NodeMode.{NodeMode}
use Rattle.zy_model.specs.declared.mode.NodeMode.TheVariants.{Empty, Normal, SInit, SDual, SFinish, DInit, DDual, DFinish}
use Rattle.zy_table.specs.Change.{begun, txn_at, txn_or}
use Rattle.zy_table.specs.Client.{is_new}
use Rattle.zy_table.specs.declared.entry.CommitRecord.{CommitRecord}
use Rattle.zy_table.specs.declared.status.Status.{Status}
use Rattle.zy_table.specs.Database.{Map, database}
use Rattle.zy_table.specs.Play.{move, opening, play, side_of, step}
use Rattle.zy_table.specs.Run.{program_of}
use Rattle.zy_table.specs.Serial.{CommitsListed, Registers, alone, is_committed, times_listed}
use Rattle.zy_table.specs.State.{State, Txn, View, facing, seen_from}
use Rattle.std.proofs.lemmas.List.{take-append-drop}
use Rattle.std.specs.Prelude.{drop, take}
use Rattle.zy_laws.specs.RealTime.{KeepsRealTime, place}
use Rattle.zy_laws.specs.SourceFirst.{Sorted, migration_order, sorted, sorted_step}
use Rattle.zy_laws.proofs.locks.Locking.{Kept}
use Rattle.zy_laws.proofs.locks.Reached.{kept_from, lows_then, opening_reached, step_kept}
use Rattle.zy_laws.proofs.order.ListsInOrder.{Tidy, opening_tidy, step_tidy}
use Rattle.zy_laws.proofs.places.Opening.{laid_out}
use Rattle.zy_laws.proofs.serial.Listed.{listed}
use Rattle.zy_laws.proofs.sources.ByNode.{stays}
use Rattle.zy_laws.proofs.sources.Places.{NoneIs, stands_before}
use Rattle.zy_laws.proofs.sources.Sides.{none}
use Rattle.zy_laws.proofs.sources.SourceFirst.{reached_holds, serial_source_first, sorted-keeps, then_step}
use Rattle.zy_laws.proofs.travel.OneWay.{sourced}
use Rattle.zy_laws.proofs.walk.Events.{step_happens}
use Rattle.zy_laws.proofs.walk.Txns.{active_old, committed_old}
use Rattle.zy_laws.proofs.sources.Sorting.{sorted_after}
use Rattle.zy_laws.proofs.sources.Timed.{Early, Ends_in_first, Ends_in_later, Timed, early_event, none_both, timed_event}

-- seen from A, and so from either node
pub timed_from : (was : ℕ → Txn) (n : Node) (s : State) (o : Sorted) → Timed was A (facing A s) o → Timed was n (facing n s) o
unfolding txn_at
timed_from was A s o x = x
timed_from was B s o (Ends_in_first front more is f r l) = Ends_in_first front more is f r l
timed_from was B s o (Ends_in_later old more is f b r mine theirs) = Ends_in_later old more is f b r
    (record { plain = theirs.plain; old = theirs.old }) (record { plain = mine.plain; old = mine.old })

-- seen from either node, and so from A
timed_to : (was : ℕ → Txn) (n : Node) (w : View) (o : Sorted) → Timed was n w o → Timed was A (facing A (seen_from n w)) o
unfolding txn_at
timed_to was A w o x = x
timed_to was B w o (Ends_in_first front more is f r l) = Ends_in_first front more is f r l
timed_to was B w o (Ends_in_later old more is f b r mine theirs) = Ends_in_later old more is f b r
    (record { plain = theirs.plain; old = theirs.old }) (record { plain = mine.plain; old = mine.old })

-- the same of an early state
early_from : (n : Node) (s : State) (o : Sorted) → Early (facing A s) o → Early (facing n s) o
early_from A s o x = x
early_from B s o x = record { mine = x.theirs; theirs = x.mine }

-- and back
early_to : (n : Node) (w : View) (o : Sorted) → Early w o → Early (facing A (seen_from n w)) o
early_to A w o x = x
early_to B w o x = record { mine = x.theirs; theirs = x.mine }

-- what holds of each state of a schedule, with the newest low keys
record Known_early (sc : Scenario) (s : State) (o : Sorted) : Type 0 where
  lows : List ℕ
  kept : Kept sc A (facing A s) lows
  early : Early (facing A s) o

-- a step keeps it
step_early : (sc : Scenario) → 2 ≤ sc.cap → (c : Choice) (s : State) (o : Sorted) → Tidy s → Known_early sc s o
    → Known_early sc (step sc c s).after (sorted_step sc c s o)
unfolding step sorted_step
step_early sc two c s o x h =
    let n = side_of sc c s in
    let v = facing n s in
    let w = (move sc c v).after in
    let happens = step_happens sc c s in
    let them = (sourced sc n (move sc c v).outcome v w happens.event happens.told).them in
    record {
      lows = lows_then sc c s h.lows;
      kept = step_kept sc c s h.lows two x h.kept;
      early = subst (Early (facing A (seen_from n w))) (then_step n s w o) (early_to n w (sorted_after v w o)
          (early_event sc n v w h.lows o happens.event (kept_from sc n s h.lows h.kept) them (early_from n s o h.early)));
    }

-- what holds of each state after an earlier one: who was committed in that one still is
pub record After (was : ℕ → Txn) (s : State) (o : Sorted) : Type 0 where
  pub timed : Timed was A (facing A s) o
  pub still : (t : ℕ) → is_committed (was t).status ≡ true → is_committed (txn_at (facing A s) t).status ≡ true

-- committed transactions are the same from either node
pub side_same : (n : Node) (s : State) (t : ℕ) → txn_at (facing n s) t ≡ txn_at (facing A s) t
unfolding txn_at
side_same A s t = refl
side_same B s t = refl

-- and so from A after a step seen from n
pub back_same : (n : Node) (w : View) (t : ℕ) → txn_at (facing A (seen_from n w)) t ≡ txn_at w t
unfolding txn_at
back_same A w t = refl
back_same B w t = refl

-- a step keeps it
pub step_after : (sc : Scenario) (was : ℕ → Txn) (c : Choice) (s : State) (o : Sorted) → After was s o → After was (step sc c s).after (sorted_step sc c s o)
unfolding step sorted_step
step_after sc was c s o h =
    let n = side_of sc c s in
    let v = facing n s in
    let w = (move sc c v).after in
    let happens = step_happens sc c s in
    let them = (sourced sc n (move sc c v).outcome v w happens.event happens.told).them in
    let still : (t : ℕ) → is_committed (was t).status ≡ true → is_committed (txn_at v t).status ≡ true =
    λ t a. ap (λ (x : Txn). is_committed x.status) (side_same n s t) ∙ h.still t a in
    record {
      timed = subst (Timed was A (facing A (seen_from n w))) (then_step n s w o) (timed_to was n w (sorted_after v w o)
          (timed_event sc was n v w o happens.event them still (timed_from was n s o h.timed)));
      still = λ t a. ap (λ (x : Txn). is_committed x.status) (back_same n w t ∙ stays happens.event t (still t a)) ∙ still t a;
    }

-- a schedule in two parts is played one part after the other
pub play-append : (sc : Scenario) (s : State) (cs ds : List Choice) → play sc s (cs ++ ds) ≡ play sc (play sc s cs) ds
play-append sc s [] ds = refl
play-append sc s (c ∷ cs) ds = play-append sc (step sc c s).after cs ds

-- and so its commits are sorted
pub sorted-append : (sc : Scenario) (s : State) (cs ds : List Choice) (o : Sorted) → sorted sc s (cs ++ ds) o ≡ sorted sc (play sc s cs) ds (sorted sc s cs o)
sorted-append sc s [] ds o = refl
sorted-append sc s (c ∷ cs) ds o = sorted-append sc (step sc c s).after cs ds (sorted_step sc c s o)

-- the commits so far are of transactions that have begun
pub none_new : (sc : Scenario) (f : ℕ → Txn) (m : Map) (cs : List CommitRecord) → Registers sc f m cs → NoneIs is_new f cs
none_new sc f m [] h = tt
none_new sc f m (c ∷ cs) h = (committed_old (f c.txn).status h.0.0, none_new sc f (alone m (program_of sc c.txn) c.done).map cs h.1)

-- where two lists as one have none whose status is so, each has none
pub none_parts : (so : Status → Bool) (f : ℕ → Txn) (xs ys : List CommitRecord) → NoneIs so f (xs ++ ys) → NoneIs so f xs × NoneIs so f ys
none_parts so f [] ys h = (tt, h)
none_parts so f (c ∷ cs) ys h = let r = none_parts so f cs ys h.1 in ((h.0, r.0), r.1)

-- a mode is SInit, or it is not
init_or : (m : NodeMode) → (m ≡ SInit) ⊎ (m ≡ SInit → ⊥)
init_or SInit = inl refl
init_or Empty = inr (λ h. cc)
init_or Normal = inr (λ h. cc)
init_or SDual = inr (λ h. cc)
init_or SFinish = inr (λ h. cc)
init_or DInit = inr (λ h. cc)
init_or DDual = inr (λ h. cc)
init_or DFinish = inr (λ h. cc)

-- the earlier state itself: all its commits are in the front
itself : (s : State) (o : Sorted) → Early (facing A s) o → NoneIs is_new (txn_at (facing A s)) (o.first ++ o.later)
    → Timed (txn_at (facing A s)) A (facing A s) o
itself s o early begun =
    let v = facing A s in
    let parts = none_parts is_new (txn_at v) o.first o.later begun in
    let wide : o.later ≡ [] → Timed (txn_at v) A v o =
    λ none. Ends_in_first o.first [] (sym (append-nil o.first)) parts.0 tt (subst (NoneIs is_committed (txn_at v)) (sym none) tt) in
    elim (init_or v.me.mode) [
      | inl i ↦ wide (early.mine i)
      | inr a ↦ elim (init_or v.them.mode) [
        | inl i ↦ wide (early.theirs i)
        | inr b ↦ Ends_in_later o.later [] (sym (append-nil o.later)) parts.0 parts.1 tt
            (record { plain = a; old = λ _ t at. active_old (txn_at v t).status at.0 })
            (record { plain = b; old = λ _ t at. active_old (txn_at v t).status at.0 })
      ]
    ]

-- the order in two parts: none of the front is new in a state, and none of the back is committed in it
record InTime (f : ℕ → Txn) (order : List CommitRecord) : Type 0 where
  front : List CommitRecord
  back : List CommitRecord
  is : order ≡ front ++ back
  begun : NoneIs is_new f front
  later : NoneIs is_committed f back

-- so are the sorted commits
in_time : (f : ℕ → Txn) (v : View) (o : Sorted) → Timed f A v o → InTime f (o.first ++ o.later)
in_time f v o (Ends_in_first front more is b r l) = record {
  front = front;
  back = more ++ o.later;
  is = ap (λ xs. xs ++ o.later) is ∙ append_assoc front more o.later;
  begun = b;
  later = none_both is_committed f more o.later r l;
}
in_time f v o (Ends_in_later old more is first b r mine theirs) = record {
  front = o.first ++ old;
  back = more;
  is = ap (λ xs. o.first ++ xs) is ∙ sym (append_assoc o.first old more);
  begun = none_both is_new f o.first old first b;
  later = r;
}

-- the order of a longer schedule is in two parts, and who is committed stays so
record Ahead (f : ℕ → Txn) (s : State) (order : List CommitRecord) : Type 0 where
  parts : InTime f order
  still : (t : ℕ) → is_committed (f t).status ≡ true → is_committed (txn_at (facing A s) t).status ≡ true

-- of the transactions after the first part of a schedule it holds after the whole
pub after_both : (sc : Scenario) → IsScenario sc → (cs more : List Choice)
    → After (txn_at (facing A (play sc (opening sc) cs))) (play sc (opening sc) (cs ++ more)) (sorted sc (opening sc) (cs ++ more) none)
unfolding opening
after_both sc l cs more =
    let s = play sc (opening sc) cs in
    let f = txn_at (facing A s) in
    let o = sorted sc (opening sc) cs none in
    let a = opening_reached sc (laid_out sc l) in
    let before : Known_early sc s o = sorted-keeps sc Tidy (Known_early sc) (step_tidy sc) (step_early sc l.cap_least) cs (opening sc) none (opening_tidy sc l)
    (record { lows = a.lows; kept = a.kept; early = record { mine = λ _. refl; theirs = λ _. refl } }) in
    let h = (reached_holds sc l cs).divided in
    let now : After f s o = record {
      timed = itself s o before.early (none_new sc f (database (opening sc)) (o.first ++ o.later) h.registers);
      still = λ t a. a;
    } in
    let later = sorted-keeps sc (λ _. Unit {0}) (After f) (λ c z u. u) (λ c z x _ h. step_after sc f c z x h) more s o tt now in
    subst (λ z. After f z (sorted sc (opening sc) (cs ++ more) none)) (sym (play-append sc (opening sc) cs more))
    (subst (After f (play sc s more)) (sym (sorted-append sc (opening sc) cs more none)) later)

-- and so the order of every longer schedule is in two parts
ahead : (sc : Scenario) → IsScenario sc → (cs more : List Choice)
    → Ahead (txn_at (facing A (play sc (opening sc) cs))) (play sc (opening sc) (cs ++ more)) (migration_order sc (cs ++ more))
ahead sc l cs more =
    let s = play sc (opening sc) (cs ++ more) in
    let o = sorted sc (opening sc) (cs ++ more) none in
    let h = after_both sc l cs more in
    record { parts = in_time (txn_at (facing A (play sc (opening sc) cs))) (facing A s) o h.timed; still = h.still }

-- a committed transaction is in the commit list once
pub listed_once : (s : State) → CommitsListed s → (t : ℕ) → is_committed (txn_at (facing A s) t).status ≡ true → times_listed t s.commits ≡ 1
unfolding txn_at
listed_once s h t ended = h t ∙ ap (λ b. if b then 1 else 0) ended

-- whoever is committed stands before those that are new
stands : (f : ℕ → Txn) (s : State) (order : List CommitRecord) (t u : ℕ) → Ahead f s order → CommitsListed s → IsPermutation s.commits order
    → is_committed (f t).status ≡ true → is_new (f u).status ≡ true → place t order < place u order
stands f s order t u h all same ended new =
    let p = h.parts in
    let once = listed_once s all t (h.still t ended) in
    subst (λ xs. place t xs < place u xs) (sym p.is)
    (stands_before is_committed is_new f t u s.commits p.front p.back (subst (IsPermutation s.commits) p.is same) once p.begun p.later ended new)

-- whoever has committed after some choices stands before those that are new then in the order of these and more choices
stands_later : (sc : Scenario) → IsScenario sc → (cs more : List Choice) (t u : ℕ) → let s = play sc (opening sc) cs in
    let order = migration_order sc (cs ++ more) in
    is_committed (txn_or (slice_get s.txns t)).status ≡ true → is_new (txn_or (slice_get s.txns u)).status ≡ true → place t order < place u order
unfolding txn_at
stands_later sc l cs more t u ended new =
    stands (txn_at (facing A (play sc (opening sc) cs))) (play sc (opening sc) (cs ++ more)) (migration_order sc (cs ++ more)) t u
    (ahead sc l cs more) (listed sc (cs ++ more)) (serial_source_first sc l (cs ++ more)).permuted ended new

-- the law: the migration order keeps to real time
pub real_time : (sc : Scenario) → IsScenario sc → (cs : List Choice) → KeepsRealTime sc cs
real_time sc l cs n t u ended new =
    subst (λ xs. place t (migration_order sc xs) < place u (migration_order sc xs)) (take-append-drop n cs)
    (stands_later sc l (take n cs) (drop n cs) t u ended new)
