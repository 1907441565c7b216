-- Those that had committed in an earlier state stand in the order that they had then.
use Rattle.std.proofs.Common.{List, [], ap, append-nil, false, inl, inr, refl, subst, sym, true, ℕ, if◌then◌else◌, ◌++◌, ◌+◌, ◌∙◌, ◌∷◌, ◌≡◌}
use Rattle.std.specs.Prelude.{drop, take}
use Rattle.std.specs.List.{filter}
use Rattle.std.proofs.lemmas.Bool.{cases_Bool, false≢true, false_from_ne_true}
use Rattle.std.proofs.lemmas.List.{take-append-drop}
use Rattle.std.proofs.lemmas.List.Elements.{filter-append}
use Rattle.zy_isa.specs.Scenario.{IsScenario, Scenario}
use Rattle.zy_isa.specs.declared.choice.Choice.{Choice}
use Rattle.zy_isa.specs.declared.node.Node.{Node}
use Rattle.zy_isa.specs.declared.node.Node.TheVariants.{A}
use Rattle.zy_model.specs.Families.{is_source}
use Rattle.zy_table.specs.Change.{committed, txn_at}
use Rattle.zy_table.specs.Database.{Map, database}
use Rattle.zy_table.specs.declared.entry.CommitRecord.{CommitRecord}
use Rattle.zy_table.specs.Play.{move, opening, play, side_of, step}
use Rattle.zy_table.specs.Run.{program_of}
use Rattle.zy_table.specs.Serial.{Registers, alone, is_committed}
use Rattle.zy_table.specs.State.{State, Txn, View, facing}
use Rattle.zy_laws.specs.RealTime.{IsStable, txns_after}
use Rattle.zy_laws.specs.SourceFirst.{Sorted, migration_order, sorted, sorted_step}
use Rattle.zy_laws.proofs.sources.ByNode.{stays}
use Rattle.zy_laws.proofs.sources.RealTime.{back_same, side_same, sorted-append}
use Rattle.zy_laws.proofs.sources.Sides.{none}
use Rattle.zy_laws.proofs.sources.Sorting.{sorted_after, sorted_first, sorted_last, then_starts, then_still}
use Rattle.zy_laws.proofs.sources.SourceFirst.{reached_holds, sorted-keeps, then_step}
use Rattle.zy_laws.proofs.walk.Events.{Commits, Event, Starts, step_happens}
use Rattle.zy_laws.proofs.walk.Txns.{active_off}

-- those of these commits whose transactions had committed in an earlier state
abbrev early : (ℕ → Txn) → List CommitRecord → List CommitRecord
early was cs = filter (λ (c : CommitRecord). is_committed (was c.txn).status) cs

-- all of the sorted commits
abbrev order_of : Sorted → List CommitRecord
order_of o = o.first ++ o.later

-- those of two lists
early_both : (was : ℕ → Txn) (xs ys : List CommitRecord) → early was (xs ++ ys) ≡ early was xs ++ early was ys
early_both was xs ys = filter-append (λ (c : CommitRecord). is_committed (was c.txn).status) xs ys

-- a commit of a transaction that had not committed then is none of them
early_more : (was : ℕ → Txn) (xs : List CommitRecord) (c : CommitRecord) → is_committed (was c.txn).status ≡ false → early was (xs ++ c ∷ []) ≡ early was xs
early_more was xs c off =
    early_both was xs (c ∷ []) ∙ ap (λ b. early was xs ++ (if b then c ∷ [] else [])) off ∙ append-nil (early was xs)

-- each event leaves them in their order
early_event : (sc : Scenario) (was : ℕ → Txn) (n : Node) (v w : View) (o : Sorted) → Event sc n v w
    → ((t : ℕ) → is_committed (was t).status ≡ true → is_committed (txn_at v t).status ≡ true)
    → early was (order_of (sorted_after v w o)) ≡ early was (order_of o)
unfolding committed
early_event sc was n v w o (Commits line e) still =
    let c : CommitRecord = record { txn = line.txn; done = (txn_at v line.txn).done + 1 } in
    let late : is_committed (was line.txn).status ≡ false =
    false_from_ne_true _ (λ h. false≢true (sym (active_off (txn_at v line.txn).status line.runs.active) ∙ still line.txn h)) in
    subst (λ z. early was (order_of (sorted_after v z o)) ≡ early was (order_of o)) (sym e) (elim (cases_Bool (is_source v.me.mode)) [
      | inl source ↦ ap (λ x. early was (order_of x)) (sorted_first (is_source v.me.mode) v.commits c o source)
          ∙ early_both was (o.first ++ c ∷ []) o.later ∙ ap (λ xs. xs ++ early was o.later) (early_more was o.first c late)
          ∙ sym (early_both was o.first o.later)
      | inr off ↦ ap (λ x. early was (order_of x)) (sorted_last (is_source v.me.mode) v.commits c o off)
          ∙ early_both was o.first (o.later ++ c ∷ []) ∙ ap (λ xs. early was o.first ++ xs) (early_more was o.later c late)
          ∙ sym (early_both was o.first o.later)
    ])
early_event sc was n v w o (Starts line e) still =
    ap (λ x. early was (order_of x)) (then_starts v w o line.normal (ap (λ (z : View). is_source z.me.mode) e))
    ∙ ap (early was) (append-nil (o.first ++ o.later))
early_event sc was n v w o e still = ap (λ x. early was (order_of x)) (then_still o e refl)

-- they stand in the order, and are still committed
record Stays (was : ℕ → Txn) (order : List CommitRecord) (s : State) (o : Sorted) : Type 0 where
  same : early was (order_of o) ≡ order
  still : (t : ℕ) → is_committed (was t).status ≡ true → is_committed (txn_at (facing A s) t).status ≡ true

-- a step keeps it
step_stays : (sc : Scenario) (was : ℕ → Txn) (order : List CommitRecord) (c : Choice) (s : State) (o : Sorted) → Stays was order s o
    → Stays was order (step sc c s).after (sorted_step sc c s o)
unfolding step sorted_step
step_stays sc was order c s o h =
    let n = side_of sc c s in
    let v = facing n s in
    let w = (move sc c v).after in
    let event = (step_happens sc c s).event in
    let still : (t : ℕ) → is_committed (was t).status ≡ true → is_committed (txn_at v t).status ≡ true =
    λ t a. ap (λ (x : Txn). is_committed x.status) (side_same n s t) ∙ h.still t a in
    record {
      same = ap (λ x. early was (order_of x)) (sym (then_step n s w o)) ∙ early_event sc was n v w o event still ∙ h.same;
      still = λ t a. ap (λ (x : Txn). is_committed x.status) (back_same n w t ∙ stays event t (still t a)) ∙ still t a;
    }

-- all that have committed so far had committed
early_all : (sc : Scenario) (f : ℕ → Txn) (m : Map) (cs : List CommitRecord) → Registers sc f m cs → early f cs ≡ cs
early_all sc f m [] h = refl
early_all sc f m (c ∷ cs) h =
    ap (λ b. if b then c ∷ early f cs else early f cs) h.0.0
    ∙ ap (λ xs. c ∷ xs) (early_all sc f (alone m (program_of sc c.txn) c.done).map cs h.1)

-- after a schedule in two parts
stable_both : (sc : Scenario) → IsScenario sc → (cs more : List Choice)
    → early (txn_at (facing A (play sc (opening sc) cs))) (migration_order sc (cs ++ more)) ≡ migration_order sc cs
stable_both sc l cs more =
    let s = play sc (opening sc) cs in
    let o = sorted sc (opening sc) cs none in
    let was = txn_at (facing A s) in
    let now : Stays was (order_of o) s o = record {
      same = early_all sc was (database (opening sc)) (order_of o) (reached_holds sc l cs).divided.registers;
      still = λ t a. a;
    } in
    ap (λ x. early was (order_of x)) (sorted-append sc (opening sc) cs more none)
    ∙ (sorted-keeps sc (λ _. Unit {0}) (Stays was (order_of o)) (λ c z u. u) (λ c z x _ h. step_stays sc was (order_of o) c z x h) more s o tt now).same

-- the law: the migration order is stable
pub stable_order : (sc : Scenario) → IsScenario sc → (cs : List Choice) → IsStable sc cs
unfolding txn_at
stable_order sc l cs n =
    subst (λ xs. early (txns_after sc cs n) (migration_order sc xs) ≡ migration_order sc (take n cs)) (take-append-drop n cs)
    (stable_both sc l (take n cs) (drop n cs))
