-- Where a transaction stands that was active in an earlier state, whatever became of it: behind a front of the sorted commits, whose rows
-- are, at the keys that it had touched, those that it had seen.
use Rattle.std.proofs.Common.{List, [], ap, append_assoc, arith, false, inl, inr, refl, subst, sym, true, ℕ, ◌++◌, ◌+◌, ◌∙◌, ◌∷◌, ◌≡◌, ◌≤◌}
use Rattle.std.specs.Prelude.{◌⊎◌, Bool}
use Rattle.std.specs.FinMap.{get}
use Rattle.std.proofs.lemmas.Bool.{cases_Bool, false≢true}
use Rattle.zy_isa.specs.Scenario.{Scenario}
use Rattle.zy_isa.specs.declared.node.Node.{Node}
use Rattle.zy_model.specs.Families.{is_source}
use Rattle.zy_model.specs.Wireframe.{page_of}
use Rattle.zy_table.specs.Change.{aborted, begun, committed, cut, did, locked, shares, txn_at}
use Rattle.zy_table.specs.Client.{is_new}
use Rattle.zy_table.specs.Database.{Map}
use Rattle.zy_table.specs.declared.entry.CommitRecord.{CommitRecord}
use Rattle.zy_table.specs.Numbers.{has}
use Rattle.zy_table.specs.Pages.{owns}
use Rattle.zy_table.specs.Serial.{is_committed, serial, times_listed}
use Rattle.zy_table.specs.State.{NodeState, Txn, View}
use Rattle.zy_laws.specs.SourceFirst.{Sorted}
use Rattle.zy_laws.proofs.places.Installing.{owns-installed}
use Rattle.zy_laws.proofs.serial.LoneRuns.{Agree}
use Rattle.zy_laws.proofs.sources.Aside.{Aside, aside_front, aside_outside, serial-append}
use Rattle.zy_laws.proofs.sources.Ending.{source_agree}
use Rattle.zy_laws.proofs.sources.Going.{none_beside}
use Rattle.zy_laws.proofs.sources.Halves.{Divided, page_here}
use Rattle.zy_laws.proofs.sources.Places.{NoneIs, listed_both}
use Rattle.zy_laws.proofs.sources.RealTime.{none_parts}
use Rattle.zy_laws.proofs.sources.Sorting.{sorted_after, sorted_first, sorted_last, sorts, then_starts, then_still, wanes_of}
use Rattle.zy_laws.proofs.sources.Timed.{Ends_in_first, Ends_in_later, Timed, none_both}
use Rattle.zy_laws.proofs.walk.Conditions.{Committing, is_at}
use Rattle.zy_laws.proofs.walk.Events.{Event, Begins, Aborts, GoesOn, Gets, SumsUp, Writes, Inserts, Splits, Commits, Starts}
use Rattle.zy_laws.proofs.walk.Events.{lows_after}
use Rattle.zy_laws.proofs.walk.ModeLines.{splits_in_normal}
use Rattle.zy_laws.proofs.walk.Txns.{IsAt}

-- a node that is a source has no page of these keys
abbrev pub Away : NodeState → List ℕ → List ℕ → Type 0
Away x lows keys = is_source x.mode ≡ true → (k : ℕ) → has keys k ≡ true → page_here x lows k ≡ false

-- a front of the commits: what it leaves has at these keys what d has; it has all commits of `least`; the last of it had been made in the
-- earlier state; none of it is of a transaction that was new then
pub record Front (sc : Scenario) (was : ℕ → Txn) (start d : Map) (keys : List ℕ) (least front : List CommitRecord) : Type 0 where
  pub agree : Agree d (serial sc start front) keys
  pub held : (u : ℕ) → 1 ≤ times_listed u least → 1 ≤ times_listed u front
  pub last : (front ≡ [])
      ⊎ ((init : List CommitRecord) × (c : CommitRecord) × (front ≡ init ++ c ∷ []) × (is_committed (was c.txn).status ≡ true))
  pub unbegun : NoneIs is_new was front

-- the front ends in the first list, or in the second behind a commit c that had been made in the earlier state; then the keys are away
-- from the source, whose commits still come before c
pub data Stand (sc : Scenario) (was : ℕ → Txn) (start d : Map) (keys : List ℕ) (least : List CommitRecord) (v : View) (lows : List ℕ) (o : Sorted) : Type 0 where
  In_first : (front more : List CommitRecord) → o.first ≡ front ++ more → Front sc was start d keys least front → Stand sc was start d keys least v lows o
  In_later : (init : List CommitRecord) (c : CommitRecord) (more : List CommitRecord) → o.later ≡ (init ++ c ∷ []) ++ more
      → is_committed (was c.txn).status ≡ true → Front sc was start d keys least (o.first ++ (init ++ c ∷ []))
      → Away v.me lows keys → Away v.them lows keys → Stand sc was start d keys least v lows o

-- as long as the front ends in the second list, whoever runs at a source had begun in the earlier state
runs_old : (was : ℕ → Txn) (n : Node) (v : View) (o : Sorted) (init : List CommitRecord) (c : CommitRecord) (more : List CommitRecord)
    → o.later ≡ (init ++ c ∷ []) ++ more → is_committed (was c.txn).status ≡ true → Timed was n v o → is_source v.me.mode ≡ true → (t : ℕ)
    → IsAt v t n → is_new (was t).status ≡ false
runs_old was n v o init c more is ended (Ends_in_first front rest e f r l) source t a =
    let all = none_parts is_committed was (init ++ c ∷ []) more (subst (NoneIs is_committed was) is l) in
    let one = none_parts is_committed was init (c ∷ []) all.0 in
    absurd (false≢true (sym one.1.0 ∙ ended))
runs_old was n v o init c more is ended (Ends_in_later old rest e f b r mine theirs) source t a = mine.old source t a

-- a commit at a source, which is put before the last of the front
module _ (sc : Scenario) (was : ℕ → Txn) (start d : Map) (keys : List ℕ) (least : List CommitRecord) (n : Node) (v : View) (lows : List ℕ) (o : Sorted)
    (s : Divided sc n v start lows o) (line : Committing sc n v) where
  -- the record of the commit
  abbrev new : CommitRecord
  new = record { txn = line.txn; done = (txn_at v line.txn).done + 1 }

  -- it keeps the front
  front_source : is_source v.me.mode ≡ true → is_new (was line.txn).status ≡ false → (init : List CommitRecord) (c : CommitRecord) (more : List CommitRecord)
      → o.later ≡ (init ++ c ∷ []) ++ more → is_committed (was c.txn).status ≡ true → Away v.me lows keys
      → Front sc was start d keys least (o.first ++ (init ++ c ∷ [])) → Front sc was start d keys least ((o.first ++ new ∷ []) ++ (init ++ c ∷ []))
  front_source source begun init c more is ended away f =
      let old = init ++ c ∷ [] in
      let m = serial sc start o.first in
      let e = serial sc start (o.first ++ new ∷ []) in
      let plain : (k : ℕ) → page_here v.me lows k ≡ false → get e k ≡ get m k = source_agree sc n v start lows o line.txn s line.runs line.none_gone source in
      let a : Aside sc (page_here v.me lows) m old = aside_front sc (page_here v.me lows) m old more
      (subst (Aside sc (page_here v.me lows) m) is (s.mine.aside source)) in
      let parts = none_parts is_new was o.first old f.unbegun in
      record {
        agree = record {
          each = λ k h. ap (λ z. get z k) (serial-append sc start (o.first ++ new ∷ []) old)
              ∙ aside_outside sc (page_here v.me lows) m e old plain a k (away source k h)
              ∙ sym (ap (λ z. get z k) (serial-append sc start o.first old)) ∙ f.agree.each k h;
        };
        held = λ u h.
            let there = f.held u h in
            let one = listed_both u o.first old in
            let two = listed_both u (o.first ++ new ∷ []) old in
            let three = listed_both u o.first (new ∷ []) in
            omega (arith, there, one, two, three);
        last = inr (
          (o.first ++ new ∷ []) ++ init,
          c,
          sym (append_assoc (o.first ++ new ∷ []) init (c ∷ [])),
          ended,
        );
        unbegun = none_both is_new was (o.first ++ new ∷ []) old (none_both is_new was o.first (new ∷ []) parts.0 (begun, tt)) parts.1;
      }

-- whether an event is a split
abbrev cuts : {sc : Scenario} {n : Node} {v w : View} → Event sc n v w → Bool
cuts (Splits line e) = true
cuts e = false

-- another event that is neither a commit nor a start makes no source, and brings no page to one
less_after : {sc : Scenario} {n : Node} {v w : View} (e : Event sc n v w) → sorts e ≡ false → cuts e ≡ false → is_source w.me.mode ≡ true
    → (is_source v.me.mode ≡ true) × ((p : ℕ) → owns v.me.pages p ≡ false → owns w.me.pages p ≡ false)
unfolding did locked shares txn_at aborted begun
less_after (Commits line e) h j = absurd (false≢true (sym h))
less_after (Starts line e) h j = absurd (false≢true (sym h))
less_after (Splits line e) h j = absurd (false≢true (sym j))
less_after (Begins line e) h j = rw e (λ s. (s, λ p i. i))
less_after (Aborts line e) h j = rw e (λ s. (s, λ p i. i))
less_after (GoesOn line e) h j = rw e (λ s. (s, λ p i. i))
less_after (Gets line e) h j = rw e (λ s. (s, λ p i. i))
less_after (SumsUp line e) h j = rw e (λ s. (s, λ p i. i))
less_after (Writes line e) h j = rw e (λ s. (s, λ p i. i))
less_after (Inserts line e) h j = rw e (λ s. (s, λ p i. i))
less_after e h j = (wanes_of e refl refl).less

-- each event keeps it
pub stand_event : (sc : Scenario) (was : ℕ → Txn) (start d : Map) (keys : List ℕ) (least : List CommitRecord) (n : Node) (v w : View) (lows : List ℕ)
    (o : Sorted) → Divided sc n v start lows o → (e : Event sc n v w) → w.them ≡ v.them → Timed was n v o → Stand sc was start d keys least v lows o
    → Stand sc was start d keys least w (lows_after sc n v w lows e) (sorted_after v w o)
unfolding committed cut locked txn_at
stand_event sc was start d keys least n v w lows o s (Commits line e) them timed (In_first front more is f) =
    let c : CommitRecord = record { txn = line.txn; done = (txn_at v line.txn).done + 1 } in
    let z = committed line.txn v in
    subst (λ x. Stand sc was start d keys least x lows (sorted_after v x o)) (sym e) (elim (cases_Bool (is_source v.me.mode)) [
      | inl source ↦ subst (Stand sc was start d keys least z lows) (sym (sorted_first (is_source v.me.mode) v.commits c o source))
          (In_first front (more ++ c ∷ []) (ap (λ xs. xs ++ c ∷ []) is ∙ append_assoc front more (c ∷ [])) f)
      | inr off ↦ subst (Stand sc was start d keys least z lows) (sym (sorted_last (is_source v.me.mode) v.commits c o off))
          (In_first front more is f)
    ])
stand_event sc was start d keys least n v w lows o s (Commits line e) them timed (In_later init l more is ended f mine theirs) =
    let c : CommitRecord = record { txn = line.txn; done = (txn_at v line.txn).done + 1 } in
    let z = committed line.txn v in
    let away : Away z.me lows keys =
    λ source k h. owns-installed v.me.lows (txn_at v line.txn).rows v.me.pages (page_of lows k) ∙ mine source k h in
    subst (λ x. Stand sc was start d keys least x lows (sorted_after v x o)) (sym e) (elim (cases_Bool (is_source v.me.mode)) [
      | inl source ↦ subst (Stand sc was start d keys least z lows) (sym (sorted_first (is_source v.me.mode) v.commits c o source))
          (In_later init l more is ended (front_source sc was start d keys least n v lows o s line source
          (runs_old was n v o init l more is ended timed source line.txn (is_at line.runs)) init l more is ended mine f) away theirs)
      | inr off ↦ subst (Stand sc was start d keys least z lows) (sym (sorted_last (is_source v.me.mode) v.commits c o off))
          (In_later init l (more ++ c ∷ []) (ap (λ xs. xs ++ c ∷ []) is ∙ append_assoc (init ++ l ∷ []) more (c ∷ [])) ended f away theirs)
    ])
stand_event sc was start d keys least n v w lows o s (Starts line e) them timed (In_first front more is f) =
    subst (Stand sc was start d keys least w lows) (sym (then_starts v w o line.normal (ap (λ (z : View). is_source z.me.mode) e)))
    (In_first front (more ++ o.later) (ap (λ xs. xs ++ o.later) is ∙ append_assoc front more o.later) f)
stand_event sc was start d keys least n v w lows o s (Starts line e) them timed (In_later init l more is ended f mine theirs) =
    subst (Stand sc was start d keys least w lows) (sym (then_starts v w o line.normal (ap (λ (z : View). is_source z.me.mode) e)))
    (In_first (o.first ++ (init ++ l ∷ [])) more (ap (λ xs. o.first ++ xs) is ∙ sym (append_assoc o.first (init ++ l ∷ []) more)) f)
stand_event sc was start d keys least n v w lows o s (Splits line e) them timed (In_first front more is f) =
    subst (Stand sc was start d keys least w _) (sym (then_still {sc = sc} {n = n} o (Splits line e) refl)) (In_first front more is f)
stand_event sc was start d keys least n v w lows o s (Splits line e) them timed (In_later init l more is ended f mine theirs) =
    let off : is_source v.me.mode ≡ false = ap is_source (splits_in_normal v.me.mode line.normal) in
    let same : is_source w.me.mode ≡ is_source v.me.mode = ap (λ (x : View). is_source x.me.mode) e in
    let none = none_beside v s.kept.inv s.kept.inv.roles line.normal in
    let now = lows_after sc n v w lows (Splits line e) in
    subst (Stand sc was start d keys least w now) (sym (then_still {sc = sc} {n = n} o (Splits line e) refl)) (In_later init l more is ended f
    (λ source. absurd (false≢true (sym off ∙ sym same ∙ source)))
    (λ source k h. ap (λ (x : NodeState). page_here x now k) them ∙ none (page_of now k)))
stand_event sc was start d keys least n v w lows o s e them timed (In_first front more is f) =
    subst (Stand sc was start d keys least w lows) (sym (then_still o e refl)) (In_first front more is f)
stand_event sc was start d keys least n v w lows o s e them timed (In_later init l more is ended f mine theirs) =
    subst (Stand sc was start d keys least w lows) (sym (then_still o e refl)) (In_later init l more is ended f
    (λ source k h. let x = less_after e refl refl source in x.1 (page_of lows k) (mine x.0 k h))
    (λ source k h. ap (λ (x : NodeState). page_here x lows k) them ∙ theirs (sym (ap (λ (x : NodeState). is_source x.mode) them) ∙ source) k h))
