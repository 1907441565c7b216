-- Where a transaction stood in an earlier state lies on its lone run: on that of a committed one, and on that of one that still runs.
use Rattle.std.proofs.Common.{List, [], add-one, ap, append_assoc, append-nil, arith, false, inl, inr, refl, subst, suc, sym, true, ℕ, ◌++◌, ◌+◌, ◌∙◌, ◌∷◌, ◌≡◌, ◌≤◌}
use Rattle.std.specs.Prelude.{Bool, Some, slice_get, slice_set}
use Rattle.std.specs.FinMap.{get}
use Rattle.std.proofs.lemmas.Bool.{cases_Bool, cases_eq, false≢true, false_from_ne_true}
use Rattle.zy_isa.specs.Scenario.{Scenario}
use Rattle.zy_isa.specs.declared.instr.Instr.{Instr}
use Rattle.zy_isa.specs.declared.node.Node.{Node}
use Rattle.zy_model.specs.Families.{is_source}
use Rattle.zy_model.specs.Wireframe.{page_of}
use Rattle.zy_table.specs.Change.{aborted, begun, committed, cut, did, locked, shares, txn_at}
use Rattle.zy_table.specs.Client.{is_active, is_new}
use Rattle.zy_table.specs.Database.{Map}
use Rattle.zy_table.specs.declared.effect.Effect.TheVariants as effect
use Rattle.zy_table.specs.declared.entry.CommitRecord.{CommitRecord}
use Rattle.zy_table.specs.Effects.{effect_of}
use Rattle.zy_table.specs.Holders.{holds}
use Rattle.zy_table.specs.Run.{program_of}
use Rattle.zy_table.specs.Serial.{alone, serial}
use Rattle.zy_table.specs.State.{Lock, NodeState, Txn, View, other}
use Rattle.zy_laws.specs.SourceFirst.{Sorted}
use Rattle.zy_laws.proofs.counts.Fates.{txns_of}
use Rattle.zy_laws.proofs.locks.Locking.{Kept, nobody_runs}
use Rattle.zy_laws.proofs.places.PageValues.{db}
use Rattle.zy_laws.proofs.serial.Following.{Follows}
use Rattle.zy_laws.proofs.serial.LoneRuns.{Agree, Lone, lone, lone_alike, lone_at, lone_earlier}
use Rattle.zy_laws.proofs.serial.Values.{event_db}
use Rattle.zy_laws.proofs.sources.Aside.{Aside, Off, off_outside, serial-append}
use Rattle.zy_laws.proofs.sources.Beginnings.{back, begins}
use Rattle.zy_laws.proofs.sources.Ending.{last_there, mine_agree, source_agree, source_plain, source_there}
use Rattle.zy_laws.proofs.sources.Halves.{Divided, base, page_here}
use Rattle.zy_laws.proofs.sources.Sorting.{keeps_commits, sorted_after, sorted_first, sorted_last, sorts, then_starts, then_still, wanes_of}
use Rattle.zy_laws.proofs.walk.Conditions.{Committing, is_at}
use Rattle.zy_laws.proofs.walk.Events.{Event, Begins, Aborts, GoesOn, Gets, SumsUp, Writes, Inserts, Splits, Commits, Starts}
use Rattle.zy_laws.proofs.walk.Kinds.{quiet_of}
use Rattle.zy_laws.proofs.walk.Txns.{IsAt, Stands, active_old, at_either, at_other, at_same, at_self}

-- an earlier state x of a transaction that has now done so many instructions lies on its lone run on d
pub record Past (program : List Instr) (d : Map) (done : ℕ) (x : Txn) : Type 0 where
  pub keys : List ℕ
  pub run : lone d program x.done ≡ lone_at x keys
  pub early : x.done ≤ done

-- it lies on that on another map, too, which has the same at the keys that the transaction has touched
pub past_keys : {program : List Instr} {d : Map} {lows : List ℕ} {locks : List Lock} {t : ℕ} {y x : Txn} (e : Map) (done : ℕ)
    → (f : Follows program d lows locks t y) → Agree d e f.keys → y.done ≤ done → Past program d y.done x → Past program e done x
past_keys {program = program} {d = d} {y = y} {x = x} e done f agree later p =
    let on : (lone d program y.done).over ≡ false = ap (λ (z : Lone). z.over) f.run in
    let keys : (lone d program y.done).keys ≡ f.keys = ap (λ (z : Lone). z.keys) f.run in
    let early = p.early in
    record {
      keys = p.keys;
      run = lone_earlier d e program x.done y.done early on (subst (Agree d e) (sym keys) agree) ∙ p.run;
      early = omega (arith, early, later);
    }

-- and so on one that has the same on the pages that it has locked
past_agree : {program : List Instr} {d : Map} {lows : List ℕ} {locks : List Lock} {t : ℕ} {y x : Txn} (e : Map) (done : ℕ)
    → Follows program d lows locks t y → ((k : ℕ) → holds locks (page_of lows k) t ≡ true → get e k ≡ get d k) → y.done ≤ done → Past program d y.done x
    → Past program e done x
past_agree e done f agree later p = past_keys e done f (record { each = λ k g. agree k (f.covered k g) }) later p

-- nothing has changed but how many instructions it has done
pub past_same : {program : List Instr} {d e : Map} {before done : ℕ} {x : Txn} → e ≡ d → before ≤ done → Past program d before x → Past program e done x
past_same {program = program} {x = x} same later p =
    let early = p.early in record { keys = p.keys; run = ap (λ m. lone m program x.done) same ∙ p.run; early = omega (arith, early, later) }

-- a lone run on m of `done` instructions ends by its commit, and the earlier state x of its transaction, if it was active, lies on it
pub record Entire (program : List Instr) (m : Map) (done : ℕ) (x : Txn) : Type 0 where
  pub before : ℕ
  pub is : done ≡ suc before
  pub on : (lone m program before).over ≡ false
  pub instr : Instr
  pub next : slice_get program (lone m program before).pc ≡ Some instr
  pub does : effect_of instr (lone m program before).regs ≡ effect.Commits
  pub past : is_active x.status ≡ true → Past program m before x

-- this holds of each of these commits
abbrev pub Entires : Scenario → (ℕ → Txn) → Map → List CommitRecord → Type 0
Entires sc was m [] = Unit {0}
Entires sc was m (c ∷ cs) =
    Entire (program_of sc c.txn) m c.done (was c.txn) × Entires sc was (alone m (program_of sc c.txn) c.done).map cs

-- such a run that touches none of some keys is one on a map that differs at these keys alone
entire_off : (program : List Instr) (here : ℕ → Bool) (m e : Map) (done : ℕ) (x : Txn) → ((k : ℕ) → here k ≡ false → get e k ≡ get m k)
    → Off program here m done → Entire program m done x → Entire program e done x
entire_off program here m e done x agree o h =
    let same : Agree m e (lone m program o.before).keys = record { each = λ k g. agree k (o.keys k g) } in
    let last : lone e program o.before ≡ lone m program o.before = lone_alike m e program o.before o.on same in
    record {
      before = o.before;
      is = o.is;
      on = ap (λ (y : Lone). y.over) last ∙ o.on;
      instr = o.instr;
      next = ap (λ (y : Lone). slice_get program y.pc) last ∙ o.next;
      does = ap (λ (y : Lone). effect_of o.instr y.regs) last ∙ o.does;
      past = λ active.
          let q = h.past active in
          let early = q.early in
          let long = h.is in
          let short = o.is in
          let in_time : x.done ≤ o.before = omega (arith, early, long, short) in
          record { keys = q.keys; run = lone_earlier m e program x.done o.before in_time o.on same ∙ q.run; early = in_time };
    }

-- so do commits that touch none of them
entires_aside : (sc : Scenario) (was : ℕ → Txn) (here : ℕ → Bool) (m e : Map) (cs : List CommitRecord) → ((k : ℕ) → here k ≡ false → get e k ≡ get m k)
    → Aside sc here m cs → Entires sc was m cs → Entires sc was e cs
entires_aside sc was here m e [] agree a h = tt
entires_aside sc was here m e (c ∷ cs) agree a h =
    let program = program_of sc c.txn in (
      entire_off program here m e c.done (was c.txn) agree a.0 h.0,
      entires_aside sc was here (alone m program c.done).map (alone e program c.done).map cs (off_outside program here m e c.done agree a.0) a.1 h.1,
    )

-- of two lists it holds where it holds of each
entires_both : (sc : Scenario) (was : ℕ → Txn) (m : Map) (xs ys : List CommitRecord) → Entires sc was m xs → Entires sc was (serial sc m xs) ys
    → Entires sc was m (xs ++ ys)
entires_both sc was m [] ys a b = b
entires_both sc was m (c ∷ cs) ys a b = (a.0, entires_both sc was (alone m (program_of sc c.txn) c.done).map cs ys a.1 b)

-- and the other way round
entires_parts : (sc : Scenario) (was : ℕ → Txn) (m : Map) (xs ys : List CommitRecord) → Entires sc was m (xs ++ ys)
    → Entires sc was m xs × Entires sc was (serial sc m xs) ys
entires_parts sc was m [] ys h = (tt, h)
entires_parts sc was m (c ∷ cs) ys h =
    let r = entires_parts sc was (alone m (program_of sc c.txn) c.done).map cs ys h.1 in ((h.0, r.0), r.1)

-- a transaction that stays as it is has done as many instructions
more_same : (v w : View) (u : ℕ) → txn_at w u ≡ txn_at v u → (txn_at v u).done ≤ (txn_at w u).done
more_same v w u same = let e = ap (λ (x : Txn). x.done) same in omega (arith, e)

-- after a step that sets t, which was active, each has done at least as many
more_set : (v w : View) (t : ℕ) (y : Txn) → w.txns ≡ slice_set v.txns t y → is_active (txn_at v t).status ≡ true → (txn_at v t).done ≤ y.done → (u : ℕ)
    → (txn_at v u).done ≤ (txn_at w u).done
more_set v w t y set active more u = elim (cases_eq u t) [
  | inl same ↦
      subst (λ z. (txn_at v z).done ≤ (txn_at w z).done) (sym same)
      (subst (λ (x : Txn). (txn_at v t).done ≤ x.done) (sym (at_self v w t y set active)) more)
  | inr far ↦ more_same v w u (at_other v w t u y set far)
]

-- so after each event that is no begin
pub more_done : {sc : Scenario} {n : Node} {v w : View} (e : Event sc n v w) → begins e ≡ false → (u : ℕ) → (txn_at v u).done ≤ (txn_at w u).done
unfolding did locked shares aborted committed cut txn_at
more_done (Begins line e) is = absurd (false≢true (sym is))
more_done {v = v} {w = w} (Aborts line e) is = more_set v w line.txn _ (ap txns_of e) line.active (omega arith)
more_done {v = v} {w = w} (GoesOn line e) is = more_set v w line.txn _ (ap txns_of e) line.runs.active (omega arith)
more_done {v = v} {w = w} (Gets line e) is = more_set v w line.txn _ (ap txns_of e) line.runs.active (omega arith)
more_done {v = v} {w = w} (SumsUp line e) is = more_set v w line.txn _ (ap txns_of e) line.runs.active (omega arith)
more_done {v = v} {w = w} (Writes line e) is = more_set v w line.txn _ (ap txns_of e) line.runs.active (omega arith)
more_done {v = v} {w = w} (Inserts line e) is = more_set v w line.txn _ (ap txns_of e) line.runs.active (omega arith)
more_done {v = v} {w = w} (Splits line e) is = λ u. more_same v w u (at_same v w u (ap txns_of e))
more_done {v = v} {w = w} (Commits line e) is = more_set v w line.txn _ (ap txns_of e) line.runs.active (omega arith)
more_done {v = v} {w = w} e is = λ u. more_same v w u (at_same v w u (quiet_of e refl).txns)

-- a step that sets a transaction which is not new then makes none new
new_set : (v w : View) (t : ℕ) (y : Txn) → w.txns ≡ slice_set v.txns t y → is_new y.status ≡ false → (u : ℕ) → is_new (txn_at w u).status ≡ true
    → is_new (txn_at v u).status ≡ true
new_set v w t y set off u new = elim (cases_eq u t) [
  | inl same ↦
      let at : is_new (txn_at w t).status ≡ true = subst (λ z. is_new (txn_at w z).status ≡ true) same new in
      subst (λ z. is_new (txn_at v z).status ≡ true) (sym same) (elim (at_either v w t y set) [
        | inl now ↦ absurd (false≢true (sym off ∙ subst (λ (x : Txn). is_new x.status ≡ true) now at))
        | inr old ↦ subst (λ (x : Txn). is_new x.status ≡ true) old at
      ])
  | inr far ↦ subst (λ (x : Txn). is_new x.status ≡ true) (at_other v w t u y set far) new
]

-- so no event makes a transaction new
pub was_new : {sc : Scenario} {n : Node} {v w : View} → Event sc n v w → (u : ℕ) → is_new (txn_at w u).status ≡ true → is_new (txn_at v u).status ≡ true
unfolding did locked shares txn_at aborted begun committed cut
was_new {v = v} {w = w} (Begins line e) = new_set v w line.txn _ (ap txns_of e) refl
was_new {v = v} {w = w} (Aborts line e) = new_set v w line.txn _ (ap txns_of e) refl
was_new {v = v} {w = w} (GoesOn line e) = new_set v w line.txn _ (ap txns_of e) (active_old (txn_at v line.txn).status line.runs.active)
was_new {v = v} {w = w} (Gets line e) = new_set v w line.txn _ (ap txns_of e) (active_old (txn_at v line.txn).status line.runs.active)
was_new {v = v} {w = w} (SumsUp line e) = new_set v w line.txn _ (ap txns_of e) (active_old (txn_at v line.txn).status line.runs.active)
was_new {v = v} {w = w} (Writes line e) = new_set v w line.txn _ (ap txns_of e) (active_old (txn_at v line.txn).status line.runs.active)
was_new {v = v} {w = w} (Inserts line e) = new_set v w line.txn _ (ap txns_of e) (active_old (txn_at v line.txn).status line.runs.active)
was_new {v = v} {w = w} (Splits line e) = λ u new. subst (λ (x : Txn). is_new x.status ≡ true) (at_same v w u (ap txns_of e)) new
was_new {v = v} {w = w} (Commits line e) = new_set v w line.txn _ (ap txns_of e) refl
was_new {v = v} {w = w} e = λ u new. subst (λ (x : Txn). is_new x.status ≡ true) (at_same v w u (quiet_of e refl).txns) new

-- where an event that is neither a commit nor a start leaves somebody running, the node stays a source, or none
pub still_source : {sc : Scenario} {n : Node} {v w : View} (lows : List ℕ) (e : Event sc n v w) → sorts e ≡ false → Kept sc n v lows → (t : ℕ) → IsAt v t n
    → is_source w.me.mode ≡ is_source v.me.mode
unfolding did locked shares txn_at aborted begun cut
still_source lows (Commits line e) h k t a = absurd (false≢true (sym h))
still_source lows (Starts line e) h k t a = absurd (false≢true (sym h))
still_source lows (Begins line e) h k t a = ap (λ (x : View). is_source x.me.mode) e
still_source lows (Aborts line e) h k t a = ap (λ (x : View). is_source x.me.mode) e
still_source lows (GoesOn line e) h k t a = ap (λ (x : View). is_source x.me.mode) e
still_source lows (Gets line e) h k t a = ap (λ (x : View). is_source x.me.mode) e
still_source lows (SumsUp line e) h k t a = ap (λ (x : View). is_source x.me.mode) e
still_source lows (Writes line e) h k t a = ap (λ (x : View). is_source x.me.mode) e
still_source lows (Inserts line e) h k t a = ap (λ (x : View). is_source x.me.mode) e
still_source lows (Splits line e) h k t a = ap (λ (x : View). is_source x.me.mode) e
still_source {sc = sc} {n = n} {v = v} lows e h k t a = elim (wanes_of e refl refl).mode [
  | inl idle ↦ absurd (nobody_runs sc n v.me v lows t k.mine idle a)
  | inr same ↦ same
]

-- where the earlier state had a transaction active that now runs at n, it lies on its lone run on d
abbrev pub Pasts : Scenario → (ℕ → Txn) → Node → View → Map → Type 0
Pasts sc was n v d = (t : ℕ) → IsAt v t n → is_active (was t).status ≡ true → Past (program_of sc t) d (txn_at v t).done (was t)

-- each transaction that was active in the earlier state had come as far there as its lone run: one that still runs on what its node
-- runs on, and a committed one on the rows that those before it leave
pub record Retraced (sc : Scenario) (was : ℕ → Txn) (n : Node) (v : View) (start : Map) (o : Sorted) : Type 0 where
  pub mine : Pasts sc was n v (base (is_source v.me.mode) (serial sc start o.first) (db v))
  pub theirs : Pasts sc was (other n) v (base (is_source v.them.mode) (serial sc start o.first) (db v))
  pub all : Entires sc was start (o.first ++ o.later)
  pub begun : (t : ℕ) → is_active (was t).status ≡ true → is_new (txn_at v t).status ≡ false

-- what a node's transactions had come to stays so, where those that run after the step ran before it, on the same
pasts_back : (sc : Scenario) (was : ℕ → Txn) (n : Node) (v w : View) (d d' : Map) → ((t : ℕ) → IsAt w t n → IsAt v t n)
    → ((t : ℕ) → (txn_at v t).done ≤ (txn_at w t).done) → ((t : ℕ) → IsAt v t n → d' ≡ d) → Pasts sc was n v d → Pasts sc was n w d'
pasts_back sc was n v w d d' before more same h t a active =
    let b = before t a in past_same (same t b) (more t) (h t b active)

-- and where one of them begins
pasts_begun : (sc : Scenario) (was : ℕ → Txn) (i m : Node) (u : ℕ) (v : View) (d d' : Map) → is_new (txn_at v u).status ≡ true
    → ((t : ℕ) → is_active (was t).status ≡ true → is_new (txn_at v t).status ≡ false) → ((t : ℕ) → IsAt v t m → d' ≡ d) → Pasts sc was m v d
    → Pasts sc was m (begun i u v) d'
unfolding begun
pasts_begun sc was i m u v d d' new old same h t a active = elim (cases_eq t u) [
  | inl is ↦ absurd (false≢true (sym (old t active) ∙ subst (λ z. is_new (txn_at v z).status ≡ true) (sym is) new))
  | inr far ↦
      let now : txn_at (begun i u v) t ≡ txn_at v t = at_other v (begun i u v) u t _ refl far in
      let b : IsAt v t m = subst (λ (x : Txn). Stands x m) now a in
      past_same (same t b) (more_same v (begun i u v) t now) (h t b active)
]

-- each event that is neither a commit nor a start keeps it
retraced_still : (sc : Scenario) (was : ℕ → Txn) (n : Node) (v w : View) (start : Map) (lows : List ℕ) (o : Sorted) → Divided sc n v start lows o
    → (e : Event sc n v w) → sorts e ≡ false → w.them ≡ v.them → Retraced sc was n v start o → Retraced sc was n w start o
retraced_still sc was n v w start lows o s (Commits line e) plain them h = absurd (false≢true (sym plain))
retraced_still sc was n v w start lows o s (Starts line e) plain them h = absurd (false≢true (sym plain))
retraced_still sc was n v w start lows o s (Begins line e) plain them h =
    let event : Event sc n v w = Begins line e in
    let m = serial sc start o.first in
    let same : db w ≡ db v = event_db sc n v w lows s.kept event (keeps_commits event refl).0 in
    record {
      mine = subst (λ z. Pasts sc was n z (base (is_source w.me.mode) m (db w))) (sym e)
          (pasts_begun sc was line.home n line.txn v _ _ line.new h.begun
          (λ t a. ap (λ b. base b m (db w)) (still_source lows event refl s.kept t a) ∙ ap (base (is_source v.me.mode) m) same) h.mine);
      theirs = subst (λ z. Pasts sc was (other n) z (base (is_source w.them.mode) m (db w))) (sym e)
          (pasts_begun sc was line.home (other n) line.txn v _ _ line.new h.begun
          (λ t a. ap (λ (x : NodeState). base (is_source x.mode) m (db w)) them ∙ ap (base (is_source v.them.mode) m) same) h.theirs);
      all = h.all;
      begun = λ t a. false_from_ne_true _ (λ new. false≢true (sym (h.begun t a) ∙ was_new event t new));
    }
retraced_still sc was n v w start lows o s e plain them h =
    let m = serial sc start o.first in
    let same : db w ≡ db v = event_db sc n v w lows s.kept e (keeps_commits e refl).0 in
    record {
      mine = pasts_back sc was n v w _ _ (λ t. back e refl t n) (more_done e refl)
          (λ t a. ap (λ b. base b m (db w)) (still_source lows e refl s.kept t a) ∙ ap (base (is_source v.me.mode) m) same) h.mine;
      theirs = pasts_back sc was (other n) v w _ _ (λ t. back e refl t (other n)) (more_done e refl)
          (λ t a. ap (λ (x : NodeState). base (is_source x.mode) m (db w)) them ∙ ap (base (is_source v.them.mode) m) same) h.theirs;
      all = h.all;
      begun = λ t a. false_from_ne_true _ (λ new. false≢true (sym (h.begun t a) ∙ was_new e t new));
    }

-- a commit of t keeps it
module _ (sc : Scenario) (was : ℕ → Txn) (n : Node) (v : View) (start : Map) (lows : List ℕ) (o : Sorted) (s : Divided sc n v start lows o)
    (line : Committing sc n v) (h : Retraced sc was n v start o) where
  -- the record of the commit
  abbrev c : CommitRecord
  c = record { txn = line.txn; done = (txn_at v line.txn).done + 1 }

  -- what the commits at sources have come to
  abbrev m : Map
  m = serial sc start o.first

  -- the view after the commit
  abbrev w : View
  w = committed line.txn v

  -- what the commits at sources come to with this one
  abbrev e : Map
  e = serial sc start (o.first ++ c ∷ [])

  -- the commit as an event
  abbrev event : Event sc n v w
  event = Commits line refl

  -- who runs after it ran before it
  before : (u : ℕ) (i : Node) → IsAt w u i → IsAt v u i
  before = back event refl

  -- the lone run of t, on what n runs on, ends by the commit
  entire : Entire (program_of sc line.txn) (base (is_source v.me.mode) m (db v)) c.done (was line.txn)
  entire =
      let f = s.mine.runs line.txn (is_at line.runs) in
      let program = program_of sc line.txn in
      record {
        before = (txn_at v line.txn).done;
        is = add-one (txn_at v line.txn).done;
        on = ap (λ (z : Lone). z.over) f.run;
        instr = line.runs.instr;
        next = ap (λ (z : Lone). slice_get program z.pc) f.run ∙ line.runs.next;
        does = ap (λ (z : Lone). effect_of line.runs.instr z.regs) f.run ∙ line.runs.does;
        past = h.mine line.txn (is_at line.runs);
      }

  -- nobody is new that was not
  old : (u : ℕ) → is_active (was u).status ≡ true → is_new (txn_at w u).status ≡ false
  old u a = false_from_ne_true _ (λ new. false≢true (sym (h.begun u a) ∙ was_new event u new))

  -- at a source
  retraced_source : is_source v.me.mode ≡ true → Retraced sc was n w start (record { first = o.first ++ c ∷ []; later = o.later })
  unfolding committed
  retraced_source source =
      let on_is : base (is_source v.me.mode) m (db v) ≡ m = ap (λ b. base b m (db v)) source in
      let parts = entires_parts sc was start o.first o.later h.all in
      record {
        mine = λ u a active.
            past_agree (base (is_source v.me.mode) e (db w)) (txn_at w u).done (s.mine.runs u (before u n a))
            (mine_agree sc n v start lows o line.txn s line.runs line.none_gone e (source_plain sc n v start lows o line.txn s line.runs line.none_gone source) u a)
            (more_done event refl u) (h.mine u (before u n a) active);
        theirs = λ u a active.
            past_agree (base (is_source v.them.mode) e (db w)) (txn_at w u).done (s.theirs.runs u (before u (other n) a))
            (source_there sc n v start lows o line.txn s line.runs line.none_gone source u) (more_done event refl u) (h.theirs u (before u (other n) a) active);
        all = entires_both sc was start (o.first ++ c ∷ []) o.later
            (entires_both sc was start o.first (c ∷ []) parts.0
            (subst (λ d. Entire (program_of sc line.txn) d c.done (was line.txn)) on_is entire, tt))
            (entires_aside sc was (page_here v.me lows) m e o.later (source_agree sc n v start lows o line.txn s line.runs line.none_gone source)
            (s.mine.aside source) parts.1);
        begun = old;
      }

  -- elsewhere
  retraced_last : is_source v.me.mode ≡ false → Retraced sc was n w start (record { first = o.first; later = o.later ++ c ∷ [] })
  unfolding committed
  retraced_last off =
      let all_are : db v ≡ serial sc start (o.first ++ o.later) = s.is_serial ∙ sym (serial-append sc start o.first o.later) in
      let on_is : base (is_source v.me.mode) m (db v) ≡ serial sc start (o.first ++ o.later) = ap (λ b. base b m (db v)) off ∙ all_are in
      record {
        mine = λ u a active.
            past_agree (base (is_source v.me.mode) m (db w)) (txn_at w u).done (s.mine.runs u (before u n a))
            (mine_agree sc n v start lows o line.txn s line.runs line.none_gone m (λ k _. refl) u a) (more_done event refl u)
            (h.mine u (before u n a) active);
        theirs = λ u a active.
            past_agree (base (is_source v.them.mode) m (db w)) (txn_at w u).done (s.theirs.runs u (before u (other n) a))
            (last_there sc n v start lows o line.txn s line.runs line.none_gone u) (more_done event refl u) (h.theirs u (before u (other n) a) active);
        all = subst (Entires sc was start) (append_assoc o.first o.later (c ∷ []))
            (entires_both sc was start (o.first ++ o.later) (c ∷ []) h.all
            (subst (λ d. Entire (program_of sc line.txn) d c.done (was line.txn)) on_is entire, tt));
        begun = old;
      }

-- each event keeps it
pub retraced_event : (sc : Scenario) (was : ℕ → Txn) (n : Node) (v w : View) (start : Map) (lows : List ℕ) (o : Sorted) → Divided sc n v start lows o
    → Event sc n v w → w.them ≡ v.them → Retraced sc was n v start o → Retraced sc was n w start (sorted_after v w o)
unfolding committed
retraced_event sc was n v w start lows o s (Commits line e) them h =
    let c : CommitRecord = record { txn = line.txn; done = (txn_at v line.txn).done + 1 } in
    subst (λ z. Retraced sc was n z start (sorted_after v z o)) (sym e) (elim (cases_Bool (is_source v.me.mode)) [
      | inl source ↦ subst (Retraced sc was n (committed line.txn v) start) (sym (sorted_first (is_source v.me.mode) v.commits c o source))
          (retraced_source sc was n v start lows o s line h source)
      | inr off ↦ subst (Retraced sc was n (committed line.txn v) start) (sym (sorted_last (is_source v.me.mode) v.commits c o off))
          (retraced_last sc was n v start lows o s line h off)
    ])
retraced_event sc was n v w start lows o s (Starts line e) them h =
    let event : Event sc n v w = Starts line e in
    let q = quiet_of event refl in
    let m = serial sc start o.first in
    let all = serial sc start (o.first ++ o.later) in
    let same : db w ≡ db v = event_db sc n v w lows s.kept event q.commits in
    let is : all ≡ db v = serial-append sc start o.first o.later ∙ sym s.is_serial in
    let source : is_source w.me.mode ≡ true = ap (λ (z : View). is_source z.me.mode) e in
    let off : is_source v.me.mode ≡ false = ap is_source line.normal in
    let beside : is_source v.them.mode ≡ false = ap is_source line.empty in
    let on : base (is_source w.me.mode) all (db w) ≡ base (is_source v.me.mode) m (db v) =
    ap (λ b. base b all (db w)) source ∙ is ∙ sym (ap (λ b. base b m (db v)) off) in
    let on_them : base (is_source w.them.mode) all (db w) ≡ base (is_source v.them.mode) m (db v) =
    ap (λ (x : NodeState). base (is_source x.mode) all (db w)) them ∙ ap (λ b. base b all (db w)) beside ∙ same
    ∙ sym (ap (λ b. base b m (db v)) beside) in
    subst (Retraced sc was n w start) (sym (then_starts v w o line.normal source)) (record {
      mine = pasts_back sc was n v w _ _ (λ t. back event refl t n) (more_done event refl) (λ t a. on) h.mine;
      theirs = pasts_back sc was (other n) v w _ _ (λ t. back event refl t (other n)) (more_done event refl) (λ t a. on_them) h.theirs;
      all = subst (Entires sc was start) (sym (append-nil (o.first ++ o.later))) h.all;
      begun = λ t a. false_from_ne_true _ (λ new. false≢true (sym (h.begun t a) ∙ was_new event t new));
    })
retraced_event sc was n v w start lows o s e them h =
    subst (Retraced sc was n w start) (sym (then_still o e refl)) (retraced_still sc was n v w start lows o s e refl them h)
