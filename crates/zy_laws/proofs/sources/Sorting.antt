-- Each event keeps the sorted commits, and the database that of their serial run.
use Rattle.std.proofs.Common.{List, [], ap, append-nil, length, false, inl, inr, refl, subst, sym, true, ℕ, ◌+◌, ◌∙◌, ◌++◌, ◌∷◌, ◌≡◌}
use Rattle.std.specs.Prelude.{◌⊎◌, Bool, drop, ◌==◌, ◌||◌}
use Rattle.std.proofs.Math.Seq.{drop-append_seam, drop-length}
use Rattle.std.proofs.lemmas.Bool.{cases_Bool, cond_both, false≢true, or_parts}
use Rattle.zy_isa.specs.Scenario.{Scenario}
use Rattle.zy_isa.specs.declared.node.Node.{Node}
use Rattle.zy_model.specs.Messages.{Wire}
use Rattle.zy_model.specs.declared.mode.NodeMode.TheVariants.{Normal, SInit}
use Rattle.zy_model.specs.declared.lock.LockKind.TheVariants.{Exclusive, Shared}
use Rattle.zy_model.specs.Families.{is_idle, is_source}
use Rattle.zy_table.specs.Change.{aborted, asks, begun, committed, cut, did, leaves, locked, shares, turns, txn_at}
use Rattle.zy_table.specs.declared.access.Access.TheVariants as access
use Rattle.zy_table.specs.declared.access.Access.TheVariants.{Reads}
use Rattle.zy_table.specs.declared.effect.Effect.TheVariants as effect
use Rattle.zy_table.specs.declared.entry.CommitRecord.{CommitRecord}
use Rattle.zy_table.specs.Database.{Map}
use Rattle.zy_table.specs.Pages.{owns, without}
use Rattle.zy_table.specs.State.{Leaf, View, post}
use Rattle.zy_table.specs.Take.{is_held}
use Rattle.zy_laws.specs.SourceFirst.{Sorted, sorted_by}
use Rattle.zy_laws.proofs.locks.CutLocks.{split_on}
use Rattle.zy_laws.proofs.locks.Locking.{Kept, nobody_runs}
use Rattle.zy_laws.proofs.room.FitSteps.{takes_in}
use Rattle.zy_laws.proofs.serial.FollowingRuns.{small_insert, small_read, small_sum, small_write}
use Rattle.zy_laws.proofs.serial.Values.{event_db}
use Rattle.zy_laws.proofs.sources.Ending.{held_commit, last_commit, source_commit}
use Rattle.zy_laws.proofs.sources.Going.{aborted_divided, begun_divided, cut_divided, goes_divided, key_divided, mine_on, range_divided, read_on}
use Rattle.zy_laws.proofs.sources.Going.{starts_divided, stays_divided, sum_on, there_on}
use Rattle.zy_laws.proofs.sources.Halves.{Divided}
use Rattle.zy_laws.proofs.walk.Events.{Event, Rests, Begins, Aborts, GoesOn, Gets, SumsUp, Writes, Inserts, Splits, Commits, Asks, Starts, GotWire, GotReady}
use Rattle.zy_laws.proofs.walk.Events.{GotDual, IsStale, Gives, GotPage, GotLast, GotFinish, GotAll, GotDone, Finishes, Pushes}
use Rattle.zy_laws.proofs.walk.Events.{lows_after}
use Rattle.zy_laws.proofs.walk.Conditions.{Starting, is_at, sum_at, value_at}
use Rattle.zy_laws.proofs.walk.Kinds.{Quiet, of_txn, quiet_of}

-- a page that was not here is not here without another one
without_less : (p q : ℕ) (xs : List Leaf) → owns xs q ≡ false → owns (without p xs) q ≡ false
without_less p q [] h = refl
without_less p q (x ∷ xs) h =
    let parts = or_parts (x.number == q) (owns xs q) h in
    cond_both (x.number == p) (without p xs) (x ∷ without p xs) (λ ys. owns ys q ≡ false) (λ _. without_less p q xs parts.1)
    (λ _. ap (λ b. b || owns (without p xs) q) parts.0 ∙ without_less p q xs parts.1)

-- the node that acts does not become a source, gets no page where it is one, and was idle if it is one no longer
pub record Wanes (v w : View) : Type 0 where
  pub less : is_source w.me.mode ≡ true → (is_source v.me.mode ≡ true) × ((p : ℕ) → owns v.me.pages p ≡ false → owns w.me.pages p ≡ false)
  pub mode : (is_idle v.me.mode ≡ true) ⊎ (is_source w.me.mode ≡ is_source v.me.mode)

-- where no mode changes and no page comes
wanes_same : (v w : View) → w.me.mode ≡ v.me.mode → ((p : ℕ) → owns v.me.pages p ≡ false → owns w.me.pages p ≡ false) → Wanes v w
wanes_same v w mode less = record { less = λ s. (sym (ap is_source mode) ∙ s, less); mode = inr (ap is_source mode) }

-- where the node is no source, and becomes none
wanes_off : (v w : View) → is_source v.me.mode ≡ false → is_source w.me.mode ≡ false → Wanes v w
wanes_off v w before after = record { less = λ s. absurd (false≢true (sym after ∙ s)); mode = inr (after ∙ sym before) }

-- where a source stays one
wanes_on : (v w : View) → is_source v.me.mode ≡ true → is_source w.me.mode ≡ true → w.me.pages ≡ v.me.pages → Wanes v w
wanes_on v w before after pages = record { less = λ s. (before, λ p h. ap (λ xs. owns xs p) pages ∙ h); mode = inr (after ∙ sym before) }

-- whether the event is a start
abbrev starts : {sc : Scenario} {n : Node} {v w : View} → Event sc n v w → Bool
starts (Starts line e) = true
starts e = false

-- an event of no transaction that is no start
pub wanes_of : {sc : Scenario} {n : Node} {v w : View} (e : Event sc n v w) → of_txn e ≡ false → starts e ≡ false → Wanes v w
unfolding asks leaves
wanes_of {v = v} (Rests e) h s = rw e (wanes_same v _ refl (λ p o. o))
wanes_of {v = v} (Asks line e) h s = rw e (wanes_same v _ refl (λ p o. o))
wanes_of {v = v} (GotWire line e) h s = rw e (wanes_off v _ (ap is_source line.empty) refl)
wanes_of {v = v} (GotReady line e) h s = rw e (wanes_on v _ (ap is_source line.mode) refl refl)
wanes_of {v = v} (GotDual line e) h s = rw e (wanes_off v _ (ap is_source line.mode) refl)
wanes_of {v = v} (IsStale line e) h s = rw e (wanes_same v _ refl (λ p o. o))
wanes_of {v = v} (Gives line e) h s = rw e (wanes_same v _ refl (λ q o. without_less line.page q v.me.pages o))
wanes_of {v = v} (GotPage line e) h s = let off = takes_in v.me.mode line.pulls in rw e (wanes_off v _ off off)
wanes_of {v = v} (GotLast line e) h s = rw e (wanes_off v _ (ap is_source line.mode) refl)
wanes_of {v = v} (GotFinish line e) h s = rw e (wanes_off v _ (ap is_source line.mode) refl)
wanes_of {v = v} (GotAll line e) h s = rw e (wanes_off v _ (ap is_source line.mode) refl)
wanes_of {v = v} (GotDone line e) h s = rw e (record { less = λ a. absurd (false≢true a); mode = inl (ap is_idle line.mode) })
wanes_of {v = v} (Finishes line e) h s = rw e (wanes_on v _ (ap is_source line.dual) refl refl)
wanes_of {v = v} (Pushes line e) h s = rw e (wanes_same v _ refl (λ q o. without_less line.page q v.me.pages o))
wanes_of (Starts line e) h s = absurd (false≢true (sym s))
wanes_of e h s = absurd (false≢true (sym h))

-- where nothing commits and no node becomes a source, the commits stay sorted as they are
sorted_still : (b now : Bool) (cs more : List CommitRecord) (o : Sorted) → more ≡ cs → (now ≡ true → b ≡ true)
    → sorted_by b now (drop (length cs) more) o ≡ o
sorted_still true now cs more o same less =
    let none : drop (length cs) more ≡ [] = ap (drop (length cs)) same ∙ drop-length cs in
    ap (λ xs. record { first = o.first ++ xs; later = o.later }) none ∙ ap (λ xs. record { first = xs; later = o.later }) (append-nil o.first)
sorted_still false true cs more o same less = absurd (false≢true (less refl))
sorted_still false false cs more o same less =
    let none : drop (length cs) more ≡ [] = ap (drop (length cs)) same ∙ drop-length cs in
    ap (λ xs. record { first = o.first; later = o.later ++ xs }) none ∙ ap (λ xs. record { first = o.first; later = xs }) (append-nil o.later)

-- a new commit at a source joins the first list
pub sorted_first : (b : Bool) (cs : List CommitRecord) (c : CommitRecord) (o : Sorted) → b ≡ true
    → sorted_by b b (drop (length cs) (cs ++ c ∷ [])) o ≡ record { first = o.first ++ c ∷ []; later = o.later }
sorted_first b cs c o source =
    ap (λ z. sorted_by z z (drop (length cs) (cs ++ c ∷ [])) o) source
    ∙ ap (λ xs. record { first = o.first ++ xs; later = o.later }) (drop-append_seam cs (c ∷ []))

-- a new commit elsewhere joins the second
pub sorted_last : (b : Bool) (cs : List CommitRecord) (c : CommitRecord) (o : Sorted) → b ≡ false
    → sorted_by b b (drop (length cs) (cs ++ c ∷ [])) o ≡ record { first = o.first; later = o.later ++ c ∷ [] }
sorted_last b cs c o off =
    ap (λ z. sorted_by z z (drop (length cs) (cs ++ c ∷ [])) o) off
    ∙ ap (λ xs. record { first = o.first; later = o.later ++ xs }) (drop-append_seam cs (c ∷ []))

-- what holds of the view that a line makes holds of an equal one
along : {sc : Scenario} {n : Node} {w x : View} {start : Map} {lows : List ℕ} {o : Sorted} → w ≡ x → Kept sc n w lows
    → (Kept sc n x lows → Divided sc n x start lows o) → Divided sc n w start lows o
along {sc = sc} {n = n} {start = start} {lows = lows} {o = o} e k f =
    subst (λ z. Divided sc n z start lows o) (sym e) (f (subst (λ z. Kept sc n z lows) e k))

-- whether the event is a commit or a start, which change the sorted commits
abbrev pub sorts : {sc : Scenario} {n : Node} {v w : View} → Event sc n v w → Bool
sorts (Commits line e) = true
sorts (Starts line e) = true
sorts e = false

-- any other event keeps it with the commits sorted as they are
pub keeps_event : (sc : Scenario) (n : Node) (v w : View) (start : Map) (lows : List ℕ) (o : Sorted) → Divided sc n v start lows o → (e : Event sc n v w)
    → sorts e ≡ false → Kept sc n w (lows_after sc n v w lows e) → Divided sc n w start (lows_after sc n v w lows e) o
keeps_event sc n v w start lows o s (Commits line e) h k = absurd (false≢true (sym h))
keeps_event sc n v w start lows o s (Starts line e) h k = absurd (false≢true (sym h))
keeps_event sc n v w start lows o s (Begins line e) h k = along e k (begun_divided sc n v start lows o s line.txn line.home line.new)
keeps_event sc n v w start lows o s (Aborts line e) h k = along e k (aborted_divided sc n v start lows o s line.txn line.cause (line.active, line.here))
keeps_event sc n v w start lows o s (GoesOn line e) h k =
    along e k (goes_divided sc n v start lows o s line.txn line.act line.pc line.regs line.runs line.leads)
keeps_event sc n v w start lows o s (SumsUp line e) h k = along e k
    (range_divided sc n v start lows o s line.txn line.first line.last _ _ (effect.Sums line.register line.first line.last) line.runs (λ keys.
    small_sum (mine_on sc n v start lows o s) line.register line.first line.last (txn_at v line.txn) keys
    (sum_at line.txn line.first line.last v) line.free.rises line.free.small
    (sum_on sc n v start lows o s line.txn line.first line.last (is_at line.runs) line.free)))
keeps_event sc n v w start lows o s (Gets line e) h k = along e k
    (key_divided sc n v start lows o s line.txn line.key Shared _ _ _ (effect.Accesses (Reads line.register) line.key) line.runs (λ keys.
    small_read (mine_on sc n v start lows o s) line.key (txn_at v line.txn) keys line.free.small line.register (value_at line.txn line.key v)
    (read_on sc n v start lows o s line.txn line.key (is_at line.runs) line.free.here)))
keeps_event sc n v w start lows o s (Writes line e) h k = along e k
    (key_divided sc n v start lows o s line.txn line.key Exclusive _ _ _ (effect.Accesses (access.Writes line.value) line.key) line.runs (λ keys.
    small_write (mine_on sc n v start lows o s) line.key (txn_at v line.txn) keys line.free.small line.value
    (there_on sc n v start lows o s line.txn line.key Exclusive (is_at line.runs) line.free ∙ line.there)))
keeps_event sc n v w start lows o s (Inserts line e) h k = along e k
    (key_divided sc n v start lows o s line.txn line.key Exclusive _ _ _ (effect.Accesses (access.Inserts line.value) line.key) line.runs (λ keys.
    small_insert (mine_on sc n v start lows o s) line.key (txn_at v line.txn) keys line.free.small line.value
    (there_on sc n v start lows o s line.txn line.key Exclusive (is_at line.runs) line.free ∙ line.absent)))
keeps_event sc n v w start lows o s (Splits line e) h k =
    let on = split_on sc n v lows line.txn s.kept (is_at line.runs) line.key line.full in
    along e k (cut_divided sc n v start lows o s line.txn line.key _ (is_at line.runs) line.free line.normal on)
keeps_event sc n v w start lows o s e h k =
    let q = quiet_of e refl in
    let x = wanes_of e refl refl in
    stays_divided sc n v start lows o s w q (event_db sc n v w lows s.kept e q.commits) k x.less (λ t a. elim x.mode [
      | inl idle ↦ absurd (nobody_runs sc n v.me v lows t s.kept.mine idle a)
      | inr i ↦ i
    ])

-- such an event commits nothing, and makes no source
pub keeps_commits : {sc : Scenario} {n : Node} {v w : View} (e : Event sc n v w) → sorts e ≡ false
    → (w.commits ≡ v.commits) × (is_source w.me.mode ≡ true → is_source v.me.mode ≡ true)
unfolding did locked shares txn_at aborted begun cut
keeps_commits (Commits line e) h = absurd (false≢true (sym h))
keeps_commits (Starts line e) h = absurd (false≢true (sym h))
keeps_commits (Begins line e) h = rw e (refl, λ s. s)
keeps_commits (Aborts line e) h = rw e (refl, λ s. s)
keeps_commits (GoesOn line e) h = rw e (refl, λ s. s)
keeps_commits (SumsUp line e) h = rw e (refl, λ s. s)
keeps_commits (Gets line e) h = rw e (refl, λ s. s)
keeps_commits (Writes line e) h = rw e (refl, λ s. s)
keeps_commits (Inserts line e) h = rw e (refl, λ s. s)
keeps_commits (Splits line e) h = rw e (refl, λ s. s)
keeps_commits e h = ((quiet_of e refl).commits, λ s. ((wanes_of e refl refl).less s).0)

-- a start: all commits so far come before those of the migration
started : (sc : Scenario) (n : Node) (v w : View) (start : Map) (lows : List ℕ) (o : Sorted) → Divided sc n v start lows o
    → Starting sc n v → w ≡ post (Wire v.me.lows) (turns SInit v) → Kept sc n w lows
    → Divided sc n w start lows (record { first = o.first ++ o.later; later = [] })
started sc n v w start lows o s line e k =
    let event : Event sc n v w = Starts line e in
    let q : Quiet v w = quiet_of event refl in
    starts_divided sc n v start lows o s w q (event_db sc n v w lows s.kept event q.commits) k (ap is_source line.normal)
    (ap (λ (z : View). is_source z.me.mode) e) (ap is_source line.empty)

-- the commits after a step from v to w
abbrev pub sorted_after : View → View → Sorted → Sorted
sorted_after v w o = sorted_by (is_source v.me.mode) (is_source w.me.mode) (drop (length v.commits) w.commits) o

-- after an event that is neither a commit nor a start they are sorted as they were
pub then_still : {sc : Scenario} {n : Node} {v w : View} (o : Sorted) (e : Event sc n v w) → sorts e ≡ false → sorted_after v w o ≡ o
then_still {v = v} {w = w} o e h =
    let i = keeps_commits e h in sorted_still (is_source v.me.mode) (is_source w.me.mode) v.commits w.commits o i.0 i.1

-- after a start all come first
pub then_starts : (v w : View) (o : Sorted) → v.me.mode ≡ Normal → is_source w.me.mode ≡ true
    → sorted_after v w o ≡ record { first = o.first ++ o.later; later = [] }
then_starts v w o normal source =
    let new = drop (length v.commits) w.commits in
    ap (λ b. sorted_by b (is_source w.me.mode) new o) (ap is_source normal) ∙ ap (λ b. sorted_by false b new o) source

-- each event keeps it with the commits in the migration order
pub divided_event : (sc : Scenario) (n : Node) (v w : View) (start : Map) (lows : List ℕ) (o : Sorted) → Divided sc n v start lows o → (e : Event sc n v w)
    → Kept sc n w (lows_after sc n v w lows e) → Divided sc n w start (lows_after sc n v w lows e) (sorted_after v w o)
unfolding committed
divided_event sc n v w start lows o s (Commits line e) k =
    let c : CommitRecord = record { txn = line.txn; done = (txn_at v line.txn).done + 1 } in
    subst (λ z. Divided sc n z start lows (sorted_after v z o)) (sym e) (let j = subst (λ z. Kept sc n z lows) e k in
    elim (cases_Bool (is_source v.me.mode)) [
      | inl source ↦ subst (Divided sc n (committed line.txn v) start lows) (sym (sorted_first (is_source v.me.mode) v.commits c o source))
          (source_commit sc n v start lows o line.txn s line.runs line.none_gone source j)
      | inr off ↦ subst (Divided sc n (committed line.txn v) start lows) (sym (sorted_last (is_source v.me.mode) v.commits c o off))
          (last_commit sc n v start lows o line.txn s line.runs line.none_gone off j)
    ])
divided_event sc n v w start lows o s (Starts line e) k =
    subst (Divided sc n w start lows) (sym (then_starts v w o line.normal (ap (λ (z : View). is_source z.me.mode) e)))
    (started sc n v w start lows o s line e k)
divided_event sc n v w start lows o s e k =
    subst (Divided sc n w start (lows_after sc n v w lows e)) (sym (then_still o e refl)) (keeps_event sc n v w start lows o s e refl k)

-- all commits in commit order
abbrev pub in_order : List CommitRecord → Sorted
in_order cs = record { first = cs; later = [] }

-- where locked pages stay, each event keeps it with the commits in commit order
pub serial_event : (sc : Scenario) (n : Node) (v w : View) (start : Map) (lows : List ℕ) → is_held sc.rule ≡ true
    → Divided sc n v start lows (in_order v.commits) → (e : Event sc n v w)
    → Kept sc n w (lows_after sc n v w lows e) → Divided sc n w start (lows_after sc n v w lows e) (in_order w.commits)
unfolding committed
serial_event sc n v w start lows held s (Commits line e) k =
    subst (λ z. Divided sc n z start lows (in_order z.commits)) (sym e)
    (held_commit sc n v start lows (in_order v.commits) line.txn s line.runs line.none_gone held refl (subst (λ z. Kept sc n z lows) e k))
serial_event sc n v w start lows held s (Starts line e) k =
    let q : Quiet v w = quiet_of {sc = sc} {n = n} (Starts line e) refl in
    subst (λ cs. Divided sc n w start lows (in_order cs)) (append-nil v.commits ∙ sym q.commits)
    (started sc n v w start lows (in_order v.commits) s line e k)
serial_event sc n v w start lows held s e k =
    subst (λ cs. Divided sc n w start (lows_after sc n v w lows e) (in_order cs)) (sym (keeps_commits e refl).0)
    (keeps_event sc n v w start lows (in_order v.commits) s e refl k)
