-- In version 1 the sorted commits are those at A, and then those at B.
use Rattle.std.proofs.Common.{List, [], ap, append-nil, false, inl, inr, refl, subst, sym, true, ℕ, ◌++◌, ◌+◌, ◌∙◌, ◌∷◌, ◌≡◌}
use Rattle.std.specs.Prelude.{◌⊎◌, Bool, if◌then◌else◌, slice_set}
use Rattle.std.specs.List.{filter}
use Rattle.std.proofs.lemmas.Bool.{cases_eq, false≢true}
use Rattle.std.proofs.lemmas.List.Elements.{filter-append}
use Rattle.zy_isa.specs.Scenario.{Scenario}
use Rattle.zy_isa.specs.declared.node.Node.{Node}
use Rattle.zy_isa.specs.declared.node.Node.TheVariants.{A, B}
use Rattle.zy_isa.specs.declared.version.Version.TheVariants.{One}
use Rattle.zy_model.specs.Families.{is_idle, is_source}
use Rattle.zy_model.specs.Table.{may_split}
use Rattle.zy_model.specs.declared.mode.NodeMode.{NodeMode}
use Rattle.zy_model.specs.declared.mode.NodeMode.TheVariants.{Empty, Normal, SInit, SDual, SFinish, DInit, DDual, DFinish}
use Rattle.zy_table.specs.Change.{aborted, asks, begun, committed, cut, did, leaves, locked, shares, txn_at}
use Rattle.zy_table.specs.declared.effect.Effect.TheVariants as effect
use Rattle.zy_table.specs.declared.entry.CommitRecord.{CommitRecord}
use Rattle.zy_table.specs.declared.status.Status.TheVariants.{Committed}
use Rattle.zy_table.specs.Run.{same_node}
use Rattle.zy_table.specs.Serial.{is_committed}
use Rattle.zy_table.specs.State.{NodeState, Txn, View, other}
use Rattle.zy_laws.specs.SourceFirst.{Sorted}
use Rattle.zy_laws.proofs.counts.Fates.{txns_of}
use Rattle.zy_laws.proofs.locks.Locking.{Kept}
use Rattle.zy_laws.proofs.locks.LockingSteps.{wire_front}
use Rattle.zy_laws.proofs.owner.Roles.{Inv, normal_other, turned, turned_inv}
use Rattle.zy_laws.proofs.serial.Committing.{committed_list, committed_txns}
use Rattle.zy_laws.proofs.sources.Sorting.{keeps_commits, sorted_first, sorted_last, sorts, sorted_after, then_starts, then_still}
use Rattle.zy_laws.proofs.walk.Events.{Event, Begins, Aborts, GoesOn, Gets, SumsUp, Writes, Inserts, Splits, Commits, Asks, Starts, GotWire, GotReady}
use Rattle.zy_laws.proofs.walk.Conditions.{Runs}
use Rattle.zy_laws.proofs.walk.Events.{GotDual, IsStale, Gives, GotPage, GotLast, GotFinish, GotAll, GotDone, Finishes, Pushes}
use Rattle.zy_laws.proofs.walk.Conditions.{is_at}
use Rattle.zy_laws.proofs.walk.Kinds.{in_place_of, quiet_of}
use Rattle.zy_laws.proofs.walk.Txns.{active_off, at_other, at_same, at_self, new_off}

-- the commits whose transactions are at node i
abbrev pub at_of : Node → (ℕ → Txn) → List CommitRecord → List CommitRecord
at_of i f cs = filter (λ (c : CommitRecord). same_node (f c.txn).node i) cs

-- each commit is of a committed transaction
abbrev pub AllCommitted : (ℕ → Txn) → List CommitRecord → Type 0
AllCommitted f [] = Unit {0}
AllCommitted f (c ∷ cs) = (is_committed (f c.txn).status ≡ true) × AllCommitted f cs

-- where committed transactions stay as they are, so do these lists
pub at_same_txns : (i : Node) (f g : ℕ → Txn) (cs : List CommitRecord) → ((t : ℕ) → is_committed (f t).status ≡ true → g t ≡ f t) → AllCommitted f cs
    → at_of i g cs ≡ at_of i f cs
at_same_txns i f g [] same all = refl
at_same_txns i f g (c ∷ cs) same all =
    ap (λ (x : Txn). if same_node x.node i then c ∷ at_of i g cs else at_of i g cs) (same c.txn all.0)
    ∙ ap (λ xs. if same_node (f c.txn).node i then c ∷ xs else xs) (at_same_txns i f g cs same all.1)

-- and the commits are still of committed transactions
pub all_same_txns : (f g : ℕ → Txn) (cs : List CommitRecord) → ((t : ℕ) → is_committed (f t).status ≡ true → g t ≡ f t) → AllCommitted f cs
    → AllCommitted g cs
all_same_txns f g [] same all = tt
all_same_txns f g (c ∷ cs) same all = (ap (λ (x : Txn). is_committed x.status) (same c.txn all.0) ∙ all.0, all_same_txns f g cs same all.1)

-- one more commit of a committed transaction
pub all_push : (f : ℕ → Txn) (cs : List CommitRecord) (c : CommitRecord) → AllCommitted f cs → is_committed (f c.txn).status ≡ true
    → AllCommitted f (cs ++ c ∷ [])
all_push f [] c all new = (new, tt)
all_push f (x ∷ cs) c all new = (all.0, all_push f cs c all.1 new)

-- a step that sets a transaction which is not committed leaves those that are
stay_set : (v w : View) (t : ℕ) (y : Txn) → w.txns ≡ slice_set v.txns t y → is_committed (txn_at v t).status ≡ false → (u : ℕ)
    → is_committed (txn_at v u).status ≡ true → txn_at w u ≡ txn_at v u
stay_set v w t y set off u ended = elim (cases_eq u t) [
  | inl same ↦ absurd (false≢true (sym off ∙ subst (λ z. is_committed (txn_at v z).status ≡ true) same ended))
  | inr far ↦ at_other v w t u y set far
]

-- each event leaves the committed transactions
pub stays : {sc : Scenario} {n : Node} {v w : View} → Event sc n v w → (u : ℕ) → is_committed (txn_at v u).status ≡ true → txn_at w u ≡ txn_at v u
unfolding did locked shares txn_at aborted begun committed cut
stays {v = v} {w = w} (Begins line e) = stay_set v w line.txn _ (ap txns_of e) (new_off (txn_at v line.txn).status line.new)
stays {v = v} {w = w} (Aborts line e) = stay_set v w line.txn _ (ap txns_of e) (active_off (txn_at v line.txn).status line.active)
stays {v = v} {w = w} (GoesOn line e) = stay_set v w line.txn _ (ap txns_of e) (active_off (txn_at v line.txn).status line.runs.active)
stays {v = v} {w = w} (Gets line e) = stay_set v w line.txn _ (ap txns_of e) (active_off (txn_at v line.txn).status line.runs.active)
stays {v = v} {w = w} (SumsUp line e) = stay_set v w line.txn _ (ap txns_of e) (active_off (txn_at v line.txn).status line.runs.active)
stays {v = v} {w = w} (Writes line e) = stay_set v w line.txn _ (ap txns_of e) (active_off (txn_at v line.txn).status line.runs.active)
stays {v = v} {w = w} (Inserts line e) = stay_set v w line.txn _ (ap txns_of e) (active_off (txn_at v line.txn).status line.runs.active)
stays {v = v} {w = w} (Splits line e) = λ u _. at_same v w u (ap txns_of e)
stays {v = v} {w = w} (Commits line e) = stay_set v w line.txn _ (ap txns_of e) (active_off (txn_at v line.txn).status line.runs.active)
stays {v = v} {w = w} e = λ u _. at_same v w u (quiet_of e refl).txns

-- a commit at n alone: the list of n has it
one_at : (x : Txn) (n : Node) (c : CommitRecord) → x.node ≡ n → (if same_node x.node n then c ∷ [] else []) ≡ c ∷ []
one_at x A c e = ap (λ m. if same_node m A then c ∷ [] else []) e
one_at x B c e = ap (λ m. if same_node m B then c ∷ [] else []) e

-- and the list of the other node has nothing
pub none_at : (x : Txn) (n : Node) (c : CommitRecord) → x.node ≡ n → (if same_node x.node (other n) then c ∷ [] else []) ≡ []
none_at x A c e = ap (λ m. if same_node m B then c ∷ [] else []) e
none_at x B c e = ap (λ m. if same_node m A then c ∷ [] else []) e

-- a commit of t at n: one more there, and none at the other node
module _ (sc : Scenario) (n : Node) (v : View) (t : ℕ) (runs : Runs sc n t effect.Commits v) (all : AllCommitted (txn_at v) v.commits) where
  -- the record of the commit
  abbrev c : CommitRecord
  c = record { txn = t; done = (txn_at v t).done + 1 }

  -- the view after it
  abbrev w : View
  w = committed t v

  -- t after it
  now : txn_at w t ≡ record (txn_at v t) { status = Committed; rows = []; done = (txn_at v t).done + 1 }
  now = at_self v w t _ (committed_txns t v) runs.active

  -- those that have committed before stay as they are
  still : (u : ℕ) → is_committed (txn_at v u).status ≡ true → txn_at w u ≡ txn_at v u
  still = stay_set v w t _ (committed_txns t v) (active_off (txn_at v t).status runs.active)

  -- the list of a node has the new commit at its end, or stays
  at_parts : (i : Node) → at_of i (txn_at w) w.commits ≡ at_of i (txn_at v) v.commits ++ (if same_node (txn_at w t).node i then c ∷ [] else [])
  at_parts i =
      ap (at_of i (txn_at w)) (committed_list t v) ∙ filter-append (λ (d : CommitRecord). same_node (txn_at w d.txn).node i) v.commits (c ∷ [])
      ∙ ap (λ xs. xs ++ at_of i (txn_at w) (c ∷ [])) (at_same_txns i (txn_at v) (txn_at w) v.commits still all)

  -- at n it has it
  here_more : at_of n (txn_at w) w.commits ≡ at_of n (txn_at v) v.commits ++ c ∷ []
  here_more = at_parts n ∙ ap (λ xs. at_of n (txn_at v) v.commits ++ xs) (one_at (txn_at w t) n c (ap (λ (x : Txn). x.node) now ∙ runs.here))

  -- at the other node it stays
  there_same : at_of (other n) (txn_at w) w.commits ≡ at_of (other n) (txn_at v) v.commits
  there_same = at_parts (other n) ∙ ap (λ xs. at_of (other n) (txn_at v) v.commits ++ xs) (none_at (txn_at w t) n c (ap (λ (x : Txn). x.node) now ∙ runs.here))
      ∙ append-nil (at_of (other n) (txn_at v) v.commits)

-- each commit after an event is of a committed transaction
pub all_after : {sc : Scenario} {n : Node} (v w : View) → Event sc n v w → AllCommitted (txn_at v) v.commits → AllCommitted (txn_at w) w.commits
all_after {sc = sc} {n = n} v w (Commits line e) all =
    let z = committed line.txn v in
    let c : CommitRecord = record { txn = line.txn; done = (txn_at v line.txn).done + 1 } in
    subst (λ (x : View). AllCommitted (txn_at x) x.commits) (sym e) (subst (AllCommitted (txn_at z)) (sym (committed_list line.txn v))
    (all_push (txn_at z) v.commits c (all_same_txns (txn_at v) (txn_at z) v.commits (still sc n v line.txn line.runs all) all)
    (ap (λ (x : Txn). is_committed x.status) (now sc n v line.txn line.runs all))))
all_after {sc = sc} {n = n} v w (Starts line e) all =
    let q = quiet_of {sc = sc} {n = n} (Starts line e) refl in
    subst (AllCommitted (txn_at w)) (sym q.commits) (all_same_txns (txn_at v) (txn_at w) v.commits (λ u _. at_same v w u q.txns) all)
all_after v w e all = subst (AllCommitted (txn_at w)) (sym (keeps_commits e refl).0) (all_same_txns (txn_at v) (txn_at w) v.commits (stays e) all)

-- a source, or a node that was one (in version 1, which has one migration)
abbrev is_or_was_source : NodeMode → Bool
is_or_was_source Empty = true
is_or_was_source SInit = true
is_or_was_source SDual = true
is_or_was_source SFinish = true
is_or_was_source m = false

-- where somebody runs at such a node it is a source
leaving_source : (m : NodeMode) → is_or_was_source m ≡ true → is_idle m ≡ false → is_source m ≡ true
leaving_source Empty h busy = absurd (false≢true (sym busy))
leaving_source SInit h busy = refl
leaving_source SDual h busy = refl
leaving_source SFinish h busy = refl
leaving_source Normal h busy = absurd (false≢true h)
leaving_source DInit h busy = absurd (false≢true h)
leaving_source DDual h busy = absurd (false≢true h)
leaving_source DFinish h busy = absurd (false≢true h)

-- how an event that is neither a commit nor a start changes a mode: not at all, or the mode was not Normal, and if it was leaving, it
-- still is
Onward : NodeMode → NodeMode → Type 0
Onward old new = (new ≡ old) ⊎ ((old ≡ Normal → ⊥) × (is_or_was_source old ≡ true → is_or_was_source new ≡ true))

-- so where the old mode is neither Normal nor leaving
other_mode : (old new m : NodeMode) → old ≡ m → (m ≡ Normal → ⊥) → is_or_was_source m ≡ false → Onward old new
unfolding Onward
other_mode old new m is far off = inr (λ h. far (sym is ∙ h), λ h. absurd (false≢true (sym (ap is_or_was_source is ∙ off) ∙ h)))

-- and where the old mode is not Normal and the new one is leaving
next_mode : (old new m : NodeMode) → old ≡ m → (m ≡ Normal → ⊥) → is_or_was_source new ≡ true → Onward old new
unfolding Onward
next_mode old new m is far on = inr (λ h. far (sym is ∙ h), λ _. on)

-- so changes the mode of the node that acts where the other one is no source
onward : {sc : Scenario} {n : Node} (v w : View) (e : Event sc n v w) → sorts e ≡ false → Inv v → is_source v.them.mode ≡ false → Onward v.me.mode w.me.mode
unfolding asks leaves cut locked Onward
onward v w (Commits line e) h i off = absurd (false≢true (sym h))
onward v w (Starts line e) h i off = absurd (false≢true (sym h))
onward v w (GotWire line e) h i off = absurd (false≢true (sym off ∙ ap is_source (wire_front v line.lows line.after line.front line.empty i.roles).1))
onward v w (GotReady line e) h i off = next_mode v.me.mode w.me.mode SInit line.mode (λ b. cc) (ap (λ (x : View). is_or_was_source x.me.mode) e)
onward v w (GotDual line e) h i off = other_mode v.me.mode w.me.mode DInit line.mode (λ b. cc) refl
onward v w (GotLast line e) h i off = other_mode v.me.mode w.me.mode DFinish line.mode (λ b. cc) refl
onward v w (GotFinish line e) h i off = other_mode v.me.mode w.me.mode DDual line.mode (λ b. cc) refl
onward v w (GotAll line e) h i off = other_mode v.me.mode w.me.mode DDual line.mode (λ b. cc) refl
onward v w (GotDone line e) h i off = next_mode v.me.mode w.me.mode SFinish line.mode (λ b. cc) (ap (λ (x : View). is_or_was_source x.me.mode) e)
onward v w (Finishes line e) h i off = next_mode v.me.mode w.me.mode SDual line.dual (λ b. cc) (ap (λ (x : View). is_or_was_source x.me.mode) e)
onward v w (Splits line e) h i off = inl (ap (λ (x : View). x.me.mode) e)
onward v w (Asks line e) h i off = inl (ap (λ (x : View). x.me.mode) e)
onward v w (IsStale line e) h i off = inl (ap (λ (x : View). x.me.mode) e)
onward v w (Gives line e) h i off = inl (ap (λ (x : View). x.me.mode) e)
onward v w (GotPage line e) h i off = inl (ap (λ (x : View). x.me.mode) e)
onward v w (Pushes line e) h i off = inl (ap (λ (x : View). x.me.mode) e)
onward v w e h i off = inl (in_place_of e refl).mode

-- in version 1, by A's mode: before the start all commits are at A; since then those at A are the first, and those at B the others
pub data ByNode (mode : NodeMode) (f : ℕ → Txn) (cs : List CommitRecord) (o : Sorted) : Type 0 where
  Before : mode ≡ Normal → o.first ≡ [] → o.later ≡ at_of A f cs → at_of B f cs ≡ [] → ByNode mode f cs o
  Since : is_or_was_source mode ≡ true → o.first ≡ at_of A f cs → o.later ≡ at_of B f cs → ByNode mode f cs o

-- an event that is neither a commit nor a start keeps it
by_same : (old new : NodeMode) (f g : ℕ → Txn) (cs ds : List CommitRecord) (o : Sorted) → Onward old new → ds ≡ cs
    → ((u : ℕ) → is_committed (f u).status ≡ true → g u ≡ f u) → AllCommitted f cs → ByNode old f cs o → ByNode new g ds o
unfolding Onward
by_same old new f g cs ds o on commits same all (Before normal a b c) =
    let x = at_same_txns A f g cs same all in
    let y = at_same_txns B f g cs same all in
    elim on [
      | inl is ↦ subst (λ xs. ByNode new g xs o) (sym commits) (Before (is ∙ normal) a (b ∙ sym x) (y ∙ c))
      | inr k ↦ absurd (k.0 normal)
    ]
by_same old new f g cs ds o on commits same all (Since leaving a b) =
    let x = at_same_txns A f g cs same all in
    let y = at_same_txns B f g cs same all in
    let after : is_or_was_source new ≡ true = elim on [ inl is ↦ ap is_or_was_source is ∙ leaving | inr k ↦ k.1 leaving ] in
    subst (λ xs. ByNode new g xs o) (sym commits) (Since after (a ∙ sym x) (b ∙ sym y))

-- an event at A keeps it
pub a_event : (sc : Scenario) (v w : View) (lows : List ℕ) (o : Sorted) (e : Event sc A v w) → Kept sc A v lows → is_source v.them.mode ≡ false
    → AllCommitted (txn_at v) v.commits → ByNode v.me.mode (txn_at v) v.commits o → ByNode w.me.mode (txn_at w) w.commits (sorted_after v w o)
unfolding committed
a_event sc v w lows o (Commits line e) k off all (Before normal a b d) =
    let c : CommitRecord = record { txn = line.txn; done = (txn_at v line.txn).done + 1 } in
    let z = committed line.txn v in
    subst (λ (x : View). ByNode x.me.mode (txn_at x) x.commits (sorted_after v x o)) (sym e)
    (subst (ByNode v.me.mode (txn_at z) z.commits) (sym (sorted_last (is_source v.me.mode) v.commits c o (ap is_source normal)))
    (Before normal a (ap (λ xs. xs ++ c ∷ []) b ∙ sym (here_more sc A v line.txn line.runs all)) (there_same sc A v line.txn line.runs all ∙ d)))
a_event sc v w lows o (Commits line e) k off all (Since leaving a b) =
    let c : CommitRecord = record { txn = line.txn; done = (txn_at v line.txn).done + 1 } in
    let z = committed line.txn v in
    let source = leaving_source v.me.mode leaving (k.mine.busy line.txn (is_at line.runs)) in
    subst (λ (x : View). ByNode x.me.mode (txn_at x) x.commits (sorted_after v x o)) (sym e)
    (subst (ByNode v.me.mode (txn_at z) z.commits) (sym (sorted_first (is_source v.me.mode) v.commits c o source))
    (Since leaving (ap (λ xs. xs ++ c ∷ []) a ∙ sym (here_more sc A v line.txn line.runs all)) (b ∙ sym (there_same sc A v line.txn line.runs all))))
a_event sc v w lows o (Starts line e) k off all (Before n a b d) =
    let q = quiet_of {sc = sc} {n = A} (Starts line e) refl in
    let still : (u : ℕ) → is_committed (txn_at v u).status ≡ true → txn_at w u ≡ txn_at v u = λ u _. at_same v w u q.txns in
    let x = at_same_txns A (txn_at v) (txn_at w) v.commits still all in
    let y = at_same_txns B (txn_at v) (txn_at w) v.commits still all in
    subst (ByNode w.me.mode (txn_at w) w.commits) (sym (then_starts v w o line.normal (ap (λ (z : View). is_source z.me.mode) e)))
    (subst (λ cs. ByNode w.me.mode (txn_at w) cs (record { first = o.first ++ o.later; later = [] })) (sym q.commits)
    (Since (ap (λ (z : View). is_or_was_source z.me.mode) e) (ap (λ xs. xs ++ o.later) a ∙ b ∙ sym x) (sym d ∙ sym y)))
a_event sc v w lows o (Starts line e) k off all (Since leaving a b) = absurd (false≢true (sym (ap is_or_was_source line.normal) ∙ leaving))
a_event sc v w lows o e k off all by =
    subst (ByNode w.me.mode (txn_at w) w.commits) (sym (then_still o e refl))
    (by_same v.me.mode w.me.mode (txn_at v) (txn_at w) v.commits w.commits o (onward v w e refl k.inv off) (keeps_commits e refl).0 (stays e) all by)

-- an event at B, which is no source, keeps it
pub b_event : (sc : Scenario) (v w : View) (lows : List ℕ) (o : Sorted) (e : Event sc B v w) → sc.version ≡ One → Kept sc B v lows → is_source v.me.mode ≡ false
    → w.them ≡ v.them → AllCommitted (txn_at v) v.commits → ByNode v.them.mode (txn_at v) v.commits o
    → ByNode w.them.mode (txn_at w) w.commits (sorted_after v w o)
unfolding committed Onward
b_event sc v w lows o (Commits line e) one k off them all (Before normal a b d) =
    let i = turned_inv v k.inv in
    let idle = normal_other (turned v) i.roles (ap may_split normal) in
    absurd (false≢true (sym (k.mine.busy line.txn (is_at line.runs)) ∙ idle.0))
b_event sc v w lows o (Commits line e) one k off them all (Since leaving a b) =
    let c : CommitRecord = record { txn = line.txn; done = (txn_at v line.txn).done + 1 } in
    let z = committed line.txn v in
    subst (λ (x : View). ByNode x.them.mode (txn_at x) x.commits (sorted_after v x o)) (sym e)
    (subst (ByNode v.them.mode (txn_at z) z.commits) (sym (sorted_last (is_source v.me.mode) v.commits c o off))
    (Since leaving (a ∙ sym (there_same sc B v line.txn line.runs all)) (ap (λ xs. xs ++ c ∷ []) b ∙ sym (here_more sc B v line.txn line.runs all))))
b_event sc v w lows o (Starts line e) one k off them all by = let h : B ≡ A = line.at_a one in absurd cc
b_event sc v w lows o e one k off them all by =
    subst (ByNode w.them.mode (txn_at w) w.commits) (sym (then_still o e refl))
    (by_same v.them.mode w.them.mode (txn_at v) (txn_at w) v.commits w.commits o (inl (ap (λ (x : NodeState). x.mode) them)) (keeps_commits e refl).0 (stays e)
    all by)
