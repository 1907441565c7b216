-- Which of a node's commits are past: where transactions may begin at the other node, it has none since the last start.
use Rattle.std.proofs.Common.{List, [], ap, arith, false, inl, inr, refl, subst, sym, true, ℕ, if◌then◌else◌, ◌++◌, ◌+◌, ◌∙◌, ◌∷◌, ◌≡◌}
use Rattle.std.specs.Prelude.{◌⊎◌, Bool, Some, None, slice_set, not, ◌||◌}
use Rattle.std.proofs.lemmas.Bool.{cases_Bool, cases_eq, cond_both, false≢true, false_from_ne_true, ne_eqb}
use Rattle.zy_isa.specs.Scenario.{Scenario}
use Rattle.zy_isa.specs.declared.node.Node.{Node}
use Rattle.zy_isa.specs.declared.node.Node.TheVariants.{A, B}
use Rattle.zy_model.specs.Families.{is_destination, is_home, is_idle, is_source}
use Rattle.zy_model.specs.Table.{home_of, is_waiting}
use Rattle.zy_model.specs.declared.mode.NodeMode.{NodeMode}
use Rattle.zy_model.specs.declared.mode.NodeMode.TheVariants.{Empty, Normal, SInit, SDual, SFinish, DInit, DDual, DFinish}
use Rattle.zy_table.specs.Change.{aborted, asks, begun, committed, cut, did, leaves, locked, shares, txn_at}
use Rattle.zy_table.specs.Client.{is_active, is_new}
use Rattle.zy_table.specs.Database.{Map}
use Rattle.zy_table.specs.declared.entry.CommitRecord.{CommitRecord}
use Rattle.zy_table.specs.declared.status.Status.{Status}
use Rattle.zy_table.specs.Run.{program_of}
use Rattle.zy_table.specs.Serial.{Registers, alone, is_committed, serial, times_listed}
use Rattle.zy_table.specs.State.{Message, NodeState, Txn, View, other}
use Rattle.zy_laws.specs.SourceFirst.{Sorted}
use Rattle.zy_laws.proofs.counts.Fates.{txns_of}
use Rattle.zy_laws.proofs.owner.Phases.{Phase, Is, Resting, Wire_sent, Ready_sent, Dual_sent, Both_sent, In_dual, Finish_sent, In_finish, Done_sent}
use Rattle.zy_laws.proofs.owner.Roles.{Destination, Roles, Source}
use Rattle.zy_laws.proofs.sources.Aside.{registers_parts}
use Rattle.zy_laws.proofs.sources.Beginnings.{back, back_begun, begins, no_init, unready}
use Rattle.zy_laws.proofs.sources.Halves.{Divided}
use Rattle.zy_laws.proofs.sources.Histories.{was_new}
use Rattle.zy_laws.proofs.sources.Places.{NoneIs, listed_both, none_listed}
use Rattle.zy_laws.proofs.sources.Sorting.{sorted_after, sorted_first, sorted_last, sorts, then_starts, then_still}
use Rattle.zy_laws.proofs.walk.Conditions.{Committing, is_at}
use Rattle.zy_laws.proofs.walk.Events.{Event, Begins, Aborts, GoesOn, Gets, SumsUp, Writes, Inserts, Splits, Commits, Asks, Starts, GotWire, GotReady}
use Rattle.zy_laws.proofs.walk.Events.{GotDual, IsStale, Gives, GotPage, GotLast, GotFinish, GotAll, GotDone, Finishes, Pushes}
use Rattle.zy_laws.proofs.walk.Kinds.{in_place_of, quiet_of}
use Rattle.zy_laws.proofs.walk.Txns.{IsAt, active_off, active_old, at_either, at_other, at_same, not_both_nodes, not_new}

-- a node in this mode has none of its commits among those since the last start
abbrev pub is_past : NodeMode → Bool
is_past Normal = false
is_past DDual = false
is_past DFinish = false
is_past m = true

-- transactions begin at a node in this mode, or may
abbrev pub may_begin : NodeMode → Bool
may_begin m = is_home m || is_destination m

-- where transactions may begin at the destination, the source's commits are past, and who runs there runs at a source
source_past : {src dst : NodeState} {out back : List Message} → Phase src dst out back → may_begin dst.mode ≡ true → is_source src.mode ≡ true
source_past (Is Resting at) h = absurd (false≢true (sym (ap may_begin at.destination) ∙ h))
source_past (Is Wire_sent at) h = ap is_source at.source
source_past (Is Ready_sent at) h = ap is_source at.source
source_past (Is Dual_sent at) h = ap is_source at.source
source_past (Is Both_sent at) h = ap is_source at.source
source_past (Is In_dual at) h = ap is_source at.source
source_past (Is Finish_sent at) h = ap is_source at.source
source_past (Is In_finish at) h = ap is_source at.source
source_past (Is Done_sent at) h = ap is_source at.source

-- where they may begin at the source, the destination's are past, and it is idle, or the source is in SInit
destination_past : {src dst : NodeState} {out back : List Message} → Phase src dst out back → may_begin src.mode ≡ true
    → (is_past dst.mode ≡ true) × ((is_idle dst.mode ≡ true) ⊎ (src.mode ≡ SInit))
destination_past (Is Resting at) h = (ap is_past at.destination, inl (ap is_idle at.destination))
destination_past (Is Wire_sent at) h = (ap is_past at.destination, inr at.source)
destination_past (Is Ready_sent at) h = (ap is_past at.destination, inr at.source)
destination_past (Is Dual_sent at) h = absurd (false≢true (sym (ap may_begin at.source) ∙ h))
destination_past (Is Both_sent at) h = absurd (false≢true (sym (ap may_begin at.source) ∙ h))
destination_past (Is In_dual at) h = absurd (false≢true (sym (ap may_begin at.source) ∙ h))
destination_past (Is Finish_sent at) h = absurd (false≢true (sym (ap may_begin at.source) ∙ h))
destination_past (Is In_finish at) h = absurd (false≢true (sym (ap may_begin at.source) ∙ h))
destination_past (Is Done_sent at) h = absurd (false≢true (sym (ap may_begin at.source) ∙ h))

-- a source's commits are past
past_source : (m : NodeMode) → is_source m ≡ true → is_past m ≡ true
past_source SInit h = refl
past_source SDual h = refl
past_source SFinish h = refl
past_source m h = absurd (false≢true h)

-- a mode that runs transactions and is no source's has commits since the last start
not_past : (m : NodeMode) → is_source m ≡ false → is_idle m ≡ false → is_waiting m ≡ false → is_past m ≡ false
not_past Normal a b c = refl
not_past DDual a b c = refl
not_past DFinish a b c = refl
not_past DInit a b c = absurd (false≢true (sym c))
not_past Empty a b c = absurd (false≢true (sym b))
not_past m a b c = absurd (false≢true (sym a))

-- where transactions may begin at the other node, my commits are past
pub beside_past : (v : View) → Roles v → may_begin v.them.mode ≡ true → is_past v.me.mode ≡ true
beside_past v (Source ph) h = past_source v.me.mode (source_past ph h)
beside_past v (Destination ph) h = (destination_past ph h).0

-- and where I run some and the other is not in SInit, I am a source
pub beside_source : (v : View) → Roles v → may_begin v.them.mode ≡ true → is_idle v.me.mode ≡ false → (v.them.mode ≡ SInit → ⊥) → is_source v.me.mode ≡ true
beside_source v (Source ph) h busy init = source_past ph h
beside_source v (Destination ph) h busy init = elim (destination_past ph h).1 [
  | inl idle ↦ absurd (false≢true (sym busy ∙ idle))
  | inr is ↦ absurd (init is)
]

-- after an event that is neither a commit nor a start a node's commits are past only if they were
past_after : {sc : Scenario} {n : Node} {v w : View} (e : Event sc n v w) → sorts e ≡ false → is_past w.me.mode ≡ true → is_past v.me.mode ≡ true
unfolding asks leaves cut locked
past_after (Commits line e) h s = absurd (false≢true (sym h))
past_after (Starts line e) h s = absurd (false≢true (sym h))
past_after (GotWire line e) h s = ap is_past line.empty
past_after (GotReady line e) h s = ap is_past line.mode
past_after (GotDual line e) h s = absurd (false≢true (sym (ap (λ (x : View). is_past x.me.mode) e) ∙ s))
past_after (GotLast line e) h s = absurd (false≢true (sym (ap (λ (x : View). is_past x.me.mode) e) ∙ s))
past_after (GotFinish line e) h s = absurd (false≢true (sym (ap (λ (x : View). is_past x.me.mode) e) ∙ s))
past_after (GotAll line e) h s = absurd (false≢true (sym (ap (λ (x : View). is_past x.me.mode) e) ∙ s))
past_after (GotDone line e) h s = ap is_past line.mode
past_after (Finishes line e) h s = ap is_past line.dual
past_after (Splits line e) h s = sym (ap (λ (x : View). is_past x.me.mode) e) ∙ s
past_after (Asks line e) h s = sym (ap (λ (x : View). is_past x.me.mode) e) ∙ s
past_after (IsStale line e) h s = sym (ap (λ (x : View). is_past x.me.mode) e) ∙ s
past_after (Gives line e) h s = sym (ap (λ (x : View). is_past x.me.mode) e) ∙ s
past_after (GotPage line e) h s = sym (ap (λ (x : View). is_past x.me.mode) e) ∙ s
past_after (Pushes line e) h s = sym (ap (λ (x : View). is_past x.me.mode) e) ∙ s
past_after e h s = sym (ap is_past (in_place_of e refl).mode) ∙ s

-- a step that sets t, which was active, leaves each transaction that was not
touch_set : (v w : View) (t : ℕ) (y : Txn) → w.txns ≡ slice_set v.txns t y → is_active (txn_at v t).status ≡ true → (x : ℕ)
    → (is_active (txn_at v x).status ≡ true) ⊎ (txn_at w x ≡ txn_at v x)
touch_set v w t y set active x = elim (cases_eq x t) [
  | inl same ↦ inl (ap (λ z. is_active (txn_at v z).status) same ∙ active)
  | inr far ↦ inr (at_other v w t x y set far)
]

-- an event that is no begin leaves each transaction that is not active
pub touch : {sc : Scenario} {n : Node} {v w : View} (e : Event sc n v w) → begins e ≡ false → (x : ℕ)
    → (is_active (txn_at v x).status ≡ true) ⊎ (txn_at w x ≡ txn_at v x)
unfolding did locked shares txn_at aborted begun committed cut
touch (Begins line e) h = absurd (false≢true (sym h))
touch {v = v} {w = w} (Aborts line e) h = touch_set v w line.txn _ (ap txns_of e) line.active
touch {v = v} {w = w} (GoesOn line e) h = touch_set v w line.txn _ (ap txns_of e) line.runs.active
touch {v = v} {w = w} (Gets line e) h = touch_set v w line.txn _ (ap txns_of e) line.runs.active
touch {v = v} {w = w} (SumsUp line e) h = touch_set v w line.txn _ (ap txns_of e) line.runs.active
touch {v = v} {w = w} (Writes line e) h = touch_set v w line.txn _ (ap txns_of e) line.runs.active
touch {v = v} {w = w} (Inserts line e) h = touch_set v w line.txn _ (ap txns_of e) line.runs.active
touch {v = v} {w = w} (Splits line e) h = λ x. inr (at_same v w x (ap txns_of e))
touch {v = v} {w = w} (Commits line e) h = touch_set v w line.txn _ (ap txns_of e) line.runs.active
touch {v = v} {w = w} e h = λ x. inr (at_same v w x (quiet_of e refl).txns)

-- a begin leaves each transaction but one that was new
pub begun_other : (v w : View) (t : ℕ) (h : Node) → w ≡ begun h t v → (x : ℕ) → (x ≡ t → ⊥) → txn_at w x ≡ txn_at v x
unfolding begun
begun_other v w t h e x far = at_other v w t x _ (ap txns_of e) far

-- a transaction that has begun is not one that is new
pub old_far : (v : View) (t x : ℕ) → is_new (txn_at v t).status ≡ true → is_new (txn_at v x).status ≡ false → x ≡ t → ⊥
old_far v t x new old is = false≢true (sym old ∙ ap (λ z. is_new (txn_at v z).status) is ∙ new)

-- each event leaves a transaction that has ended
pub left_alone : {sc : Scenario} {n : Node} {v w : View} (e : Event sc n v w) → (x : ℕ) → is_new (txn_at v x).status ≡ false
    → is_active (txn_at v x).status ≡ false → txn_at w x ≡ txn_at v x
left_alone {v = v} {w = w} (Begins line e) x old off = begun_other v w line.txn line.home e x (old_far v line.txn x line.new old)
left_alone e x old off = elim (touch e refl x) [ inl active ↦ absurd (false≢true (sym off ∙ active)) | inr same ↦ same ]

-- a step that sets t and leaves its node leaves the node of each
node_set : (v w : View) (t : ℕ) (y : Txn) → w.txns ≡ slice_set v.txns t y → y.node ≡ (txn_at v t).node → (x : ℕ) → (txn_at w x).node ≡ (txn_at v x).node
node_set v w t y set same x = elim (cases_eq x t) [
  | inl is ↦ subst (λ z. (txn_at w z).node ≡ (txn_at v z).node) (sym is) (elim (at_either v w t y set) [
    | inl now ↦ ap (λ (z : Txn). z.node) now ∙ same
    | inr old ↦ ap (λ (z : Txn). z.node) old
  ])
  | inr far ↦ ap (λ (z : Txn). z.node) (at_other v w t x y set far)
]

-- a transaction that has begun stays at its node
pub node_stays : {sc : Scenario} {n : Node} {v w : View} → Event sc n v w → (x : ℕ) → is_new (txn_at v x).status ≡ false → (txn_at w x).node ≡ (txn_at v x).node
unfolding did locked shares txn_at aborted begun committed cut
node_stays {v = v} {w = w} (Begins line e) = λ x old. ap (λ (z : Txn). z.node) (at_other v w line.txn x _ (ap txns_of e)
    (λ is. false≢true (sym old ∙ ap (λ z. is_new (txn_at v z).status) is ∙ line.new)))
node_stays {v = v} {w = w} (Aborts line e) = λ x _. node_set v w line.txn _ (ap txns_of e) refl x
node_stays {v = v} {w = w} (GoesOn line e) = λ x _. node_set v w line.txn _ (ap txns_of e) refl x
node_stays {v = v} {w = w} (Gets line e) = λ x _. node_set v w line.txn _ (ap txns_of e) refl x
node_stays {v = v} {w = w} (SumsUp line e) = λ x _. node_set v w line.txn _ (ap txns_of e) refl x
node_stays {v = v} {w = w} (Writes line e) = λ x _. node_set v w line.txn _ (ap txns_of e) refl x
node_stays {v = v} {w = w} (Inserts line e) = λ x _. node_set v w line.txn _ (ap txns_of e) refl x
node_stays {v = v} {w = w} (Splits line e) = λ x _. ap (λ (z : Txn). z.node) (at_same v w x (ap txns_of e))
node_stays {v = v} {w = w} (Commits line e) = λ x _. node_set v w line.txn _ (ap txns_of e) refl x
node_stays {v = v} {w = w} e = λ x _. ap (λ (z : Txn). z.node) (at_same v w x (quiet_of e refl).txns)

-- a step that sets a transaction which is not committed then makes none committed
ended_set : (v w : View) (t : ℕ) (y : Txn) → w.txns ≡ slice_set v.txns t y → is_committed y.status ≡ false → (x : ℕ) → is_committed (txn_at w x).status ≡ true
    → txn_at w x ≡ txn_at v x
ended_set v w t y set off x ended = elim (cases_eq x t) [
  | inl is ↦ elim (at_either v w t y set) [
    | inl now ↦ absurd (false≢true (sym off ∙ sym (ap (λ (z : Txn). is_committed z.status) (ap (txn_at w) is ∙ now)) ∙ ended))
    | inr old ↦ ap (txn_at w) is ∙ old ∙ ap (txn_at v) (sym is)
  ]
  | inr far ↦ at_other v w t x y set far
]

-- whether the event is a commit
abbrev pub commits : {sc : Scenario} {n : Node} {v w : View} → Event sc n v w → Bool
commits (Commits line e) = true
commits e = false

-- after an event that is no commit whoever is committed was
pub was_ended : {sc : Scenario} {n : Node} {v w : View} (e : Event sc n v w) → commits e ≡ false → (x : ℕ) → is_committed (txn_at w x).status ≡ true
    → txn_at w x ≡ txn_at v x
unfolding did locked shares txn_at aborted begun committed cut
was_ended (Commits line e) h = absurd (false≢true (sym h))
was_ended {v = v} {w = w} (Begins line e) h = ended_set v w line.txn _ (ap txns_of e) refl
was_ended {v = v} {w = w} (Aborts line e) h = ended_set v w line.txn _ (ap txns_of e) refl
was_ended {v = v} {w = w} (GoesOn line e) h = ended_set v w line.txn _ (ap txns_of e) (active_off (txn_at v line.txn).status line.runs.active)
was_ended {v = v} {w = w} (Gets line e) h = ended_set v w line.txn _ (ap txns_of e) (active_off (txn_at v line.txn).status line.runs.active)
was_ended {v = v} {w = w} (SumsUp line e) h = ended_set v w line.txn _ (ap txns_of e) (active_off (txn_at v line.txn).status line.runs.active)
was_ended {v = v} {w = w} (Writes line e) h = ended_set v w line.txn _ (ap txns_of e) (active_off (txn_at v line.txn).status line.runs.active)
was_ended {v = v} {w = w} (Inserts line e) h = ended_set v w line.txn _ (ap txns_of e) (active_off (txn_at v line.txn).status line.runs.active)
was_ended {v = v} {w = w} (Splits line e) h = λ x _. at_same v w x (ap txns_of e)
was_ended {v = v} {w = w} e h = λ x _. at_same v w x (quiet_of e refl).txns

-- a new transaction stays new after an event that is no begin
pub new_stays : {sc : Scenario} {n : Node} {v w : View} (e : Event sc n v w) → begins e ≡ false → (x : ℕ) → is_new (txn_at v x).status ≡ true
    → is_new (txn_at w x).status ≡ true
new_stays {v = v} e h x new = elim (touch e h x) [
  | inl active ↦ absurd (false≢true (sym (not_new (txn_at v x).status new) ∙ active))
  | inr same ↦ ap (λ (z : Txn). is_new z.status) same ∙ new
]

-- each event leaves one begun that has begun
pub old_stays : {sc : Scenario} {n : Node} {v w : View} → Event sc n v w → (x : ℕ) → is_new (txn_at v x).status ≡ false → is_new (txn_at w x).status ≡ false
old_stays e x old = false_from_ne_true _ (λ new. false≢true (sym old ∙ was_new e x new))

-- a mode is none that is idle or waits and a home, too
home_busy : (m : NodeMode) → (is_idle m ≡ true) ⊎ (is_waiting m ≡ true) → is_home m ≡ false
home_busy Normal (inl h) = absurd (false≢true h)
home_busy Normal (inr h) = absurd (false≢true h)
home_busy SInit (inl h) = absurd (false≢true h)
home_busy SInit (inr h) = absurd (false≢true h)
home_busy m h = refl

-- where the first node is a home, transactions begin there
home_first : (a b : NodeMode) (h : Node) → home_of a b ≡ Some h → is_home a ≡ true → h ≡ A
home_first a b h is at =
    let e : Some h ≡ Some A = sym is ∙ ap (λ x. if x then Some A else if is_home b then Some B else if is_destination a then Some A
    else if is_destination b then Some B else None) at in cc

-- where only the second one is, there
home_second : (a b : NodeMode) (h : Node) → home_of a b ≡ Some h → is_home a ≡ false → is_home b ≡ true → h ≡ B
home_second a b h is off at =
    let e : Some h ≡ Some B = sym is ∙ ap (λ x. if x then Some A else if is_home b then Some B else if is_destination a then Some A
    else if is_destination b then Some B else None) off
    ∙ ap (λ x. if x then Some B else if is_destination a then Some A else if is_destination b then Some B else None) at in cc

-- the second of two tests is enough
may_second : (a b : Bool) → b ≡ true → (a || b) ≡ true
may_second true b h = refl
may_second false b h = h

-- where transactions begin they may begin
pub home_may : (a b : NodeMode) (h : Node) → home_of a b ≡ Some h → (h ≡ A → may_begin a ≡ true) × (h ≡ B → may_begin b ≡ true)
home_may a b h =
    cond_both (is_home a) _ _ (λ o. o ≡ Some h → (h ≡ A → may_begin a ≡ true) × (h ≡ B → may_begin b ≡ true))
    (λ r e. (λ _. ap (λ x. x || is_destination a) r, λ f. cc))
    (λ _. cond_both (is_home b) _ _ (λ o. o ≡ Some h → (h ≡ A → may_begin a ≡ true) × (h ≡ B → may_begin b ≡ true))
    (λ r e. (λ f. cc, λ _. ap (λ x. x || is_destination b) r))
    (λ _. cond_both (is_destination a) _ _ (λ o. o ≡ Some h → (h ≡ A → may_begin a ≡ true) × (h ≡ B → may_begin b ≡ true))
    (λ r e. (λ _. may_second (is_home a) (is_destination a) r, λ f. cc))
    (λ _. cond_both (is_destination b) (Some B) None (λ o. o ≡ Some h → (h ≡ A → may_begin a ≡ true) × (h ≡ B → may_begin b ≡ true))
    (λ r e. (λ f. cc, λ _. may_second (is_home b) (is_destination b) r)) (λ _ e. cc))))

-- of the sorted commits, those of transaction t at a node: none is among those since the last start where the node's are past; and nobody
-- runs beside a node in SInit
pub record Base (t : ℕ) (n : Node) (v : View) (o : Sorted) : Type 0 where
  pub alone_mine : v.them.mode ≡ SInit → (x : ℕ) → IsAt v x n → ⊥
  pub alone_theirs : v.me.mode ≡ SInit → (x : ℕ) → IsAt v x (other n) → ⊥
  pub past_mine : is_past v.me.mode ≡ true → is_committed (txn_at v t).status ≡ true → (txn_at v t).node ≡ n → times_listed t o.later ≡ 0
  pub past_theirs : is_past v.them.mode ≡ true → is_committed (txn_at v t).status ≡ true → (txn_at v t).node ≡ other n → times_listed t o.later ≡ 0

-- who is not committed is not listed
all_ended : (sc : Scenario) (f : ℕ → Txn) (m : Map) (cs : List CommitRecord) → Registers sc f m cs → NoneIs (λ x. not (is_committed x)) f cs
all_ended sc f m [] h = tt
all_ended sc f m (c ∷ cs) h = (ap not h.0.0, all_ended sc f (alone m (program_of sc c.txn) c.done).map cs h.1)

-- and so in neither list
pub unlisted : (sc : Scenario) (f : ℕ → Txn) (m : Map) (o : Sorted) (t : ℕ) → Registers sc f m (o.first ++ o.later) → is_committed (f t).status ≡ false
    → (times_listed t o.first ≡ 0) × (times_listed t o.later ≡ 0)
unlisted sc f m o t r off =
    let parts = registers_parts sc f m o.first o.later r in
    let none : Status → Bool = λ x. not (is_committed x) in (
      none_listed none f t o.first (all_ended sc f m o.first parts.0) (ap not off),
      none_listed none f t o.later (all_ended sc f (serial sc m o.first) o.later parts.1) (ap not off),
    )

-- a commit of another transaction adds nothing
pub listed_more : (x : ℕ) (cs : List CommitRecord) (c : CommitRecord) → (c.txn ≡ x → ⊥) → times_listed x cs ≡ 0 → times_listed x (cs ++ c ∷ []) ≡ 0
listed_more x cs c far none =
    let both = listed_both x cs (c ∷ []) in
    let zero : times_listed x (c ∷ []) ≡ 0 = ap (λ b. (if b then 1 else 0) + 0) (ne_eqb c.txn x far) in
    omega (arith, none, both, zero)

-- a commit keeps the base
module _ (sc : Scenario) (t : ℕ) (n : Node) (v : View) (start : Map) (lows : List ℕ) (o : Sorted) (s : Divided sc n v start lows o)
    (line : Committing sc n v) (b : Base t n v o) where
  -- the view after it
  abbrev z : View
  z = committed line.txn v

  -- the commit as an event
  abbrev event : Event sc n v z
  event = Commits line refl

  -- its record
  abbrev c : CommitRecord
  c = record { txn = line.txn; done = (txn_at v line.txn).done + 1 }

  -- the others stay as they are
  far_same : (x : ℕ) → (x ≡ line.txn → ⊥) → txn_at z x ≡ txn_at v x
  unfolding committed
  far_same x far = at_other v z line.txn x _ refl far

  -- who stands at the other node has not made it
  away : (x : ℕ) → (txn_at v x).node ≡ other n → x ≡ line.txn → ⊥
  away x at is = not_both_nodes n (txn_at v x).node (ap (λ y. (txn_at v y).node) is ∙ line.runs.here) at

  -- the one that has made it was not listed
  made_new : (times_listed line.txn o.first ≡ 0) × (times_listed line.txn o.later ≡ 0)
  made_new = unlisted sc (txn_at v) start o line.txn s.registers (active_off (txn_at v line.txn).status line.runs.active)

  -- whoever is at the other node was there before
  there : (x : ℕ) → (txn_at z x).node ≡ other n → is_committed (txn_at z x).status ≡ true → txn_at z x ≡ txn_at v x
  there x at ended = far_same x (λ is.
      not_both_nodes n (txn_at z x).node (node_stays event x (ap (λ y. is_new (txn_at v y).status) is ∙ active_old (txn_at v line.txn).status line.runs.active)
      ∙ ap (λ y. (txn_at v y).node) is ∙ line.runs.here) at)

  -- nobody runs beside a node in SInit
  alone_me : v.them.mode ≡ SInit → (x : ℕ) → IsAt z x n → ⊥
  alone_me h x a = b.alone_mine h x (back event refl x n a)

  -- nor at the other node
  alone_them : v.me.mode ≡ SInit → (x : ℕ) → IsAt z x (other n) → ⊥
  alone_them h x a = b.alone_theirs h x (back event refl x (other n) a)

  -- at a source
  base_source : is_source v.me.mode ≡ true → Base t n z (record { first = o.first ++ c ∷ []; later = o.later })
  unfolding committed
  base_source source = record {
    alone_mine = alone_me;
    alone_theirs = alone_them;
    past_mine = λ past ended at. elim (cases_eq t line.txn) [
      | inl is ↦ subst (λ y. times_listed y o.later ≡ 0) (sym is) made_new.1
      | inr far ↦ let same = far_same t far in
          b.past_mine past (sym (ap (λ (y : Txn). is_committed y.status) same) ∙ ended) (sym (ap (λ (y : Txn). y.node) same) ∙ at)
    ];
    past_theirs = λ past ended at. let same = there t at ended in
        b.past_theirs past (sym (ap (λ (y : Txn). is_committed y.status) same) ∙ ended) (sym (ap (λ (y : Txn). y.node) same) ∙ at);
  }

  -- elsewhere
  base_last : is_source v.me.mode ≡ false → Base t n z (record { first = o.first; later = o.later ++ c ∷ [] })
  unfolding committed
  base_last off =
      let recent = not_past v.me.mode off (s.kept.mine.busy line.txn (is_at line.runs)) line.runs.begun in
      record {
        alone_mine = alone_me;
        alone_theirs = alone_them;
        past_mine = λ past. absurd (false≢true (sym recent ∙ past));
        past_theirs = λ past ended at.
            let same = there t at ended in
            let here = sym (ap (λ (y : Txn). y.node) same) ∙ at in
            listed_more t o.later c (λ is. away t here (sym is))
            (b.past_theirs past (sym (ap (λ (y : Txn). is_committed y.status) same) ∙ ended) here);
      }

-- each event keeps it
pub base_event : (sc : Scenario) (t : ℕ) (n : Node) (v w : View) (start : Map) (lows : List ℕ) (o : Sorted) → Divided sc n v start lows o
    → (e : Event sc n v w) → w.them ≡ v.them → Base t n v o → Base t n w (sorted_after v w o)
unfolding committed begun
base_event sc t n v w start lows o s (Commits line e) them b =
    let c : CommitRecord = record { txn = line.txn; done = (txn_at v line.txn).done + 1 } in
    subst (λ x. Base t n x (sorted_after v x o)) (sym e) (elim (cases_Bool (is_source v.me.mode)) [
      | inl source ↦ subst (Base t n (committed line.txn v)) (sym (sorted_first (is_source v.me.mode) v.commits c o source))
          (base_source sc t n v start lows o s line b source)
      | inr off ↦ subst (Base t n (committed line.txn v)) (sym (sorted_last (is_source v.me.mode) v.commits c o off))
          (base_last sc t n v start lows o s line b off)
    ])
base_event sc t n v w start lows o s (Starts line e) them b =
    let event : Event sc n v w = Starts line e in
    subst (Base t n w) (sym (then_starts v w o line.normal (ap (λ (z : View). is_source z.me.mode) e))) (record {
      alone_mine = λ h. let is : Empty ≡ SInit = sym line.empty ∙ sym (ap (λ (x : NodeState). x.mode) them) ∙ h in absurd cc;
      alone_theirs = λ h x a. false≢true (sym (s.kept.theirs.busy x (back event refl x (other n) a)) ∙ ap is_idle line.empty);
      past_mine = λ _ _ _. refl;
      past_theirs = λ _ _ _. refl;
    })
base_event sc t n v w start lows o s (Begins line e) them b =
    let event : Event sc n v w = Begins line e in
    let mode : w.me.mode ≡ v.me.mode = ap (λ (x : View). x.me.mode) e in
    let modes : w.them.mode ≡ v.them.mode = ap (λ (x : NodeState). x.mode) them in
    subst (Base t n w) (sym (then_still o event refl)) (record {
      alone_mine = λ h x a. let init = sym modes ∙ h in elim (back_begun v w line.txn line.home e x n a) [
        | inl before ↦ b.alone_mine init x before
        | inr is ↦
            let at : line.home ≡ B = home_second v.me.mode v.them.mode line.home line.home_is (home_busy v.me.mode (unready v s.kept.inv.roles init)) (ap is_home init) in
            let wrong : A ≡ B = sym line.at_a ∙ is ∙ at in absurd cc
      ];
      alone_theirs = λ h x a. let init = sym mode ∙ h in elim (back_begun v w line.txn line.home e x (other n) a) [
        | inl before ↦ b.alone_theirs init x before
        | inr is ↦
            let at : line.home ≡ A = home_first v.me.mode v.them.mode line.home line.home_is (ap is_home init) in
            let wrong : B ≡ A = ap other (sym line.at_a) ∙ is ∙ at in absurd cc
      ];
      past_mine = λ past ended at. let same = was_ended event refl t ended in
          b.past_mine (sym (ap is_past mode) ∙ past) (sym (ap (λ (y : Txn). is_committed y.status) same) ∙ ended) (sym (ap (λ (y : Txn). y.node) same) ∙ at);
      past_theirs = λ past ended at. let same = was_ended event refl t ended in
          b.past_theirs (sym (ap is_past modes) ∙ past) (sym (ap (λ (y : Txn). is_committed y.status) same) ∙ ended)
          (sym (ap (λ (y : Txn). y.node) same) ∙ at);
    })
base_event sc t n v w start lows o s e them b =
    let modes : w.them.mode ≡ v.them.mode = ap (λ (x : NodeState). x.mode) them in
    subst (Base t n w) (sym (then_still o e refl)) (record {
      alone_mine = λ h x a. b.alone_mine (sym modes ∙ h) x (back e refl x n a);
      alone_theirs = λ h x a. b.alone_theirs (no_init v w e refl h) x (back e refl x (other n) a);
      past_mine = λ past ended at. let same = was_ended e refl t ended in
          b.past_mine (past_after e refl past) (sym (ap (λ (y : Txn). is_committed y.status) same) ∙ ended) (sym (ap (λ (y : Txn). y.node) same) ∙ at);
      past_theirs = λ past ended at. let same = was_ended e refl t ended in
          b.past_theirs (sym (ap is_past modes) ∙ past) (sym (ap (λ (y : Txn). is_committed y.status) same) ∙ ended)
          (sym (ap (λ (y : Txn). y.node) same) ∙ at);
    })
