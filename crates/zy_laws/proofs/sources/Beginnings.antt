-- Where a transaction begins: at no source that hands on pages; and whoever runs after another step ran before it.
use Rattle.std.proofs.Common.{List, ap, false, inl, inr, refl, subst, sym, true, ℕ, ◌∙◌, ◌≡◌}
use Rattle.std.specs.Prelude.{◌⊎◌, Bool, Option, Some, None, slice_set}
use Rattle.std.proofs.lemmas.Bool.{cases_eq, cond_both, false≢true}
use Rattle.zy_isa.specs.Scenario.{Scenario}
use Rattle.zy_isa.specs.declared.node.Node.{Node}
use Rattle.zy_isa.specs.declared.node.Node.TheVariants.{A, B}
use Rattle.zy_model.specs.Families.{is_destination, is_home, is_idle, is_source}
use Rattle.zy_model.specs.Table.{home_of, is_waiting}
use Rattle.zy_model.specs.declared.mode.NodeMode.{NodeMode}
use Rattle.zy_model.specs.declared.mode.NodeMode.TheVariants.{Empty, Normal, SInit, SFinish, DInit, DDual, DFinish}
use Rattle.zy_table.specs.Change.{aborted, asks, begun, committed, cut, did, leaves, locked, nobody, shares, txn_at}
use Rattle.zy_table.specs.Client.{is_active}
use Rattle.zy_table.specs.declared.status.Status.TheVariants.{Active}
use Rattle.zy_table.specs.State.{Message, NodeState, Txn, View}
use Rattle.zy_laws.proofs.counts.Fates.{txns_of}
use Rattle.zy_laws.proofs.owner.Phases.{Phase, Is, Resting, Ready_sent, Wire_sent}
use Rattle.zy_laws.proofs.owner.Roles.{Destination, Roles, Source}
use Rattle.zy_laws.proofs.sources.Sorting.{sorts}
use Rattle.zy_laws.proofs.walk.Events.{Event, Begins, Aborts, GoesOn, Gets, SumsUp, Writes, Inserts, Splits, Commits, Asks, Starts, GotWire, GotReady}
use Rattle.zy_laws.proofs.walk.Events.{GotDual, IsStale, Gives, GotPage, GotLast, GotFinish, GotAll, GotDone, Finishes, Pushes}
use Rattle.zy_laws.proofs.walk.Kinds.{in_place_of, quiet_of}
use Rattle.zy_laws.proofs.walk.Txns.{IsAt, Stands, at_either, at_other, at_same, at_self}

-- an event that is no start makes no node SInit
pub no_init : {sc : Scenario} {n : Node} (v w : View) (e : Event sc n v w) → sorts e ≡ false → w.me.mode ≡ SInit → v.me.mode ≡ SInit
unfolding asks leaves cut locked
no_init v w (Commits line e) h is = absurd (false≢true (sym h))
no_init v w (Starts line e) h is = absurd (false≢true (sym h))
no_init v w (GotWire line e) h is = let a : DInit ≡ SInit = sym (ap (λ (x : View). x.me.mode) e) ∙ is in absurd cc
no_init v w (GotReady line e) h is = line.mode
no_init v w (GotDual line e) h is = let a : DDual ≡ SInit = sym (ap (λ (x : View). x.me.mode) e) ∙ is in absurd cc
no_init v w (GotLast line e) h is = let a : Normal ≡ SInit = sym (ap (λ (x : View). x.me.mode) e) ∙ is in absurd cc
no_init v w (GotFinish line e) h is = let a : DFinish ≡ SInit = sym (ap (λ (x : View). x.me.mode) e) ∙ is in absurd cc
no_init v w (GotAll line e) h is = let a : Normal ≡ SInit = sym (ap (λ (x : View). x.me.mode) e) ∙ is in absurd cc
no_init v w (GotDone line e) h is = let a : Empty ≡ SInit = sym (ap (λ (x : View). x.me.mode) e) ∙ is in absurd cc
no_init v w (Finishes line e) h is = let a : SFinish ≡ SInit = sym (ap (λ (x : View). x.me.mode) e) ∙ is in absurd cc
no_init v w (Splits line e) h is = sym (ap (λ (x : View). x.me.mode) e) ∙ is
no_init v w (Asks line e) h is = sym (ap (λ (x : View). x.me.mode) e) ∙ is
no_init v w (IsStale line e) h is = sym (ap (λ (x : View). x.me.mode) e) ∙ is
no_init v w (Gives line e) h is = sym (ap (λ (x : View). x.me.mode) e) ∙ is
no_init v w (GotPage line e) h is = sym (ap (λ (x : View). x.me.mode) e) ∙ is
no_init v w (Pushes line e) h is = sym (ap (λ (x : View). x.me.mode) e) ∙ is
no_init v w e h is = sym (in_place_of e refl).mode ∙ is

-- beside a source in SInit nobody runs yet
source_init : {src dst : NodeState} {out back : List Message} → Phase src dst out back → src.mode ≡ SInit
    → (is_idle dst.mode ≡ true) ⊎ (is_waiting dst.mode ≡ true)
source_init (Is Wire_sent at) is = inl (ap is_idle at.destination)
source_init (Is Ready_sent at) is = inr (ap is_waiting at.destination)
source_init (Is g at) is = cc (at.source, is)

-- no destination is in SInit
destination_init : {src dst : NodeState} {out back : List Message} {X : Type 0} → Phase src dst out back → dst.mode ≡ SInit → X
destination_init (Is Resting at) is = cc (at.destination, is)
destination_init (Is g at) is = cc (at.destination, is)

-- beside a node in SInit nobody runs yet
pub unready : (v : View) → Roles v → v.them.mode ≡ SInit → (is_idle v.me.mode ≡ true) ⊎ (is_waiting v.me.mode ≡ true)
unready v (Source ph) is = destination_init ph is
unready v (Destination ph) is = source_init ph is

-- a home that is not SInit is no source
home_plain : (m : NodeMode) → is_home m ≡ true → (m ≡ SInit → ⊥) → is_source m ≡ false
home_plain Normal h off = refl
home_plain SInit h off = absurd (off refl)
home_plain m h off = absurd (false≢true h)

-- a destination is no source
destination_plain : (m : NodeMode) → is_destination m ≡ true → is_source m ≡ false
destination_plain DInit h = refl
destination_plain DDual h = refl
destination_plain DFinish h = refl
destination_plain m h = absurd (false≢true h)

-- where o names h, that node is no source
abbrev Plain : NodeMode → NodeMode → Option Node → Node → Type 0
Plain a b o h = o ≡ Some h → (h ≡ A → is_source a ≡ false) × (h ≡ B → is_source b ≡ false)

-- where it names A, which is no source
plain_a : (a b : NodeMode) (h : Node) → is_source a ≡ false → Plain a b (Some A) h
plain_a a b h r e = ((λ _. r), (λ f. cc))

-- where it names B, which is no source
plain_b : (a b : NodeMode) (h : Node) → is_source b ≡ false → Plain a b (Some B) h
plain_b a b h r e = ((λ f. cc), (λ _. r))

-- where no node is in SInit, a transaction begins at no source
pub home_away : (a b : NodeMode) (h : Node) → (a ≡ SInit → ⊥) → (b ≡ SInit → ⊥) → Plain a b (home_of a b) h
home_away a b h na nb =
    cond_both (is_home a) _ _ (λ o. Plain a b o h) (λ r. plain_a a b h (home_plain a r na))
    (λ _. cond_both (is_home b) _ _ (λ o. Plain a b o h) (λ r. plain_b a b h (home_plain b r nb))
    (λ _. cond_both (is_destination a) _ _ (λ o. Plain a b o h) (λ r. plain_a a b h (destination_plain a r))
    (λ _. cond_both (is_destination b) (Some B) None (λ o. Plain a b o h) (λ r. plain_b a b h (destination_plain b r)) (λ _ e. cc))))

-- whoever runs after a step that sets t, which ran, and leaves its node, ran there before
back_set : (v w : View) (t : ℕ) (y : Txn) → w.txns ≡ slice_set v.txns t y → is_active (txn_at v t).status ≡ true → y.node ≡ (txn_at v t).node
    → (u : ℕ) (m : Node) → IsAt w u m → IsAt v u m
back_set v w t y set active node u m a = elim (cases_eq u t) [
  | inl same ↦
      let now : txn_at w u ≡ y = ap (txn_at w) same ∙ at_self v w t y set active in
      (ap (λ z. is_active (txn_at v z).status) same ∙ active, ap (λ z. (txn_at v z).node) same ∙ sym node ∙ sym (ap (λ (x : Txn). x.node) now) ∙ a.1)
  | inr far ↦ subst (λ x. Stands x m) (at_other v w t u y set far) a
]

-- whether the event is a begin
abbrev pub begins : {sc : Scenario} {n : Node} {v w : View} → Event sc n v w → Bool
begins (Begins line e) = true
begins e = false

-- after an event that is no begin whoever runs ran before
pub back : {sc : Scenario} {n : Node} {v w : View} (e : Event sc n v w) → begins e ≡ false → (u : ℕ) (m : Node) → IsAt w u m → IsAt v u m
unfolding did locked shares aborted committed cut txn_at
back (Begins line e) is = absurd (false≢true (sym is))
back {v = v} {w = w} (Aborts line e) is = back_set v w line.txn _ (ap txns_of e) line.active refl
back {v = v} {w = w} (GoesOn line e) is = back_set v w line.txn _ (ap txns_of e) line.runs.active refl
back {v = v} {w = w} (Gets line e) is = back_set v w line.txn _ (ap txns_of e) line.runs.active refl
back {v = v} {w = w} (SumsUp line e) is = back_set v w line.txn _ (ap txns_of e) line.runs.active refl
back {v = v} {w = w} (Writes line e) is = back_set v w line.txn _ (ap txns_of e) line.runs.active refl
back {v = v} {w = w} (Inserts line e) is = back_set v w line.txn _ (ap txns_of e) line.runs.active refl
back {v = v} {w = w} (Splits line e) is = λ u m a. subst (λ x. Stands x m) (at_same v w u (ap txns_of e)) a
back {v = v} {w = w} (Commits line e) is = back_set v w line.txn _ (ap txns_of e) line.runs.active refl
back {v = v} {w = w} e is = λ u m a. subst (λ x. Stands x m) (at_same v w u (quiet_of e refl).txns) a

-- after a begin whoever runs ran before, or it is the one that began
pub back_begun : (v w : View) (t : ℕ) (h : Node) → w ≡ begun h t v → (u : ℕ) (m : Node) → IsAt w u m → IsAt v u m ⊎ (m ≡ h)
unfolding begun
back_begun v w t h e u m a =
    let y : Txn = record nobody { status = Active; node = h } in
    elim (cases_eq u t) [
      | inl same ↦ elim (at_either v w t y (ap txns_of e)) [
        | inl now ↦ inr (sym a.1 ∙ ap (λ (x : Txn). x.node) (ap (txn_at w) same ∙ now))
        | inr old ↦ inl (subst (λ z. IsAt v z m) (sym same) (subst (λ x. Stands x m) (ap (txn_at w) same ∙ old) a))
      ]
      | inr far ↦ inl (subst (λ x. Stands x m) (at_other v w t u y (ap txns_of e) far) a)
    ]
