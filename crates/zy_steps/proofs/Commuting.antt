-- A run whose outcome is `did` may come first.
use Rattle.std.proofs.Common.{◌≡◌, ◌∙◌, ℕ, List, [], ◌∷◌, inl, inr, length, refl, sym, ap, subst, true, None}
use Rattle.std.proofs.lemmas.Bool.{false≢true}
use Rattle.zy_isa.specs.declared.node.Node.{Node}
use Rattle.zy_isa.specs.declared.node.Node.TheVariants.{A, B}
use Rattle.zy_isa.specs.declared.choice.Choice.{Choice}
use Rattle.zy_isa.specs.declared.choice.Choice.TheVariants.{Start, Kill, Run}
use Rattle.zy_isa.specs.Scenario.{Scenario}
use Rattle.zy_model.specs.declared.lock.Lock.{Lock}
use Rattle.zy_model.specs.Order.{LocksRise}
use Rattle.zy_table.specs.declared.outcome.Outcome.TheVariants.{Did}
use Rattle.zy_table.specs.State.{State, NodeState, Step, Txn, facing, as_step}
use Rattle.zy_table.specs.Change.{txn_at}
use Rattle.zy_table.specs.Client.{is_active}
use Rattle.zy_isa.specs.Choices.{actor_of, actor_at}
use Rattle.zy_table.specs.Play.{move, step, side_of, play, entry_of}
use Rattle.zy_table.specs.declared.observation.Observation.{Observation}
use Rattle.zy_table.specs.Observations.{txn_of, observation_at, observations}
use Rattle.zy_steps.proofs.Rest.{step_leaves}
use Rattle.zy_steps.specs.Commute.{Does, AreOfOthers, MayComeFirst}
use Rattle.zy_steps.proofs.SetTwo.{Stays}
use Rattle.zy_steps.proofs.DidRuns.{moded, relocked, did_went, stands}
use Rattle.zy_steps.proofs.Carried.{carried}
use Rattle.zy_steps.proofs.SameValues.{of_view, same_value}
use Rattle.zy_steps.proofs.FarValues.{moved_self}
use Rattle.zy_steps.proofs.SameObservations.{rows_shown, same_observation, far_observation}
use Rattle.zy_steps.proofs.Unseen.{which, all_hide, killed_for_good}
use Rattle.zy_steps.proofs.Passes.{Passes, IsApart, IsSettled, has_begun, moved, apart_passes}

-- each choice of a list is apart
abbrev AreApart : Node → ℕ → List Choice → Type 0
AreApart n t [] = Unit {0}
AreApart n t (c ∷ cs) = IsApart n t c × AreApart n t cs

-- the transactions of a state are those of each view of it
facing_txns : (n : Node) (s : State) → (facing n s).txns ≡ s.txns
facing_txns A s = refl
facing_txns B s = refl

-- a step leaves as many transactions
many_step : (sc : Scenario) (c : Choice) (s : State) → length (step sc c s).after.txns ≡ length s.txns
many_step sc c s =
    let k = side_of sc c s in
    ap length (sym (facing_txns k (step sc c s).after)) ∙ ((step_leaves sc c s).txns.many ∙ ap length (facing_txns k s))

-- a step that did an instruction of t, took locks and sent nothing
abbrev did_step : Node → ℕ → Txn → List Lock → State → Step
did_step n t y ls s = record { after = moved n t y ls s; outcome = Did; sent = None }

-- A run does in a state and after a choice, with the locks that the choice leaves.
record Twice (sc : Scenario) (n : Node) (t : ℕ) (s : State) (c : Choice) : Type 0 where
  pub txn : Txn
  pub locks : List Lock
  pub others : List Lock
  pub stays : Stays (txn_at (facing n s) t) txn
  pub same : txn_of (step sc c s).after t ≡ txn_of s t
  pub first : step sc (Run n t) s ≡ did_step n t txn locks s
  pub second : step sc (Run n t) (step sc c s).after ≡ did_step n t txn others (step sc c s).after
  pub other : step sc c (moved n t txn locks s) ≡ record (step sc c s) { after = moved n t txn others (step sc c s).after }
  pub does : Does sc n t (step sc c s).after

module _ (sc : Scenario) (n : Node) (t : ℕ) where
  -- both come to the same
  twice : (s : State) (c : Choice) → Does sc n t s → Passes sc n t s c → Twice sc n t s c
  unfolding step move txn_at
  twice s c does p =
      let v = facing n s in
      let r = (step sc c s).after in
      let w = facing n r in
      let running = stands sc n t v does.outcome in
      let went = did_went t p.on_locks p.fair p.mode (p.awake running.awake) v does.locks sc n does.outcome in
      let many : length v.txns ≡ length w.txns =
      ap length (facing_txns n s) ∙ (sym (many_step sc c s) ∙ ap length (sym (facing_txns n r))) in
      let after = carried sc n t (relocked (p.on_locks v.me.locks) (moded p.mode v)) w went.txn (p.on_locks went.locks) many (sym p.me) (sym p.txn) went.second in
      let again = ap (as_step n) after in
      record {
        txn = went.txn;
        locks = went.locks;
        others = p.on_locks went.locks;
        stays = went.stays;
        same = of_view n r t ∙ (p.txn ∙ sym (of_view n s t));
        first = ap (as_step n) went.first;
        second = again;
        other = p.step went.txn went.locks went.stays;
        does = record {
          locks = subst (λ (x : NodeState). LocksRise x.locks) (sym p.me) (p.fair.rises v.me.locks does.locks);
          outcome = ap (λ (x : Step). x.outcome) again;
        };
      }

  -- t has begun, and is active at no other node
  pub does_settled : (s : State) → Does sc n t s → IsSettled n t (facing n s)
  unfolding step move
  does_settled s does =
      let at = stands sc n t (facing n s) does.outcome in
      record { begun = has_begun _ at.active; own = λ _. at.here }

  -- one choice may be made behind
  swaps : (s : State) (c : Choice) → Does sc n t s → IsApart n t c → Twice sc n t s c
  swaps s c does apart = twice s c does (apart_passes sc n t s (does_settled s does) c apart)

  -- the state after both
  swapped : (s : State) (c : Choice) → Twice sc n t s c → (step sc c (step sc (Run n t) s).after).after ≡ (step sc (Run n t) (step sc c s).after).after
  swapped s c k =
      ap (λ (x : Step). (step sc c x.after).after) k.first
      ∙ (ap (λ (x : Step). x.after) k.other
      ∙ sym (ap (λ (x : Step). x.after) k.second))

  -- t is active where its run did
  active_where : (r : State) → Does sc n t r → is_active (txn_at (facing n r) t).status ≡ true
  unfolding step move
  active_where r does = (stands sc n t (facing n r) does.outcome).active

  -- the run shows the same
  own_same : (s : State) (c : Choice) → Does sc n t s → Twice sc n t s c → observation_at sc (step sc c s).after (Run n t) ≡ observation_at sc s (Run n t)
  own_same s c does k =
      let r = (step sc c s).after in
      let after : txn_of (step sc (Run n t) r).after t ≡ txn_of (step sc (Run n t) s).after t =
      ap (λ (x : Step). txn_of x.after t) k.second
      ∙ (moved_self n t k.txn k.others r (active_where r k.does)
      ∙ (sym (moved_self n t k.txn k.locks s (active_where s does)) ∙ sym (ap (λ (x : Step). txn_of x.after t) k.first))) in
      let value = same_value sc n t r s k.same (ap (λ (x : Step). x.outcome) k.second ∙ sym (ap (λ (x : Step). x.outcome) k.first)) after in
      same_observation sc (Run n t) r s (ap (entry_of (Run n t)) k.second ∙ sym (ap (entry_of (Run n t)) k.first)) value
      (ap rows_shown k.second ∙ sym (ap rows_shown k.first)) refl

  -- so does the choice
  other_same : (s : State) (c : Choice) → Does sc n t s → (actor_of c ≡ actor_at n → ⊥) → Twice sc n t s c
      → observation_at sc (step sc (Run n t) s).after c ≡ observation_at sc s c
  other_same s c does far k =
      ap (λ (x : Step). observation_at sc x.after c) k.first
      ∙ far_observation sc n t k.txn k.txn k.locks k.others s c k.stays (does_settled s does) far k.other

  -- many may
  comes_first : (s : State) (cs : List Choice) → Does sc n t s → AreOfOthers n cs → AreApart n t cs → MayComeFirst sc s (Run n t) cs
  comes_first s [] does far apart = record { after = refl; own = refl; others = refl }
  comes_first s (c ∷ cs) does far apart =
      let k = swaps s c does apart.0 in
      let rest = comes_first (step sc c s).after cs k.does far.1 apart.1 in
      let there = swapped s c k in
      record {
        after = ap (λ (r : State). play sc r cs) there ∙ rest.after;
        own = rest.own ∙ own_same s c does k;
        others =
            ap (λ (o : Observation). o ∷ observations sc (step sc c (step sc (Run n t) s).after).after cs) (other_same s c does far.0 k)
            ∙ ap (λ (os : List Observation). observation_at sc s c ∷ os) (ap (λ (r : State). observations sc r cs) there ∙ rest.others);
      }

  -- behind a kill of t its outcome is another
  not_killed : (s : State) (c : Choice) (cs : List Choice) → Does sc n t s → AreOfOthers n cs → c ≡ Kill t
      → (step sc (Run n t) (play sc (step sc c s).after cs)).outcome ≡ Did → ⊥
  unfolding step move
  not_killed s c cs does far e did =
      let at = stands sc n t (facing n s) does.outcome in
      let end = play sc (step sc (Kill t) s).after cs in
      let now = stands sc n t (facing n end) (subst (λ (k : Choice). (step sc (Run n t) (play sc (step sc k s).after cs)).outcome ≡ Did) e did) in
      false≢true (sym (killed_for_good sc n t s cs at.active at.here far) ∙ now.active)

  -- where the run's outcome is `did` behind choices of other actors, none of them kills t
  are_apart : (s : State) (cs : List Choice) → Does sc n t s → AreOfOthers n cs → (step sc (Run n t) (play sc s cs)).outcome ≡ Did → AreApart n t cs
  are_apart s [] does far did = tt
  are_apart s (c ∷ cs) does far did = elim (which n t c far.0) [
    | inl apart ↦ (apart, are_apart (step sc c s).after cs (swaps s c does apart).does far.1 did)
    | inr e ↦ absurd (not_killed s c cs does far.1 e did)
  ]

  -- the law: it may come first
  pub may_come_first : (s : State) (cs : List Choice) → Does sc n t s → AreOfOthers n cs → (step sc (Run n t) (play sc s cs)).outcome ≡ Did
      → MayComeFirst sc s (Run n t) cs
  may_come_first s cs does far did = comes_first s cs does far (are_apart s cs does far did)

  -- the law: other actors do not see it
  pub unseen : (s : State) (cs : List Choice) → Does sc n t s → AreOfOthers n cs → observations sc (step sc (Run n t) s).after cs ≡ observations sc s cs
  unseen s cs does far =
      let p = apart_passes sc n t s (does_settled s does) Start tt in
      let k = twice s Start does p in
      ap (λ (x : Step). observations sc x.after cs) k.first
      ∙ all_hide sc n t s k.txn k.locks cs k.stays (does_settled s does) far
