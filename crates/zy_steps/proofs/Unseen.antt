-- What a node's run did is seen by no other actor, even where the client kills its transaction.
use Rattle.std.proofs.Common.{◌≡◌, ◌∙◌, ◌⊎◌, inl, inr, ℕ, List, [], ◌∷◌, refl, sym, ap, subst, true, false, None}
use Rattle.std.proofs.lemmas.Bool.{cases_Bool, cases_eq, false≢true}
use Rattle.zy_isa.specs.declared.node.Node.{Node}
use Rattle.zy_isa.specs.declared.node.Node.TheVariants.{A, B}
use Rattle.zy_isa.specs.declared.choice.Choice.{Choice}
use Rattle.zy_isa.specs.declared.choice.Choice.TheVariants.{Start, Begin, Kill, Run, Take, Finish, Push}
use Rattle.zy_isa.specs.Choices.{actor_of, actor_at}
use Rattle.zy_isa.specs.Scenario.{Scenario}
use Rattle.zy_model.specs.declared.lock.Lock.{Lock}
use Rattle.zy_model.specs.Locks.{drop_locks}
use Rattle.zy_table.specs.declared.observation.Observation.{Observation}
use Rattle.zy_table.specs.declared.outcome.Why.TheVariants as why
use Rattle.zy_table.specs.declared.outcome.Outcome.{Outcome}
use Rattle.zy_table.specs.declared.outcome.Outcome.TheVariants as outcome
use Rattle.zy_table.specs.declared.status.Status.TheVariants.{Aborted}
use Rattle.zy_table.specs.State.{State, View, Step, Txn, facing, other, as_step}
use Rattle.zy_table.specs.Change.{quiet, txn_at, aborted}
use Rattle.zy_table.specs.Client.{is_active, is_new, kill_step}
use Rattle.zy_table.specs.Run.{same_node}
use Rattle.zy_table.specs.Play.{move, step, side_of, play}
use Rattle.zy_table.specs.Observations.{observation_at, observations}
use Rattle.zy_laws.proofs.walk.Txns.{at_self, at_side}
use Rattle.zy_steps.proofs.Rest.{face}
use Rattle.zy_steps.specs.Commute.{AreOfOthers}
use Rattle.zy_steps.proofs.DidRuns.{put, relocked}
use Rattle.zy_steps.proofs.SetTwo.{Stays, set_twice}
use Rattle.zy_steps.proofs.FarValues.{same_nodes}
use Rattle.zy_steps.proofs.SameObservations.{far_observation}
use Rattle.zy_steps.proofs.Passes.{Passes, IsApart, IsSettled, moved, moved_step, apart_passes, still_passes, near_view, near_state}

-- ---- which choices there are

-- a node is the other one, if it is another actor
far_node : (m n : Node) → (actor_at m ≡ actor_at n → ⊥) → m ≡ other n
far_node A A h = absurd (h refl)
far_node A B h = refl
far_node B A h = refl
far_node B B h = absurd (h refl)

-- a choice of another actor than n is apart, or kills t
pub which : (n : Node) (t : ℕ) (c : Choice) → (actor_of c ≡ actor_at n → ⊥) → IsApart n t c ⊎ (c ≡ Kill t)
which n t Start h = inl tt
which n t (Begin u) h = inl tt
which n t (Kill u) h = elim (cases_eq u t) [ inl e ↦ inr (ap Kill e) | inr far ↦ inl far ]
which n t (Run m u) h = inl (far_node m n h)
which n t (Take m) h = inl (far_node m n h)
which n t (Finish m) h = inl (far_node m n h)
which n t (Push m) h = inl (far_node m n h)

-- ---- a kill of t

-- a move that changes nothing, as a step
rest_step : (k : Node) (r : State) (o : Outcome) → as_step k (quiet (facing k r) o) ≡ record { after = r; outcome = o; sent = None }
rest_step A r o = refl
rest_step B r o = refl

-- t, where it is killed
abbrev dead : Txn → Txn
dead x = record x { status = Aborted why.Killed; rows = [] }

-- a view where t is killed
abbrev killed : ℕ → View → View
killed t v = put t (dead (txn_at v t)) (drop_locks t v.me.locks) v

-- t is killed where it is active
kills : (t : ℕ) (v : View) → is_active (txn_at v t).status ≡ true → kill_step t v ≡ quiet (killed t v) (outcome.Aborted why.Killed)
unfolding kill_step aborted
kills t v on = rw on refl

-- nothing is done where it is not
kills_none : (t : ℕ) (v : View) → is_active (txn_at v t).status ≡ false → kill_step t v ≡ quiet v outcome.Idle
unfolding kill_step
kills_none t v off = rw off refl

-- t is killed where it was set
kills_set : (t : ℕ) (v : View) (y : Txn) (ls : List Lock) → txn_at (put t y ls v) t ≡ y → killed t (put t y ls v) ≡ put t (dead y) (drop_locks t ls) (killed t v)
kills_set t v y ls e =
    ap (λ (x : Txn). put t (dead x) (drop_locks t ls) (put t y ls v)) e
    ∙ (ap (λ (xs : List Txn). record (relocked (drop_locks t ls) v) { txns = xs }) (set_twice v.txns t y (dead y))
    ∙ sym (ap (λ (xs : List Txn). record (relocked (drop_locks t ls) v) { txns = xs }) (set_twice v.txns t (dead (txn_at v t)) (dead y))))

-- ---- t, which was set, and node n with other locks

-- A choice does the same, and afterwards t and the locks of n are others still.
record Hides (sc : Scenario) (n : Node) (t : ℕ) (s : State) (y : Txn) (ls : List Lock) (c : Choice) : Type 0 where
  pub txn : Txn
  pub locks : List Lock
  pub stays : Stays (txn_at (facing n (step sc c s).after) t) txn
  pub settled : IsSettled n t (facing n (step sc c s).after)
  pub step : step sc c (moved n t y ls s) ≡ moved_step n t txn locks (step sc c s)

module _ (sc : Scenario) (n : Node) (t : ℕ) where
  -- one that passes
  passes_hides : (s : State) (y : Txn) (ls : List Lock) (c : Choice) → Stays (txn_at (facing n s) t) y → IsSettled n t (facing n s)
      → Passes sc n t s c → Hides sc n t s y ls c
  passes_hides s y ls c stays settled p = record {
    txn = y;
    locks = p.on_locks ls;
    stays = subst (λ (x : Txn). Stays x y) (sym p.txn) stays;
    settled = record {
      begun = ap (λ (x : Txn). is_new x.status) p.txn ∙ settled.begun;
      own = λ on. ap (λ (x : Txn). same_node x.node n) p.txn ∙ settled.own (sym (ap (λ (x : Txn). is_active x.status) p.txn) ∙ on);
    };
    step = p.step y ls stays;
  }

  -- a kill of t, where it is not active
  kills_idle : (s : State) → is_active (txn_at (facing n s) t).status ≡ false → Passes sc n t s (Kill t)
  unfolding step move
  kills_idle s off = still_passes sc n t s (Kill t) outcome.Idle (λ r e.
      let k = side_of sc (Kill t) r in
      let here : is_active (txn_at (facing k r) t).status ≡ false =
      ap (λ (x : Txn). is_active x.status) (at_side k r t ∙ sym (at_side n r t)) ∙ (ap is_active e ∙ off) in
      ap (as_step k) (kills_none t (facing k r) here) ∙ rest_step k r outcome.Idle)

  -- the side of a kill is where t is
  kill_side : (r : State) → same_node (txn_at (facing n r) t).node n ≡ true → side_of sc (Kill t) r ≡ n
  kill_side r here = ap (λ (x : Txn). x.node) (sym (at_side n r t)) ∙ same_nodes _ n here

  -- a kill of t at n
  kill_step_at : (r : State) (v : View) → facing n r ≡ v → is_active (txn_at v t).status ≡ true → same_node (txn_at v t).node n ≡ true
      → step sc (Kill t) r ≡ as_step n (quiet (killed t v) (outcome.Aborted why.Killed))
  unfolding step move
  kill_step_at r v e on here =
      ap (λ (k : Node). as_step k (kill_step t (facing k r)))
      (kill_side r (ap (λ (w : View). same_node (txn_at w t).node n) e ∙ here))
      ∙ (ap (λ (w : View). as_step n (kill_step t w)) e ∙ ap (as_step n) (kills t v on))

  -- it is hidden, too
  kills_hides : (s : State) (y : Txn) (ls : List Lock) → Stays (txn_at (facing n s) t) y → is_active (txn_at (facing n s) t).status ≡ true
      → same_node (txn_at (facing n s) t).node n ≡ true → Hides sc n t s y ls (Kill t)
  kills_hides s y ls stays on here =
      let v = facing n s in
      let w = put t y ls v in
      let o = outcome.Aborted why.Killed in
      let there = kill_step_at s v refl on here in
      let now : txn_at w t ≡ y = at_self v w t y refl on in
      let after : txn_at (facing n (step sc (Kill t) s).after) t ≡ dead (txn_at v t) =
      ap (λ (x : Step). txn_at (facing n x.after) t) there
      ∙ (ap (λ (u : View). txn_at u t) (face n (killed t v)) ∙ at_self v (killed t v) t (dead (txn_at v t)) refl on) in
      let other = kill_step_at (moved n t y ls s) w (near_view sc n t s y ls) (ap (λ (x : Txn). is_active x.status) now ∙ (ap is_active stays.status ∙ on))
      (ap (λ (x : Txn). same_node x.node n) now ∙ (ap (λ (k : Node). same_node k n) stays.node ∙ here)) in
      record {
        txn = dead y;
        locks = drop_locks t ls;
        stays = subst (λ (x : Txn). Stays x (dead y)) (sym after) (record { status = refl; node = stays.node });
        settled = record {
          begun = ap (λ (x : Txn). is_new x.status) after;
          own = λ h. absurd (false≢true (sym (ap (λ (x : Txn). is_active x.status) after) ∙ h));
        };
        step =
            other
            ∙ (ap (λ (u : View). as_step n (quiet u o)) (kills_set t v y ls now)
            ∙ (ap (λ (r : State). record { after = r; outcome = o; sent = None }) (near_state sc n t s (dead y) (drop_locks t ls) (killed t v))
            ∙ ap (moved_step n t (dead y) (drop_locks t ls)) (sym there)));
      }

  -- each choice of another actor is
  each_hides : (s : State) (y : Txn) (ls : List Lock) (c : Choice) → Stays (txn_at (facing n s) t) y → IsSettled n t (facing n s)
      → (actor_of c ≡ actor_at n → ⊥) → Hides sc n t s y ls c
  each_hides s y ls c stays settled far = elim (which n t c far) [
    | inl apart ↦ passes_hides s y ls c stays settled (apart_passes sc n t s settled c apart)
    | inr e ↦ subst (Hides sc n t s y ls) (sym e) (elim (cases_Bool (is_active (txn_at (facing n s) t).status)) [
      | inl on ↦ kills_hides s y ls stays on (settled.own on)
      | inr off ↦ passes_hides s y ls (Kill t) stays settled (kills_idle s off)
    ])
  ]

  -- so are many
  pub all_hide : (s : State) (y : Txn) (ls : List Lock) (cs : List Choice) → Stays (txn_at (facing n s) t) y → IsSettled n t (facing n s)
      → AreOfOthers n cs → observations sc (moved n t y ls s) cs ≡ observations sc s cs
  all_hide s y ls [] stays settled far = refl
  all_hide s y ls (c ∷ cs) stays settled far =
      let h = each_hides s y ls c stays settled far.0 in
      let r = (step sc c s).after in
      let there = moved n t y ls s in
      let first = far_observation sc n t y h.txn ls h.locks s c stays settled far.0 h.step in
      ap (λ (o : Observation). o ∷ observations sc (step sc c there).after cs) first
      ∙ (ap (λ (x : Step). observation_at sc s c ∷ observations sc x.after cs) h.step
      ∙ ap (λ (os : List Observation). observation_at sc s c ∷ os) (all_hide r h.txn h.locks cs h.stays h.settled far.1))

  -- ---- t, where it has ended

  -- it has begun, and is not active
  abbrev HasEnded : State → Type 0
  HasEnded s = (is_new (txn_at (facing n s) t).status ≡ false) × (is_active (txn_at (facing n s) t).status ≡ false)

  -- it stays so by a choice of another actor
  ended_step : (s : State) (c : Choice) → HasEnded s → (actor_of c ≡ actor_at n → ⊥) → HasEnded (step sc c s).after
  ended_step s c ended far =
      let settled : IsSettled n t (facing n s) = record { begun = ended.0; own = λ h. absurd (false≢true (sym ended.1 ∙ h)) } in
      let p : Passes sc n t s c = elim (which n t c far) [
        | inl apart ↦ apart_passes sc n t s settled c apart
        | inr e ↦ subst (Passes sc n t s) (sym e) (kills_idle s ended.1)
      ] in
      (ap (λ (x : Txn). is_new x.status) p.txn ∙ ended.0, ap (λ (x : Txn). is_active x.status) p.txn ∙ ended.1)

  -- and by many
  ended_play : (s : State) (cs : List Choice) → HasEnded s → AreOfOthers n cs → HasEnded (play sc s cs)
  ended_play s [] ended far = ended
  ended_play s (c ∷ cs) ended far = ended_play (step sc c s).after cs (ended_step s c ended far.0) far.1

  -- a kill ends it
  kill_ends : (s : State) → is_active (txn_at (facing n s) t).status ≡ true → same_node (txn_at (facing n s) t).node n ≡ true → HasEnded (step sc (Kill t) s).after
  kill_ends s on here =
      let v = facing n s in
      let after : txn_at (facing n (step sc (Kill t) s).after) t ≡ dead (txn_at v t) =
      ap (λ (x : Step). txn_at (facing n x.after) t) (kill_step_at s v refl on here)
      ∙ (ap (λ (u : View). txn_at u t) (face n (killed t v)) ∙ at_self v (killed t v) t (dead (txn_at v t)) refl on) in
      (ap (λ (x : Txn). is_new x.status) after, ap (λ (x : Txn). is_active x.status) after)

  -- behind a kill and choices of other actors it is not active
  pub killed_for_good : (s : State) (cs : List Choice) → is_active (txn_at (facing n s) t).status ≡ true
      → same_node (txn_at (facing n s) t).node n ≡ true → AreOfOthers n cs
      → is_active (txn_at (facing n (play sc (step sc (Kill t) s).after cs)) t).status ≡ false
  killed_for_good s cs on here far = (ended_play (step sc (Kill t) s).after cs (kill_ends s on here) far).1
