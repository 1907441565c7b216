-- What a choice does where a node's run of t was made before it, which sets t and takes locks there.
use Rattle.std.proofs.Common.{◌≡◌, ◌∙◌, ◌⊎◌, inl, inr, ℕ, List, [], length, refl, sym, ap, subst, Bool, true, false, cond, None}
use Rattle.std.specs.Prelude.{slice_set}
use Rattle.std.proofs.lemmas.Bool.{cases_Bool, cases_eq, cond_both, false≢true}
use Rattle.std.proofs.lemmas.List.{length-set}
use Rattle.zy_isa.specs.declared.node.Node.{Node}
use Rattle.zy_isa.specs.declared.node.Node.TheVariants.{A, B}
use Rattle.zy_isa.specs.declared.choice.Choice.{Choice}
use Rattle.zy_isa.specs.declared.choice.Choice.TheVariants.{Start, Begin, Kill, Run, Take, Finish, Push}
use Rattle.zy_isa.specs.Scenario.{Scenario}
use Rattle.zy_model.specs.declared.lock.Lock.{Lock}
use Rattle.zy_model.specs.Locks.{drop_locks}
use Rattle.zy_model.specs.Table.{is_waiting, may_start}
use Rattle.zy_model.specs.declared.mode.NodeMode.{NodeMode}
use Rattle.zy_table.specs.declared.outcome.Why.TheVariants as why
use Rattle.zy_table.specs.declared.outcome.Outcome.{Outcome}
use Rattle.zy_table.specs.declared.outcome.Outcome.TheVariants as outcome
use Rattle.zy_table.specs.declared.status.Status.{Status}
use Rattle.zy_table.specs.declared.status.Status.TheVariants.{New, Active, Committed, Aborted}
use Rattle.zy_table.specs.State.{State, View, NodeState, Move, Step, Txn, facing, seen_from, other, as_step}
use Rattle.zy_table.specs.Change.{quiet, txn_at, with_txn, aborted}
use Rattle.zy_table.specs.Client.{is_active, is_new, start_step, begin_step, kill_step}
use Rattle.zy_table.specs.Run.{same_node, run_step}
use Rattle.zy_table.specs.Play.{move, side_of, step}
use Rattle.zy_laws.proofs.walk.Txns.{at_either, at_other, at_self, at_side}
use Rattle.zy_steps.proofs.Rest.{face}
use Rattle.zy_steps.proofs.StepReads.{begins}
use Rattle.zy_steps.proofs.SameMoves.{move_changes}
use Rattle.zy_steps.proofs.FewerLocks.{IsFair, same, same_fair, drop_fair}
use Rattle.zy_steps.proofs.DidRuns.{put}
use Rattle.zy_steps.proofs.SetTwo.{Stays, set_swap}
use Rattle.zy_steps.proofs.Asides.{aside, aside_move, runs_aside, elsewhere, idle, runs_elsewhere, runs_idle, starts_aside, finishes_aside, pushes_aside, takes_aside, kills_aside}

-- a state where transaction t and the locks of node n are others
abbrev pub moved : Node → ℕ → Txn → List Lock → State → State
moved n t y ls s = seen_from n (put t y ls (facing n s))

-- a step with these
abbrev pub moved_step : Node → ℕ → Txn → List Lock → Step → Step
moved_step n t y ls x = record x { after = moved n t y ls x.after }

-- A choice leaves t and node n, but for its mode, which stays one in which transactions run, and for locks, to which it
-- does what is fair to t. Where t and the locks of n are others it does the same.
pub record Passes (sc : Scenario) (n : Node) (t : ℕ) (s : State) (c : Choice) : Type 0 where
  pub mode : NodeMode
  pub awake : is_waiting (facing n s).me.mode ≡ false → is_waiting mode ≡ false
  pub on_locks : List Lock → List Lock
  pub fair : IsFair t on_locks
  pub me : (facing n (step sc c s).after).me ≡ record (facing n s).me { mode = mode; locks = on_locks (facing n s).me.locks }
  pub txn : txn_at (facing n (step sc c s).after) t ≡ txn_at (facing n s) t
  pub step : (y : Txn) (ls : List Lock) → Stays (txn_at (facing n s) t) y
      → step sc c (moved n t y ls s) ≡ moved_step n t y (on_locks ls) (step sc c s)

-- t has begun, and is active at no other node than n
pub record IsSettled (n : Node) (t : ℕ) (v : View) : Type 0 where
  pub begun : is_new (txn_at v t).status ≡ false
  pub own : is_active (txn_at v t).status ≡ true → same_node (txn_at v t).node n ≡ true

-- a choice of the other node than n, a start, a begin, or a kill of another transaction than t
abbrev pub IsApart : Node → ℕ → Choice → Type 0
IsApart n t Start = Unit {0}
IsApart n t (Begin u) = Unit {0}
IsApart n t (Kill u) = u ≡ t → ⊥
IsApart n t (Run m u) = m ≡ other n
IsApart n t (Take m) = m ≡ other n
IsApart n t (Finish m) = m ≡ other n
IsApart n t (Push m) = m ≡ other n

-- ---- nodes

-- a node is this one or the other
either : (k n : Node) → (k ≡ n) ⊎ (k ≡ other n)
either A A = inl refl
either A B = inr refl
either B A = inr refl
either B B = inl refl

-- who is at a node is not at the other
not_other : (k n : Node) → same_node k n ≡ true → same_node k (other n) ≡ false
not_other A A e = refl
not_other A B e = absurd (false≢true e)
not_other B A e = absurd (false≢true e)
not_other B B e = refl

-- what is active has begun
pub has_begun : (x : Status) → is_active x ≡ true → is_new x ≡ false
has_begun New e = absurd (false≢true e)
has_begun Active e = refl
has_begun Committed e = refl
has_begun (Aborted w) e = refl

-- ---- a choice of the other side

-- the view of the other node
far_view : (n : Node) (t : ℕ) (y : Txn) (ls : List Lock) (s : State)
    → facing (other n) (moved n t y ls s) ≡ aside t y (record (facing n s).me { locks = ls }) (facing (other n) s)
far_view A t y ls s = refl
far_view B t y ls s = refl

-- the state of such a view
far_state : (n : Node) (t : ℕ) (y : Txn) (ls : List Lock) (z : NodeState) (w : View) → w.them ≡ z
    → seen_from (other n) (aside t y (record z { locks = ls }) w) ≡ moved n t y ls (seen_from (other n) w)
far_state A t y ls z w e = ap (λ (x : NodeState). seen_from B (aside t y (record x { locks = ls }) w)) (sym e)
far_state B t y ls z w e = ap (λ (x : NodeState). seen_from A (aside t y (record x { locks = ls }) w)) (sym e)

-- a node sees itself as the other one sees it
far_me : (n : Node) (w : View) → (facing n (seen_from (other n) w)).me ≡ w.them
far_me A w = refl
far_me B w = refl

-- a node is seen by the other one
seen_me : (n : Node) (s : State) → (facing (other n) s).them ≡ (facing n s).me
seen_me A s = refl
seen_me B s = refl

-- a transaction is the same for both
far_txn : (n : Node) (t : ℕ) (w : View) → txn_at (facing n (seen_from (other n) w)) t ≡ txn_at w t
unfolding txn_at
far_txn A t w = refl
far_txn B t w = refl

-- a transaction is the same from both sides
seen_txn : (n : Node) (t : ℕ) (s : State) → txn_at (facing (other n) s) t ≡ txn_at (facing n s) t
unfolding txn_at
seen_txn A t s = refl
seen_txn B t s = refl

-- ---- the client's side

-- what is set in place of t has its status
set_status : (v w : View) (t : ℕ) (y : Txn) → w.txns ≡ slice_set v.txns t y → Stays (txn_at v t) y → (txn_at w t).status ≡ (txn_at v t).status
set_status v w t y e stays = elim (at_either v w t y e) [
  | inl new ↦ ap (λ (x : Txn). x.status) new ∙ stays.status
  | inr old ↦ ap (λ (x : Txn). x.status) old
]

-- t has its status
moved_status : (n : Node) (t : ℕ) (y : Txn) (ls : List Lock) (s : State) → Stays (txn_at (facing n s) t) y
    → (txn_at (facing n (moved n t y ls s)) t).status ≡ (txn_at (facing n s) t).status
unfolding txn_at
moved_status A t y ls s stays = set_status (facing A s) (facing A (moved A t y ls s)) t y refl stays
moved_status B t y ls s stays = set_status (facing B s) (facing B (moved B t y ls s)) t y refl stays

-- t is the one that was set
moved_own : (n : Node) (t : ℕ) (y : Txn) (ls : List Lock) (s : State) → is_active (txn_at (facing n s) t).status ≡ true
    → txn_at (facing A (moved n t y ls s)) t ≡ y
unfolding txn_at
moved_own A t y ls s on = at_self (facing A s) (facing A (moved A t y ls s)) t y refl on
moved_own B t y ls s on = at_self (facing B s) (facing B (moved B t y ls s)) t y refl on

-- the others are as they were
moved_other : (n : Node) (t u : ℕ) (y : Txn) (ls : List Lock) (s : State) → (u ≡ t → ⊥)
    → txn_at (facing A (moved n t y ls s)) u ≡ txn_at (facing A s) u
unfolding txn_at
moved_other A t u y ls s far = at_other (facing A s) (facing A (moved A t y ls s)) t u y refl far
moved_other B t u y ls s far = at_other (facing B s) (facing B (moved B t y ls s)) t u y refl far

-- there are as many
moved_many : (n : Node) (t : ℕ) (y : Txn) (ls : List Lock) (s : State) → length (facing A s).txns ≡ length (facing A (moved n t y ls s)).txns
moved_many A t y ls s = sym (length-set s.txns t y)
moved_many B t y ls s = sym (length-set s.txns t y)

-- the modes are the same
moved_mode : (n : Node) (t : ℕ) (y : Txn) (ls : List Lock) (s : State) → (facing A s).me.mode ≡ (facing A (moved n t y ls s)).me.mode
moved_mode A t y ls s = refl
moved_mode B t y ls s = refl

moved_far_mode : (n : Node) (t : ℕ) (y : Txn) (ls : List Lock) (s : State) → (facing A s).them.mode ≡ (facing A (moved n t y ls s)).them.mode
moved_far_mode A t y ls s = refl
moved_far_mode B t y ls s = refl

-- a start is made from the side that it was made from
pub start_side : (sc : Scenario) (n : Node) (t : ℕ) (y : Txn) (ls : List Lock) (s : State) → side_of sc Start (moved n t y ls s) ≡ side_of sc Start s
start_side sc A t y ls s = refl
start_side sc B t y ls s = refl

-- a state where transaction u is set
abbrev with_one : ℕ → Txn → State → State
with_one u x s = seen_from A (with_txn u x (facing A s))

-- where t and locks are others, too
moved_with : (n : Node) (t u : ℕ) (y x : Txn) (ls : List Lock) (s : State) → (u ≡ t → ⊥)
    → with_one u x (moved n t y ls s) ≡ moved n t y ls (with_one u x s)
moved_with A t u y x ls s far = ap (λ (zs : List Txn). record (moved A t y ls s) { txns = zs }) (set_swap s.txns t u y x far)
moved_with B t u y x ls s far = ap (λ (zs : List Txn). record (moved B t y ls s) { txns = zs }) (set_swap s.txns t u y x far)

-- each node is as it was
with_one_me : (n : Node) (u : ℕ) (x : Txn) (s : State) → (facing n (with_one u x s)).me ≡ (facing n s).me
with_one_me A u x s = refl
with_one_me B u x s = refl

-- and so is each other transaction
with_one_txn : (n : Node) (t u : ℕ) (x : Txn) (s : State) → (t ≡ u → ⊥) → txn_at (facing n (with_one u x s)) t ≡ txn_at (facing n s) t
with_one_txn A t u x s far = at_other (facing A s) (facing A (with_one u x s)) u t x refl far
with_one_txn B t u x s far = at_other (facing B s) (facing B (with_one u x s)) u t x refl far

-- and settled for both
seen_settled : (n : Node) (t : ℕ) (s : State) → IsSettled n t (facing n s) → IsSettled n t (facing (other n) s)
seen_settled n t s k = record {
  begun = ap (λ (x : Txn). is_new x.status) (seen_txn n t s) ∙ k.begun;
  own = λ on.
      ap (λ (x : Txn). same_node x.node n) (seen_txn n t s) ∙ k.own (sym (ap (λ (x : Txn). is_active x.status) (seen_txn n t s)) ∙ on);
}

-- a choice, seen from its side, leaves t and the other node, and does the same beside another t
pub record Far (sc : Scenario) (t : ℕ) (c : Choice) (v : View) : Type 0 where
  pub them : (move sc c v).after.them ≡ v.them
  pub txn : txn_at (move sc c v).after t ≡ txn_at v t
  pub beside : (y : Txn) (z : NodeState) → Stays (txn_at v t) y → z.mode ≡ v.them.mode → move sc c (aside t y z v) ≡ aside_move t y z (move sc c v)

module _ (sc : Scenario) (n : Node) (t : ℕ) (s : State) where
  -- a choice of the other side
  far_passes : (c : Choice) → side_of sc c s ≡ other n → ((y : Txn) (ls : List Lock) → side_of sc c (moved n t y ls s) ≡ other n)
      → Far sc t c (facing (other n) s) → Passes sc n t s c
  unfolding step
  far_passes c side sides far =
      let v = facing (other n) s in
      let m = move sc c v in
      let here : step sc c s ≡ as_step (other n) m = ap (λ (k : Node). as_step k (move sc c (facing k s))) side in
      let me : m.after.them ≡ (facing n s).me = far.them ∙ seen_me n s in
      record {
        mode = (facing n s).me.mode;
        awake = λ e. e;
        on_locks = same;
        fair = same_fair t;
        me = ap (λ (x : Step). (facing n x.after).me) here ∙ (far_me n m.after ∙ me);
        txn = ap (λ (x : Step). txn_at (facing n x.after) t) here ∙ (far_txn n t m.after ∙ (far.txn ∙ seen_txn n t s));
        step = λ y ls stays.
            let u = moved n t y ls s in
            let z = record (facing n s).me { locks = ls } in
            ap (λ (k : Node). as_step k (move sc c (facing k u))) (sides y ls)
            ∙ (ap (λ (w : View). as_step (other n) (move sc c w)) (far_view n t y ls s)
            ∙ (ap (as_step (other n)) (far.beside y z (subst (λ (x : Txn). Stays x y) (sym (seen_txn n t s)) stays)
            (ap (λ (x : NodeState). x.mode) (sym (seen_me n s))))
            ∙ (ap (λ (r : State). record { after = r; outcome = m.outcome; sent = m.sent }) (far_state n t y ls (facing n s).me m.after me)
            ∙ ap (moved_step n t y ls) (sym here))));
      }

  -- ---- the choices of the other node, seen from there

  module _ (v : View) where
    -- a run of another transaction
    far_run : (m : Node) (u : ℕ) → (u ≡ t → ⊥) → Far sc t (Run m u) v
    unfolding move
    far_run m u far =
        let c = move_changes sc (Run m u) v in
        record {
          them = ap (λ (w : View). w.them) c;
          txn = at_other v (run_step sc m u v).after u t _ (ap (λ (w : View). w.txns) c) (λ e. far (sym e));
          beside = λ y z _ _. runs_aside t y z sc m u v far;
        }

    -- a run of t, which does not run there
    far_still : (m : Node) (o : Outcome) → run_step sc m t v ≡ quiet v o
        → ((y : Txn) (z : NodeState) → Stays (txn_at v t) y → run_step sc m t (aside t y z v) ≡ aside_move t y z (run_step sc m t v)) → Far sc t (Run m t) v
    unfolding move
    far_still m o e beside = record {
      them = ap (λ (k : Move). k.after.them) e;
      txn = ap (λ (k : Move). txn_at k.after t) e;
      beside = λ y z stays _. beside y z stays;
    }

    -- which is active at no other node than n
    far_own : IsSettled n t v → Far sc t (Run (other n) t) v
    far_own settled = elim (cases_Bool (is_active (txn_at v t).status)) [
      | inl on ↦
          let off = not_other _ n (settled.own on) in
          far_still (other n) outcome.Elsewhere (elsewhere t (txn_at v t) v.them sc (other n) v on off)
          (λ y z stays. runs_elsewhere t y z sc (other n) v on off stays)
      | inr off ↦
          far_still (other n) outcome.Idle (idle t (txn_at v t) v.them sc (other n) v off) (λ y z stays. runs_idle t y z sc (other n) v off stays)
    ]

    -- a start
    far_start : Far sc t Start v
    unfolding move txn_at
    far_start =
        let c = move_changes sc Start v in
        record {
          them = ap (λ (w : View). w.them) c;
          txn = ap (λ (w : View). txn_at w t) c;
          beside = λ y z _ mode. starts_aside t y z sc v mode;
        }

    -- a take
    far_take : (m : Node) → Far sc t (Take m) v
    unfolding move txn_at
    far_take m =
        let c = move_changes sc (Take m) v in
        record {
          them = ap (λ (w : View). w.them) c;
          txn = ap (λ (w : View). txn_at w t) c;
          beside = λ y z _ _. takes_aside t y z sc v;
        }

    -- a finish
    far_finish : (m : Node) → Far sc t (Finish m) v
    unfolding move txn_at
    far_finish m =
        let c = move_changes sc (Finish m) v in
        record {
          them = ap (λ (w : View). w.them) c;
          txn = ap (λ (w : View). txn_at w t) c;
          beside = λ y z stays _. finishes_aside t y z sc m v stays;
        }

    -- a push
    far_push : (m : Node) → Far sc t (Push m) v
    unfolding move txn_at
    far_push m =
        let c = move_changes sc (Push m) v in
        record {
          them = ap (λ (w : View). w.them) c;
          txn = ap (λ (w : View). txn_at w t) c;
          beside = λ y z _ _. pushes_aside t y z sc m v;
        }

    -- a kill of another transaction
    far_kill : (u : ℕ) → (u ≡ t → ⊥) → Far sc t (Kill u) v
    unfolding move
    far_kill u far =
        let c = move_changes sc (Kill u) v in
        record {
          them = ap (λ (w : View). w.them) c;
          txn = at_other v (kill_step u v).after u t _ (ap (λ (w : View). w.txns) c) (λ e. far (sym e));
          beside = λ y z _ _. kills_aside t y z sc u v far;
        }

  -- ---- a begin, which is seen from A

  -- a choice that does nothing where t has its status
  pub still_passes : (c : Choice) (o : Outcome)
      → ((r : State) → (txn_at (facing n r) t).status ≡ (txn_at (facing n s) t).status → step sc c r ≡ record { after = r; outcome = o; sent = None })
      → Passes sc n t s c
  still_passes c o still =
      let here = still s refl in
      record {
        mode = (facing n s).me.mode;
        awake = λ e. e;
        on_locks = same;
        fair = same_fair t;
        me = ap (λ (x : Step). (facing n x.after).me) here;
        txn = ap (λ (x : Step). txn_at (facing n x.after) t) here;
        step = λ y ls stays. still (moved n t y ls s) (moved_status n t y ls s stays) ∙ sym (ap (moved_step n t y ls) here);
      }

  -- a begin of t, which has begun
  begins_own : is_new (txn_at (facing n s) t).status ≡ false → Passes sc n t s (Begin t)
  unfolding step move begin_step
  begins_own begun = still_passes (Begin t) outcome.Idle (λ r e.
      let old : is_new (txn_at (facing A r) t).status ≡ false =
      ap (λ (x : Txn). is_new x.status) (at_side A r t ∙ sym (at_side n r t)) ∙ (ap is_new e ∙ begun) in
      rw old refl)

  -- a begin of another
  begins_other : (u : ℕ) → (u ≡ t → ⊥) → Passes sc n t s (Begin u)
  unfolding step move
  begins_other u far =
      let v = facing A s in
      let m = begin_step u v in
      let x = txn_at m.after u in
      let c : seen_from A m.after ≡ with_one u x s = ap (seen_from A) (move_changes sc (Begin u) v) in
      record {
        mode = (facing n s).me.mode;
        awake = λ e. e;
        on_locks = same;
        fair = same_fair t;
        me = ap (λ (r : State). (facing n r).me) c ∙ with_one_me n u x s;
        txn = ap (λ (r : State). txn_at (facing n r) t) c ∙ with_one_txn n t u x s (λ e. far (sym e));
        step = λ y ls _.
            let w = facing A (moved n t y ls s) in
            ap (as_step A) (begins u v w (moved_many n t y ls s) (sym (moved_other n t u y ls s far)) (moved_mode n t y ls s) (moved_far_mode n t y ls s))
            ∙ ap (λ (r : State). record { after = r; outcome = m.outcome; sent = m.sent })
            (moved_with n t u y x ls s far ∙ ap (moved n t y ls) (sym c));
      }

  -- ---- a start at n

  -- the view of n
  pub near_view : (y : Txn) (ls : List Lock) → facing n (moved n t y ls s) ≡ put t y ls (facing n s)
  near_view y ls = face n (put t y ls (facing n s))

  -- the state of such a view
  pub near_state : (y : Txn) (ls : List Lock) (w : View) → seen_from n (put t y ls w) ≡ moved n t y ls (seen_from n w)
  near_state y ls w = ap (λ (v : View). seen_from n (put t y ls v)) (sym (face n w))

  -- where t and locks are others
  starts_put : (v : View) (y : Txn) (ls : List Lock) → start_step (put t y ls v) ≡ record (start_step v) { after = put t y ls (start_step v).after }
  unfolding start_step
  starts_put v y ls = put_both (may_start v.me.mode v.them.mode) _ _
    where
      put_both : (b : Bool) (m k : Move) → cond b (record m { after = put t y ls m.after }) (record k { after = put t y ls k.after })
          ≡ record (cond b m k) { after = put t y ls (cond b m k).after }
      put_both true m k = refl
      put_both false m k = refl

  -- the node after it
  starts_me : (v : View) → (start_step v).after.me ≡ record v.me { mode = (start_step v).after.me.mode }
  unfolding start_step
  starts_me v =
      cond_both (may_start v.me.mode v.them.mode) _ _ (λ (m : Move). m.after.me ≡ record v.me { mode = m.after.me.mode }) (λ _. refl) (λ _. refl)

  -- its mode
  starts_awake : (v : View) → is_waiting v.me.mode ≡ false → is_waiting (start_step v).after.me.mode ≡ false
  unfolding start_step
  starts_awake v e =
      cond_both (may_start v.me.mode v.them.mode) _ _ (λ (m : Move). is_waiting m.after.me.mode ≡ false) (λ _. refl) (λ _. e)

  -- a start at n
  starts_near : side_of sc Start s ≡ n → ((y : Txn) (ls : List Lock) → side_of sc Start (moved n t y ls s) ≡ n) → Passes sc n t s Start
  unfolding step move txn_at
  starts_near side sides =
      let v = facing n s in
      let m = start_step v in
      let c = move_changes sc Start v in
      let here : step sc Start s ≡ as_step n m = ap (λ (k : Node). as_step k (start_step (facing k s))) side in
      let back = ap (λ (x : Step). facing n x.after) here ∙ face n m.after in
      record {
        mode = m.after.me.mode;
        awake = starts_awake v;
        on_locks = same;
        fair = same_fair t;
        me = ap (λ (w : View). w.me) back ∙ starts_me v;
        txn = ap (λ (w : View). txn_at w t) back ∙ ap (λ (w : View). txn_at w t) c;
        step = λ y ls _.
            let r = moved n t y ls s in
            ap (λ (k : Node). as_step k (start_step (facing k r))) (sides y ls)
            ∙ (ap (λ (w : View). as_step n (start_step w)) (near_view y ls)
            ∙ (ap (as_step n) (starts_put v y ls)
            ∙ (ap (λ (z : State). record { after = z; outcome = m.outcome; sent = m.sent }) (near_state y ls m.after)
            ∙ ap (moved_step n t y ls) (sym here))));
      }

  -- a start
  starts_passes : Passes sc n t s Start
  starts_passes = elim (either (side_of sc Start s) n) [
    | inl e ↦ starts_near e (λ y ls. start_side sc n t y ls s ∙ e)
    | inr e ↦ far_passes Start e (λ y ls. start_side sc n t y ls s ∙ e) (far_start (facing (other n) s))
  ]

  -- ---- a kill of a transaction at n

  module _ (u : ℕ) (far : u ≡ t → ⊥) where
    -- what it does to locks
    abbrev dropped : Bool → List Lock → List Lock
    dropped true ls = drop_locks u ls
    dropped false ls = ls

    -- that is fair
    dropped_fair : (b : Bool) → IsFair t (dropped b)
    dropped_fair true = drop_fair t u far
    dropped_fair false = same_fair t

    -- what it does
    killed : (b : Bool) (w : View) → is_active (txn_at w u).status ≡ b
        → kill_step u w ≡ cond b (quiet (aborted u why.Killed w) (outcome.Aborted why.Killed)) (quiet w outcome.Idle)
    unfolding kill_step
    killed b w e = ap (λ (x : Bool). cond x (quiet (aborted u why.Killed w) (outcome.Aborted why.Killed)) (quiet w outcome.Idle)) e

    -- where t and locks are others
    kills_put : (b : Bool) (v : View) (y : Txn) (ls : List Lock) → is_active (txn_at v u).status ≡ b
        → kill_step u (put t y ls v) ≡ record (kill_step u v) { after = put t y (dropped b ls) (kill_step u v).after }
    unfolding aborted
    kills_put true v y ls e =
        let w = put t y ls v in
        let q : txn_at w u ≡ txn_at v u = at_other v w t u y refl far in
        killed true w (ap (λ (x : Txn). is_active x.status) q ∙ e)
        ∙ (ap (λ (x : Txn). quiet (record w {
          me = record v.me { locks = drop_locks u ls };
          txns = slice_set w.txns u (record x { status = Aborted why.Killed; rows = [] });
        }) (outcome.Aborted why.Killed)) q
        ∙ (ap (λ (zs : List Txn). quiet (record w { me = record v.me { locks = drop_locks u ls }; txns = zs }) (outcome.Aborted why.Killed))
        (set_swap v.txns t u y (record (txn_at v u) { status = Aborted why.Killed; rows = [] }) far)
        ∙ sym (ap (λ (k : Move). record k { after = put t y (drop_locks u ls) k.after }) (killed true v e))))
    kills_put false v y ls e =
        let w = put t y ls v in
        let q : txn_at w u ≡ txn_at v u = at_other v w t u y refl far in
        killed false w (ap (λ (x : Txn). is_active x.status) q ∙ e)
        ∙ sym (ap (λ (k : Move). record k { after = put t y ls k.after }) (killed false v e))

    -- the node after it
    kills_me : (b : Bool) (v : View) → is_active (txn_at v u).status ≡ b → (kill_step u v).after.me ≡ record v.me { locks = dropped b v.me.locks }
    unfolding aborted
    kills_me true v e = ap (λ (k : Move). k.after.me) (killed true v e)
    kills_me false v e = ap (λ (k : Move). k.after.me) (killed false v e)

    -- a kill at n
    kills_near : side_of sc (Kill u) s ≡ n → ((y : Txn) (ls : List Lock) → side_of sc (Kill u) (moved n t y ls s) ≡ n) → Passes sc n t s (Kill u)
    unfolding step move
    kills_near side sides =
        let v = facing n s in
        let m = kill_step u v in
        let b = is_active (txn_at v u).status in
        let c = move_changes sc (Kill u) v in
        let here : step sc (Kill u) s ≡ as_step n m = ap (λ (k : Node). as_step k (kill_step u (facing k s))) side in
        let back = ap (λ (x : Step). facing n x.after) here ∙ face n m.after in
        record {
          mode = v.me.mode;
          awake = λ e. e;
          on_locks = dropped b;
          fair = dropped_fair b;
          me = ap (λ (w : View). w.me) back ∙ kills_me b v refl;
          txn = ap (λ (w : View). txn_at w t) back ∙ at_other v m.after u t _ (ap (λ (w : View). w.txns) c) (λ e. far (sym e));
          step = λ y ls _.
              let r = moved n t y ls s in
              ap (λ (k : Node). as_step k (kill_step u (facing k r))) (sides y ls)
              ∙ (ap (λ (w : View). as_step n (kill_step u w)) (near_view y ls)
              ∙ (ap (as_step n) (kills_put b v y ls refl)
              ∙ (ap (λ (z : State). record { after = z; outcome = m.outcome; sent = m.sent }) (near_state y (dropped b ls) m.after)
              ∙ ap (moved_step n t y (dropped b ls)) (sym here))));
        }

    -- the side of a kill is the same where t and locks are others
    kill_side : (y : Txn) (ls : List Lock) → side_of sc (Kill u) (moved n t y ls s) ≡ side_of sc (Kill u) s
    kill_side y ls =
        ap (λ (x : Txn). x.node) (sym (at_side A (moved n t y ls s) u) ∙ (moved_other n t u y ls s far ∙ at_side A s u))

    -- a kill
    kills_passes : Passes sc n t s (Kill u)
    kills_passes = elim (either (side_of sc (Kill u) s) n) [
      | inl e ↦ kills_near e (λ y ls. kill_side y ls ∙ e)
      | inr e ↦ far_passes (Kill u) e (λ y ls. kill_side y ls ∙ e) (far_kill (facing (other n) s) u far)
    ]

  -- ---- any choice that is apart

  module _ (settled : IsSettled n t (facing n s)) where
    -- a begin
    begins_passes : (u : ℕ) → Passes sc n t s (Begin u)
    begins_passes u = elim (cases_eq u t) [
      | inl e ↦ subst (λ (x : ℕ). Passes sc n t s (Begin x)) (sym e) (begins_own settled.begun)
      | inr far ↦ begins_other u far
    ]

    -- a run of the other node
    run_passes : (u : ℕ) → Passes sc n t s (Run (other n) u)
    run_passes u =
        let v = facing (other n) s in
        far_passes (Run (other n) u) refl (λ y ls. refl) (elim (cases_eq u t) [
          | inl e ↦ subst (λ (x : ℕ). Far sc t (Run (other n) x) v) (sym e) (far_own v (seen_settled n t s settled))
          | inr far ↦ far_run v (other n) u far
        ])

    -- each choice that is apart
    pub apart_passes : (c : Choice) → IsApart n t c → Passes sc n t s c
    apart_passes Start h = starts_passes
    apart_passes (Begin u) h = begins_passes u
    apart_passes (Kill u) h = kills_passes u h
    apart_passes (Run m u) h = subst (λ (k : Node). Passes sc n t s (Run k u)) (sym h) (run_passes u)
    apart_passes (Take m) h =
        subst (λ (k : Node). Passes sc n t s (Take k)) (sym h)
        (far_passes (Take (other n)) refl (λ y ls. refl) (far_take (facing (other n) s) (other n)))
    apart_passes (Finish m) h =
        subst (λ (k : Node). Passes sc n t s (Finish k)) (sym h)
        (far_passes (Finish (other n)) refl (λ y ls. refl) (far_finish (facing (other n) s) (other n)))
    apart_passes (Push m) h =
        subst (λ (k : Node). Passes sc n t s (Push k)) (sym h)
        (far_passes (Push (other n)) refl (λ y ls. refl) (far_push (facing (other n) s) (other n)))
