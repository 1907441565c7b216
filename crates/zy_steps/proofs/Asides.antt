-- A choice of one node does the same where the other node and a transaction that it does not read are others.
use Rattle.std.proofs.Common.{◌≡◌, ◌∙◌, ℕ, List, [], ◌∷◌, inl, inr, refl, sym, ap, true, false, Option}
use Rattle.std.specs.Prelude.{slice_set}
use Rattle.std.proofs.lemmas.List.{length-set}
use Rattle.zy_isa.specs.declared.node.Node.{Node}
use Rattle.zy_isa.specs.declared.choice.Choice.TheVariants.{Start, Kill, Run, Finish, Push}
use Rattle.zy_isa.specs.Scenario.{Scenario}
use Rattle.zy_model.specs.Messages.{Message}
use Rattle.zy_model.specs.declared.kind.Kind.{Kind}
use Rattle.zy_table.specs.declared.outcome.Outcome.{Outcome}
use Rattle.zy_table.specs.declared.outcome.Outcome.TheVariants as outcome
use Rattle.zy_table.specs.State.{View, NodeState, Move, Txn}
use Rattle.zy_table.specs.Change.{quiet, txn_at}
use Rattle.zy_table.specs.Client.{is_active, start_step, kill_step}
use Rattle.zy_table.specs.Run.{same_node, run_step}
use Rattle.zy_table.specs.Take.{front_step, take_step}
use Rattle.zy_table.specs.Push.{finish_step, push_step}
use Rattle.zy_table.specs.Play.{move}
use Rattle.zy_laws.proofs.walk.Txns.{at_either, at_other}
use Rattle.zy_steps.proofs.RunReads.{runs}
use Rattle.zy_steps.proofs.StepReads.{beside_move, finishes, kills, pushes, starts, takes_first}
use Rattle.zy_steps.proofs.SameMoves.{move_changes}
use Rattle.zy_steps.proofs.SetTwo.{Stays, set_swap, active_stays}
use Rattle.zy_steps.proofs.Numbered.{same_outcome}

-- a move by its parts
by_parts : (x y : Move) → x.after ≡ y.after → x.outcome ≡ y.outcome → x.sent ≡ y.sent → x ≡ y
by_parts x y a o k =
    ap (λ (w : View). record x { after = w }) a
    ∙ (ap (λ (r : Outcome). record x { after = y.after; outcome = r }) o
    ∙ ap (λ (s : Option Kind). record y { sent = s }) k)

-- Another transaction t, and another node on the other side.
module _ (t : ℕ) (y : Txn) (z : NodeState) where
  -- a view with these
  abbrev pub aside : View → View
  aside v = record v { them = z; txns = slice_set v.txns t y }

  -- a move with these
  abbrev pub aside_move : Move → Move
  aside_move m = record m { after = aside m.after }

  -- another transaction is what it was
  other_txn : (u : ℕ) (v : View) → (u ≡ t → ⊥) → txn_at (aside v) u ≡ txn_at v u
  other_txn u v far = at_other v (aside v) t u y refl far

  -- ---- a run

  -- a run of another transaction
  pub runs_aside : (sc : Scenario) (m : Node) (u : ℕ) (v : View) → (u ≡ t → ⊥) → run_step sc m u (aside v) ≡ aside_move (run_step sc m u v)
  unfolding move
  runs_aside sc m u v far =
      let x = run_step sc m u v in
      let ys = slice_set v.txns t y in
      let r = runs u z v.inbox [] ys [] sc m v (sym (length-set v.txns t y), other_txn u v far) in
      let c = move_changes sc (Run m u) v in
      let txns : slice_set ys u (txn_at x.after u) ≡ slice_set x.after.txns t y =
      set_swap v.txns t u y (txn_at x.after u) far ∙ sym (ap (λ (w : View). slice_set w.txns t y) c) in
      let after : (run_step sc m u (aside v)).after ≡ aside x.after =
      ap (λ (k : Move). k.after) r
      ∙ (ap (λ (ms : List Message). record x.after { them = z; inbox = ms; txns = slice_set ys u (txn_at x.after u) }) (sym (ap (λ (w : View). w.inbox) c))
      ∙ ap (λ (zs : List Txn). record x.after { them = z; txns = zs }) txns) in
      by_parts (run_step sc m u (aside v)) (aside_move x) after
      (same_outcome sc m m u u (aside v) v (ap (λ (k : Move). k.outcome) r) (ap (λ (w : View). w.commits) after))
      (ap (λ (k : Move). k.sent) r)

  -- t has its status and its node
  status_aside : (v : View) → Stays (txn_at v t) y → (txn_at (aside v) t).status ≡ (txn_at v t).status
  status_aside v stays = elim (at_either v (aside v) t y refl) [
    | inl e ↦ ap (λ (x : Txn). x.status) e ∙ stays.status
    | inr e ↦ ap (λ (x : Txn). x.status) e
  ]

  node_aside : (v : View) → Stays (txn_at v t) y → (txn_at (aside v) t).node ≡ (txn_at v t).node
  node_aside v stays = elim (at_either v (aside v) t y refl) [
    | inl e ↦ ap (λ (x : Txn). x.node) e ∙ stays.node
    | inr e ↦ ap (λ (x : Txn). x.node) e
  ]

  -- a run of t, where it is active at another node
  pub elsewhere : (sc : Scenario) (m : Node) (v : View) → is_active (txn_at v t).status ≡ true → same_node (txn_at v t).node m ≡ false
      → run_step sc m t v ≡ quiet v outcome.Elsewhere
  unfolding run_step
  elsewhere sc m v on off = rw (on, off) refl

  -- where it is active nowhere
  pub idle : (sc : Scenario) (m : Node) (v : View) → is_active (txn_at v t).status ≡ false → run_step sc m t v ≡ quiet v outcome.Idle
  unfolding run_step
  idle sc m v off = rw off refl

  -- it is active there still
  pub runs_elsewhere : (sc : Scenario) (m : Node) (v : View) → is_active (txn_at v t).status ≡ true → same_node (txn_at v t).node m ≡ false → Stays (txn_at v t) y
      → run_step sc m t (aside v) ≡ aside_move (run_step sc m t v)
  runs_elsewhere sc m v on off stays =
      elsewhere sc m (aside v) (ap is_active (status_aside v stays) ∙ on) (ap (λ (k : Node). same_node k m) (node_aside v stays) ∙ off)
      ∙ sym (ap aside_move (elsewhere sc m v on off))

  -- or nowhere still
  pub runs_idle : (sc : Scenario) (m : Node) (v : View) → is_active (txn_at v t).status ≡ false → Stays (txn_at v t) y
      → run_step sc m t (aside v) ≡ aside_move (run_step sc m t v)
  runs_idle sc m v off stays = idle sc m (aside v) (ap is_active (status_aside v stays) ∙ off) ∙ sym (ap aside_move (idle sc m v off))

  -- ---- a start, a finish, a push

  -- a link as it is
  abbrev link : List Message → List Message
  link ms = ms

  -- a move that changes no more than the node and the outbound link
  settles : (v : View) (x : Move) → x.after ≡ record v { me = x.after.me; outbox = x.after.outbox }
      → beside_move z link [] (slice_set v.txns t y) v.commits x ≡ aside_move x
  settles v x c =
      ap (λ (w : View). record x { after = record w { them = z; txns = slice_set v.txns t y; commits = v.commits } }) c
      ∙ sym (ap (λ (w : View). record x { after = aside w }) c)

  -- a start, where the other node is in the mode that it was in
  pub starts_aside : (sc : Scenario) (v : View) → z.mode ≡ v.them.mode → start_step (aside v) ≡ aside_move (start_step v)
  unfolding move
  starts_aside sc v mode =
      starts z link [] (slice_set v.txns t y) v.commits v mode ∙ settles v (start_step v) (move_changes sc Start v)

  -- a finish
  pub finishes_aside : (sc : Scenario) (m : Node) (v : View) → Stays (txn_at v t) y → finish_step m (aside v) ≡ aside_move (finish_step m v)
  unfolding move txn_at
  finishes_aside sc m v stays =
      finishes z link [] (slice_set v.txns t y) v.commits m v (active_stays m 0 v.txns t y stays)
      ∙ settles v (finish_step m v) (move_changes sc (Finish m) v)

  -- a push
  pub pushes_aside : (sc : Scenario) (m : Node) (v : View) → push_step (aside v) ≡ aside_move (push_step v)
  unfolding move
  pushes_aside sc m v = pushes z link [] (slice_set v.txns t y) v.commits v ∙ settles v (push_step v) (move_changes sc (Push m) v)

  -- ---- a take

  -- by the messages that wait
  takes_from : (sc : Scenario) (ms : List Message) (v : View)
      → take_step sc (aside (record v { inbox = ms })) ≡ aside_move (take_step sc (record v { inbox = ms }))
  unfolding take_step front_step
  takes_from sc [] v = refl
  takes_from sc (m ∷ ms) v =
      takes_first z ms [] (slice_set v.txns t y) v.commits sc m v
      ∙ sym (ap aside_move (takes_first v.them ms [] v.txns v.commits sc m v))

  -- a take
  pub takes_aside : (sc : Scenario) (v : View) → take_step sc (aside v) ≡ aside_move (take_step sc v)
  takes_aside sc v = takes_from sc v.inbox v

  -- ---- a kill

  -- a kill of another transaction
  pub kills_aside : (sc : Scenario) (u : ℕ) (v : View) → (u ≡ t → ⊥) → kill_step u (aside v) ≡ aside_move (kill_step u v)
  unfolding move
  kills_aside sc u v far =
      let x = kill_step u v in
      let c = move_changes sc (Kill u) v in
      kills u v (aside v) (sym (length-set v.txns t y)) (sym (other_txn u v far)) refl
      ∙ (ap (λ (zs : List Txn). record x { after = record v { me = x.after.me; them = z; txns = zs } }) (set_swap v.txns t u y (txn_at x.after u) far)
      ∙ sym (ap (λ (w : View). record x { after = aside w }) c))
