-- What the steps but a run read, and what they put behind what is there: line by line.
use Rattle.std.proofs.Common.{◌≡◌, ◌∙◌, ℕ, List, [], ◌∷◌, ◌++◌, length, refl, sym, ap, true, false, not}
use Rattle.std.proofs.Common.{◌&&◌, Bool, Option, Some, None, cond, append_assoc}
use Rattle.std.specs.Prelude.{slice_set}
use Rattle.zy_isa.specs.declared.node.Node.{Node}
use Rattle.zy_isa.specs.Scenario.{Scenario}
use Rattle.zy_model.specs.Locks.{is_locked}
use Rattle.zy_model.specs.Messages.{Message, Wire, Ready, Dual, Pull, Page, Finish, Done}
use Rattle.zy_model.specs.declared.kind.Kind.{Kind}
use Rattle.zy_model.specs.declared.kind.Kind.TheVariants as kind
use Rattle.zy_model.specs.declared.mode.NodeMode.{NodeMode}
use Rattle.zy_model.specs.declared.mode.NodeMode.TheVariants.{SInit, SFinish}
use Rattle.zy_model.specs.declared.table.MessageLine.{MessageLine}
use Rattle.zy_model.specs.declared.table.MessageLine.TheVariants.{Stray, Turns}
use Rattle.zy_model.specs.declared.table.FinishLine.{FinishLine}
use Rattle.zy_model.specs.declared.table.FinishLine.TheVariants as fin
use Rattle.zy_model.specs.Table.{may_start, may_push, home_of}
use Rattle.zy_table.specs.declared.entry.CommitRecord.{CommitRecord}
use Rattle.zy_table.specs.declared.outcome.Why.TheVariants as why
use Rattle.zy_table.specs.declared.outcome.Outcome.{Outcome}
use Rattle.zy_table.specs.declared.outcome.Outcome.TheVariants as outcome
use Rattle.zy_table.specs.State.{View, NodeState, Move, Txn, with_me, post}
use Rattle.zy_table.specs.Pages.{owns, leaf_at, without}
use Rattle.zy_table.specs.Change.{quiet, sends, txn_at, begun, aborted, leaves, turns}
use Rattle.zy_table.specs.Client.{is_new, is_active, start_step, begin_at, begin_step, kill_step}
use Rattle.zy_table.specs.Push.{active_from, finish_if, finish_step, push_if, push_step}
use Rattle.zy_table.specs.Take.{is_held, with_answer, arrival_step, pull_step, message_step, front_step, take_step}
use Rattle.zy_steps.proofs.SetTxns.{set_own, set_in}

-- two moves by one test
both : (f : Move → Move) (b : Bool) (x y z w : Move) → x ≡ f z → y ≡ f w → cond b x y ≡ f (cond b z w)
both f true x y z w p q = p
both f false x y z w p q = q

-- an answer is put behind what is there
answers : (box ms : List Message) (sent : Option Kind) → with_answer sent (box ++ ms) ≡ box ++ with_answer sent ms
answers box ms None = refl
answers box ms (Some kind.Wire) = refl
answers box ms (Some kind.Ready) = append_assoc box ms _
answers box ms (Some kind.Dual) = append_assoc box ms _
answers box ms (Some kind.Pull) = refl
answers box ms (Some kind.Page) = refl
answers box ms (Some kind.Finish) = refl
answers box ms (Some kind.Done) = append_assoc box ms _

-- Transactions, commits and another node, messages before those of the outbound link, and another inbound link, which
-- follows from the one that is there.
module _ (far : NodeState) (inbound : List Message → List Message) (box : List Message) (ys : List Txn) (ds : List CommitRecord) where
  -- a view with these
  abbrev pub beside : View → View
  beside v = record v { them = far; inbox = inbound v.inbox; outbox = box ++ v.outbox; txns = ys; commits = ds }

  -- a move with these
  abbrev pub beside_move : Move → Move
  beside_move m = record m { after = beside m.after }

  -- a message is sent
  posts : (m : Message) (v : View) (o : Outcome) (k : Kind) → sends (post m (beside v)) o k ≡ beside_move (sends (post m v) o k)
  posts m v o k = ap (λ (ms : List Message). sends (record (beside v) { outbox = ms }) o k) (append_assoc box v.outbox (m ∷ []))

  -- a page leaves
  gives : (p : ℕ) (v : View) (o : Outcome) → sends (leaves p (beside v)) o kind.Page ≡ beside_move (sends (leaves p v) o kind.Page)
  unfolding leaves
  gives p v o = posts (Page (leaf_at v.me.pages p)) (with_me (record v.me { pages = without p v.me.pages }) v) o kind.Page

  -- a migration starts
  pub starts : (v : View) → far.mode ≡ v.them.mode → start_step (beside v) ≡ beside_move (start_step v)
  unfolding start_step
  starts v e =
      let m = post (Wire v.me.lows) in
      let wire = posts (Wire v.me.lows) (turns SInit v) outcome.Started kind.Wire in
      ap (λ (x : NodeMode). cond (may_start v.me.mode x) (sends (m (beside (turns SInit v))) outcome.Started kind.Wire) (quiet (beside v) outcome.BadMode)) e
      ∙ both beside_move (may_start v.me.mode v.them.mode) _ _ _ _ wire refl

  -- a node ends its part, if it may
  finishes_if : (line : FinishLine) (t : ℕ) (v : View) → finish_if line t (beside v) ≡ beside_move (finish_if line t v)
  unfolding finish_if
  finishes_if fin.BadMode t v = refl
  finishes_if fin.Active t v = refl
  finishes_if fin.Finishing t v = posts Finish (turns SFinish v) outcome.Finishing kind.Finish

  -- a node ends its part
  pub finishes : (n : Node) (v : View) → active_from n 0 ys ≡ active_from n 0 v.txns → finish_step n (beside v) ≡ beside_move (finish_step n v)
  unfolding finish_step
  finishes n v e = rw e (finishes_if _ _ v)

  -- a node pushes a page, if it has one
  pushes_if : (o : Option ℕ) (v : View) → push_if o (beside v) ≡ beside_move (push_if o v)
  unfolding push_if
  pushes_if None v = refl
  pushes_if (Some p) v = gives p v (outcome.Pushed p)

  -- a node pushes
  pub pushes : (v : View) → push_step (beside v) ≡ beside_move (push_step v)
  unfolding push_step
  pushes v = both beside_move (may_push v.me.mode) _ _ _ _ (pushes_if _ v) refl

  -- a message is taken, or is stray
  arrives : (line : MessageLine) (m : Message) (v r : View) → arrival_step line m (beside v) (beside r) ≡ beside_move (arrival_step line m v r)
  unfolding arrival_step
  arrives Stray m v r = refl
  arrives (Turns mode sent) m v r =
      let x = arrival_step (Turns mode sent) m v r in
      ap (λ (ms : List Message). record x { after = record (beside x.after) { outbox = ms } }) (answers box r.outbox sent)

  -- a page is asked for
  pulls : (sc : Scenario) (p : ℕ) (line : MessageLine) (v r : View) → pull_step sc p line (beside v) (beside r) ≡ beside_move (pull_step sc p line v r)
  unfolding pull_step
  pulls sc p Stray v r = refl
  pulls sc p (Turns mode sent) v r =
      both beside_move (not (owns v.me.pages p)) _ _ _ _ refl
      (both beside_move (is_held sc.rule && is_locked v.me.locks p) _ _ _ _ refl (gives p r (outcome.GotPull p)))

  -- any message
  messages : (sc : Scenario) (m : Message) (v r : View) → message_step sc m (beside v) (beside r) ≡ beside_move (message_step sc m v r)
  unfolding message_step
  messages sc (Wire lows) v r = arrives _ (Wire lows) v r
  messages sc Ready v r = arrives _ Ready v r
  messages sc Dual v r = arrives _ Dual v r
  messages sc (Pull p) v r = pulls sc p _ v r
  messages sc (Page leaf) v r = arrives _ (Page leaf) v r
  messages sc Finish v r = arrives _ Finish v r
  messages sc Done v r = arrives _ Done v r

-- an inbound link, whatever it was
abbrev pub whole : List Message → List Message → List Message
whole ms old = ms

-- a link with more messages behind it
abbrev pub before : List Message → List Message → List Message
before rest ms = ms ++ rest

-- A take looks at the first message alone: there may be more behind it.
module _ (far : NodeState) (rest : List Message) (box : List Message) (ys : List Txn) (ds : List CommitRecord) where
  -- the first message is taken
  pub takes_first : (sc : Scenario) (m : Message) (v : View)
      → take_step sc (beside far (before rest) box ys ds (record v { inbox = m ∷ [] }))
      ≡ beside_move far (before rest) box ys ds (take_step sc (record v { inbox = m ∷ [] }))
  unfolding take_step front_step
  takes_first sc m v = messages far (before rest) box ys ds sc m (record v { inbox = m ∷ [] }) (record v { inbox = [] })

-- A begin and a kill of t look at no link, no commit, and no transaction but t: from v and from w they are the same.
module _ (t : ℕ) (v w : View) (many : length v.txns ≡ length w.txns) (same : txn_at v t ≡ txn_at w t) where
  -- a move that leaves w, but for t and the node, which are as after the move from v
  abbrev pub set_in_view : NodeState → Move → Move
  set_in_view y m = record m { after = record w { me = y; txns = slice_set w.txns t (txn_at m.after t) } }

  -- t is set to what it is
  kept : w.txns ≡ slice_set w.txns t (txn_at v t)
  unfolding txn_at
  kept = sym (set_own w.txns t) ∙ ap (slice_set w.txns t) (sym same)

  -- nothing changes
  rests : (o : Outcome) → quiet w o ≡ set_in_view w.me (quiet v o)
  rests o = ap (λ (zs : List Txn). quiet (record w { txns = zs }) o) kept

  -- t is set, and the nodes may be others
  sets_one : (x : Txn) (y z : NodeState) (o : Outcome)
      → quiet (record w { me = z; txns = slice_set w.txns t x }) o ≡ set_in_view z (quiet (record v { me = y; txns = slice_set v.txns t x }) o)
  unfolding txn_at
  sets_one x y z o = ap (λ (zs : List Txn). quiet (record w { me = z; txns = zs }) o) (set_in v.txns w.txns t x many)

  -- it begins at a node, if there is one
  begins_at : (o : Option Node) → begin_at o t w ≡ set_in_view w.me (begin_at o t v)
  unfolding begin_at begun
  begins_at None = rests outcome.Idle
  begins_at (Some n) = sets_one _ v.me w.me (outcome.Began n)

  -- the node at which it begins
  home : v.me.mode ≡ w.me.mode → v.them.mode ≡ w.them.mode → home_of w.me.mode w.them.mode ≡ home_of v.me.mode v.them.mode
  home me them = rw (sym me, sym them) refl

  -- it begins
  pub begins : v.me.mode ≡ w.me.mode → v.them.mode ≡ w.them.mode → begin_step t w ≡ set_in_view w.me (begin_step t v)
  unfolding begin_step
  begins me them =
      ap (λ (x : Txn). cond (is_new x.status) (begin_at (home_of w.me.mode w.them.mode) t w) (quiet w outcome.Idle)) (sym same)
      ∙ (ap (λ (o : Option Node). cond (is_new (txn_at v t).status) (begin_at o t w) (quiet w outcome.Idle)) (home me them)
      ∙ both (set_in_view w.me) (is_new (txn_at v t).status) _ _ _ _ (begins_at _) (rests outcome.Idle))

  -- a move of a kill
  abbrev pub killed : Move → Move
  killed m = set_in_view m.after.me m

  -- it is aborted
  drops : v.me ≡ w.me → quiet (aborted t why.Killed w) (outcome.Aborted why.Killed) ≡ killed (quiet (aborted t why.Killed v) (outcome.Aborted why.Killed))
  unfolding aborted
  drops me = rw (sym same, sym me) (sets_one _ _ _ (outcome.Aborted why.Killed))

  -- nothing changes, and the node is the same
  stays : (o : Outcome) → v.me ≡ w.me → quiet w o ≡ killed (quiet v o)
  stays o me = rests o ∙ ap (λ (y : NodeState). set_in_view y (quiet v o)) (sym me)

  -- it is killed
  pub kills : v.me ≡ w.me → kill_step t w ≡ killed (kill_step t v)
  unfolding kill_step
  kills me = rw (sym same) (both killed (is_active (txn_at v t).status) _ _ _ _ (drops me) (stays outcome.Idle me))
