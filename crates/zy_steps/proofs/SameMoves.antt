-- From views that agree the same comes of a choice, and it changes no more than it writes.
use Rattle.std.proofs.Common.{◌≡◌, ◌∙◌, ℕ, List, [], ◌∷◌, ◌++◌, Option, length, refl, sym, ap, subst, inl, inr, append-nil}
use Rattle.std.specs.Prelude.{drop, slice_get, unwrap_or}
use Rattle.std.proofs.lemmas.Option.{none-some}
use Rattle.zy_isa.specs.declared.node.Node.{Node}
use Rattle.zy_isa.specs.declared.node.Node.TheVariants.{A}
use Rattle.zy_isa.specs.declared.choice.Choice.{Choice}
use Rattle.zy_isa.specs.declared.choice.Choice.TheVariants.{Start, Begin, Kill, Run, Take, Finish, Push}
use Rattle.zy_isa.specs.Scenario.{Scenario}
use Rattle.zy_model.specs.Messages.{Message}
use Rattle.zy_table.specs.State.{View, NodeState, Move, Txn, seen_from}
use Rattle.zy_table.specs.Change.{txn_at, with_txn}
use Rattle.zy_table.specs.Client.{start_step, begin_step, kill_step}
use Rattle.zy_table.specs.Run.{run_step}
use Rattle.zy_table.specs.Take.{front_step, take_step}
use Rattle.zy_table.specs.Push.{active_from, finish_step, push_step}
use Rattle.zy_table.specs.Play.{move, step}
use Rattle.zy_steps.specs.Frames.{OneLess}
use Rattle.zy_steps.specs.Reads.{Agree, uncounted, SameNode, SameTxn, SameMove, Changes}
use Rattle.zy_steps.proofs.Rest.{step_leaves}
use Rattle.zy_steps.proofs.SetTxns.{set_in, get_in}
use Rattle.zy_steps.proofs.RunReads.{bare, IsLaid, runs}
use Rattle.zy_steps.proofs.StepReads.{beside, beside_move, whole, before, starts, finishes, pushes, takes_first, begins, kills}

-- ---- a view with fewer messages and commits

-- nothing waits in the outbound link, and there is no commit
abbrev plain : View → View
plain v = record v { outbox = []; commits = [] }

-- such a view, with the rest of another put in
over_plain : (v w : View) → v.me ≡ w.me
    → w ≡ record w { me = (plain v).me; outbox = w.outbox ++ (plain v).outbox; commits = w.commits ++ (plain v).commits }
over_plain v w me = rw (me, append-nil w.outbox, append-nil w.commits) refl

-- ---- a transaction of a view

-- a view in which one is set is the old one, with that one in it
one_set : (t : ℕ) (x : Txn) (v : View) → with_txn t x v ≡ with_txn t (txn_at (with_txn t x v) t) v
unfolding txn_at
one_set t x v = ap (λ (zs : List Txn). record v { txns = zs }) (set_in v.txns v.txns t x refl)

-- ---- a run

module _ (sc : Scenario) (n : Node) (t : ℕ) where
  -- the move from a view, by that from another view with the same node and transaction, which is plain
  from_plain : (v w : View) → length v.txns ≡ length w.txns → v.me ≡ w.me → txn_at v t ≡ txn_at w t
      → IsLaid t w.them w.inbox w.outbox w.txns w.commits (run_step sc n t w) (run_step sc n t (plain v))
  unfolding txn_at
  from_plain v w many me txn =
      ap (λ (x : View). bare (run_step sc n t x)) (over_plain v w me)
      ∙ runs t w.them w.inbox w.outbox w.txns w.commits sc n (plain v) (many, sym txn)

  -- the same comes of a run
  run_same : (v w : View) → length v.txns ≡ length w.txns → Agree (Run n t) v w → SameMove (Run n t) v w (run_step sc n t v) (run_step sc n t w)
  unfolding txn_at
  run_same v w many (me, txn) =
      let e = from_plain v v refl refl refl in
      let f = from_plain v w many me txn in
      let m = run_step sc n t (plain v) in
      record {
        me = ap (λ (x : Move). x.after.me) e ∙ sym (ap (λ (x : Move). x.after.me) f);
        txn =
            ap (λ (x : Move). txn_at x.after t) e
            ∙ (get_in v.txns w.txns t (txn_at m.after t) many ∙ sym (ap (λ (x : Move). txn_at x.after t) f));
        posts = (m.after.outbox, (ap (λ (x : Move). x.after.outbox) e, ap (λ (x : Move). x.after.outbox) f));
        commits = (m.after.commits, (ap (λ (x : Move). x.after.commits) e, ap (λ (x : Move). x.after.commits) f));
        taken = (0, (ap (λ (x : Move). x.after.inbox) e, ap (λ (x : Move). x.after.inbox) f));
        outcome = ap (λ (x : Move). x.outcome) e ∙ sym (ap (λ (x : Move). x.outcome) f);
        sent = ap (λ (x : Move). x.sent) e ∙ sym (ap (λ (x : Move). x.sent) f);
      }

  -- what a run changes
  run_changes : (v : View) → Changes (Run n t) v (run_step sc n t v).after
  run_changes v =
      let m = run_step sc n t (plain v) in
      subst (λ (x : View). Changes (Run n t) v x) (sym (ap (λ (x : Move). x.after) (from_plain v v refl refl refl)))
      (one_set t (txn_at m.after t) (record v { me = m.after.me; outbox = v.outbox ++ m.after.outbox; commits = v.commits ++ m.after.commits }))

-- ---- a begin, a kill

-- Moves from v and w that leave them as they were, but for the node and the transactions.
module _ (c : Choice) (v w : View) (x y z : Move) (me us : NodeState) (xs ys : List Txn)
    (e : x ≡ record z { after = record v { me = me; txns = xs } }) (f : y ≡ record z { after = record w { me = us; txns = ys } }) where
  -- the same comes of them, where the node and the transaction are the same
  lone_same : SameNode c x.after y.after → SameTxn c x.after y.after → SameMove c v w x y
  lone_same node txn = record {
    me = node;
    txn = txn;
    posts = (
      [],
      (
        ap (λ (m : Move). m.after.outbox) e ∙ sym (append-nil v.outbox),
        ap (λ (m : Move). m.after.outbox) f ∙ sym (append-nil w.outbox),
      ),
    );
    commits = (
      [],
      (
        ap (λ (m : Move). m.after.commits) e ∙ sym (append-nil v.commits),
        ap (λ (m : Move). m.after.commits) f ∙ sym (append-nil w.commits),
      ),
    );
    taken = (0, (ap (λ (m : Move). m.after.inbox) e, ap (λ (m : Move). m.after.inbox) f));
    outcome = ap (λ (m : Move). uncounted m.outcome) e ∙ sym (ap (λ (m : Move). uncounted m.outcome) f);
    sent = ap (λ (m : Move). m.sent) e ∙ sym (ap (λ (m : Move). m.sent) f);
  }

-- the same comes of a begin
begin_same : (t : ℕ) (v w : View) → length v.txns ≡ length w.txns → Agree (Begin t) v w
    → SameMove (Begin t) v w (begin_step t v) (begin_step t w)
unfolding txn_at
begin_same t v w many (me, (them, txn)) =
    let e = begins t v v refl refl refl refl in
    let f = begins t v w many txn me them in
    let m = begin_step t v in
    lone_same (Begin t) v w _ _ m _ _ _ _ e f tt
    (ap (λ (x : Move). txn_at x.after t) e
    ∙ (get_in v.txns w.txns t (txn_at m.after t) many ∙ sym (ap (λ (x : Move). txn_at x.after t) f)))

-- what a begin changes
begin_changes : (t : ℕ) (v : View) → Changes (Begin t) v (begin_step t v).after
begin_changes t v = ap (λ (x : Move). x.after) (begins t v v refl refl refl refl)

-- the same comes of a kill
kill_same : (t : ℕ) (v w : View) → length v.txns ≡ length w.txns → Agree (Kill t) v w
    → SameMove (Kill t) v w (kill_step t v) (kill_step t w)
unfolding txn_at
kill_same t v w many (me, txn) =
    let e = kills t v v refl refl refl in
    let f = kills t v w many txn me in
    let m = kill_step t v in
    lone_same (Kill t) v w _ _ m _ _ _ _ e f (sym (ap (λ (x : Move). x.after.me) f))
    (ap (λ (x : Move). txn_at x.after t) e
    ∙ (get_in v.txns w.txns t (txn_at m.after t) many ∙ sym (ap (λ (x : Move). txn_at x.after t) f)))

-- what a kill changes
kill_changes : (t : ℕ) (v : View) → Changes (Kill t) v (kill_step t v).after
kill_changes t v = ap (λ (x : Move). x.after) (kills t v v refl refl refl)

-- ---- a start, a take, a finish, a push

-- as many messages are taken off each link that begins as the old one does
taken_off : (old new : List Message) → OneLess old new
    → (k : ℕ) × ((inbox rest : List Message) → inbox ≡ old ++ rest → new ++ rest ≡ drop k inbox)
taken_off old new (inl e) = (0, λ inbox rest f. ap (λ (ms : List Message). ms ++ rest) e ∙ sym f)
taken_off old new (inr (m, e)) = (1, λ inbox rest f. sym (ap (drop 1) (f ∙ ap (λ (ms : List Message). ms ++ rest) e)))

-- Moves from v and w that put messages behind those of the outbound link, and leave all else but the node and the
-- inbound link.
module _ (c : Choice) (v w : View) (x y z : Move) (i j : List Message → List Message)
    (e : x ≡ beside_move v.them i v.outbox v.txns v.commits z) (f : y ≡ beside_move w.them j w.outbox w.txns w.commits z) where
  -- the same comes of them, where the choice names no transaction
  beside_same : SameTxn c x.after y.after → (x.after.me ≡ y.after.me → SameNode c x.after y.after)
      → (k : ℕ) × ((i z.after.inbox ≡ drop k v.inbox) × (j z.after.inbox ≡ drop k w.inbox)) → SameMove c v w x y
  beside_same txn node (k, (p, q)) = record {
    me = node (ap (λ (m : Move). m.after.me) e ∙ sym (ap (λ (m : Move). m.after.me) f));
    txn = txn;
    posts = (z.after.outbox, (ap (λ (m : Move). m.after.outbox) e, ap (λ (m : Move). m.after.outbox) f));
    commits = (
      [],
      (
        ap (λ (m : Move). m.after.commits) e ∙ sym (append-nil v.commits),
        ap (λ (m : Move). m.after.commits) f ∙ sym (append-nil w.commits),
      ),
    );
    taken = (k, (ap (λ (m : Move). m.after.inbox) e ∙ p, ap (λ (m : Move). m.after.inbox) f ∙ q));
    outcome = ap (λ (m : Move). uncounted m.outcome) e ∙ sym (ap (λ (m : Move). uncounted m.outcome) f);
    sent = ap (λ (m : Move). m.sent) e ∙ sym (ap (λ (m : Move). m.sent) f);
  }

-- a view with the rest of another beside it
beside_plain : (v w : View) → v.me ≡ w.me → w ≡ beside w.them (whole w.inbox) w.outbox w.txns w.commits (plain v)
beside_plain v w me = rw (me, append-nil w.outbox) refl

-- the move of a start, by that from a plain view
start_from : (v w : View) → v.me ≡ w.me → v.them.mode ≡ w.them.mode
    → start_step w ≡ beside_move w.them (whole w.inbox) w.outbox w.txns w.commits (start_step (plain v))
start_from v w me them =
    ap start_step (beside_plain v w me) ∙ starts w.them (whole w.inbox) w.outbox w.txns w.commits (plain v) (sym them)

-- the move of a finish
finish_from : (n : Node) (v w : View) → v.me ≡ w.me → active_from n 0 v.txns ≡ active_from n 0 w.txns
    → finish_step n w ≡ beside_move w.them (whole w.inbox) w.outbox w.txns w.commits (finish_step n (plain v))
finish_from n v w me low =
    ap (finish_step n) (beside_plain v w me) ∙ finishes w.them (whole w.inbox) w.outbox w.txns w.commits n (plain v) (sym low)

-- the move of a push
push_from : (v w : View) → v.me ≡ w.me
    → push_step w ≡ beside_move w.them (whole w.inbox) w.outbox w.txns w.commits (push_step (plain v))
push_from v w me = ap push_step (beside_plain v w me) ∙ pushes w.them (whole w.inbox) w.outbox w.txns w.commits (plain v)

-- the same comes of a start
start_same : (v w : View) → Agree Start v w → SameMove Start v w (start_step v) (start_step w)
start_same v w (me, them) =
    let x = start_step (plain v) in
    beside_same Start v w _ _ x (whole v.inbox) (whole w.inbox) (start_from v v refl refl) (start_from v w me them) tt (λ h. h) (0, (refl, refl))

-- the same comes of a finish
finish_same : (n : Node) (v w : View) → Agree (Finish n) v w → SameMove (Finish n) v w (finish_step n v) (finish_step n w)
finish_same n v w (me, low) =
    let x = finish_step n (plain v) in
    beside_same (Finish n) v w _ _ x (whole v.inbox) (whole w.inbox) (finish_from n v v refl refl) (finish_from n v w me low) tt (λ h. h)
    (0, (refl, refl))

-- the same comes of a push
push_same : (n : Node) (v w : View) → Agree (Push n) v w → SameMove (Push n) v w (push_step v) (push_step w)
push_same n v w me =
    let x = push_step (plain v) in
    beside_same (Push n) v w _ _ x (whole v.inbox) (whole w.inbox) (push_from v v refl) (push_from v w me) tt (λ h. h) (0, (refl, refl))

-- the view after such a move, by its node and its outbound link
beside_changes : (v : View) (x z : Move) → x ≡ beside_move v.them (whole v.inbox) v.outbox v.txns v.commits z
    → x.after ≡ record v { me = x.after.me; outbox = x.after.outbox }
beside_changes v x z e =
    subst (λ (m : Move). m.after ≡ record v { me = m.after.me; outbox = m.after.outbox }) (sym e) refl

-- ---- a take

-- the first message, if there is one
abbrev first : List Message → List Message
first [] = []
first (m ∷ ms) = m ∷ []

-- a link begins as another with the same first message
first_of : (xs ys : List Message) → slice_get xs 0 ≡ slice_get ys 0 → ys ≡ first xs ++ drop 1 ys
first_of [] [] e = refl
first_of [] (y ∷ ys) e = absurd (none-some y e)
first_of (x ∷ xs) [] e = absurd (none-some x (sym e))
first_of (x ∷ xs) (y ∷ ys) e = ap (λ (o : Option Message). unwrap_or o y ∷ ys) (sym e)

module _ (sc : Scenario) where
  -- a view with the first message that came in, and no message that goes out
  abbrev front : View → View
  front v = record v { inbox = first v.inbox; outbox = [] }

  -- the first message is taken, if there is one
  takes : (w u : View) (xs ys : List Message) → slice_get xs 0 ≡ slice_get ys 0
      → take_step sc (beside w.them (before (drop 1 ys)) w.outbox w.txns w.commits (record u { inbox = first xs }))
      ≡ beside_move w.them (before (drop 1 ys)) w.outbox w.txns w.commits (take_step sc (record u { inbox = first xs }))
  unfolding take_step front_step
  takes w u [] [] e = refl
  takes w u [] (y ∷ ys) e = absurd (none-some y e)
  takes w u (x ∷ xs) ys e = takes_first w.them (drop 1 ys) w.outbox w.txns w.commits sc x u

  -- a view, by the front of another
  beside_front : (v w : View) → v.me ≡ w.me → slice_get v.inbox 0 ≡ slice_get w.inbox 0
      → w ≡ beside w.them (before (drop 1 w.inbox)) w.outbox w.txns w.commits (front v)
  beside_front v w me e =
      ap (λ (ms : List Message). record w { inbox = ms }) (first_of v.inbox w.inbox e)
      ∙ (ap (λ (ms : List Message). record w { inbox = first v.inbox ++ drop 1 w.inbox; outbox = ms }) (sym (append-nil w.outbox))
      ∙ ap (λ (y : NodeState). record (beside w.them (before (drop 1 w.inbox)) w.outbox w.txns w.commits (front v)) { me = y }) (sym me))

  -- the move of a take
  take_from : (v w : View) → v.me ≡ w.me → slice_get v.inbox 0 ≡ slice_get w.inbox 0
      → take_step sc w ≡ beside_move w.them (before (drop 1 w.inbox)) w.outbox w.txns w.commits (take_step sc (front v))
  take_from v w me e = ap (take_step sc) (beside_front v w me e) ∙ takes w (front v) v.inbox w.inbox e

  -- a take takes at most the first message
  take_less : (v : View) → OneLess v.inbox (take_step sc v).after.inbox
  unfolding step move
  take_less v = (step_leaves sc (Take A) (seen_from A v)).inbox

  -- the same comes of a take
  take_same : (n : Node) (v w : View) → Agree (Take n) v w → SameMove (Take n) v w (take_step sc v) (take_step sc w)
  take_same n v w (me, e) =
      let x = take_step sc (front v) in
      let k = taken_off (first v.inbox) x.after.inbox (take_less (front v)) in
      beside_same (Take n) v w _ _ x (before (drop 1 v.inbox)) (before (drop 1 w.inbox)) (take_from v v refl refl) (take_from v w me e) tt (λ h. h)
      (k.0, (k.1 v.inbox (drop 1 v.inbox) (first_of v.inbox v.inbox refl), k.1 w.inbox (drop 1 w.inbox) (first_of v.inbox w.inbox e)))

  -- what a take changes
  take_changes : (n : Node) (v : View) → Changes (Take n) v (take_step sc v).after
  take_changes n v =
      subst (λ (m : Move). m.after ≡ record v { me = m.after.me; inbox = m.after.inbox; outbox = m.after.outbox }) (sym (take_from v v refl refl)) refl

-- ---- any choice

module _ (sc : Scenario) where
  -- the same comes of it
  pub move_same : (c : Choice) (v w : View) → length v.txns ≡ length w.txns → Agree c v w → SameMove c v w (move sc c v) (move sc c w)
  unfolding move
  move_same Start v w many e = start_same v w e
  move_same (Begin t) v w many e = begin_same t v w many e
  move_same (Kill t) v w many e = kill_same t v w many e
  move_same (Run n t) v w many e = run_same sc n t v w many e
  move_same (Take n) v w many e = take_same sc n v w e
  move_same (Finish n) v w many e = finish_same n v w e
  move_same (Push n) v w many e = push_same n v w e

  -- it changes what it writes
  pub move_changes : (c : Choice) (v : View) → Changes c v (move sc c v).after
  unfolding move
  move_changes Start v = beside_changes v _ (start_step (plain v)) (start_from v v refl refl)
  move_changes (Begin t) v = begin_changes t v
  move_changes (Kill t) v = kill_changes t v
  move_changes (Run n t) v = run_changes sc n t v
  move_changes (Take n) v = take_changes sc n v
  move_changes (Finish n) v = beside_changes v _ (finish_step n (plain v)) (finish_from n v v refl refl)
  move_changes (Push n) v = beside_changes v _ (push_step (plain v)) (push_from v v refl)
