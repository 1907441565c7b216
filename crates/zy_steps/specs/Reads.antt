-- What a choice reads of the node's side that it is made from, what comes of it, and what it changes.
use Rattle.std.specs.Prelude.{ℕ, ◌≡◌, ◌++◌, List, drop, slice_get}
use Rattle.zy_isa.specs.declared.node.Node.{Node}
use Rattle.zy_isa.specs.declared.choice.Choice.{Choice}
use Rattle.zy_isa.specs.declared.choice.Choice.TheVariants.{Start, Begin, Kill, Run, Take, Finish, Push}
use Rattle.zy_table.specs.declared.outcome.Outcome.{Outcome}
use Rattle.zy_table.specs.declared.outcome.Outcome.TheVariants.{Committed}
use Rattle.zy_model.specs.Messages.{Message}
use Rattle.zy_table.specs.declared.entry.CommitRecord.{CommitRecord}
use Rattle.zy_table.specs.State.{View, Move, Step, facing, with_me}
use Rattle.zy_table.specs.Change.{txn_at, with_txn}
use Rattle.zy_table.specs.Push.{active_from}

-- two views agree in what a choice reads
abbrev pub Agree : Choice → View → View → Type 0
Agree Start v w = (v.me ≡ w.me) × (v.them.mode ≡ w.them.mode)
Agree (Begin t) v w = (v.me.mode ≡ w.me.mode) × ((v.them.mode ≡ w.them.mode) × (txn_at v t ≡ txn_at w t))
Agree (Kill t) v w = (v.me ≡ w.me) × (txn_at v t ≡ txn_at w t)
Agree (Run n t) v w = (v.me ≡ w.me) × (txn_at v t ≡ txn_at w t)
Agree (Take n) v w = (v.me ≡ w.me) × (slice_get v.inbox 0 ≡ slice_get w.inbox 0)
Agree (Finish n) v w = (v.me ≡ w.me) × (active_from n 0 v.txns ≡ active_from n 0 w.txns)
Agree (Push n) v w = v.me ≡ w.me

-- ---- what comes of it

-- the outcome, but for the number of a commit
abbrev pub uncounted : Outcome → Outcome
uncounted (Committed i) = Committed 0
uncounted o = o

-- the node is the same in both views; a begin leaves it as it was
abbrev pub SameNode : Choice → View → View → Type 0
SameNode (Begin t) v w = Unit {0}
SameNode c v w = v.me ≡ w.me

-- the transaction that the choice names is the same in both views
abbrev pub SameTxn : Choice → View → View → Type 0
SameTxn (Begin t) v w = txn_at v t ≡ txn_at w t
SameTxn (Kill t) v w = txn_at v t ≡ txn_at w t
SameTxn (Run n t) v w = txn_at v t ≡ txn_at w t
SameTxn c v w = Unit {0}

-- The same comes of a choice made from v and from w: after it the node and the transaction that it names are the same,
-- the same messages are behind the outbound link and the same commits behind the commits, and as many messages are gone
-- from the front of the inbound link.
pub record SameMove (c : Choice) (v w : View) (x y : Move) : Type 0 where
  pub me : SameNode c x.after y.after
  pub txn : SameTxn c x.after y.after
  pub posts : (ms : List Message) × ((x.after.outbox ≡ v.outbox ++ ms) × (y.after.outbox ≡ w.outbox ++ ms))
  pub commits : (cs : List CommitRecord) × ((x.after.commits ≡ v.commits ++ cs) × (y.after.commits ≡ w.commits ++ cs))
  pub taken : (k : ℕ) × ((x.after.inbox ≡ drop k v.inbox) × (y.after.inbox ≡ drop k w.inbox))
  pub outcome : uncounted x.outcome ≡ uncounted y.outcome
  pub sent : x.sent ≡ y.sent

-- a step, as a node sees it
abbrev pub seen_by : Node → Step → Move
seen_by n x = record { after = facing n x.after; outcome = x.outcome; sent = x.sent }

-- ---- what it changes

-- the new view is the old one, but for what the choice writes
abbrev pub Changes : Choice → View → View → Type 0
Changes Start old new = new ≡ record old { me = new.me; outbox = new.outbox }
Changes (Begin t) old new = new ≡ with_txn t (txn_at new t) old
Changes (Kill t) old new = new ≡ with_txn t (txn_at new t) (with_me new.me old)
Changes (Run n t) old new =
    new ≡ with_txn t (txn_at new t) (record old { me = new.me; outbox = new.outbox; commits = new.commits })
Changes (Take n) old new = new ≡ record old { me = new.me; inbox = new.inbox; outbox = new.outbox }
Changes (Finish n) old new = new ≡ record old { me = new.me; outbox = new.outbox }
Changes (Push n) old new = new ≡ record old { me = new.me; outbox = new.outbox }
