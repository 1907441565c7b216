-- Kinds of events: those of no transaction, those that change no more of a node than its locks, and those that move no page. What a law
-- has to say of a kind it says once.
use Rattle.std.proofs.Common.{◌≡◌, Bool, true, false, refl, sym, ap}
use Rattle.std.proofs.lemmas.Bool.{false≢true}
use Rattle.zy_isa.specs.Scenario.{Scenario}
use Rattle.zy_isa.specs.declared.node.Node.{Node}
use Rattle.zy_table.specs.Change.{aborted, asks, begun, did, leaves, locked, shares}
use Rattle.zy_model.specs.Messages.{Done, Dual, Finish, Pull, Ready, Wire}
use Rattle.zy_table.specs.Database.{sent_leaves}
use Rattle.zy_table.specs.State.{View}
use Rattle.zy_laws.proofs.owner.MovingPages.{sent_bare}
use Rattle.zy_laws.proofs.walk.Events.{Event, Rests, Begins, Aborts, GoesOn, Gets, SumsUp, Writes, Inserts, Splits, Commits, Asks, Starts, GotWire, GotReady}
use Rattle.zy_laws.proofs.walk.Events.{GotDual, IsStale, Gives, GotPage, GotLast, GotFinish, GotAll, GotDone, Finishes, Pushes}

-- the event is of a transaction: it begins, it aborts, or its program goes on
abbrev pub of_txn : {sc : Scenario} {n : Node} {v w : View} → Event sc n v w → Bool
of_txn (Begins line e) = true
of_txn (Aborts line e) = true
of_txn (GoesOn line e) = true
of_txn (Gets line e) = true
of_txn (SumsUp line e) = true
of_txn (Writes line e) = true
of_txn (Inserts line e) = true
of_txn (Splits line e) = true
of_txn (Commits line e) = true
of_txn e = false

-- no transaction and no lock changes, and nothing at the other node
pub record Quiet (v w : View) : Type 0 where
  pub txns : w.txns ≡ v.txns
  pub commits : w.commits ≡ v.commits
  pub locks : w.me.locks ≡ v.me.locks
  pub them : w.them ≡ v.them

-- an event of no transaction is quiet
pub quiet_of : {sc : Scenario} {n : Node} {v w : View} (e : Event sc n v w) → of_txn e ≡ false → Quiet v w
unfolding asks leaves
quiet_of (Rests e) h = rw e (record { txns = refl; commits = refl; locks = refl; them = refl })
quiet_of (Asks line e) h = rw e (record { txns = refl; commits = refl; locks = refl; them = refl })
quiet_of (Starts line e) h = rw e (record { txns = refl; commits = refl; locks = refl; them = refl })
quiet_of (GotWire line e) h = rw e (record { txns = refl; commits = refl; locks = refl; them = refl })
quiet_of (GotReady line e) h = rw e (record { txns = refl; commits = refl; locks = refl; them = refl })
quiet_of (GotDual line e) h = rw e (record { txns = refl; commits = refl; locks = refl; them = refl })
quiet_of (IsStale line e) h = rw e (record { txns = refl; commits = refl; locks = refl; them = refl })
quiet_of (Gives line e) h = rw e (record { txns = refl; commits = refl; locks = refl; them = refl })
quiet_of (GotPage line e) h = rw e (record { txns = refl; commits = refl; locks = refl; them = refl })
quiet_of (GotLast line e) h = rw e (record { txns = refl; commits = refl; locks = refl; them = refl })
quiet_of (GotFinish line e) h = rw e (record { txns = refl; commits = refl; locks = refl; them = refl })
quiet_of (GotAll line e) h = rw e (record { txns = refl; commits = refl; locks = refl; them = refl })
quiet_of (GotDone line e) h = rw e (record { txns = refl; commits = refl; locks = refl; them = refl })
quiet_of (Finishes line e) h = rw e (record { txns = refl; commits = refl; locks = refl; them = refl })
quiet_of (Pushes line e) h = rw e (record { txns = refl; commits = refl; locks = refl; them = refl })
quiet_of e h = absurd (false≢true (sym h))

-- the event leaves the node's mode, wireframe, pages and questions
abbrev pub in_place : {sc : Scenario} {n : Node} {v w : View} → Event sc n v w → Bool
in_place (Rests e) = true
in_place (Begins line e) = true
in_place (Aborts line e) = true
in_place (GoesOn line e) = true
in_place (Gets line e) = true
in_place (SumsUp line e) = true
in_place (Writes line e) = true
in_place (Inserts line e) = true
in_place e = false

-- of a node no more changes than its locks, and of the links and the other node nothing
pub record InPlace (v w : View) : Type 0 where
  pub mode : w.me.mode ≡ v.me.mode
  pub lows : w.me.lows ≡ v.me.lows
  pub pages : w.me.pages ≡ v.me.pages
  pub asked : w.me.asked ≡ v.me.asked
  pub them : w.them ≡ v.them
  pub inbox : w.inbox ≡ v.inbox
  pub outbox : w.outbox ≡ v.outbox

-- an event in place changes no more of a node than its locks
pub in_place_of : {sc : Scenario} {n : Node} {v w : View} (e : Event sc n v w) → in_place e ≡ true → InPlace v w
unfolding did locked shares aborted begun
in_place_of (Rests e) h = rw e (record { mode = refl; lows = refl; pages = refl; asked = refl; them = refl; inbox = refl; outbox = refl })
in_place_of (Begins line e) h = rw e (record { mode = refl; lows = refl; pages = refl; asked = refl; them = refl; inbox = refl; outbox = refl })
in_place_of (Aborts line e) h = rw e (record { mode = refl; lows = refl; pages = refl; asked = refl; them = refl; inbox = refl; outbox = refl })
in_place_of (GoesOn line e) h = rw e (record { mode = refl; lows = refl; pages = refl; asked = refl; them = refl; inbox = refl; outbox = refl })
in_place_of (Gets line e) h = rw e (record { mode = refl; lows = refl; pages = refl; asked = refl; them = refl; inbox = refl; outbox = refl })
in_place_of (SumsUp line e) h = rw e (record { mode = refl; lows = refl; pages = refl; asked = refl; them = refl; inbox = refl; outbox = refl })
in_place_of (Writes line e) h = rw e (record { mode = refl; lows = refl; pages = refl; asked = refl; them = refl; inbox = refl; outbox = refl })
in_place_of (Inserts line e) h = rw e (record { mode = refl; lows = refl; pages = refl; asked = refl; them = refl; inbox = refl; outbox = refl })
in_place_of e h = absurd (false≢true h)

-- the event moves no page, and changes no row of one
abbrev pub moves_none : {sc : Scenario} {n : Node} {v w : View} → Event sc n v w → Bool
moves_none (Splits line e) = false
moves_none (Commits line e) = false
moves_none (Gives line e) = false
moves_none (GotPage line e) = false
moves_none (GotLast line e) = false
moves_none (Pushes line e) = false
moves_none e = true

-- each page is where it was, at the nodes and on the links
pub record Unmoved (v w : View) : Type 0 where
  pub pages : w.me.pages ≡ v.me.pages
  pub them : w.them ≡ v.them
  pub inbox : sent_leaves w.inbox ≡ sent_leaves v.inbox
  pub outbox : sent_leaves w.outbox ≡ sent_leaves v.outbox

-- an event that moves no page leaves each where it is
pub unmoved_of : {sc : Scenario} {n : Node} {v w : View} (e : Event sc n v w) → moves_none e ≡ true → Unmoved v w
unfolding asks
unmoved_of (Splits line e) h = absurd (false≢true h)
unmoved_of (Commits line e) h = absurd (false≢true h)
unmoved_of (Gives line e) h = absurd (false≢true h)
unmoved_of (GotPage line e) h = absurd (false≢true h)
unmoved_of (GotLast line e) h = absurd (false≢true h)
unmoved_of (Pushes line e) h = absurd (false≢true h)
unmoved_of {v = v} (Asks line e) h = rw e (record { pages = refl; them = refl; inbox = refl; outbox = sent_bare v.outbox (Pull line.page) refl })
unmoved_of {v = v} (Starts line e) h = rw e (record { pages = refl; them = refl; inbox = refl; outbox = sent_bare v.outbox (Wire v.me.lows) refl })
unmoved_of {v = v} (GotWire line e) h =
    rw e (record { pages = refl; them = refl; inbox = ap sent_leaves (sym line.front); outbox = sent_bare v.outbox Ready refl })
unmoved_of {v = v} (GotReady line e) h =
    rw e (record { pages = refl; them = refl; inbox = ap sent_leaves (sym line.front); outbox = sent_bare v.outbox Dual refl })
unmoved_of (GotDual line e) h = rw e (record { pages = refl; them = refl; inbox = ap sent_leaves (sym line.front); outbox = refl })
unmoved_of (IsStale line e) h = rw e (record { pages = refl; them = refl; inbox = ap sent_leaves (sym line.front); outbox = refl })
unmoved_of (GotFinish line e) h = rw e (record { pages = refl; them = refl; inbox = ap sent_leaves (sym line.front); outbox = refl })
unmoved_of {v = v} (GotAll line e) h =
    rw e (record { pages = refl; them = refl; inbox = ap sent_leaves (sym line.front); outbox = sent_bare v.outbox Done refl })
unmoved_of (GotDone line e) h = rw e (record { pages = refl; them = refl; inbox = ap sent_leaves (sym line.front); outbox = refl })
unmoved_of {v = v} (Finishes line e) h = rw e (record { pages = refl; them = refl; inbox = refl; outbox = sent_bare v.outbox Finish refl })
unmoved_of e h = let q = in_place_of e refl in
    record { pages = q.pages; them = q.them; inbox = ap sent_leaves q.inbox; outbox = ap sent_leaves q.outbox }
