-- If the only active transaction is at a node where it may have to wait, all messages can be taken; and what the node has then.
use Rattle.std.proofs.Common.{◌≡◌, ℕ, ◌≤◌, List, [], ◌∷◌, true, false, refl, sym, ap, ◌∙◌, subst, inl, inr, arith, zero, suc}
use Rattle.std.specs.Prelude.{◌⊎◌, Bool, Option, Some, None, slice_get}
use Rattle.std.proofs.lemmas.Bool.{cases_Bool, cases_eq, eq-eqb, false≢true, or_left, or_right}
use Rattle.zy_isa.specs.Scenario.{IsScenario, Scenario}
use Rattle.zy_isa.specs.declared.choice.Choice.{Choice}
use Rattle.zy_isa.specs.declared.choice.Choice.TheVariants.{Take}
use Rattle.zy_isa.specs.declared.node.Node.{Node}
use Rattle.zy_isa.specs.declared.node.Node.TheVariants.{A, B}
use Rattle.zy_model.specs.Families.{is_sending, is_taker}
use Rattle.zy_model.specs.Messages.{Wire, Ready, Dual, Pull, Page, Finish, Done}
use Rattle.zy_model.specs.Table.{is_waiting, on_message}
use Rattle.zy_model.specs.declared.kind.Kind.{Kind}
use Rattle.zy_model.specs.declared.kind.Kind.TheVariants as kind
use Rattle.zy_model.specs.declared.mode.NodeMode.{NodeMode}
use Rattle.zy_model.specs.declared.mode.NodeMode.TheVariants.{Empty, Normal, SInit, SDual, SFinish, DInit, DDual, DFinish}
use Rattle.zy_model.specs.declared.table.MessageLine.{MessageLine}
use Rattle.zy_model.specs.declared.table.MessageLine.TheVariants.{Stray, Turns}
use Rattle.zy_table.proofs.PageLists.{owns-with_page}
use Rattle.zy_table.specs.Change.{txn_or, with_arrived}
use Rattle.zy_table.specs.Client.{is_active}
use Rattle.zy_table.specs.Numbers.{has}
use Rattle.zy_table.specs.Pages.{owns}
use Rattle.zy_table.specs.Play.{move, play, step}
use Rattle.zy_table.specs.State.{Leaf, Message, NodeState, State, View, facing, seen_from}
use Rattle.zy_table.specs.Take.{arrival_step, front_step, message_step, pull_step, take_step, with_brought}
use Rattle.zy_laws.specs.WayOut.{led_by}
use Rattle.zy_laws.proofs.owner.Phases.{Both_sent, Done_sent, DualThen, Dual_sent, Finish_sent, In_dual, In_finish, Is, AllPages, PagesAndFinish, Phase}
use Rattle.zy_laws.proofs.owner.Phases.{Ready_sent, Resting, Wire_sent}
use Rattle.zy_laws.proofs.owner.PhaseSteps.{taker_of}
use Rattle.zy_laws.proofs.travel.Between.{no_lock}
use Rattle.zy_laws.proofs.travel.OneWay.{sourced}
use Rattle.zy_laws.proofs.walk.Conditions.{rest}
use Rattle.zy_laws.proofs.walk.Events.{step_happens}
use Rattle.zy_laws.proofs.walk.ModeLines.{sends_in}
use Rattle.zy_laws.proofs.way_out.Kills.{From, from_step}
use Rattle.zy_laws.proofs.way_out.Less.{Lowered, left, migration_step}
use Rattle.zy_laws.proofs.way_out.NoDeadEnd.{Known, known, take_lowers}
use Rattle.zy_outcomes.proofs.Coming.{has_kept}
use Rattle.zy_outcomes.proofs.Runs.{waits_in}
use Rattle.zy_outcomes.proofs.RunsAlone.{holder_alone}
use Rattle.zy_outcomes.specs.Accounts.{txn_of}
use Rattle.zy_outcomes.specs.GetsOn.{take_by, takes}
use Rattle.zy_outcomes.specs.Reasons.{IsAlone}

-- ---- one take

-- a transaction at a node in this mode may have to wait, or to split a page
abbrev pub may_wait : NodeMode → Bool
may_wait Normal = true
may_wait DInit = true
may_wait DDual = true
may_wait DFinish = true
may_wait m = false

-- such a node, and the node later: it is one still, it has kept its pages, and each page that it asked for has come or is still asked for
pub record Gains (x y : NodeState) : Type 0 where
  pub waits : may_wait y.mode ≡ true
  pub lows : y.lows ≡ x.lows
  pub kept : (p : ℕ) → owns x.pages p ≡ true → owns y.pages p ≡ true
  pub asked : (p : ℕ) → has x.asked p ≡ true → (has y.asked p ≡ true) ⊎ (owns y.pages p ≡ true)

-- a node that does not change gains nothing
gains_none : (x : NodeState) → may_wait x.mode ≡ true → Gains x x
gains_none x h = record { waits = h; lows = refl; kept = λ p own. own; asked = λ p asked. inl asked }

-- gains add up
gains_on : (x y z : NodeState) → Gains x y → Gains y z → Gains x z
gains_on x y z a b = record {
  waits = b.waits;
  lows = b.lows ∙ a.lows;
  kept = λ p own. b.kept p (a.kept p own);
  asked = λ p h. elim (a.asked p h) [ inl asked ↦ b.asked p asked | inr own ↦ inr (b.kept p own) ];
}

-- a page that comes is gained
gains_page : (leaf : Leaf) (x : NodeState) → may_wait x.mode ≡ true → Gains x (with_arrived leaf x)
gains_page leaf x h = record {
  waits = h;
  lows = refl;
  kept = λ p own. owns-with_page p leaf x.pages ∙ or_right _ _ own;
  asked = λ p asked. elim (cases_eq leaf.number p) [
    | inl same ↦ inr (owns-with_page p leaf x.pages ∙ or_left _ _ (eq-eqb _ _ same))
    | inr far ↦ inl (has_kept leaf.number p x.asked far asked)
  ];
}

-- the mode that a message turns a node to is one where a transaction may have to wait, too
abbrev StaysSo : MessageLine → Type 0
StaysSo Stray = Unit {0}
StaysSo (Turns to sent) = may_wait to ≡ true

-- it is so by each line of the mode table
stays_so : (m : NodeMode) (k : Kind) (all : Bool) → may_wait m ≡ true → StaysSo (on_message m k all)
stays_so Empty k all h = absurd (false≢true h)
stays_so SInit k all h = absurd (false≢true h)
stays_so SDual k all h = absurd (false≢true h)
stays_so SFinish k all h = absurd (false≢true h)
stays_so DFinish kind.Page false h = refl
stays_so DFinish kind.Page true h = refl
stays_so DDual kind.Finish false h = refl
stays_so DDual kind.Finish true h = refl
stays_so DInit kind.Dual all h = refl
stays_so DDual kind.Page all h = refl
stays_so m k all h = tt

-- no wireframe comes to such a node
no_wire : (m : NodeMode) (all : Bool) → may_wait m ≡ true → on_message m kind.Wire all ≡ Stray
no_wire Empty all h = absurd (false≢true h)
no_wire m all h = refl

-- no page is pulled from it
no_pull : (m : NodeMode) (all : Bool) → may_wait m ≡ true → on_message m kind.Pull all ≡ Stray
no_pull SDual all h = absurd (false≢true h)
no_pull SFinish all h = absurd (false≢true h)
no_pull m all h = refl

-- no migration from it ends
no_done : (m : NodeMode) (all : Bool) → may_wait m ≡ true → on_message m kind.Done all ≡ Stray
no_done SFinish all h = absurd (false≢true h)
no_done m all h = refl

-- what such a node gains
module _ (v : View) (h : may_wait v.me.mode ≡ true) where
  -- by the line of a message that is not stray
  line_gains : (m : Message) (ms : List Message) (y : MessageLine) → StaysSo y → Gains v.me (with_brought m v.me)
      → Gains v.me (arrival_step y m v (rest v ms)).after.me
  unfolding arrival_step
  line_gains m ms Stray so g = gains_none v.me h
  line_gains m ms (Turns to sent) so g = record { waits = so; lows = g.lows; kept = g.kept; asked = g.asked }

  -- by the line of a message that is stray
  stray_gains : (m : Message) (ms : List Message) (y : MessageLine) → y ≡ Stray → Gains v.me (arrival_step y m v (rest v ms)).after.me
  unfolding arrival_step
  stray_gains m ms y e = subst (λ z. Gains v.me (arrival_step z m v (rest v ms)).after.me) (sym e) (gains_none v.me h)

  -- by the line of a pull
  pull_gains : (sc : Scenario) (p : ℕ) (ms : List Message) (y : MessageLine) → y ≡ Stray → Gains v.me (pull_step sc p y v (rest v ms)).after.me
  unfolding pull_step
  pull_gains sc p ms y e = subst (λ z. Gains v.me (pull_step sc p z v (rest v ms)).after.me) (sym e) (gains_none v.me h)

  -- taking each message
  message_gains : (sc : Scenario) (m : Message) (ms : List Message) → Gains v.me (message_step sc m v (rest v ms)).after.me
  unfolding message_step
  message_gains sc (Wire lows) ms = stray_gains (Wire lows) ms _ (no_wire v.me.mode _ h)
  message_gains sc Ready ms = line_gains Ready ms _ (stays_so v.me.mode kind.Ready _ h) (gains_none v.me h)
  message_gains sc Dual ms = line_gains Dual ms _ (stays_so v.me.mode kind.Dual _ h) (gains_none v.me h)
  message_gains sc (Pull p) ms = pull_gains sc p ms _ (no_pull v.me.mode _ h)
  message_gains sc (Page leaf) ms = line_gains (Page leaf) ms _ (stays_so v.me.mode kind.Page _ h) (gains_page leaf v.me h)
  message_gains sc Finish ms = line_gains Finish ms _ (stays_so v.me.mode kind.Finish _ h) (gains_none v.me h)
  message_gains sc Done ms = stray_gains Done ms _ (no_done v.me.mode _ h)

  -- by the front of the link
  front_gains : (sc : Scenario) (ms : List Message) → Gains v.me (front_step sc ms v).after.me
  unfolding front_step
  front_gains sc [] = gains_none v.me h
  front_gains sc (m ∷ ms) = message_gains sc m ms

  -- a take
  take_gains : (sc : Scenario) → Gains v.me (take_step sc v).after.me
  unfolding take_step
  take_gains sc = front_gains sc v.inbox

-- a step of node m at node n: its own, or one that leaves it alone
gains_at : (n m : Node) (s : State) (w : View) → (may_wait (facing m s).me.mode ≡ true → Gains (facing m s).me w.me) → w.them ≡ (facing m s).them
    → may_wait (facing n s).me.mode ≡ true → Gains (facing n s).me (facing n (seen_from m w)).me
gains_at A A s w mine them h = mine h
gains_at A B s w mine them h = subst (Gains s.a) (sym them) (gains_none s.a h)
gains_at B A s w mine them h = subst (Gains s.b) (sym them) (gains_none s.b h)
gains_at B B s w mine them h = mine h

-- a take of any node
step_gains : (sc : Scenario) (n m : Node) (s : State) → may_wait (facing n s).me.mode ≡ true → Gains (facing n s).me (facing n (step sc (Take m) s).after).me
unfolding step move
step_gains sc n m s h =
    let v = facing m s in
    let x = step_happens sc (Take m) s in
    gains_at n m s (take_step sc v).after (λ mine. take_gains v mine sc)
    (sourced sc m (take_step sc v).outcome v (take_step sc v).after x.event x.told).them h

-- ---- all of them

-- what comes next: a take of a node with a message on its link, or none is on either
data Next (s : State) (o : Option Choice) : Type 0 where
  Takes : (m : Node) (first : Message) (ms : List Message) → (facing m s).inbox ≡ first ∷ ms → o ≡ Some (Take m) → Next s o
  Nothing : s.ab ≡ [] → s.ba ≡ [] → o ≡ None → Next s o

-- by both links
next_cases : (s : State) (ab ba : List Message) → s.ab ≡ ab → s.ba ≡ ba → Next s (take_by ab ba)
next_cases s (m ∷ ms) ba f g = Takes B m ms f refl
next_cases s [] (m ∷ ms) f g = Takes A m ms g refl
next_cases s [] [] f g = Nothing f g refl

-- takes change no transaction
pub takes_txns : (sc : Scenario) (k : ℕ) (s : State) → (play sc s (takes sc k s)).txns ≡ s.txns
takes_txns sc zero s = refl
takes_txns sc (suc k) s =
    let to : Option Choice → Type 0 = λ o. (play sc s (led_by o (λ c. takes sc k (step sc c s).after))).txns ≡ s.txns in
    elim (next_cases s s.ab s.ba refl refl) [
      | Nothing ab ba is ↦ subst to (sym is) refl
      | Takes m first ms e is ↦
          let w = (step sc (Take m) s).after in
          subst to (sym is) (takes_txns sc k w ∙ elim (migration_step sc (Take m) s refl) [ inl same ↦ ap (λ (y : State). y.txns) same | inr low ↦ low.txns ])
    ]

-- all messages are taken: the state is reached, no transaction changed, and n has gained
pub record Taken (sc : Scenario) (n : Node) (s w : State) : Type 0 where
  pub from : From sc w
  pub txns : w.txns ≡ s.txns
  pub gains : Gains (facing n s).me (facing n w).me
  pub links : (w.ab ≡ []) × (w.ba ≡ [])

-- a mode that sends is none where a transaction may have to wait
sends_not : (m : NodeMode) → is_sending m ≡ true → may_wait m ≡ true → ⊥
sends_not m s h = elim (sends_in m s) [ inl e ↦ false≢true (sym (ap may_wait e) ∙ h) | inr e ↦ false≢true (sym (ap may_wait e) ∙ h) ]

-- where t alone is active, at n, where it may have to wait
module _ (sc : Scenario) (ok : IsScenario sc) (t : ℕ) (n : Node) where
  -- no node that sends has a lock
  free : (s : State) → Known s → IsAlone s t → (txn_of s t).node ≡ n → may_wait (facing n s).me.mode ≡ true → (m : Node)
      → is_sending (facing m s).me.mode ≡ true → (facing m s).me.locks ≡ []
  free s k alone at h m sends =
      no_lock (facing m s).me.locks (λ p u holds.
      let same : n ≡ m = sym at ∙ (holder_alone m s t p u k.holders alone holds).1 in
      sends_not (facing m s).me.mode sends (subst (λ z. may_wait (facing z s).me.mode ≡ true) same h))

  -- so a take of what is on the link leaves less to do
  lowers : (s : State) → From sc s → IsAlone s t → (txn_of s t).node ≡ n → may_wait (facing n s).me.mode ≡ true → (m : Node) (first : Message)
      (ms : List Message) → (facing m s).inbox ≡ first ∷ ms → Lowered s (step sc (Take m) s).after
  lowers s f alone at h m = let k = known sc ok s f in take_lowers sc m s k (free s k alone at h m)

  -- and all can be taken
  pub all_taken : (k : ℕ) (s : State) → From sc s → IsAlone s t → (txn_of s t).node ≡ n → may_wait (facing n s).me.mode ≡ true → left (facing A s) ≤ k
      → Taken sc n s (play sc s (takes sc k s))
  all_taken zero s f alone at h most =
      elim (next_cases s s.ab s.ba refl refl) [
        | Nothing ab ba is ↦ record { from = f; txns = refl; gains = gains_none (facing n s).me h; links = (ab, ba) }
        | Takes m first ms e is ↦
            let less = (lowers s f alone at h m first ms e).less in absurd (omega (arith, less, most))
      ]
  all_taken (suc k) s f alone at h most =
      let to : Option Choice → Type 0 = λ o. Taken sc n s (play sc s (led_by o (λ c. takes sc k (step sc c s).after))) in
      elim (next_cases s s.ab s.ba refl refl) [
        | Nothing ab ba is ↦ subst to (sym is) (record { from = f; txns = refl; gains = gains_none (facing n s).me h; links = (ab, ba) })
        | Takes m first ms e is ↦
            let w = (step sc (Take m) s).after in
            let low = lowers s f alone at h m first ms e in
            let less = low.less in
            let g = step_gains sc n m s h in
            let rest = all_taken k w (from_step sc (Take m) s f) (subst (λ xs. (u : ℕ) → is_active (txn_or (slice_get xs u)).status ≡ true → u ≡ t) (sym low.txns) alone)
            (ap (λ xs. (txn_or (slice_get xs t)).node) low.txns ∙ at) g.waits (omega (arith, less, most)) in
            subst to (sym is) (record {
              from = rest.from;
              txns = rest.txns ∙ low.txns;
              gains = gains_on (facing n s).me (facing n w).me _ g rest.gains;
              links = rest.links;
            })
      ]

-- ---- once they are taken

-- where nothing is on its way, the destination of a migration has passed `dual`
landed : {src dst : NodeState} {out back : List Message} → Phase src dst out back → out ≡ [] → back ≡ [] → is_waiting dst.mode ≡ false
landed (Is Resting at) o b = ap is_waiting at.destination
landed (Is Wire_sent at) o b = ap is_waiting at.destination
landed (Is Ready_sent at) o b = cc (at.back, b)
landed (Is Dual_sent at) o b = absurd (subst (DualThen AllPages) o at.out)
landed (Is Both_sent at) o b = absurd (subst (DualThen PagesAndFinish) o at.out)
landed (Is In_dual at) o b = ap is_waiting at.destination
landed (Is Finish_sent at) o b = ap is_waiting at.destination
landed (Is In_finish at) o b = ap is_waiting at.destination
landed (Is Done_sent at) o b = ap is_waiting at.destination

-- both links from a node's side
pub links_from : (n : Node) (s : State) → (s.ab ≡ []) × (s.ba ≡ []) → ((facing n s).inbox ≡ []) × ((facing n s).outbox ≡ [])
links_from A s e = (e.1, e.0)
links_from B s e = (e.0, e.1)

-- so no node waits for `dual` there
pub none_waits : (n : Node) (s : State) → Known s → (s.ab ≡ []) × (s.ba ≡ []) → is_waiting (facing n s).me.mode ≡ false
none_waits n s k e =
    let v = facing n s in
    let links = links_from n s e in
    elim (cases_Bool (is_waiting v.me.mode)) [
      | inl waits ↦ landed (taker_of v (k.inv n).roles (ap is_taker (waits_in v.me.mode waits))) links.0 links.1
      | inr off ↦ off
    ]
