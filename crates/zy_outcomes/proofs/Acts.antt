-- Why a begin of a new transaction always acts, and where a start acts.
use Rattle.std.proofs.Common.{◌≡◌, ℕ, ◌<◌, List, [], ◌∷◌, length, true, false, refl, sym, ap, ◌∙◌, subst, zero, suc, arith}
use Rattle.std.specs.Prelude.{Some, slice_get, slice_set, unwrap_or}
use Rattle.std.proofs.lemmas.Bool.{cond_both}
use Rattle.zy_isa.specs.declared.node.Node.{Node}
use Rattle.zy_isa.specs.declared.node.Node.TheVariants.{A, B}
use Rattle.zy_isa.specs.declared.choice.Choice.{Choice}
use Rattle.zy_isa.specs.declared.choice.Choice.TheVariants.{Start}
use Rattle.zy_isa.specs.declared.version.Version.{Version}
use Rattle.zy_isa.specs.declared.version.Version.TheVariants.{One, Two}
use Rattle.zy_isa.specs.Scenario.{Scenario, IsScenario}
use Rattle.zy_model.specs.Families.{is_idle, is_sending}
use Rattle.zy_model.specs.Table.{home_of, may_start, on_start}
use Rattle.zy_model.specs.declared.mode.NodeMode.{NodeMode}
use Rattle.zy_model.specs.declared.mode.NodeMode.TheVariants.{Empty, Normal}
use Rattle.zy_table.specs.declared.outcome.Outcome.TheVariants as outcome
use Rattle.zy_table.specs.Change.{quiet, begun, txn_at, txn_or}
use Rattle.zy_table.specs.Client.{is_new, begin_step, begin_at, start_step}
use Rattle.zy_table.specs.Play.{move, opening, play, side_of, step}
use Rattle.zy_table.specs.State.{Move, State, Txn, View, facing}
use Rattle.zy_laws.proofs.counts.SafeCounts.{safe}
use Rattle.zy_laws.proofs.owner.OneOwner.{play_inv}
use Rattle.zy_laws.proofs.owner.Phases.{Is, Stage, Resting, Wire_sent, Ready_sent}
use Rattle.zy_laws.proofs.owner.Phases.{source_mode, destination_mode}
use Rattle.zy_laws.proofs.owner.Roles.{Roles, Source, Destination}
use Rattle.zy_laws.proofs.walk.ModeLines.{starts_at_a, starts_from}
use Rattle.zy_outcomes.specs.Accounts.{txn_of}
use Rattle.zy_outcomes.specs.Beginnings.{Begins, MayStart, fresh}

-- the mode of a node, by those of A and B
abbrev mode_of : Node → NodeMode → NodeMode → NodeMode
mode_of A a b = a
mode_of B a b = b

-- by these modes of A and B there is a node to begin at
record Home (a b : NodeMode) : Type 0 where
  home : Node
  is : home_of a b ≡ Some home
  busy : is_idle (mode_of home a b) ≡ false
  keeps : is_sending (mode_of home a b) ≡ false

-- at each stage of a migration from n
home_from : (n : Node) (g : Stage) → Home (mode_of n (source_mode g) (destination_mode g)) (mode_of n (destination_mode g) (source_mode g))
home_from A Resting = record { home = A; is = refl; busy = refl; keeps = refl }
home_from A Wire_sent = record { home = A; is = refl; busy = refl; keeps = refl }
home_from A Ready_sent = record { home = A; is = refl; busy = refl; keeps = refl }
home_from A g = record { home = B; is = refl; busy = refl; keeps = refl }
home_from B Resting = record { home = B; is = refl; busy = refl; keeps = refl }
home_from B Wire_sent = record { home = B; is = refl; busy = refl; keeps = refl }
home_from B Ready_sent = record { home = B; is = refl; busy = refl; keeps = refl }
home_from B g = record { home = A; is = refl; busy = refl; keeps = refl }

-- whichever node is the source
home_by : (v : View) → Roles v → Home v.me.mode v.them.mode
home_by v (Source (Is g at)) = subst (λ a. Home a v.them.mode) (sym at.source) (subst (Home (source_mode g)) (sym at.destination) (home_from A g))
home_by v (Destination (Is g at)) = subst (λ a. Home a v.them.mode) (sym at.destination) (subst (Home (destination_mode g)) (sym at.source) (home_from B g))

-- the line of a begin that acts
begin_is : (t : ℕ) (v : View) (h : Node) → is_new (txn_at v t).status ≡ true → home_of v.me.mode v.them.mode ≡ Some h
    → begin_step t v ≡ quiet (begun h t v) (outcome.Began h)
unfolding begin_step begin_at
begin_is t v h new home = rw (new, home) refl

-- a transaction that is set is the one that was set
get_set : (xs : List Txn) (t : ℕ) (y : Txn) → t < length xs → txn_or (slice_get (slice_set xs t y) t) ≡ y
get_set [] t y h = absurd (omega arith)
get_set (x ∷ xs) zero y h = refl
get_set (x ∷ xs) (suc t) y h = get_set xs t y (omega arith)

-- the mode of a node in a state
mode_is : (h : Node) (s : State) → (facing h s).me.mode ≡ mode_of h s.a.mode s.b.mode
mode_is A s = refl
mode_is B s = refl

-- a begin at a home
begins_at : (sc : Scenario) (s : State) (t : ℕ) (x : Home s.a.mode s.b.mode) → t < length s.txns → is_new (txn_of s t).status ≡ true
    → Begins sc s t
unfolding step move begun txn_at
begins_at sc s t x within new =
    let is : begin_step t (facing A s) ≡ quiet (begun x.home t (facing A s)) (outcome.Began x.home) = begin_is t (facing A s) x.home new x.is in
    record {
      home = x.home;
      said = ap (λ (m : Move). m.outcome) is;
      txn = ap (λ (m : Move). txn_or (slice_get m.after.txns t)) is ∙ get_set s.txns t (fresh x.home) within;
      busy = ap is_idle (mode_is x.home s) ∙ x.busy;
      keeps = ap is_sending (mode_is x.home s) ∙ x.keeps;
    }

-- the law: a begin of a new transaction acts
pub begin_acts : (sc : Scenario) → IsScenario sc → (cs : List Choice) (t : ℕ) → t < length sc.programs → let s = play sc (opening sc) cs in
    is_new (txn_of s t).status ≡ true → Begins sc s t
begin_acts sc ok cs t within new =
    let s = play sc (opening sc) cs in
    let i = play_inv sc cs in
    let many = (safe sc ok cs).txns in
    begins_at sc s t (home_by (facing A s) i.roles) (subst (λ n. t < n) (sym many) within) new

-- a start that acts starts a migration as it may be
started_may : (v : View) → (start_step v).outcome ≡ outcome.Started → (v.me.mode ≡ Normal) × (v.them.mode ≡ Empty)
unfolding start_step
started_may v =
    cond_both (may_start v.me.mode v.them.mode) _ _ (λ (m : Move). m.outcome ≡ outcome.Started → (v.me.mode ≡ Normal) × (v.them.mode ≡ Empty))
    (λ h _. starts_from v.me.mode v.them.mode h)
    (λ _ e. cc)

-- it acts there
may_started : (v : View) → v.me.mode ≡ Normal → v.them.mode ≡ Empty → (start_step v).outcome ≡ outcome.Started
unfolding start_step
may_started v normal empty = rw (normal, empty) refl

-- the node that may start is the one that does
start_side : (sc : Scenario) (n : Node) (s : State) → MayStart sc n s → (version : Version) → sc.version ≡ version → unwrap_or (on_start s.a.mode s.b.mode version) A ≡ n
start_side sc A s m version is = rw (m.normal, m.empty) refl
start_side sc B s m One is = absurd (let e : B ≡ A = m.version is in cc)
start_side sc B s m Two is = rw (m.normal, m.empty) refl

-- the law: a start acts exactly where a migration may start
pub start_acts : (sc : Scenario) (s : State) (n : Node) → let x = step sc Start s in
    (x.outcome ≡ outcome.Started → MayStart sc (side_of sc Start s) s) × (MayStart sc n s → x.outcome ≡ outcome.Started)
unfolding step move
start_acts sc s n =
    let may = started_may (facing (side_of sc Start s) s) in (
      (λ h. record { normal = (may h).0; empty = (may h).1; version = starts_at_a s.a.mode s.b.mode sc.version }),
      (λ m.
          let side : side_of sc Start s ≡ n = start_side sc n s m sc.version refl in
          subst (λ k. (start_step (facing k s)).outcome ≡ outcome.Started) (sym side) (may_started (facing n s) m.normal m.empty)),
    )
