-- Every state has a way out: what comes next leaves less to do, and where nothing does the migration is over.
use Rattle.std.proofs.Common.{List, [], ap, arith, false, inl, inr, length, refl, suc, subst, sym, true, zero, ℕ, ◌+◌, ◌≤◌, ◌∙◌, ◌∷◌, ◌≡◌}
use Rattle.std.specs.Prelude.{◌⊎◌, ◌&&◌, if◌then◌else◌, Option, Some, None}
use Rattle.std.proofs.lemmas.Bool.{cases_lt, false≢true}
use Rattle.std.proofs.lemmas.Bool.Decides.{nat_tests}
use Rattle.zy_isa.specs.Scenario.{IsScenario, Scenario}
use Rattle.zy_isa.specs.declared.choice.Choice.{Choice}
use Rattle.zy_isa.specs.declared.choice.Choice.TheVariants.{Take, Finish as Finish_at, Push}
use Rattle.zy_isa.specs.declared.node.Node.{Node}
use Rattle.zy_isa.specs.declared.node.Node.TheVariants.{A, B}
use Rattle.zy_model.specs.Families.{is_sending, is_source, is_taker}
use Rattle.zy_model.specs.declared.mode.NodeMode.{NodeMode}
use Rattle.zy_model.specs.declared.mode.NodeMode.TheVariants.{Empty, Normal, SInit, SDual, SFinish, DInit, DDual, DFinish}
use Rattle.zy_table.specs.Client.{is_active}
use Rattle.zy_table.specs.Holders.{HoldersActive}
use Rattle.zy_table.specs.Pages.{owns}
use Rattle.zy_table.specs.Play.{move, opening, play, step}
use Rattle.zy_table.specs.Push.{active_from, finish_step, push_step}
use Rattle.zy_table.specs.Run.{same_node}
use Rattle.zy_table.specs.State.{Leaf, Message, NodeState, State, Txn, View, facing}
use Rattle.zy_table.specs.Take.{take_step}
use Rattle.zy_laws.specs.Between.{NothingLeft}
use Rattle.zy_laws.specs.OneOwner.{times}
use Rattle.zy_laws.specs.WayOut.{EachActs, Ended, NoneActive, NoneActs, Over, is_migration_step, enough, kills, led_by, next, next_by, onward, way_out}
use Rattle.zy_laws.proofs.locks.Reached.{holders_active}
use Rattle.zy_laws.proofs.owner.OneOwner.{inv_from, play_inv}
use Rattle.zy_laws.proofs.owner.PageCounts.{owns_from, times_sent}
use Rattle.zy_laws.proofs.owner.PhaseSteps.{source_of, taker_of}
use Rattle.zy_laws.proofs.owner.Phases.{At, Both_sent, Done_sent, DualThen, Finish_sent, In_finish, Is, PagesAndFinish, Phase, PullsAndDone, Ready_sent}
use Rattle.zy_laws.proofs.owner.Phases.{Resting, Wire_sent}
use Rattle.zy_laws.proofs.owner.Roles.{Destination, Inv, Roles, Source}
use Rattle.zy_laws.proofs.owner.Stray.{knows_front}
use Rattle.zy_laws.proofs.sources.RealTime.{play-append}
use Rattle.zy_laws.proofs.travel.Between.{no_lock, nothing_left}
use Rattle.zy_laws.proofs.walk.Txns.{at_side}
use Rattle.zy_laws.proofs.wireframe.OneWireframe.{one_of}
use Rattle.zy_laws.proofs.way_out.Kills.{From, Keeps, all_killed, from_step, keeps_none, keeps_on, on, step_keeps}
use Rattle.zy_laws.proofs.way_out.Lacking.{BothLack, Lacking, lacking_them, one_missing, play_lacks}
use Rattle.zy_laws.proofs.way_out.Less.{Lowered, cost, finishes_less, left, lowered, migration_step, pushes_less, take_less}

-- what is known of a state that a schedule leads to
pub record Known (s : State) : Type 0 where
  pub inv : (n : Node) → Inv (facing n s)
  pub holders : HoldersActive s
  lacks : BothLack s
  left_none : (n : Node) → (facing n s).me.mode ≡ Empty → (facing n s).them.mode ≡ Normal → NothingLeft n (facing n s)

-- it is known of each
pub known : (sc : Scenario) → IsScenario sc → (s : State) → From sc s → Known s
known sc ok s f =
    let s0 = play sc (opening sc) f.choices in
    let at : Known s0 = record {
      inv = λ n. inv_from n s0 (play_inv sc f.choices);
      holders = holders_active sc ok f.choices;
      lacks = play_lacks sc f.choices;
      left_none = λ n empty normal. nothing_left sc ok f.choices n empty normal;
    } in
    subst Known f.is at

-- ---- what comes next, by cases

-- a message is taken; a node ends its dual mode; one hands on a page; or both links are empty, and no node sends
data Next (s : State) (o : Option Choice) : Type 0 where
  Takes : (n : Node) (m : Message) (ms : List Message) → (facing n s).inbox ≡ m ∷ ms → o ≡ Some (Take n) → Next s o
  Ends_dual : (n : Node) → (facing n s).me.mode ≡ SDual → o ≡ Some (Finish_at n) → Next s o
  Hands_on : (n : Node) → (facing n s).inbox ≡ [] → (facing n s).outbox ≡ [] → (facing n s).me.mode ≡ SFinish → o ≡ Some (Push n) → Next s o
  Nothing : s.ab ≡ [] → s.ba ≡ [] → is_sending s.a.mode ≡ false → is_sending s.b.mode ≡ false → o ≡ None → Next s o

-- by both links and both modes
next_cases : (s : State) (ab ba : List Message) (a b : NodeMode) → s.ab ≡ ab → s.ba ≡ ba → s.a.mode ≡ a → s.b.mode ≡ b → Next s (next_by ab ba a b)
next_cases s (m ∷ ms) ba a b f g p q = Takes B m ms f refl
next_cases s [] (m ∷ ms) a b f g p q = Takes A m ms g refl
next_cases s [] [] SDual b f g p q = Ends_dual A p refl
next_cases s [] [] SFinish b f g p q = Hands_on A g f p refl
next_cases s [] [] a SDual f g p q = Ends_dual B q refl
next_cases s [] [] a SFinish f g p q = Hands_on B f g q refl
next_cases s [] [] a b f g p q = Nothing f g (ap is_sending p) (ap is_sending q) refl

-- ---- it leaves less to do

-- where none is active, none holds a lock
free_locks : (n : Node) (s : State) → Known s → NoneActive s → (facing n s).me.locks ≡ []
free_locks n s k idle =
    no_lock (facing n s).me.locks (λ p t h.
    false≢true (sym (idle t) ∙ ap (λ (x : Txn). is_active x.status) (sym (at_side n s t)) ∙ (k.holders n p t h).0))

-- where none is active, none is at a node
none_from : (n : Node) (t : ℕ) (xs : List Txn) → ((i : ℕ) → on xs i ≡ false) → active_from n t xs ≡ None
none_from n t [] idle = refl
none_from n t (x ∷ xs) idle =
    ap (λ b. if b && same_node x.node n then Some t else active_from n (t + 1) xs) (idle 0) ∙ none_from n (t + 1) xs (λ i. idle (suc i))

-- the transactions are the same from either side
pub txns_side : (n : Node) (s : State) → (facing n s).txns ≡ s.txns
txns_side A s = refl
txns_side B s = refl

-- a source in SFinish with nothing on its way is at the stage of that name
handing : {src dst : NodeState} {out back : List Message} → Phase src dst out back → src.mode ≡ SFinish → out ≡ [] → back ≡ []
    → At In_finish src dst out back
handing (Is Both_sent at) m o b = absurd (subst (DualThen PagesAndFinish) o at.out)
handing (Is Finish_sent at) m o b = absurd (subst PagesAndFinish o at.out)
handing (Is In_finish at) m o b = at
handing (Is Done_sent at) m o b = absurd (subst PullsAndDone b at.back)
handing (Is g at) m o b = cc (at.source, m)

-- a page that is not owned is not counted
pub not_counted : (p : ℕ) (xs : List Leaf) → owns xs p ≡ false → times p xs ≡ 0
not_counted p xs off =
    elim (cases_lt 0 (times p xs)) [
      | inl some ↦ absurd (false≢true (sym off ∙ owns_from p xs (omega (arith, some))))
      | inr none ↦ omega (arith, none)
    ]

-- it has a page yet: the destination lacks one, and that is not on its way
some_page : (v : View) → Inv v → Lacking v.them → v.inbox ≡ [] → v.outbox ≡ [] → v.me.mode ≡ SFinish → v.me.pages ≡ [] → ⊥
some_page v i l inbox outbox finish none =
    let at = handing (source_of v i.roles (ap is_source finish)) finish outbox inbox in
    let m = one_missing v.them.pages (length v.them.lows) (l.some at.destination) in
    let below = m.1 in
    let k = i.owned.once m.0 in
    let mine : times m.0 v.me.pages ≡ 0 = ap (times m.0) none in
    let theirs = not_counted m.0 v.them.pages m.2 in
    let in_none : times_sent m.0 v.inbox ≡ 0 = ap (times_sent m.0) inbox in
    let out_none : times_sent m.0 v.outbox ≡ 0 = ap (times_sent m.0) outbox in
    absurd (grind (arith, nat_tests, k, below, mine, theirs, in_none, out_none))

-- a take of what is on the link, at a node that has no lock or does not send
pub take_lowers : (sc : Scenario) (n : Node) (s : State) → Known s → (is_sending (facing n s).me.mode ≡ true → (facing n s).me.locks ≡ [])
    → (m : Message) (ms : List Message) → (facing n s).inbox ≡ m ∷ ms → Lowered s (step sc (Take n) s).after
unfolding step move
take_lowers sc n s k free m ms e =
    let v = facing n s in
    lowered n s (take_step sc v).after
    (take_less v sc m (record { after = ms; front = e }) (λ line. knows_front v m ms e line (k.inv n).roles) free)

-- what a node does of itself, with no message to take
module _ (sc : Scenario) (n : Node) (s : State) (k : Known s) (idle : NoneActive s) where
  -- a finish in SDual
  finish_lowers : (facing n s).me.mode ≡ SDual → Lowered s (step sc (Finish_at n) s).after
  unfolding step move
  finish_lowers dual =
      let none = none_from n 0 (facing n s).txns (subst (λ xs. (i : ℕ) → on xs i ≡ false) (sym (txns_side n s)) idle) in
      lowered n s (finish_step n (facing n s)).after (finishes_less n (facing n s) dual none)

  -- a push in SFinish with nothing on its way
  push_lowers : (facing n s).inbox ≡ [] → (facing n s).outbox ≡ [] → (facing n s).me.mode ≡ SFinish → Lowered s (step sc (Push n) s).after
  unfolding step move
  push_lowers inbox outbox finish =
      let v = facing n s in
      lowered n s (push_step v).after (pushes_less v finish (some_page v (k.inv n) (lacking_them n s k.lacks) inbox outbox finish))

-- ---- and where nothing comes next the migration is over

-- a migration of which nothing is on its way, and whose source does not send, rests
resting : {src dst : NodeState} {out back : List Message} → Phase src dst out back → out ≡ [] → back ≡ [] → is_sending src.mode ≡ false
    → At Resting src dst out back
resting (Is Resting at) o b off = at
resting (Is Wire_sent at) o b off = cc (at.out, o)
resting (Is Ready_sent at) o b off = cc (at.back, b)
resting (Is g at) o b off = absurd (false≢true (sym off ∙ ap is_sending at.source))

-- by which node is the source
over_by : (s : State) → Known s → NoneActive s → s.ab ≡ [] → s.ba ≡ [] → is_sending s.a.mode ≡ false → is_sending s.b.mode ≡ false → Roles (facing A s) → Over s
over_by s k idle ab ba a b (Source ph) =
    let at = resting ph ab ba a in
    record { empty = B; modes = (at.destination, at.source); left = k.left_none B at.destination at.source; idle = idle }
over_by s k idle ab ba a b (Destination ph) =
    let at = resting ph ba ab b in
    record { empty = A; modes = (at.destination, at.source); left = k.left_none A at.destination at.source; idle = idle }

-- a state is at the end, or what comes next leaves less to do
data Ahead (sc : Scenario) (s : State) : Type 0 where
  At_end : Over s → next s ≡ None → Ahead sc s
  Goes_on : (c : Choice) → next s ≡ Some c → is_migration_step c ≡ true → Lowered s (step sc c s).after → Ahead sc s

-- each state is, where no transaction is active
ahead : (sc : Scenario) (s : State) → Known s → NoneActive s → Ahead sc s
ahead sc s k idle =
    elim (next_cases s s.ab s.ba s.a.mode s.b.mode refl refl refl refl) [
      | Takes n m ms e is ↦ Goes_on (Take n) is refl (take_lowers sc n s k (λ _. free_locks n s k idle) m ms e)
      | Ends_dual n dual is ↦ Goes_on (Finish_at n) is refl (finish_lowers sc n s k idle dual)
      | Hands_on n inbox outbox finish is ↦ Goes_on (Push n) is refl (push_lowers sc n s k idle inbox outbox finish)
      | Nothing ab ba a b is ↦ At_end (over_by s k idle ab ba a b (k.inv A).roles) is
    ]

-- node n is the source of a migration, or was that of the last one
abbrev Leaving : Node → State → Type 0
Leaving n s = (is_source (facing n s).me.mode ≡ true) ⊎ (((facing n s).me.mode ≡ Empty) × ((facing n s).them.mode ≡ Normal))

-- where it is over, the empty node e is that one
empty_left : (e n : Node) (s : State) → (facing e s).me.mode ≡ Empty → (facing e s).them.mode ≡ Normal → Leaving n s → e ≡ n
empty_left A A s empty normal h = refl
empty_left A B s empty normal (inl on) = absurd (false≢true (sym (ap is_source normal) ∙ on))
empty_left A B s empty normal (inr off) = cc (normal, off.0)
empty_left B A s empty normal (inl on) = absurd (false≢true (sym (ap is_source normal) ∙ on))
empty_left B A s empty normal (inr off) = cc (normal, off.0)
empty_left B B s empty normal h = refl

-- between two migrations nothing comes next
next_none : (n : Node) (s : State) → (facing n s).inbox ≡ [] → (facing n s).outbox ≡ [] → (facing n s).me.mode ≡ Empty → (facing n s).them.mode ≡ Normal
    → next s ≡ None
next_none A s inbox outbox empty normal = rw (inbox, outbox, empty, normal) refl
next_none B s inbox outbox empty normal = rw (inbox, outbox, empty, normal) refl

-- beside a node in Empty is a source, or one in Normal
beside_empty : {src dst : NodeState} {out back : List Message} → Phase src dst out back → dst.mode ≡ Empty → is_source src.mode ≡ false → src.mode ≡ Normal
beside_empty (Is Resting at) empty off = at.source
beside_empty (Is Wire_sent at) empty off = absurd (false≢true (sym off ∙ ap is_source at.source))
beside_empty (Is g at) empty off = cc (at.destination, empty)

-- a node that leaves is still the one that leaves after what comes next
leaves_on : (sc : Scenario) (n : Node) (c : Choice) (s : State) → Known s → Known (step sc c s).after → next s ≡ Some c → Lowered s (step sc c s).after
    → Leaving n s → Leaving n (step sc c s).after
leaves_on sc n c s k later is low (inl on) =
    let w = (step sc c s).after in
    elim (low.source n on) [
      | inl still ↦ inl still
      | inr gone ↦
          let off : is_source (facing n w).them.mode ≡ false = ap (λ (x : NodeState). is_source x.mode) gone.1 ∙ one_of (facing n s) (k.inv n).roles on in
          inr (gone.0, beside_empty (taker_of (facing n w) (later.inv n).roles (ap is_taker gone.0)) gone.0 off)
    ]
leaves_on sc n c s k later is low (inr off) =
    let links = (k.left_none n off.0 off.1).links in
    let none = next_none n s links.0 links.1 off.0 off.1 in
    cc (is, none)

-- the end of a way out, with the commits and the database of its beginning
record Ending (s w : State) : Type 0 where
  over : Over w
  source : (n : Node) → Leaving n s → over.empty ≡ n
  keeps : Keeps s w

-- where it is over it has ended
ends_here : (s : State) → Over s → Ending s s
ends_here s over = record {
  over = over;
  source = λ n h. empty_left over.empty n s over.modes.0 over.modes.1 h;
  keeps = keeps_none s;
}

-- what comes next leads to the end, in as many choices as are left
ends : (sc : Scenario) → IsScenario sc → (n : ℕ) (s : State) → From sc s → NoneActive s → left (facing A s) ≤ n → Ending s (play sc s (onward sc n s))
ends sc ok zero s f idle most =
    elim (ahead sc s (known sc ok s f) idle) [
      | At_end over none ↦ ends_here s over
      | Goes_on c is moves low ↦ let less = low.less in absurd (omega (arith, less, most))
    ]
ends sc ok (suc n) s f idle most =
    let to : Option Choice → Type 0 = λ o. Ending s (play sc s (led_by o (λ c. onward sc n (step sc c s).after))) in
    let k = known sc ok s f in
    elim (ahead sc s k idle) [
      | At_end over none ↦ subst to (sym none) (ends_here s over)
      | Goes_on c is moves low ↦
          let w = (step sc c s).after in
          let after = from_step sc c s f in
          let less = low.less in
          let rest = ends sc ok n w after (subst (λ xs. (t : ℕ) → on xs t ≡ false) (sym low.txns) idle) (omega (arith, less, most)) in
          subst to (sym is) (record {
            over = rest.over;
            source = λ m h. rest.source m (leaves_on sc m c s k (known sc ok w after) is low h);
            keeps = keeps_on s w _ (step_keeps sc ok c s f low.commits) rest.keeps;
          })
    ]

-- no node has more before it than this
cost_most : (m : NodeMode) (n : ℕ) → cost m n ≤ (n + n) + 5
cost_most Empty n = omega arith
cost_most Normal n = omega arith
cost_most SInit n = omega arith
cost_most SDual n = omega arith
cost_most SFinish n = omega arith
cost_most DInit n = omega arith
cost_most DDual n = omega arith
cost_most DFinish n = omega arith

-- so enough is enough
pub left_enough : (s : State) → left (facing A s) ≤ enough s
left_enough s =
    let a = cost_most s.a.mode (length s.a.pages) in
    let b = cost_most s.b.mode (length s.b.pages) in
    omega (arith, a, b)

-- the law: no state is a dead end
pub no_dead_end : (sc : Scenario) → IsScenario sc → (cs : List Choice) → let s = play sc (opening sc) cs in Ended s (play sc s (way_out sc s))
no_dead_end sc ok cs =
    let s = play sc (opening sc) cs in
    let killed = kills 0 s.txns in
    let w = play sc s killed in
    let q = all_killed sc ok s (record { choices = cs; is = refl }) in
    let e = ends sc ok (enough w) w q.from q.idle (left_enough w) in
    let keeps = keeps_on s w _ q.keeps e.keeps in
    subst (Ended s) (sym (play-append sc s killed (onward sc (enough w) w))) (record {
      over = e.over;
      source = λ n h. e.source n (inl (ap is_source (q.modes n) ∙ h));
      commits = keeps.commits;
      rows = keeps.data_same;
    })

-- migration steps that act are no more than is left
acts_most : (sc : Scenario) (cs : List Choice) (s : State) → EachActs sc s cs → length cs ≤ left (facing A s)
acts_most sc [] s h = omega arith
acts_most sc (c ∷ cs) s h =
    elim (migration_step sc c s h.0) [
      | inl same ↦ absurd (h.1 same)
      | inr low ↦ let less = low.less in let most = acts_most sc cs (step sc c s).after h.2 in omega (arith, less, most)
    ]

-- where none is active and no migration step would act, the migration is over
settled : (sc : Scenario) → IsScenario sc → (s : State) → From sc s → NoneActive s → NoneActs sc s → Over s
settled sc ok s f idle none =
    elim (ahead sc s (known sc ok s f) idle) [
      | At_end over e ↦ over
      | Goes_on c is moves low ↦ let less = low.less in let same = ap (λ (z : State). left (facing A z)) (none c moves) in absurd (omega (arith, less, same))
    ]

-- the law: migration steps run out, and where they have the migration is over
pub migration_steps_run_out : (sc : Scenario) → IsScenario sc → (cs : List Choice) → let s = play sc (opening sc) cs in
    ((more : List Choice) → EachActs sc s more → length more ≤ enough s) × (NoneActive s → NoneActs sc s → Over s)
migration_steps_run_out sc ok cs =
    let s = play sc (opening sc) cs in
    let most = left_enough s in
    ((λ more acts. let few = acts_most sc more s acts in omega (arith, few, most)), settled sc ok s (record { choices = cs; is = refl }))
