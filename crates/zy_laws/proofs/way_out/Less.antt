-- What is left to do in a migration, as a number: a take, a finish and a push that act leave less.
use Rattle.std.proofs.Common.{List, [], ap, arith, false, inl, inr, length, length-append, refl, suc, subst, sym, true, ℕ, ◌+◌, ◌<◌, ◌≤◌, ◌∙◌, ◌∷◌, ◌≡◌}
use Rattle.std.specs.Prelude.{◌⊎◌, ◌&&◌, ◌==◌, not, Option, Some, None, is_some}
use Rattle.std.proofs.lemmas.Bool.{and_parts, cond_both, false≢true, not-false, or_cases}
use Rattle.zy_isa.specs.Scenario.{Scenario}
use Rattle.zy_isa.specs.declared.choice.Choice.{Choice}
use Rattle.zy_isa.specs.declared.choice.Choice.TheVariants.{Take, Finish as Finish_at, Push}
use Rattle.zy_isa.specs.declared.node.Node.{Node}
use Rattle.zy_isa.specs.declared.node.Node.TheVariants.{A, B}
use Rattle.zy_model.specs.Families.{is_sending, is_source}
use Rattle.zy_model.specs.Locks.{is_locked}
use Rattle.zy_model.specs.Messages.{Wire, Ready, Dual, Pull, Page, Finish, Done}
use Rattle.zy_model.specs.Table.{may_pull, may_push, on_finish}
use Rattle.zy_model.specs.declared.kind.Kind.{Kind}
use Rattle.zy_model.specs.declared.kind.Kind.TheVariants as kind
use Rattle.zy_model.specs.declared.mode.NodeMode.{NodeMode}
use Rattle.zy_model.specs.declared.mode.NodeMode.TheVariants.{Empty, Normal, SInit, SDual, SFinish, DInit, DDual, DFinish}
use Rattle.zy_model.specs.declared.table.FinishLine.TheVariants.{Finishing}
use Rattle.zy_model.specs.declared.table.MessageLine.{MessageLine}
use Rattle.zy_model.specs.declared.table.MessageLine.TheVariants.{Stray, Turns}
use Rattle.zy_table.specs.Change.{leaves}
use Rattle.zy_table.specs.Numbers.{least}
use Rattle.zy_table.specs.Pages.{numbers, owns, with_page, without}
use Rattle.zy_table.specs.Play.{move, side_of, step}
use Rattle.zy_table.specs.Push.{active_from, finish_if, finish_step, push_if, push_step}
use Rattle.zy_table.specs.State.{Leaf, Message, Move, NodeState, State, View, facing, seen_from}
use Rattle.zy_table.specs.Take.{all_here, arrival_step, front_step, is_held, message_step, mode_line, pull_step, take_step, with_answer, with_brought}
use Rattle.zy_table.proofs.PageLists.{least-owns}
use Rattle.zy_laws.specs.WayOut.{is_migration_step}
use Rattle.zy_laws.proofs.walk.Conditions.{Front, rest}
use Rattle.zy_laws.proofs.walk.ModeLines.{done_line, dual_line, finish_line, page_line, pull_line, pulls_in, pushes_in_finish, ready_line, wire_line}

-- what a node with n pages has before it: two choices for each page that it has to hand on, and some for each mode
abbrev pub cost : NodeMode → ℕ → ℕ
cost Empty n = 2
cost Normal n = 0
cost SInit n = (n + n) + 5
cost SDual n = (n + n) + 4
cost SFinish n = (n + n) + 2
cost DInit n = 1
cost DDual n = 1
cost DFinish n = 1

-- what both nodes have before them, and a take for each message
abbrev pub left : View → ℕ
left v = (cost v.me.mode (length v.me.pages) + cost v.them.mode (length v.them.pages)) + (length v.inbox + length v.outbox)

-- a line that leaves the transactions, the commits and the other node, and less to do; a source stays one, or is Empty then
pub record Lowers (v w : View) : Type 0 where
  pub txns : w.txns ≡ v.txns
  pub commits : w.commits ≡ v.commits
  pub them : w.them ≡ v.them
  pub source : is_source v.me.mode ≡ true → (is_source w.me.mode ≡ true) ⊎ (w.me.mode ≡ Empty)
  pub less : left w < left v

-- a node that is no source has none to stay
no_source : {X : Type 0} (m : NodeMode) → is_source m ≡ false → is_source m ≡ true → X
no_source m off on = absurd (false≢true (sym off ∙ on))

-- a node that asks for pages has one choice before it
pulls_cost : (m : NodeMode) → may_pull m ≡ true → (n : ℕ) → cost m n ≡ 1
pulls_cost m h n = elim (pulls_in m h) [ inl e ↦ ap (λ x. cost x n) e | inr e ↦ ap (λ x. cost x n) e ]

-- and is no source
pulls_off : (m : NodeMode) → may_pull m ≡ true → is_source m ≡ false
pulls_off m h = elim (pulls_in m h) [ inl e ↦ ap is_source e | inr e ↦ ap is_source e ]

-- a page less is two choices less at a node that sends
sends_cost : (m : NodeMode) → is_sending m ≡ true → (a b : ℕ) → a < b → cost m a + 2 ≤ cost m b
sends_cost SDual h a b lt = omega arith
sends_cost SFinish h a b lt = omega arith
sends_cost m h a b lt = absurd (false≢true h)

-- there are no more pages without one of them
without_most : (p : ℕ) (xs : List Leaf) → length (without p xs) ≤ length xs
without_most p [] = omega arith
without_most p (x ∷ xs) =
    let k = without_most p xs in
    cond_both (x.number == p) (without p xs) (x ∷ without p xs) (λ ys. length ys ≤ suc (length xs)) (λ _. omega arith) (λ _. omega arith)

-- and fewer, if that one was there
without_less : (p : ℕ) (xs : List Leaf) → owns xs p ≡ true → length (without p xs) < length xs
without_less p [] h = absurd (false≢true h)
without_less p (x ∷ xs) h =
    let most = without_most p xs in
    cond_both (x.number == p) (without p xs) (x ∷ without p xs) (λ ys. length ys < suc (length xs)) (λ _. omega arith)
    (λ off. elim (or_cases _ _ h) [
      | inl here ↦ absurd (false≢true (sym off ∙ here))
      | inr more ↦ let k = without_less p xs more in omega arith
    ])

-- a page that leaves is a message more, and two choices less
leaves_less : (p : ℕ) (v : View) → is_sending v.me.mode ≡ true → owns v.me.pages p ≡ true → Lowers v (leaves p v)
unfolding leaves
leaves_less p v s own =
    let fewer = sends_cost v.me.mode s _ _ (without_less p v.me.pages own) in
    record { txns = refl; commits = refl; them = refl; source = (λ on. inl on); less = omega (arith, fewer, length-append {A = Message}) }

-- what a take of message m does: less is left; or nothing changes, since the mode does not know m, or sends, and the page that m asks for is locked
pub data Goes (v : View) (m : Message) (w : View) : Type 0 where
  Acts : Lowers v w → Goes v m w
  Strays : w ≡ v → mode_line m v ≡ Stray → Goes v m w
  IsHeld : w ≡ v → (p : ℕ) → is_sending v.me.mode ≡ true → is_locked v.me.locks p ≡ true → Goes v m w

-- how many messages an answer is
abbrev answers : Option Kind → ℕ
answers None = 0
answers (Some k) = 1

-- a link with an answer has no more messages than that more
answer_length : (answer : Option Kind) (ms : List Message) → length (with_answer answer ms) ≤ length ms + answers answer
answer_length (Some kind.Ready) ms = omega (arith, length-append {A = Message})
answer_length (Some kind.Dual) ms = omega (arith, length-append {A = Message})
answer_length (Some kind.Done) ms = omega (arith, length-append {A = Message})
answer_length answer ms = omega arith

-- what a node's take does
module _ (v : View) where
  -- by the line of the mode table
  by_line : (m : Message) (taken : Front m v) (y : MessageLine) → mode_line m v ≡ y
      → Goes v m (arrival_step y m v (rest v taken.after)).after → Goes v m (arrival_step (mode_line m v) m v (rest v taken.after)).after
  by_line m taken y e h = subst (λ z. Goes v m (arrival_step z m v (rest v taken.after)).after) (sym e) h

  -- a message that the mode does not know stays
  stays : (m : Message) (taken : Front m v) → mode_line m v ≡ Stray → Goes v m (arrival_step (mode_line m v) m v (rest v taken.after)).after
  unfolding arrival_step
  stays m taken e = by_line m taken Stray e (Strays refl e)

  -- a message turns the mode, and the new one with the answer costs no more than the old one
  turns_goes : (m : Message) (taken : Front m v) (to : NodeMode) (answer : Option Kind) → mode_line m v ≡ Turns to answer
      → (is_source v.me.mode ≡ true → (is_source to ≡ true) ⊎ (to ≡ Empty))
      → cost to (length (with_brought m v.me).pages) + answers answer ≤ cost v.me.mode (length v.me.pages)
      → Goes v m (arrival_step (mode_line m v) m v (rest v taken.after)).after
  unfolding arrival_step
  turns_goes m taken to answer e source most =
      let first = ap length taken.front in
      let sent = answer_length answer v.outbox in
      by_line m taken (Turns to answer) e (Acts (record { txns = refl; commits = refl; them = refl; source = source; less = omega (arith, first, sent, most) }))

  -- what my mode costs, by its name
  mode_cost : (m : NodeMode) → v.me.mode ≡ m → cost v.me.mode (length v.me.pages) ≡ cost m (length v.me.pages)
  mode_cost m e = ap (λ x. cost x (length v.me.pages)) e

  -- taking a wireframe
  wire_goes : (lows : List ℕ) (taken : Front (Wire lows) v)
      → Goes v (Wire lows) (arrival_step (mode_line (Wire lows) v) (Wire lows) v (rest v taken.after)).after
  wire_goes lows taken =
      elim (wire_line v.me.mode (all_here (with_brought (Wire lows) v.me))) [
        | inl e ↦ stays (Wire lows) taken e
        | inr h ↦ let old = mode_cost Empty h.0 in turns_goes (Wire lows) taken _ _ h.1 (no_source v.me.mode (ap is_source h.0)) (omega (arith, old))
      ]

  -- taking a ready
  ready_goes : (taken : Front Ready v) → Goes v Ready (arrival_step (mode_line Ready v) Ready v (rest v taken.after)).after
  ready_goes taken =
      elim (ready_line v.me.mode (all_here (with_brought Ready v.me))) [
        | inl e ↦ stays Ready taken e
        | inr h ↦ let old = mode_cost SInit h.0 in turns_goes Ready taken _ _ h.1 (λ _. inl refl) (omega (arith, old))
      ]

  -- taking a dual
  dual_goes : (taken : Front Dual v) → Goes v Dual (arrival_step (mode_line Dual v) Dual v (rest v taken.after)).after
  dual_goes taken =
      elim (dual_line v.me.mode (all_here (with_brought Dual v.me))) [
        | inl e ↦ stays Dual taken e
        | inr h ↦ let old = mode_cost DInit h.0 in turns_goes Dual taken _ _ h.1 (no_source v.me.mode (ap is_source h.0)) (omega (arith, old))
      ]

  -- taking a page, the last one or one of more
  page_goes : (leaf : Leaf) (taken : Front (Page leaf) v)
      → Goes v (Page leaf) (arrival_step (mode_line (Page leaf) v) (Page leaf) v (rest v taken.after)).after
  page_goes leaf taken =
      elim (page_line v.me.mode (all_here (with_brought (Page leaf) v.me))) [
        | inl e ↦ stays (Page leaf) taken e
        | inr h ↦ elim h [
          | inl more ↦
              let old = pulls_cost v.me.mode more.0 (length v.me.pages) in
              let new = pulls_cost v.me.mode more.0 (length (with_page leaf v.me.pages)) in
              turns_goes (Page leaf) taken _ _ more.2 (no_source v.me.mode (pulls_off v.me.mode more.0)) (omega (arith, old, new))
          | inr last ↦ let old = mode_cost DFinish last.0 in turns_goes (Page leaf) taken _ _ last.2 (no_source v.me.mode (ap is_source last.0)) (omega (arith, old))
        ]
      ]

  -- taking a finish, with all pages here or not
  finish_goes : (taken : Front Finish v) → Goes v Finish (arrival_step (mode_line Finish v) Finish v (rest v taken.after)).after
  finish_goes taken =
      elim (finish_line v.me.mode (all_here (with_brought Finish v.me))) [
        | inl e ↦ stays Finish taken e
        | inr h ↦
            let old = mode_cost DDual h.0 in
            elim h.1 [
              | inl some ↦ turns_goes Finish taken _ _ some.1 (no_source v.me.mode (ap is_source h.0)) (omega (arith, old))
              | inr all ↦ turns_goes Finish taken _ _ all.1 (no_source v.me.mode (ap is_source h.0)) (omega (arith, old))
            ]
      ]

  -- taking a done
  done_goes : (taken : Front Done v) → Goes v Done (arrival_step (mode_line Done v) Done v (rest v taken.after)).after
  done_goes taken =
      elim (done_line v.me.mode (all_here (with_brought Done v.me))) [
        | inl e ↦ stays Done taken e
        | inr h ↦ let old = mode_cost SFinish h.0 in turns_goes Done taken _ _ h.1 (λ _. inr refl) (omega (arith, old))
      ]

  -- taking a pull in a mode that sends: it is stale, it waits for the lock, or the page leaves
  pull_turns : (sc : Scenario) (p : ℕ) (taken : Front (Pull p) v) (to : NodeMode) → is_sending v.me.mode ≡ true
      → Goes v (Pull p) (pull_step sc p (Turns to (Some kind.Page)) v (rest v taken.after)).after
  unfolding pull_step
  pull_turns sc p taken to sends =
      let first = ap length taken.front in
      cond_both (not (owns v.me.pages p)) _ _ (λ (z : Move). Goes v (Pull p) z.after)
      (λ _. Acts (record { txns = refl; commits = refl; them = refl; source = (λ on. inl on); less = omega (arith, first) }))
      (λ own. cond_both (is_held sc.rule && is_locked v.me.locks p) _ _ (λ (z : Move). Goes v (Pull p) z.after)
      (λ held. IsHeld refl p sends (and_parts _ _ held).1)
      (λ _. let k = leaves_less p (rest v taken.after) sends (not-false _ own) in
      let less = k.less in Acts (record { txns = k.txns; commits = k.commits; them = k.them; source = k.source; less = omega (arith, first, less) })))

  -- taking a pull
  pull_goes : (sc : Scenario) (p : ℕ) (taken : Front (Pull p) v) → Goes v (Pull p) (pull_step sc p (mode_line (Pull p) v) v (rest v taken.after)).after
  unfolding pull_step
  pull_goes sc p taken =
      let by : (y : MessageLine) → mode_line (Pull p) v ≡ y → Goes v (Pull p) (pull_step sc p y v (rest v taken.after)).after
      → Goes v (Pull p) (pull_step sc p (mode_line (Pull p) v) v (rest v taken.after)).after = λ y e h.
      subst (λ z. Goes v (Pull p) (pull_step sc p z v (rest v taken.after)).after) (sym e) h in
      elim (pull_line v.me.mode (all_here (with_brought (Pull p) v.me))) [
        | inl e ↦ by Stray e (Strays refl e)
        | inr h ↦ by _ h.1.1 (pull_turns sc p taken h.1.0 h.0)
      ]

  -- taking a message of each kind
  message_goes : (sc : Scenario) (m : Message) (taken : Front m v) → Goes v m (message_step sc m v (rest v taken.after)).after
  unfolding message_step
  message_goes sc (Wire lows) taken = wire_goes lows taken
  message_goes sc Ready taken = ready_goes taken
  message_goes sc Dual taken = dual_goes taken
  message_goes sc (Pull p) taken = pull_goes sc p taken
  message_goes sc (Page leaf) taken = page_goes leaf taken
  message_goes sc Finish taken = finish_goes taken
  message_goes sc Done taken = done_goes taken

  -- a take of the front of the link
  take_goes : (sc : Scenario) (m : Message) (taken : Front m v) → Goes v m (take_step sc v).after
  unfolding take_step front_step
  take_goes sc m taken = subst (λ ms. Goes v m (front_step sc ms v).after) (sym taken.front) (message_goes sc m taken)

  -- where the mode knows it, and nobody has a lock at a node that sends, less is left
  pub take_less : (sc : Scenario) (m : Message) (taken : Front m v) → (mode_line m v ≡ Stray → ⊥) → (is_sending v.me.mode ≡ true → v.me.locks ≡ [])
      → Lowers v (take_step sc v).after
  take_less sc m taken known free =
      elim (take_goes sc m taken) [
        | Acts k ↦ k
        | Strays e line ↦ absurd (known line)
        | IsHeld e p sends held ↦ absurd (false≢true (sym (ap (λ xs. is_locked xs p) (free sends)) ∙ held))
      ]

-- a step of a node leaves what it sees, or less to do
abbrev pub Moves : View → View → Type 0
Moves v w = (w ≡ v) ⊎ Lowers v w

-- a take does, by the messages on the link
take_by : (sc : Scenario) (v : View) (ms : List Message) → v.inbox ≡ ms → Moves v (take_step sc v).after
unfolding take_step front_step
take_by sc v [] e = inl (ap (λ ms. (front_step sc ms v).after) e)
take_by sc v (m ∷ ms) e =
    elim (take_goes v sc m (record { after = ms; front = e })) [
      | Acts k ↦ inr k
      | Strays same line ↦ inl same
      | IsHeld same p sends held ↦ inl same
    ]

-- a finish that acts leaves less to do
finish_acts : (t : ℕ) (v : View) → v.me.mode ≡ SDual → Lowers v (finish_if Finishing t v).after
unfolding finish_if
finish_acts t v m =
    let old = ap (λ x. cost x (length v.me.pages)) m in
    record { txns = refl; commits = refl; them = refl; source = (λ _. inl refl); less = omega (arith, old, length-append {A = Message}) }

-- a finish acts or changes nothing, by the mode and by whether somebody runs
finish_by : (mode : NodeMode) (o : Option ℕ) (t : ℕ) (v : View) → v.me.mode ≡ mode → Moves v (finish_if (on_finish mode (is_some o)) t v).after
unfolding finish_if
finish_by SDual None t v m = inr (finish_acts t v m)
finish_by mode o t v m = inl refl

-- it acts in SDual where nobody runs
finish_alone : (mode : NodeMode) (o : Option ℕ) (t : ℕ) (v : View) → v.me.mode ≡ mode → mode ≡ SDual → o ≡ None
    → Lowers v (finish_if (on_finish mode (is_some o)) t v).after
finish_alone SDual None t v m dual none = finish_acts t v m
finish_alone SDual (Some u) t v m dual none = cc none
finish_alone mode o t v m dual none = cc dual

-- a finish in SDual where nobody runs
pub finishes_less : (n : Node) (v : View) → v.me.mode ≡ SDual → active_from n 0 v.txns ≡ None → Lowers v (finish_step n v).after
unfolding finish_step
finishes_less n v dual none = finish_alone v.me.mode (active_from n 0 v.txns) _ v refl dual none

-- some pages have a least number
least_none : (xs : List Leaf) → None ≡ least (numbers xs) → xs ≡ []
least_none [] e = refl
least_none (x ∷ xs) e = cc e

-- a push of the least page that is here: there is none, or less is left
push_by : (o : Option ℕ) (v : View) → o ≡ least (numbers v.me.pages) → is_sending v.me.mode ≡ true
    → ((push_if o v).after ≡ v) × (v.me.pages ≡ []) ⊎ Lowers v (push_if o v).after
unfolding push_if
push_by None v e s = inl (refl, least_none v.me.pages e)
push_by (Some p) v e s = inr (leaves_less p v s (least-owns v.me.pages p (sym e)))

-- a push in SFinish with a page left
pub pushes_less : (v : View) → v.me.mode ≡ SFinish → (v.me.pages ≡ [] → ⊥) → Lowers v (push_step v).after
unfolding push_step
pushes_less v finish some =
    cond_both (may_push v.me.mode) _ _ (λ (z : Move). Lowers v z.after)
    (λ _. elim (push_by _ v refl (ap is_sending finish)) [ inl none ↦ absurd (some none.1) | inr k ↦ k ])
    (λ off. absurd (false≢true (sym off ∙ ap may_push finish)))

-- any push
push_any : (v : View) → Moves v (push_step v).after
unfolding push_step
push_any v =
    cond_both (may_push v.me.mode) _ _ (λ (z : Move). Moves v z.after)
    (λ on. elim (push_by _ v refl (ap is_sending (pushes_in_finish v.me.mode on))) [ inl none ↦ inl none.0 | inr k ↦ inr k ])
    (λ off. inl refl)

-- each migration step does
migration_moves : (sc : Scenario) (c : Choice) (v : View) → is_migration_step c ≡ true → Moves v (move sc c v).after
unfolding move finish_step
migration_moves sc (Take n) v h = take_by sc v v.inbox refl
migration_moves sc (Finish_at n) v h = finish_by v.me.mode (active_from n 0 v.txns) _ v refl
migration_moves sc (Push n) v h = push_any v
migration_moves sc c v h = absurd (false≢true h)

-- a source stays one through a step, or is Empty then, and the other node is as it was
abbrev pub StaysSource : Node → State → State → Type 0
StaysSource n s t = (is_source (facing n t).me.mode ≡ true) ⊎ (((facing n t).me.mode ≡ Empty) × ((facing n t).them ≡ (facing n s).them))

-- from whichever side the step is made
source_back : (n m : Node) (s : State) (w : View) → Lowers (facing n s) w → is_source (facing m s).me.mode ≡ true → StaysSource m s (seen_from n w)
source_back A A s w k h = elim (k.source h) [ inl on ↦ inl on | inr empty ↦ inr (empty, k.them) ]
source_back A B s w k h = inl (ap (λ (x : NodeState). is_source x.mode) k.them ∙ h)
source_back B A s w k h = inl (ap (λ (x : NodeState). is_source x.mode) k.them ∙ h)
source_back B B s w k h = elim (k.source h) [ inl on ↦ inl on | inr empty ↦ inr (empty, k.them) ]

-- what a line does, of a state and the state after a step
pub record Lowered (s t : State) : Type 0 where
  pub txns : t.txns ≡ s.txns
  pub commits : t.commits ≡ s.commits
  pub source : (n : Node) → is_source (facing n s).me.mode ≡ true → StaysSource n s t
  pub less : left (facing A t) < left (facing A s)

-- a line of one side is a step of the state
pub lowered : (n : Node) (s : State) (w : View) → Lowers (facing n s) w → Lowered s (seen_from n w)
lowered A s w k = record { txns = k.txns; commits = k.commits; source = λ m h. source_back A m s w k h; less = k.less }
lowered B s w k =
    let less = k.less in
    record { txns = k.txns; commits = k.commits; source = λ m h. source_back B m s w k h; less = omega (arith, less) }

-- a state that a node sees as it was is as it was
same_back : (n : Node) (s : State) (w : View) → w ≡ facing n s → seen_from n w ≡ s
same_back A s w e = ap (seen_from A) e
same_back B s w e = ap (seen_from B) e

-- so each migration step leaves the state, or less to do
pub migration_step : (sc : Scenario) (c : Choice) (s : State) → is_migration_step c ≡ true → ((step sc c s).after ≡ s) ⊎ Lowered s (step sc c s).after
unfolding step
migration_step sc c s h =
    let n = side_of sc c s in
    let v = facing n s in
    let w = (move sc c v).after in
    elim (migration_moves sc c v h) [ inl same ↦ inl (same_back n s w same) | inr k ↦ inr (lowered n s w k) ]
