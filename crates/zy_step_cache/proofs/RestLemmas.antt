-- Where a choice rests, nothing comes of it.
use Rattle.std.specs.Prelude.{nat_lt}
use Rattle.std.proofs.Common.{◌≡◌, ◌∙◌, ◌==◌, ◌&&◌, ◌<◌, ◌++◌, ℕ, zero, suc, List, [], ◌∷◌, Some, slice_index_or, length, not, slice_get, Bool, true, false, refl, sym, ap, ap₂, arith, cond}
use Rattle.std.proofs.Math.Bool.{true≢false}
use Rattle.std.proofs.lemmas.Bool.{ne_eqb}
use Rattle.std.proofs.lemmas.List.{length-map}
use Rattle.zy_isa.specs.declared.node.Node.{Node}
use Rattle.zy_isa.specs.declared.node.Node.TheVariants.{A, B}
use Rattle.zy_isa.specs.declared.choice.Choice.{Choice}
use Rattle.zy_isa.specs.declared.choice.Choice.TheVariants.{Start, Begin, Kill, Run, Take, Finish, Push}
use Rattle.zy_isa.specs.Scenario.{Scenario}
use Rattle.zy_model.specs.declared.mode.NodeMode.{NodeMode}
use Rattle.zy_model.specs.declared.mode.NodeMode.TheVariants.{Empty, Normal, SInit, SDual, SFinish, DInit, DDual, DFinish}
use Rattle.zy_model.specs.Messages.{Message}
use Rattle.zy_model.specs.Table.{may_start}
use Rattle.zy_steps.specs.declared.part.StatePart.{StatePart}
use Rattle.zy_steps.specs.declared.part.StatePart.TheVariants.{Whole, Live}
use Rattle.zy_steps.specs.Alike.{txn_part, txns_part}
use Rattle.zy_state_ids.specs.Codes.{mode_code, node_code, status_code}
use Rattle.zy_state_ids.specs.Packed.{items, message, node_state, number, txn}
use Rattle.zy_state_ids.specs.Parts.{parts, IsNumbered}
use Rattle.zy_table.specs.declared.outcome.Why.TheVariants as why
use Rattle.zy_table.specs.declared.status.Status.{Status}
use Rattle.zy_table.specs.declared.status.Status.TheVariants.{New, Active, Committed, Aborted}
use Rattle.zy_table.specs.State.{State, View, Txn, facing, other}
use Rattle.zy_table.specs.Change.{nobody, txn_at, txn_or}
use Rattle.zy_table.specs.Client.{is_active, is_new, start_step, begin_step, kill_step}
use Rattle.zy_table.specs.Run.{same_node, run_step}
use Rattle.zy_table.specs.Take.{front_step, take_step}
use Rattle.zy_table.specs.Push.{finish_if, finish_step, push_step}
use Rattle.zy_table.specs.Play.{move, step, side_of}
use Rattle.zy_step_cache.specs.Places.{at, home_in, is_active_in, link_place, mode_in, node_place, txn_place}
use Rattle.zy_step_cache.specs.Rests.{is_idle, is_mode_in, is_new_in, has_txn, rests}
use Rattle.zy_step_cache.proofs.Again.{as_many, long, nat_below}
use Rattle.zy_step_cache.proofs.Assembly.{gives}
use Rattle.zy_step_cache.proofs.Plain.{part_there}
use Rattle.zy_step_cache.proofs.Said.{byte_is, active_said, at_said, mode_said}

-- what is not said is not so
opposite : (b c : Bool) → b ≡ c → not b ≡ true → c ≡ false
opposite true c e n = cc
opposite false c e n = sym e

-- ---- what the bytes of a transaction say

new_first : (st : Status) (rest : List ℕ) → (slice_index_or (number (status_code st) ++ rest) 0 0 == 0) ≡ is_new st
new_first New rest = refl
new_first Active rest = refl
new_first Committed rest = refl
new_first (Aborted why.Own) rest = refl
new_first (Aborted why.Killed) rest = refl
new_first (Aborted why.BadKey) rest = refl
new_first (Aborted why.Missing) rest = refl
new_first (Aborted why.Duplicate) rest = refl
new_first (Aborted why.NoPage) rest = refl
new_first (Aborted (why.Frozen p)) rest = refl
new_first (Aborted (why.Gone p)) rest = refl

new_said : (table : List (List ℕ)) (n : ℕ) (x : Txn) → slice_get table n ≡ Some (txn x) → is_new_in table n ≡ is_new x.status
new_said table n x said = ap (λ b. b == 0) (byte_is table n (txn x) 0 said) ∙ new_first x.status _

-- ---- what counts of a transaction says the same

-- its status
part_status : (part : StatePart) (x : Txn) → (txn_part part x).status ≡ x.status
part_status Whole x = refl
part_status Live x = by_test (is_active x.status)
  where
    by_test : (b : Bool) → (cond b x (record nobody { status = x.status; rows = x.rows })).status ≡ x.status
    by_test true = refl
    by_test false = refl

-- whether it is active at a node
part_at_node : (part : StatePart) (x : Txn) (m : Node)
    → (is_active (txn_part part x).status && same_node (txn_part part x).node m) ≡ (is_active x.status && same_node x.node m)
part_at_node Whole x m = refl
part_at_node Live x m = by_test (is_active x.status) refl
  where
    by_test : (b : Bool) → is_active x.status ≡ b
        → (is_active (cond b x (record nobody { status = x.status; rows = x.rows })).status && same_node (cond b x (record nobody { status = x.status; rows = x.rows })).node m)
        ≡ (is_active x.status && same_node x.node m)
    by_test true e = refl
    by_test false e = ap (λ b. b && same_node A m) e ∙ sym (ap (λ b. b && same_node x.node m) e)

-- that of the one at a place
part_of_one : (part : StatePart) (xs : List Txn) (u : ℕ) → u < length xs
    → txn_or (slice_get (txns_part part xs) u) ≡ txn_part part (txn_or (slice_get xs u))
part_of_one part [] u h = absurd (omega (arith, h))
part_of_one Whole (x ∷ xs) u h = refl
part_of_one Live (x ∷ xs) zero h = refl
part_of_one Live (x ∷ xs) (suc u) h = part_of_one Live xs u (omega (arith, h))

-- ---- what the bytes of nodes and links say

-- where the parts of a state have these numbers
module _ (table : List (List ℕ)) (part : StatePart) (s : State) (numbers : List ℕ) (are : IsNumbered table part numbers s) where
  -- the part of a node
  node_part : (x : Node) → slice_get table (at numbers (node_place x)) ≡ Some (node_state (facing x s).me)
  node_part A = gives table numbers (parts part s) are 0 (node_state s.a) refl
  node_part B = gives table numbers (parts part s) are 1 (node_state s.b) refl

  -- its mode
  mode_is : (x : Node) → mode_in table (at numbers (node_place x)) ≡ mode_code (facing x s).me.mode
  mode_is x = mode_said table (at numbers (node_place x)) (facing x s).me (node_part x)

  -- whether it is in a mode
  in_mode : (x : Node) (m : NodeMode) → is_mode_in table (at numbers (node_place x)) m ≡ (mode_code (facing x s).me.mode == mode_code m)
  in_mode x m = ap (λ k. k == mode_code m) (mode_is x)

  -- the part of the link to a node
  link_part : (x : Node) → slice_get table (at numbers (link_place (other x))) ≡ Some (items message (facing x s).inbox)
  link_part A = gives table numbers (parts part s) are 3 (items message s.ba) refl
  link_part B = gives table numbers (parts part s) are 2 (items message s.ab) refl

-- how many there are is no 0 where there is one
some_first : (k : ℕ) (rest : List ℕ) → (slice_index_or (number (suc k) ++ rest) 0 0 == 0) ≡ false
some_first k rest = by_tests (nat_lt (suc k) 254) (nat_lt (suc k) 65536) refl refl
  where
    by_tests : (b d : Bool) → nat_lt (suc k) 254 ≡ b → nat_lt (suc k) 65536 ≡ d → (slice_index_or (number (suc k) ++ rest) 0 0 == 0) ≡ false
    by_tests true d e f = rw e (ne_eqb (suc k) 0 (λ h. absurd (omega (arith, h))))
    by_tests false true e f = rw (e, f) refl
    by_tests false false e f = rw (e, f) refl

-- a list whose bytes begin with 0 is empty
none_there : (ms : List Message) → (slice_index_or (items message ms) 0 0 == 0) ≡ true → ms ≡ []
none_there [] e = refl
none_there (m ∷ ms) e = absurd (true≢false (sym e ∙ some_first (length ms) _))

-- a migration starts from one mode to another
start_said : (m o : NodeMode) → ((mode_code m == mode_code Normal) && (mode_code o == mode_code Empty)) ≡ may_start m o
start_said Empty o = refl
start_said Normal Empty = refl
start_said Normal Normal = refl
start_said Normal SInit = refl
start_said Normal SDual = refl
start_said Normal SFinish = refl
start_said Normal DInit = refl
start_said Normal DDual = refl
start_said Normal DFinish = refl
start_said SInit o = refl
start_said SDual o = refl
start_said SFinish o = refl
start_said DInit o = refl
start_said DDual o = refl
start_said DFinish o = refl

-- ---- each choice

-- where the bytes of the transaction at a place say what they say of its status and node
module _ (table : List (List ℕ)) (part : StatePart) (s : State) (numbers : List ℕ) (are : IsNumbered table part numbers s) (u : ℕ)
    (there : has_txn numbers u ≡ true) where
  abbrev the_txn : Txn
  the_txn = txn_or (slice_get s.txns u)

  below : u < length s.txns
  below = omega (arith, nat_below (txn_place u) (length numbers) there, as_many table numbers (parts part s) are, long part s.txns)

  said : slice_get table (at numbers (txn_place u)) ≡ Some (txn (txn_part part the_txn))
  said =
      gives table numbers (parts part s) are (txn_place u) (txn (txn_part part the_txn))
      (part_there (txns_part part s.txns) u (omega (arith, below, many_part)) ∙ ap (λ x. Some (txn x)) (part_of_one part s.txns u below))
    where
      many_part : length (txns_part part s.txns) ≡ length s.txns
      many_part = sym (length-map (txns_part part s.txns) txn) ∙ long part s.txns

  begun : not (is_new_in table (at numbers (txn_place u))) ≡ true → is_new the_txn.status ≡ false
  begun e = opposite _ _ (new_said table (at numbers (txn_place u)) (txn_part part the_txn) said ∙ ap is_new (part_status part the_txn)) e

  ended : not (is_active_in table (at numbers (txn_place u))) ≡ true → is_active the_txn.status ≡ false
  ended e = opposite _ _ (active_said table (at numbers (txn_place u)) (txn_part part the_txn) said ∙ ap is_active (part_status part the_txn)) e

  elsewhere : (x : Node) → not (is_active_in table (at numbers (txn_place u)) && (home_in table (at numbers (txn_place u)) == node_code x)) ≡ true
      → (is_active the_txn.status && same_node the_txn.node x) ≡ false
  elsewhere x e = opposite _ _ (at_said table (at numbers (txn_place u)) (txn_part part the_txn) x said ∙ part_at_node part the_txn x) e

-- a begin of a transaction that has begun
begin_rests : (t : ℕ) (v : View) → is_new (txn_at v t).status ≡ false → is_idle (begin_step t v).outcome ≡ true
unfolding begin_step
begin_rests t v e = rw e refl

-- a kill of one that is not active
kill_rests : (t : ℕ) (v : View) → is_active (txn_at v t).status ≡ false → is_idle (kill_step t v).outcome ≡ true
unfolding kill_step
kill_rests t v e = rw e refl

-- a run of one that is not active at its node
run_rests : (sc : Scenario) (x : Node) (t : ℕ) (v : View) → (is_active (txn_at v t).status && same_node (txn_at v t).node x) ≡ false
    → is_idle (run_step sc x t v).outcome ≡ true
unfolding run_step
run_rests sc x t v e = by_tests (is_active (txn_at v t).status) (same_node (txn_at v t).node x) refl refl e
  where
    by_tests : (a b : Bool) → is_active (txn_at v t).status ≡ a → same_node (txn_at v t).node x ≡ b → (a && b) ≡ false
        → is_idle (run_step sc x t v).outcome ≡ true
    by_tests false b active same e = rw active refl
    by_tests true false active same e = rw active (rw same refl)
    by_tests true true active same e = absurd (true≢false e)

-- a start from a mode from which none may start
start_rests : (v : View) → may_start v.me.mode v.them.mode ≡ false → is_idle (start_step v).outcome ≡ true
unfolding start_step
start_rests v e = rw e refl

-- a take from an empty link
take_rests : (sc : Scenario) (v : View) → v.inbox ≡ [] → is_idle (take_step sc v).outcome ≡ true
unfolding take_step front_step
take_rests sc v e = rw e refl

-- a finish in another mode
finish_rests : (x : Node) (v : View) (m : NodeMode) → v.me.mode ≡ m → not (mode_code m == mode_code SDual) ≡ true → is_idle (finish_step x v).outcome ≡ true
unfolding finish_step finish_if
finish_rests x v Empty is e = rw is refl
finish_rests x v Normal is e = rw is refl
finish_rests x v SInit is e = rw is refl
finish_rests x v SDual is e = cc
finish_rests x v SFinish is e = rw is refl
finish_rests x v DInit is e = rw is refl
finish_rests x v DDual is e = rw is refl
finish_rests x v DFinish is e = rw is refl

-- a push in another mode
push_rests : (v : View) (m : NodeMode) → v.me.mode ≡ m → not (mode_code m == mode_code SFinish) ≡ true → is_idle (push_step v).outcome ≡ true
unfolding push_step
push_rests v Empty is e = rw is refl
push_rests v Normal is e = rw is refl
push_rests v SInit is e = rw is refl
push_rests v SDual is e = rw is refl
push_rests v SFinish is e = cc
push_rests v DInit is e = rw is refl
push_rests v DDual is e = rw is refl
push_rests v DFinish is e = rw is refl

-- no migration starts from a node where none may start from either
either : (s : State) → may_start s.a.mode s.b.mode ≡ false → may_start s.b.mode s.a.mode ≡ false → (n : Node)
    → may_start (facing n s).me.mode (facing n s).them.mode ≡ false
either s ab ba A = ab
either s ab ba B = ba

-- a transaction as a node sees it
seen_txn : (x : Node) (s : State) (t : ℕ) → txn_at (facing x s) t ≡ txn_or (slice_get s.txns t)
unfolding txn_at
seen_txn A s t = refl
seen_txn B s t = refl

-- both of two tests
both : (a b : Bool) → (a && b) ≡ true → (a ≡ true) × (b ≡ true)
both true b e = (refl, e)
both false b e = cc

-- each of them
pub idle : (table : List (List ℕ)) (part : StatePart) (sc : Scenario) (s : State) (numbers : List ℕ) → IsNumbered table part numbers s → (c : Choice)
    → rests table c numbers ≡ true → is_idle (step sc c s).outcome ≡ true
unfolding move step
idle table part sc s numbers are (Begin t) e =
    let is = both _ _ e in
    begin_rests t (facing A s) (ap (λ (x : Txn). is_new x.status) (seen_txn A s t) ∙ begun table part s numbers are t is.0 is.1)
idle table part sc s numbers are (Kill t) e =
    let is = both _ _ e in
    let n = side_of sc (Kill t) s in
    kill_rests t (facing n s) (ap (λ (x : Txn). is_active x.status) (seen_txn n s t) ∙ ended table part s numbers are t is.0 is.1)
idle table part sc s numbers are (Run x t) e =
    let is = both _ _ e in
    run_rests sc x t (facing x s)
    (ap (λ (y : Txn). is_active y.status && same_node y.node x) (seen_txn x s t) ∙ elsewhere table part s numbers are t is.0 x is.1)
idle table part sc s numbers are Start e =
    let is = both _ _ e in
    let code = λ (x : Node) (m : NodeMode). in_mode table part s numbers are x m in
    let ab = opposite _ _ (ap₂ (λ b c. b && c) (code A Normal) (code B Empty) ∙ start_said s.a.mode s.b.mode) is.0 in
    let ba = opposite _ _ (ap₂ (λ b c. b && c) (code B Normal) (code A Empty) ∙ start_said s.b.mode s.a.mode) is.1 in
    let n = side_of sc Start s in
    start_rests (facing n s) (either s ab ba n)
idle table part sc s numbers are (Take x) e =
    take_rests sc (facing x s) (none_there (facing x s).inbox (sym (ap (λ b. b == 0) (byte_is table _ (items message (facing x s).inbox) 0 (link_part table part s numbers are x))) ∙ e))
idle table part sc s numbers are (Finish x) e =
    finish_rests x (facing x s) (facing x s).me.mode refl (ap not (sym (in_mode table part s numbers are x SDual)) ∙ e)
idle table part sc s numbers are (Push x) e =
    push_rests (facing x s) (facing x s).me.mode refl (ap not (sym (in_mode table part s numbers are x SFinish)) ∙ e)
