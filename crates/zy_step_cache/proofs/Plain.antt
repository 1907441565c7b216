-- A choice made from two states of which all counts: where it reads the same, the step from one carries over to the other.
use Rattle.std.proofs.Common.{◌≡◌, ◌∙◌, ◌*◌, ◌+◌, ◌<◌, ℕ, zero, suc, List, [], ◌∷◌, length, map, drop, Some, None, slice_get, slice_index_or, false, refl, sym, ap, ap₂, arith, subst}
use Rattle.std.proofs.lemmas.Bool.{cond-false}
use Rattle.std.proofs.lemmas.List.{length-map, drop-map}
use Rattle.std.specs.Prelude.{unwrap_or}
use Rattle.zy_isa.specs.declared.node.Node.{Node}
use Rattle.zy_isa.specs.declared.node.Node.TheVariants.{A, B}
use Rattle.zy_isa.specs.declared.choice.Choice.{Choice}
use Rattle.zy_isa.specs.declared.choice.Choice.TheVariants.{Start, Begin, Kill, Run, Take, Finish, Push}
use Rattle.zy_isa.specs.Scenario.{Scenario}
use Rattle.zy_model.specs.Messages.{Message}
use Rattle.zy_model.specs.declared.mode.NodeMode.{NodeMode}
use Rattle.zy_model.specs.declared.mode.NodeMode.TheVariants.{Empty, Normal, SInit, SDual, SFinish, DInit, DDual, DFinish}
use Rattle.zy_model.specs.Table.{on_start}
use Rattle.zy_table.specs.State.{State, NodeState, Txn, Move, facing, seen_from, other, as_step}
use Rattle.zy_table.specs.Change.{txn_or, txn_at, quiet}
use Rattle.zy_table.specs.Client.{is_active, kill_step}
use Rattle.zy_table.specs.declared.outcome.Outcome.TheVariants as outcome
use Rattle.zy_table.specs.Play.{move, step, side_of}
use Rattle.zy_table.specs.Push.{active_from}
use Rattle.zy_steps.specs.declared.part.StatePart.{StatePart}
use Rattle.zy_steps.specs.Alike.{txns_part}
use Rattle.zy_state_ids.specs.Codes.{mode_code}
use Rattle.zy_state_ids.specs.Packed.{node_state, items, message, commit, txn}
use Rattle.zy_state_ids.proofs.Codings.{mode_with, mode_again}
use Rattle.zy_state_ids.proofs.States.{all, node_state_is_code, message_is_code, commit_is_code, txn_is_code}
use Rattle.zy_state_ids.specs.Parts.{parts, AreNumbersOf}
use Rattle.zy_steps.specs.Reads.{SameMove, uncounted}
use Rattle.zy_steps.proofs.SameMoves.{move_same, move_changes}
use Rattle.zy_step_cache.specs.Places.{node_place, link_place, commits_place, txn_place, at, mode_in, lowest_in}
use Rattle.zy_step_cache.proofs.Assembly.{gives}
use Rattle.zy_step_cache.proofs.Offside.{part_at}
use Rattle.zy_step_cache.proofs.Said.{mode_said, lowest_said, code_tells}
use Rattle.zy_step_cache.proofs.Carried.{told, Carries, run_own, run_link, run_commits, take_carries, finish_carries, push_carries, kill_carries, begin_carries, start_carries}

-- the same number gives the same part of two lists as long
pub same_part : (table : List (List ℕ)) (ns ms : List ℕ) (xs ys : List (List ℕ)) (p : ℕ) → AreNumbersOf table ns xs → AreNumbersOf table ms ys
    → length xs ≡ length ys → at ns p ≡ at ms p → slice_get xs p ≡ slice_get ys p
same_part table [] [] [] [] p e f l a = refl
same_part table ns ms [] (y ∷ ys) p e f l a = absurd (omega (arith, l))
same_part table ns ms (x ∷ xs) [] p e f l a = absurd (omega (arith, l))
same_part table [] ms (x ∷ xs) (y ∷ ys) p e f l a = cc
same_part table (n ∷ ns) [] (x ∷ xs) (y ∷ ys) p e f l a = cc
same_part table (n ∷ ns) ms [] [] p e f l a = cc
same_part table [] (m ∷ ms) [] [] p e f l a = cc
same_part table (n ∷ ns) (m ∷ ms) (x ∷ xs) (y ∷ ys) zero e f l a =
    let there : slice_get table n ≡ Some x = ap (λ os. slice_index_or os 0 None) e in
    let here : slice_get table m ≡ Some y = ap (λ os. slice_index_or os 0 None) f in
    sym there ∙ ap (slice_get table) a ∙ here
same_part table (n ∷ ns) (m ∷ ms) (x ∷ xs) (y ∷ ys) (suc p) e f l a =
    let there : AreNumbersOf table ns xs = ap (drop 1) e in
    let here : AreNumbersOf table ms ys = ap (drop 1) f in
    same_part table ns ms xs ys p there here (omega (arith, l)) a

-- the same part of a transaction is the same transaction
same_txn : (xs ys : List Txn) (u : ℕ) → slice_get (map txn xs) u ≡ slice_get (map txn ys) u → txn_or (slice_get xs u) ≡ txn_or (slice_get ys u)
same_txn [] [] u e = refl
same_txn [] (y ∷ ys) zero e = cc
same_txn [] (y ∷ ys) (suc u) e = same_txn [] ys u e
same_txn (x ∷ xs) [] zero e = cc
same_txn (x ∷ xs) [] (suc u) e = same_txn xs [] u e
same_txn (x ∷ xs) (y ∷ ys) zero e = told txn txn_is_code x y e
same_txn (x ∷ xs) (y ∷ ys) (suc u) e = same_txn xs ys u e

-- the part of a transaction that is there
pub part_there : (xs : List Txn) (u : ℕ) → u < length xs → slice_get (map txn xs) u ≡ Some (txn (txn_or (slice_get xs u)))
part_there [] u h = absurd (omega (arith, h))
part_there (x ∷ xs) zero h = refl
part_there (x ∷ xs) (suc u) h = part_there xs u (omega (arith, h))

-- a state is what a node sees
pub seen : (x : Node) (s : State) → seen_from x (facing x s) ≡ s
seen A s = refl
seen B s = refl

-- two modes as one number
two_modes : (a b c d : NodeMode) → mode_code a * 256 + mode_code b ≡ mode_code c * 256 + mode_code d → (a ≡ c) × (b ≡ d)
two_modes a b c d e =
    let few : (m : NodeMode) → mode_code m < 8 = below in
    let first : mode_code a ≡ mode_code c = omega (arith, e, few a, few b, few c, few d) in
    let second : mode_code b ≡ mode_code d = omega (arith, e, few a, few b, few c, few d) in
    (sym (mode_again a) ∙ ap mode_with first ∙ mode_again c, sym (mode_again b) ∙ ap mode_with second ∙ mode_again d)
  where
    below : (m : NodeMode) → mode_code m < 8
    below Empty = omega arith
    below Normal = omega arith
    below SInit = omega arith
    below SDual = omega arith
    below SFinish = omega arith
    below DInit = omega arith
    below DDual = omega arith
    below DFinish = omega arith

-- a number of a list
abbrev nth : ℕ → List ℕ → ℕ
nth i xs = slice_index_or xs i 0

-- what a step by a choice comes to from both states
pub record Comes (part : StatePart) (sc : Scenario) (c : Choice) (s t : State) (p q r z : ℕ) : Type 0 where
  pub carries : Carries part (step sc c s).after t (step sc c t).after p q r z
  pub outcome : uncounted (step sc c s).outcome ≡ uncounted (step sc c t).outcome

module _ (part : StatePart) (sc : Scenario) (c : Choice) (s t : State) where
  -- it is what its side's move comes to
  at_side : (x : Node) (p q r z : ℕ) → side_of sc c s ≡ x → side_of sc c t ≡ x
      → Carries part (seen_from x (move sc c (facing x s)).after) (seen_from x (facing x t)) (seen_from x (move sc c (facing x t)).after) p q r z
      → uncounted (move sc c (facing x s)).outcome ≡ uncounted (move sc c (facing x t)).outcome → Comes part sc c s t p q r z
  unfolding step
  at_side x p q r z es et carries outcome = record {
    carries =
        let there = ap (λ y. (as_step y (move sc c (facing y s))).after) es in
        let here = ap (λ y. (as_step y (move sc c (facing y t))).after) et in
        subst (λ (a : State × (State × State)). Carries part a.0 a.1.0 a.1.1 p q r z)
        (ap₂ (λ (a : State) (b : State × State). (a, b)) (sym there) (ap₂ (λ (a b : State). (a, b)) (seen x t) (sym here))) carries;
    outcome =
        ap (λ y. uncounted (as_step y (move sc c (facing y s))).outcome) es ∙ outcome
        ∙ sym (ap (λ y. uncounted (as_step y (move sc c (facing y t))).outcome) et);
  }

module _ (sc : Scenario) (part : StatePart) (table : List (List ℕ)) (s t : State) (before now : List ℕ)
    (plain_s : txns_part part s.txns ≡ s.txns) (plain_t : txns_part part t.txns ≡ t.txns) (are_s : AreNumbersOf table before (parts part s))
    (are_t : AreNumbersOf table now (parts part t)) (many : length s.txns ≡ length t.txns) where
  long : (xs : List Txn) → txns_part part xs ≡ xs → length (map txn (txns_part part xs)) ≡ length xs
  long xs e = ap (λ ys. length (map txn ys)) e ∙ length-map xs txn

  as_long : length (parts part s) ≡ length (parts part t)
  as_long = omega (arith, long s.txns plain_s, long t.txns plain_t, many)

  -- the part at a place that has one number
  same : (p : ℕ) → at before p ≡ at now p → part_at part s p ≡ part_at part t p
  same p e = same_part table before now (parts part s) (parts part t) p are_s are_t as_long e

  me : (x : Node) → at before (node_place x) ≡ at now (node_place x) → (facing x s).me ≡ (facing x t).me
  me A e = told node_state node_state_is_code s.a t.a (same 0 e)
  me B e = told node_state node_state_is_code s.b t.b (same 1 e)

  outbox : (x : Node) → at before (link_place x) ≡ at now (link_place x) → (facing x s).outbox ≡ (facing x t).outbox
  outbox A e = told (items message) (all message message_is_code) s.ab t.ab (same 2 e)
  outbox B e = told (items message) (all message message_is_code) s.ba t.ba (same 3 e)

  inbox : (x : Node) → at before (link_place (other x)) ≡ at now (link_place (other x)) → (facing x s).inbox ≡ (facing x t).inbox
  inbox A e = told (items message) (all message message_is_code) s.ba t.ba (same 3 e)
  inbox B e = told (items message) (all message message_is_code) s.ab t.ab (same 2 e)

  commits : at before commits_place ≡ at now commits_place → s.commits ≡ t.commits
  commits e = told (items commit) (all commit commit_is_code) s.commits t.commits (same 4 e)

  pub the_txn : (u : ℕ) → at before (txn_place u) ≡ at now (txn_place u) → txn_or (slice_get s.txns u) ≡ txn_or (slice_get t.txns u)
  the_txn u e =
      same_txn s.txns t.txns u (sym (ap (λ xs. slice_get (map txn xs) u) plain_s) ∙ same (txn_place u) e ∙ ap (λ xs. slice_get (map txn xs) u) plain_t)

  txn_facing : (x : Node) (u : ℕ) → at before (txn_place u) ≡ at now (txn_place u) → txn_at (facing x s) u ≡ txn_at (facing x t) u
  unfolding txn_at
  txn_facing A u e = the_txn u e
  txn_facing B u e = the_txn u e

  many_facing : (x : Node) → length (facing x s).txns ≡ length (facing x t).txns
  many_facing A = many
  many_facing B = many

  commits_facing : (x : Node) → at before commits_place ≡ at now commits_place → (facing x s).commits ≡ (facing x t).commits
  commits_facing A e = commits e
  commits_facing B e = commits e

  -- ---- each choice

  run_same : (x : Node) (u : ℕ) → at before (node_place x) ≡ at now (node_place x) → at before (txn_place u) ≡ at now (txn_place u)
      → SameMove (Run x u) (facing x s) (facing x t) (move sc (Run x u) (facing x s)) (move sc (Run x u) (facing x t))
  run_same x u n e = move_same sc (Run x u) (facing x s) (facing x t) (many_facing x) (me x n, txn_facing x u e)

  pub runs_own : (x : Node) (u : ℕ) → at before (node_place x) ≡ at now (node_place x) → at before (txn_place u) ≡ at now (txn_place u)
      → (facing x s).outbox ≡ (move sc (Run x u) (facing x s)).after.outbox → (facing x s).commits ≡ (move sc (Run x u) (facing x s)).after.commits
      → Comes part sc (Run x u) s t (node_place x) (txn_place u) (txn_place u) (txn_place u)
  runs_own x u n e f g =
      let alike = run_same x u n e in
      at_side part sc (Run x u) s t x _ _ _ _ refl refl
      (run_own part sc x (facing x s) (facing x t) (many_facing x) u alike (move_changes sc (Run x u) (facing x s)) (move_changes sc (Run x u) (facing x t)) f g) alike.outcome

  pub runs_link : (x : Node) (u : ℕ) → at before (node_place x) ≡ at now (node_place x) → at before (txn_place u) ≡ at now (txn_place u)
      → at before (link_place x) ≡ at now (link_place x) → (facing x s).commits ≡ (move sc (Run x u) (facing x s)).after.commits
      → Comes part sc (Run x u) s t (node_place x) (txn_place u) (link_place x) (link_place x)
  runs_link x u n e f g =
      let alike = run_same x u n e in
      at_side part sc (Run x u) s t x _ _ _ _ refl refl
      (run_link part sc x (facing x s) (facing x t) (many_facing x) u alike (move_changes sc (Run x u) (facing x s)) (move_changes sc (Run x u) (facing x t)) (outbox x f) g) alike.outcome

  pub runs_commits : (x : Node) (u : ℕ) → at before (node_place x) ≡ at now (node_place x) → at before (txn_place u) ≡ at now (txn_place u)
      → (facing x s).outbox ≡ (move sc (Run x u) (facing x s)).after.outbox → at before commits_place ≡ at now commits_place
      → Comes part sc (Run x u) s t (node_place x) (txn_place u) commits_place commits_place
  runs_commits x u n e f g =
      let alike = run_same x u n e in
      at_side part sc (Run x u) s t x _ _ _ _ refl refl
      (run_commits part sc x (facing x s) (facing x t) (many_facing x) u alike (move_changes sc (Run x u) (facing x s)) (move_changes sc (Run x u) (facing x t)) f (commits_facing x g)) alike.outcome

  first_of : (ms ns : List Message) → ms ≡ ns → slice_get ms 0 ≡ slice_get ns 0
  first_of ms ns e = ap (λ xs. slice_get xs 0) e

  pub takes : (x : Node) → at before (node_place x) ≡ at now (node_place x) → at before (link_place x) ≡ at now (link_place x)
      → at before (link_place (other x)) ≡ at now (link_place (other x))
      → Comes part sc (Take x) s t (node_place x) (link_place x) (link_place (other x)) (link_place (other x))
  takes x n f g =
      let alike = move_same sc (Take x) (facing x s) (facing x t) (many_facing x) (me x n, first_of _ _ (inbox x g)) in
      at_side part sc (Take x) s t x _ _ _ _ refl refl
      (take_carries part sc x (facing x s) (facing x t) (many_facing x) alike (move_changes sc (Take x) (facing x t)) (outbox x f) (inbox x g)) alike.outcome

  pub pushes : (x : Node) → at before (node_place x) ≡ at now (node_place x) → at before (link_place x) ≡ at now (link_place x)
      → Comes part sc (Push x) s t (node_place x) (link_place x) (link_place x) (link_place x)
  pushes x n f =
      let alike = move_same sc (Push x) (facing x s) (facing x t) (many_facing x) (me x n) in
      at_side part sc (Push x) s t x _ _ _ _ refl refl
      (push_carries part sc x (facing x s) (facing x t) (many_facing x) alike (move_changes sc (Push x) (facing x t)) (outbox x f)) alike.outcome

  lowest_facing : (x : Node) → active_from x 0 s.txns ≡ active_from x 0 t.txns → active_from x 0 (facing x s).txns ≡ active_from x 0 (facing x t).txns
  lowest_facing A e = e
  lowest_facing B e = e

  behind : (ns : List ℕ) (y : State) → AreNumbersOf table ns (parts part y) → AreNumbersOf table (drop 5 ns) (map txn (txns_part part y.txns))
  behind ns y e = sym (drop-map (slice_get table) 5 ns) ∙ ap (drop 5) e

  lowest : (x : Node) → lowest_in table x 0 (drop 5 before) ≡ lowest_in table x 0 (drop 5 now) → active_from x 0 s.txns ≡ active_from x 0 t.txns
  lowest x e =
      let there = lowest_said table x 0 (drop 5 before) (txns_part part s.txns) (behind before s are_s) in
      let here = lowest_said table x 0 (drop 5 now) (txns_part part t.txns) (behind now t are_t) in
      sym (ap (active_from x 0) plain_s) ∙ code_tells _ _ (sym there ∙ e ∙ here) ∙ ap (active_from x 0) plain_t

  pub finishes : (x : Node) → at before (node_place x) ≡ at now (node_place x) → at before (link_place x) ≡ at now (link_place x)
      → lowest_in table x 0 (drop 5 before) ≡ lowest_in table x 0 (drop 5 now)
      → Comes part sc (Finish x) s t (node_place x) (link_place x) (link_place x) (link_place x)
  finishes x n f e =
      let alike = move_same sc (Finish x) (facing x s) (facing x t) (many_facing x) (me x n, lowest_facing x (lowest x e)) in
      at_side part sc (Finish x) s t x _ _ _ _ refl refl
      (finish_carries part sc x (facing x s) (facing x t) (many_facing x) alike (move_changes sc (Finish x) (facing x t)) (outbox x f)) alike.outcome

  -- the modes of both nodes
  modes : mode_in table (at before (node_place A)) * 256 + mode_in table (at before (node_place B))
      ≡ mode_in table (at now (node_place A)) * 256 + mode_in table (at now (node_place B)) → (s.a.mode ≡ t.a.mode) × (s.b.mode ≡ t.b.mode)
  modes e =
      let there = gives table before (parts part s) are_s in
      let here = gives table now (parts part t) are_t in
      let sa = mode_said table (at before 0) s.a (there 0 (node_state s.a) refl) in
      let sb = mode_said table (at before 1) s.b (there 1 (node_state s.b) refl) in
      let ta = mode_said table (at now 0) t.a (here 0 (node_state t.a) refl) in
      let tb = mode_said table (at now 1) t.b (here 1 (node_state t.b) refl) in
      two_modes s.a.mode s.b.mode t.a.mode t.b.mode
      (sym (ap₂ (λ m n. m * 256 + n) sa sb) ∙ e ∙ ap₂ (λ m n. m * 256 + n) ta tb)

  pub begins : (u : ℕ) → at before (txn_place u) ≡ at now (txn_place u)
      → mode_in table (at before (node_place A)) * 256 + mode_in table (at before (node_place B))
      ≡ mode_in table (at now (node_place A)) * 256 + mode_in table (at now (node_place B))
      → Comes part sc (Begin u) s t (txn_place u) (txn_place u) (txn_place u) (txn_place u)
  begins u e m =
      let both = modes m in
      let alike = move_same sc (Begin u) (facing A s) (facing A t) many (both.0, (both.1, txn_facing A u e)) in
      at_side part sc (Begin u) s t A _ _ _ _ refl refl
      (begin_carries part sc A (facing A s) (facing A t) many u alike (move_changes sc (Begin u) (facing A s)) (move_changes sc (Begin u) (facing A t))) alike.outcome

  -- ---- a kill

  -- it is active: its node, which its bytes say, is read too
  pub kills : (u : ℕ) (x : Node) → at before (txn_place u) ≡ at now (txn_place u) → (txn_or (slice_get s.txns u)).node ≡ x
      → at before (node_place x) ≡ at now (node_place x)
      → Comes part sc (Kill u) s t (txn_place u) (node_place x) (node_place x) (node_place x)
  kills u x e home n =
      let alike = move_same sc (Kill u) (facing x s) (facing x t) (many_facing x) (me x n, txn_facing x u e) in
      at_side part sc (Kill u) s t x _ _ _ _ home (sym (ap (λ (y : Txn). y.node) (the_txn u e)) ∙ home)
      (kill_carries part sc x (facing x s) (facing x t) (many_facing x) u alike (move_changes sc (Kill u) (facing x s)) (move_changes sc (Kill u) (facing x t))) alike.outcome

  -- it is not: nothing comes of it
  nothing_killed : (u : ℕ) (x : Node) (y : State) → is_active (txn_or (slice_get y.txns u)).status ≡ false
      → move sc (Kill u) (facing x y) ≡ quiet (facing x y) outcome.Idle
  unfolding move kill_step txn_at
  nothing_killed u A y e = cond-false _ _ _ e
  nothing_killed u B y e = cond-false _ _ _ e

  pub kills_none : (u : ℕ) → at before (txn_place u) ≡ at now (txn_place u) → is_active (txn_or (slice_get s.txns u)).status ≡ false
      → Comes part sc (Kill u) s t (txn_place u) (txn_place u) (txn_place u) (txn_place u)
  kills_none u e idle =
      let x = (txn_or (slice_get s.txns u)).node in
      let there = nothing_killed u x s idle in
      let here = nothing_killed u x t (sym (ap (λ (y : Txn). is_active y.status) (the_txn u e)) ∙ idle) in
      let here' = ap (λ (m : Move). seen_from x m.after) here ∙ seen x t in
      let there' = ap (λ (m : Move). seen_from x m.after) there ∙ seen x s in
      let part_same : part_at part (seen_from x (move sc (Kill u) (facing x s)).after) (txn_place u) ≡ part_at part (seen_from x (move sc (Kill u) (facing x t)).after) (txn_place u)
      = ap (λ y. part_at part y (txn_place u)) there' ∙ same (txn_place u) e ∙ sym (ap (λ y. part_at part y (txn_place u)) here') in
      at_side part sc (Kill u) s t x _ _ _ _ refl (sym (ap (λ (y : Txn). y.node) (the_txn u e)))
      (record {
        first = part_same;
        second = part_same;
        third = part_same;
        fourth = part_same;
        off = λ i np nq nr nz. ap (λ y. part_at part y i) (seen x t ∙ sym here');
      }) (ap (λ (m : Move). uncounted m.outcome) there ∙ sym (ap (λ (m : Move). uncounted m.outcome) here))

  -- ---- a start

  pub starts : at before (node_place A) ≡ at now (node_place A) → at before (node_place B) ≡ at now (node_place B)
      → at before (link_place A) ≡ at now (link_place A) → at before (link_place B) ≡ at now (link_place B)
      → Comes part sc Start s t (node_place A) (node_place B) (link_place A) (link_place B)
  starts a b ab ba =
      let same_side : side_of sc Start s ≡ side_of sc Start t
      = ap₂ (λ (x y : NodeState). unwrap_or (on_start x.mode y.mode sc.version) A) (me A a) (me B b) in
      from_side (side_of sc Start s) refl (sym same_side)
    where
      from_side : (x : Node) → side_of sc Start s ≡ x → side_of sc Start t ≡ x → Comes part sc Start s t (node_place A) (node_place B) (link_place A) (link_place B)
      from_side A es et =
          let v = facing A s in
          let w = facing A t in
          let alike = move_same sc Start v w many (me A a, ap (λ (y : NodeState). y.mode) (me B b)) in
          at_side part sc Start s t A _ _ _ _ es et (start_carries part sc A v w many alike (move_changes sc Start v) (move_changes sc Start w) (me B b) (outbox A ab) (inbox A ba)) alike.outcome
      from_side B es et =
          let v = facing B s in
          let w = facing B t in
          let alike = move_same sc Start v w many (me B b, ap (λ (y : NodeState). y.mode) (me A a)) in
          at_side part sc Start s t B _ _ _ _ es et (start_carries part sc B v w many alike (move_changes sc Start v) (move_changes sc Start w) (me A a) (outbox B ba) (inbox B ab)) alike.outcome
