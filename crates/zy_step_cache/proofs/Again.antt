-- A step that happened happens again: numbers that a choice reads alike lead to the numbers that it wrote.
use Rattle.std.proofs.Common.{◌≡◌, ◌∙◌, ◌<◌, ℕ, List, [], ◌∷◌, ◌++◌, length, map, nat_lt, Some, slice_get, slice_set, Bool, true, false, refl, sym, ap, ap₂, arith}
use Rattle.std.proofs.lemmas.Bool.{cond-true, cond-false, ltb-true}
use Rattle.std.proofs.lemmas.List.{length-map, length-set}
use Rattle.zy_isa.specs.declared.node.Node.{Node}
use Rattle.zy_isa.specs.declared.node.Node.TheVariants.{A, B}
use Rattle.zy_isa.specs.declared.choice.Choice.{Choice}
use Rattle.zy_isa.specs.declared.choice.Choice.TheVariants.{Start, Begin, Kill, Run, Take, Finish, Push}
use Rattle.zy_isa.specs.Choices.{names_below}
use Rattle.zy_isa.specs.Scenario.{Scenario}
use Rattle.zy_table.specs.State.{State, View, Txn, facing, other}
use Rattle.zy_table.specs.Change.{txn_or, nobody}
use Rattle.zy_table.specs.Client.{is_active}
use Rattle.zy_table.specs.Play.{move, step, side_of}
use Rattle.zy_steps.specs.declared.part.StatePart.{StatePart}
use Rattle.zy_steps.specs.declared.part.StatePart.TheVariants.{Whole, Live}
use Rattle.zy_steps.specs.Alike.{live_txn, txns_part, part_of, Alike}
use Rattle.zy_steps.proofs.AlikeSteps.{live_active, alike_outcome, alike_after}
use Rattle.zy_table.specs.declared.outcome.Outcome.{Outcome}
use Rattle.zy_state_ids.specs.Codes.{node_code}
use Rattle.zy_state_ids.specs.Packed.{items, message, commit, txn}
use Rattle.zy_state_ids.proofs.States.{all, message_is_code, commit_is_code}
use Rattle.zy_state_ids.specs.Parts.{shared_parts, parts, AreNumbersOf, IsNumbered}
use Rattle.zy_steps.specs.Reads.{uncounted}
use Rattle.zy_steps.proofs.Rest.{step_leaves}
use Rattle.zy_step_cache.specs.declared.places.Read.{Read}
use Rattle.zy_step_cache.specs.declared.places.Scope.{Scope}
use Rattle.zy_step_cache.specs.declared.places.Scope.TheVariants as scope
use Rattle.zy_step_cache.specs.Places.{at, node_place, link_place, commits_place, txn_place, four, is_active_in, home_in, places, beside, read_at, reads}
use Rattle.zy_step_cache.specs.Steps.{put_at, IsInScope, Happened}
use Rattle.zy_step_cache.proofs.Assembly.{gives, numbers, four_put, other_at_four}
use Rattle.zy_step_cache.proofs.Offside.{part_at}
use Rattle.zy_step_cache.proofs.Said.{active_said, home_said}
use Rattle.zy_step_cache.proofs.Carried.{told, Carries}
use Rattle.zy_step_cache.proofs.Sides.{outbox_at, commits_at}
use Rattle.zy_step_cache.proofs.Plain.{same_part, seen, part_there, the_txn, Comes, starts, begins, kills, kills_none, runs_own, runs_link, runs_commits, takes, finishes, pushes}

-- ---- numbers put at four places

module _ (part : StatePart) (table : List (List ℕ)) (now after : List ℕ) (s t u : State) (p q r z : ℕ) (carries : Carries part s t u p q r z)
    (are_t : AreNumbersOf table now (parts part t)) (are_s : AreNumbersOf table after (parts part s)) (as_long : length (parts part t) ≡ length (parts part u))
    (now_long : length now ≡ length (parts part t)) where
  -- what is written at a place
  written : (i : ℕ) → part_at part s i ≡ part_at part u i → (x : List ℕ) → part_at part u i ≡ Some x → slice_get table (at after i) ≡ Some x
  written i e x h = gives table after (parts part s) are_s i x (e ∙ h)

  -- numbers stay as many
  put_long : length (put_at now (four p q r z) (map (at after) (four p q r z))) ≡ length now
  put_long =
      let first = slice_set now p (at after p) in
      let second = slice_set first q (at after q) in
      let third = slice_set second r (at after r) in
      length-set third z (at after z) ∙ length-set second r (at after r) ∙ length-set first q (at after q) ∙ length-set now p (at after p)

  pub put_numbers : p < length now → q < length now → r < length now → z < length now
      → AreNumbersOf table (put_at now (four p q r z) (map (at after) (four p q r z))) (parts part u)
  put_numbers hp hq hr hz =
      let meant = other_at_four (part_at part t) (part_at part u) p q r z carries.off in
      let given = four_put table (part_at part u) (part_at part t) now after p q r z hp hq hr hz (gives table now (parts part t) are_t)
      (written p carries.first) (written q carries.second) (written r carries.third) (written z carries.fourth) in
      numbers table _ (parts part u) (omega (arith, put_long, as_long, now_long)) (λ i x h. given i x (meant i ∙ h))

-- ---- lengths

-- as many numbers as parts
pub as_many : (table : List (List ℕ)) (ns : List ℕ) (xs : List (List ℕ)) → AreNumbersOf table ns xs → length ns ≡ length xs
as_many table ns xs e = sym (length-map ns (slice_get table)) ∙ ap length e ∙ length-map xs (λ x. Some x)

-- a part for each transaction
pub long : (part : StatePart) (xs : List Txn) → length (map txn (txns_part part xs)) ≡ length xs
long Whole xs = length-map xs txn
long Live xs = length-map (map live_txn xs) txn ∙ length-map xs live_txn

-- a step leaves as many transactions
pub many_after : (sc : Scenario) (c : Choice) (s : State) → length (step sc c s).after.txns ≡ length s.txns
many_after sc c s = at_either (side_of sc c s) (step sc c s).after (step_leaves sc c s).txns.many
  where
    at_either : (x : Node) (y : State) → length (facing x y).txns ≡ length (facing x s).txns → length y.txns ≡ length s.txns
    at_either A y e = e
    at_either B y e = e

-- ---- what is read

pub nat_below : (t n : ℕ) → nat_lt t n ≡ true → t < n
nat_below t n e = ltb-true t n e

-- the code of a node is its place
code_place : (x : Node) → node_code x ≡ node_place x
code_place A = refl
code_place B = refl

module _ (sc : Scenario) (part : StatePart) (table : List (List ℕ)) (s t : State) (before now after : List ℕ)
    (plain_s : txns_part part s.txns ≡ s.txns) (plain_t : txns_part part t.txns ≡ t.txns) (are_s : AreNumbersOf table before (parts part s))
    (are_t : AreNumbersOf table now (parts part t)) (many : length s.txns ≡ length t.txns) where
  now_long : length now ≡ length (parts part t)
  now_long = as_many table now (parts part t) are_t

  -- each of the first five places is there, and that of each transaction
  fixed : (p : ℕ) → p < 5 → p < length now
  fixed p h = omega (arith, h, now_long)

  txn_there : (u : ℕ) → u < length t.txns → txn_place u < length now
  txn_there u h = omega (arith, h, now_long, long part t.txns)

  node_there : (x : Node) → node_place x < length now
  node_there A = fixed 0 (omega arith)
  node_there B = fixed 1 (omega arith)

  link_there : (x : Node) → link_place x < length now
  link_there A = fixed 2 (omega arith)
  link_there B = fixed 3 (omega arith)

  -- four places, the numbers at which are the same
  record FourSame (p q r z : ℕ) : Type 0 where
    pub first : at before p ≡ at now p
    pub second : at before q ≡ at now q
    pub third : at before r ≡ at now r
    pub fourth : at before z ≡ at now z

  four_same : (c : Choice) (k : Scope) (p q r z : ℕ) → places table c k before ≡ four p q r z → places table c k now ≡ four p q r z
      → reads table c k before ≡ reads table c k now → FourSame p q r z
  four_same c k p q r z were are read =
      let e = sym (ap (λ ps. read_at (beside table c k before) (map (at before) ps)) were)
      ∙ read ∙ ap (λ ps. read_at (beside table c k now) (map (at now) ps)) are in
      record {
        first = ap (λ (x : Read). x.first) e;
        second = ap (λ (x : Read). x.second) e;
        third = ap (λ (x : Read). x.third) e;
        fourth = ap (λ (x : Read). x.fourth) e;
      }

  -- what is read beside
  beside_same : (c : Choice) (k : Scope) → reads table c k before ≡ reads table c k now → beside table c k before ≡ beside table c k now
  beside_same c k read = ap (λ (x : Read). x.beside) read

  -- the places that a choice writes, which are there, and what the step by it comes to
  pub record Written (c : Choice) (k : Scope) : Type 0 where
    pub p : ℕ
    pub q : ℕ
    pub r : ℕ
    pub z : ℕ
    pub were : places table c k before ≡ four p q r z
    pub are : places table c k now ≡ four p q r z
    pub p_there : p < length now
    pub q_there : q < length now
    pub r_there : r < length now
    pub z_there : z < length now
    pub comes : Comes part sc c s t p q r z

  -- ---- each choice

  abbrev IsRead : Choice → Scope → Type 0
  IsRead c k = reads table c k before ≡ reads table c k now

  -- a choice whose places are these in both lists of numbers, with what its step comes to where the numbers at the places are the same
  written_at : (c : Choice) (k : Scope) (p q r z : ℕ) → places table c k before ≡ four p q r z → places table c k now ≡ four p q r z → p < length now
      → q < length now → r < length now → z < length now → (FourSame p q r z → Comes part sc c s t p q r z) → IsRead c k → Written c k
  written_at c k p q r z were are hp hq hr hz comes read = record {
    p = p;
    q = q;
    r = r;
    z = z;
    were = were;
    are = are;
    p_there = hp;
    q_there = hq;
    r_there = hr;
    z_there = hz;
    comes = comes (four_same c k p q r z were are read);
  }

  start_written : (k : Scope) → IsRead Start k → Written Start k
  start_written k =
      written_at Start k (node_place A) (node_place B) (link_place A) (link_place B) refl refl (node_there A) (node_there B) (link_there A) (link_there B)
      (λ e. starts sc part table s t before now plain_s plain_t are_s are_t many e.first e.second e.third e.fourth)

  begin_written : (k : Scope) (u : ℕ) → u < length t.txns → IsRead (Begin u) k → Written (Begin u) k
  begin_written k u h read =
      let there = txn_there u h in
      written_at (Begin u) k (txn_place u) (txn_place u) (txn_place u) (txn_place u) refl refl there there there there
      (λ e. begins sc part table s t before now plain_s plain_t are_s are_t many u e.first (beside_same (Begin u) k read)) read

  take_written : (k : Scope) (x : Node) → IsRead (Take x) k → Written (Take x) k
  take_written k x =
      written_at (Take x) k (node_place x) (link_place x) (link_place (other x)) (link_place (other x)) refl refl (node_there x) (link_there x)
      (link_there (other x)) (link_there (other x))
      (λ e. takes sc part table s t before now plain_s plain_t are_s are_t many x e.first e.second e.third)

  finish_written : (k : Scope) (x : Node) → IsRead (Finish x) k → Written (Finish x) k
  finish_written k x read =
      written_at (Finish x) k (node_place x) (link_place x) (link_place x) (link_place x) refl refl (node_there x) (link_there x) (link_there x) (link_there x)
      (λ e. finishes sc part table s t before now plain_s plain_t are_s are_t many x e.first e.second (beside_same (Finish x) k read)) read

  push_written : (k : Scope) (x : Node) → IsRead (Push x) k → Written (Push x) k
  push_written k x =
      written_at (Push x) k (node_place x) (link_place x) (link_place x) (link_place x) refl refl (node_there x) (link_there x) (link_there x) (link_there x)
      (λ e. pushes sc part table s t before now plain_s plain_t are_s are_t many x e.first e.second)

  -- ---- a kill

  -- the place of an active transaction's node
  home_place : (ns : List ℕ) (y : State) (plain_y : txns_part part y.txns ≡ y.txns) → AreNumbersOf table ns (parts part y) → (u : ℕ) → u < length y.txns
      → is_active (txn_or (slice_get y.txns u)).status ≡ true
      → places table (Kill u) scope.Own ns
      ≡ four (txn_place u) (node_place (txn_or (slice_get y.txns u)).node) (node_place (txn_or (slice_get y.txns u)).node) (node_place (txn_or (slice_get y.txns u)).node)
  home_place ns y plain_y are_y u h active =
      let x = txn_or (slice_get y.txns u) in
      let n = at ns (txn_place u) in
      let said = gives table ns (parts part y) are_y (txn_place u) (txn x) (ap (λ xs. slice_get (map txn xs) u) plain_y ∙ part_there y.txns u h) in
      let home = cond-true (is_active_in table n) (home_in table n) (txn_place u) (active_said table n x said ∙ active)
      ∙ home_said table n x said active ∙ code_place x.node in
      ap (λ q. four (txn_place u) q q q) home

  -- one that is not active has no place but its own
  no_home : (ns : List ℕ) (y : State) (plain_y : txns_part part y.txns ≡ y.txns) → AreNumbersOf table ns (parts part y) → (u : ℕ) → u < length y.txns
      → is_active (txn_or (slice_get y.txns u)).status ≡ false
      → places table (Kill u) scope.Own ns ≡ four (txn_place u) (txn_place u) (txn_place u) (txn_place u)
  no_home ns y plain_y are_y u h idle =
      let x = txn_or (slice_get y.txns u) in
      let n = at ns (txn_place u) in
      let said = gives table ns (parts part y) are_y (txn_place u) (txn x) (ap (λ xs. slice_get (map txn xs) u) plain_y ∙ part_there y.txns u h) in
      ap (λ q. four (txn_place u) q q q) (cond-false (is_active_in table n) (home_in table n) (txn_place u) (active_said table n x said ∙ idle))

  kill_written : (k : Scope) (u : ℕ) → u < length t.txns → IsRead (Kill u) k → Written (Kill u) k
  kill_written k u h read = by_status (is_active (txn_or (slice_get s.txns u)).status) refl
    where
      hs : u < length s.txns
      hs = omega (arith, h, many)

      own : at before (txn_place u) ≡ at now (txn_place u)
      own = ap (λ (x : Read). x.first) read

      the_same : txn_or (slice_get s.txns u) ≡ txn_or (slice_get t.txns u)
      the_same = the_txn sc part table s t before now plain_s plain_t are_s are_t many u own

      by_status : (b : Bool) → is_active (txn_or (slice_get s.txns u)).status ≡ b → Written (Kill u) k
      by_status true active =
          let x = (txn_or (slice_get s.txns u)).node in
          let here = sym (ap (λ (y : Txn). is_active y.status) the_same) ∙ active in
          let are = home_place now t plain_t are_t u h here
          ∙ ap (λ (y : Txn). four (txn_place u) (node_place y.node) (node_place y.node) (node_place y.node)) (sym the_same) in
          written_at (Kill u) k (txn_place u) (node_place x) (node_place x) (node_place x) (home_place before s plain_s are_s u hs active) are (txn_there u h)
          (node_there x) (node_there x) (node_there x)
          (λ e. kills sc part table s t before now plain_s plain_t are_s are_t many u x own refl e.second) read
      by_status false idle =
          let here = sym (ap (λ (y : Txn). is_active y.status) the_same) ∙ idle in
          let there = txn_there u h in
          written_at (Kill u) k (txn_place u) (txn_place u) (txn_place u) (txn_place u) (no_home before s plain_s are_s u hs idle)
          (no_home now t plain_t are_t u h here) there there there there
          (λ e. kills_none sc part table s t before now plain_s plain_t are_s are_t many u own idle) read

  -- ---- a run

  module _ (x : Node) (u : ℕ) (are_after : AreNumbersOf table after (parts part (step sc (Run x u) s).after)) where
    abbrev moved : View
    moved = (move sc (Run x u) (facing x s)).after

    -- a part that has its number after the step
    unchanged : (p : ℕ) → at before p ≡ at after p → part_at part s p ≡ part_at part (step sc (Run x u) s).after p
    unchanged p e =
        same_part table before after (parts part s) (parts part (step sc (Run x u) s).after) p are_s are_after
        (omega (arith, long part s.txns, long part (step sc (Run x u) s).after.txns, many_after sc (Run x u) s)) e

    link_left : at before (link_place x) ≡ at after (link_place x) → (facing x s).outbox ≡ moved.outbox
    unfolding step
    link_left e =
        told (items message) (all message message_is_code) (facing x s).outbox moved.outbox
        (sym (outbox_at part x (facing x s)) ∙ ap (λ y. part_at part y (link_place x)) (seen x s) ∙ unchanged (link_place x) e ∙ outbox_at part x moved)

    commits_left : at before commits_place ≡ at after commits_place → (facing x s).commits ≡ moved.commits
    unfolding step
    commits_left e =
        told (items commit) (all commit commit_is_code) (facing x s).commits moved.commits
        (sym (commits_at part x (facing x s)) ∙ ap (λ y. part_at part y commits_place) (seen x s) ∙ unchanged commits_place e ∙ commits_at part x moved)

    run_written : (k : Scope) → u < length t.txns → IsRead (Run x u) k → IsInScope (Run x u) k before after → Written (Run x u) k
    run_written scope.Own h read within =
        let there = txn_there u h in
        written_at (Run x u) scope.Own (node_place x) (txn_place u) (txn_place u) (txn_place u) refl refl (node_there x) there there there
        (λ e. runs_own sc part table s t before now plain_s plain_t are_s are_t many x u e.first e.second (link_left within.0) (commits_left within.1)) read
    run_written scope.Link h read within =
        written_at (Run x u) scope.Link (node_place x) (txn_place u) (link_place x) (link_place x) refl refl (node_there x) (txn_there u h) (link_there x)
        (link_there x)
        (λ e. runs_link sc part table s t before now plain_s plain_t are_s are_t many x u e.first e.second e.third (commits_left within)) read
    run_written scope.Commits h read within =
        let there = fixed 4 (omega arith) in
        written_at (Run x u) scope.Commits (node_place x) (txn_place u) commits_place commits_place refl refl (node_there x) (txn_there u h) there there
        (λ e. runs_commits sc part table s t before now plain_s plain_t are_s are_t many x u e.first e.second (link_left within) e.third) read

  -- ---- any choice

  pub written_by : (c : Choice) (k : Scope) → AreNumbersOf table after (parts part (step sc c s).after) → names_below (length t.txns) c ≡ true
      → IsRead c k → IsInScope c k before after → Written c k
  written_by Start k are_after named read within = start_written k read
  written_by (Begin u) k are_after named read within = begin_written k u (nat_below u (length t.txns) named) read
  written_by (Kill u) k are_after named read within = kill_written k u (nat_below u (length t.txns) named) read
  written_by (Run x u) k are_after named read within = run_written x u are_after k (nat_below u (length t.txns) named) read within
  written_by (Take x) k are_after named read within = take_written k x read
  written_by (Finish x) k are_after named read within = finish_written k x read
  written_by (Push x) k are_after named read within = push_written k x read

-- ---- states of which a part counts

-- what is live of what is live is the same
live_twice : (x : Txn) → live_txn (live_txn x) ≡ live_txn x
live_twice x = by_test (is_active x.status) refl
  where
    by_test : (b : Bool) → is_active x.status ≡ b → live_txn (live_txn x) ≡ live_txn x
    by_test true e = ap live_txn (live_active x e)
    by_test false e =
        let ended = cond-false (is_active x.status) x (record nobody { status = x.status; rows = x.rows }) e in
        ap live_txn ended ∙ cond-false (is_active x.status) _ _ e ∙ sym ended

all_twice : (xs : List Txn) → map live_txn (map live_txn xs) ≡ map live_txn xs
all_twice [] = refl
all_twice (x ∷ xs) = ap₂ (λ y ys. y ∷ ys) (live_twice x) (all_twice xs)

-- what counts of what counts is the same
twice : (part : StatePart) (xs : List Txn) → txns_part part (txns_part part xs) ≡ txns_part part xs
twice Whole xs = refl
twice Live xs = all_twice xs

-- a state is like the part of it that counts
like : (part : StatePart) (s : State) → Alike part s (part_of part s)
like part s = ap (λ xs. record s { txns = xs }) (sym (twice part s.txns))

-- states that are alike have the same parts
same_parts : (part : StatePart) (s t : State) → Alike part s t → parts part s ≡ parts part t
same_parts part s t e = ap (λ y. shared_parts y ++ map txn y.txns) e

-- as many transactions
as_many_txns : (part : StatePart) (xs : List Txn) → length (txns_part part xs) ≡ length xs
as_many_txns Whole xs = refl
as_many_txns Live xs = length-map xs live_txn

module _ (sc : Scenario) (part : StatePart) (table : List (List ℕ)) (c : Choice) (k : Scope) (was_read : Read) (was_written : List ℕ) (o : Outcome)
    (step_was : Happened sc table part c k was_read was_written o) (t : State) (now : List ℕ) (is_now : IsNumbered table part now t)
    (many : length t.txns ≡ length sc.programs) (read : was_read ≡ reads table c k now) where
  abbrev there : State
  there = part_of part step_was.state

  abbrev here : State
  here = part_of part t

  -- the steps from what counts come to states that are alike
  after_there : parts part (step sc c step_was.state).after ≡ parts part (step sc c there).after
  after_there = same_parts part _ _ (alike_after part sc c step_was.state there (like part step_was.state))

  after_here : parts part (step sc c t).after ≡ parts part (step sc c here).after
  after_here = same_parts part _ _ (alike_after part sc c t here (like part t))

  are_there : AreNumbersOf table step_was.before (parts part there)
  are_there = step_was.is_before ∙ ap (map Some) (same_parts part step_was.state there (like part step_was.state))

  are_here : AreNumbersOf table now (parts part here)
  are_here = is_now ∙ ap (map Some) (same_parts part t here (like part t))

  are_after : AreNumbersOf table step_was.after (parts part (step sc c there).after)
  are_after = step_was.is_after ∙ ap (map Some) after_there

  as_many_here : length here.txns ≡ length sc.programs
  as_many_here = as_many_txns part t.txns ∙ many

  the_places : Written sc part table there here step_was.before now step_was.after (twice part step_was.state.txns) (twice part t.txns) are_there are_here
      (as_many_txns part step_was.state.txns ∙ step_was.many ∙ sym as_many_here) c k
  the_places =
      written_by sc part table there here step_was.before now step_was.after (twice part step_was.state.txns) (twice part t.txns) are_there are_here
      (as_many_txns part step_was.state.txns ∙ step_was.many ∙ sym as_many_here) c k are_after (ap (λ n. names_below n c) as_many_here ∙ step_was.named)
      (sym step_was.read ∙ read) step_was.in_scope

  -- what was written then leads to the numbers of the state after the step
  pub written_again : IsNumbered table part (put_at now (places table c k now) was_written) (step sc c t).after
  written_again =
      let w = the_places in
      let put = put_numbers part table now step_was.after (step sc c there).after here (step sc c here).after w.p w.q w.r w.z w.comes.carries are_here are_after
      (omega (arith, long part here.txns, long part (step sc c here).after.txns, many_after sc c here)) (as_many table now (parts part here) are_here)
      w.p_there w.q_there w.r_there w.z_there in
      ap₂ (λ ps xs. map (slice_get table) (put_at now ps xs)) w.are (step_was.wrote ∙ ap (map (at step_was.after)) w.were)
      ∙ put ∙ ap (map Some) (sym after_here)

  -- with the outcome that came then
  pub outcome_again : uncounted (step sc c t).outcome ≡ uncounted o
  outcome_again =
      ap uncounted (alike_outcome part sc c t here (like part t)) ∙ sym the_places.comes.outcome
      ∙ sym (ap uncounted (alike_outcome part sc c step_was.state there (like part step_was.state))) ∙ sym step_was.outcome
