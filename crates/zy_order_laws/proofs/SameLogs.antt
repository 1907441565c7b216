-- The begins, and the commits at each node, give the migration order.
use Rattle.std.proofs.Common.{◌≡◌, ℕ, ◌+◌, ◌<◌, ◌≤◌, List, [], ◌∷◌, ◌++◌, length, true, false, refl, sym, ap, ◌∙◌, subst, inl, inr, arith, append_assoc, append-nil, zero, suc}
use Rattle.std.specs.Prelude.{◌⊎◌, Bool, if◌then◌else◌, ◌==◌, take}
use Rattle.std.proofs.lemmas.Bool.{cases_Bool, cond_both, eq-eqb, eqb-true, false≢true, false_from_ne_true, or_cases, or_left}
use Rattle.std.proofs.lemmas.List.Elements.{filter-append}
use Rattle.zy_isa.specs.Scenario.{IsScenario, Scenario}
use Rattle.zy_isa.specs.declared.choice.Choice.{Choice}
use Rattle.zy_isa.specs.declared.choice.Choice.TheVariants.{Run}
use Rattle.zy_isa.specs.declared.node.Node.{Node}
use Rattle.zy_isa.specs.declared.node.Node.TheVariants.{A, B}
use Rattle.zy_table.proofs.RangeLists.{has_back, has_either, has_first}
use Rattle.zy_table.specs.Change.{committed, txn_at}
use Rattle.zy_table.specs.Client.{is_new}
use Rattle.zy_table.specs.Numbers.{has}
use Rattle.zy_table.specs.Play.{entries, move, opening, play, side_of, step}
use Rattle.zy_table.specs.Run.{same_node}
use Rattle.zy_table.specs.Serial.{is_committed, times_listed}
use Rattle.zy_table.specs.State.{State, Txn, View, facing, other, seen_from}
use Rattle.zy_table.specs.declared.entry.CommitRecord.{CommitRecord}
use Rattle.zy_table.specs.declared.outcome.Outcome.{Outcome}
use Rattle.zy_table.specs.declared.outcome.Outcome.TheVariants as outcome
use Rattle.zy_laws.specs.RealTime.{place}
use Rattle.zy_laws.specs.SourceFirst.{at_node, commits_at, migration_order}
use Rattle.zy_laws.proofs.serial.Committing.{committed_list, committed_txns}
use Rattle.zy_laws.proofs.serial.Listed.{listed}
use Rattle.zy_laws.proofs.sources.BeginOrder.{begins_in_order}
use Rattle.zy_laws.proofs.sources.ByNode.{AllCommitted, all_after, at_of, at_same_txns, stays}
use Rattle.zy_laws.proofs.sources.Histories.{was_new}
use Rattle.zy_laws.proofs.sources.NodeOrder.{each_node, node_order}
use Rattle.zy_laws.proofs.sources.Places.{listed_both, listed_permuted, place_back}
use Rattle.zy_laws.proofs.sources.SourceFirst.{serial_source_first}
use Rattle.zy_laws.proofs.walk.Events.{Event, step_happens}
use Rattle.zy_laws.proofs.walk.Txns.{at_back, at_self, at_side, blank_at, committed_old, not_both_nodes}
use Rattle.zy_outcomes.proofs.Runs.{same_node-same}
use Rattle.zy_outcomes.proofs.Steps.{ListsBy, step_told}
use Rattle.zy_outcomes.specs.Accounts.{txn_of, who_begins, who_commits}
use Rattle.zy_outcomes.specs.Reasons.{RunsAt}
use Rattle.zy_order_laws.specs.SameLogs.{SameLogs, begins_of, commits_of, txns_of}

-- ---- lists that are sorted at each node, and across the nodes

-- the transactions of these commits that are at node n
abbrev those : Node → (ℕ → Node) → List CommitRecord → List ℕ
those n at [] = []
those n at (c ∷ cs) = if same_node (at c.txn) n then c.txn ∷ those n at cs else those n at cs

-- of two at different nodes the one with the higher rank comes first
abbrev Falls : (ℕ → Node) → (ℕ → ℕ) → List CommitRecord → Type 0
Falls at rank [] = Unit {0}
Falls at rank (c ∷ cs) = ((u : ℕ) → has (those (other (at c.txn)) at cs) u ≡ true → rank u < rank c.txn) × Falls at rank cs

-- the node beside the other one
other_back : (n m : Node) → m ≡ other n → n ≡ other m
other_back A m e = ap other (sym e)
other_back B m e = ap other (sym e)

-- a node is not the other one
other_off : (n m : Node) → n ≡ m → same_node n (other m) ≡ false
other_off A A e = refl
other_off B B e = refl
other_off A B e = cc
other_off B A e = cc

-- the first is among those of its node
those_here : (n : Node) (at : ℕ → Node) (c : CommitRecord) (cs : List CommitRecord) → at c.txn ≡ n → those n at (c ∷ cs) ≡ c.txn ∷ those n at cs
those_here n at c cs e = ap (λ b. if b then c.txn ∷ those n at cs else those n at cs) (same_node-same (at c.txn) n e)

-- and not among those of the other node
those_there : (n : Node) (at : ℕ → Node) (c : CommitRecord) (cs : List CommitRecord) → at c.txn ≡ n → those (other n) at (c ∷ cs) ≡ those (other n) at cs
those_there n at c cs e = ap (λ b. if b then c.txn ∷ those (other n) at cs else those (other n) at cs) (other_off (at c.txn) n e)

-- what begins two equal lists, and what is left
heads : {x y : ℕ} {xs ys : List ℕ} → (x ∷ xs) ≡ (y ∷ ys) → (x ≡ y) × (xs ≡ ys)
heads e = (cc, cc)

-- what begins a list is in it
has_head : (x : ℕ) (xs ys : List ℕ) → ys ≡ x ∷ xs → has ys x ≡ true
has_head x xs ys e = ap (λ zs. has zs x) e ∙ has_first x xs

-- such lists with the same at each node are the same
merged : (p q : ℕ → Node) (rank : ℕ → ℕ) (xs ys : List CommitRecord) → Falls p rank xs → Falls q rank ys
    → ((n : Node) → those n p xs ≡ those n q ys) → txns_of xs ≡ txns_of ys
merged p q rank [] [] f g same = refl
merged p q rank [] (d ∷ ys) f g same =
    let k : [] ≡ d.txn ∷ those (q d.txn) q ys = same (q d.txn) ∙ those_here (q d.txn) q d ys refl in absurd cc
merged p q rank (c ∷ xs) [] f g same =
    let k : c.txn ∷ those (p c.txn) p xs ≡ [] = sym (those_here (p c.txn) p c xs refl) ∙ same (p c.txn) in absurd cc
merged p q rank (c ∷ xs) (d ∷ ys) f g same =
    let n = p c.txn in
    elim (each_node n (q d.txn)) [
      | inl is ↦
          let here = heads (sym (those_here n p c xs refl) ∙ same n ∙ those_here n q d ys is) in
          let there : those (other n) p xs ≡ those (other n) q ys = sym (those_there n p c xs refl) ∙ same (other n) ∙ those_there n q d ys is in
          let rest : (m : Node) → those m p xs ≡ those m q ys = λ m. elim (each_node n m) [
            | inl e ↦ subst (λ z. those z p xs ≡ those z q ys) (sym e) here.1
            | inr e ↦ subst (λ z. those z p xs ≡ those z q ys) (sym e) there
          ] in
          ap (λ t. t ∷ txns_of xs) here.0 ∙ ap (λ ts. d.txn ∷ ts) (merged p q rank xs ys f.1 g.1 rest)
      | inr apart ↦
          let m = q d.txn in
          let back : n ≡ other m = other_back n m apart in
          let mine : those n q ys ≡ c.txn ∷ those n p xs =
          subst (λ z. those z q ys ≡ those z q (d ∷ ys)) (sym back) (sym (those_there m q d ys refl)) ∙ sym (same n) ∙ those_here n p c xs refl in
          let yours : those m p xs ≡ d.txn ∷ those m q ys =
          subst (λ z. those z p xs ≡ those z p (c ∷ xs)) (sym apart) (sym (those_there n p c xs refl)) ∙ same m ∙ those_here m q d ys refl in
          let a = f.0 d.txn (subst (λ z. has (those z p xs) d.txn ≡ true) apart (has_head d.txn (those m q ys) (those m p xs) yours)) in
          let b = g.0 c.txn (subst (λ z. has (those z q ys) c.txn ≡ true) back (has_head c.txn (those n p xs) (those n q ys) mine)) in
          absurd (omega (arith, a, b))
    ]

-- who is among those of a node is listed, and there
those_listed : (n : Node) (at : ℕ → Node) (cs : List CommitRecord) (u : ℕ) → has (those n at cs) u ≡ true → (1 ≤ times_listed u cs) × (at u ≡ n)
those_listed n at [] u h = absurd (false≢true h)
those_listed n at (c ∷ cs) u h =
    let more : (1 ≤ times_listed u cs) × (at u ≡ n) → (1 ≤ times_listed u (c ∷ cs)) × (at u ≡ n) = λ k. (let a = k.0 in omega (arith, a), k.1) in
    elim (each_node n (at c.txn)) [
      | inl is ↦ elim (or_cases (c.txn == u) (has (those n at cs) u) (subst (λ xs. has xs u ≡ true) (those_here n at c cs is) h)) [
        | inl same ↦
            let one : times_listed u (c ∷ cs) ≡ 1 + times_listed u cs = ap (λ b. (if b then 1 else 0) + times_listed u cs) same in
            (omega (arith, one), subst (λ z. at z ≡ n) (eqb-true c.txn u same) is)
        | inr k ↦ more (those_listed n at cs u k)
      ]
      | inr far ↦
          let off : those n at (c ∷ cs) ≡ those n at cs =
          subst (λ z. those z at (c ∷ cs) ≡ those z at cs) (sym (other_back n (at c.txn) far)) (those_there (at c.txn) at c cs refl) in
          more (those_listed n at cs u (subst (λ xs. has xs u ≡ true) off h))
    ]

-- who stands behind a front has its place there, or in the front
place_most : (c : CommitRecord) (front rest : List CommitRecord) → place c.txn (front ++ c ∷ rest) ≤ length front
place_most c [] rest = cond_both (c.txn == c.txn) 0 (suc (place c.txn rest)) (λ n. n ≤ 0) (λ _. omega arith) (λ off. absurd (false≢true (sym off ∙ eq-eqb c.txn c.txn refl)))
place_most c (d ∷ front) rest =
    cond_both (d.txn == c.txn) 0 (suc (place c.txn (front ++ c ∷ rest))) (λ n. n ≤ suc (length front)) (λ _. omega arith)
    (λ _. let k = place_most c front rest in omega (arith, k))

-- a list in which each stands once, and of two at different nodes the one with the higher rank has the lower place
module _ (at : ℕ → Node) (rank : ℕ → ℕ) (all : List CommitRecord) (once : (u : ℕ) → times_listed u all ≤ 1)
    (apart : (t u : ℕ) → 1 ≤ times_listed t all → 1 ≤ times_listed u all → at u ≡ other (at t) → (rank u < rank t) ⊎ (place u all < place t all)) where
  -- so it is sorted, from each place on
  falls : (front rest : List CommitRecord) → all ≡ front ++ rest → Falls at rank rest
  falls front [] is = tt
  falls front (c ∷ rest) is =
      let first : (u : ℕ) → has (those (other (at c.txn)) at rest) u ≡ true → rank u < rank c.txn = λ u h.
      let behind = those_listed (other (at c.txn)) at rest u h in
      let late = behind.0 in
      let parts : times_listed u all ≡ times_listed u front + times_listed u (c ∷ rest) = ap (times_listed u) is ∙ listed_both u front (c ∷ rest) in
      let own : times_listed c.txn all ≡ times_listed c.txn front + times_listed c.txn (c ∷ rest) =
      ap (times_listed c.txn) is ∙ listed_both c.txn front (c ∷ rest) in
      let one : times_listed c.txn (c ∷ rest) ≡ 1 + times_listed c.txn rest =
      ap (λ b. (if b then 1 else 0) + times_listed c.txn rest) (eq-eqb c.txn c.txn refl) in
      let most = once u in
      elim (apart c.txn u (omega (arith, own, one)) (omega (arith, parts, late)) behind.1) [
        | inl less ↦ less
        | inr wrong ↦
            let x = subst (λ xs. place c.txn xs ≤ length front) (sym is) (place_most c front rest) in
            let none : times_listed u front ≡ 0 = omega (arith, parts, late, most) in
            let y = subst (λ xs. length front ≤ place u xs) (sym is) (place_back u front (c ∷ rest) none) in
            absurd (omega (arith, x, y, wrong))
      ] in
      (first, falls (front ++ c ∷ []) rest (is ∙ sym (append_assoc front (c ∷ []) rest)))

-- ---- the commits of a run

-- where a record is kept, so is its transaction
txns_if : (b : Bool) (c : CommitRecord) (cs : List CommitRecord) (ts : List ℕ) → txns_of cs ≡ ts → txns_of (if b then c ∷ cs else cs) ≡ (if b then c.txn ∷ ts else ts)
txns_if true c cs ts e = ap (λ xs. c.txn ∷ xs) e
txns_if false c cs ts e = e

-- where each transaction of a state is
abbrev homes : State → (ℕ → Node)
homes s t = (txn_of s t).node

-- those of a node are the transactions of the commits there
those_are : (n : Node) (s : State) (cs : List CommitRecord) → txns_of (at_node n s cs) ≡ those n (homes s) cs
those_are n s [] = refl
those_are n s (c ∷ cs) = txns_if (same_node (homes s c.txn) n) c (at_node n s cs) (those n (homes s) cs) (those_are n s cs)

-- the transactions of two lists of commits
txns_both : (xs ys : List CommitRecord) → txns_of (xs ++ ys) ≡ txns_of xs ++ txns_of ys
txns_both [] ys = refl
txns_both (c ∷ xs) ys = ap (λ ts. c.txn ∷ ts) (txns_both xs ys)

-- the commits at a node, seen from either node
seen_at : (n i : Node) (s : State) → at_of i (txn_at (facing n s)) (facing n s).commits ≡ commits_at i s
unfolding txn_at
seen_at A i s = refl
seen_at B i s = refl

-- and back
back_at : (n i : Node) (w : View) → at_of i (txn_at w) w.commits ≡ commits_at i (seen_from n w)
unfolding txn_at
back_at A i w = refl
back_at B i w = refl

-- each commit of a state is of a committed transaction
abbrev Ended : State → Type 0
Ended s = AllCommitted (txn_of s) s.commits

-- seen from either node
ended_from : (n : Node) (s : State) → Ended s → AllCommitted (txn_at (facing n s)) (facing n s).commits
unfolding txn_at
ended_from A s h = h
ended_from B s h = h

-- and back
ended_to : (n : Node) (w : View) → AllCommitted (txn_at w) w.commits → Ended (seen_from n w)
unfolding txn_at
ended_to A w h = h
ended_to B w h = h

-- a step keeps it
step_ended : (sc : Scenario) (c : Choice) (s : State) → Ended s → Ended (step sc c s).after
unfolding step
step_ended sc c s h =
    let n = side_of sc c s in
    let w = (move sc c (facing n s)).after in
    ended_to n w (all_after (facing n s) w (step_happens sc c s).event (ended_from n s h))

-- a commit alone is at its node, or not at this one
alone_at : (i m : Node) (c : CommitRecord) (x : Txn) → x.node ≡ m → txns_of (if same_node x.node i then c ∷ [] else []) ≡ (if same_node m i then c.txn ∷ [] else [])
alone_at i m c x at = txns_if (same_node x.node i) c [] [] refl ∙ ap (λ z. if same_node z i then c.txn ∷ [] else []) at

-- the commits at a node after a step are those before, and who commits there by it
module _ {sc : Scenario} {n : Node} (i : Node) (v w : View) (e : Event sc n v w) (all : AllCommitted (txn_at v) v.commits) where
  -- where there is no new one
  no_more : w.commits ≡ v.commits → txns_of (at_of i (txn_at w) w.commits) ≡ txns_of (at_of i (txn_at v) v.commits) ++ []
  no_more same =
      ap (λ cs. txns_of (at_of i (txn_at w) cs)) same ∙ ap txns_of (at_same_txns i (txn_at v) (txn_at w) v.commits (stays e) all)
      ∙ sym (append-nil (txns_of (at_of i (txn_at v) v.commits)))

  -- where t commits, which runs at m
  one_more : (m : Node) (t : ℕ) → RunsAt v t m → w ≡ committed t v
      → txns_of (at_of i (txn_at w) w.commits) ≡ txns_of (at_of i (txn_at v) v.commits) ++ (if same_node m i then t ∷ [] else [])
  one_more m t at is =
      let c : CommitRecord = record { txn = t; done = (txn_at v t).done + 1 } in
      let commits : w.commits ≡ v.commits ++ c ∷ [] = ap (λ (x : View). x.commits) is ∙ committed_list t v in
      let now = at_self v w t _ (ap (λ (x : View). x.txns) is ∙ committed_txns t v) at.0 in
      let there : (txn_at w t).node ≡ m = ap (λ (x : Txn). x.node) now ∙ at.1 in
      ap (λ cs. txns_of (at_of i (txn_at w) cs)) commits
      ∙ ap txns_of (filter-append (λ (d : CommitRecord). same_node (txn_at w d.txn).node i) v.commits (c ∷ []))
      ∙ txns_both (at_of i (txn_at w) v.commits) (at_of i (txn_at w) (c ∷ []))
      ∙ ap (λ ts. ts ++ txns_of (at_of i (txn_at w) (c ∷ []))) (ap txns_of (at_same_txns i (txn_at v) (txn_at w) v.commits (stays e) all))
      ∙ ap (λ ts. txns_of (at_of i (txn_at v) v.commits) ++ ts) (alone_at i m c (txn_at w t) there)

  -- by the choice and its outcome
  more : (c : Choice) (o : Outcome) → ListsBy c o v w → txns_of (at_of i (txn_at w) w.commits) ≡ txns_of (at_of i (txn_at v) v.commits) ++ who_commits i c o
  more (Run m t) (outcome.Committed k) h = one_more m t h.0 h.1
  more (Run m t) o h = no_more h
  more c o h = no_more h

-- the same of a state
step_commits : (sc : Scenario) (i : Node) (c : Choice) (s : State) → Ended s → let x = step sc c s in
    txns_of (commits_at i x.after) ≡ txns_of (commits_at i s) ++ who_commits i c x.outcome
unfolding step
step_commits sc i c s h =
    let n = side_of sc c s in
    let v = facing n s in
    let m = move sc c v in
    ap txns_of (sym (back_at n i m.after)) ∙ more i v m.after (step_happens sc c s).event (ended_from n s h) c m.outcome (step_told sc c s).logs.lists
    ∙ ap (λ cs. txns_of cs ++ who_commits i c m.outcome) (seen_at n i s)

-- and so of a schedule
run_commits : (sc : Scenario) (i : Node) (cs : List Choice) (s : State) → Ended s
    → txns_of (commits_at i (play sc s cs)) ≡ txns_of (commits_at i s) ++ commits_of i (entries sc s cs)
run_commits sc i [] s h = sym (append-nil (txns_of (commits_at i s)))
run_commits sc i (c ∷ cs) s h =
    let x = step sc c s in
    let rest = commits_of i (entries sc x.after cs) in
    run_commits sc i cs x.after (step_ended sc c s h) ∙ ap (λ ts. ts ++ rest) (step_commits sc i c s h)
    ∙ append_assoc (txns_of (commits_at i s)) (who_commits i c x.outcome) rest

-- of the migration order, those of a node are the commits that its log has
those_told : (sc : Scenario) (cs : List Choice) (i : Node)
    → those i (homes (play sc (opening sc) cs)) (migration_order sc cs) ≡ commits_of i (entries sc (opening sc) cs)
unfolding opening
those_told sc cs i =
    let s = play sc (opening sc) cs in
    sym (those_are i s (migration_order sc cs)) ∙ ap txns_of (node_order sc cs i) ∙ run_commits sc i cs (opening sc) tt

-- ---- the begins of a run

-- how many stand behind the last t
abbrev behind : ℕ → List ℕ → ℕ
behind t [] = 0
behind t (x ∷ xs) = if has xs t then behind t xs else length xs

-- who is there stands before the end
behind_less : (t : ℕ) (xs : List ℕ) → has xs t ≡ true → behind t xs < length xs
behind_less t [] h = absurd (false≢true h)
behind_less t (x ∷ xs) h =
    cond_both (has xs t) (behind t xs) (length xs) (λ n. n < suc (length xs)) (λ more. let k = behind_less t xs more in omega (arith, k)) (λ _. omega arith)

-- where t is in the back of a list, as many stand behind it
behind_back : (t : ℕ) (xs ys : List ℕ) → has ys t ≡ true → behind t (xs ++ ys) ≡ behind t ys
behind_back t [] ys h = refl
behind_back t (x ∷ xs) ys h = ap (λ b. if b then behind t (xs ++ ys) else length (xs ++ ys)) (has_back xs ys t h) ∙ behind_back t xs ys h

-- who is in neither part is not in both
has_neither : (t : ℕ) (xs ys : List ℕ) → has xs t ≡ false → has ys t ≡ false → has (xs ++ ys) t ≡ false
has_neither t xs ys a b = false_from_ne_true _ (λ h. elim (has_either xs ys t h) [ inl x ↦ false≢true (sym a ∙ x) | inr y ↦ false≢true (sym b ∙ y) ])

-- a transaction of a state is new
abbrev fresh_in : State → ℕ → Bool
fresh_in s t = is_new (txn_of s t).status

-- who begins by a step was new
step_begun : (sc : Scenario) (c : Choice) (s : State) (u : ℕ) → has (who_begins c (step sc c s).outcome) u ≡ true → fresh_in s u ≡ true
unfolding step
step_begun sc c s u h = sym (ap (λ (x : Txn). is_new x.status) (at_side (side_of sc c s) s u)) ∙ (step_told sc c s).logs.begun u h

-- who was new still is, or it begins
step_new : (sc : Scenario) (c : Choice) (s : State) (u : ℕ) → fresh_in s u ≡ true
    → (fresh_in (step sc c s).after u ≡ true) ⊎ (who_begins c (step sc c s).outcome ≡ u ∷ [])
unfolding step
step_new sc c s u h =
    let n = side_of sc c s in
    let m = move sc c (facing n s) in
    elim ((step_told sc c s).logs.new u (ap (λ (x : Txn). is_new x.status) (at_side n s u) ∙ h)) [
      | inl still ↦ inl (ap (λ (x : Txn). is_new x.status) (at_back n m.after u) ∙ still)
      | inr begins ↦ inr begins
    ]

-- who was not is not
step_old : (sc : Scenario) (c : Choice) (s : State) (u : ℕ) → fresh_in s u ≡ false → fresh_in (step sc c s).after u ≡ false
unfolding step
step_old sc c s u old = false_from_ne_true _ (λ new.
    let n = side_of sc c s in
    let m = move sc c (facing n s) in
    let was = was_new (step_happens sc c s).event u (sym (ap (λ (x : Txn). is_new x.status) (at_back n m.after u)) ∙ new) in
    false≢true (sym old ∙ sym (ap (λ (x : Txn). is_new x.status) (at_side n s u)) ∙ was))

-- who is not new does not begin later
not_again : (sc : Scenario) (cs : List Choice) (s : State) (t : ℕ) → fresh_in s t ≡ false → has (begins_of (entries sc s cs)) t ≡ false
not_again sc [] s t old = refl
not_again sc (c ∷ cs) s t old =
    has_neither t (who_begins c (step sc c s).outcome) (begins_of (entries sc (step sc c s).after cs))
    (false_from_ne_true _ (λ h. false≢true (sym old ∙ step_begun sc c s t h)))
    (not_again sc cs (step sc c s).after t (step_old sc c s t old))

-- who is new and later is not begins
has_begun : (sc : Scenario) (cs : List Choice) (s : State) (t : ℕ) → fresh_in s t ≡ true → fresh_in (play sc s cs) t ≡ false
    → has (begins_of (entries sc s cs)) t ≡ true
has_begun sc [] s t new old = absurd (false≢true (sym old ∙ new))
has_begun sc (c ∷ cs) s t new old =
    let x = step sc c s in
    let rest = begins_of (entries sc x.after cs) in
    elim (step_new sc c s t new) [
      | inl still ↦ has_back (who_begins c x.outcome) rest t (has_begun sc cs x.after t still old)
      | inr begins ↦ subst (λ ws. has (ws ++ rest) t ≡ true) (sym begins) (or_left _ _ (eq-eqb t t refl))
    ]

-- t has begun after some of the choices, and u has not; so more stand behind t
record Sooner (sc : Scenario) (s : State) (cs : List Choice) (t u : ℕ) : Type 0 where
  count : ℕ
  old : fresh_in (play sc s (take count cs)) t ≡ false
  new : fresh_in (play sc s (take count cs)) u ≡ true
  less : behind u (begins_of (entries sc s cs)) < behind t (begins_of (entries sc s cs))

-- where t begins by the first choice, and u by a later one
sooner_now : (sc : Scenario) (c : Choice) (cs : List Choice) (s : State) (t u : ℕ) → fresh_in s t ≡ true → fresh_in (step sc c s).after t ≡ false
    → fresh_in (step sc c s).after u ≡ true → fresh_in (play sc (step sc c s).after cs) u ≡ false → Sooner sc s (c ∷ cs) t u
sooner_now sc c cs s t u was old new later =
    let x = step sc c s in
    let rest = begins_of (entries sc x.after cs) in
    let begins : who_begins c x.outcome ≡ t ∷ [] = elim (step_new sc c s t was) [ inl still ↦ absurd (false≢true (sym old ∙ still)) | inr is ↦ is ] in
    let there = has_begun sc cs x.after u new later in
    let first : behind t (who_begins c x.outcome ++ rest) ≡ length rest =
    ap (λ ws. behind t (ws ++ rest)) begins ∙ ap (λ b. if b then behind t rest else length rest) (not_again sc cs x.after t old) in
    let second = behind_back u (who_begins c x.outcome) rest there in
    let less = behind_less u rest there in
    record { count = suc zero; old = old; new = new; less = omega (arith, first, second, less) }

-- where both begin by later choices
sooner_later : (sc : Scenario) (c : Choice) (cs : List Choice) (s : State) (t u : ℕ) → let x = step sc c s in fresh_in x.after t ≡ true → fresh_in x.after u ≡ true
    → fresh_in (play sc x.after cs) t ≡ false → fresh_in (play sc x.after cs) u ≡ false → Sooner sc x.after cs t u → Sooner sc s (c ∷ cs) t u
sooner_later sc c cs s t u a b later_t later_u k =
    let x = step sc c s in
    let ws = who_begins c x.outcome in
    let rest = begins_of (entries sc x.after cs) in
    let first = behind_back t ws rest (has_begun sc cs x.after t a later_t) in
    let second = behind_back u ws rest (has_begun sc cs x.after u b later_u) in
    let less = k.less in
    record { count = suc k.count; old = k.old; new = k.new; less = omega (arith, first, second, less) }

-- of two that are new and later are not, one begins sooner
either_sooner : (sc : Scenario) (cs : List Choice) (s : State) (t u : ℕ) → (t ≡ u → ⊥) → fresh_in s t ≡ true → fresh_in s u ≡ true
    → fresh_in (play sc s cs) t ≡ false → fresh_in (play sc s cs) u ≡ false → Sooner sc s cs t u ⊎ Sooner sc s cs u t
either_sooner sc [] s t u far a b x y = absurd (false≢true (sym x ∙ a))
either_sooner sc (c ∷ cs) s t u far a b x y =
    let z = (step sc c s).after in
    elim (cases_Bool (fresh_in z t)) [
      | inl new_t ↦ elim (cases_Bool (fresh_in z u)) [
        | inl new_u ↦ elim (either_sooner sc cs z t u far new_t new_u x y) [
          | inl k ↦ inl (sooner_later sc c cs s t u new_t new_u x y k)
          | inr k ↦ inr (sooner_later sc c cs s u t new_u new_t y x k)
        ]
        | inr old_u ↦ inr (sooner_now sc c cs s u t b old_u new_t x)
      ]
      | inr old_t ↦ elim (cases_Bool (fresh_in z u)) [
        | inl new_u ↦ inl (sooner_now sc c cs s t u a old_t new_u y)
        | inr old_u ↦ elim (step_new sc c s t a) [
          | inl still ↦ absurd (false≢true (sym old_t ∙ still))
          | inr begins_t ↦ elim (step_new sc c s u b) [
            | inl still ↦ absurd (false≢true (sym old_u ∙ still))
            | inr begins_u ↦ absurd (far (heads (sym begins_t ∙ begins_u)).0)
          ]
        ]
      ]
    ]

-- ---- the whole

-- in the migration order, of two at different nodes the one that more begins follow comes first
order_falls : (sc : Scenario) → IsScenario sc → (cs : List Choice)
    → Falls (homes (play sc (opening sc) cs)) (λ t. behind t (begins_of (entries sc (opening sc) cs))) (migration_order sc cs)
unfolding opening
order_falls sc l cs =
    let s = play sc (opening sc) cs in
    let order = migration_order sc cs in
    let count : (t : ℕ) → times_listed t order ≡ (if is_committed (txn_of s t).status then 1 else 0) =
    λ t. listed_permuted t s.commits order (serial_source_first sc l cs).permuted ∙ listed sc cs t in
    let ended : (t : ℕ) → 1 ≤ times_listed t order → is_committed (txn_of s t).status ≡ true = λ t h.
    elim (cases_Bool (is_committed (txn_of s t).status)) [
      | inl is ↦ is
      | inr off ↦ let none = count t ∙ ap (λ b. if b then 1 else 0) off in absurd (omega (arith, none, h))
    ] in
    let new : (t : ℕ) → fresh_in (opening sc) t ≡ true = λ t. ap (λ (x : Txn). is_new x.status) (blank_at sc.programs t) in
    falls (homes s) (λ t. behind t (begins_of (entries sc (opening sc) cs))) order
    (λ u. let k = count u in cond_both (is_committed (txn_of s u).status) 1 0 (λ n. times_listed u order ≡ n → times_listed u order ≤ 1)
    (λ _ e. omega (arith, e)) (λ _ e. omega (arith, e)) k)
    (λ t u ht hu apart.
    let a = ended t ht in
    let b = ended u hu in
    let far : t ≡ u → ⊥ = λ e. not_both_nodes (homes s t) (homes s u) (ap (homes s) (sym e)) apart in
    elim (either_sooner sc cs (opening sc) t u far (new t) (new u) (committed_old _ a) (committed_old _ b)) [
      | inl k ↦ inl k.less
      | inr k ↦ inr (begins_in_order sc l cs k.count u t k.old k.new b a (other_back (homes s t) (homes s u) apart))
    ])
    [] order refl

-- the law: the begins, and the commits at each node, give the migration order
pub same_order : (sc : Scenario) → IsScenario sc → (one other : List Choice) → SameLogs (entries sc (opening sc) one) (entries sc (opening sc) other)
    → txns_of (migration_order sc one) ≡ txns_of (migration_order sc other)
same_order sc l one other same =
    let rank : ℕ → ℕ = λ t. behind t (begins_of (entries sc (opening sc) one)) in
    let p = homes (play sc (opening sc) one) in
    let q = homes (play sc (opening sc) other) in
    merged p q rank (migration_order sc one) (migration_order sc other) (order_falls sc l one)
    (subst (λ bs. Falls q (λ t. behind t bs) (migration_order sc other)) (sym same.begins) (order_falls sc l other))
    (λ n. those_told sc one n ∙ same.commits n ∙ sym (those_told sc other n))
