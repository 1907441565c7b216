-- The commits at each node stand in their order: a commit at a source is put before commits of the other node alone.
use Rattle.std.proofs.Common.{List, [], ap, append_assoc, append-nil, false, inl, inr, refl, subst, sym, true, ℕ, ◌++◌, ◌+◌, ◌∙◌, ◌∷◌, ◌≡◌}
use Rattle.std.specs.Prelude.{◌⊎◌, Bool}
use Rattle.std.proofs.Math.Seq.{drop-append_seam}
use Rattle.std.proofs.lemmas.Bool.{false≢true}
use Rattle.std.proofs.lemmas.List.Elements.{filter-append}
use Rattle.zy_isa.specs.Scenario.{Scenario}
use Rattle.zy_isa.specs.declared.choice.Choice.{Choice}
use Rattle.zy_isa.specs.declared.node.Node.{Node}
use Rattle.zy_isa.specs.declared.node.Node.TheVariants.{A, B}
use Rattle.zy_model.specs.Families.{is_source}
use Rattle.zy_table.specs.Change.{committed, txn_at}
use Rattle.zy_table.specs.declared.entry.CommitRecord.{CommitRecord}
use Rattle.zy_table.specs.Play.{move, opening, play, side_of, step}
use Rattle.zy_table.specs.Run.{same_node}
use Rattle.zy_table.specs.Serial.{is_committed}
use Rattle.zy_table.specs.State.{NodeState, State, Txn, View, facing, other, seen_from}
use Rattle.zy_laws.specs.SourceFirst.{Sorted, at_node, commits_at, migration_order, sorted, sorted_by, sorted_step}
use Rattle.zy_laws.proofs.serial.Committing.{committed_txns}
use Rattle.zy_laws.proofs.sources.ByNode.{AllCommitted, all_push, all_same_txns, at_of, at_same_txns, none_at, stays}
use Rattle.zy_laws.proofs.sources.Sides.{none}
use Rattle.zy_laws.proofs.sources.Sorting.{keeps_commits, sorted_after, then_starts, then_still}
use Rattle.zy_laws.proofs.sources.SourceFirst.{sorted-keeps, then_step}
use Rattle.zy_laws.proofs.travel.OneWay.{sourced}
use Rattle.zy_laws.proofs.walk.Events.{Commits, Event, Starts, step_happens}
use Rattle.zy_laws.proofs.walk.Kinds.{quiet_of}
use Rattle.zy_laws.proofs.walk.Txns.{at_same, at_self}

-- the sorted commits of each node are in commit order, and as long as a node is a source the second list has none of its commits.
-- `mine` and `theirs` say whether n and the other node are sources
record Own (n : Node) (mine theirs : Bool) (f : ℕ → Txn) (cs : List CommitRecord) (o : Sorted) : Type 0 where
  all : AllCommitted f cs
  early : AllCommitted f o.first
  late : AllCommitted f o.later
  order : (i : Node) → at_of i f o.first ++ at_of i f o.later ≡ at_of i f cs
  here : mine ≡ true → at_of n f o.later ≡ []
  there : theirs ≡ true → at_of (other n) f o.later ≡ []

-- a step keeps it that leaves committed transactions as they are and makes no node a source
own_same : (n : Node) (a b x y : Bool) (f g : ℕ → Txn) (cs : List CommitRecord) (o : Sorted) → ((t : ℕ) → is_committed (f t).status ≡ true → g t ≡ f t)
    → (x ≡ true → a ≡ true) → (y ≡ true → b ≡ true) → Own n a b f cs o → Own n x y g cs o
own_same n a b x y f g cs o same mine theirs h = record {
  all = all_same_txns f g cs same h.all;
  early = all_same_txns f g o.first same h.early;
  late = all_same_txns f g o.later same h.late;
  order = λ i. ap (λ xs. xs ++ at_of i g o.later) (at_same_txns i f g o.first same h.early)
      ∙ ap (λ xs. at_of i f o.first ++ xs) (at_same_txns i f g o.later same h.late) ∙ h.order i ∙ sym (at_same_txns i f g cs same h.all);
  here = λ s. at_same_txns n f g o.later same h.late ∙ h.here (mine s);
  there = λ s. at_same_txns (other n) f g o.later same h.late ∙ h.there (theirs s);
}

-- where all of two lists are of committed transactions, so are those of both as one
all_both : (f : ℕ → Txn) (xs ys : List CommitRecord) → AllCommitted f xs → AllCommitted f ys → AllCommitted f (xs ++ ys)
all_both f [] ys a b = b
all_both f (c ∷ xs) ys a b = (a.0, all_both f xs ys a.1 b)

-- the commits at a node of two lists
at_both : (i : Node) (f : ℕ → Txn) (xs ys : List CommitRecord) → at_of i f (xs ++ ys) ≡ at_of i f xs ++ at_of i f ys
at_both i f xs ys = filter-append (λ (d : CommitRecord). same_node (f d.txn).node i) xs ys

-- a start keeps it: all so far come first
own_start : (n : Node) (a b x : Bool) (f : ℕ → Txn) (cs : List CommitRecord) (o : Sorted) → Own n a b f cs o
    → Own n x b f cs (record { first = o.first ++ o.later; later = [] })
own_start n a b x f cs o h = record {
  all = h.all;
  early = all_both f o.first o.later h.early h.late;
  late = tt;
  order = λ i. append-nil (at_of i f (o.first ++ o.later)) ∙ at_both i f o.first o.later ∙ h.order i;
  here = λ s. refl;
  there = λ s. refl;
}

-- a node is this one or the other
pub each_node : (n i : Node) → (i ≡ n) ⊎ (i ≡ other n)
each_node A A = inl refl
each_node A B = inr refl
each_node B A = inr refl
each_node B B = inl refl

-- two parts may change places where the first is empty
past_empty : (xs ys zs : List CommitRecord) → ys ≡ [] → (xs ++ ys) ++ zs ≡ (xs ++ zs) ++ ys
past_empty xs ys zs e =
    ap (λ l. (xs ++ l) ++ zs) e ∙ ap (λ l. l ++ zs) (append-nil xs) ∙ sym (append-nil (xs ++ zs)) ∙ ap (λ l. (xs ++ zs) ++ l) (sym e)

-- and where either is
past : (xs ys zs : List CommitRecord) → (ys ≡ []) ⊎ (zs ≡ []) → (xs ++ ys) ++ zs ≡ (xs ++ zs) ++ ys
past xs ys zs (inl e) = past_empty xs ys zs e
past xs ys zs (inr e) = sym (past_empty xs zs ys e)

-- one more commit at n keeps it
own_more : (n : Node) (a b : Bool) (f : ℕ → Txn) (cs : List CommitRecord) (c : CommitRecord) (o : Sorted) → is_committed (f c.txn).status ≡ true
    → (f c.txn).node ≡ n → Own n a b f cs o → Own n a b f (cs ++ c ∷ []) (sorted_by a a (c ∷ []) o)
own_more n true b f cs c o new at h = record {
  all = all_push f cs c h.all new;
  early = all_push f o.first c h.early new;
  late = h.late;
  order = λ i.
      let one = at_of i f (c ∷ []) in
      let either : (one ≡ []) ⊎ (at_of i f o.later ≡ []) = elim (each_node n i) [
        | inl is ↦ inr (ap (λ j. at_of j f o.later) is ∙ h.here refl)
        | inr is ↦ inl (ap (λ j. at_of j f (c ∷ [])) is ∙ none_at (f c.txn) n c at)
      ] in
      ap (λ xs. xs ++ at_of i f o.later) (at_both i f o.first (c ∷ [])) ∙ past (at_of i f o.first) one (at_of i f o.later) either
      ∙ ap (λ xs. xs ++ one) (h.order i) ∙ sym (at_both i f cs (c ∷ []));
  here = h.here;
  there = h.there;
}
own_more n false b f cs c o new at h = record {
  all = all_push f cs c h.all new;
  early = h.early;
  late = all_push f o.later c h.late new;
  order = λ i.
      let one = at_of i f (c ∷ []) in
      ap (λ xs. at_of i f o.first ++ xs) (at_both i f o.later (c ∷ [])) ∙ sym (append_assoc (at_of i f o.first) (at_of i f o.later) one)
      ∙ ap (λ xs. xs ++ one) (h.order i) ∙ sym (at_both i f cs (c ∷ []));
  here = λ s. absurd (false≢true s);
  there = λ s. at_both (other n) f o.later (c ∷ []) ∙ ap (λ xs. xs ++ at_of (other n) f (c ∷ [])) (h.there s) ∙ none_at (f c.txn) n c at;
}

-- the same of a view, seen from n
abbrev Owned : Node → View → Sorted → Type 0
Owned n v o = Own n (is_source v.me.mode) (is_source v.them.mode) (txn_at v) v.commits o

-- where the other node stays as it is, it was a source if it is one
still_theirs : (v w : View) → w.them ≡ v.them → is_source w.them.mode ≡ true → is_source v.them.mode ≡ true
still_theirs v w them s = sym (ap (λ (x : NodeState). is_source x.mode) them) ∙ s

-- each event keeps it
owned_event : (sc : Scenario) (n : Node) (v w : View) (o : Sorted) → Event sc n v w → w.them ≡ v.them → Owned n v o → Owned n w (sorted_after v w o)
unfolding committed
owned_event sc n v w o (Commits line e) them h =
    let c : CommitRecord = record { txn = line.txn; done = (txn_at v line.txn).done + 1 } in
    let z = committed line.txn v in
    let event : Event sc n v z = Commits line refl in
    let now = at_self v z line.txn _ (committed_txns line.txn v) line.runs.active in
    let s = is_source v.me.mode in
    let same = own_same n s (is_source v.them.mode) s (is_source v.them.mode) (txn_at v) (txn_at z) v.commits o (stays event) (λ i. i) (λ i. i) h in
    subst (λ x. Owned n x (sorted_after v x o)) (sym e)
    (subst (λ xs. Owned n z (sorted_by s s xs o)) (sym (drop-append_seam v.commits (c ∷ [])))
    (own_more n s (is_source v.them.mode) (txn_at z) v.commits c o (ap (λ (x : Txn). is_committed x.status) now)
    (ap (λ (x : Txn). x.node) now ∙ line.runs.here) same))
owned_event sc n v w o (Starts line e) them h =
    let q = quiet_of {sc = sc} {n = n} (Starts line e) refl in
    subst (Owned n w) (sym (then_starts v w o line.normal (ap (λ (z : View). is_source z.me.mode) e)))
    (subst (λ cs. Own n (is_source w.me.mode) (is_source w.them.mode) (txn_at w) cs (record { first = o.first ++ o.later; later = [] })) (sym q.commits)
    (own_same n (is_source w.me.mode) (is_source v.them.mode) (is_source w.me.mode) (is_source w.them.mode) (txn_at v) (txn_at w) v.commits
    (record { first = o.first ++ o.later; later = [] })
    (λ u _. at_same v w u q.txns) (λ i. i) (still_theirs v w them)
    (own_start n (is_source v.me.mode) (is_source v.them.mode) (is_source w.me.mode) (txn_at v) v.commits o h)))
owned_event sc n v w o e them h =
    let k = keeps_commits e refl in
    subst (Owned n w) (sym (then_still o e refl))
    (subst (λ cs. Own n (is_source w.me.mode) (is_source w.them.mode) (txn_at w) cs o) (sym k.0)
    (own_same n (is_source v.me.mode) (is_source v.them.mode) (is_source w.me.mode) (is_source w.them.mode) (txn_at v) (txn_at w) v.commits o (stays e)
    k.1 (still_theirs v w them) h))

-- seen from A, and so from either node
owned_from : (n : Node) (s : State) (o : Sorted) → Owned A (facing A s) o → Owned n (facing n s) o
unfolding txn_at
owned_from A s o h = h
owned_from B s o h = record { all = h.all; early = h.early; late = h.late; order = h.order; here = h.there; there = h.here }

-- seen from either node, and so from A
owned_to : (n : Node) (w : View) (o : Sorted) → Owned n w o → Owned A (facing A (seen_from n w)) o
unfolding txn_at
owned_to A w o h = h
owned_to B w o h = record { all = h.all; early = h.early; late = h.late; order = h.order; here = h.there; there = h.here }

-- a step keeps it
step_owned : (sc : Scenario) (c : Choice) (s : State) (o : Sorted) → Owned A (facing A s) o → Owned A (facing A (step sc c s).after) (sorted_step sc c s o)
unfolding step sorted_step
step_owned sc c s o h =
    let n = side_of sc c s in
    let v = facing n s in
    let w = (move sc c v).after in
    let happens = step_happens sc c s in
    let them = (sourced sc n (move sc c v).outcome v w happens.event happens.told).them in
    subst (Owned A (facing A (seen_from n w))) (then_step n s w o) (owned_to n w (sorted_after v w o)
    (owned_event sc n v w o happens.event them (owned_from n s o h)))

-- at the opening nothing has committed
opening_owned : (sc : Scenario) → Owned A (facing A (opening sc)) none
unfolding opening
opening_owned sc = record { all = tt; early = tt; late = tt; order = λ i. refl; here = λ s. refl; there = λ s. refl }

-- of the commits at a node the order is the commit order
same_lists : (s : State) (n : Node) (o : Sorted) → Owned A (facing A s) o → at_node n s (o.first ++ o.later) ≡ commits_at n s
unfolding txn_at
same_lists s n o h = at_both n (txn_at (facing A s)) o.first o.later ∙ h.order n

-- the law: the migration order keeps the commits of each node in commit order
pub node_order : (sc : Scenario) (cs : List Choice) (n : Node) → let s = play sc (opening sc) cs in at_node n s (migration_order sc cs) ≡ commits_at n s
node_order sc cs n =
    let o = sorted sc (opening sc) cs none in
    same_lists (play sc (opening sc) cs) n o
    (sorted-keeps sc (λ _. Unit {0}) (λ s x. Owned A (facing A s) x) (λ c s u. u) (λ c s x _ h. step_owned sc c s x h) cs (opening sc) none tt
    (opening_owned sc))
