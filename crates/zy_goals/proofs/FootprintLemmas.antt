-- Two states that agree on what a goal reads both meet it, or neither does.
use Rattle.std.proofs.Common.{◌≡◌, ◌∙◌, ◌&&◌, ◌||◌, not, Bool, true, false, List, [], ◌∷◌, length, map, nat_lt, refl, ap}
use Rattle.std.proofs.Common.{is_some, unwrap_or, slice_get}
use Rattle.std.proofs.Math.Bool.{false≢true, true≢false}
use Rattle.std.proofs.lemmas.Bool.{cond_both}
use Rattle.std.proofs.lemmas.List.{length-map}
use Rattle.std.specs.List.{list_any, list_all}
use Rattle.std.specs.FinMap.{get}
use Rattle.zy_isa.specs.Rows.{get_row}
use Rattle.zy_isa.specs.declared.row.Row.{Row}
use Rattle.zy_isa.specs.declared.node.Node.TheVariants.{A, B}
use Rattle.zy_table.specs.declared.entry.CommitRecord.{CommitRecord}
use Rattle.zy_table.specs.State.{State, Txn}
use Rattle.zy_table.specs.Change.{txn_or}
use Rattle.zy_table.specs.Client.{is_new, is_active}
use Rattle.zy_table.specs.Serial.{is_committed}
use Rattle.zy_table.specs.Database.{Map, database}
use Rattle.zy_table.specs.Ranges.{range, total}
use Rattle.zy_steps.specs.declared.part.StatePart.TheVariants.{Live}
use Rattle.zy_steps.specs.Alike.{live_txn, part_of}
use Rattle.zy_steps.proofs.LiveLemmas.{live_status, live_at}
use Rattle.zy_goals.specs.declared.footprint.Footprint.{Footprint}
use Rattle.zy_goals.specs.declared.footprint.Footprint.TheVariants.{Commits, Present, Ended}
use Rattle.zy_goals.specs.declared.goal.Selector.{Selector}
use Rattle.zy_goals.specs.declared.goal.Selector.TheVariants as selector
use Rattle.zy_goals.specs.declared.goal.TxnProperty.{TxnProperty}
use Rattle.zy_goals.specs.declared.goal.TxnProperty.TheVariants as property
use Rattle.zy_goals.specs.declared.goal.LinkContent.TheVariants as content
use Rattle.zy_goals.specs.declared.goal.Term.{Term}
use Rattle.zy_goals.specs.declared.goal.Term.TheVariants as term
use Rattle.zy_goals.specs.declared.goal.Comparison.{Comparison}
use Rattle.zy_goals.specs.declared.goal.StateFact.{StateFact}
use Rattle.zy_goals.specs.declared.goal.StateFact.TheVariants as state_fact
use Rattle.zy_goals.specs.declared.goal.Fact.{Fact}
use Rattle.zy_goals.specs.declared.goal.Fact.TheVariants as fact
use Rattle.zy_goals.specs.declared.goal.Goal.{Goal, Is, Not', And', Or'}
use Rattle.zy_goals.specs.Txns.{is_aborted, has_property, selected_have, committed_before}
use Rattle.zy_goals.specs.Terms.{value, compares}
use Rattle.zy_goals.specs.Facts.{are_settled, has_content, holds_in}
use Rattle.zy_goals.specs.Goals.{Context, holds, meets}
use Rattle.zy_goals.specs.Footprints.{wider, of_term, of_property, of_state_fact, of_fact, footprint_of, is_of_commits, reads_ended}

-- ---- footprints

-- the committed rows and the commits alone
abbrev only_commits : Footprint → Bool
only_commits f = elim f [ Commits ↦ true | Present ↦ false | Ended ↦ false ]

-- what an ended transaction had
abbrev has_ended : Footprint → Bool
has_ended f = elim f [ Commits ↦ false | Present ↦ false | Ended ↦ true ]

commits_alone : (f : Footprint) → only_commits f ≡ true → has_ended f ≡ false
commits_alone Commits e = refl
commits_alone f e = absurd (false≢true e)

-- what the wider of two footprints is, both are
both_commits : (x y : Footprint) → only_commits (wider x y) ≡ true → (only_commits x ≡ true) × (only_commits y ≡ true)
both_commits Commits y e = (refl, e)
both_commits Present Ended e = absurd (false≢true e)
both_commits x y e = absurd (false≢true e)

neither_ended : (x y : Footprint) → has_ended (wider x y) ≡ false → (has_ended x ≡ false) × (has_ended y ≡ false)
neither_ended Commits y e = (refl, e)
neither_ended Present Ended e = (refl, e)
neither_ended Present y e = (e, refl)
neither_ended Ended y e = absurd (true≢false e)

-- Two states that decide the facts of some footprints alike, of which two are whenever the wider one is, meet their goals alike.
module _ (P : Footprint → Type 0) (parts : (x y : Footprint) → P (wider x y) → P x × P y)
    (s r : State) (t u : Context) (same : (x : Fact) → P (of_fact x) → holds t x s ≡ holds u x r) where
  same_meets : (g : Goal) → P (footprint_of g) → meets t g s ≡ meets u g r
  same_meets (Is x) e = same x e
  same_meets (Not' p g) e = ap not (same_meets g e)
  same_meets (And' p g q h) e =
      let both = parts (footprint_of g) (footprint_of h) e in
      ap (λ b. b && meets t h s) (same_meets g both.0) ∙ ap (λ b. meets u g r && b) (same_meets h both.1)
  same_meets (Or' p g q h) e =
      let both = parts (footprint_of g) (footprint_of h) e in
      ap (λ b. b || meets t h s) (same_meets g both.0) ∙ ap (λ b. meets u g r || b) (same_meets h both.1)

-- ---- the committed rows and the commits

module _ (s r : State) (rows : database s ≡ database r) (commits : s.commits ≡ r.commits) where
  -- a term has one value in both, unless it reads what an ended transaction had
  same_value : (x : Term) → has_ended (of_term x) ≡ false → value x s ≡ value x r
  same_value (term.Number n) e = refl
  same_value (term.Key k) e = ap (λ (m : Map). unwrap_or (get m k) 0) rows
  same_value (term.Sum j k) e = ap (λ (m : Map). total (λ i. unwrap_or (get m i) 0) (range j k)) rows
  same_value term.Commits e = ap (λ (cs : List CommitRecord). length cs) commits
  same_value x e = absurd (true≢false e)

  -- so two of them compare alike
  same_compared : (x : Term) (c : Comparison) (y : Term) → has_ended (wider (of_term x) (of_term y)) ≡ false
      → compares c (value x s) (value y s) ≡ compares c (value x r) (value y r)
  same_compared x c y e =
      let neither = neither_ended (of_term x) (of_term y) e in
      ap (λ n. compares c n (value y s)) (same_value x neither.0) ∙ ap (compares c (value x r)) (same_value y neither.1)

  -- a fact of the state that is one of commits holds in both or in neither
  same_state_fact : (x : StateFact) → only_commits (of_state_fact x) ≡ true → holds_in x s ≡ holds_in x r
  same_state_fact (state_fact.CommittedBefore t u) e = ap (committed_before t u) commits
  same_state_fact (state_fact.NoRow k) e = ap (λ (m : Map). not (is_some (get m k))) rows
  same_state_fact (state_fact.Compare x c y) e = same_compared x c y (commits_alone (wider (of_term x) (of_term y)) e)
  same_state_fact (state_fact.Txns w property.New) e = absurd (false≢true e)
  same_state_fact x e = absurd (false≢true e)

  module _ (t u : Context) (differs : t.differs ≡ u.differs) where
    -- so does any fact of commits, where `differs` is the same
    same_fact : (x : Fact) → only_commits (of_fact x) ≡ true → holds t x s ≡ holds u x r
    same_fact fact.Differs e = differs
    same_fact (fact.OfState x) e = same_state_fact x e
    same_fact x e = absurd (false≢true e)

    -- so a goal of commits is met by both or by neither
    pub same_goal : (g : Goal) → is_of_commits g ≡ true → meets t g s ≡ meets u g r
    same_goal = same_meets (λ f. only_commits f ≡ true) both_commits s r t u same_fact

-- ---- transactions

-- the private rows are
live_rows : (x : Txn) → (live_txn x).rows ≡ x.rows
live_rows x = cond_both (is_active x.status) x _ (λ (y : Txn). y.rows ≡ x.rows) (λ _. refl) (λ _. refl)

-- a property that is not of what an ended one had
live_has : (p : TxnProperty) (x : Txn) → has_ended (of_property p) ≡ false → has_property p (live_txn x) ≡ has_property p x
live_has property.New x e = ap is_new (live_status x)
live_has property.Active x e = ap is_active (live_status x)
live_has property.Committed x e = ap is_committed (live_status x)
live_has (property.Aborted r) x e = ap (is_aborted r) (live_status x)
live_has (property.At n) x e = absurd (true≢false e)
live_has (property.Wrote k) x e = ap (λ (rows : List Row). is_some (get_row rows k)) (live_rows x)

module _ (test : Txn → Bool) (same : (x : Txn) → test (live_txn x) ≡ test x) where
  -- whether one has it
  live_any : (xs : List Txn) → list_any test (map live_txn xs) ≡ list_any test xs
  live_any [] = refl
  live_any (x ∷ xs) = ap (λ b. b || list_any test (map live_txn xs)) (same x) ∙ ap (λ b. test x || b) (live_any xs)

  -- whether each has
  live_all : (xs : List Txn) → list_all test (map live_txn xs) ≡ list_all test xs
  live_all [] = refl
  live_all (x ∷ xs) = ap (λ b. b && list_all test (map live_txn xs)) (same x) ∙ ap (λ b. test x && b) (live_all xs)

-- whether the selected ones have it
pub live_selected : (w : Selector) (p : TxnProperty) (xs : List Txn) → has_ended (of_property p) ≡ false
    → selected_have w p (map live_txn xs) ≡ selected_have w p xs
live_selected selector.Any p xs e = live_any (has_property p) (λ x. live_has p x e) xs
live_selected selector.All p xs e = live_all (has_property p) (λ x. live_has p x e) xs
live_selected (selector.One t) p xs e =
    ap (λ n. nat_lt t n && has_property p (txn_or (slice_get (map live_txn xs) t))) (length-map xs live_txn)
    ∙ ap (λ b. nat_lt t (length xs) && b) (ap (has_property p) (live_at xs t) ∙ live_has p (txn_or (slice_get xs t)) e)

-- ---- what is live of a state

module _ (s : State) where
  -- the committed rows
  live_database : database (part_of Live s) ≡ database s
  unfolding database
  live_database = refl

  -- a fact of the state, unless it reads what an ended transaction had
  live_state_fact : (x : StateFact) → has_ended (of_state_fact x) ≡ false → holds_in x (part_of Live s) ≡ holds_in x s
  live_state_fact (state_fact.Mode A m) e = refl
  live_state_fact (state_fact.Mode B m) e = refl
  live_state_fact (state_fact.Txns w p) e = live_selected w p s.txns e
  live_state_fact (state_fact.NoRow k) e = ap (λ (m : Map). not (is_some (get m k))) live_database
  live_state_fact (state_fact.Link A x) e = refl
  live_state_fact (state_fact.Link B x) e = refl
  live_state_fact state_fact.Over e =
      ap (λ b. are_settled s.a.mode s.b.mode && has_content content.Empty s.ab && has_content content.Empty s.ba && not b)
      (live_selected selector.Any property.Active s.txns refl)
  live_state_fact (state_fact.Compare x c y) e = same_compared (part_of Live s) s live_database refl x c y e
  live_state_fact x e = refl

  module _ (t : Context) where
    -- a fact
    live_fact : (x : Fact) → has_ended (of_fact x) ≡ false → holds t x (part_of Live s) ≡ holds t x s
    live_fact (fact.OfState x) e = live_state_fact x e
    live_fact x e = refl

    -- a goal that does not read it is met by the state if and only if it is met by what is live of it
    pub live_goal : (g : Goal) → reads_ended g ≡ false → meets t g (part_of Live s) ≡ meets t g s
    live_goal = same_meets (λ f. has_ended f ≡ false) neither_ended (part_of Live s) s t t live_fact
