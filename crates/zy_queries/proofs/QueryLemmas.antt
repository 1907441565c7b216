-- What the words of a whole text mean.
use Rattle.std.proofs.Common.{◌≡◌, ◌∙◌, inl, inr, ℕ, Bool, true, false, cond, List, [], ◌∷◌, Option, Some, None, option_map, codes, Result, Ok, Err, refl, sym, ap, subst, arith}
use Rattle.std.specs.Prelude.{IfOk, IfErr}
use Rattle.zy_queries.specs.declared.names.Names.{Names}
use Rattle.zy_patterns.specs.declared.patterns.OutcomePattern.{OutcomePattern}
use Rattle.zy_queries.specs.declared.refusal.GoalFault.{GoalFault}
use Rattle.zy_queries.specs.declared.refusal.GoalFault.TheVariants.{Refused, Memory}
use Rattle.zy_queries.specs.declared.reading.Query.{Query}
use Rattle.zy_queries.specs.declared.reading.expressions.Operator.{Operator}
use Rattle.zy_queries.specs.declared.reading.expressions.Operator.TheVariants.{Or, And}
use Rattle.zy_queries.specs.declared.reading.expressions.Prefix.{Prefix}
use Rattle.zy_queries.specs.Words.{Word, after, are_none, begin_with}
use Rattle.zy_queries.specs.Cursors.{left}
use Rattle.zy_patterns.specs.Vocabulary.{lone_reason}
use Rattle.zy_queries.specs.Vocabulary.{lone_fact}
use Rattle.zy_queries.specs.Phrases.{fact_of, reason_or_none, state_fact_of, comparison, term_of, spelled_term, outcome_of}
use Rattle.zy_queries.specs.Grammar.{Tree, fact, negated, bracketed, joined, Reads, Says, word_of, level_of, whole, ending, max_parts}
use Rattle.zy_queries.specs.Grammar.{Means, MeansNever, AreOne, anything, IsNoGoal, IsNoInvariant, OnRefused}
use Rattle.zy_queries.specs.Expressions.{Stops, Finds, Answers, Asks, AsksThen, AsksNever}
use Rattle.zy_queries.proofs.ReadLemmas.{begun, both_answers, no_value}

-- ---- where an expression ends

-- the end is no operator
none_begun : (o : Operator) → begin_with (word_of o) [] ≡ false
none_begun Or = refl
none_begun And = refl

-- `then` is no operator
then_is_none : (o : Operator) (vs : List Word) → begin_with (word_of o) (codes "then" ∷ vs) ≡ false
then_is_none Or vs = refl
then_is_none And vs = refl

-- `then` and the words after it
then_begun : (ws : List Word) → begin_with (codes "then") ws ≡ true → ws ≡ codes "then" ∷ after ws
then_begun ws b = begun 116 (104 ∷ 101 ∷ 110 ∷ []) ws b

-- an expression stops at the end
none_stops : Stops 0 []
none_stops = λ o h. none_begun o

-- a value comes only where a test holds
chosen : {T : Type 0} (b : Bool) (x : Option T) (y : T) → cond b x None ≡ Some y → b ≡ true
chosen true x y e = refl
chosen false x y e = no_value None y refl e

-- an expression stops at what may come after a goal
ending_stops : (names : Names) (ws : List Word) (x : Option OutcomePattern) → ending names ws ≡ Some x → Stops 0 ws
unfolding ending
ending_stops names [] x e = none_stops
ending_stops names (w ∷ ws) x e = λ o h.
    let b = chosen (begin_with (codes "then") (w ∷ ws)) (option_map Some (whole (outcome_of names ws))) x e in
    ap (begin_with (word_of o)) (then_begun (w ∷ ws) b) ∙ then_is_none o ws

-- no fact begins with `then`
no_fact_then : (names : Names) (vs : List Word) → fact_of names (codes "then" ∷ vs) ≡ None
unfolding fact_of state_fact_of comparison term_of spelled_term lone_fact reason_or_none lone_reason
no_fact_then names vs = refl

-- no expression begins with `then`
no_tree_then : {A : Type 0} (names : Names) (l : ℕ) (t : Tree) (ws rest : List Word) → begin_with (codes "then") ws ≡ true
    → Reads names l t ws rest → A
no_tree_then names l (fact x) ws rest b r =
    no_value (fact_of names ws) (x, rest) (ap (fact_of names) (then_begun ws b) ∙ no_fact_then names (after ws)) r
no_tree_then names l (negated t) ws rest b r = both_answers (begin_with (codes "then") ws) b (ap (begin_with (codes "then")) r.1)
no_tree_then names l (bracketed t) ws rest b r = both_answers (begin_with (codes "then") ws) b (ap (begin_with (codes "then")) r.1)
no_tree_then names l (joined o t u) ws rest b r = no_tree_then names (level_of o) t ws (word_of o ∷ r.0) b r.2

-- no word is left where there is none
none_left : (ws : List Word) → are_none ws ≡ true → ws ≡ []
none_left [] h = refl
none_left (w ∷ ws) h = cc

-- the value of an option, or another
abbrev value_or : {T : Type 0} → T → Option T → T
value_or y None = y
value_or y (Some x) = x

-- ---- goals

-- what is read is what the words mean, and nothing else is; what is rejected means nothing
abbrev pub AnswersGoal : Names → List Word → Result Query GoalFault → Type 0
AnswersGoal names ws (Ok q) = Means names ws q × ((r : Query) → Means names ws r → AreOne q r)
AnswersGoal names ws (Err e) = OnRefused e (IsNoGoal names ws)

-- the clauses of the reader of goals
pub goal_clauses : (names : Names) (ws : List Word) (x : Result Query GoalFault) → AnswersGoal names ws x
    → IfOk x (λ q. Means names ws q) × IfOk x (λ q. (r : Query) → Means names ws r → AreOne q r)
    × IfErr x (λ e. OnRefused e (IsNoGoal names ws))
goal_clauses names ws (Ok q) h = (h.0, h.1, tt)
goal_clauses names ws (Err e) h = (tt, tt, h)

-- the expression is rejected
pub goal_missed : (names : Names) (ws : List Word) (e : GoalFault) → begin_with (codes "then") ws ≡ false
    → Answers names 0 ws max_parts (Err e) → AnswersGoal names ws (Err e)
goal_missed names ws Memory b h = tt
goal_missed names ws (Refused r) b h = record {
  nothing = λ q m. elim m [
    | inl g ↦ let k = h g.tree g.rest g.reads (ending_stops names g.rest q.then g.ends) in let p = g.parts in omega (arith, k.0)
    | inr g ↦ both_answers (begin_with (codes "then") ws) g.begins b
  ];
  too_long = λ g. (h g.tree g.rest g.reads (ending_stops names g.rest g.asked g.ends)).1;
}

-- the expression was read
pub goal_asked : (names : Names) (ws : List Word) (p : Prefix) (x : Result Query GoalFault) → begin_with (codes "then") ws ≡ false
    → Finds names 0 ws max_parts p → Asks names p x → AnswersGoal names ws x
goal_asked names ws p (Ok q) b f a = (
  inl (record {
    tree = f.tree;
    rest = left p.at;
    reads = f.reads;
    parts = omega (arith, f.parts);
    says = subst (λ y. Says f.tree y) (sym a.0) f.says;
    ends = a.1;
  }),
  λ r m. elim m [
    | inl g ↦ let k = f.only g.tree g.rest g.reads (ending_stops names g.rest r.then g.ends) in
        record {
          tree = g.tree;
          first = subst (λ y. Says g.tree y) (sym a.0) k.2;
          second = g.says;
          asked = ap (value_or q.then) (sym a.1 ∙ sym (ap (ending names) k.0) ∙ g.ends);
        }
    | inr g ↦ both_answers (begin_with (codes "then") ws) g.begins b
  ],
)
goal_asked names ws p (Err Memory) b f a = tt
goal_asked names ws p (Err (Refused r)) b f a = record {
  nothing = λ q m. elim m [
    | inl g ↦ let k = f.only g.tree g.rest g.reads (ending_stops names g.rest q.then g.ends) in
        no_value (ending names (left p.at)) q.then a (sym (ap (ending names) k.0) ∙ g.ends)
    | inr g ↦ both_answers (begin_with (codes "then") ws) g.begins b
  ];
  too_long = λ g.
      let k = f.only g.tree g.rest g.reads (ending_stops names g.rest g.asked g.ends) in
      no_value (ending names (left p.at)) g.asked a (sym (ap (ending names) k.0) ∙ g.ends);
}

-- `then` alone
pub goal_then : (names : Names) (ws : List Word) (x : Result Query GoalFault) → begin_with (codes "then") ws ≡ true
    → AsksThen names ws x → AnswersGoal names ws x
goal_then names ws (Ok q) b a = (
  inr a,
  λ r m. elim m [
    | inl g ↦ no_tree_then names 0 g.tree ws g.rest b g.reads
    | inr g ↦ record {
      tree = fact anything;
      first = a.says;
      second = g.says;
      asked = ap (value_or q.then) (sym a.ends ∙ g.ends);
    }
  ],
)
goal_then names ws (Err Memory) b a = tt
goal_then names ws (Err (Refused r)) b a = record {
  nothing = λ q m. elim m [
    | inl g ↦ no_tree_then names 0 g.tree ws g.rest b g.reads
    | inr g ↦ no_value (ending names ws) q.then a g.ends
  ];
  too_long = λ g. no_tree_then names 0 g.tree ws g.rest b g.reads;
}

-- ---- goals that every state is to meet

-- what is read is what the words mean, and nothing else is; what is rejected means nothing
abbrev pub AnswersNever : Names → List Word → Result Query GoalFault → Type 0
AnswersNever names ws (Ok q) = MeansNever names ws q × ((r : Query) → MeansNever names ws r → AreOne q r)
AnswersNever names ws (Err e) = OnRefused e (IsNoInvariant names ws)

-- the clauses of their reader
pub never_clauses : (names : Names) (ws : List Word) (x : Result Query GoalFault) → AnswersNever names ws x
    → IfOk x (λ q. MeansNever names ws q) × IfOk x (λ q. (r : Query) → MeansNever names ws r → AreOne q r)
    × IfErr x (λ e. OnRefused e (IsNoInvariant names ws))
never_clauses names ws (Ok q) h = (h.0, h.1, tt)
never_clauses names ws (Err e) h = (tt, tt, h)

-- the expression is rejected
pub never_missed : (names : Names) (ws : List Word) (e : GoalFault) → Answers names 0 ws max_parts (Err e)
    → AnswersNever names ws (Err e)
never_missed names ws Memory h = tt
never_missed names ws (Refused r) h = record {
  nothing = λ q g. let k = h g.tree [] g.reads none_stops in let p = g.parts in omega (arith, k.0);
  too_long = λ g. (h g.tree [] g.reads none_stops).1;
}

-- the expression was read
pub never_asked : (names : Names) (ws : List Word) (p : Prefix) (x : Result Query GoalFault) → Finds names 0 ws max_parts p
    → AsksNever p x → AnswersNever names ws x
never_asked names ws p (Ok q) f a = (
  record {
    tree = f.tree;
    reads = subst (λ w. Reads names 0 f.tree ws w) (none_left (left p.at) a.0) f.reads;
    parts = omega (arith, f.parts);
    says = a.1 f.tree f.says;
    ends = a.2;
  },
  λ r g. record {
    tree = negated g.tree;
    first = a.1 g.tree (f.only g.tree [] g.reads none_stops).2;
    second = g.says;
    asked = a.2 ∙ sym g.ends;
  },
)
never_asked names ws p (Err Memory) f a = tt
never_asked names ws p (Err (Refused r)) f a = record {
  nothing = λ q g. both_answers (are_none (left p.at)) (sym (ap are_none (f.only g.tree [] g.reads none_stops).0)) a;
  too_long = λ g. both_answers (are_none (left p.at)) (sym (ap are_none (f.only g.tree [] g.reads none_stops).0)) a;
}
