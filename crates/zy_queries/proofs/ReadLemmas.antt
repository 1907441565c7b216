-- What can be read from the front of words, by the word at hand.
use Rattle.std.proofs.Common.{◌≡◌, ◌+◌, ◌≤◌, ◌∙◌, ℕ, suc, Bool, true, false, List, [], ◌∷◌, Option, Some, None, codes, Result, Ok, Err, ◌++◌, refl, sym, ap, subst, arith}
use Rattle.std.proofs.lemmas.Slice.Eq.{bytes_eq-Decides}
use Rattle.zy_queries.specs.declared.names.Names.{Names}
use Rattle.zy_goals.specs.declared.goal.Fact.{Fact}
use Rattle.zy_goals.specs.declared.goal.Goal.{Is}
use Rattle.zy_queries.specs.declared.reading.cursor.GoalCursor.{GoalCursor}
use Rattle.zy_queries.specs.declared.reading.expressions.Prefix.{Prefix}
use Rattle.zy_queries.specs.declared.refusal.GoalFault.{GoalFault}
use Rattle.zy_queries.specs.declared.refusal.GoalFault.TheVariants.{Refused, Memory}
use Rattle.zy_queries.specs.declared.reading.expressions.Operator.{Operator}
use Rattle.zy_queries.specs.declared.reading.expressions.Operator.TheVariants.{Or, And}
use Rattle.zy_queries.specs.Words.{Word, Read, after, begin_with}
use Rattle.zy_queries.specs.Cursors.{left}
use Rattle.zy_patterns.specs.Vocabulary.{lone_reason}
use Rattle.zy_queries.specs.Vocabulary.{lone_fact}
use Rattle.zy_queries.specs.Phrases.{fact_of, reason_or_none, state_fact_of, comparison, term_of, spelled_term}
use Rattle.zy_queries.specs.Grammar.{Tree, fact, negated, bracketed, joined, Reads, Says, parts_of, word_of, level_of}
use Rattle.zy_queries.specs.Expressions.{Stops, Finds, Misses, Answers, Chain, chain_parts, all_joined, FindsMore, MissesMore, AnswersMore, IsForParts}
use Rattle.zy_queries.specs.Expressions.{Negates, Joins, Closes}

-- the calls that read operands of an operator go down from here
abbrev pub height_of : Operator → ℕ
height_of Or = 4
height_of And = 2

-- ---- the word at hand

-- words that begin with a word are that word and those after it
pub begun : (b : ℕ) (bs : List ℕ) (ws : List Word) → begin_with (b ∷ bs) ws ≡ true → ws ≡ (b ∷ bs) ∷ after ws
begun b bs [] h = cc
begun b bs (w ∷ ws) h = ap (λ v. v ∷ ws) ((bytes_eq-Decides w (b ∷ bs)).0 h)

-- a test that says yes and no
pub both_answers : {A : Type 0} (t : Bool) → t ≡ true → t ≡ false → A
both_answers t y n = cc

-- a value that is there and is not
pub no_value : {A T : Type 0} (o : Option T) (x : T) → o ≡ None → o ≡ Some x → A
no_value o x n y = cc

-- the words that are left of what was read
abbrev behind : {T : Type 0} → List Word → Read T → List Word
behind ws None = ws
behind ws (Some x) = x.1

-- the fact that was read
abbrev fact_in : Fact → Read Fact → Fact
fact_in x None = x
fact_in x (Some y) = y.0

-- the word of an operator is at hand
pub at_operator : (o : Operator) (ws vs : List Word) → ws ≡ word_of o ∷ vs → begin_with (word_of o) ws ≡ true
at_operator Or ws vs e = ap (begin_with (codes "or")) e
at_operator And ws vs e = ap (begin_with (codes "and")) e

-- where the word of an operator is at hand, those after it
pub behind_operator : (o : Operator) (ws : List Word) → begin_with (word_of o) ws ≡ true → ws ≡ word_of o ∷ after ws
behind_operator Or ws h = begun 111 (114 ∷ []) ws h
behind_operator And ws h = begun 97 (110 ∷ 100 ∷ []) ws h

-- no fact begins with `not`
no_fact_not : (names : Names) (vs : List Word) → fact_of names (codes "not" ∷ vs) ≡ None
unfolding fact_of state_fact_of comparison term_of spelled_term lone_fact reason_or_none lone_reason
no_fact_not names vs = refl

-- no fact begins with a bracket
no_fact_bracket : (names : Names) (vs : List Word) → fact_of names (codes "(" ∷ vs) ≡ None
unfolding fact_of state_fact_of comparison term_of spelled_term lone_fact reason_or_none lone_reason
no_fact_bracket names vs = refl

-- nothing binds tighter than what stands alone
too_tight : {A : Type 0} (o : Operator) → 2 ≤ level_of o → A
too_tight Or h = absurd (omega arith)
too_tight And h = absurd (omega arith)

-- ---- what stands alone

-- behind `not` is what it negates
pub inside_not : (names : Names) (t : Tree) (ws rest : List Word) → begin_with (codes "not") ws ≡ true → Reads names 2 t ws rest
    → (u : Tree) × Reads names 2 u (after ws) rest × (parts_of t ≡ suc (parts_of u)) × (t ≡ negated u)
inside_not names (fact x) ws rest b r =
    no_value (fact_of names ws) (x, rest) (ap (fact_of names) (begun 110 (111 ∷ 116 ∷ []) ws b) ∙ no_fact_not names (after ws)) r
inside_not names (negated u) ws rest b r = (u, subst (λ vs. Reads names 2 u vs rest) (sym (ap after r.1)) r.2, refl, refl)
inside_not names (bracketed u) ws rest b r = both_answers (begin_with (codes "not") ws) b (ap (begin_with (codes "not")) r.1)
inside_not names (joined o t u) ws rest b r = too_tight o r.1

-- behind a bracket is what stands in the brackets
pub inside_brackets : (names : Names) (t : Tree) (ws rest : List Word) → begin_with (codes "(") ws ≡ true → Reads names 2 t ws rest
    → (u : Tree) × Reads names 0 u (after ws) (codes ")" ∷ rest) × (parts_of t ≡ suc (parts_of u)) × (t ≡ bracketed u)
inside_brackets names (fact x) ws rest b r =
    no_value (fact_of names ws) (x, rest) (ap (fact_of names) (begun 40 [] ws b) ∙ no_fact_bracket names (after ws)) r
inside_brackets names (negated u) ws rest b r = both_answers (begin_with (codes "(") ws) b (ap (begin_with (codes "(")) r.1)
inside_brackets names (bracketed u) ws rest b r =
    (u, subst (λ vs. Reads names 0 u vs (codes ")" ∷ rest)) (sym (ap after r.1)) r.2, refl, refl)
inside_brackets names (joined o t u) ws rest b r = too_tight o r.1

-- without `not` and a bracket, a fact stands there
pub only_fact : (names : Names) (t : Tree) (ws rest : List Word) → begin_with (codes "(") ws ≡ false
    → begin_with (codes "not") ws ≡ false → Reads names 2 t ws rest
    → (x : Fact) × (fact_of names ws ≡ Some (x, rest)) × (parts_of t ≡ 1) × (t ≡ fact x)
only_fact names (fact x) ws rest b n r = (x, r, refl, refl)
only_fact names (negated u) ws rest b n r = both_answers (begin_with (codes "not") ws) (ap (begin_with (codes "not")) r.1) n
only_fact names (bracketed u) ws rest b n r = both_answers (begin_with (codes "(") ws) (ap (begin_with (codes "(")) r.1) b
only_fact names (joined o t u) ws rest b n r = too_tight o r.1

-- ---- faults

-- what is known of a refusal is an answer
pub missed : (names : Names) (l : ℕ) (ws : List Word) (n : ℕ) (e : GoalFault) → Misses names l ws n e → Answers names l ws n (Err e)
missed names l ws n Memory h = tt
missed names l ws n (Refused r) h = h

-- ---- a fact

-- no part is left for a fact
pub lone_uncounted : (names : Names) (ws : List Word) (n : ℕ) (e : GoalFault) → begin_with (codes "(") ws ≡ false
    → begin_with (codes "not") ws ≡ false → (n ≡ 0) × IsForParts e → Answers names 2 ws n (Err e)
lone_uncounted names ws n e b k h =
    missed names 2 ws n e (λ t rest r s. let f = only_fact names t ws rest b k r in (omega (arith, f.2, h.0), h.1))

-- what a fact was read as
abbrev pub fact_part : Fact → GoalCursor → ℕ → Prefix
fact_part x at m = record { goal = Is x; at = at; spare = m }

-- a fact was read
pub lone_found : (names : Names) (ws : List Word) (n m : ℕ) (x : Fact) (at : GoalCursor) → begin_with (codes "(") ws ≡ false
    → begin_with (codes "not") ws ≡ false → Some (x, left at) ≡ fact_of names ws → n ≡ suc m
    → Finds names 2 ws n (fact_part x at m)
lone_found names ws n m x at b k e h = record {
  tree = fact x;
  reads = sym e;
  says = refl;
  parts = omega arith;
  only = λ t rest r s.
      let f = only_fact names t ws rest b k r in (
        sym (ap (behind rest) (e ∙ f.1)),
        omega (arith, f.2),
        subst (λ u. Says u (Is x)) (sym f.3) (sym (ap (fact_in x) (e ∙ f.1))),
      );
}

-- no fact was read, so nothing stands there
pub no_lone : {A : Type 0} (names : Names) (t : Tree) (ws rest : List Word) → begin_with (codes "(") ws ≡ false
    → begin_with (codes "not") ws ≡ false → None ≡ fact_of names ws → Reads names 2 t ws rest → A
no_lone names t ws rest b k h r =
    let f = only_fact names t ws rest b k r in no_value (fact_of names ws) (f.0, rest) (sym h) f.1

-- ---- `not`

-- no part is left for `not`
pub not_uncounted : (names : Names) (ws : List Word) (n : ℕ) (e : GoalFault) → begin_with (codes "not") ws ≡ true
    → (n ≡ 0) × IsForParts e → Answers names 2 ws n (Err e)
not_uncounted names ws n e b h =
    missed names 2 ws n e (λ t rest r s. let u = inside_not names t ws rest b r in (omega (arith, u.2, h.0), h.1))

-- what `not` negates is rejected
pub not_missed : (names : Names) (ws vs : List Word) (n m : ℕ) (e : GoalFault) → begin_with (codes "not") ws ≡ true → n ≡ suc m
    → vs ≡ after ws → Answers names 2 vs m (Err e) → Answers names 2 ws n (Err e)
not_missed names ws vs n m Memory b en ev h = tt
not_missed names ws vs n m (Refused f) b en ev h = λ t rest r s.
    let u = inside_not names t ws rest b r in
    let k = h u.0 rest (subst (λ w. Reads names 2 u.0 w rest) (sym ev) u.1) s in
    (omega (arith, k.0, u.2, en), k.1)

-- what `not` negates was read
pub not_found : (names : Names) (ws vs : List Word) (n m : ℕ) (p q : Prefix) → begin_with (codes "not") ws ≡ true → n ≡ suc m
    → vs ≡ after ws → Finds names 2 vs m p → Negates p q → Finds names 2 ws n q
not_found names ws vs n m p q b en ev f g = record {
  tree = negated f.tree;
  reads = (
    after ws,
    begun 110 (111 ∷ 116 ∷ []) ws b,
    subst (λ w. Reads names 2 f.tree (after ws) w) (sym (ap left g.at)) (subst (λ w. Reads names 2 f.tree w (left p.at)) ev f.reads),
  );
  says = g.says f.tree f.says;
  parts = omega (arith, f.parts, g.spare, en);
  only = λ t rest r s.
      let u = inside_not names t ws rest b r in
      let k = f.only u.0 rest (subst (λ w. Reads names 2 u.0 w rest) (sym ev) u.1) s in (
        k.0 ∙ sym (ap left g.at),
        omega (arith, k.1, u.2, g.spare, en),
        subst (λ v. Says v q.goal) (sym u.3) (g.says u.0 k.2),
      );
}

-- ---- brackets

-- a closing bracket is no operator
no_operator : (o : Operator) (rest : List Word) → begin_with (word_of o) (codes ")" ∷ rest) ≡ false
no_operator Or rest = refl
no_operator And rest = refl

-- an expression stops at a closing bracket
bracket_stops : (rest : List Word) → Stops 0 (codes ")" ∷ rest)
bracket_stops rest = λ o h. no_operator o rest

-- no part is left for a pair of brackets
pub brackets_uncounted : (names : Names) (ws : List Word) (n : ℕ) (e : GoalFault) → begin_with (codes "(") ws ≡ true
    → (n ≡ 0) × IsForParts e → Answers names 2 ws n (Err e)
brackets_uncounted names ws n e b h =
    missed names 2 ws n e (λ t rest r s. let u = inside_brackets names t ws rest b r in (omega (arith, u.2, h.0), h.1))

-- what stands in brackets is rejected
pub brackets_missed : (names : Names) (ws vs : List Word) (n m : ℕ) (e : GoalFault) → begin_with (codes "(") ws ≡ true → n ≡ suc m
    → vs ≡ after ws → Answers names 0 vs m (Err e) → Answers names 2 ws n (Err e)
brackets_missed names ws vs n m Memory b en ev h = tt
brackets_missed names ws vs n m (Refused f) b en ev h = λ t rest r s.
    let u = inside_brackets names t ws rest b r in
    let k = h u.0 (codes ")" ∷ rest) (subst (λ w. Reads names 0 u.0 w (codes ")" ∷ rest)) (sym ev) u.1) (bracket_stops rest) in
    (omega (arith, k.0, u.2, en), k.1)

-- what stands in brackets was read, and the bracket that closes them or another word
pub brackets_closed : (names : Names) (ws vs : List Word) (n m : ℕ) (p : Prefix) (x : Result Prefix GoalFault)
    → begin_with (codes "(") ws ≡ true → n ≡ suc m → vs ≡ after ws → Finds names 0 vs m p → Closes p x → Answers names 2 ws n x
brackets_closed names ws vs n m p (Ok q) b en ev f g = record {
  tree = bracketed f.tree;
  reads = (
    after ws,
    begun 40 [] ws b,
    subst (λ w. Reads names 0 f.tree (after ws) w) g.0 (subst (λ w. Reads names 0 f.tree w (left p.at)) ev f.reads),
  );
  says = subst (λ y. Says f.tree y) (sym g.1) f.says;
  parts = omega (arith, f.parts, g.2, en);
  only = λ t rest r s.
      let u = inside_brackets names t ws rest b r in
      let k = f.only u.0 (codes ")" ∷ rest) (subst (λ w. Reads names 0 u.0 w (codes ")" ∷ rest)) (sym ev) u.1) (bracket_stops rest) in (
        ap after (k.0 ∙ g.0),
        omega (arith, k.1, u.2, g.2, en),
        subst (λ v. Says v q.goal) (sym u.3) (subst (λ y. Says u.0 y) (sym g.1) k.2),
      );
}
brackets_closed names ws vs n m p (Err Memory) b en ev f g = tt
brackets_closed names ws vs n m p (Err (Refused e)) b en ev f g = λ t rest r s.
    let u = inside_brackets names t ws rest b r in
    let k = f.only u.0 (codes ")" ∷ rest) (subst (λ w. Reads names 0 u.0 w (codes ")" ∷ rest)) (sym ev) u.1) (bracket_stops rest) in
    both_answers (begin_with (codes ")") (left p.at)) (sym (ap (begin_with (codes ")")) k.0)) g

-- ---- operands

-- what may stand where a tighter expression is wanted may stand where a looser one is
loosened : (names : Names) (l : ℕ) (t : Tree) (ws rest : List Word) → Reads names (suc l) t ws rest → Reads names l t ws rest
loosened names l (fact x) ws rest r = r
loosened names l (negated t) ws rest r = r
loosened names l (bracketed t) ws rest r = r
loosened names l (joined o t u) ws rest r = (r.0, omega (arith, r.1), r.2, r.3)

-- the word of a looser operator is not that of a tighter one
other_word : (o p : Operator) (vs : List Word) → suc (level_of o) ≤ level_of p → begin_with (word_of p) (word_of o ∷ vs) ≡ false
other_word Or Or vs h = absurd (omega arith)
other_word Or And vs h = refl
other_word And Or vs h = absurd (omega arith)
other_word And And vs h = absurd (omega arith)

-- before the next operand of an operator an operand stops
chain_stops : (names : Names) (o : Operator) (us : List Tree) (ws rest : List Word) → Chain names o us ws rest → Stops (level_of o) rest
    → Stops (suc (level_of o)) ws
chain_stops names o [] ws rest ch s = λ p h. ap (begin_with (word_of p)) ch ∙ s p (omega arith)
chain_stops names o (u ∷ us) ws rest ch s = λ p h. ap (begin_with (word_of p)) ch.2 ∙ other_word o p ch.0 h

-- operands and one more
chain_end : (names : Names) (o : Operator) (us : List Tree) (ws vs rest : List Word) (u : Tree) → Chain names o us ws (word_of o ∷ vs)
    → Reads names (suc (level_of o)) u vs rest → Chain names o (us ++ u ∷ []) ws rest
chain_end names o [] ws vs rest u ch r = (vs, rest, ch, r, refl)
chain_end names o (x ∷ us) ws vs rest u ch r = (ch.0, ch.1, ch.2, ch.3, chain_end names o us ch.1 vs rest u ch.4 r)

-- the parts of operands and one more
chain_parts-end : (us : List Tree) (u : Tree) → chain_parts (us ++ u ∷ []) ≡ chain_parts us + suc (parts_of u)
chain_parts-end [] u = omega arith
chain_parts-end (x ∷ us) u = omega (arith, chain_parts-end us u)

-- a tree as a first operand and the operands behind it
pub record Spine (names : Names) (o : Operator) (t : Tree) (ws rest : List Word) : Type 0 where
  pub head : Tree
  pub tail : List Tree
  pub mid : List Word
  pub reads : Reads names (suc (level_of o)) head ws mid
  pub chain : Chain names o tail mid rest
  pub parts : parts_of t ≡ parts_of head + chain_parts tail
  pub whole : t ≡ all_joined o head tail

-- one more operand comes last
all_joined-end : (o : Operator) (t : Tree) (us : List Tree) (u : Tree) → joined o (all_joined o t us) u ≡ all_joined o t (us ++ u ∷ [])
all_joined-end o t [] u = refl
all_joined-end o t (x ∷ us) u = all_joined-end o (joined o t x) us u

-- each tree is a first operand and the operands behind it
spine : (names : Names) (o : Operator) (t : Tree) (ws rest : List Word) → Reads names (level_of o) t ws rest → Spine names o t ws rest
spine names o (fact x) ws rest r =
    record { head = fact x; tail = []; mid = rest; reads = r; chain = refl; parts = omega arith; whole = refl }
spine names o (negated t) ws rest r =
    record { head = negated t; tail = []; mid = rest; reads = r; chain = refl; parts = omega arith; whole = refl }
spine names o (bracketed t) ws rest r =
    record { head = bracketed t; tail = []; mid = rest; reads = r; chain = refl; parts = omega arith; whole = refl }
spine names Or (joined Or t u) ws rest r =
    let s = spine names Or t ws (word_of Or ∷ r.0) r.2 in
    record {
      head = s.head;
      tail = s.tail ++ u ∷ [];
      mid = s.mid;
      reads = s.reads;
      chain = chain_end names Or s.tail s.mid r.0 rest u s.chain r.3;
      parts = omega (arith, s.parts, chain_parts-end s.tail u);
      whole = ap (λ v. joined Or v u) s.whole ∙ all_joined-end Or s.head s.tail u;
    }
spine names Or (joined And t u) ws rest r =
    record { head = joined And t u; tail = []; mid = rest; reads = (r.0, omega arith, r.2, r.3); chain = refl; parts = omega arith; whole = refl }
spine names And (joined Or t u) ws rest r = absurd (omega (arith, r.1))
spine names And (joined And t u) ws rest r =
    let s = spine names And t ws (word_of And ∷ r.0) r.2 in
    record {
      head = s.head;
      tail = s.tail ++ u ∷ [];
      mid = s.mid;
      reads = s.reads;
      chain = chain_end names And s.tail s.mid r.0 rest u s.chain r.3;
      parts = omega (arith, s.parts, chain_parts-end s.tail u);
      whole = ap (λ v. joined And v u) s.whole ∙ all_joined-end And s.head s.tail u;
    }

-- the first operand is rejected
pub chain_missed : (names : Names) (o : Operator) (ws : List Word) (n : ℕ) (e : GoalFault) → Answers names (suc (level_of o)) ws n (Err e)
    → Answers names (level_of o) ws n (Err e)
chain_missed names o ws n Memory h = tt
chain_missed names o ws n (Refused f) h = λ t rest r s.
    let x = spine names o t ws rest r in
    let k = h x.head x.mid x.reads (chain_stops names o x.tail x.mid rest x.chain s) in
    (omega (arith, k.0, x.parts), k.1)

-- the first operand was read, and those behind it are read or rejected
pub chain_more : (names : Names) (o : Operator) (ws : List Word) (n : ℕ) (p : Prefix) (x : Result Prefix GoalFault)
    → Finds names (suc (level_of o)) ws n p → AnswersMore names o p x → Answers names (level_of o) ws n x
chain_more names o ws n p (Ok q) f g =
    let j = g.joins f.tree ws (loosened names (level_of o) f.tree ws (left p.at) f.reads) f.says in
    record {
      tree = j.0;
      reads = j.1;
      says = j.2;
      parts = j.3 ∙ f.parts;
      only = λ t rest r s.
          let x = spine names o t ws rest r in
          let k = f.only x.head x.mid x.reads (chain_stops names o x.tail x.mid rest x.chain s) in
          let m = g.only x.head x.tail rest k.2 (subst (λ w. Chain names o x.tail w rest) k.0 x.chain) s in
          (m.0, omega (arith, x.parts, k.1, m.1), subst (λ v. Says v q.goal) (sym x.whole) m.2);
    }
chain_more names o ws n p (Err Memory) f g = tt
chain_more names o ws n p (Err (Refused e)) f g = λ t rest r s.
    let x = spine names o t ws rest r in
    let k = f.only x.head x.mid x.reads (chain_stops names o x.tail x.mid rest x.chain s) in
    let m = g x.tail rest (subst (λ w. Chain names o x.tail w rest) k.0 x.chain) s in
    (omega (arith, x.parts, k.1, m.0), m.1)

-- ---- the operands behind the first one

-- where no operator comes there are no more operands
no_more : (names : Names) (o : Operator) (t : Tree) (us : List Tree) (ws rest : List Word) (n : ℕ)
    → begin_with (word_of o) ws ≡ false → Chain names o us ws rest
    → (rest ≡ ws) × (chain_parts us + n ≡ n) × (t ≡ all_joined o t us)
no_more names o t [] ws rest n b ch = (sym ch, omega arith, refl)
no_more names o t (u ∷ us) ws rest n b ch = both_answers (begin_with (word_of o) ws) (at_operator o ws ch.0 ch.2) b

-- no operator comes
pub more_stops : (names : Names) (o : Operator) (p : Prefix) → begin_with (word_of o) (left p.at) ≡ false → FindsMore names o p p
more_stops names o p b = record {
  joins = λ t ws r s. (t, r, s, refl);
  only = λ t us rest says ch s.
      let k = no_more names o t us (left p.at) rest p.spare b ch in (k.0, k.1, subst (λ v. Says v p.goal) k.2 says);
}

-- the next operand, and those behind it
pub record Next (names : Names) (o : Operator) (us : List Tree) (ws rest : List Word) : Type 0 where
  pub head : Tree
  pub tail : List Tree
  pub mid : List Word
  pub reads : Reads names (suc (level_of o)) head (after ws) mid
  pub chain : Chain names o tail mid rest
  pub parts : chain_parts us ≡ suc (parts_of head) + chain_parts tail
  pub whole : us ≡ head ∷ tail

-- where an operator comes there is one more operand
next : (names : Names) (o : Operator) (us : List Tree) (ws rest : List Word) → begin_with (word_of o) ws ≡ true
    → Chain names o us ws rest → Stops (level_of o) rest → Next names o us ws rest
next names o [] ws rest b ch s =
    both_answers (begin_with (word_of o) ws) b (ap (begin_with (word_of o)) ch ∙ s o (omega arith))
next names o (u ∷ us) ws rest b ch s = record {
  head = u;
  tail = us;
  mid = ch.1;
  reads = subst (λ w. Reads names (suc (level_of o)) u w ch.1) (sym (ap after ch.2)) ch.3;
  chain = ch.4;
  parts = refl;
  whole = refl;
}

-- what is known of a refusal is an answer
missed_more : (names : Names) (o : Operator) (p : Prefix) (e : GoalFault) → MissesMore names o (left p.at) p.spare e
    → AnswersMore names o p (Err e)
missed_more names o p Memory h = tt
missed_more names o p (Refused r) h = h

-- no part is left for an operator
pub more_uncounted : (names : Names) (o : Operator) (p : Prefix) (e : GoalFault) → begin_with (word_of o) (left p.at) ≡ true
    → (p.spare ≡ 0) × IsForParts e → AnswersMore names o p (Err e)
more_uncounted names o p e b h =
    missed_more names o p e (λ us rest ch s.
    let x = next names o us (left p.at) rest b ch s in (omega (arith, x.parts, h.0), h.1))

-- the next operand is rejected
pub more_missed : (names : Names) (o : Operator) (p : Prefix) (vs : List Word) (m : ℕ) (e : GoalFault)
    → begin_with (word_of o) (left p.at) ≡ true → p.spare ≡ suc m → vs ≡ after (left p.at)
    → Answers names (suc (level_of o)) vs m (Err e) → AnswersMore names o p (Err e)
more_missed names o p vs m Memory b en ev h = tt
more_missed names o p vs m (Refused f) b en ev h = λ us rest ch s.
    let x = next names o us (left p.at) rest b ch s in
    let r = subst (λ w. Reads names (suc (level_of o)) x.head w x.mid) (sym ev) x.reads in
    let k = h x.head x.mid r (chain_stops names o x.tail x.mid rest x.chain s) in
    (omega (arith, k.0, x.parts, en), k.1)

-- the next operand was read and joined, and those behind it are read or rejected
pub more_joined : (names : Names) (o : Operator) (p q j : Prefix) (vs : List Word) (m : ℕ) (x : Result Prefix GoalFault)
    → begin_with (word_of o) (left p.at) ≡ true → p.spare ≡ suc m → vs ≡ after (left p.at)
    → Finds names (suc (level_of o)) vs m q → Joins o p q j → AnswersMore names o j x → AnswersMore names o p x
more_joined names o p q j vs m (Ok y) b en ev f g h = record {
  joins = λ t ws r s.
      let front = subst (λ w. Reads names (level_of o) t ws w) (behind_operator o (left p.at) b) r in
      let back = subst (λ w. Reads names (suc (level_of o)) f.tree (after (left p.at)) w) (sym (ap left g.at))
      (subst (λ w. Reads names (suc (level_of o)) f.tree w (left q.at)) ev f.reads) in
      let k = h.joins (joined o t f.tree) ws (after (left p.at), omega arith, front, back) (g.says t f.tree s f.says) in
      (k.0, k.1, k.2, omega (arith, k.3, f.parts, g.spare, en));
  only = λ t us rest says ch s.
      let z = next names o us (left p.at) rest b ch s in
      let r = subst (λ w. Reads names (suc (level_of o)) z.head w z.mid) (sym ev) z.reads in
      let k = f.only z.head z.mid r (chain_stops names o z.tail z.mid rest z.chain s) in
      let l = h.only (joined o t z.head) z.tail rest (g.says t z.head says k.2)
      (subst (λ w. Chain names o z.tail w rest) (k.0 ∙ sym (ap left g.at)) z.chain) s in (
        l.0,
        omega (arith, z.parts, k.1, l.1, g.spare, en),
        subst (λ vs. Says (all_joined o t vs) y.goal) (sym z.whole) l.2,
      );
}
more_joined names o p q j vs m (Err Memory) b en ev f g h = tt
more_joined names o p q j vs m (Err (Refused e)) b en ev f g h = λ us rest ch s.
    let z = next names o us (left p.at) rest b ch s in
    let r = subst (λ w. Reads names (suc (level_of o)) z.head w z.mid) (sym ev) z.reads in
    let k = f.only z.head z.mid r (chain_stops names o z.tail z.mid rest z.chain s) in
    let l = h z.tail rest (subst (λ w. Chain names o z.tail w rest) (k.0 ∙ sym (ap left g.at)) z.chain) s in
    (omega (arith, z.parts, k.1, l.0, g.spare, en), l.1)
