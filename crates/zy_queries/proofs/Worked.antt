-- Worked goals: what some texts mean, computed.
use Rattle.std.proofs.Common.{◌≡◌, inl, ℕ, [], ◌∷◌, None, Some, codes, refl, sym, ap, arith}
use Rattle.zy_isa.specs.declared.node.Node.TheVariants.{A}
use Rattle.zy_patterns.specs.declared.patterns.ReasonPattern.TheVariants as reason
use Rattle.zy_patterns.specs.declared.patterns.OutcomePattern.TheVariants as outcome
use Rattle.zy_patterns.specs.Vocabulary as outcome_word
use Rattle.zy_goals.specs.declared.goal.Selector.TheVariants as selector
use Rattle.zy_goals.specs.declared.goal.TxnProperty.TheVariants as property
use Rattle.zy_goals.specs.declared.goal.MessagePattern.TheVariants as pattern
use Rattle.zy_goals.specs.declared.goal.LinkContent.TheVariants as content
use Rattle.zy_goals.specs.declared.goal.Term.TheVariants as term
use Rattle.zy_goals.specs.declared.goal.Comparison.TheVariants as comparison
use Rattle.zy_goals.specs.declared.goal.StateFact.TheVariants as state_fact
use Rattle.zy_goals.specs.declared.goal.Fact.TheVariants as facts
use Rattle.zy_queries.specs.declared.names.Names.TheVariants.{Unknown}
use Rattle.zy_queries.specs.declared.reading.Query.{Query}
use Rattle.zy_queries.specs.declared.reading.expressions.Operator.TheVariants.{Or, And}
use Rattle.zy_queries.specs.Words.{words_of}
use Rattle.zy_queries.specs.Vocabulary as word
use Rattle.zy_queries.specs.Phrases as phrase
use Rattle.zy_queries.specs.Phrases.{fact_of, outcome_of}
use Rattle.zy_queries.specs.Grammar.{fact, negated, bracketed, joined, Says, ending, Means}

-- opens the definitions of words and of what they begin with
unfoldable open_all : ℕ
unfolding words_of word.link word.mode_of_node word.register word.sign word.place_of_page word.lone_fact
    outcome_word.node outcome_word.kind outcome_word.lone_reason outcome_word.lone_outcome outcome_word.lone_got outcome_word.paged_outcome
    outcome_word.paged_got word.number_to word.named word.txn word.several word.selected phrase.sum phrase.register phrase.spelled_term
    phrase.term_of phrase.compared phrase.after_term phrase.comparison phrase.mode phrase.of_page phrase.reason_or_none phrase.committed phrase.locks
    phrase.of_txns phrase.numbered phrase.message phrase.of_link phrase.state_fact_of fact_of outcome_of ending
open_all = 0

-- brackets and signs are words by themselves
words : words_of (codes "not(stuck) or  key 10>=5") ≡ codes "not" ∷ codes "(" ∷ codes "stuck" ∷ codes ")" ∷ codes "or" ∷ codes "key" ∷ codes "10"
    ∷ codes ">=" ∷ codes "5" ∷ []
unfolding open_all
words = refl

-- the earlier transaction is named first
before : fact_of Unknown (words_of (codes "txn 3 committed before 1 and stuck"))
    ≡ Some (facts.OfState (state_fact.CommittedBefore 3 1), codes "and" ∷ codes "stuck" ∷ [])
unfolding open_all
before = refl

-- `aborted` takes the reason behind it after `txn any`
aborted_any : fact_of Unknown (words_of (codes "txn any aborted gone"))
    ≡ Some (facts.OfState (state_fact.Txns selector.Any (property.Aborted (Some (reason.Gone None)))), [])
unfolding open_all
aborted_any = refl

-- alone it takes none
aborted_alone : fact_of Unknown (words_of (codes "aborted gone"))
    ≡ Some (facts.OfState (state_fact.Txns selector.Any (property.Aborted None)), codes "gone" ∷ [])
unfolding open_all
aborted_alone = refl

-- with its page
aborted_of_page : fact_of Unknown (words_of (codes "txn 2 aborted gone 7 and stuck"))
    ≡ Some (facts.OfState (state_fact.Txns (selector.One 2) (property.Aborted (Some (reason.Gone (Some 7))))), codes "and" ∷ codes "stuck" ∷ [])
unfolding open_all
aborted_of_page = refl

-- an outcome with all its numbers
splits : ending Unknown (words_of (codes "then split 0 1 500")) ≡ Some (Some (outcome.Split (Some 0) (Some 1) (Some 500)))
unfolding open_all
splits = refl

-- and with one of them
splits_page : ending Unknown (words_of (codes "then split 4")) ≡ Some (Some (outcome.Split (Some 4) None None))
unfolding open_all
splits_page = refl

-- a message with its page
message : fact_of Unknown (words_of (codes "link AB has pull 7")) ≡ Some (facts.OfState (state_fact.Link A (content.Has (pattern.Pull 7))), [])
unfolding open_all
message = refl

-- a sum is compared with a key
sums : fact_of Unknown (words_of (codes "sum 1 to 9<key 2"))
    ≡ Some (facts.OfState (state_fact.Compare (term.Sum 1 9) comparison.Less (term.Key 2)), [])
unfolding open_all
sums = refl

-- no key is above 65535
no_key : fact_of Unknown (words_of (codes "key 65536 absent")) ≡ None
unfolding open_all
no_key = refl

-- `and` binds tighter than `or`
tighter : (q : Query) → Says (joined Or (fact facts.Stuck) (joined And (fact facts.Differs) (negated (fact facts.Deadlock)))) q.goal
    → q.then ≡ None → Means Unknown (words_of (codes "stuck or differs and not deadlock")) q
unfolding open_all
tighter q s e = inl (record {
  tree = joined Or (fact facts.Stuck) (joined And (fact facts.Differs) (negated (fact facts.Deadlock)));
  rest = [];
  reads = (
    words_of (codes "differs and not deadlock"),
    omega arith,
    refl,
    (words_of (codes "not deadlock"), omega arith, refl, (codes "deadlock" ∷ [], refl, refl)),
  );
  parts = omega arith;
  says = s;
  ends = ap Some (sym e);
})

-- brackets hold an `or` together, and `then` ends an expression
brackets : (q : Query) → Says (joined And (bracketed (joined Or (fact facts.Stuck) (fact facts.Differs))) (fact facts.Deadlock)) q.goal
    → q.then ≡ Some (outcome.GotPage None) → Means Unknown (words_of (codes "(stuck or differs)and deadlock then got page")) q
unfolding open_all
brackets q s e = inl (record {
  tree = joined And (bracketed (joined Or (fact facts.Stuck) (fact facts.Differs))) (fact facts.Deadlock);
  rest = words_of (codes "then got page");
  reads = (
    words_of (codes "deadlock then got page"),
    omega arith,
    (
      words_of (codes "stuck or differs) and deadlock then got page"),
      refl,
      (words_of (codes "differs) and deadlock then got page"), omega arith, refl, refl),
    ),
    refl,
  );
  parts = omega arith;
  says = s;
  ends = ap Some (sym e);
})
