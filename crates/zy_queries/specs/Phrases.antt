-- Terms, facts and outcomes: what words begin with one, and which words come after it.
use Rattle.std.specs.Prelude.{ℕ, ◌||◌, Bool, List, codes, Option, Some, None, option_map, if◌then◌else◌}
use Rattle.zy_isa.specs.declared.node.Node.{Node}
use Rattle.zy_model.specs.declared.kind.Kind.{Kind}
use Rattle.zy_model.specs.declared.kind.Kind.TheVariants as kind
use Rattle.zy_text.specs.Words.{is_numeral}
use Rattle.zy_patterns.specs.declared.patterns.ReasonPattern.{ReasonPattern}
use Rattle.zy_patterns.specs.declared.patterns.ReasonPattern.TheVariants as reason
use Rattle.zy_patterns.specs.declared.patterns.OutcomePattern.{OutcomePattern}
use Rattle.zy_patterns.specs.declared.patterns.OutcomePattern.TheVariants as outcome
use Rattle.zy_patterns.specs.declared.paged.PagedOutcome.{PagedOutcome}
use Rattle.zy_patterns.specs.Paged.{with_page}
use Rattle.zy_patterns.specs.Vocabulary as outcome_word
use Rattle.zy_goals.specs.declared.goal.PagePlace.TheVariants as place
use Rattle.zy_goals.specs.declared.goal.Selector.{Selector}
use Rattle.zy_goals.specs.declared.goal.Selector.TheVariants as selector
use Rattle.zy_goals.specs.declared.goal.TxnProperty.TheVariants as property
use Rattle.zy_goals.specs.declared.goal.MessagePattern.{MessagePattern}
use Rattle.zy_goals.specs.declared.goal.MessagePattern.TheVariants as pattern
use Rattle.zy_goals.specs.declared.goal.LinkContent.TheVariants as content
use Rattle.zy_goals.specs.declared.goal.Term.{Term}
use Rattle.zy_goals.specs.declared.goal.Term.TheVariants as term
use Rattle.zy_goals.specs.declared.goal.StateFact.{StateFact}
use Rattle.zy_goals.specs.declared.goal.StateFact.TheVariants as state_fact
use Rattle.zy_goals.specs.declared.goal.Fact.{Fact}
use Rattle.zy_goals.specs.declared.goal.Fact.TheVariants as fact
use Rattle.zy_queries.specs.declared.names.Names.{Names}
use Rattle.zy_queries.specs.Words.{Word, Read, ◌>>=◌, made, one, first, after, begin_with}
use Rattle.zy_queries.specs.Vocabulary as word

-- ---- TERM

-- K to K, after `sum`
unfoldable pub sum : List Word → Read Term
sum ws = do
  j ← one word.key ws
  k ← (if begin_with (codes "to") j.1 then one word.key (after j.1) else None)
  Some (term.Sum j.0 k.0, k.1)

-- T REG, after `reg`
unfoldable pub register : Names → List Word → Read Term
register names ws = do
  t ← one (word.txn names) ws
  r ← one word.register t.1
  Some (term.Register t.0 r.0, r.1)

-- K, after `key`
abbrev pub value_at : List Word → Read Term
value_at ws = made term.Key (one word.key ws)

-- T, after `pc`
abbrev pub pc_of : Names → List Word → Read Term
pc_of names ws = made term.Pc (one (word.txn names) ws)

-- T, after `done`
abbrev pub done_of : Names → List Word → Read Term
done_of names ws = made term.Done (one (word.txn names) ws)

-- a term that begins with a word
unfoldable pub spelled_term : Names → List Word → Read Term
spelled_term names ws =
    if begin_with (codes "key") ws then value_at (after ws) else
    if begin_with (codes "sum") ws then sum (after ws) else
    if begin_with (codes "reg") ws then register names (after ws) else
    if begin_with (codes "pc") ws then pc_of names (after ws) else
    if begin_with (codes "done") ws then done_of names (after ws) else
    if begin_with (codes "commits") ws then Some (term.Commits, after ws) else
    None

-- TERM
unfoldable pub term_of : Names → List Word → Read Term
term_of names ws =
    if is_numeral (first ws) then made term.Number (one word.number ws) else spelled_term names ws

-- ---- FACT

-- a sign and a term, after a term
unfoldable pub compared : Names → Term → List Word → Read StateFact
compared names x ws = do
  c ← one word.sign ws
  y ← term_of names c.1
  Some (state_fact.Compare x c.0 y.0, y.1)

-- `absent` after a key, or a sign and a term
unfoldable pub after_term : Names → Term → List Word → Read StateFact
after_term names (term.Key k) ws =
    if begin_with (codes "absent") ws then Some (state_fact.NoRow k, after ws) else compared names (term.Key k) ws
after_term names x ws = compared names x ws

-- TERM and what comes after it
unfoldable pub comparison : Names → List Word → Read StateFact
comparison names ws = do
  x ← term_of names ws
  after_term names x.0 x.1

-- NODE MODE, after `mode`
unfoldable pub mode : List Word → Read StateFact
mode ws = do
  n ← one outcome_word.node ws
  m ← one word.mode_of_node n.1
  Some (state_fact.Mode n.0 m.0, m.1)

-- PLACE, after `page P at`
abbrev pub page_at : ℕ → List Word → Read StateFact
page_at p ws = made (state_fact.Page p) (one word.place_of_page ws)

-- what comes after `page P`
unfoldable pub of_page : ℕ → List Word → Read StateFact
of_page p ws =
    if begin_with (codes "at") ws then page_at p (after ws) else
    if begin_with (codes "moving") ws then Some (state_fact.Page p place.Moving, after ws) else
    if begin_with (codes "absent") ws then Some (state_fact.Page p place.Absent, after ws) else
    if begin_with (codes "locked") ws then Some (state_fact.Locked p, after ws) else
    None

-- a part that may be left out: it is there if the first word begins one
abbrev pub or_none : {T : Type 0} → Bool → Read T → List Word → Read (Option T)
or_none is part ws = if is then made Some part else Some (None, ws)

-- [ P ]
abbrev pub page_or_none : List Word → Read (Option ℕ)
page_or_none ws = or_none (is_numeral (first ws)) (one word.key ws) ws

-- what the first word stands for, if it stands for something
abbrev pub one_or_none : {T : Type 0} → Option T → List Word → Read (Option T)
one_or_none (Some x) ws = Some (Some x, after ws)
one_or_none None ws = Some (None, ws)

-- [ WHY ]
unfoldable pub reason_or_none : List Word → Read (Option ReasonPattern)
reason_or_none ws =
    if begin_with (codes "frozen") ws then made (λ p. Some (reason.Frozen p)) (page_or_none (after ws)) else
    if begin_with (codes "gone") ws then made (λ p. Some (reason.Gone p)) (page_or_none (after ws)) else
    one_or_none (outcome_word.lone_reason (first ws)) ws

-- [ before T ], after `txn T committed`
unfoldable pub committed : Names → Selector → List Word → Read StateFact
committed names (selector.One t) ws =
    if begin_with (codes "before") ws then made (state_fact.CommittedBefore t) (one (word.txn names) (after ws)) else
    Some (state_fact.Txns (selector.One t) property.Committed, ws)
committed names s ws = Some (state_fact.Txns s property.Committed, ws)

-- P, after `txn T locks`
unfoldable pub locks : Selector → List Word → Read StateFact
locks (selector.One t) ws = made (state_fact.LockedBy t) (one word.key ws)
locks s ws = None

-- [ WHY ], after `txn T aborted`
abbrev pub aborted : Selector → List Word → Read StateFact
aborted s ws = made (λ r. state_fact.Txns s (property.Aborted r)) (reason_or_none ws)

-- NODE, after `txn T at`
abbrev pub at_node : Selector → List Word → Read StateFact
at_node s ws = made (λ n. state_fact.Txns s (property.At n)) (one outcome_word.node ws)

-- K, after `txn T wrote`
abbrev pub wrote : Selector → List Word → Read StateFact
wrote s ws = made (λ k. state_fact.Txns s (property.Wrote k)) (one word.key ws)

-- what comes after `txn T`, `txn any` or `txn all`
unfoldable pub of_txns : Names → Selector → List Word → Read StateFact
of_txns names s ws =
    if begin_with (codes "new") ws then Some (state_fact.Txns s property.New, after ws) else
    if begin_with (codes "active") ws then Some (state_fact.Txns s property.Active, after ws) else
    if begin_with (codes "committed") ws then committed names s (after ws) else
    if begin_with (codes "aborted") ws then aborted s (after ws) else
    if begin_with (codes "at") ws then at_node s (after ws) else
    if begin_with (codes "wrote") ws then wrote s (after ws) else
    if begin_with (codes "locks") ws then locks s (after ws) else
    None

-- P, after `has pull`
abbrev pub pull_of : List Word → Read MessagePattern
pull_of ws = made pattern.Pull (one word.key ws)

-- P, after `has page`
abbrev pub page_of : List Word → Read MessagePattern
page_of ws = made pattern.Page (one word.key ws)

-- [ P ], after `has pull` and `has page`
unfoldable pub numbered : Kind → List Word → Read MessagePattern
numbered kind.Pull ws =
    if is_numeral (first ws) then pull_of ws else
    Some (pattern.OfKind kind.Pull, ws)
numbered kind.Page ws =
    if is_numeral (first ws) then page_of ws else
    Some (pattern.OfKind kind.Page, ws)
numbered k ws = Some (pattern.OfKind k, ws)

-- KIND, after `has`
unfoldable pub message : List Word → Read MessagePattern
message ws = do
  k ← one outcome_word.kind ws
  numbered k.0 k.1

-- KIND and what may come after it, after `link L has`
abbrev pub link_has : Node → List Word → Read StateFact
link_has n ws = made (λ m. state_fact.Link n (content.Has m)) (message ws)

-- what comes after `link L`
unfoldable pub of_link : Node → List Word → Read StateFact
of_link n ws =
    if begin_with (codes "empty") ws then Some (state_fact.Link n content.Empty, after ws) else
    if begin_with (codes "has") ws then link_has n (after ws) else
    None

-- P and what comes after it, after `page`
abbrev pub page : List Word → Read StateFact
page ws = do
  p ← one word.key ws
  of_page p.0 p.1

-- which transactions, and what comes after them, after `txn`
abbrev pub txns : Names → List Word → Read StateFact
txns names ws = do
  s ← one (word.selected names) ws
  of_txns names s.0 s.1

-- LINK and what comes after it, after `link`
abbrev pub link : List Word → Read StateFact
link ws = do
  n ← one word.link ws
  of_link n.0 n.1

-- a fact of the state of several words
unfoldable pub state_fact_of : Names → List Word → Read StateFact
state_fact_of names ws =
    if begin_with (codes "mode") ws then mode (after ws) else
    if begin_with (codes "page") ws then page (after ws) else
    if begin_with (codes "txn") ws then txns names (after ws) else
    if begin_with (codes "link") ws then link (after ws) else
    comparison names ws

-- the first of two values that is there
abbrev pub or_else : {T : Type 0} → Option T → Option T → Option T
or_else (Some x) o = Some x
or_else None o = o

-- a reason of an abort, where there is one; else another fact
abbrev pub reason_or : Read (Option ReasonPattern) → Read Fact → Read Fact
reason_or None other = None
reason_or (Some (Some r, ws)) other = Some (word.aborted (Some r), ws)
reason_or (Some (None, ws)) other = other

-- FACT
unfoldable pub fact_of : Names → List Word → Read Fact
fact_of names ws =
    or_else (one word.lone_fact ws) (reason_or (reason_or_none ws) (made fact.OfState (state_fact_of names ws)))

-- ---- OUTCOME: its node, its reason and its numbers may be left out, of a split the last ones

-- [ NODE ], after `began`
abbrev pub outcome_began : List Word → Read OutcomePattern
outcome_began ws = made outcome.Began (one_or_none (outcome_word.node (first ws)) ws)

-- [ I ], after `committed`
abbrev pub outcome_committed : List Word → Read OutcomePattern
outcome_committed ws = made outcome.Committed (or_none (is_numeral (first ws)) (one word.place_in_order ws) ws)

-- [ T ], after `active`
abbrev pub outcome_active : Names → List Word → Read OutcomePattern
outcome_active names ws = made outcome.Active (or_none (is_numeral (first ws) || word.is_name (first ws)) (one (word.txn names) ws) ws)

-- [ P [ P [ B ] ] ], after `split`
abbrev pub outcome_split : List Word → Read OutcomePattern
outcome_split ws = do
  p ← page_or_none ws
  q ← page_or_none p.1
  b ← page_or_none q.1
  Some (outcome.Split p.0 q.0 b.0, b.1)

-- an outcome of one page, if the first word is one; else it is one word
abbrev pub paged_or : Option PagedOutcome → Option OutcomePattern → List Word → Read OutcomePattern
paged_or (Some x) other ws = made (with_page x) (page_or_none (after ws))
paged_or None other ws = option_map (λ x. (x, after ws)) other

-- KIND, after `got`
abbrev pub outcome_got : List Word → Read OutcomePattern
outcome_got ws = paged_or (outcome_word.paged_got (first ws)) (outcome_word.lone_got (first ws)) ws

-- an outcome with a page, or of one word
abbrev pub outcome_paged : List Word → Read OutcomePattern
outcome_paged ws = paged_or (outcome_word.paged_outcome (first ws)) (outcome_word.lone_outcome (first ws)) ws

-- OUTCOME
unfoldable pub outcome_of : Names → List Word → Read OutcomePattern
outcome_of names ws =
    if begin_with (codes "began") ws then outcome_began (after ws) else
    if begin_with (codes "committed") ws then outcome_committed (after ws) else
    if begin_with (codes "aborted") ws then made outcome.Aborted (reason_or_none (after ws)) else
    if begin_with (codes "active") ws then outcome_active names (after ws) else
    if begin_with (codes "split") ws then outcome_split (after ws) else
    if begin_with (codes "got") ws then outcome_got (after ws) else
    outcome_paged ws
