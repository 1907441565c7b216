-- The words of goals that stand for something by themselves.
use Rattle.std.specs.Prelude.{ℕ, ◌||◌, ◌&&◌, not, nat_le, Bool, codes, Option, Some, None, option_map}
use Rattle.std.specs.Prelude.{if◌then◌else◌}
use Rattle.std.specs.Option.{option_and_then}
use Rattle.std.specs.Str.{bytes_eq}
use Rattle.zy_isa.specs.Limits.{max_key, max_txns}
use Rattle.zy_isa.specs.declared.node.Node.{Node}
use Rattle.zy_isa.specs.declared.node.Node.TheVariants.{A, B}
use Rattle.zy_model.specs.declared.mode.NodeMode.{NodeMode}
use Rattle.zy_model.specs.declared.mode.NodeMode.TheVariants as mode
use Rattle.zy_text.specs.Words.{number_of, is_numeral}
use Rattle.zy_text.specs.Names as text_names
use Rattle.zy_patterns.specs.declared.patterns.ReasonPattern.{ReasonPattern}
use Rattle.zy_goals.specs.declared.goal.PagePlace.{PagePlace}
use Rattle.zy_goals.specs.declared.goal.PagePlace.TheVariants as page_place
use Rattle.zy_goals.specs.declared.goal.Selector.{Selector}
use Rattle.zy_goals.specs.declared.goal.Selector.TheVariants as selector
use Rattle.zy_goals.specs.declared.goal.TxnProperty.TheVariants as property
use Rattle.zy_goals.specs.declared.goal.Comparison.{Comparison}
use Rattle.zy_goals.specs.declared.goal.Comparison.TheVariants as comparison
use Rattle.zy_goals.specs.declared.goal.StateFact.TheVariants as state_fact
use Rattle.zy_goals.specs.declared.goal.Fact.{Fact}
use Rattle.zy_goals.specs.declared.goal.Fact.TheVariants as fact
use Rattle.zy_queries.specs.declared.names.Names.{Names}
use Rattle.zy_queries.specs.declared.names.Names.TheVariants.{Unknown, Known}
use Rattle.zy_queries.specs.Words.{Word}

-- LINK, by the node that it goes from
unfoldable pub link : Word → Option Node
link w =
    if bytes_eq w (codes "AB") then Some A else
    if bytes_eq w (codes "BA") then Some B else
    None

-- MODE
unfoldable pub mode_of_node : Word → Option NodeMode
mode_of_node w =
    if bytes_eq w (codes "normal") then Some mode.Normal else
    if bytes_eq w (codes "empty") then Some mode.Empty else
    if bytes_eq w (codes "sinit") then Some mode.SInit else
    if bytes_eq w (codes "sdual") then Some mode.SDual else
    if bytes_eq w (codes "sfinish") then Some mode.SFinish else
    if bytes_eq w (codes "dinit") then Some mode.DInit else
    if bytes_eq w (codes "ddual") then Some mode.DDual else
    if bytes_eq w (codes "dfinish") then Some mode.DFinish else
    None

-- REG
unfoldable pub register : Word → Option ℕ
register w =
    if bytes_eq w (codes "r0") then Some 0 else
    if bytes_eq w (codes "r1") then Some 1 else
    if bytes_eq w (codes "r2") then Some 2 else
    if bytes_eq w (codes "r3") then Some 3 else
    if bytes_eq w (codes "r4") then Some 4 else
    if bytes_eq w (codes "r5") then Some 5 else
    if bytes_eq w (codes "r6") then Some 6 else
    if bytes_eq w (codes "r7") then Some 7 else
    None

-- the sign between two terms
unfoldable pub sign : Word → Option Comparison
sign w =
    if bytes_eq w (codes "=") then Some comparison.Equal else
    if bytes_eq w (codes "!=") then Some comparison.NotEqual else
    if bytes_eq w (codes "<") then Some comparison.Less else
    if bytes_eq w (codes "<=") then Some comparison.AtMost else
    if bytes_eq w (codes ">") then Some comparison.Greater else
    if bytes_eq w (codes ">=") then Some comparison.AtLeast else
    None

-- what comes after `page P at`
unfoldable pub place_of_page : Word → Option PagePlace
place_of_page w =
    if bytes_eq w (codes "A") then Some (page_place.At A) else
    if bytes_eq w (codes "B") then Some (page_place.At B) else
    if bytes_eq w (codes "AB") then Some (page_place.OnLinkFrom A) else
    if bytes_eq w (codes "BA") then Some (page_place.OnLinkFrom B) else
    None

-- a transaction is aborted, for this reason if there is one
abbrev pub aborted : Option ReasonPattern → Fact
aborted r = fact.OfState (state_fact.Txns selector.Any (property.Aborted r))

-- a fact of one word, but for reasons of aborts
unfoldable pub lone_fact : Word → Option Fact
lone_fact w =
    if bytes_eq w (codes "differs") then Some fact.Differs else
    if bytes_eq w (codes "stuck") then Some fact.Stuck else
    if bytes_eq w (codes "deadlock") then Some fact.Deadlock else
    if bytes_eq w (codes "over") then Some (fact.OfState state_fact.Over) else
    if bytes_eq w (codes "committed") then Some (fact.OfState (state_fact.Txns selector.All property.Committed)) else
    if bytes_eq w (codes "aborted") then Some (aborted None) else
    None

-- ---- numbers and transactions

-- a number that may come where no number above `most` may
abbrev pub at_most : ℕ → ℕ → Option ℕ
at_most most n = if nat_le n most then Some n else None

-- a number of one to ten digits that is not above `most`
unfoldable pub number_to : ℕ → Word → Option ℕ
number_to most w = option_and_then (at_most most) (number_of w)

-- N, of one to ten digits
abbrev pub number : Word → Option ℕ
number w = number_to 9999999999 w

-- K and P: a key, or the number of a page
abbrev pub key : Word → Option ℕ
key w = number_to max_key w

-- I: a place in commit order
abbrev pub place_in_order : Word → Option ℕ
place_in_order w = number_to max_txns w

-- the greatest number of a transaction
abbrev pub max_txn : ℕ
max_txn = 63

-- The number of the transaction that has this name. Where the names are not known yet, each stands for transaction 0.
unfoldable pub named : Names → Word → Option ℕ
named Unknown w = Some 0
named (Known names) w = option_and_then (at_most max_txn) (text_names.place_among names.now w)

-- a name; `any` and `all` are none
abbrev pub is_name : Word → Bool
is_name w = text_names.is_name w && not (bytes_eq w (codes "any")) && not (bytes_eq w (codes "all"))

-- T: the number or the name of a transaction
unfoldable pub txn : Names → Word → Option ℕ
txn names w = if is_name w then named names w else number_to max_txn w

-- `any` or `all`
unfoldable pub several : Word → Option Selector
several w =
    if bytes_eq w (codes "any") then Some selector.Any else
    if bytes_eq w (codes "all") then Some selector.All else
    None

-- T, `any` or `all`
unfoldable pub selected : Names → Word → Option Selector
selected names w = if is_numeral w || is_name w then option_map selector.One (txn names w) else several w
