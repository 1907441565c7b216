-- Numbers, nodes, reasons and transactions, and which of them may be left out.
use Rattle.std.specs.Prelude.{ℕ, List, codes, nat_le, nat_lt, Option, Some, None, Ok, if◌then◌else◌}
use Rattle.zy_isa.specs.Limits.{max_key, max_txns, max_value}
use Rattle.zy_isa.specs.declared.node.Node.{Node}
use Rattle.zy_isa.specs.Results.{◌>>=◌}
use Rattle.zy_text.specs.Words.{number_of, is_numeral}
use Rattle.zy_text.specs.Names.{is_name}
use Rattle.zy_logs.specs.declared.expected.ExpectedInLog.TheVariants as expected
use Rattle.zy_patterns.specs.declared.patterns.ReasonPattern.{ReasonPattern}
use Rattle.zy_patterns.specs.declared.patterns.ReasonPattern.TheVariants as pattern
use Rattle.zy_logs.specs.declared.txns.Txns.{Txns}
use Rattle.zy_logs.specs.Words.{Word, Read, first, after, begin_with, message_or_end, end_outcome, refused, gives, made}
use Rattle.zy_logs.specs.Txns.{named}
use Rattle.zy_patterns.specs.Vocabulary as word

-- a part that may be left out where an outcome ends
abbrev pub or_none : {T : Type 0} → (List Word → Read T) → List Word → Read (Option T)
or_none part ws = if end_outcome ws then Ok (None, ws) else made Some (part ws)

-- a number of 1 to 10 digits
abbrev pub digits : List Word → Read ℕ
digits ws = gives (number_of (first ws)) expected.Number ws

-- a number of 1 to 10 digits, not above `most`, that the first word or a part of it spells
abbrev pub number_in : ℕ → Word → List Word → Read ℕ
number_in most part ws = do
  n ← gives (number_of part) expected.Number ws
  if nat_le n.0 most then Ok n else refused (expected.AtMost most) ws

-- such a number, which is the word
abbrev pub number : ℕ → List Word → Read ℕ
number most ws = number_in most (first ws) ws

-- P, and B of a split
abbrev pub page : List Word → Read ℕ
page ws = number max_key ws

-- I
abbrev pub place : List Word → Read ℕ
place ws = number max_txns ws

-- V
abbrev pub value : List Word → Read ℕ
value ws = number max_value ws

-- the number of one of `count` transactions
abbrev pub numbered : ℕ → List Word → Read ℕ
numbered count ws = do
  n ← digits ws
  if nat_lt n.0 count then Ok n else refused expected.KnownTxn ws

-- T: the number or the name of a transaction
abbrev pub txn : Txns → List Word → Read ℕ
txn txns ws =
    if is_numeral (first ws) then numbered txns.count ws else
    if is_name (first ws) then gives (named txns (first ws)) expected.KnownTxn ws else
    refused expected.Txn ws

-- T, which may be left out; it may be the name `rows`
abbrev pub txn_or_none : Txns → List Word → Read (Option ℕ)
txn_or_none txns ws = if message_or_end ws then Ok (None, ws) else made Some (txn txns ws)

-- N
abbrev pub node_at : List Word → Read Node
node_at ws = gives (word.node (first ws)) expected.Node ws

-- WHY; its page may be left out
abbrev pub reason : List Word → Read ReasonPattern
reason ws =
    if begin_with (codes "frozen") ws then made pattern.Frozen (or_none page (after ws)) else
    if begin_with (codes "gone") ws then made pattern.Gone (or_none page (after ws)) else
    gives (word.lone_reason (first ws)) expected.Reason ws
