-- The kind of fault that a word is, by what may stand in its place.
use Rattle.zy_logs.specs.declared.expected.ExpectedInLog.{ExpectedInLog}
use Rattle.zy_logs.specs.declared.expected.ExpectedInLog.TheVariants.{Number, AtMost, HigherKey, FewerRows, KnownTxn, OutcomeOf, FewerLines}
use Rattle.zy_logs.specs.declared.expected.FaultKind.{FaultKind}
use Rattle.zy_logs.specs.declared.expected.FaultKind.TheVariants as kind

abbrev pub kind_of : ExpectedInLog → FaultKind
kind_of Number = kind.Number
kind_of (AtMost most) = kind.Range
kind_of HigherKey = kind.Order
kind_of FewerRows = kind.Count
kind_of KnownTxn = kind.Label
kind_of (OutcomeOf choice) = kind.Outcome
kind_of FewerLines = kind.Count
kind_of _ = kind.Word
