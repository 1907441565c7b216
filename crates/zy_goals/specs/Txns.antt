-- Properties of transactions, and the order of commits.
use Rattle.std.specs.Prelude.{ℕ, ◌==◌, ◌&&◌, not, nat_lt, Bool, true, false, List, [], ◌∷◌, length}
use Rattle.std.specs.Prelude.{if◌then◌else◌, is_some, slice_get, Option}
use Rattle.std.specs.List.{list_any, list_all}
use Rattle.zy_isa.specs.Rows.{get_row}
use Rattle.zy_table.specs.declared.status.Status.{Status}
use Rattle.zy_table.specs.declared.status.Status.TheVariants as status
use Rattle.zy_table.specs.declared.entry.CommitRecord.{CommitRecord}
use Rattle.zy_table.specs.State.{Txn}
use Rattle.zy_table.specs.Change.{txn_or}
use Rattle.zy_table.specs.Client.{is_new, is_active}
use Rattle.zy_table.specs.Run.{same_node}
use Rattle.zy_table.specs.Serial.{is_committed}
use Rattle.zy_patterns.specs.declared.patterns.ReasonPattern.{ReasonPattern}
use Rattle.zy_patterns.specs.Patterns.{allows_reason}
use Rattle.zy_goals.specs.declared.goal.Selector.{Selector}
use Rattle.zy_goals.specs.declared.goal.Selector.TheVariants as selector
use Rattle.zy_goals.specs.declared.goal.TxnProperty.{TxnProperty}
use Rattle.zy_goals.specs.declared.goal.TxnProperty.TheVariants as property

-- it is aborted, for this reason if one is asked for
abbrev pub is_aborted : Option ReasonPattern → Status → Bool
is_aborted r status.New = false
is_aborted r status.Active = false
is_aborted r status.Committed = false
is_aborted r (status.Aborted w) = allows_reason r w

-- a transaction has a property
abbrev pub has_property : TxnProperty → Txn → Bool
has_property property.New x = is_new x.status
has_property property.Active x = is_active x.status
has_property property.Committed x = is_committed x.status
has_property (property.Aborted r) x = is_aborted r x.status
has_property (property.At n) x = not (is_new x.status) && same_node x.node n
has_property (property.Wrote k) x = is_some (get_row x.rows k)

-- the selected transactions have a property: at least one of all, each, or the one with this number, if it is there
abbrev pub selected_have : Selector → TxnProperty → List Txn → Bool
selected_have selector.Any x txns = list_any (has_property x) txns
selected_have selector.All x txns = list_all (has_property x) txns
selected_have (selector.One t) x txns = nat_lt t (length txns) && has_property x (txn_or (slice_get txns t))

-- t and u are both committed, t earlier than u
abbrev pub committed_before : ℕ → ℕ → List CommitRecord → Bool
committed_before t u [] = false
committed_before t u (c ∷ cs) =
    if c.txn == t then list_any (λ (d : CommitRecord). d.txn == u) cs else committed_before t u cs
