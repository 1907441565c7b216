-- The transactions that words name.
use Rattle.std.specs.Prelude.{ℕ, List, Option, Some, None, nat_lt, if◌then◌else◌}
use Rattle.std.specs.Option.{option_and_then}
use Rattle.zy_text.specs.Names.{place_among}
use Rattle.zy_logs.specs.declared.txns.Txns.{Txns}

-- a number of one of `count` transactions
abbrev pub below : ℕ → ℕ → Option ℕ
below count n = if nat_lt n count then Some n else None

-- the number of the transaction that has this name
abbrev pub named : Txns → List ℕ → Option ℕ
named txns w = option_and_then (below txns.count) (place_among txns.names.now w)
