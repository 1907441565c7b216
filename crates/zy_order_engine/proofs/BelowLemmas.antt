-- The lines below a scenario, as they are read.
use Rattle.std.proofs.Common.{◌≡◌, ℕ, List, Result, Ok, Err, None, subst, arith}
use Rattle.std.specs.declared.vec.Vec.{Vec}
use Rattle.std.specs.declared.alloc.Global.{Global}
use Rattle.zy_isa.specs.Scenario.{Scenario, IsScenario, AreNamed}
use Rattle.zy_text.specs.Cut.{cut}
use Rattle.zy_logs.specs.declared.faults.LogFault.{LogFault}
use Rattle.zy_logs.specs.declared.faults.LogFault.TheVariants.{Refused, Memory}
use Rattle.zy_logs.specs.declared.logs.NumberedLine.{NumberedLine}
use Rattle.zy_logs.specs.declared.txns.Txns.{Txns}
use Rattle.zy_logs.specs.Logs.{choices_of, logs_of, Reads}
use Rattle.zy_logs.proofs.NamedLemmas.{logs_few, logs_named, logs_placed}
use Rattle.zy_engine.specs.Searching.{history_of}
use Rattle.zy_table.specs.Play.{opening}
use Rattle.zy_laws.proofs.walk.PlayPush.{length-entries}
use Rattle.zy_order_engine.specs.declared.faults.BelowFault.{BelowFault}
use Rattle.zy_order_engine.specs.declared.log_format.LogFormat.{LogFormat}
use Rattle.zy_order_engine.specs.Ordering.{below, AreTxnsOf, SaysIn, ReadsBelow, ReadsLines, CanFollow, line_below, room}

-- what was read of a scenario's transactions is what the lines say
reads_below : (gap : ℕ) (text lines : List ℕ) (sc : Scenario) (txns : Txns) → AreTxnsOf sc text txns
    → (r : Result (Vec NumberedLine Global) LogFault) → Reads r (logs_of txns gap (room sc) (line_below text) lines) → ReadsLines gap text lines sc r
reads_below gap text lines sc txns are (Ok v) is = record { txns = txns; are = are; logs = is }
reads_below gap text lines sc txns are (Err (Refused r)) is = record { txns = txns; are = are; logs = is }
reads_below gap text lines sc txns are (Err Memory) is = tt

-- so is what was read with as much room, from a line of that number on
pub read_of : (gap : ℕ) (text lines : List ℕ) (sc : Scenario) (txns : Txns) → AreTxnsOf sc text txns → (most first : ℕ)
    → (r : Result (Vec NumberedLine Global) LogFault) → most ≡ room sc → first ≡ line_below text → Reads r (logs_of txns gap most first lines)
    → ReadsLines gap text lines sc r
read_of gap text lines sc txns are most first r enough number is =
    reads_below gap text lines sc txns are r
    (subst (λ m. Reads r (logs_of txns gap m (line_below text) lines)) enough (subst (λ n. Reads r (logs_of txns gap most n lines)) number is))

-- ---- the parts of an input

-- what was read of the parts of an input is what the input says
pub reads_cut : (f : LogFormat) (gap : ℕ) (input text lines : List ℕ) (sc : Scenario) (r : Result (Vec NumberedLine Global) BelowFault) → text ≡ cut input
    → lines ≡ below input → ReadsBelow f gap text lines sc r → ReadsBelow f gap (cut input) (below input) sc r
reads_cut f gap input text lines sc r front back is =
    subst (λ t. ReadsBelow f gap t (below input) sc r) front (subst (λ l. ReadsBelow f gap text l sc r) back is)

-- ---- what the lines can be

-- they can be logs of steps that follow the scenario's own choices
pub can_follow : (f : LogFormat) (gap : ℕ) (text under : List ℕ) (sc : Scenario) (lines : List NumberedLine) → IsScenario sc → SaysIn f gap text under sc (Ok lines)
    → CanFollow (history_of None sc) gap lines
can_follow f gap text under sc lines is said = let says = said.says in record {
  logs = logs_placed says.txns gap (room sc) (line_below text) said.logs lines says.logs;
  named = subst (λ n. AreNamed n (choices_of lines)) says.are.count
      (logs_named says.txns gap (room sc) (line_below text) said.logs lines says.logs);
  room = omega (
    arith,
    length-entries sc (opening sc) sc.choices,
    is.few_choices,
    logs_few says.txns gap (room sc) (line_below text) said.logs lines says.logs,
  );
}
