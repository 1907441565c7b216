-- Choices that nothing comes of, by a byte or two of the parts that they read.
use Rattle.std.specs.Prelude.{ℕ, ◌==◌, ◌&&◌, not, nat_lt, Bool, true, false, List, length}
use Rattle.zy_isa.specs.declared.choice.Choice.{Choice}
use Rattle.zy_isa.specs.declared.choice.Choice.TheVariants.{Start, Begin, Kill, Run, Take, Finish, Push}
use Rattle.zy_model.specs.declared.mode.NodeMode.{NodeMode}
use Rattle.zy_model.specs.declared.mode.NodeMode.TheVariants.{Empty, Normal, SDual, SFinish}
use Rattle.zy_state_ids.specs.Codes.{mode_code, node_code}
use Rattle.zy_table.specs.declared.outcome.Outcome.{Outcome}
use Rattle.zy_table.specs.declared.outcome.Outcome.TheVariants.{BadMode, Idle, Elsewhere, NoMessage}
use Rattle.zy_table.specs.State.{other}
use Rattle.zy_step_cache.specs.Places.{at, byte_of, home_in, is_active_in, link_place, mode_in, node_place, txn_place}

-- a transaction has not begun
abbrev pub is_new_in : List (List ℕ) → ℕ → Bool
is_new_in table n = byte_of table n 0 == 0

-- a link is empty: its part begins with how many messages there are
abbrev pub is_empty_in : List (List ℕ) → ℕ → Bool
is_empty_in table n = byte_of table n 0 == 0

-- a node is in this mode
abbrev pub is_mode_in : List (List ℕ) → ℕ → NodeMode → Bool
is_mode_in table n mode = mode_in table n == mode_code mode

-- a migration may start from one node to another
abbrev pub may_start_in : List (List ℕ) → (from to : ℕ) → Bool
may_start_in table from to = is_mode_in table from Normal && is_mode_in table to Empty

-- there is a transaction with this number
abbrev pub has_txn : List ℕ → ℕ → Bool
has_txn numbers t = nat_lt (txn_place t) (length numbers)

-- nothing comes of a begin of a transaction that has begun, of a kill of one that is not active, of a run of one that is not
-- active at the run's node, of a take from an empty link, of a start, a finish and a push in another mode
abbrev pub rests : List (List ℕ) → Choice → List ℕ → Bool
rests table Start numbers = not (may_start_in table (at numbers 0) (at numbers 1)) && not (may_start_in table (at numbers 1) (at numbers 0))
rests table (Begin t) numbers = has_txn numbers t && not (is_new_in table (at numbers (txn_place t)))
rests table (Kill t) numbers = has_txn numbers t && not (is_active_in table (at numbers (txn_place t)))
rests table (Run x t) numbers =
    has_txn numbers t && not (is_active_in table (at numbers (txn_place t)) && (home_in table (at numbers (txn_place t)) == node_code x))
rests table (Take x) numbers = is_empty_in table (at numbers (link_place (other x)))
rests table (Finish x) numbers = not (is_mode_in table (at numbers (node_place x)) SDual)
rests table (Push x) numbers = not (is_mode_in table (at numbers (node_place x)) SFinish)

-- nothing came of a step
abbrev pub is_idle : Outcome → Bool
is_idle BadMode = true
is_idle Idle = true
is_idle Elsewhere = true
is_idle NoMessage = true
is_idle o = false
