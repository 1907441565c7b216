-- A state as the numbers of its parts.
use Rattle.std.specs.Prelude.{◌≡◌, ℕ, List, [], ◌∷◌, ◌++◌, map, Some, slice_get}
use Rattle.zy_table.specs.State.{State}
use Rattle.zy_steps.specs.declared.part.StatePart.{StatePart}
use Rattle.zy_steps.specs.Alike.{txns_part}
use Rattle.zy_state_ids.specs.Packed.{node_state, items, message, commit, txn}

-- the parts of a state that are no transactions, each as bytes: the nodes, the links from A and from B, the commits
abbrev pub shared_parts : State → List (List ℕ)
shared_parts s =
    node_state s.a ∷ node_state s.b ∷ items message s.ab ∷ items message s.ba ∷ items commit s.commits ∷ []

-- what counts of each transaction, as bytes
abbrev pub txn_parts : StatePart → State → List (List ℕ)
txn_parts part s = map txn (txns_part part s.txns)

-- all parts of a state
abbrev pub parts : StatePart → State → List (List ℕ)
parts part s = shared_parts s ++ txn_parts part s

-- a table gives these parts for these numbers
abbrev pub AreNumbersOf : List (List ℕ) → List ℕ → List (List ℕ) → Type 0
AreNumbersOf table numbers xs = map (slice_get table) numbers ≡ map Some xs

-- a table gives the parts of a state for these numbers
abbrev pub IsNumbered : List (List ℕ) → StatePart → List ℕ → State → Type 0
IsNumbered table part numbers s = AreNumbersOf table numbers (parts part s)

-- each part of a table has its number in another
abbrev pub Keeps : List (List ℕ) → List (List ℕ) → Type 0
Keeps old new = (i : ℕ) (x : List ℕ) → slice_get old i ≡ Some x → slice_get new i ≡ Some x
