-- Which numbers of a state's parts a choice reads, and which it writes.
use Rattle.std.specs.Prelude.{ℕ, suc, ◌+◌, ◌*◌, ◌==◌, ◌&&◌, Bool, if◌then◌else◌, List, [], ◌∷◌, drop, map, slice_index_or}
use Rattle.zy_isa.specs.Integers.{max_u32}
use Rattle.zy_isa.specs.declared.node.Node.{Node}
use Rattle.zy_isa.specs.declared.node.Node.TheVariants.{A, B}
use Rattle.zy_isa.specs.declared.choice.Choice.{Choice}
use Rattle.zy_isa.specs.declared.choice.Choice.TheVariants.{Start, Begin, Kill, Run, Take, Finish, Push}
use Rattle.zy_table.specs.State.{other}
use Rattle.zy_state_ids.specs.Codes.{node_code}
use Rattle.zy_step_cache.specs.declared.places.Read.{Read}
use Rattle.zy_step_cache.specs.declared.places.Scope.{Scope}
use Rattle.zy_step_cache.specs.declared.places.Scope.TheVariants as scope

-- of a state with as many numbers no step is remembered
abbrev pub numbers_end : ℕ
numbers_end = max_u32

-- ---- where a part's number stands among those of a state

abbrev pub node_place : Node → ℕ
node_place A = 0
node_place B = 1

-- that of the link from a node
abbrev pub link_place : Node → ℕ
link_place A = 2
link_place B = 3

abbrev pub commits_place : ℕ
commits_place = 4

-- behind these five
abbrev pub txn_place : ℕ → ℕ
txn_place t = suc (suc (suc (suc (suc t))))

-- the number at a place
abbrev pub at : List ℕ → ℕ → ℕ
at numbers p = slice_index_or numbers p 0

-- ---- what the bytes of a part say

-- a byte of the part that has a number
abbrev pub byte_of : List (List ℕ) → ℕ → ℕ → ℕ
byte_of table n i = slice_index_or (slice_index_or table n []) i 0

-- the mode of a node, as its code
abbrev pub mode_in : List (List ℕ) → ℕ → ℕ
mode_in table n = byte_of table n 0

-- a transaction is active
abbrev pub is_active_in : List (List ℕ) → ℕ → Bool
is_active_in table n = byte_of table n 0 == 1

-- the node of an active transaction, as its code, which is the node's place
abbrev pub home_in : List (List ℕ) → ℕ → ℕ
home_in table n = byte_of table n 2

-- the lowest of some transactions that is active at a node, plus 1, where the first has number t; or 0
abbrev pub lowest_in : List (List ℕ) → Node → ℕ → List ℕ → ℕ
lowest_in table x t [] = 0
lowest_in table x t (n ∷ ns) =
    if is_active_in table n && (home_in table n == node_code x) then suc t else lowest_in table x (suc t) ns

-- ---- what a choice reads and writes

-- four places
abbrev pub four : ℕ → ℕ → ℕ → ℕ → List ℕ
four p q r s = p ∷ q ∷ r ∷ s ∷ []

-- a run: its node, its transaction, and what is in its scope
abbrev pub run_places : Node → ℕ → Scope → List ℕ
run_places x t scope.Own = four (node_place x) (txn_place t) (txn_place t) (txn_place t)
run_places x t scope.Link = four (node_place x) (txn_place t) (link_place x) (link_place x)
run_places x t scope.Commits = four (node_place x) (txn_place t) commits_place commits_place

-- a kill: its transaction, and the node of that one if it is active
abbrev pub kill_places : List (List ℕ) → ℕ → ℕ → List ℕ
kill_places table p n = let home = if is_active_in table n then home_in table n else p in four p home home home

-- the places that a choice writes, some of them twice; it reads what is there
abbrev pub places : List (List ℕ) → Choice → Scope → List ℕ → List ℕ
places table Start k numbers = four (node_place A) (node_place B) (link_place A) (link_place B)
places table (Begin t) k numbers = four (txn_place t) (txn_place t) (txn_place t) (txn_place t)
places table (Kill t) k numbers = kill_places table (txn_place t) (at numbers (txn_place t))
places table (Run x t) k numbers = run_places x t k
places table (Take x) k numbers = four (node_place x) (link_place x) (link_place (other x)) (link_place (other x))
places table (Finish x) k numbers = four (node_place x) (link_place x) (link_place x) (link_place x)
places table (Push x) k numbers = four (node_place x) (link_place x) (link_place x) (link_place x)

abbrev pub scope_code : Scope → ℕ
scope_code scope.Own = 0
scope_code scope.Link = 1
scope_code scope.Commits = 2

-- what a choice reads beside, as a number: the modes, the lowest active transaction, the scope of a run
abbrev pub beside : List (List ℕ) → Choice → Scope → List ℕ → ℕ
beside table (Begin t) k numbers = mode_in table (at numbers (node_place A)) * 256 + mode_in table (at numbers (node_place B))
beside table (Finish x) k numbers = lowest_in table x 0 (drop 5 numbers)
beside table (Run x t) k numbers = scope_code k
beside table c k numbers = 0

-- what is read at four places, and beside
abbrev pub read_at : ℕ → List ℕ → Read
read_at b xs = record { beside = b; first = at xs 0; second = at xs 1; third = at xs 2; fourth = at xs 3 }

-- all that a choice reads
abbrev pub reads : List (List ℕ) → Choice → Scope → List ℕ → Read
reads table c k numbers = read_at (beside table c k numbers) (map (at numbers) (places table c k numbers))
