-- A state as bytes.
use Rattle.std.specs.Prelude.{ℕ, ◌/◌, ◌%◌, nat_lt, List, [], ◌∷◌, ◌++◌, length, if◌then◌else◌}
use Rattle.std.specs.List.{flat_map}
use Rattle.zy_isa.specs.declared.row.Row.{Row}
use Rattle.zy_model.specs.Leaf.{Leaf}
use Rattle.zy_model.specs.declared.lock.Lock.{Lock}
use Rattle.zy_table.specs.declared.entry.CommitRecord.{CommitRecord}
use Rattle.zy_table.specs.State.{State, NodeState, Txn, Message}
use Rattle.zy_state_ids.specs.Codes.{node_code, mode_code, lock_code, status_code, status_page, message_code, message_lows, message_leaf}

-- two bytes, and four, from the highest down
abbrev pub half : ℕ → List ℕ
half n = n / 256 ∷ n % 256 ∷ []

abbrev pub quad : ℕ → List ℕ
quad n = half (n / 65536) ++ half (n % 65536)

-- a number that two bytes do not hold: eight
abbrev pub long : ℕ → List ℕ
long n = 255 ∷ quad (n / 4294967296) ++ quad (n % 4294967296)

-- a number: one byte, or two with 254 in front, or eight with 255 in front
abbrev pub number : ℕ → List ℕ
number n = if nat_lt n 254 then n ∷ [] else if nat_lt n 65536 then 254 ∷ half n else long n

-- how many items, and each of them
abbrev pub items : {T : Type 0} → (T → List ℕ) → List T → List ℕ
items f xs = number (length xs) ++ flat_map f xs

abbrev pub numbers : List ℕ → List ℕ
numbers xs = items number xs

abbrev pub row : Row → List ℕ
row r = number r.key ++ number r.value

abbrev pub leaf : Leaf → List ℕ
leaf x = number x.number ++ (number x.low ++ items row x.rows)

abbrev pub lock : Lock → List ℕ
lock l = number l.page ++ (number l.txn ++ number (lock_code l.kind))

abbrev pub message : Message → List ℕ
message m = number (message_code m) ++ (numbers (message_lows m) ++ leaf (message_leaf m))

abbrev pub node_state : NodeState → List ℕ
node_state x =
    number (mode_code x.mode) ++ (numbers x.lows ++ (items leaf x.pages ++ (numbers x.asked ++ items lock x.locks)))

abbrev pub txn : Txn → List ℕ
txn x =
    number (status_code x.status) ++ (number (status_page x.status) ++ (number (node_code x.node) ++ (number x.pc
    ++ (numbers x.regs ++ (items row x.rows ++ number x.done)))))

abbrev pub commit : CommitRecord → List ℕ
commit c = number c.txn ++ number c.done

abbrev pub packed : State → List ℕ
packed s =
    node_state s.a ++ (node_state s.b ++ (items message s.ab ++ (items message s.ba ++ (items txn s.txns ++ items commit s.commits))))
