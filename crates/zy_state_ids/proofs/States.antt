-- The bytes of a state tell it.
use Rattle.std.proofs.Common.{◌≡◌, ◌∙◌, ℕ, List, [], ◌++◌, refl, ap}
use Rattle.zy_isa.specs.declared.row.Row.{Row}
use Rattle.zy_model.specs.Leaf.{Leaf}
use Rattle.zy_model.specs.declared.lock.Lock.{Lock}
use Rattle.zy_table.specs.declared.entry.CommitRecord.{CommitRecord}
use Rattle.zy_table.specs.State.{State, NodeState, Txn}
use Rattle.zy_state_ids.specs.Codes.{node_code, mode_code, lock_code, status_code, status_page, message_code, message_lows, message_leaf}
use Rattle.zy_state_ids.specs.Packed.{number, numbers, items, row, leaf, lock, message, node_state, txn, commit, packed}
use Rattle.zy_state_ids.proofs.Codecs.{IsCode, both, shown, listed}
use Rattle.zy_state_ids.proofs.NumberBytes.{number_is_code}
use Rattle.zy_state_ids.proofs.Codings.{node_with, node_again, lock_with, lock_again, mode_with, mode_again, status_with, status_again}
use Rattle.zy_state_ids.proofs.Codings.{message_with, message_again}

-- two codes, of which the first has no more than a number
module _ {T : Type 0} (g : T → List ℕ) (cg : IsCode g) where
  behind_number : IsCode (λ (p : ℕ × T). number p.0 ++ g p.1)
  behind_number = both number g number_is_code cg

-- items with their number in front
pub all : {T : Type 0} (f : T → List ℕ) → IsCode f → IsCode (items f)
all f cf = listed f number_is_code cf

numbers_is_code : IsCode numbers
numbers_is_code = all number number_is_code

row_is_code : IsCode row
row_is_code = shown (λ (r : Row). (r.key, r.value)) (λ p. record { key = p.0; value = p.1 }) (λ r. refl) _ (both number number number_is_code number_is_code)

leaf_is_code : IsCode leaf
leaf_is_code = shown (λ (x : Leaf). (x.number, (x.low, x.rows))) (λ p. record { number = p.0; low = p.1.0; rows = p.1.1 }) (λ x. refl) _
    (behind_number _ (behind_number _ (all row row_is_code)))

lock_is_code : IsCode lock
lock_is_code = shown (λ (l : Lock). (l.page, (l.txn, lock_code l.kind))) (λ p. record { page = p.0; txn = p.1.0; kind = lock_with p.1.1 })
    (λ l. ap (λ k. record { page = l.page; txn = l.txn; kind = k }) (lock_again l.kind)) _
    (behind_number _ (behind_number _ number_is_code))

pub message_is_code : IsCode message
message_is_code = shown (λ m. (message_code m, (message_lows m, message_leaf m))) message_with message_again _
    (behind_number _ (both numbers leaf numbers_is_code leaf_is_code))

pub node_state_is_code : IsCode node_state
node_state_is_code = shown (λ (x : NodeState). (mode_code x.mode, (x.lows, (x.pages, (x.asked, x.locks)))))
    (λ p. record { mode = mode_with p.0; lows = p.1.0; pages = p.1.1.0; asked = p.1.1.1.0; locks = p.1.1.1.1 })
    (λ x. ap (λ m. record x { mode = m }) (mode_again x.mode)) _
    (behind_number _ (both numbers _ numbers_is_code (both (items leaf) _ (all leaf leaf_is_code)
    (both numbers (items lock) numbers_is_code (all lock lock_is_code)))))

-- a transaction by its numbers, and its registers and rows
abbrev txn_parts : Txn → ℕ × (ℕ × (ℕ × (ℕ × (List ℕ × (List Row × ℕ)))))
txn_parts x = (status_code x.status, (status_page x.status, (node_code x.node, (x.pc, (x.regs, (x.rows, x.done))))))

-- a transaction of such parts
abbrev txn_with : ℕ × (ℕ × (ℕ × (ℕ × (List ℕ × (List Row × ℕ))))) → Txn
txn_with p = record {
  status = status_with (p.0, p.1.0);
  node = node_with p.1.1.0;
  pc = p.1.1.1.0;
  regs = p.1.1.1.1.0;
  rows = p.1.1.1.1.1.0;
  done = p.1.1.1.1.1.1;
}

txn_again : (x : Txn) → txn_with (txn_parts x) ≡ x
txn_again x = ap (λ s. record x { status = s; node = node_with (node_code x.node) }) (status_again x.status) ∙ ap (λ n. record x { node = n }) (node_again x.node)

pub txn_is_code : IsCode txn
txn_is_code = shown txn_parts txn_with txn_again _
    (behind_number _ (behind_number _ (behind_number _ (behind_number _ (both numbers _ numbers_is_code (both (items row) number (all row row_is_code) number_is_code))))))

pub commit_is_code : IsCode commit
commit_is_code = shown (λ (c : CommitRecord). (c.txn, c.done)) (λ p. record { txn = p.0; done = p.1 }) (λ c. refl) _ (both number number number_is_code number_is_code)

state_is_code : IsCode packed
state_is_code = shown (λ (s : State). (s.a, (s.b, (s.ab, (s.ba, (s.txns, s.commits))))))
    (λ p. record { a = p.0; b = p.1.0; ab = p.1.1.0; ba = p.1.1.1.0; txns = p.1.1.1.1.0; commits = p.1.1.1.1.1 }) (λ s. refl) _
    (both node_state _ node_state_is_code (both node_state _ node_state_is_code (both (items message) _ (all message message_is_code)
    (both (items message) _ (all message message_is_code) (both (items txn) (items commit) (all txn txn_is_code) (all commit commit_is_code))))))

-- states with the same bytes are the same
pub same_state : (s t : State) → packed s ≡ packed t → s ≡ t
same_state s t e = (state_is_code s t [] [] (ap (λ x. x ++ []) e)).0
