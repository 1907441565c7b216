-- A variant is known by its number and what it has beside.
use Rattle.std.proofs.Common.{◌≡◌, ℕ, List, [], ◌∷◌, refl, slice_index_or}
use Rattle.zy_isa.specs.declared.node.Node.{Node}
use Rattle.zy_isa.specs.declared.node.Node.TheVariants.{A, B}
use Rattle.zy_model.specs.Leaf.{Leaf}
use Rattle.zy_model.specs.declared.lock.LockKind.{LockKind}
use Rattle.zy_model.specs.declared.lock.LockKind.TheVariants.{Shared, Exclusive}
use Rattle.zy_model.specs.declared.mode.NodeMode.{NodeMode}
use Rattle.zy_model.specs.declared.mode.NodeMode.TheVariants.{Empty, Normal, SInit, SDual, SFinish, DInit, DDual, DFinish}
use Rattle.zy_model.specs.Messages.{Message, Wire, Ready, Dual, Pull, Page, Finish, Done}
use Rattle.zy_table.specs.declared.outcome.Why.TheVariants as why
use Rattle.zy_table.specs.declared.status.Status.{Status}
use Rattle.zy_table.specs.declared.status.Status.TheVariants.{New, Active, Committed, Aborted}
use Rattle.zy_state_ids.specs.Codes.{node_code, mode_code, lock_code, status_code, status_page, message_code, message_lows, message_leaf}

-- ---- what has a number

abbrev pub node_with : ℕ → Node
node_with n = slice_index_or (A ∷ B ∷ []) n A

abbrev pub lock_with : ℕ → LockKind
lock_with n = slice_index_or (Shared ∷ Exclusive ∷ []) n Shared

abbrev pub mode_with : ℕ → NodeMode
mode_with n = slice_index_or (Empty ∷ Normal ∷ SInit ∷ SDual ∷ SFinish ∷ DInit ∷ DDual ∷ DFinish ∷ []) n Empty

-- the reasons of an abort, from number 3 on, with the page that two of them name
abbrev reasons : ℕ → List Status
reasons p =
    Aborted why.Own ∷ Aborted why.Killed ∷ Aborted why.BadKey ∷ Aborted why.Missing ∷ Aborted why.Duplicate ∷ Aborted why.NoPage
    ∷ Aborted (why.Frozen p) ∷ Aborted (why.Gone p) ∷ []

abbrev pub status_with : ℕ × ℕ → Status
status_with x = slice_index_or (New ∷ Active ∷ Committed ∷ reasons x.1) x.0 New

abbrev pub message_with : ℕ × (List ℕ × Leaf) → Message
message_with x =
    slice_index_or (Wire x.1.0 ∷ Ready ∷ Dual ∷ Pull x.1.1.number ∷ Page x.1.1 ∷ Finish ∷ Done ∷ []) x.0 Ready

-- ---- each is again what it was

pub node_again : (n : Node) → node_with (node_code n) ≡ n
node_again A = refl
node_again B = refl

pub lock_again : (k : LockKind) → lock_with (lock_code k) ≡ k
lock_again Shared = refl
lock_again Exclusive = refl

pub mode_again : (m : NodeMode) → mode_with (mode_code m) ≡ m
mode_again Empty = refl
mode_again Normal = refl
mode_again SInit = refl
mode_again SDual = refl
mode_again SFinish = refl
mode_again DInit = refl
mode_again DDual = refl
mode_again DFinish = refl

pub status_again : (s : Status) → status_with (status_code s, status_page s) ≡ s
status_again New = refl
status_again Active = refl
status_again Committed = refl
status_again (Aborted why.Own) = refl
status_again (Aborted why.Killed) = refl
status_again (Aborted why.BadKey) = refl
status_again (Aborted why.Missing) = refl
status_again (Aborted why.Duplicate) = refl
status_again (Aborted why.NoPage) = refl
status_again (Aborted (why.Frozen p)) = refl
status_again (Aborted (why.Gone p)) = refl

pub message_again : (m : Message) → message_with (message_code m, (message_lows m, message_leaf m)) ≡ m
message_again (Wire lows) = refl
message_again Ready = refl
message_again Dual = refl
message_again (Pull p) = refl
message_again (Page x) = refl
message_again Finish = refl
message_again Done = refl
