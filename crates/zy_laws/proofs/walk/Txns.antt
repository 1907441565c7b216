-- The transactions of a state where one of them is set.
use Rattle.std.proofs.Common.{◌≡◌, ℕ, zero, suc, List, [], ◌∷◌, true, false, refl, sym, subst, ap, ◌∙◌, inl, inr}
use Rattle.std.specs.Prelude.{◌⊎◌, slice_get, slice_set, map}
use Rattle.std.proofs.lemmas.Bool.{false≢true}
use Rattle.zy_isa.specs.declared.node.Node.{Node}
use Rattle.zy_isa.specs.declared.node.Node.TheVariants.{A, B}
use Rattle.zy_isa.specs.declared.instr.Instr.{Instr}
use Rattle.zy_table.specs.State.{State, View, Txn, other, facing, seen_from}
use Rattle.zy_table.specs.declared.status.Status.{Status}
use Rattle.zy_table.specs.declared.status.Status.TheVariants.{New, Active, Committed, Aborted}
use Rattle.zy_table.specs.Change.{nobody, txn_at, txn_or}
use Rattle.zy_table.specs.Client.{is_active, is_new}
use Rattle.zy_table.specs.Play.{blank}
use Rattle.zy_table.specs.Serial.{is_committed}

-- a transaction runs at n
abbrev pub Stands : Txn → Node → Type 0
Stands x n = (is_active x.status ≡ true) × (x.node ≡ n)

-- transaction t runs at n, in this view
abbrev pub IsAt : View → ℕ → Node → Type 0
IsAt v t n = Stands (txn_at v t) n

-- a transaction that is set and was active is the new one
get_set_self : (xs : List Txn) (t : ℕ) (y : Txn) → is_active (txn_or (slice_get xs t)).status ≡ true → txn_or (slice_get (slice_set xs t y) t) ≡ y
get_set_self [] t y h = absurd (false≢true h)
get_set_self (x ∷ xs) zero y h = refl
get_set_self (x ∷ xs) (suc t) y h = get_set_self xs t y h

-- at the number that is set is the new transaction, or past the end what was there
get_set_either : (xs : List Txn) (t : ℕ) (y : Txn)
    → (txn_or (slice_get (slice_set xs t y) t) ≡ y) ⊎ (txn_or (slice_get (slice_set xs t y) t) ≡ txn_or (slice_get xs t))
get_set_either [] t y = inr refl
get_set_either (x ∷ xs) zero y = inl refl
get_set_either (x ∷ xs) (suc t) y = get_set_either xs t y

-- setting one place leaves the others
get_set_other : {X : Type 0} (i j : ℕ) (xs : List X) (y : X) → (i ≡ j → ⊥) → slice_get (slice_set xs j y) i ≡ slice_get xs i
get_set_other i j [] y h = refl
get_set_other zero zero (x ∷ xs) y h = absurd (h refl)
get_set_other zero (suc j) (x ∷ xs) y h = refl
get_set_other (suc i) zero (x ∷ xs) y h = refl
get_set_other (suc i) (suc j) (x ∷ xs) y h = get_set_other i j xs y (λ e. h (ap suc e))

-- after a step that sets t, which was active, t is what was set
pub at_self : (v w : View) (t : ℕ) (y : Txn) → w.txns ≡ slice_set v.txns t y → is_active (txn_at v t).status ≡ true → txn_at w t ≡ y
unfolding txn_at
at_self v w t y e h = ap (λ xs. txn_or (slice_get xs t)) e ∙ get_set_self v.txns t y h

-- after a step that sets t, t is what was set or what it was
pub at_either : (v w : View) (t : ℕ) (y : Txn) → w.txns ≡ slice_set v.txns t y → (txn_at w t ≡ y) ⊎ (txn_at w t ≡ txn_at v t)
unfolding txn_at
at_either v w t y e = elim (get_set_either v.txns t y) [
  | inl h ↦ inl (ap (λ xs. txn_or (slice_get xs t)) e ∙ h)
  | inr h ↦
      inr (ap (λ xs. txn_or (slice_get xs t)) e ∙ h)
]

-- a step that sets t leaves the others
pub at_other : (v w : View) (t u : ℕ) (y : Txn) → w.txns ≡ slice_set v.txns t y → (u ≡ t → ⊥) → txn_at w u ≡ txn_at v u
unfolding txn_at
at_other v w t u y e far = ap (λ xs. txn_or (slice_get xs u)) e ∙ ap txn_or (get_set_other u t v.txns y far)

-- a step that sets no transaction leaves each
pub at_same : (v w : View) (u : ℕ) → w.txns ≡ v.txns → txn_at w u ≡ txn_at v u
unfolding txn_at
at_same v w u e = ap (λ xs. txn_or (slice_get xs u)) e

-- a transaction is the same from either side
pub at_side : (n : Node) (s : State) (t : ℕ) → txn_at (facing n s) t ≡ txn_or (slice_get s.txns t)
unfolding txn_at
at_side A s t = refl
at_side B s t = refl

-- a transaction is the same in the state and in the view of it
pub at_back : (n : Node) (w : View) (t : ℕ) → txn_or (slice_get (seen_from n w).txns t) ≡ txn_at w t
unfolding txn_at
at_back A w t = refl
at_back B w t = refl

-- every transaction of the opening state is new
pub blank_at : (programs : List (List Instr)) (t : ℕ) → txn_or (slice_get (map blank programs) t) ≡ nobody
blank_at [] t = refl
blank_at (x ∷ xs) zero = refl
blank_at (x ∷ xs) (suc t) = blank_at xs t

-- a new transaction is not active
pub not_new : (s : Status) → is_new s ≡ true → is_active s ≡ false
not_new New h = refl
not_new Active h = absurd (false≢true h)
not_new Committed h = refl
not_new (Aborted w) h = refl

-- a node is not the other one
pub not_both_nodes : (n m : Node) → m ≡ n → m ≡ other n → ⊥
not_both_nodes A m a b = cc
not_both_nodes B m a b = cc

-- an active transaction is not committed
pub active_off : (s : Status) → is_active s ≡ true → is_committed s ≡ false
active_off New h = refl
active_off Active h = refl
active_off Committed h = absurd (false≢true h)
active_off (Aborted w) h = refl

-- a new transaction is not committed
pub new_off : (s : Status) → is_new s ≡ true → is_committed s ≡ false
new_off New h = refl
new_off Active h = refl
new_off Committed h = absurd (false≢true h)
new_off (Aborted w) h = refl

-- who is committed has begun
pub committed_old : (s : Status) → is_committed s ≡ true → is_new s ≡ false
committed_old New h = absurd (false≢true h)
committed_old Active h = refl
committed_old Committed h = refl
committed_old (Aborted w) h = refl

-- who runs has begun
pub active_old : (s : Status) → is_active s ≡ true → is_new s ≡ false
active_old New h = absurd (false≢true h)
active_old Active h = refl
active_old Committed h = refl
active_old (Aborted w) h = refl

-- whoever runs after t ended is another transaction
pub ended_far : (v w : View) (t : ℕ) (y : Txn) → w.txns ≡ slice_set v.txns t y → is_active (txn_at v t).status ≡ true → is_active y.status ≡ false
    → (u : ℕ) (m : Node) → IsAt w u m → u ≡ t → ⊥
ended_far v w t y e on over u m a same =
    false≢true (sym over ∙ subst (λ (x : Txn). is_active x.status ≡ true) (ap (txn_at w) same ∙ at_self v w t y e on) a.0)
