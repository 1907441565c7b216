-- What the bytes of parts say.
use Rattle.std.proofs.Common.{◌≡◌, ◌∙◌, ◌==◌, ◌&&◌, ◌+◌, ℕ, suc, List, [], ◌∷◌, ◌++◌, map, drop, Option, Some, None, slice_get, slice_index_or, Bool, true, false, refl, sym, ap, ap₂, arith, cond}
use Rattle.std.proofs.lemmas.Option.{unwrap_or-slice_get}
use Rattle.std.proofs.Math.Bool.{true≢false}
use Rattle.std.specs.Prelude.{unwrap_or}
use Rattle.zy_isa.specs.declared.node.Node.{Node}
use Rattle.zy_isa.specs.declared.node.Node.TheVariants.{A, B}
use Rattle.zy_model.specs.declared.mode.NodeMode.{NodeMode}
use Rattle.zy_model.specs.declared.mode.NodeMode.TheVariants.{Empty, Normal, SInit, SDual, SFinish, DInit, DDual, DFinish}
use Rattle.zy_table.specs.declared.outcome.Why.TheVariants as why
use Rattle.zy_table.specs.declared.status.Status.{Status}
use Rattle.zy_table.specs.declared.status.Status.TheVariants.{New, Active, Committed, Aborted}
use Rattle.zy_table.specs.State.{NodeState, Txn}
use Rattle.zy_table.specs.Client.{is_active}
use Rattle.zy_table.specs.Run.{same_node}
use Rattle.zy_table.specs.Push.{active_from}
use Rattle.zy_state_ids.specs.Codes.{node_code, mode_code, status_code, status_page}
use Rattle.zy_state_ids.specs.Packed.{number, node_state, txn}
use Rattle.zy_state_ids.specs.Parts.{AreNumbersOf}
use Rattle.zy_step_cache.specs.Places.{byte_of, mode_in, is_active_in, home_in, lowest_in}

-- the bytes of the part that has a number
pub bytes_are : (table : List (List ℕ)) (n : ℕ) (x : List ℕ) → slice_get table n ≡ Some x → slice_index_or table n [] ≡ x
bytes_are table n x e = sym (unwrap_or-slice_get table n []) ∙ ap (λ (o : Option (List ℕ)). unwrap_or o []) e

-- a byte of it
pub byte_is : (table : List (List ℕ)) (n : ℕ) (x : List ℕ) (i : ℕ) → slice_get table n ≡ Some x → byte_of table n i ≡ slice_index_or x i 0
byte_is table n x i e = ap (λ xs. slice_index_or xs i 0) (bytes_are table n x e)

-- ---- the mode of a node

mode_first : (m : NodeMode) (rest : List ℕ) → slice_index_or (number (mode_code m) ++ rest) 0 0 ≡ mode_code m
mode_first Empty rest = refl
mode_first Normal rest = refl
mode_first SInit rest = refl
mode_first SDual rest = refl
mode_first SFinish rest = refl
mode_first DInit rest = refl
mode_first DDual rest = refl
mode_first DFinish rest = refl

pub mode_said : (table : List (List ℕ)) (n : ℕ) (x : NodeState) → slice_get table n ≡ Some (node_state x) → mode_in table n ≡ mode_code x.mode
mode_said table n x e = byte_is table n (node_state x) 0 e ∙ mode_first x.mode _

-- ---- an active transaction, and its node

active_first : (st : Status) (rest : List ℕ) → (slice_index_or (number (status_code st) ++ rest) 0 0 == 1) ≡ is_active st
active_first New rest = refl
active_first Active rest = refl
active_first Committed rest = refl
active_first (Aborted why.Own) rest = refl
active_first (Aborted why.Killed) rest = refl
active_first (Aborted why.BadKey) rest = refl
active_first (Aborted why.Missing) rest = refl
active_first (Aborted why.Duplicate) rest = refl
active_first (Aborted why.NoPage) rest = refl
active_first (Aborted (why.Frozen p)) rest = refl
active_first (Aborted (why.Gone p)) rest = refl

home_third : (st : Status) (n : Node) (rest : List ℕ) → is_active st ≡ true
    → slice_index_or (number (status_code st) ++ (number (status_page st) ++ (number (node_code n) ++ rest))) 2 0 ≡ node_code n
home_third New n rest e = absurd (true≢false (sym e))
home_third Active A rest e = refl
home_third Active B rest e = refl
home_third Committed n rest e = absurd (true≢false (sym e))
home_third (Aborted w) n rest e = absurd (true≢false (sym e))

module _ (table : List (List ℕ)) (n : ℕ) (x : Txn) (said : slice_get table n ≡ Some (txn x)) where
  pub active_said : is_active_in table n ≡ is_active x.status
  active_said = ap (λ b. b == 1) (byte_is table n (txn x) 0 said) ∙ active_first x.status _

  pub home_said : is_active x.status ≡ true → home_in table n ≡ node_code x.node
  home_said e = byte_is table n (txn x) 2 said ∙ home_third x.status x.node _ e

-- ---- the lowest active transaction at a node

codes_tell : (m n : Node) → (node_code m == node_code n) ≡ same_node m n
codes_tell A A = refl
codes_tell A B = refl
codes_tell B A = refl
codes_tell B B = refl

-- a transaction is active at a node
pub at_said : (table : List (List ℕ)) (n : ℕ) (x : Txn) (m : Node) → slice_get table n ≡ Some (txn x)
    → (is_active_in table n && (home_in table n == node_code m)) ≡ (is_active x.status && same_node x.node m)
at_said table n x m said = by_test (is_active x.status) refl
  where
    by_test : (b : Bool) → is_active x.status ≡ b
        → (is_active_in table n && (home_in table n == node_code m)) ≡ (is_active x.status && same_node x.node m)
    by_test true e =
        ap₂ (λ b c. b && c) (active_said table n x said)
        (ap (λ k. k == node_code m) (home_said table n x said e) ∙ codes_tell x.node m)
    by_test false e =
        ap (λ b. b && (home_in table n == node_code m)) (active_said table n x said ∙ e) ∙ ap (λ b. b && same_node x.node m) (sym e)

-- the number of one that may not be there
abbrev pub code_of : Option ℕ → ℕ
code_of None = 0
code_of (Some t) = suc t

pub lowest_said : (table : List (List ℕ)) (m : Node) (t : ℕ) (ns : List ℕ) (xs : List Txn) → AreNumbersOf table ns (map txn xs)
    → lowest_in table m t ns ≡ code_of (active_from m t xs)
lowest_said table m t [] [] e = refl
lowest_said table m t [] (x ∷ xs) e = cc
lowest_said table m t (n ∷ ns) [] e = cc
lowest_said table m t (n ∷ ns) (x ∷ xs) e =
    let first : slice_get table n ≡ Some (txn x) = ap (λ os. slice_index_or os 0 None) e in
    let behind : AreNumbersOf table ns (map txn xs) = ap (drop 1) e in
    let next : suc t ≡ t + 1 = omega arith in
    ap (λ b. cond b (suc t) (lowest_in table m (suc t) ns)) (at_said table n x m first)
    ∙ ap (λ k. cond (is_active x.status && same_node x.node m) (suc t) k) (lowest_said table m (suc t) ns xs behind
    ∙ ap (λ k. code_of (active_from m k xs)) next)
    ∙ sym (code_cond (is_active x.status && same_node x.node m) t (active_from m (t + 1) xs))
  where
    code_cond : (b : Bool) (k : ℕ) (o : Option ℕ) → code_of (cond b (Some k) o) ≡ cond b (suc k) (code_of o)
    code_cond true k o = refl
    code_cond false k o = refl

-- the number tells which
pub code_tells : (x y : Option ℕ) → code_of x ≡ code_of y → x ≡ y
code_tells None None e = refl
code_tells None (Some t) e = absurd (omega (arith, e))
code_tells (Some t) None e = absurd (omega (arith, e))
code_tells (Some t) (Some u) e = let same : t ≡ u = omega (arith, e) in ap (λ k. Some k) same
