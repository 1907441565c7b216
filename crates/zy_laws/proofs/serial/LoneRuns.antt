-- A lone run over a database that it leaves as it is: what it wrote is in rows of its own.
use Rattle.std.proofs.Common.{Bool, List, [], ap, arith, false, inl, inr, refl, suc, sym, true, zero, ℕ, ◌%◌, ◌++◌, ◌+◌, ◌^◌, ◌∙◌, ◌∷◌, ◌≡◌, ◌≤◌}
use Rattle.std.specs.Prelude.{None, Option, Some, if◌then◌else◌, is_some, nat_lt, not, slice_get, unwrap_or, ◌==◌}
use Rattle.std.specs.FinMap.{get, get-insert, insert, nat_cmp-IsAntisymmetric, same_map}
use Rattle.std.specs.Ordering.{eq_by_cmp, nat_cmp}
use Rattle.std.proofs.Math.Nat.{eq-or-lt_of_le}
use Rattle.std.proofs.lemmas.Bool.{cases_eq, cond_both, eq-eqb, eqb-false, eqb-true, ne_eqb, or_left, or_right}
use Rattle.std.proofs.lemmas.Bool.Decides.{nat_tests}
use Rattle.std.proofs.lemmas.Cmp.{nat_cmp_total}
use Rattle.zy_isa.specs.Rows.{get_row, put_row}
use Rattle.zy_isa.specs.declared.instr.Instr.{Instr}
use Rattle.zy_isa.specs.declared.instr.Reg.{Reg}
use Rattle.zy_isa.specs.declared.row.Row.{Row}
use Rattle.zy_table.specs.declared.access.Access.{Access}
use Rattle.zy_table.specs.declared.access.Access.TheVariants.{Reads, Writes, Inserts}
use Rattle.zy_table.specs.Change.{fresh_registers, with_reg}
use Rattle.zy_table.specs.Database.{Map, laid}
use Rattle.zy_table.specs.declared.effect.Effect.{Effect}
use Rattle.zy_table.specs.declared.effect.Effect.TheVariants.{Sets, Jumps, Accesses, Sums, Commits, Aborts}
use Rattle.zy_table.specs.Effects.{effect_of}
use Rattle.zy_table.specs.Numbers.{has}
use Rattle.zy_table.specs.Ranges.{range, total}
use Rattle.zy_table.specs.Serial.{Alone, alone, alone_effect, alone_instr, alone_step, gives_up, goes_on, value_in}
use Rattle.zy_table.specs.State.{Txn, other}
use Rattle.zy_table.proofs.RangeLists.{has_back, has_front, total_same}
use Rattle.zy_isa.specs.Limits.{max_key}

-- a lone run: registers, program counter, rows of its own, the keys that it touched, whether it has ended
pub record Lone : Type 0 where
  pub regs : List ℕ
  pub pc : ℕ
  pub rows : List Row
  pub keys : List ℕ  -- those it has touched
  pub over : Bool

-- a transaction as a lone run that has touched these keys
abbrev pub lone_at : Txn → List ℕ → Lone
lone_at x keys = record { regs = x.regs; pc = x.pc; rows = x.rows; keys = keys; over = false }

-- the lone run has ended
abbrev pub ended : Lone → Lone
ended x = record x { over = true }

-- what a lone run sees at a key
abbrev pub or_else : Option ℕ → Option ℕ → Option ℕ
or_else (Some v) o = Some v
or_else None o = o

-- its own row at a key, else the database's
abbrev pub sees : Map → Lone → ℕ → Option ℕ
sees d x k = or_else (get_row x.rows k) (get d k)

-- a read into r
abbrev pub reads : Map → Reg → ℕ → Lone → Lone
reads d r k x = record x { regs = with_reg r (unwrap_or (sees d x k) 0) x.regs; pc = x.pc + 1; keys = k ∷ x.keys }

-- a row of its own more
abbrev pub stores : ℕ → ℕ → Lone → Lone
stores k v x = record x { pc = x.pc + 1; rows = put_row k v x.rows; keys = k ∷ x.keys }

-- a sum touches each of its keys, with or without a row
abbrev pub value_seen : Map → Lone → ℕ → ℕ
value_seen d x k = unwrap_or (sees d x k) 0

-- the sum over these keys into r
abbrev pub sums : Map → Reg → List ℕ → Lone → Lone
sums d r ks x = record x { regs = with_reg r (total (value_seen d x) ks % 2 ^ 32) x.regs; pc = x.pc + 1; keys = ks ++ x.keys }

-- by two tests: there is no key, a key is none
abbrev pub sums_or_ends : Map → Reg → List ℕ → Bool → Bool → Lone → Lone
sums_or_ends d r ks none far x =
    if none then record x { regs = with_reg r 0 x.regs; pc = x.pc + 1 } else if far then ended x else sums d r ks x

-- an access at a key
abbrev pub lone_access : Map → Access → ℕ → Lone → Lone
lone_access d (Reads r) k x = reads d r k x
lone_access d (Writes v) k x = if is_some (sees d x k) then stores k v x else ended x
lone_access d (Inserts v) k x = if not (is_some (sees d x k)) then stores k v x else ended x

-- what an effect does to a lone run
unfoldable pub lone_effect : Map → Effect → Lone → Lone
lone_effect d (Sets r v) x = record x { regs = with_reg r v x.regs; pc = x.pc + 1 }
lone_effect d (Jumps taken to) x = record x { pc = if taken then to else x.pc + 1 }
lone_effect d (Accesses i k) x = if nat_lt max_key k then ended x else lone_access d i k x
lone_effect d (Sums r a b) x = sums_or_ends d r (range a b) (nat_lt b a) (nat_lt max_key b) x
lone_effect d Commits x = ended x
lone_effect d Aborts x = ended x

-- what the next instruction does, if there is one
unfoldable pub lone_instr : Map → Option Instr → Lone → Lone
lone_instr d None x = ended x
lone_instr d (Some i) x = lone_effect d (effect_of i x.regs) x

-- one step of a lone run, which stays where it has ended
unfoldable pub lone_step : Map → List Instr → Lone → Lone
lone_step d program x = if x.over then x else lone_instr d (slice_get program x.pc) x

-- a lone run at its begin
abbrev pub fresh : Lone
fresh = record { regs = fresh_registers; pc = 0; rows = []; keys = []; over = false }

-- a lone run of n steps
abbrev pub lone : Map → List Instr → ℕ → Lone
lone d program zero = fresh
lone d program (suc n) = lone_step d program (lone d program n)

-- two databases agree on these keys
pub record Agree (d d' : Map) (keys : List ℕ) : Type 0 where
  pub each : (k : ℕ) → has keys k ≡ true → get d' k ≡ get d k

-- agreement on the keys behind the first
agree_rest : (d d' : Map) (k : ℕ) (keys : List ℕ) → Agree d d' (k ∷ keys) → Agree d d' keys
agree_rest d d' k keys a = record { each = λ q h. a.each q (or_right _ _ h) }

-- agreement on the first key
agree_first : (d d' : Map) (k : ℕ) (keys : List ℕ) → Agree d d' (k ∷ keys) → get d' k ≡ get d k
agree_first d d' k keys a = a.each k (or_left _ _ (eq-eqb k k refl))

-- agreement on the first of two lists of keys
pub agree_front : (d d' : Map) (ks keys : List ℕ) → Agree d d' (ks ++ keys) → Agree d d' ks
agree_front d d' ks keys a = record { each = λ q h. a.each q (has_front ks keys q h) }

-- agreement on the second of two lists of keys
pub agree_back : (d d' : Map) (ks keys : List ℕ) → Agree d d' (ks ++ keys) → Agree d d' keys
agree_back d d' ks keys a = record { each = λ q h. a.each q (has_back ks keys q h) }

-- what x comes to over either database, if it ends nothing: agreement after it gives agreement before it, and the same result
pub record Alike (d d' : Map) (x y y' : Lone) : Type 0 where
  pub before : Agree d d' x.keys
  pub same : y' ≡ y

-- a run that has ended has not gone on
over_absurd : {P : Type 0} → true ≡ false → P
over_absurd e = cc

-- by cases of a test, with the result known to go on
alike_put : (d d' : Map) (e : Effect) (x : Lone) (k v : ℕ) (far : Bool) (there : Option ℕ → Bool)
    → ((m : Map) → lone_effect m e x ≡ (if far then ended x else if there (sees m x k) then stores k v x else ended x))
    → (lone_effect d e x).over ≡ false → Agree d d' (lone_effect d e x).keys → Alike d d' x (lone_effect d e x) (lone_effect d' e x)
alike_put d d' e x k v far there form on a =
    let on' : (if far then ended x else if there (sees d x k) then stores k v x else ended x).over ≡ false = rw form at on in
    let a' : Agree d d' (if far then ended x else if there (sees d x k) then stores k v x else ended x).keys = rw form at a in
    let both : Agree d d' (k ∷ x.keys) = cond_both far (ended x) (if there (sees d x k) then stores k v x else ended x) (λ y. y.over ≡ false → Agree d d' y.keys
    → Agree d d' (k ∷ x.keys))
    (λ _ o _. over_absurd o)
    (λ _. cond_both (there (sees d x k)) (stores k v x) (ended x) (λ y. y.over ≡ false → Agree d d' y.keys → Agree d d' (k ∷ x.keys)) (λ _ _ h. h)
    (λ _ o _. over_absurd o)) on' a' in
    let same : sees d' x k ≡ sees d x k = ap (or_else (get_row x.rows k)) (agree_first d d' k x.keys both) in
    record {
      before = agree_rest d d' k x.keys both;
      same = form d' ∙ ap (λ o. if far then ended x else if there o then stores k v x else ended x) same
          ∙ sym (form d);
    }

-- a read comes to the same
alike_read : (d d' : Map) (r : Reg) (k : ℕ) (x : Lone) → (lone_effect d (Accesses (Reads r) k) x).over ≡ false
    → Agree d d' (lone_effect d (Accesses (Reads r) k) x).keys → Alike d d' x (lone_effect d (Accesses (Reads r) k) x) (lone_effect d' (Accesses (Reads r) k) x)
unfolding lone_effect
alike_read d d' r k x on a =
    let both : Agree d d' (k ∷ x.keys) = cond_both (nat_lt max_key k) (ended x) (reads d r k x) (λ y. y.over ≡ false → Agree d d' y.keys
    → Agree d d' (k ∷ x.keys)) (λ _ o _. over_absurd o) (λ _ _ h. h) on a in
    let same : sees d' x k ≡ sees d x k = ap (or_else (get_row x.rows k)) (agree_first d d' k x.keys both) in
    record {
      before = agree_rest d d' k x.keys both;
      same = ap (λ o. if nat_lt max_key k then ended x
          else record x { regs = with_reg r (unwrap_or o 0) x.regs; pc = x.pc + 1; keys = k ∷ x.keys }) same;
    }

-- a sum over keys that agree is the same
sums_alike : (d d' : Map) (r : Reg) (ks : List ℕ) (x : Lone) → Agree d d' ks → sums d' r ks x ≡ sums d r ks x
sums_alike d d' r ks x a =
    ap (λ z. record x { regs = with_reg r (z % 2 ^ 32) x.regs; pc = x.pc + 1; keys = ks ++ x.keys })
    (total_same (value_seen d' x) (value_seen d x) ks (λ k h. ap (λ o. unwrap_or (or_else (get_row x.rows k) o) 0) (a.each k h)))

-- a sum comes to the same
alike_sum : (d d' : Map) (r : Reg) (ks : List ℕ) (none far : Bool) (x : Lone) → (sums_or_ends d r ks none far x).over ≡ false
    → Agree d d' (sums_or_ends d r ks none far x).keys → Agree d d' x.keys × (sums_or_ends d' r ks none far x ≡ sums_or_ends d r ks none far x)
alike_sum d d' r ks true far x on a = (record { each = a.each }, refl)
alike_sum d d' r ks false true x on a = over_absurd on
alike_sum d d' r ks false false x on a = (agree_back d d' ks x.keys a, sums_alike d d' r ks x (agree_front d d' ks x.keys a))

-- each effect comes to the same
alike_effect : (d d' : Map) (e : Effect) (x : Lone) → (lone_effect d e x).over ≡ false → Agree d d' (lone_effect d e x).keys
    → Alike d d' x (lone_effect d e x) (lone_effect d' e x)
unfolding lone_effect
alike_effect d d' (Sets r v) x on a = record { before = record { each = a.each }; same = refl }
alike_effect d d' (Jumps taken to) x on a = record { before = record { each = a.each }; same = refl }
alike_effect d d' (Accesses (Reads r) k) x on a = alike_read d d' r k x on a
alike_effect d d' (Accesses (Writes v) k) x on a = alike_put d d' (Accesses (Writes v) k) x k v (nat_lt max_key k) is_some (λ m. refl) on a
alike_effect d d' (Accesses (Inserts v) k) x on a = alike_put d d' (Accesses (Inserts v) k) x k v (nat_lt max_key k) (λ o. not (is_some o)) (λ m. refl) on a
alike_effect d d' (Sums r first last) x on a =
    let h = alike_sum d d' r (range first last) (nat_lt last first) (nat_lt max_key last) x on a in
    record { before = h.0; same = h.1 }
alike_effect d d' Commits x on a = over_absurd on
alike_effect d d' Aborts x on a = over_absurd on

-- each instruction comes to the same
alike : (d d' : Map) (i : Option Instr) (x : Lone) → (lone_instr d i x).over ≡ false → Agree d d' (lone_instr d i x).keys
    → Alike d d' x (lone_instr d i x) (lone_instr d' i x)
unfolding lone_instr
alike d d' None x on a = over_absurd on
alike d d' (Some i) x on a = alike_effect d d' (effect_of i x.regs) x on a

-- a run that has not ended had not ended before its last instruction
before_step : (d : Map) (program : List Instr) (x : Lone) → (lone_step d program x).over ≡ false → x.over ≡ false
unfolding lone_step
before_step d program x on =
    cond_both x.over x (lone_instr d (slice_get program x.pc) x) (λ y. y.over ≡ false → x.over ≡ false) (λ _ o. o) (λ h _. h) on

-- a run that has not ended does its next instruction
stepped : (d : Map) (program : List Instr) (x : Lone) → x.over ≡ false → lone_step d program x ≡ lone_instr d (slice_get program x.pc) x
unfolding lone_step
stepped d program x on = ap (λ b. if b then x else lone_instr d (slice_get program x.pc) x) on

-- a lone run depends on the keys that it touched alone
pub lone_alike : (d d' : Map) (program : List Instr) (n : ℕ) → (lone d program n).over ≡ false → Agree d d' (lone d program n).keys
    → lone d' program n ≡ lone d program n
lone_alike d d' program zero on a = refl
lone_alike d d' program (suc n) on a =
    let x = lone d program n in
    let on_before = before_step d program x on in
    let is = stepped d program x on_before in
    let h = alike d d' (slice_get program x.pc) x (rw is at on) (rw is at a) in
    let e = lone_alike d d' program n on_before h.before in
    ap (lone_step d' program) e ∙ stepped d' program x on_before ∙ h.same ∙ sym is

-- and so does each part of it
pub lone_earlier : (d d' : Map) (program : List Instr) (j n : ℕ) → j ≤ n → (lone d program n).over ≡ false → Agree d d' (lone d program n).keys
    → lone d' program j ≡ lone d program j
lone_earlier d d' program j zero le on a =
    let none : j ≡ zero = omega (arith, le) in ap (lone d' program) none ∙ sym (ap (lone d program) none)
lone_earlier d d' program j (suc n) le on a = elim (eq-or-lt_of_le le) [
  | inl same ↦ ap (lone d' program) same ∙ lone_alike d d' program (suc n) on a ∙ sym (ap (lone d program) same)
  | inr less ↦
      let x = lone d program n in
      let on_before = before_step d program x on in
      let is = stepped d program x on_before in
      let h = alike d d' (slice_get program x.pc) x (rw is at on) (rw is at a) in
      lone_earlier d d' program j n (omega (arith, less)) on_before h.before
]

-- the order's test of equal keys
tied : (q k : ℕ) → eq_by_cmp nat_cmp q k ≡ (k == q)
tied q k = grind (arith, nat_tests)

-- a map with a value more has it at its key, and else what it had
get-insert_at : (m : Map) (k v q : ℕ) → get (insert m k v) q ≡ (if k == q then Some v else get m q)
get-insert_at m k v q = get-insert nat_cmp_total m k v q ∙ ap (λ b. if b then Some v else get m q) (tied q k)

-- what a map with rows over it has at a key
pub get-laid : (rows : List Row) (m : Map) (k : ℕ) → get (laid rows m) k ≡ or_else (get_row rows k) (get m k)
get-laid [] m k = refl
get-laid (r ∷ rows) m k =
    get-insert_at (laid rows m) r.key r.value k ∙ cond_both (r.key == k) (Some r.value) (get_row rows k)
    (λ o. (if r.key == k then Some r.value else get (laid rows m) k) ≡ or_else o (get m k))
    (λ h. ap (λ b. if b then Some r.value else get (laid rows m) k) h)
    (λ h. ap (λ b. if b then Some r.value else get (laid rows m) k) h ∙ get-laid rows m k)

-- a row over another one of its key
put_over : (k v key value : ℕ) (o : Option ℕ) (q : ℕ) → k ≡ key
    → (if k == q then Some v else o) ≡ (if k == q then Some v else (if key == q then Some value else o))
put_over k v key value o q same =
    cond_both (k == q) (Some v) o (λ y. y ≡ (if k == q then Some v else (if key == q then Some value else o)))
    (λ h. rw h)
    (λ h. rw h (let e : (key == q) ≡ false = rw (← same) h in rw e))

-- rows of two keys may change places
put_past : (k v key value : ℕ) (o : Option ℕ) (q : ℕ) → (k ≡ key → ⊥)
    → (if key == q then Some value else (if k == q then Some v else o)) ≡ (if k == q then Some v else (if key == q then Some value else o))
put_past k v key value o q other =
    elim (cases_eq key q) [
      | inl here ↦ let e : (key == q) ≡ true = eq-eqb _ _ here in let n : (k == q) ≡ false = ne_eqb _ _ (λ h. other (h ∙ sym here)) in rw (e, n)
      | inr far ↦ let e : (key == q) ≡ false = ne_eqb _ _ far in rw e
    ]

-- rows with one more have it at its key, and else what they had
pub get_row-put : (k v : ℕ) (rows : List Row) (q : ℕ) → get_row (put_row k v rows) q ≡ (if k == q then Some v else get_row rows q)
get_row-put k v [] q = refl
get_row-put k v (r ∷ rows) q =
    cond_both (k == r.key) _ _ (λ y. get_row y q ≡ (if k == q then Some v else get_row (r ∷ rows) q))
    (λ h. let same : k ≡ r.key = eqb-true _ _ h in put_over k v r.key r.value (get_row rows q) q same)
    (λ h. cond_both (nat_lt k r.key) _ _ (λ y. get_row y q ≡ (if k == q then Some v else get_row (r ∷ rows) q)) (λ _. refl)
    (λ _. let other : k ≡ r.key → ⊥ = eqb-false _ _ h in ap (λ o. if r.key == q then Some r.value else o) (get_row-put k v rows q)
    ∙ put_past k v r.key r.value (get_row rows q) q other))

-- a lone run on the map itself does the same, with its rows laid over the map
pub record OnMap (m : Map) (x : Lone) (y : Alone) : Type 0 where
  pub map : y.map ≡ laid x.rows m
  pub regs : y.regs ≡ x.regs
  pub pc : y.pc ≡ x.pc
  pub over : y.over ≡ false

-- a value more is found first
pub or_else_put : (b : Bool) (v : ℕ) (o z : Option ℕ) → (if b then Some v else or_else o z) ≡ or_else (if b then Some v else o) z
or_else_put true v o z = refl
or_else_put false v o z = refl

-- a row of its own more is laid over the map
pub laid_put : (m : Map) (rows : List Row) (k v : ℕ) → insert (laid rows m) k v ≡ laid (put_row k v rows) m
laid_put m rows k v =
    same_map nat_cmp_total nat_cmp-IsAntisymmetric _ _ (λ q.
    get-insert_at (laid rows m) k v q ∙ ap (λ o. if k == q then Some v else o) (get-laid rows m q)
    ∙ or_else_put (k == q) v (get_row rows q) (get m q) ∙ ap (λ o. or_else o (get m q)) (sym (get_row-put k v rows q)) ∙ sym (get-laid (put_row k v rows) m q))

-- the run on the map that the lone run x stands for
abbrev pub mapped : Map → Lone → Alone
mapped m x = goes_on (laid x.rows m) x.regs x.pc

-- a read on the map does the same
on_read : (m : Map) (r : Reg) (k : ℕ) (x : Lone) (far : Bool) → (if far then ended x else reads m r k x).over ≡ false
    → OnMap m (if far then ended x else reads m r k x) (if far then gives_up m (mapped m x)
    else goes_on (laid x.rows m) (with_reg r (unwrap_or (get (laid x.rows m) k) 0) x.regs) (x.pc + 1))
on_read m r k x true on = over_absurd on
on_read m r k x false on = record { map = refl; regs = ap (λ o. with_reg r (unwrap_or o 0) x.regs) (get-laid x.rows m k); pc = refl; over = refl }

-- a write on the map does the same
on_put : (m : Map) (x : Lone) (k v : ℕ) (far there : Bool) → (if far then ended x else if there then stores k v x else ended x).over ≡ false
    → OnMap m (if far then ended x else if there then stores k v x else ended x)
    (if far then gives_up m (mapped m x) else if there then goes_on (insert (laid x.rows m) k v) x.regs (x.pc + 1) else gives_up m (mapped m x))
on_put m x k v true there on = over_absurd on
on_put m x k v false true on = record { map = laid_put m x.rows k v; regs = refl; pc = refl; over = refl }
on_put m x k v false false on = over_absurd on

-- a sum on the map does the same
on_sum : (m : Map) (r : Reg) (ks : List ℕ) (none far : Bool) (x : Lone) → (sums_or_ends m r ks none far x).over ≡ false
    → OnMap m (sums_or_ends m r ks none far x) (if none then goes_on (laid x.rows m) (with_reg r 0 x.regs) (x.pc + 1) else if far then gives_up m (mapped m x)
    else goes_on (laid x.rows m) (with_reg r (total (value_in (laid x.rows m)) ks % 2 ^ 32) x.regs) (x.pc + 1))
on_sum m r ks true far x on = record { map = refl; regs = refl; pc = refl; over = refl }
on_sum m r ks false true x on = over_absurd on
on_sum m r ks false false x on = record {
  map = refl;
  regs =
      ap (λ z. with_reg r (z % 2 ^ 32) x.regs) (total_same (value_in (laid x.rows m)) (value_seen m x) ks
      (λ k _. ap (λ o. unwrap_or o 0) (get-laid x.rows m k)));
  pc = refl;
  over = refl;
}

-- a test turned round
turned_test : {X : Type 0} (b : Bool) (x y : X) → (if not b then x else y) ≡ (if b then y else x)
turned_test true x y = refl
turned_test false x y = refl

-- each effect on the map does the same
on_effect : (m : Map) (e : Effect) (x : Lone) → (lone_effect m e x).over ≡ false → OnMap m (lone_effect m e x) (alone_effect m e (mapped m x))
unfolding lone_effect
on_effect m (Sets r v) x on = record { map = refl; regs = refl; pc = refl; over = refl }
on_effect m (Jumps taken to) x on = record { map = refl; regs = refl; pc = refl; over = refl }
on_effect m (Accesses (Reads r) k) x on = on_read m r k x (nat_lt max_key k) on
on_effect m (Accesses (Writes v) k) x on = rw get-laid (on_put m x k v (nat_lt max_key k) (is_some (sees m x k)) on)
on_effect m (Accesses (Inserts v) k) x on =
    rw (get-laid, ← turned_test (is_some (sees m x k)) (goes_on (insert (laid x.rows m) k v) x.regs (x.pc + 1)) (gives_up m (mapped m x)))
    (on_put m x k v (nat_lt max_key k) (not (is_some (sees m x k))) on)
on_effect m (Sums r a b) x on = on_sum m r (range a b) (nat_lt b a) (nat_lt max_key b) x on
on_effect m Commits x on = over_absurd on
on_effect m Aborts x on = over_absurd on

-- each instruction on the map does the same
on_instr : (m : Map) (i : Option Instr) (x : Lone) → (lone_instr m i x).over ≡ false → OnMap m (lone_instr m i x) (alone_instr m i (mapped m x))
unfolding lone_instr alone_instr
on_instr m None x on = over_absurd on
on_instr m (Some i) x on = on_effect m (effect_of i x.regs) x on

-- a lone run on the map itself does the same
pub on_map : (m : Map) (program : List Instr) (n : ℕ) → (lone m program n).over ≡ false → OnMap m (lone m program n) (alone m program n)
unfolding alone_step
on_map m program zero on = record { map = refl; regs = refl; pc = refl; over = refl }
on_map m program (suc n) on =
    let x = lone m program n in
    let on_before = before_step m program x on in
    let is = stepped m program x on_before in
    let h = on_map m program n on_before in
    let same : alone m program n ≡ mapped m x = λ i. record { map = h.map i; regs = h.regs i; pc = h.pc i; over = h.over i } in
    rw (is, same) (on_instr m (slice_get program x.pc) x (rw is at on))
