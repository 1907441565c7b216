-- How far a transaction has come in the lone run of its program, after an instruction, a begin or a split.
use Rattle.std.proofs.Common.{List, [], add-one, ap, length, false, inl, inr, refl, subst, sym, true, ℕ, ◌%◌, ◌+◌, ◌^◌, ◌∙◌, ◌++◌, ◌∷◌, ◌≡◌}
use Rattle.std.specs.Prelude.{None, Option, Some, is_some, nat_lt, slice_get, unwrap_or, ◌==◌, ◌||◌}
use Rattle.std.specs.FinMap.{get}
use Rattle.std.proofs.lemmas.Bool.{cases_eq, eqb-true, false≢true, or_cases}
use Rattle.zy_isa.specs.Rows.{get_row, put_row}
use Rattle.zy_isa.specs.Scenario.{Scenario}
use Rattle.zy_isa.specs.declared.instr.Instr.{Instr}
use Rattle.zy_isa.specs.declared.instr.Reg.{Reg}
use Rattle.zy_isa.specs.declared.node.Node.{Node}
use Rattle.zy_isa.specs.declared.row.Row.{Row}
use Rattle.zy_model.specs.Locks.{add_lock}
use Rattle.zy_model.specs.declared.lock.LockKind.{LockKind}
use Rattle.zy_model.specs.declared.lock.LockKind.TheVariants.{Exclusive}
use Rattle.zy_table.specs.Change.{begun, nobody, share_all, txn_at, with_reg}
use Rattle.zy_table.specs.declared.status.Status.TheVariants.{Active}
use Rattle.zy_table.specs.Client.{is_active}
use Rattle.zy_table.specs.declared.effect.Effect.{Effect}
use Rattle.zy_table.specs.Effects.{effect_of}
use Rattle.zy_table.specs.declared.access.Access.TheVariants as access
use Rattle.zy_table.specs.declared.access.Access.TheVariants.{Reads}
use Rattle.zy_table.specs.declared.effect.Effect.TheVariants as effect
use Rattle.zy_table.specs.Numbers.{has}
use Rattle.zy_table.specs.Database.{Map}
use Rattle.zy_table.specs.Holders.{holds}
use Rattle.zy_table.specs.Pages.{owns, rows_of}
use Rattle.zy_table.specs.Ranges.{range, range_pages, total}
use Rattle.zy_table.specs.Run.{is_there, program_of, value_for}
use Rattle.zy_table.specs.State.{Lock, Txn, View}
use Rattle.zy_model.specs.Wireframe.{page_of}
use Rattle.zy_model.proofs.Longer.{page_of-cut}
use Rattle.zy_laws.proofs.walk.Conditions.{sum_at, value_at, Free, FreeRange, Leads, BySet, ByJump, BySum}
use Rattle.zy_laws.proofs.serial.Following.{Follows, follows_same}
use Rattle.zy_table.proofs.LockLists.{holds_more, holds_new}
use Rattle.zy_table.proofs.RangeLists.{has_either, on_range_page, total_same}
use Rattle.zy_table.proofs.SharedLocks.{holds_more_shared, holds_shared}
use Rattle.zy_laws.proofs.locks.Locking.{Kept}
use Rattle.zy_laws.proofs.serial.LoneRuns.{Lone, lone, lone_at, lone_effect, lone_instr, lone_step, or_else}
use Rattle.zy_laws.proofs.places.PageValues.{db, page_value, value_same}
use Rattle.zy_laws.proofs.walk.Txns.{IsAt, Stands, at_either, at_other}
use Rattle.zy_isa.specs.Limits.{max_key}

-- one instruction more of a lone run
next_run : (d : Map) (program : List Instr) (x : Txn) (keys : List ℕ) (i : Instr) (e : Effect) (y : Lone) → lone d program x.done ≡ lone_at x keys
    → slice_get program x.pc ≡ Some i → effect_of i x.regs ≡ e → lone_effect d e (lone_at x keys) ≡ y → lone d program (x.done + 1) ≡ y
unfolding lone_step lone_instr
next_run d program x keys i e y run is does h =
    ap (lone d program) (add-one x.done) ∙ ap (lone_step d program) run ∙ ap (λ o. lone_instr d o (lone_at x keys)) is
    ∙ ap (λ z. lone_effect d z (lone_at x keys)) does ∙ h

-- an effect that needs no page does the same in the lone run
pub leads_step : (d : Map) (e : Effect) (x : Txn) (pc : ℕ) (regs keys : List ℕ) → Leads e x pc regs
    → lone_effect d e (lone_at x keys) ≡ record { regs = regs; pc = pc; rows = x.rows; keys = keys; over = false }
unfolding lone_effect
leads_step d e x pc regs keys (BySet r value is a b) = rw (is, a, b) refl
leads_step d e x pc regs keys (ByJump taken to is a b) = rw (is, a, b) refl
leads_step d e x pc regs keys (BySum r first last is none a b) = rw (is, none, a, b) refl

-- what an access to a key does in the lone run
module _ (d : Map) (k : ℕ) (x : Txn) (keys : List ℕ) (small : nat_lt max_key k ≡ false) where
  -- a read
  pub small_read : (r : Reg) (value : ℕ) → value ≡ unwrap_or (or_else (get_row x.rows k) (get d k)) 0
      → lone_effect d (effect.Accesses (Reads r) k) (lone_at x keys)
      ≡ record { regs = with_reg r value x.regs; pc = x.pc + 1; rows = x.rows; keys = k ∷ keys; over = false }
  unfolding lone_effect
  small_read r value val = rw (small, val) refl

  -- a write of a row that is there
  pub small_write : (value : ℕ) → is_some (or_else (get_row x.rows k) (get d k)) ≡ true
      → lone_effect d (effect.Accesses (access.Writes value) k) (lone_at x keys)
      ≡ record { regs = x.regs; pc = x.pc + 1; rows = put_row k value x.rows; keys = k ∷ keys; over = false }
  unfolding lone_effect
  small_write value there = rw (small, there) refl

  -- an insert of a row that is not there
  pub small_insert : (value : ℕ) → is_some (or_else (get_row x.rows k) (get d k)) ≡ false
      → lone_effect d (effect.Accesses (access.Inserts value) k) (lone_at x keys)
      ≡ record { regs = x.regs; pc = x.pc + 1; rows = put_row k value x.rows; keys = k ∷ keys; over = false }
  unfolding lone_effect
  small_insert value there = rw (small, there) refl

-- what a sum does in the lone run
pub small_sum : (d : Map) (r : Reg) (a b : ℕ) (x : Txn) (keys : List ℕ) (sum : ℕ) → nat_lt b a ≡ false → nat_lt max_key b ≡ false
    → sum ≡ total (λ k. unwrap_or (or_else (get_row x.rows k) (get d k)) 0) (range a b)
    → lone_effect d (effect.Sums r a b) (lone_at x keys)
    ≡ record { regs = with_reg r (sum % 2 ^ 32) x.regs; pc = x.pc + 1; rows = x.rows; keys = range a b ++ keys; over = false }
unfolding lone_effect
small_sum d r a b x keys sum rises small val = rw (rises, small, val) refl

-- there is a value where one of two has one
some_or : (a b : Option ℕ) → is_some (or_else a b) ≡ (is_some a || is_some b)
some_or None b = refl
some_or (Some v) b = refl

-- what transaction t sees at a key
module _ (sc : Scenario) (n : Node) (v : View) (lows : List ℕ) (t k : ℕ) (h : Kept sc n v lows) (at : IsAt v t n) where
  -- what the database has at a key whose page is here
  here_value : owns v.me.pages (page_of v.me.lows k) ≡ true → get (db v) k ≡ get_row (rows_of v.me.pages (page_of v.me.lows k)) k
  here_value own =
      let newest : v.me.lows ≡ lows = h.mine.newest (h.mine.busy t at) in
      subst (λ l. get (db v) k ≡ get_row (rows_of v.me.pages (page_of l k)) k) (sym newest)
      (page_value lows v k h.placed h.inv.owned (subst (λ l. owns v.me.pages (page_of l k) ≡ true) newest own))

  -- what is read is what the lone run sees
  pub read_value : owns v.me.pages (page_of v.me.lows k) ≡ true
      → value_at t k v ≡ unwrap_or (or_else (get_row (txn_at v t).rows k) (get (db v) k)) 0
  read_value own =
      let rows = (txn_at v t).rows in
      sym (value_same (get_row rows k) (get (db v) k) ∙ ap (λ o. unwrap_or (get_row rows k) (unwrap_or o 0)) (here_value own))

  -- whether a row is there is what the lone run sees
  pub there_value : (kind : LockKind) → Free t k kind v
      → is_some (or_else (get_row (txn_at v t).rows k) (get (db v) k)) ≡ is_there k (page_of v.me.lows k) v.me (txn_at v t)
  there_value kind f =
      let rows = (txn_at v t).rows in
      some_or (get_row rows k) (get (db v) k) ∙ ap (λ o. is_some (get_row rows k) || is_some o) (here_value f.here)

-- what t sums is what the database has, with its private rows over it
pub sum_value : (sc : Scenario) (n : Node) (v : View) (lows : List ℕ) (t a b : ℕ) → Kept sc n v lows → IsAt v t n → FreeRange t a b v
    → sum_at t a b v ≡ total (λ k. unwrap_or (or_else (get_row (txn_at v t).rows k) (get (db v) k)) 0) (range a b)
sum_value sc n v lows t a b h at f =
    total_same (value_for (txn_at v t) v.me) _ (range a b) (λ k e. read_value sc n v lows t k h at
    (f.here (page_of v.me.lows k) (on_range_page v.me.lows a b k e)))

-- transaction x does its next instruction, whose effect is e
module _ (program : List Instr) (d : Map) (lows : List ℕ) (locks : List Lock) (t : ℕ) (x : Txn) (i : Instr) (e : Effect)
    (is : slice_get program x.pc ≡ Some i) (does : effect_of i x.regs ≡ e) (f : Follows program d lows locks t x) where
  -- an effect that needs no page
  pub plain_follows : (pc : ℕ) (regs : List ℕ)
      → ((keys : List ℕ) → lone_effect d e (lone_at x keys) ≡ record { regs = regs; pc = pc; rows = x.rows; keys = keys; over = false })
      → Follows program d lows locks t (record x { pc = pc; regs = regs; done = x.done + 1 })
  plain_follows pc regs step = record { keys = f.keys; run = next_run d program x f.keys i e _ f.run is does (step f.keys); covered = f.covered }

  -- a step under a lock of its key's page follows the lone run
  pub key_follows : (kind : LockKind) (k pc : ℕ) (regs : List ℕ) (rows : List Row)
      → ((keys : List ℕ) → lone_effect d e (lone_at x keys) ≡ record { regs = regs; pc = pc; rows = rows; keys = k ∷ keys; over = false })
      → Follows program d lows (add_lock (page_of lows k) t kind locks) t (record x { pc = pc; regs = regs; rows = rows; done = x.done + 1 })
  key_follows kind k pc regs rows step = record {
    keys = k ∷ f.keys;
    run = next_run d program x f.keys i e _ f.run is does (step f.keys);
    covered = λ j h. elim (or_cases (k == j) (has f.keys j) h) [
      | inl e ↦ subst (λ z. holds (add_lock (page_of lows k) t kind locks) (page_of lows z) t ≡ true) (eqb-true _ _ e) (holds_new (page_of lows k) t kind locks)
      | inr e ↦ holds_more (page_of lows k) t kind locks (page_of lows j) t (f.covered j e)
    ];
  }

  -- each key of the range lies on a page that t now holds
  pub range_follows : (a b pc : ℕ) (regs : List ℕ)
      → ((keys : List ℕ) → lone_effect d e (lone_at x keys) ≡ record { regs = regs; pc = pc; rows = x.rows; keys = range a b ++ keys; over = false })
      → Follows program d lows (share_all (range_pages lows a b) t locks) t (record x { pc = pc; regs = regs; done = x.done + 1 })
  range_follows a b pc regs step = record {
    keys = range a b ++ f.keys;
    run = next_run d program x f.keys i e _ f.run is does (step f.keys);
    covered = λ k h. elim (has_either (range a b) f.keys k h) [
      | inl new ↦ holds_shared (range_pages lows a b) t locks (page_of lows k) (on_range_page lows a b k new)
      | inr old ↦ holds_more_shared (range_pages lows a b) t locks (page_of lows k) t (f.covered k old)
    ];
  }

-- after t begins at h, u has come as far as its lone run
pub begun_follows : (sc : Scenario) (d : Map) (v : View) (lows : List ℕ) (locks : List Lock) (h m : Node) (t u : ℕ) → is_active (txn_at v t).status ≡ false
    → ((z : ℕ) → IsAt v z m → Follows (program_of sc z) d lows locks z (txn_at v z)) → IsAt (begun h t v) u m
    → Follows (program_of sc u) d lows locks u (txn_at (begun h t v) u)
unfolding begun
begun_follows sc d v lows locks h m t u new f at =
    let w = begun h t v in
    let y : Txn = record nobody { status = Active; node = h } in
    let fresh : Follows (program_of sc u) d lows locks u y = record { keys = []; run = refl; covered = λ k a. absurd (false≢true a) } in
    elim (cases_eq u t) [
      | inl here ↦ elim (at_either v w t y refl) [
        | inl now ↦ subst (Follows (program_of sc u) d lows locks u) (sym (ap (txn_at w) here ∙ now)) fresh
        | inr old ↦ absurd (false≢true (sym new ∙ subst (λ (x : Txn). is_active x.status ≡ true) (ap (txn_at w) here ∙ old) at.0))
      ]
      | inr far ↦ let now = at_other v w t u y refl far in follows_same (f u (subst (λ x. Stands x m) now at)) refl now (λ p h. h)
    ]

-- a split keeps what a transaction follows: it moves the keys of t's page alone
pub cut_follows : (program : List Instr) (d e : Map) (more : List ℕ) (locks : List Lock) (q b t u : ℕ) (x : Txn) → e ≡ d → length (0 ∷ more) ≡ q
    → ((k : ℕ) → page_of (0 ∷ more) b ≡ page_of (0 ∷ more) k → holds locks (page_of (0 ∷ more) k) u ≡ true → u ≡ t) → Follows program d (0 ∷ more) locks u x
    → Follows program e ((0 ∷ more) ++ b ∷ []) (add_lock q t Exclusive locks) u x
cut_follows program d e more locks q b t u x same long one f = record {
  keys = f.keys;
  run = ap (λ m. lone m program x.done) same ∙ f.run;
  covered = λ k h.
      let old = f.covered k h in
      elim (page_of-cut more b k) [
        | inl stays ↦ subst (λ z. holds (add_lock q t Exclusive locks) z u ≡ true) (sym stays) (holds_more q t Exclusive locks (page_of (0 ∷ more) k) u old)
        | inr moves ↦ subst (λ z. holds (add_lock q t Exclusive locks) z u ≡ true) (sym (moves.0 ∙ long))
            (subst (λ z. holds (add_lock q t Exclusive locks) q z ≡ true) (sym (one k moves.1 old)) (holds_new q t Exclusive locks))
      ];
}
