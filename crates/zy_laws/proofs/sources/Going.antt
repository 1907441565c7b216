-- Each step but a commit keeps the order of the commits, and the database that of the serial run.
use Rattle.std.proofs.Common.{List, [], ap, append-nil, arith, length, false, inl, inr, refl, subst, sym, true, ℕ, ◌+◌, ◌∙◌, ◌++◌, ◌∷◌, ◌≡◌}
use Rattle.std.specs.Prelude.{is_some, slice_set, unwrap_or}
use Rattle.std.specs.FinMap.{get}
use Rattle.std.specs.List.Sorted.{IsPermutation}
use Rattle.std.proofs.lemmas.Bool.{cases_eq, false≢true}
use Rattle.std.proofs.lemmas.Bool.Decides.{nat_tests}
use Rattle.zy_isa.specs.Rows.{get_row}
use Rattle.zy_isa.specs.Scenario.{Scenario}
use Rattle.zy_isa.specs.declared.node.Node.{Node}
use Rattle.zy_isa.specs.declared.row.Row.{Row}
use Rattle.zy_model.specs.Locks.{add_lock}
use Rattle.zy_model.specs.declared.lock.LockKind.{LockKind}
use Rattle.zy_model.specs.declared.lock.LockKind.TheVariants.{Exclusive}
use Rattle.zy_model.specs.Families.{is_bare, is_source}
use Rattle.zy_model.specs.Table.{may_split}
use Rattle.zy_table.specs.Change.{aborted, begun, cut, did, locked, share_all, shares, txn_at}
use Rattle.zy_table.specs.Client.{is_new}
use Rattle.zy_table.specs.Database.{Map}
use Rattle.zy_table.specs.declared.effect.Effect.{Effect}
use Rattle.zy_table.specs.declared.outcome.Why.{Why}
use Rattle.zy_table.specs.declared.status.Status.TheVariants.{Aborted}
use Rattle.zy_table.specs.Holders.{holds}
use Rattle.zy_table.specs.Pages.{owns}
use Rattle.zy_table.specs.Ranges.{range, range_pages, total}
use Rattle.zy_table.specs.Run.{is_there, program_of}
use Rattle.zy_table.specs.Serial.{Registers, serial}
use Rattle.zy_table.specs.State.{Lock, NodeState, Txn, View, other}
use Rattle.zy_model.specs.Wireframe.{page_of}
use Rattle.zy_table.proofs.LockLists.{alone_new, holds-drop, holds_more}
use Rattle.zy_table.proofs.RangeLists.{on_range_page, total_same}
use Rattle.zy_table.proofs.SharedLocks.{holds_more_shared}
use Rattle.zy_laws.specs.SourceFirst.{Sorted}
use Rattle.zy_laws.proofs.locks.Locking.{Kept, nobody_runs}
use Rattle.zy_laws.proofs.locks.Runners.{has_lock_locking}
use Rattle.zy_laws.proofs.owner.PageCounts.{owns_none}
use Rattle.zy_laws.proofs.owner.Phases.{Is, Done_sent, Resting, begins_length}
use Rattle.zy_laws.proofs.owner.Roles.{Destination, Inv, Roles, Source, normal_other}
use Rattle.zy_laws.proofs.places.PageValues.{db}
use Rattle.zy_laws.proofs.serial.CutValues.{cut_db}
use Rattle.zy_laws.proofs.serial.Following.{Follows, follows_same, keep_registers, registers_same}
use Rattle.zy_laws.proofs.serial.FollowingRuns.{begun_follows, cut_follows, key_follows, leads_step, plain_follows, range_follows}
use Rattle.zy_laws.proofs.serial.FollowingRuns.{read_value, sum_value, there_value}
use Rattle.zy_laws.proofs.serial.LoneRuns.{lone_at, lone_effect, or_else}
use Rattle.zy_laws.proofs.sources.Aside.{aside_fewer, serial-append}
use Rattle.zy_laws.proofs.sources.Halves.{Divided, page_here, base, base_here, half_stays}
use Rattle.zy_laws.proofs.walk.Conditions.{Free, FreeRange, Leads, Runs, has_lock, has_locks, sum_at, value_at}
use Rattle.zy_laws.proofs.walk.Kinds.{Quiet}
use Rattle.zy_laws.proofs.walk.ModeLines.{splits_in_normal}
use Rattle.zy_laws.proofs.walk.Txns.{IsAt, Stands, active_off, at_other, at_same, at_self, ended_far, new_off, not_both_nodes, not_new}

-- beside a node in Normal the other one has no page
pub none_beside : (v : View) → Inv v → Roles v → may_split v.me.mode ≡ true → (p : ℕ) → owns v.them.pages p ≡ false
none_beside v i (Source (Is Resting at)) h p = ap (λ xs. owns xs p) (i.theirs.none (ap is_bare at.destination))
none_beside v i (Source (Is g at)) h p = cc at.source
none_beside v i (Destination (Is Done_sent at)) h p =
    let k = i.owned.once p in
    let there = at.lows.there.each p in
    let wide = begins_length v.them.lows v.me.lows at.lows.begins in
    owns_none p v.them.pages (grind (arith, nat_tests, k, there, wide))
none_beside v i (Destination (Is g at)) h p = cc at.destination

-- a state whose commits are sorted, and its newest low keys
module _ (sc : Scenario) (n : Node) (v : View) (start : Map) (lows : List ℕ) (o : Sorted) (s : Divided sc n v start lows o) where
  -- what n runs on
  abbrev pub mine_on : Map
  mine_on = base (is_source v.me.mode) (serial sc start o.first) (db v)

  -- a step in which t goes on, and may take locks
  acts : (t : ℕ) (y : Txn) (locks : List Lock) → IsAt v t n → y.node ≡ (txn_at v t).node
      → ((p u : ℕ) → holds v.me.locks p u ≡ true → holds locks p u ≡ true) → Follows (program_of sc t) mine_on lows locks t y
      → let w : View = record v { me = record v.me { locks = locks }; txns = slice_set v.txns t y } in Kept sc n w lows → Divided sc n w start lows o
  acts t y locks at node grow f k =
      let w : View = record v { me = record v.me { locks = locks }; txns = slice_set v.txns t y } in
      record {
        kept = k;
        mine = record {
          same = s.mine.same;
          aside = s.mine.aside;
          runs = λ u a. elim (cases_eq u t) [
            | inl here ↦ subst (λ z. Follows (program_of sc z) mine_on lows locks z (txn_at w z)) (sym here)
                (subst (Follows (program_of sc t) mine_on lows locks t) (sym (at_self v w t y refl at.0)) f)
            | inr far ↦ let now = at_other v w t u y refl far in follows_same (s.mine.runs u (subst (λ x. Stands x n) now a)) refl now (λ p h. grow p u h)
          ];
        };
        theirs = record {
          same = s.theirs.same;
          aside = s.theirs.aside;
          runs = λ u a. elim (cases_eq u t) [
            | inl here ↦ absurd (not_both_nodes n y.node (node ∙ at.1)
                (subst (λ (x : Txn). x.node ≡ other n) (ap (txn_at w) here ∙ at_self v w t y refl at.0) a.1))
            | inr far ↦ let now = at_other v w t u y refl far in follows_same (s.theirs.runs u (subst (λ x. Stands x (other n)) now a)) refl now (λ p h. h)
          ];
        };
        is_serial = s.is_serial;
        registers = keep_registers sc v w start (o.first ++ o.later) t y refl (active_off (txn_at v t).status at.0) s.registers;
        permuted = s.permuted;
      }

  -- a step of the program that needs no page keeps it
  pub goes_divided : (t : ℕ) (e : Effect) (pc : ℕ) (regs : List ℕ) → Runs sc n t e v → Leads e (txn_at v t) pc regs
      → Kept sc n (did t pc regs (txn_at v t).rows v) lows → Divided sc n (did t pc regs (txn_at v t).rows v) start lows o
  unfolding did
  goes_divided t e pc regs runs leads k =
      let at : IsAt v t n = (runs.active, runs.here) in
      acts t _ v.me.locks at refl (λ p u h. h)
      (plain_follows (program_of sc t) mine_on lows v.me.locks t (txn_at v t) runs.instr e runs.next runs.does (s.mine.runs t at) pc regs
      (λ keys. leads_step mine_on e (txn_at v t) pc regs keys leads)) k

  -- a step under a lock keeps it
  pub key_divided : (t k : ℕ) (kind : LockKind) (pc : ℕ) (regs : List ℕ) (rows : List Row) (e : Effect) → Runs sc n t e v
      → ((keys : List ℕ) → lone_effect mine_on e (lone_at (txn_at v t) keys) ≡ record { regs = regs; pc = pc; rows = rows; keys = k ∷ keys; over = false })
      → Kept sc n (did t pc regs rows (has_lock t k kind v)) lows → Divided sc n (did t pc regs rows (has_lock t k kind v)) start lows o
  unfolding did locked txn_at
  key_divided t k kind pc regs rows e runs step h =
      let at : IsAt v t n = (runs.active, runs.here) in
      let newest : v.me.lows ≡ lows = s.kept.mine.newest (s.kept.mine.busy t at) in
      let y : Txn = record (txn_at v t) { pc = pc; regs = regs; rows = rows; done = (txn_at v t).done + 1 } in
      acts t y (add_lock (page_of v.me.lows k) t kind v.me.locks) at refl (λ p u g. holds_more (page_of v.me.lows k) t kind v.me.locks p u g)
      (subst (λ l. Follows (program_of sc t) mine_on lows (add_lock (page_of l k) t kind v.me.locks) t y) (sym newest)
      (key_follows (program_of sc t) mine_on lows v.me.locks t (txn_at v t) runs.instr e runs.next runs.does (s.mine.runs t at) kind k pc regs rows step)) h

  -- a sum keeps it
  pub range_divided : (t a b pc : ℕ) (regs : List ℕ) (e : Effect) → Runs sc n t e v
      → ((keys : List ℕ) → lone_effect mine_on e (lone_at (txn_at v t) keys)
      ≡ record { regs = regs; pc = pc; rows = (txn_at v t).rows; keys = range a b ++ keys; over = false })
      → Kept sc n (did t pc regs (txn_at v t).rows (has_locks t a b v)) lows → Divided sc n (did t pc regs (txn_at v t).rows (has_locks t a b v)) start lows o
  unfolding did shares txn_at
  range_divided t a b pc regs e runs step h =
      let at : IsAt v t n = (runs.active, runs.here) in
      let newest : v.me.lows ≡ lows = s.kept.mine.newest (s.kept.mine.busy t at) in
      let y : Txn = record (txn_at v t) { pc = pc; regs = regs; done = (txn_at v t).done + 1 } in
      acts t y (share_all (range_pages v.me.lows a b) t v.me.locks) at refl
      (λ p u g. holds_more_shared (range_pages v.me.lows a b) t v.me.locks p u g)
      (subst (λ l. Follows (program_of sc t) mine_on lows (share_all (range_pages l a b) t v.me.locks) t y) (sym newest)
      (range_follows (program_of sc t) mine_on lows v.me.locks t (txn_at v t) runs.instr e runs.next runs.does (s.mine.runs t at) a b pc regs step)) h

  -- where the page of a key is here, what n runs on has there what the database has
  here_on : (t k : ℕ) → IsAt v t n → owns v.me.pages (page_of v.me.lows k) ≡ true → get mine_on k ≡ get (db v) k
  here_on t k at own = base_here k s.mine (subst (λ l. owns v.me.pages (page_of l k) ≡ true) (s.kept.mine.newest (s.kept.mine.busy t at)) own)

  -- what is read is what the lone run sees
  pub read_on : (t k : ℕ) → IsAt v t n → owns v.me.pages (page_of v.me.lows k) ≡ true
      → value_at t k v ≡ unwrap_or (or_else (get_row (txn_at v t).rows k) (get mine_on k)) 0
  read_on t k at own = read_value sc n v lows t k s.kept at own
      ∙ ap (λ z. unwrap_or (or_else (get_row (txn_at v t).rows k) z) 0) (sym (here_on t k at own))

  -- whether a row is there is what the lone run sees
  pub there_on : (t k : ℕ) (kind : LockKind) → IsAt v t n → Free t k kind v
      → is_some (or_else (get_row (txn_at v t).rows k) (get mine_on k)) ≡ is_there k (page_of v.me.lows k) v.me (txn_at v t)
  there_on t k kind at f =
      ap (λ z. is_some (or_else (get_row (txn_at v t).rows k) z)) (here_on t k at f.here) ∙ there_value sc n v lows t k s.kept at kind f

  -- what is summed is what the lone run sees
  pub sum_on : (t a b : ℕ) → IsAt v t n → FreeRange t a b v
      → sum_at t a b v ≡ total (λ k. unwrap_or (or_else (get_row (txn_at v t).rows k) (get mine_on k)) 0) (range a b)
  sum_on t a b at f =
      sum_value sc n v lows t a b s.kept at f
      ∙ total_same _ _ (range a b) (λ k e. ap (λ z. unwrap_or (or_else (get_row (txn_at v t).rows k) z) 0)
      (sym (here_on t k at (f.here (page_of v.me.lows k) (on_range_page v.me.lows a b k e)))))

  -- an abort keeps it
  pub aborted_divided : (t : ℕ) (why : Why) → IsAt v t n → Kept sc n (aborted t why v) lows → Divided sc n (aborted t why v) start lows o
  unfolding aborted
  aborted_divided t why at k =
      let w = aborted t why v in
      let y : Txn = record (txn_at v t) { status = Aborted why; rows = [] } in
      let far_at = ended_far v w t y refl at.0 refl in
      record {
        kept = k;
        mine = record {
          same = s.mine.same;
          aside = s.mine.aside;
          runs = λ u a. let far = far_at u n a in let now = at_other v w t u y refl far in
              follows_same (s.mine.runs u (subst (λ x. Stands x n) now a)) refl now (λ p h. holds-drop v.me.locks p t u far ∙ h);
        };
        theirs = record {
          same = s.theirs.same;
          aside = s.theirs.aside;
          runs = λ u a. let far = far_at u (other n) a in let now = at_other v w t u y refl far in
              follows_same (s.theirs.runs u (subst (λ x. Stands x (other n)) now a)) refl now (λ p h. h);
        };
        is_serial = s.is_serial;
        registers = keep_registers sc v w start (o.first ++ o.later) t y refl (active_off (txn_at v t).status at.0) s.registers;
        permuted = s.permuted;
      }

  -- a begin keeps it
  pub begun_divided : (t : ℕ) (h : Node) → is_new (txn_at v t).status ≡ true → Kept sc n (begun h t v) lows → Divided sc n (begun h t v) start lows o
  unfolding begun
  begun_divided t h new k =
      let w = begun h t v in
      let off = not_new (txn_at v t).status new in
      record {
        kept = k;
        mine = record {
          same = s.mine.same;
          aside = s.mine.aside;
          runs = λ u a. begun_follows sc mine_on v lows v.me.locks h n t u off s.mine.runs a;
        };
        theirs = record {
          same = s.theirs.same;
          aside = s.theirs.aside;
          runs = λ u a. begun_follows sc (base (is_source v.them.mode) (serial sc start o.first) (db v)) v lows v.them.locks h (other n) t u off
              s.theirs.runs a;
        };
        is_serial = s.is_serial;
        registers = keep_registers sc v w start (o.first ++ o.later) t _ refl (new_off (txn_at v t).status new) s.registers;
        permuted = s.permuted;
      }

  -- a split keeps it
  pub cut_divided : (t k b : ℕ) → IsAt v t n → Free t k Exclusive v
      → may_split v.me.mode ≡ true → page_of v.me.lows b ≡ page_of v.me.lows k
      → Kept sc n (cut t (page_of v.me.lows k) b (has_lock t k Exclusive v)) (lows ++ b ∷ [])
      → Divided sc n (cut t (page_of v.me.lows k) b (has_lock t k Exclusive v)) start (lows ++ b ∷ []) o
  unfolding cut locked txn_at
  cut_divided t k b at f normal on h =
      let p = page_of v.me.lows k in
      let v1 = has_lock t k Exclusive v in
      let w = cut t p b v1 in
      let locks = add_lock p t Exclusive v.me.locks in
      let more = s.kept.first.0 in
      let begins = s.kept.first.1 in
      let m = serial sc start o.first in
      let newest : v.me.lows ≡ lows = s.kept.mine.newest (s.kept.mine.busy t at) in
      let same : db w ≡ db v = cut_db lows v1 t p b s.kept.placed (record { once = s.kept.inv.owned.once }) f.here in
      let l = has_lock_locking sc n v lows t s.kept at k Exclusive f in
      let one : (u j : ℕ) → page_of lows b ≡ page_of lows j → holds locks (page_of lows j) u ≡ true → u ≡ t =
      λ u j e g. sym (l.apart p t u (alone_new p t v.me.locks) (subst (λ z. holds locks z u ≡ true) (sym e ∙ ap (λ z. page_of z b) (sym newest) ∙ on) g)) in
      let idle = normal_other v s.kept.inv.roles normal in
      let none = none_beside v s.kept.inv s.kept.inv.roles normal in
      let off : is_source v.me.mode ≡ false = ap is_source (splits_in_normal v.me.mode normal) in
      record {
        kept = h;
        mine = record {
          same = λ source. absurd (false≢true (sym off ∙ source));
          aside = λ source. absurd (false≢true (sym off ∙ source));
          runs = λ u a. subst (λ z. Follows (program_of sc u) (base (is_source v.me.mode) m (db w)) (z ++ b ∷ [])
              (add_lock (length v.me.lows) t Exclusive locks) u (txn_at v u)) (sym begins)
              (cut_follows (program_of sc u) mine_on (base (is_source v.me.mode) m (db w)) more locks (length v.me.lows) b t u (txn_at v u)
              (ap (base (is_source v.me.mode) m) same) (ap length (sym (newest ∙ begins)))
              (subst (λ z. (j : ℕ) → page_of z b ≡ page_of z j → holds locks (page_of z j) u ≡ true → u ≡ t) begins (one u))
              (subst (λ z. Follows (program_of sc u) mine_on z locks u (txn_at v u)) begins
              (follows_same (s.mine.runs u a) refl refl (λ q g. holds_more p t Exclusive v.me.locks q u g))));
        };
        theirs = record {
          same = λ source j here. absurd (false≢true (sym (none (page_of (lows ++ b ∷ []) j)) ∙ here));
          aside = λ source. aside_fewer sc (page_here v.them lows) (page_here v.them (lows ++ b ∷ [])) m o.later (λ j _. none (page_of (lows ++ b ∷ []) j))
              (s.theirs.aside source);
          runs = λ u a. absurd (nobody_runs sc (other n) v.them v lows u s.kept.theirs idle.0 a);
        };
        is_serial = same ∙ s.is_serial;
        registers = s.registers;
        permuted = s.permuted;
      }

  -- a step that changes no transaction, no lock and no value, and makes no node a source, keeps it
  pub stays_divided : (w : View) → Quiet v w → db w ≡ db v → Kept sc n w lows
      → (is_source w.me.mode ≡ true → (is_source v.me.mode ≡ true) × ((p : ℕ) → owns v.me.pages p ≡ false → owns w.me.pages p ≡ false))
      → ((t : ℕ) → IsAt v t n → is_source w.me.mode ≡ is_source v.me.mode) → Divided sc n w start lows o
  stays_divided w q same k less mode = record {
    kept = k;
    mine = half_stays w.me w (db w) s.mine same q.txns q.locks less mode;
    theirs = half_stays w.them w (db w) s.theirs same q.txns (ap (λ (x : NodeState). x.locks) q.them)
        (λ source. (sym (ap (λ (x : NodeState). is_source x.mode) q.them) ∙ source, λ p h. ap (λ (x : NodeState). owns x.pages p) q.them ∙ h))
        (λ t a. ap (λ (x : NodeState). is_source x.mode) q.them);
    is_serial = same ∙ s.is_serial;
    registers = registers_same sc (txn_at v) (txn_at w) start (o.first ++ o.later) (λ u _. at_same v w u q.txns) s.registers;
    permuted = subst (λ cs. IsPermutation cs (o.first ++ o.later)) (sym q.commits) s.permuted;
  }

  -- a start: all commits so far come before those of the migration
  pub starts_divided : (w : View) → Quiet v w → db w ≡ db v → Kept sc n w lows → is_source v.me.mode ≡ false → is_source w.me.mode ≡ true
      → is_source v.them.mode ≡ false → Divided sc n w start lows (record { first = o.first ++ o.later; later = [] })
  starts_divided w q same k off source beside =
      let m = serial sc start o.first in
      let all = serial sc start (o.first ++ o.later) in
      let is : all ≡ db v = serial-append sc start o.first o.later ∙ sym s.is_serial in
      let off_them : is_source w.them.mode ≡ false = ap (λ (x : NodeState). is_source x.mode) q.them ∙ beside in
      let on : base (is_source w.me.mode) all (db w) ≡ base (is_source v.me.mode) m (db v) =
      ap (λ b. base b all (db w)) source ∙ is ∙ sym (ap (λ b. base b m (db v)) off) in
      let on_them : base (is_source w.them.mode) all (db w) ≡ base (is_source v.them.mode) m (db v) =
      ap (λ b. base b all (db w)) off_them ∙ same ∙ sym (ap (λ b. base b m (db v)) beside) in
      record {
        kept = k;
        mine = record {
          same = λ _ j _. ap (λ z. get z j) (is ∙ sym same);
          aside = λ _. tt;
          runs = λ t a. let now = at_same v w t q.txns in
              follows_same (s.mine.runs t (subst (λ x. Stands x n) now a)) on now (λ p h. subst (λ xs. holds xs p t ≡ true) (sym q.locks) h);
        };
        theirs = record {
          same = λ h. absurd (false≢true (sym off_them ∙ h));
          aside = λ h. absurd (false≢true (sym off_them ∙ h));
          runs = λ t a. let now = at_same v w t q.txns in
              follows_same (s.theirs.runs t (subst (λ x. Stands x (other n)) now a)) on_them now
              (λ p h. subst (λ (x : NodeState). holds x.locks p t ≡ true) (sym q.them) h);
        };
        is_serial = same ∙ sym is;
        registers = subst (Registers sc (txn_at w) start) (sym (append-nil (o.first ++ o.later)))
            (registers_same sc (txn_at v) (txn_at w) start (o.first ++ o.later) (λ u _. at_same v w u q.txns) s.registers);
        permuted = subst (IsPermutation w.commits) (sym (append-nil (o.first ++ o.later)))
            (subst (λ cs. IsPermutation cs (o.first ++ o.later)) (sym q.commits) s.permuted);
      }
