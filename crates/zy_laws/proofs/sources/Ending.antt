-- A commit: at a source its rows change nothing that the commits elsewhere have touched, and elsewhere it comes last.
use Rattle.std.proofs.Common.{List, [], add-one, ap, append-nil, append_assoc, arith, false, inl, inr, refl, subst, sym, true, ℕ, ◌++◌, ◌+◌, ◌∙◌, ◌∷◌, ◌≡◌}
use Rattle.std.specs.Prelude.{Bool, None, Option, Some, if◌then◌else◌, is_some, slice_get, ◌==◌}
use Rattle.std.specs.FinMap.{get, nat_cmp-IsAntisymmetric, same_map}
use Rattle.std.specs.List.Sorted.{IsPermutation}
use Rattle.std.proofs.lemmas.List.Sorted.{IsPermutation-append_left, IsPermutation-middle, IsPermutation-push_more, IsPermutation-sym}
use Rattle.std.proofs.lemmas.Bool.{cases_Bool, cond_both, eqb-true, false≢true, false_from_ne_true}
use Rattle.std.proofs.lemmas.Bool.Decides.{nat_tests}
use Rattle.std.proofs.lemmas.Cmp.{nat_cmp_total}
use Rattle.zy_isa.specs.Rows.{get_row}
use Rattle.zy_isa.specs.declared.row.Row.{Row}
use Rattle.zy_isa.specs.Scenario.{Scenario}
use Rattle.zy_isa.specs.declared.node.Node.{Node}
use Rattle.zy_model.specs.Families.{is_source}
use Rattle.zy_table.specs.Change.{committed, txn_at}
use Rattle.zy_table.specs.Database.{Map, laid}
use Rattle.zy_table.specs.declared.effect.Effect.TheVariants.{Commits}
use Rattle.zy_table.specs.declared.entry.CommitRecord.{CommitRecord}
use Rattle.zy_table.specs.declared.status.Status.TheVariants.{Committed}
use Rattle.zy_table.specs.Effects.{effect_of}
use Rattle.zy_table.specs.Holders.{holds}
use Rattle.zy_table.specs.Numbers.{has, least}
use Rattle.zy_table.specs.Pages.{owns}
use Rattle.zy_table.specs.Run.{gone_pages, program_of}
use Rattle.zy_table.specs.Serial.{Registers, alone, is_committed, serial}
use Rattle.zy_table.specs.Take.{is_held}
use Rattle.zy_table.specs.State.{NodeState, Txn, View, other}
use Rattle.zy_model.specs.Wireframe.{page_of}
use Rattle.zy_table.proofs.LockLists.{holds-drop}
use Rattle.zy_laws.specs.SourceFirst.{Sorted}
use Rattle.zy_laws.proofs.locks.Locking.{Kept, Stay}
use Rattle.zy_laws.proofs.owner.PageCounts.{owns-times}
use Rattle.zy_laws.proofs.owner.Roles.{Owned}
use Rattle.zy_laws.proofs.places.Installing.{none_else, owns-installed}
use Rattle.zy_laws.proofs.places.PageValues.{db}
use Rattle.zy_laws.proofs.serial.Committing.{commit_db, committed_locks, committed_them, committed_txns, serial-push}
use Rattle.zy_laws.proofs.serial.Following.{Follows, keep_registers, registers_push}
use Rattle.zy_laws.proofs.serial.LoneRuns.{Lone, get-laid, or_else}
use Rattle.zy_laws.proofs.sources.Aside.{Off, aside_fewer, aside_inside, aside_kept, aside_outside, aside_push, aside_registers, lone_end}
use Rattle.zy_laws.proofs.sources.Aside.{registers_both, registers_parts, serial-append}
use Rattle.zy_laws.proofs.sources.Halves.{Divided, page_here, base, follows_agree}
use Rattle.zy_laws.proofs.walk.Conditions.{Runs}
use Rattle.zy_laws.proofs.walk.Txns.{IsAt, Stands, active_off, at_other, at_self, ended_far}
use Rattle.zy_laws.proofs.wireframe.OneWireframe.{one_of}

-- where no page of some rows has gone, each of them is here
rows_here : (x : NodeState) (rows : List Row) → least (gone_pages x rows) ≡ None → (k : ℕ) → is_some (get_row rows k) ≡ true
    → owns x.pages (page_of x.lows k) ≡ true
rows_here x [] all k is = absurd (false≢true is)
rows_here x (r ∷ rows) all k is =
    let p = page_of x.lows r.key in
    elim (cases_Bool (owns x.pages p)) [
      | inl own ↦
          let rest : least (gone_pages x rows) ≡ None = sym (ap (λ b. least (if b then gone_pages x rows else p ∷ gone_pages x rows)) own) ∙ all in
          cond_both (r.key == k) (Some r.value) (get_row rows k) (λ z. is_some z ≡ true → owns x.pages (page_of x.lows k) ≡ true)
          (λ e _. subst (λ z. owns x.pages (page_of x.lows z) ≡ true) (eqb-true _ _ e) own) (λ _ h. rows_here x rows rest k h) is
      | inr gone ↦ let h = sym (ap (λ b. least (if b then gone_pages x rows else p ∷ gone_pages x rows)) gone) ∙ all in absurd (cc)
    ]

-- where both maps are one, the base is that map
base_same : (b : Bool) (m : Map) → base b m m ≡ m
base_same true m = refl
base_same false m = refl

-- where the first has no value, the second is taken
or_none : (a : Option ℕ) (b : Option ℕ) → a ≡ None → or_else a b ≡ b
or_none a b e = ap (λ z. or_else z b) e

-- no page is at both nodes
pub not_both : (v : View) → Owned v → (p : ℕ) → owns v.me.pages p ≡ true → owns v.them.pages p ≡ true → ⊥
not_both v o p a b =
    let one = owns-times p v.me.pages a in
    let two = owns-times p v.them.pages b in
    let k = o.once p in
    grind (arith, nat_tests, k)

-- a state whose commits are sorted, and a commit of t whose rows' pages are here
module _ (sc : Scenario) (n : Node) (v : View) (start : Map) (lows : List ℕ) (o : Sorted) (t : ℕ) (s : Divided sc n v start lows o)
    (runs : Runs sc n t Commits v) (all : least (gone_pages v.me (txn_at v t).rows) ≡ None) where
  -- t before its commit
  abbrev x : Txn
  x = txn_at v t

  -- the record of the commit
  abbrev c : CommitRecord
  c = record { txn = t; done = (txn_at v t).done + 1 }

  -- what the commits at sources have come to
  abbrev m : Map
  m = serial sc start o.first

  -- the view after the commit
  abbrev w : View
  w = committed t v

  -- what n runs on
  abbrev on : Map
  on = base (is_source v.me.mode) m (db v)

  -- t runs at n
  at : IsAt v t n
  at = (runs.active, runs.here)

  -- the page of each private row is here
  here : (k : ℕ) → is_some (get_row x.rows k) ≡ true → page_here v.me lows k ≡ true
  here k is = subst (λ l. owns v.me.pages (page_of l k) ≡ true) (s.kept.mine.newest (s.kept.mine.busy t at)) (rows_here v.me x.rows all k is)

  -- a key whose page is not here has no private row
  bare : (k : ℕ) → page_here v.me lows k ≡ false → get_row x.rows k ≡ None
  bare k far = none_else _ (λ is. false≢true (sym far ∙ here k is))

  -- nor has one whose page another transaction has locked here
  bare_mine : (u k : ℕ) → (u ≡ t → ⊥) → holds v.me.locks (page_of lows k) u ≡ true → get_row x.rows k ≡ None
  bare_mine u k far h = none_else _ (λ is. far (sym (s.kept.mine.apart (page_of lows k) t u (s.kept.mine.private t k at is) h)))

  -- no page is at both nodes
  apart : (p : ℕ) → owns v.me.pages p ≡ true → owns v.them.pages p ≡ true → ⊥
  apart = not_both v s.kept.inv.owned

  -- nor has a key whose page is at the other node
  bare_theirs : (k : ℕ) → page_here v.them lows k ≡ true → get_row x.rows k ≡ None
  bare_theirs k there = none_else _ (λ is. apart (page_of lows k) (here k is) there)

  -- after the commit the database has the private rows, else what it had
  after : (k : ℕ) → get (db w) k ≡ or_else (get_row x.rows k) (get (db v) k)
  after = commit_db sc n v lows t s.kept at here

  -- the lone run of t on what n runs on leaves the private rows over it, and t's registers
  ends : ((alone on (program_of sc t) (x.done + 1)).map ≡ laid x.rows on) × ((alone on (program_of sc t) (x.done + 1)).regs ≡ x.regs)
  ends =
      let f = s.mine.runs t at in
      let program = program_of sc t in
      let e = lone_end on program x.done runs.instr (ap (λ (z : Lone). z.over) f.run)
      (ap (λ (z : Lone). slice_get program z.pc) f.run ∙ runs.next) (ap (λ (z : Lone). effect_of runs.instr z.regs) f.run ∙ runs.does) in (
        ap (λ j. (alone on program j).map) (add-one x.done) ∙ e.0 ∙ ap (λ (z : Lone). laid z.rows on) f.run,
        ap (λ j. (alone on program j).regs) (add-one x.done) ∙ e.1 ∙ ap (λ (z : Lone). z.regs) f.run,
      )

  -- t after its commit
  abbrev y : Txn
  y = record (txn_at v t) { status = Committed; rows = []; done = (txn_at v t).done + 1 }

  -- whoever runs after the commit is another
  far_at : (u : ℕ) (i : Node) → IsAt w u i → u ≡ t → ⊥
  far_at = ended_far v w t y (committed_txns t v) at.0 refl

  -- the others are as they were
  now : (u : ℕ) → (u ≡ t → ⊥) → txn_at w u ≡ txn_at v u
  now u far = at_other v w t u y (committed_txns t v) far

  -- t is committed with the registers of its lone run
  new_regs : (is_committed (txn_at w t).status ≡ true) × ((txn_at w t).regs ≡ (alone on (program_of sc t) (x.done + 1)).regs)
  new_regs =
      let self : txn_at w t ≡ y = at_self v w t y (committed_txns t v) at.0 in
      (ap (λ (z : Txn). is_committed z.status) self, ap (λ (z : Txn). z.regs) self ∙ sym ends.1)

  -- those that have committed before still have the registers of their lone runs
  old_regs : Registers sc (txn_at w) start (o.first ++ o.later)
  old_regs = keep_registers sc v w start (o.first ++ o.later) t y (committed_txns t v) (active_off (txn_at v t).status at.0) s.registers

  -- at a key without a private row a base has what it had
  base_bare : (b : Bool) (e : Map) (k : ℕ) → get e k ≡ get m k → get_row x.rows k ≡ None → get (base b e (db w)) k ≡ get (base b m (db v)) k
  base_bare true e k same none = same
  base_bare false e k same none = after k ∙ or_none (get_row x.rows k) (get (db v) k) none

  -- who else runs here has the same on the new base where it has locked the page
  pub mine_agree : (e : Map) → ((k : ℕ) → get_row x.rows k ≡ None → get e k ≡ get m k) → (u : ℕ) → IsAt w u n → (k : ℕ)
      → holds v.me.locks (page_of lows k) u ≡ true → get (base (is_source v.me.mode) e (db w)) k ≡ get (base (is_source v.me.mode) m (db v)) k
  mine_agree e same u a k h = let none = bare_mine u k (far_at u n a) h in base_bare (is_source v.me.mode) e k (same k none) none

  -- and so it follows the run on it
  mine_follow : (e : Map) → ((k : ℕ) → get_row x.rows k ≡ None → get e k ≡ get m k) → (u : ℕ) → IsAt w u n
      → Follows (program_of sc u) (base (is_source v.me.mode) e (db w)) lows w.me.locks u (txn_at w u)
  mine_follow e same u a =
      let far = far_at u n a in
      subst (Follows (program_of sc u) (base (is_source v.me.mode) e (db w)) lows w.me.locks u) (sym (now u far))
      (follows_agree (base (is_source v.me.mode) e (db w)) (s.mine.runs u (subst (λ z. Stands z n) (now u far) a)) (mine_agree e same u a)
      (λ p h. ap (λ xs. holds xs p u) (committed_locks t v) ∙ holds-drop v.me.locks p t u far ∙ h))

  -- who runs at the other node, too
  their_follow : (e : Map) → ((u k : ℕ) → holds v.them.locks (page_of lows k) u ≡ true
      → get (base (is_source v.them.mode) e (db w)) k ≡ get (base (is_source v.them.mode) m (db v)) k) → (u : ℕ) → IsAt w u (other n)
      → Follows (program_of sc u) (base (is_source v.them.mode) e (db w)) lows w.them.locks u (txn_at w u)
  their_follow e same u a =
      let far = far_at u (other n) a in
      subst (Follows (program_of sc u) (base (is_source v.them.mode) e (db w)) lows w.them.locks u) (sym (now u far))
      (follows_agree (base (is_source v.them.mode) e (db w)) (s.theirs.runs u (subst (λ z. Stands z (other n)) (now u far) a)) (same u)
      (λ p h. ap (λ (z : NodeState). holds z.locks p u) (committed_them t v) ∙ h))

  -- a key whose page is locked at the other node, which keeps locked pages, has the same there
  locked_there : (e : Map) → ((k : ℕ) → get_row x.rows k ≡ None → get e k ≡ get m k) → Stay sc v.them.mode → (u k : ℕ)
      → holds v.them.locks (page_of lows k) u ≡ true → get (base (is_source v.them.mode) e (db w)) k ≡ get (base (is_source v.them.mode) m (db v)) k
  locked_there e same stay u k h =
      let none = bare_theirs k (s.kept.theirs.kept (page_of lows k) u stay h) in base_bare (is_source v.them.mode) e k (same k none) none

  -- the commits that come first, and this one after them
  abbrev e : Map
  e = serial sc start (o.first ++ c ∷ [])

  -- what these come to, where n runs on what the first ones come to
  first_has : on ≡ m → (k : ℕ) → get e k ≡ or_else (get_row x.rows k) (get m k)
  first_has is k =
      ap (λ z. get z k) (serial-push sc start o.first c ∙ sym (ap (λ d. (alone d (program_of sc t) (x.done + 1)).map) is)
      ∙ ends.0 ∙ ap (laid x.rows) is)
      ∙ get-laid x.rows m k

  -- and their registers
  first_regs : on ≡ m → Registers sc (txn_at w) start o.first → Registers sc (txn_at w) start (o.first ++ c ∷ [])
  first_regs is h = registers_push sc (txn_at w) start o.first c h
      (new_regs.0, new_regs.1 ∙ ap (λ d. (alone d (program_of sc t) (x.done + 1)).regs) is)

  -- at a source n runs on what the first ones come to
  source_on : is_source v.me.mode ≡ true → on ≡ m
  source_on source = ap (λ b. base b m (db v)) source

  -- and so this commit changes it only where it has a private row
  pub source_plain : is_source v.me.mode ≡ true → (k : ℕ) → get_row x.rows k ≡ None → get e k ≡ get m k
  source_plain source k none = first_has (source_on source) k ∙ or_none (get_row x.rows k) (get m k) none

  -- only where the page is here
  pub source_agree : is_source v.me.mode ≡ true → (k : ℕ) → page_here v.me lows k ≡ false → get e k ≡ get m k
  source_agree source k far = source_plain source k (bare k far)

  -- who runs at the other node has the same where it has locked the page, after a commit at a source
  pub source_there : is_source v.me.mode ≡ true → (u k : ℕ) → holds v.them.locks (page_of lows k) u ≡ true
      → get (base (is_source v.them.mode) e (db w)) k ≡ get (base (is_source v.them.mode) m (db v)) k
  source_there source = locked_there e (source_plain source) (inr (one_of v s.kept.inv.roles source))

  -- and after another one
  pub last_there : (u k : ℕ) → holds v.them.locks (page_of lows k) u ≡ true
      → get (base (is_source v.them.mode) m (db w)) k ≡ get (base (is_source v.them.mode) m (db v)) k
  last_there u k h = elim (cases_Bool (is_source v.them.mode)) [
    | inl source ↦ ap (λ b. get (base b m (db w)) k) source ∙ sym (ap (λ b. get (base b m (db v)) k) source)
    | inr away ↦ locked_there m (λ _ _. refl) (inr away) u k h
  ]

  -- a commit at a source comes before those elsewhere
  pub source_commit : is_source v.me.mode ≡ true → Kept sc n w lows → Divided sc n w start lows (record { first = o.first ++ c ∷ []; later = o.later })
  unfolding committed
  source_commit source kept =
      let off : is_source v.them.mode ≡ false = one_of v s.kept.inv.roles source in
      let on_is : on ≡ m = source_on source in
      let has_e = first_has on_is in
      let agree : (k : ℕ) → page_here v.me lows k ≡ false → get e k ≡ get m k = source_agree source in
      let same : (k : ℕ) → page_here v.me lows k ≡ true → get e k ≡ get (db w) k = λ k there.
      has_e k ∙ ap (or_else (get_row x.rows k)) (s.mine.same source k there) ∙ sym (after k) in
      let a = s.mine.aside source in
      let b = aside_kept sc (page_here v.me lows) m e o.later agree a in
      let owned : (p : ℕ) → owns w.me.pages p ≡ owns v.me.pages p = owns-installed v.me.lows x.rows v.me.pages in
      let parts = registers_parts sc (txn_at w) start o.first o.later old_regs in
      record {
        kept = kept;
        mine = record {
          same = λ _ k h. same k (sym (owned (page_of lows k)) ∙ h);
          aside = λ _. aside_fewer sc (page_here v.me lows) (page_here w.me lows) e o.later (λ k far. owned (page_of lows k) ∙ far) b;
          runs = mine_follow e (source_plain source);
        };
        theirs = record {
          same = λ h. absurd (false≢true (sym off ∙ h));
          aside = λ h. absurd (false≢true (sym off ∙ h));
          runs = their_follow e (source_there source);
        };
        is_serial = same_map nat_cmp_total nat_cmp-IsAntisymmetric _ _ (λ k. elim (cases_Bool (page_here v.me lows k)) [
          | inl there ↦ sym (same k there) ∙ sym (aside_inside sc (page_here v.me lows) e o.later b k there)
          | inr far ↦ after k ∙ or_none (get_row x.rows k) (get (db v) k) (bare k far) ∙ ap (λ z. get z k) s.is_serial
              ∙ sym (aside_outside sc (page_here v.me lows) m e o.later agree a k far)
        ]);
        registers = registers_both sc (txn_at w) start (o.first ++ c ∷ []) o.later
            (first_regs on_is parts.0)
            (aside_registers sc (txn_at w) (page_here v.me lows) m e o.later agree a parts.1);
        permuted = subst (IsPermutation (v.commits ++ c ∷ [])) (sym (append_assoc o.first (c ∷ []) o.later))
            (IsPermutation-push_more v.commits (o.first ++ o.later) (o.first ++ c ∷ o.later) c s.permuted
            (IsPermutation-sym (o.first ++ c ∷ o.later) (c ∷ (o.first ++ o.later)) (IsPermutation-middle o.first c o.later)));
      }

  -- a commit elsewhere comes last
  pub last_commit : is_source v.me.mode ≡ false → Kept sc n w lows → Divided sc n w start lows (record { first = o.first; later = o.later ++ c ∷ [] })
  unfolding committed
  last_commit off kept =
      let program = program_of sc t in
      let on_is : on ≡ db v = ap (λ b. base b m (db v)) off in
      let f : Follows program (db v) lows v.me.locks t x = subst (λ d. Follows program d lows v.me.locks t x) on_is (s.mine.runs t at) in
      let aside : Off program (page_here v.them lows) (db v) (x.done + 1) = record {
        before = x.done;
        is = add-one x.done;
        on = ap (λ (z : Lone). z.over) f.run;
        instr = runs.instr;
        next = ap (λ (z : Lone). slice_get program z.pc) f.run ∙ runs.next;
        does = ap (λ (z : Lone). effect_of runs.instr z.regs) f.run ∙ runs.does;
        keys = λ k h.
            let mine = s.kept.mine.kept (page_of lows k) t (inr off) (f.covered k (subst (λ (z : Lone). has z.keys k ≡ true) f.run h)) in
            false_from_ne_true _ (λ there. apart (page_of lows k) mine there);
        rows = λ k h.
            let mine = here k (subst (λ (z : Lone). is_some (get_row z.rows k) ≡ true) f.run h) in
            false_from_ne_true _ (λ there. apart (page_of lows k) mine there);
      } in
      let laid_over : db w ≡ laid x.rows (db v) = same_map nat_cmp_total nat_cmp-IsAntisymmetric _ _ (λ k. after k ∙ sym (get-laid x.rows (db v) k)) in
      record {
        kept = kept;
        mine = record {
          same = λ h. absurd (false≢true (sym off ∙ h));
          aside = λ h. absurd (false≢true (sym off ∙ h));
          runs = mine_follow m (λ k _. refl);
        };
        theirs = record {
          same = λ source k there. s.theirs.same source k there ∙ sym (after k ∙ or_none (get_row x.rows k) (get (db v) k) (bare_theirs k there));
          aside = λ source. aside_push sc (page_here v.them lows) m o.later c (s.theirs.aside source)
              (subst (λ z. Off program (page_here v.them lows) z (x.done + 1)) s.is_serial aside);
          runs = their_follow m last_there;
        };
        is_serial = laid_over ∙ sym (ap (laid x.rows) on_is) ∙ sym ends.0 ∙ ap (λ d. (alone d program (x.done + 1)).map) (on_is ∙ s.is_serial)
            ∙ sym (serial-push sc m o.later c);
        registers = subst (Registers sc (txn_at w) start) (append_assoc o.first o.later (c ∷ []))
            (registers_push sc (txn_at w) start (o.first ++ o.later) c old_regs
            (new_regs.0, new_regs.1 ∙ ap (λ d. (alone d program (x.done + 1)).regs) (on_is ∙ s.is_serial ∙ sym (serial-append sc start o.first o.later))));
        permuted = subst (IsPermutation (v.commits ++ c ∷ [])) (append_assoc o.first o.later (c ∷ []))
            (IsPermutation-append_left (c ∷ []) v.commits (o.first ++ o.later) s.permuted);
      }

  -- where locked pages stay, a commit may come last in the one list of all commits
  pub held_commit : is_held sc.rule ≡ true → o.later ≡ [] → Kept sc n w lows → Divided sc n w start lows (record { first = o.first ++ c ∷ []; later = [] })
  unfolding committed
  held_commit held none kept =
      let d_is : db v ≡ m = s.is_serial ∙ ap (serial sc m) none in
      let on_is : on ≡ m = ap (base (is_source v.me.mode) m) d_is ∙ base_same (is_source v.me.mode) m in
      let has_e = first_has on_is in
      let plain : (k : ℕ) → get_row x.rows k ≡ None → get e k ≡ get m k = λ k none. has_e k ∙ or_none (get_row x.rows k) (get m k) none in
      let is : db w ≡ e = same_map nat_cmp_total nat_cmp-IsAntisymmetric _ _
      (λ k. after k ∙ ap (λ z. or_else (get_row x.rows k) (get z k)) d_is ∙ sym (has_e k)) in
      let all : o.first ++ o.later ≡ o.first = ap (λ xs. o.first ++ xs) none ∙ append-nil o.first in
      record {
        kept = kept;
        mine = record { same = λ _ k _. ap (λ z. get z k) (sym is); aside = λ _. tt; runs = mine_follow e plain };
        theirs = record { same = λ _ k _. ap (λ z. get z k) (sym is); aside = λ _. tt; runs = their_follow e (locked_there e plain (inl held)) };
        is_serial = is;
        registers = subst (Registers sc (txn_at w) start) (sym (append-nil (o.first ++ c ∷ [])))
            (first_regs on_is (subst (Registers sc (txn_at w) start) all old_regs));
        permuted = subst (IsPermutation (v.commits ++ c ∷ [])) (sym (append-nil (o.first ++ c ∷ [])))
            (IsPermutation-append_left (c ∷ []) v.commits o.first (subst (IsPermutation v.commits) all s.permuted));
      }
