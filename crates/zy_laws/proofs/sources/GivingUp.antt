-- A transaction that its own program aborts gives up in its lone run, too.
use Rattle.std.proofs.Common.{List, [], add-one, ap, false, inl, inr, length, refl, subst, sym, true, ℕ, ◌++◌, ◌∙◌, ◌∷◌, ◌≡◌}
use Rattle.std.specs.Prelude.{Bool, None, Option, Some, is_some, nat_le, nat_lt, not, slice_get, ◌==◌}
use Rattle.std.specs.FinMap.{get}
use Rattle.std.proofs.lemmas.Bool.{cond_both, eq-eqb, eqb-true, false≢true, not-false, or_cases, or_left}
use Rattle.zy_isa.specs.Limits.{max_key}
use Rattle.zy_isa.specs.Rows.{get_row}
use Rattle.zy_isa.specs.Scenario.{Scenario}
use Rattle.zy_isa.specs.declared.instr.Instr.{Instr}
use Rattle.zy_isa.specs.declared.instr.Reg.{Reg}
use Rattle.zy_isa.specs.declared.node.Node.{Node}
use Rattle.zy_model.specs.Locks.{conflict}
use Rattle.zy_model.specs.Table.{is_waiting, may_pull, may_split}
use Rattle.zy_model.specs.Wireframe.{page_of}
use Rattle.zy_model.specs.declared.lock.LockKind.TheVariants.{Exclusive}
use Rattle.zy_table.specs.Change.{locked, txn_at}
use Rattle.zy_table.specs.Client.{is_active}
use Rattle.zy_table.specs.Database.{Map, laid}
use Rattle.zy_table.specs.declared.access.Access.{Access}
use Rattle.zy_table.specs.declared.access.Access.TheVariants.{Inserts, Reads, Writes}
use Rattle.zy_table.specs.declared.effect.Effect.{Effect}
use Rattle.zy_table.specs.declared.effect.Effect.TheVariants.{Aborts, Accesses, Commits, Jumps, Sets, Sums}
use Rattle.zy_table.specs.Effects.{effect_of}
use Rattle.zy_table.specs.Numbers.{has, least}
use Rattle.zy_table.specs.Pages.{owns}
use Rattle.zy_table.specs.Ranges.{range_pages}
use Rattle.zy_table.specs.Run.{abort_step, absent_step, access_step, commit_or_gone, commit_step, effect_step, first_absent, first_taken, full_step}
use Rattle.zy_table.specs.Run.{gone_pages, has_room, insert_step, instr_step, is_there, jump_step, key_step, lock_of, page_step, program_of, range_step}
use Rattle.zy_table.specs.Run.{read_step, run_step, same_node, set_step, split_step, sum_or_asks, sum_or_waits, sum_step, write_step}
use Rattle.zy_table.specs.Serial.{Alone, alone, alone_effect, alone_instr, alone_step, gives_up, goes_on}
use Rattle.zy_table.specs.State.{Lock, Move, Txn, View}
use Rattle.zy_laws.specs.SourceFirst.{Sorted}
use Rattle.zy_laws.specs.Views.{GivesUp, is_by_program}
use Rattle.zy_laws.proofs.serial.Following.{Follows}
use Rattle.zy_laws.proofs.serial.LoneRuns.{Agree, Lone, OnMap, agree_back, agree_front, get-laid, lone, lone_alike, lone_at, on_map, or_else}
use Rattle.zy_laws.proofs.sources.Going.{mine_on, there_on}
use Rattle.zy_laws.proofs.sources.Halves.{Divided}
use Rattle.zy_laws.proofs.walk.Conditions.{Free}
use Rattle.zy_laws.proofs.walk.Txns.{IsAt}

-- the lone run on a map that stands where transaction x does
abbrev stands_at : Map → Txn → Alone
stands_at m x = goes_on (laid x.rows m) x.regs x.pc

-- x gives up with effect e, on each map that has what d has at the keys that it looks at, whose pages are here
pub record Gives (v : View) (d : Map) (x : Txn) (e : Effect) : Type 0 where
  pub looks : List ℕ
  pub ends : (m : Map) → Agree d m looks → alone_effect m e (stands_at m x) ≡ gives_up m (stands_at m x)
  pub here : (k : ℕ) → has looks k ≡ true → owns v.me.pages (page_of v.me.lows k) ≡ true

-- of a step that does not end in such an abort nothing is to be shown
abbrev Shows : View → Map → Txn → Effect → Move → Type 0
Shows v d x e z = is_by_program z.outcome ≡ true → Gives v d x e

-- without a look
blind : {v : View} {d : Map} {x : Txn} {e : Effect} → ((m : Map) → alone_effect m e (stands_at m x) ≡ gives_up m (stands_at m x)) → Gives v d x e
blind ends = record { looks = []; ends = λ m _. ends m; here = λ k h. absurd (false≢true h) }

-- at one key
at_key : {v : View} {d : Map} {x : Txn} {e : Effect} (k : ℕ) → owns v.me.pages (page_of v.me.lows k) ≡ true
    → ((m : Map) → get m k ≡ get d k → alone_effect m e (stands_at m x) ≡ gives_up m (stands_at m x)) → Gives v d x e
at_key {v = v} k own ends = record {
  looks = k ∷ [];
  ends = λ m a. ends m (a.each k (or_left _ _ (eq-eqb k k refl)));
  here = λ j h. elim (or_cases (k == j) false h) [
    | inl same ↦ subst (λ z. owns v.me.pages (page_of v.me.lows z) ≡ true) (eqb-true k j same) own
    | inr none ↦ absurd (false≢true none)
  ];
}

-- no page is such an abort
absent_other : (t p : ℕ) (v : View) → is_by_program (absent_step t p v).outcome ≡ true → ⊥
unfolding absent_step abort_step
absent_other t p v =
    cond_both (not (may_pull v.me.mode)) _ _ (λ (z : Move). is_by_program z.outcome ≡ true → ⊥) (λ _ is. false≢true is)
    (λ _. cond_both (has v.me.asked p) _ _ (λ (z : Move). is_by_program z.outcome ≡ true → ⊥) (λ _ is. false≢true is) (λ _ is. false≢true is))

-- nor is a commit
commit_other : (t : ℕ) (gone : Option ℕ) (v : View) → is_by_program (commit_or_gone t gone v).outcome ≡ true → ⊥
unfolding commit_or_gone abort_step
commit_other t (Some p) v is = false≢true is
commit_other t None v is = false≢true is

-- nor a full page
full_other : (sc : Scenario) (t k p : ℕ) (v : View) → is_by_program (full_step sc t k p v).outcome ≡ true → ⊥
unfolding full_step abort_step split_step
full_other sc t k p v =
    cond_both (not (may_split v.me.mode)) _ _ (λ (z : Move). is_by_program z.outcome ≡ true → ⊥) (λ _ is. false≢true is)
    (λ _. cond_both (nat_le sc.pages (length v.me.lows)) _ _ (λ (z : Move). is_by_program z.outcome ≡ true → ⊥) (λ _ is. false≢true is) (λ _ is. false≢true is))

-- nor a sum over keys
waits_other : (t : ℕ) (r : Reg) (a b : ℕ) (taken : Option ℕ) (v : View) → is_by_program (sum_or_waits t r a b taken v).outcome ≡ true → ⊥
unfolding sum_or_waits sum_step set_step
waits_other t r a b (Some p) v is = false≢true is
waits_other t r a b None v is = false≢true is

-- whose pages are here, or not
asks_other : (t : ℕ) (r : Reg) (a b : ℕ) (absent : Option ℕ) (v : View) → is_by_program (sum_or_asks t r a b absent v).outcome ≡ true → ⊥
unfolding sum_or_asks
asks_other t r a b (Some p) v is = absent_other t p v is
asks_other t r a b None v is = waits_other t r a b (first_taken v.me.locks t (range_pages v.me.lows a b)) v is

-- transaction t, which runs at n
module _ (sc : Scenario) (n : Node) (v : View) (start : Map) (lows : List ℕ) (o : Sorted) (s : Divided sc n v start lows o) (t : ℕ) (at : IsAt v t n) where
  -- t
  abbrev x : Txn
  x = txn_at v t

  -- what it runs on
  abbrev d : Map
  d = mine_on sc n v start lows o s

  -- whether a row is there, on a map that has what d has at its key
  there_is : (m : Map) (k : ℕ) → Free t k Exclusive v → get m k ≡ get d k → (b : Bool) → is_there k (page_of v.me.lows k) v.me x ≡ b
      → is_some (get (laid x.rows m) k) ≡ b
  there_is m k f same b is =
      ap (λ z. is_some z) (get-laid x.rows m k) ∙ ap (λ z. is_some (or_else (get_row x.rows k) z)) same
      ∙ there_on sc n v start lows o s t k Exclusive at f ∙ is

  -- an access whose page is here and free
  access_gives : (i : Access) (k : ℕ) → nat_lt max_key k ≡ false → owns v.me.pages (page_of v.me.lows k) ≡ true
      → conflict v.me.locks (page_of v.me.lows k) t (lock_of i) ≡ false
      → Shows v d x (Accesses i k) (access_step sc t i k (page_of v.me.lows k) (locked t (page_of v.me.lows k) (lock_of i) v))
  unfolding access_step read_step write_step insert_step locked txn_at abort_step
  access_gives (Reads r) k near own free = λ is. absurd (false≢true is)
  access_gives (Writes value) k near own free =
      cond_both (is_there k (page_of v.me.lows k) v.me x) _ _ (Shows v d x (Accesses (Writes value) k)) (λ _ is. absurd (false≢true is))
      (λ off _. at_key k own (λ m same.
      let none = there_is m k (record { small = near; here = own; free = free }) same false off in rw (near, none) refl))
  access_gives (Inserts value) k near own free =
      cond_both (is_there k (page_of v.me.lows k) v.me x) _ _ (Shows v d x (Accesses (Inserts value) k))
      (λ on _. at_key k own (λ m same.
      let there = there_is m k (record { small = near; here = own; free = free }) same true on in rw (near, there) refl))
      (λ _. cond_both (has_room sc (page_of v.me.lows k) v.me x) _ _ (Shows v d x (Accesses (Inserts value) k)) (λ _ is. absurd (false≢true is))
      (λ _ is. absurd (full_other sc t k (page_of v.me.lows k) (locked t (page_of v.me.lows k) Exclusive v) is)))

  -- an access to a key
  page_gives : (i : Access) (k : ℕ) → nat_lt max_key k ≡ false → Shows v d x (Accesses i k) (page_step sc t i k (page_of v.me.lows k) v)
  unfolding page_step
  page_gives i k near =
      cond_both (not (owns v.me.pages (page_of v.me.lows k))) _ _ (Shows v d x (Accesses i k))
      (λ _ is. absurd (absent_other t (page_of v.me.lows k) v is))
      (λ own. cond_both (conflict v.me.locks (page_of v.me.lows k) t (lock_of i)) _ _ (Shows v d x (Accesses i k)) (λ _ is. absurd (false≢true is))
      (access_gives i k near (not-false _ own)))

  -- each effect
  effect_gives : (e : Effect) → Shows v d x e (effect_step sc t e v)
  unfolding effect_step set_step jump_step commit_step abort_step key_step range_step
  effect_gives (Sets r value) = λ is. absurd (false≢true is)
  effect_gives (Jumps taken to) = λ is. absurd (false≢true is)
  effect_gives (Accesses i k) =
      cond_both (nat_lt max_key k) _ _ (Shows v d x (Accesses i k)) (λ far _. blind (λ m. rw far refl)) (page_gives i k)
  effect_gives (Sums r a b) =
      cond_both (nat_lt b a) _ _ (Shows v d x (Sums r a b)) (λ _ is. absurd (false≢true is))
      (λ rises. cond_both (nat_lt max_key b) _ _ (Shows v d x (Sums r a b)) (λ far _. blind (λ m. rw (rises, far) refl))
      (λ _ is. absurd (asks_other t r a b (first_absent v.me.pages (range_pages v.me.lows a b)) v is)))
  effect_gives Commits = λ is. absurd (commit_other t (least (gone_pages v.me x.rows)) v is)
  effect_gives Aborts = λ _. blind (λ m. refl)

  -- the next instruction
  pub record Next (i : Option Instr) : Type 0 where
    pub instr : Instr
    pub is : i ≡ Some instr
    pub gives : Gives v d x (effect_of instr x.regs)

  -- if there is one
  instr_gives : (i : Option Instr) → is_by_program (instr_step sc t i x.regs v).outcome ≡ true → Next i
  unfolding instr_step
  instr_gives None is = absurd (false≢true is)
  instr_gives (Some i) is = record { instr = i; is = refl; gives = effect_gives (effect_of i x.regs) is }

  -- the step of a run
  pub run_gives : is_by_program (run_step sc n t v).outcome ≡ true → Next (slice_get (program_of sc t) x.pc)
  unfolding run_step
  run_gives =
      cond_both (not (is_active x.status)) _ _ (λ (z : Move). is_by_program z.outcome ≡ true → Next (slice_get (program_of sc t) x.pc))
      (λ _ is. absurd (false≢true is))
      (λ _. cond_both (not (same_node x.node n)) _ _ (λ (z : Move). is_by_program z.outcome ≡ true → Next (slice_get (program_of sc t) x.pc))
      (λ _ is. absurd (false≢true is))
      (λ _. cond_both (is_waiting v.me.mode) _ _ (λ (z : Move). is_by_program z.outcome ≡ true → Next (slice_get (program_of sc t) x.pc))
      (λ _ is. absurd (false≢true is)) (λ _. instr_gives (slice_get (program_of sc t) x.pc))))

-- a transaction that follows its lone run and gives up does so on each map that has the same at the keys that it has touched and looks at
pub gives_alone : {lows : List ℕ} {locks : List Lock} {t : ℕ} (v : View) (d m : Map) (program : List Instr) (x : Txn) (i : Instr)
    → (f : Follows program d lows locks t x) → slice_get program x.pc ≡ Some i → (g : Gives v d x (effect_of i x.regs)) → Agree d m (g.looks ++ f.keys)
    → GivesUp program m x
unfolding alone_step alone_instr
gives_alone v d m program x i f is g a =
    let on : (lone d program x.done).over ≡ false = ap (λ (z : Lone). z.over) f.run in
    let keys : (lone d program x.done).keys ≡ f.keys = ap (λ (z : Lone). z.keys) f.run in
    let same : lone m program x.done ≡ lone_at x f.keys =
    lone_alike d m program x.done on (subst (Agree d m) (sym keys) (agree_back d m g.looks f.keys a)) ∙ f.run in
    let run = subst (λ z. OnMap m z (alone m program x.done)) same (on_map m program x.done (ap (λ (z : Lone). z.over) same)) in
    let at : alone m program x.done ≡ stands_at m x = λ j. record { map = run.map j; regs = run.regs j; pc = run.pc j; over = run.over j } in
    ap (alone m program) (add-one x.done) ∙ ap (alone_step m program) at ∙ ap (λ z. alone_instr m z (stands_at m x)) is
    ∙ g.ends m (agree_front d m g.looks f.keys a) ∙ sym (ap (gives_up m) at)
