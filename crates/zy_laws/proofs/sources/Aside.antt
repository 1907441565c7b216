-- Commits whose lone runs touch none of some keys: what they come to on a map that differs at these keys alone.
use Rattle.std.proofs.Common.{List, [], ap, false, refl, subst, suc, sym, true, ℕ, ◌++◌, ◌∙◌, ◌∷◌, ◌≡◌}
use Rattle.std.specs.Prelude.{Bool, None, Some, is_some, slice_get}
use Rattle.std.specs.FinMap.{get}
use Rattle.std.proofs.lemmas.Bool.{false≢true}
use Rattle.zy_isa.specs.Rows.{get_row}
use Rattle.zy_isa.specs.Scenario.{Scenario}
use Rattle.zy_isa.specs.declared.instr.Instr.{Instr}
use Rattle.zy_table.specs.Database.{Map, laid}
use Rattle.zy_table.specs.declared.effect.Effect.TheVariants.{Commits}
use Rattle.zy_table.specs.Effects.{effect_of}
use Rattle.zy_table.specs.Numbers.{has}
use Rattle.zy_table.specs.Run.{program_of}
use Rattle.zy_table.specs.Serial.{Registers, alone, serial}
use Rattle.zy_table.specs.declared.entry.CommitRecord.{CommitRecord}
use Rattle.zy_table.specs.State.{Txn}
use Rattle.zy_laws.proofs.places.Installing.{none_else}
use Rattle.zy_laws.proofs.serial.Committing.{alone_commit, alone_last}
use Rattle.zy_laws.proofs.serial.LoneRuns.{Agree, Lone, get-laid, lone, lone_alike, on_map, or_else}

-- a lone run that has come to its commit leaves its rows laid over the map, and its registers
pub lone_end : (m : Map) (program : List Instr) (n : ℕ) (i : Instr) → (lone m program n).over ≡ false
    → slice_get program (lone m program n).pc ≡ Some i → effect_of i (lone m program n).regs ≡ Commits
    → ((alone m program (suc n)).map ≡ laid (lone m program n).rows m) × ((alone m program (suc n)).regs ≡ (lone m program n).regs)
lone_end m program n i on next does =
    let run = on_map m program n on in
    let is = ap (slice_get program) run.pc ∙ next in
    let ends = ap (effect_of i) run.regs ∙ does in
    (alone_commit m program i (alone m program n) run.over is ends ∙ run.map, alone_last m program i (alone m program n) run.over is ends ∙ run.regs)

-- a lone run on m of `done` instructions, the last of which is a commit: it touches no key for which `here` is true, and leaves no
-- row at one
pub record Off (program : List Instr) (here : ℕ → Bool) (m : Map) (done : ℕ) : Type 0 where
  pub before : ℕ
  pub is : done ≡ suc before
  pub on : (lone m program before).over ≡ false
  pub instr : Instr
  pub next : slice_get program (lone m program before).pc ≡ Some instr
  pub does : effect_of instr (lone m program before).regs ≡ Commits
  pub keys : (k : ℕ) → has (lone m program before).keys k ≡ true → here k ≡ false
  pub rows : (k : ℕ) → is_some (get_row (lone m program before).rows k) ≡ true → here k ≡ false

-- such a run, and another map that differs from its map only at these keys
module _ (program : List Instr) (here : ℕ → Bool) (m e : Map) (done : ℕ) (agree : (k : ℕ) → here k ≡ false → get e k ≡ get m k)
    (o : Off program here m done) where
  -- the run on the other map is the same
  off_run : lone e program o.before ≡ lone m program o.before
  off_run =
      let same : Agree m e (lone m program o.before).keys = record { each = λ k h. agree k (o.keys k h) } in
      lone_alike m e program o.before o.on same

  -- and so it too touches none of these keys
  off_kept : Off program here e done
  off_kept = record {
    before = o.before;
    is = o.is;
    on = ap (λ (y : Lone). y.over) off_run ∙ o.on;
    instr = o.instr;
    next = ap (λ (y : Lone). slice_get program y.pc) off_run ∙ o.next;
    does = ap (λ (y : Lone). effect_of o.instr y.regs) off_run ∙ o.does;
    keys = λ k h. o.keys k (subst (λ (y : Lone). has y.keys k ≡ true) off_run h);
    rows = λ k h. o.rows k (subst (λ (y : Lone). is_some (get_row y.rows k) ≡ true) off_run h);
  }

-- what the run leaves: its rows laid over the map, and its registers
off_end : (program : List Instr) (here : ℕ → Bool) (m : Map) (done : ℕ) (o : Off program here m done)
    → ((alone m program done).map ≡ laid (lone m program o.before).rows m) × ((alone m program done).regs ≡ (lone m program o.before).regs)
off_end program here m done o =
    let h = lone_end m program o.before o.instr o.on o.next o.does in
    (ap (λ j. (alone m program j).map) o.is ∙ h.0, ap (λ j. (alone m program j).regs) o.is ∙ h.1)

-- at these keys the map stays as it was
off_inside : (program : List Instr) (here : ℕ → Bool) (m : Map) (done : ℕ) → Off program here m done → (k : ℕ) → here k ≡ true
    → get (alone m program done).map k ≡ get m k
off_inside program here m done o k is =
    let none : get_row (lone m program o.before).rows k ≡ None = none_else _ (λ h. false≢true (sym (o.rows k h) ∙ is)) in
    ap (λ z. get z k) (off_end program here m done o).0 ∙ get-laid (lone m program o.before).rows m k ∙ ap (λ z. or_else z (get m k)) none

-- at the others both maps come to the same
pub off_outside : (program : List Instr) (here : ℕ → Bool) (m e : Map) (done : ℕ) → ((k : ℕ) → here k ≡ false → get e k ≡ get m k)
    → Off program here m done → (k : ℕ) → here k ≡ false → get (alone e program done).map k ≡ get (alone m program done).map k
unfolding off_kept
off_outside program here m e done agree o k far =
    let run = off_run program here m e done agree o in
    let p = off_kept program here m e done agree o in
    ap (λ z. get z k) (off_end program here e done p).0 ∙ get-laid (lone e program o.before).rows e k
    ∙ ap (λ (y : Lone). or_else (get_row y.rows k) (get e k)) run ∙ ap (or_else (get_row (lone m program o.before).rows k)) (agree k far)
    ∙ sym (get-laid (lone m program o.before).rows m k) ∙ sym (ap (λ z. get z k) (off_end program here m done o).0)

-- commits, one by one from a map on, each of which touches none of these keys
abbrev pub Aside : Scenario → (ℕ → Bool) → Map → List CommitRecord → Type 0
Aside sc here m [] = Unit {0}
Aside sc here m (c ∷ cs) = Off (program_of sc c.txn) here m c.done × Aside sc here (alone m (program_of sc c.txn) c.done).map cs

-- a serial run of two lists is that of the second, from what the first leaves
pub serial-append : (sc : Scenario) (m : Map) (xs ys : List CommitRecord) → serial sc m (xs ++ ys) ≡ serial sc (serial sc m xs) ys
serial-append sc m [] ys = refl
serial-append sc m (c ∷ cs) ys = serial-append sc (alone m (program_of sc c.txn) c.done).map cs ys

-- a serial run of them leaves the map at these keys as it was
pub aside_inside : (sc : Scenario) (here : ℕ → Bool) (m : Map) (cs : List CommitRecord) → Aside sc here m cs → (k : ℕ) → here k ≡ true
    → get (serial sc m cs) k ≡ get m k
aside_inside sc here m [] a k is = refl
aside_inside sc here m (c ∷ cs) a k is =
    aside_inside sc here (alone m (program_of sc c.txn) c.done).map cs a.1 k is ∙ off_inside (program_of sc c.txn) here m c.done a.0 k is

-- commits that touch none of these keys touch none of fewer keys
pub aside_fewer : (sc : Scenario) (here less : ℕ → Bool) (m : Map) (cs : List CommitRecord) → ((k : ℕ) → here k ≡ false → less k ≡ false)
    → Aside sc here m cs → Aside sc less m cs
aside_fewer sc here less m [] fewer a = tt
aside_fewer sc here less m (c ∷ cs) fewer a =
    let o = a.0 in
    let p : Off (program_of sc c.txn) less m c.done = record {
      before = o.before;
      is = o.is;
      on = o.on;
      instr = o.instr;
      next = o.next;
      does = o.does;
      keys = λ k h. fewer k (o.keys k h);
      rows = λ k h. fewer k (o.rows k h);
    } in
    (p, aside_fewer sc here less (alone m (program_of sc c.txn) c.done).map cs fewer a.1)

-- and so do the first of them
pub aside_front : (sc : Scenario) (here : ℕ → Bool) (m : Map) (xs ys : List CommitRecord) → Aside sc here m (xs ++ ys) → Aside sc here m xs
aside_front sc here m [] ys a = tt
aside_front sc here m (c ∷ cs) ys a = (a.0, aside_front sc here (alone m (program_of sc c.txn) c.done).map cs ys a.1)

-- one more such commit at the end
pub aside_push : (sc : Scenario) (here : ℕ → Bool) (m : Map) (cs : List CommitRecord) (c : CommitRecord) → Aside sc here m cs
    → Off (program_of sc c.txn) here (serial sc m cs) c.done → Aside sc here m (cs ++ c ∷ [])
aside_push sc here m [] c a o = (o, tt)
aside_push sc here m (x ∷ xs) c a o = (a.0, aside_push sc here (alone m (program_of sc x.txn) x.done).map xs c a.1 o)

-- on another map that differs only at these keys the commits touch none of them either
pub aside_kept : (sc : Scenario) (here : ℕ → Bool) (m e : Map) (cs : List CommitRecord) → ((k : ℕ) → here k ≡ false → get e k ≡ get m k)
    → Aside sc here m cs → Aside sc here e cs
aside_kept sc here m e [] agree a = tt
aside_kept sc here m e (c ∷ cs) agree a =
    let program = program_of sc c.txn in (
      off_kept program here m e c.done agree a.0,
      aside_kept sc here (alone m program c.done).map (alone e program c.done).map cs (off_outside program here m e c.done agree a.0) a.1,
    )

-- at the other keys both serial runs come to the same
pub aside_outside : (sc : Scenario) (here : ℕ → Bool) (m e : Map) (cs : List CommitRecord) → ((k : ℕ) → here k ≡ false → get e k ≡ get m k)
    → Aside sc here m cs → (k : ℕ) → here k ≡ false → get (serial sc e cs) k ≡ get (serial sc m cs) k
aside_outside sc here m e [] agree a = agree
aside_outside sc here m e (c ∷ cs) agree a =
    let program = program_of sc c.txn in
    aside_outside sc here (alone m program c.done).map (alone e program c.done).map cs (off_outside program here m e c.done agree a.0) a.1

-- and each commit has the same registers in both
pub aside_registers : (sc : Scenario) (f : ℕ → Txn) (here : ℕ → Bool) (m e : Map) (cs : List CommitRecord) → ((k : ℕ) → here k ≡ false → get e k ≡ get m k)
    → Aside sc here m cs → Registers sc f m cs → Registers sc f e cs
unfolding off_kept
aside_registers sc f here m e [] agree a h = tt
aside_registers sc f here m e (c ∷ cs) agree a h =
    let program = program_of sc c.txn in
    let o = off_kept program here m e c.done agree a.0 in
    let same : (alone e program c.done).regs ≡ (alone m program c.done).regs = (off_end program here e c.done o).1
    ∙ ap (λ (y : Lone). y.regs) (off_run program here m e c.done agree a.0) ∙ sym (off_end program here m c.done a.0).1 in (
      (h.0.0, h.0.1 ∙ sym same),
      aside_registers sc f here (alone m program c.done).map (alone e program c.done).map cs (off_outside program here m e c.done agree a.0) a.1 h.1,
    )

-- where all of two lists have the registers of their lone runs, so have those of each
pub registers_parts : (sc : Scenario) (f : ℕ → Txn) (m : Map) (xs ys : List CommitRecord) → Registers sc f m (xs ++ ys)
    → Registers sc f m xs × Registers sc f (serial sc m xs) ys
registers_parts sc f m [] ys h = (tt, h)
registers_parts sc f m (c ∷ cs) ys h =
    let r = registers_parts sc f (alone m (program_of sc c.txn) c.done).map cs ys h.1 in ((h.0, r.0), r.1)

-- and the other way round
pub registers_both : (sc : Scenario) (f : ℕ → Txn) (m : Map) (xs ys : List CommitRecord) → Registers sc f m xs → Registers sc f (serial sc m xs) ys
    → Registers sc f m (xs ++ ys)
registers_both sc f m [] ys a b = b
registers_both sc f m (c ∷ cs) ys a b = (a.0, registers_both sc f (alone m (program_of sc c.txn) c.done).map cs ys a.1 b)
