-- Each transaction that runs has come as far as its lone run on the database, which is that of the committed transactions.
use Rattle.std.proofs.Common.{List, [], ap, false, inl, inr, subst, sym, true, ℕ, ◌++◌, ◌∙◌, ◌∷◌, ◌≡◌}
use Rattle.std.specs.Prelude.{slice_set}
use Rattle.std.proofs.lemmas.Bool.{cases_eq, false≢true}
use Rattle.zy_isa.specs.Scenario.{Scenario}
use Rattle.zy_isa.specs.declared.instr.Instr.{Instr}
use Rattle.zy_table.specs.Change.{txn_at}
use Rattle.zy_table.specs.Database.{Map}
use Rattle.zy_table.specs.Holders.{holds}
use Rattle.zy_table.specs.Run.{program_of}
use Rattle.zy_table.specs.Serial.{Registers, alone, is_committed, serial}
use Rattle.zy_table.specs.declared.entry.CommitRecord.{CommitRecord}
use Rattle.zy_table.specs.State.{Lock, Txn, View}
use Rattle.zy_model.specs.Wireframe.{page_of}
use Rattle.zy_table.specs.Numbers.{has}
use Rattle.zy_laws.proofs.serial.LoneRuns.{lone, lone_at}
use Rattle.zy_laws.proofs.walk.Txns.{at_other}

-- a transaction has come as far as its lone run on the database, and holds the page of each key that the run touched
pub record Follows (program : List Instr) (d : Map) (lows : List ℕ) (locks : List Lock) (t : ℕ) (x : Txn) : Type 0 where
  pub keys : List ℕ
  pub run : lone d program x.done ≡ lone_at x keys
  pub covered : (k : ℕ) → has keys k ≡ true → holds locks (page_of lows k) t ≡ true

-- the same run where nothing that it saw has changed
pub follows_same : {program : List Instr} {d e : Map} {lows : List ℕ} {locks more : List Lock} {t : ℕ} {x y : Txn} → Follows program d lows locks t x
    → e ≡ d → y ≡ x → ((p : ℕ) → holds locks p t ≡ true → holds more p t ≡ true) → Follows program e lows more t y
follows_same {program = program} {e = e} {lows = lows} {more = more} {t = t} {x = x} f same now grow =
    subst (Follows program e lows more t) (sym now) (record {
      keys = f.keys;
      run = ap (λ m. lone m program x.done) same ∙ f.run;
      covered = λ k h. grow (page_of lows k) (f.covered k h);
    })

-- committed transactions stay as they are
pub registers_same : (sc : Scenario) (f g : ℕ → Txn) (m : Map) (cs : List CommitRecord) → ((t : ℕ) → is_committed (f t).status ≡ true → g t ≡ f t)
    → Registers sc f m cs → Registers sc g m cs
registers_same sc f g m [] same h = tt
registers_same sc f g m (c ∷ cs) same h =
    let e = same c.txn h.0.0 in (
      (ap (λ (x : Txn). is_committed x.status) e ∙ h.0.0, ap (λ (x : Txn). x.regs) e ∙ h.0.1),
      registers_same sc f g (alone m (program_of sc c.txn) c.done).map cs same h.1,
    )

-- a commit more, whose transaction has the registers of its lone run
pub registers_push : (sc : Scenario) (f : ℕ → Txn) (m : Map) (cs : List CommitRecord) (c : CommitRecord) → Registers sc f m cs
    → (is_committed (f c.txn).status ≡ true) × ((f c.txn).regs ≡ (alone (serial sc m cs) (program_of sc c.txn) c.done).regs)
    → Registers sc f m (cs ++ c ∷ [])
registers_push sc f m [] c h new = (new, tt)
registers_push sc f m (x ∷ xs) c h new = (h.0, registers_push sc f (alone m (program_of sc x.txn) x.done).map xs c h.1 new)

-- setting a transaction that is not committed leaves the registers of those that are
pub keep_registers : (sc : Scenario) (v w : View) (start : Map) (cs : List CommitRecord) (t : ℕ) (y : Txn) → w.txns ≡ slice_set v.txns t y
    → is_committed (txn_at v t).status ≡ false → Registers sc (txn_at v) start cs → Registers sc (txn_at w) start cs
keep_registers sc v w start cs t y e off h =
    registers_same sc (txn_at v) (txn_at w) start cs (λ u ended. elim (cases_eq u t) [
      | inl same ↦ absurd (false≢true (sym off ∙ subst (λ z. is_committed (txn_at v z).status ≡ true) same ended))
      | inr far ↦ at_other v w t u y e far
    ]) h
