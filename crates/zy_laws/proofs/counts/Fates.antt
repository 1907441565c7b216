-- What a step makes of each transaction: it stays in its program, with as many registers, and does at most one instruction more.
use Rattle.std.proofs.Common.{Bool, List, [], ap, arith, false, inl, inr, length, refl, subst, suc, sym, true, zero, ℕ, ◌+◌, ◌-◌, ◌<◌, ◌∙◌, ◌∷◌, ◌≡◌, ◌≤◌}
use Rattle.std.specs.Prelude.{Some, if◌then◌else◌, not, slice_get, slice_set}
use Rattle.std.specs.List.{position_or_len}
use Rattle.std.specs.Option.{option_map_or}
use Rattle.std.proofs.Math.ListN.{length-set}
use Rattle.std.proofs.lemmas.Bool.{cases_Bool, cases_eq, cases_lt, false≢true, ltb-true, not-false}
use Rattle.std.proofs.lemmas.Option.{slice_get_within}
use Rattle.zy_isa.specs.Programs.{IsProgram, ends, ends_well, targets_below}
use Rattle.zy_isa.specs.Registers.{number_of, register_count}
use Rattle.zy_isa.specs.Scenario.{Scenario}
use Rattle.zy_isa.specs.declared.instr.Instr.{Instr}
use Rattle.zy_isa.specs.declared.instr.Reg.{Reg}
use Rattle.zy_isa.specs.declared.node.Node.{Node}
use Rattle.zy_table.specs.Change.{aborted, begun, committed, did, locked, shares, txn_at, with_reg, cut, asks, leaves}
use Rattle.zy_table.specs.declared.effect.Effect.{Effect}
use Rattle.zy_table.specs.declared.effect.Effect.TheVariants as effect
use Rattle.zy_table.proofs.InstrEffects.{ends-effect, is_last, jumps_below, target-effect}
use Rattle.zy_laws.specs.Counts.{Counted}
use Rattle.zy_table.specs.Run.{program_of}
use Rattle.zy_table.specs.State.{Txn, View}
use Rattle.zy_laws.proofs.walk.Events.{Aborts, Begins, Commits, Event, Gets, Inserts, SumsUp, Writes, Splits, GoesOn}
use Rattle.zy_laws.proofs.walk.Conditions.{Runs, Leads, BySet, ByJump, BySum}
use Rattle.zy_laws.proofs.walk.Txns.{at_same, at_either, at_other}
use Rattle.zy_laws.proofs.walk.Kinds.{quiet_of}
use Rattle.zy_isa.proofs.ScenarioLemmas.{none_found}

-- no element passes the test where none is found
none_passes : {X : Type 0} (f : X → Bool) (xs : List X) (i : ℕ) (x : X) → slice_get xs i ≡ Some x → length xs ≤ position_or_len f xs → f x ≡ false
none_passes f [] i x at h = absurd cc
none_passes f (y ∷ ys) zero x at h = elim (cases_Bool (f y)) [
  | inl hit ↦ let z : position_or_len f (y ∷ ys) ≡ 0 = rw hit refl in absurd (omega arith)
  | inr off ↦ let same : y ≡ x = cc in ap f (sym same) ∙ off
]
none_passes f (y ∷ ys) (suc i) x at h = elim (cases_Bool (f y)) [
  | inl hit ↦ let z : position_or_len f (y ∷ ys) ≡ 0 = rw hit refl in absurd (omega arith)
  | inr off ↦ let z : position_or_len f (y ∷ ys) ≡ 1 + position_or_len f ys = rw off refl in none_passes f ys i x at (omega arith)
]

-- each target is in its program
target_within : (program : List Instr) (i : ℕ) (x : Instr) → IsProgram program → slice_get program i ≡ Some x → targets_below (length program) x ≡ true
target_within program i x v at =
    let stray : Instr → Bool = λ y. not (targets_below (length program) y) in
    not-false _ (none_passes stray program i x at (none_found stray program v.targets))

-- an instruction that does not end its program has one behind it
next_within : (program : List Instr) (i : ℕ) (x : Instr) → IsProgram program → slice_get program i ≡ Some x → ends x ≡ false → i + 1 < length program
next_within program i x v at on =
    let within : i < length program = slice_get_within program i x at in
    elim (cases_lt (i + 1) (length program)) [
      | inl h ↦ h
      | inr h ↦
          let same : length program - 1 ≡ i = omega arith in
          let last : ends_well program ≡ ends x = ap (λ o. option_map_or ends o false) (ap (slice_get program) same ∙ at) in
          absurd (false≢true (sym on ∙ sym last ∙ v.last))
    ]

-- what may become of one transaction
pub data Fate (sc : Scenario) (u : ℕ) (x y : Txn) : Type 0 where
  Same : y ≡ x → Fate sc u x y
  Fresh : y.done ≡ 0 → length y.regs ≡ register_count → y.pc ≡ 0 → Fate sc u x y
  Ends : y.done ≤ x.done + 1 → y.regs ≡ x.regs → y.pc ≡ x.pc → Fate sc u x y
  Went : y.done ≡ x.done + 1 → length y.regs ≡ length x.regs → (IsProgram (program_of sc u) → y.pc < length (program_of sc u)) → Fate sc u x y

-- where t alone is set
fate_set : (sc : Scenario) (v w : View) (t u : ℕ) (y : Txn) → w.txns ≡ slice_set v.txns t y → Fate sc t (txn_at v t) y
    → Fate sc u (txn_at v u) (txn_at w u)
fate_set sc v w t u y e f = elim (cases_eq u t) [
  | inl same ↦ subst (λ z. Fate sc z (txn_at v z) (txn_at w z)) (sym same)
      (elim (at_either v w t y e) [ inl h ↦ subst (Fate sc t (txn_at v t)) (sym h) f | inr h ↦ Same h ])
  | inr far ↦ Same (at_other v w t u y e far)
]

-- setting a register leaves how many there are
set_length : (regs : List ℕ) (r : Reg) (x : ℕ) → length (with_reg r x regs) ≡ length regs
set_length regs r x = length-set regs (number_of r) x

-- transaction t runs, and e is what its next instruction does
module _ (sc : Scenario) (n : Node) (t : ℕ) (e : Effect) (v : View) (runs : Runs sc n t e v) where
  -- behind an instruction that is not the last one is another
  next_pc : is_last e ≡ false → IsProgram (program_of sc t) → (txn_at v t).pc + 1 < length (program_of sc t)
  next_pc on ok =
      next_within (program_of sc t) (txn_at v t).pc runs.instr ok runs.next (ends-effect runs.instr (txn_at v t).regs ∙ ap is_last runs.does ∙ on)

  -- a jump leads to an instruction of the program
  jump_pc : (taken : Bool) (to : ℕ) → e ≡ effect.Jumps taken to → IsProgram (program_of sc t)
      → (if taken then to else (txn_at v t).pc + 1) < length (program_of sc t)
  jump_pc true to is ok =
      let count = length (program_of sc t) in
      let within = target_within (program_of sc t) (txn_at v t).pc runs.instr ok runs.next in
      ltb-true _ _ (ap (jumps_below count) (sym is) ∙ ap (jumps_below count) (sym runs.does) ∙ sym (target-effect count runs.instr (txn_at v t).regs) ∙ within)
  jump_pc false to is ok = next_pc (ap is_last is) ok

  -- an effect that needs no page leaves a transaction in its program
  leads_pc : {pc : ℕ} {regs : List ℕ} → Leads e (txn_at v t) pc regs → IsProgram (program_of sc t) → pc < length (program_of sc t)
  leads_pc (BySet r value is a b) ok = rw a (next_pc (ap is_last is) ok)
  leads_pc (ByJump taken to is a b) ok = rw a (jump_pc taken to is ok)
  leads_pc (BySum r first last is none a b) ok = rw a (next_pc (ap is_last is) ok)

-- an effect that needs no page leaves how many registers there are
leads_length : (e : Effect) (x : Txn) (pc : ℕ) (regs : List ℕ) → Leads e x pc regs → length regs ≡ length x.regs
leads_length e x pc regs (BySet r value is a b) = ap length b ∙ set_length x.regs r value
leads_length e x pc regs (ByJump taken to is a b) = ap length b
leads_length e x pc regs (BySum r first last is none a b) = ap length b ∙ set_length x.regs r 0

-- the transactions of a view
abbrev pub txns_of : View → List Txn
txns_of v = v.txns

-- what an event does to each transaction
pub fate : (sc : Scenario) (n : Node) (v w : View) (u : ℕ) → Event sc n v w → Fate sc u (txn_at v u) (txn_at w u)
unfolding did locked shares txn_at aborted begun committed cut asks leaves
fate sc n v w u (Begins line e) = fate_set sc v w line.txn u _ (ap txns_of e) (Fresh refl refl refl)
fate sc n v w u (Aborts line e) = fate_set sc v w line.txn u _ (ap txns_of e) (Ends (omega arith) refl refl)
fate sc n v w u (GoesOn line e) =
    fate_set sc v w line.txn u _ (ap txns_of e) (Went refl
    (leads_length line.act (txn_at v line.txn) line.pc line.regs line.leads) (leads_pc sc n line.txn line.act v line.runs line.leads))
fate sc n v w u (Gets line e) =
    fate_set sc v w line.txn u _ (ap txns_of e) (Went refl (set_length (txn_at v line.txn).regs line.register _) (next_pc sc n line.txn _ v line.runs refl))
fate sc n v w u (SumsUp line e) =
    fate_set sc v w line.txn u _ (ap txns_of e) (Went refl (set_length (txn_at v line.txn).regs line.register _) (next_pc sc n line.txn _ v line.runs refl))
fate sc n v w u (Writes line e) = fate_set sc v w line.txn u _ (ap txns_of e) (Went refl refl (next_pc sc n line.txn _ v line.runs refl))
fate sc n v w u (Inserts line e) = fate_set sc v w line.txn u _ (ap txns_of e) (Went refl refl (next_pc sc n line.txn _ v line.runs refl))
fate sc n v w u (Splits line e) = rw e (Same refl)
fate sc n v w u (Commits line e) = fate_set sc v w line.txn u _ (ap txns_of e) (Ends (omega arith) refl refl)
fate sc n v w u e = Same (at_same v w u (quiet_of e refl).txns)

-- a transaction stays within its bounds, with one choice more
pub counted_fate : (sc : Scenario) (count u : ℕ) (x y : Txn) → IsProgram (program_of sc u) → Fate sc u x y → Counted sc count u x
    → Counted sc (count + 1) u y
counted_fate sc count u x y ok (Same e) c = rw e (record { done = let k = c.done in omega arith; regs = c.regs; pc = c.pc })
counted_fate sc count u x y ok (Fresh a b d) c = record { done = omega arith; regs = b; pc = let k = ok.some in omega arith }
counted_fate sc count u x y ok (Ends a b d) c =
    record { done = let k = c.done in omega arith; regs = ap length b ∙ c.regs; pc = let k = c.pc in omega arith }
counted_fate sc count u x y ok (Went a b d) c = record { done = let k = c.done in omega arith; regs = b ∙ c.regs; pc = d ok }
