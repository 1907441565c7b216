-- done, pc, registers and commits stay within their bounds.
use Rattle.std.proofs.Common.{List, [], arith, length, refl, subst, suc, sym, zero, ℕ, ◌+◌, ◌<◌, ◌∙◌, ◌∷◌, ◌≡◌}
use Rattle.std.specs.Prelude.{map, slice_get, unwrap_or}
use Rattle.std.proofs.lemmas.List.{length-map}
use Rattle.zy_isa.specs.Programs.{IsProgram}
use Rattle.zy_isa.specs.Scenario.{ArePrograms, IsScenario, Scenario}
use Rattle.zy_isa.specs.declared.choice.Choice.{Choice}
use Rattle.zy_isa.specs.declared.instr.Instr.{Instr}
use Rattle.zy_isa.specs.declared.node.Node.{Node}
use Rattle.zy_isa.specs.declared.node.Node.TheVariants.{A, B}
use Rattle.zy_table.specs.Change.{txn_at, txn_or}
use Rattle.zy_laws.specs.Counts.{Counted, Safe}
use Rattle.zy_table.specs.Play.{blank, move, opening, play, side_of, step}
use Rattle.zy_table.specs.State.{State, View, facing, seen_from}
use Rattle.zy_laws.proofs.counts.Fates.{counted_fate, fate}
use Rattle.zy_laws.proofs.counts.Tallies.{Tallied, tallied, tally, tally_most}
use Rattle.zy_laws.proofs.walk.Events.{step_happens}
use Rattle.zy_laws.proofs.walk.Txns.{at_back, at_side, blank_at}

-- each program of a list of programs is one
pub program_is : (ps : List (List Instr)) (t : ℕ) → ArePrograms ps → t < length ps → IsProgram (unwrap_or (slice_get ps t) [])
program_is [] t h within = absurd (omega arith)
program_is (p ∷ ps) zero h within = h.0
program_is (p ∷ ps) (suc t) h within = program_is ps t h.1 (omega arith)

-- the sums in a state after `count` choices
record Sums (sc : Scenario) (count : ℕ) (s : State) : Type 0 where
  each : (t : ℕ) → t < length sc.programs → Counted sc count t (txn_or (slice_get s.txns t))
  txns : length s.txns ≡ length sc.programs
  commits : length s.commits ≡ tally s.txns

-- a step keeps the sums in the state
sums_after : (sc : Scenario) (count more : ℕ) (n : Node) (s : State) (w : View) → ((t : ℕ) → t < length sc.programs → Counted sc more t (txn_at w t))
    → Tallied (facing n s) w → Sums sc count s → Sums sc more (seen_from n w)
sums_after sc count more A s w each k x = record {
  each = λ t h. subst (Counted sc more t) (sym (at_back A w t)) (each t h);
  txns = k.txns ∙ x.txns;
  commits = let a = k.commits in let b = x.commits in omega arith;
}
sums_after sc count more B s w each k x = record {
  each = λ t h. subst (Counted sc more t) (sym (at_back B w t)) (each t h);
  txns = k.txns ∙ x.txns;
  commits = let a = k.commits in let b = x.commits in omega arith;
}

-- a step keeps the sums
step_sums : (sc : Scenario) (count : ℕ) (c : Choice) (s : State) → IsScenario sc → Sums sc count s → Sums sc (count + 1) (step sc c s).after
unfolding step
step_sums sc count c s ok x =
    let n = side_of sc c s in
    let v = facing n s in
    let w = (move sc c v).after in
    let event = (step_happens sc c s).event in
    sums_after sc count (count + 1) n s w
    (λ t h. counted_fate sc count t (txn_at v t) (txn_at w t) (program_is sc.programs t ok.programs h) (fate sc n v w t event)
    (subst (Counted sc count t) (sym (at_side n s t)) (x.each t h)))
    (tallied sc n v w event) x

-- a schedule keeps the sums
play_sums : (sc : Scenario) (count : ℕ) (cs : List Choice) (s : State) → IsScenario sc → Sums sc count s → Sums sc (count + length cs) (play sc s cs)
play_sums sc count [] s ok x = subst (λ m. Sums sc m s) (let e : count ≡ count + 0 = omega arith in e) x
play_sums sc count (c ∷ cs) s ok x =
    subst (λ m. Sums sc m (play sc (step sc c s).after cs)) (let e : (count + 1) + length cs ≡ count + suc (length cs) = omega arith in e)
    (play_sums sc (count + 1) cs (step sc c s).after ok (step_sums sc count c s ok x))

-- of new transactions none is committed
blank_tally : (programs : List (List Instr)) → tally (map blank programs) ≡ 0
blank_tally [] = refl
blank_tally (x ∷ xs) = let k = blank_tally xs in omega arith

-- the sums hold at the opening
opening_sums : (sc : Scenario) → IsScenario sc → Sums sc 0 (opening sc)
unfolding opening
opening_sums sc ok = record {
  each =
      λ t h. subst (Counted sc 0 t) (sym (blank_at sc.programs t)) (record {
        done = omega arith;
        regs = refl;
        pc = (program_is sc.programs t ok.programs h).some;
      });
  txns = length-map sc.programs blank;
  commits = sym (blank_tally sc.programs);
}

-- the law: the counts that make each sum and each index safe
pub safe : (sc : Scenario) → IsScenario sc → (cs : List Choice) → Safe sc (length cs) (play sc (opening sc) cs)
safe sc ok cs =
    let x = play_sums sc 0 cs (opening sc) ok (opening_sums sc ok) in
    let zero_plus : 0 + length cs ≡ length cs = omega arith in
    let s = play sc (opening sc) cs in
    let most = tally_most s.txns in
    let a = x.txns in
    let b = x.commits in
    record { each = λ t h. subst (λ m. Counted sc m t (txn_or (slice_get s.txns t))) zero_plus (x.each t h); txns = x.txns; commits = omega arith }
