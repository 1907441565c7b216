-- What happened stays so while the table of parts grows.
use Rattle.std.proofs.Common.{◌≡◌, ◌∙◌, ◌==◌, ◌&&◌, ◌*◌, ◌+◌, ◌<◌, ℕ, zero, suc, List, [], ◌∷◌, length, map, drop, Some, None, slice_get, slice_index_or, true, refl, sym, ap, ap₂, arith, cond}
use Rattle.std.proofs.lemmas.List.{drop-map}
use Rattle.zy_isa.specs.declared.node.Node.{Node}
use Rattle.zy_isa.specs.declared.choice.Choice.{Choice}
use Rattle.zy_isa.specs.declared.choice.Choice.TheVariants.{Start, Begin, Kill, Run, Take, Finish, Push}
use Rattle.zy_isa.specs.Choices.{names_below}
use Rattle.zy_isa.specs.Scenario.{Scenario}
use Rattle.zy_state_ids.specs.Codes.{node_code}
use Rattle.zy_steps.specs.declared.part.StatePart.{StatePart}
use Rattle.zy_table.specs.State.{State}
use Rattle.zy_table.specs.Play.{step}
use Rattle.zy_table.specs.declared.outcome.Outcome.{Outcome}
use Rattle.zy_state_ids.specs.Parts.{parts, AreNumbersOf, Keeps}
use Rattle.zy_state_ids.proofs.PartLemmas.{stay}
use Rattle.zy_step_cache.specs.declared.places.Read.{Read}
use Rattle.zy_step_cache.specs.declared.places.Scope.{Scope}
use Rattle.zy_step_cache.specs.Places.{at, txn_place, four, byte_of, is_active_in, home_in, lowest_in, places, beside, read_at, reads}
use Rattle.zy_step_cache.specs.Steps.{Happened}
use Rattle.zy_step_cache.proofs.Said.{bytes_are}
use Rattle.zy_step_cache.proofs.Again.{as_many, long, nat_below}

-- a table has a part for a number
abbrev IsKnown : List (List ℕ) → ℕ → Type 0
IsKnown table n = (x : List ℕ) × (slice_get table n ≡ Some x)

-- each number of parts is known
known : (table : List (List ℕ)) (ns : List ℕ) (xs : List (List ℕ)) (p : ℕ) → AreNumbersOf table ns xs → p < length ns → IsKnown table (at ns p)
known table [] xs p e h = absurd (omega (arith, h))
known table (n ∷ ns) [] p e h = cc
known table (n ∷ ns) (x ∷ xs) zero e h = (x, ap (λ os. slice_index_or os 0 None) e)
known table (n ∷ ns) (x ∷ xs) (suc p) e h =
    let behind : AreNumbersOf table ns xs = ap (drop 1) e in
    known table ns xs p behind (omega (arith, h))

module _ (old new : List (List ℕ)) (keeps : Keeps old new) where
  -- the bytes of a part that is known stay
  byte_stays : (n i : ℕ) → IsKnown old n → byte_of old n i ≡ byte_of new n i
  byte_stays n i k = ap (λ xs. slice_index_or xs i 0) (bytes_are old n k.0 k.1 ∙ sym (bytes_are new n k.0 (keeps n k.0 k.1)))

  -- so does which transaction is the lowest that is active at a node
  lowest_stays : (m : Node) (t : ℕ) (ns : List ℕ) (xs : List (List ℕ)) → AreNumbersOf old ns xs → lowest_in old m t ns ≡ lowest_in new m t ns
  lowest_stays m t [] xs e = refl
  lowest_stays m t (n ∷ ns) [] e = cc
  lowest_stays m t (n ∷ ns) (x ∷ xs) e =
      let first : slice_get old n ≡ Some x = ap (λ os. slice_index_or os 0 None) e in
      let behind : AreNumbersOf old ns xs = ap (drop 1) e in
      let active = byte_stays n 0 (x, first) in
      let home = byte_stays n 2 (x, first) in
      ap₂ (λ a b. cond ((a == 1) && (b == node_code m)) (suc t) (lowest_in old m (suc t) ns)) active home
      ∙ ap (λ k. cond (is_active_in new n && (home_in new n == node_code m)) (suc t) k) (lowest_stays m (suc t) ns xs behind)

  module _ (sc : Scenario) (part : StatePart) (s : State) (before : List ℕ) (are : AreNumbersOf old before (parts part s)) (many : length s.txns ≡ length sc.programs) where
    five : (p : ℕ) → p < 5 → IsKnown old (at before p)
    five p h = known old before (parts part s) p are (omega (arith, h, as_many old before (parts part s) are))

    the_txn : (u : ℕ) → u < length sc.programs → IsKnown old (at before (txn_place u))
    the_txn u h = known old before (parts part s) (txn_place u) are (omega (arith, h, many, long part s.txns, as_many old before (parts part s) are))

    -- the places stay
    places_stay : (c : Choice) (k : Scope) → names_below (length sc.programs) c ≡ true → places old c k before ≡ places new c k before
    places_stay Start k named = refl
    places_stay (Begin u) k named = refl
    places_stay (Kill u) k named =
        let there = the_txn u (nat_below u (length sc.programs) named) in
        let active = byte_stays (at before (txn_place u)) 0 there in
        let home = byte_stays (at before (txn_place u)) 2 there in
        ap₂ (λ a b. let q = cond (a == 1) b (txn_place u) in four (txn_place u) q q q) active home
    places_stay (Run x u) k named = refl
    places_stay (Take x) k named = refl
    places_stay (Finish x) k named = refl
    places_stay (Push x) k named = refl

    -- what is read beside stays
    beside_stays : (c : Choice) (k : Scope) → beside old c k before ≡ beside new c k before
    beside_stays Start k = refl
    beside_stays (Begin u) k = ap₂ (λ a b. a * 256 + b) (byte_stays (at before 0) 0 (five 0 (omega arith))) (byte_stays (at before 1) 0 (five 1 (omega arith)))
    beside_stays (Kill u) k = refl
    beside_stays (Run x u) k = refl
    beside_stays (Take x) k = refl
    beside_stays (Finish x) k = lowest_stays x 0 (drop 5 before) (drop 5 (parts part s)) (behind are)
      where
        behind : AreNumbersOf old before (parts part s) → AreNumbersOf old (drop 5 before) (drop 5 (parts part s))
        behind e = sym (drop-map (slice_get old) 5 before) ∙ ap (drop 5) e
    beside_stays (Push x) k = refl

    -- all that is read stays
    reads_stay : (c : Choice) (k : Scope) → names_below (length sc.programs) c ≡ true → reads old c k before ≡ reads new c k before
    reads_stay c k named = ap₂ (λ b ps. read_at b (map (at before) ps)) (beside_stays c k) (places_stay c k named)

  -- a step that happened
  pub happened_stays : (sc : Scenario) (part : StatePart) (c : Choice) (k : Scope) (read : Read) (written : List ℕ) (o : Outcome)
      → Happened sc old part c k read written o → Happened sc new part c k read written o
  happened_stays sc part c k read written o h = record {
    state = h.state;
    before = h.before;
    after = h.after;
    is_before = stay old new keeps h.before (parts part h.state) h.is_before;
    is_after = stay old new keeps h.after (parts part (step sc c h.state).after) h.is_after;
    many = h.many;
    named = h.named;
    in_scope = h.in_scope;
    read = h.read ∙ reads_stay sc part h.state h.before h.is_before h.many c k h.named;
    wrote = h.wrote ∙ ap (map (at h.after)) (places_stay sc part h.state h.before h.is_before h.many c k h.named);
    outcome = h.outcome;
  }
