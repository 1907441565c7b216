-- Where stops fire at one choice more.
use Rattle.std.proofs.Common.{◌≡◌, ◌∙◌, ℕ, ◌+◌, ◌<◌, ◌≤◌, List, [], ◌∷◌, length, map, refl, sym, ap, arith, Bool, true, false, not}
use Rattle.std.proofs.Common.{nat_le, nat_eq, position, Option, Some, None, IfSome}
use Rattle.std.proofs.lemmas.List.{length-map}
use Rattle.std.proofs.lemmas.List.Quantifiers.{position-Some}
use Rattle.std.specs.List.{prefix_len}
use Rattle.zy_isa.specs.Scenario.{Scenario}
use Rattle.zy_table.specs.declared.outcome.Outcome.{Outcome}
use Rattle.zy_table.specs.State.{State}
use Rattle.zy_machine.specs.Histories.{History}
use Rattle.zy_machine.proofs.ReplayLemmas.{back_one}
use Rattle.std.proofs.lemmas.Bool.Decides.{nat_tests}
use Rattle.zy_machine.specs.Replays.{state_at, outcome_at}
use Rattle.zy_debug.specs.Stops.{Slots, firing, fires, slot_fires, slot_reading}
use Rattle.zy_debug.specs.declared.scan.Watched.{Watched}
use Rattle.zy_machine.specs.Replays.{Follows}
use Rattle.zy_debug.specs.Scans.{Conts, LastIn, watch_of}

-- what fires at m + 1 is the lowest slot that fires between the states after m and after m + 1 choices
firing_next : (sc : Scenario) (slots : Slots) (m : ℕ) → firing sc slots (m + 1)
    ≡ position (λ x. slot_fires (slot_reading x (state_at sc m)) (state_at sc (m + 1)) (outcome_at sc (m + 1)) x) slots
firing_next sc slots m = ap (λ j. position (λ x. slot_fires (slot_reading x (state_at sc j)) (state_at sc (m + 1)) (outcome_at sc (m + 1)) x) slots)
    (back_one m)

-- the first elements whose images pass are as many as the first images that pass
prefix_len-map : {X Y : Type 0} (p : Y → Bool) (f : X → Y) (xs : List X) → prefix_len p (map f xs) ≡ prefix_len (λ x. p (f x)) xs
prefix_len-map p f [] = refl
prefix_len-map p f (x ∷ xs) = rw (prefix_len-map p f xs) refl

-- the place of the first image that passes is that of the first element whose image passes
position-map : {X Y : Type 0} (p : Y → Bool) (f : X → Y) (xs : List X) → position p (map f xs) ≡ position (λ x. p (f x)) xs
position-map p f xs = rw (prefix_len-map (λ x. not (p x)) f xs, length-map xs f) refl

-- what the watched slots report at a step is what fires there
pub firing_is : (sc : Scenario) (slots : Slots) (m : ℕ) (s t : State) (o : Outcome) → s ≡ state_at sc m → t ≡ state_at sc (m + 1) → o ≡ outcome_at sc (m + 1)
    → position (λ w. slot_fires w.before t o w.slot) (map (watch_of s) slots) ≡ firing sc slots (m + 1)
firing_is sc slots m s t o es et eo =
    position-map (λ w. slot_fires w.before t o w.slot) (watch_of s) slots ∙ rw (es, et, eo) (sym (firing_next sc slots m))

-- the same, by what is known of the machines before and after
pub told : (h k : History) (sc : Scenario) (slots : Slots) (ws : List Watched) (n : ℕ) (o : Outcome) → Follows h → Follows k → h.scenario ≡ sc
    → k.scenario ≡ h.scenario → length h.entries ≡ n → length k.entries ≡ length h.entries + 1
    → ws ≡ map (watch_of h.state) slots → o ≡ outcome_at h.scenario (length h.entries + 1)
    → position (λ w. slot_fires w.before k.state o w.slot) ws ≡ firing sc slots (n + 1)
told h k sc slots ws n o f g e d l m w x =
    rw w (firing_is sc slots n h.state k.state o (rw (e, l) at f.state) (rw (d, e, m, l) at g.state) (rw (e, l) at x))

-- each slot reads again
pub seen_again : (s t : State) (slots : Slots) → map (λ (w : Watched). watch_of t w.slot) (map (watch_of s) slots) ≡ map (watch_of t) slots
seen_again s t [] = refl
seen_again s t (x ∷ xs) = ap (λ ws. watch_of t x ∷ ws) (seen_again s t xs)

-- where none fires above p and up to n, and none at n + 1, none fires at k in between, whether k is n + 1 or not
none_by : (F : ℕ → Option ℕ) (p n k : ℕ) (t : Bool) → nat_le k n ≡ t → ((j : ℕ) → p < j → j ≤ n → F j ≡ None) → F (n + 1) ≡ None → p < k → k ≤ n + 1
    → F k ≡ None
none_by F p n k true w h e a b = h k a (grind (arith, nat_tests, w))
none_by F p n k false w h e a b = let same : k ≡ n + 1 = grind (arith, nat_tests, w, b) in rw same e

-- none fires so far, nor at one position more
pub none_more : (F : ℕ → Option ℕ) (p n : ℕ) → ((k : ℕ) → p < k → k ≤ n → F k ≡ None) → F (n + 1) ≡ None → (k : ℕ) → p < k → k ≤ n + 1 → F k ≡ None
none_more F p n h e k a b = none_by F p n k (nat_le k n) refl h e a b

-- where none fires above p and below n, and none at n, none fires at k in between, whether k is n or not
none_at : (F : ℕ → Option ℕ) (p n k : ℕ) (t : Bool) → nat_eq k n ≡ t → ((j : ℕ) → p < j → j < n → F j ≡ None) → F n ≡ None → p < k → k < n + 1 → F k ≡ None
none_at F p n k true w h e a b = let same : k ≡ n = grind (arith, nat_tests, w) in rw same e
none_at F p n k false w h e a b = h k a (grind (arith, nat_tests, w, b))

-- where none fires above p and below n, and none at n, none fires above p and below n + 1
none_below : (F : ℕ → Option ℕ) (p n : ℕ) → ((k : ℕ) → p < k → k < n → F k ≡ None) → F n ≡ None → (k : ℕ) → p < k → k < n + 1 → F k ≡ None
none_below F p n h e k a b = none_at F p n k (nat_eq k n) refl h e a b

-- the last one so far, where none fires at m
pub last_more : (sc : Scenario) (slots : Slots) (b m : ℕ) (last : Option (ℕ × ℕ)) → LastIn sc slots b m last → firing sc slots m ≡ None
    → LastIn sc slots b (m + 1) last
last_more sc slots b m None h e = none_below (firing sc slots) b m h e
last_more sc slots b m (Some f) h e = record {
  above = h.above;
  below = omega (arith, h.below);
  fires = h.fires;
  greatest = none_below (firing sc slots) f.0 m h.greatest e;
}

-- a slot that fires is one of the slots
pub slot_next : (sc : Scenario) (slots : Slots) (p : ℕ) (o : Option ℕ) (m : ℕ) → Conts sc slots p o m → IfSome o (λ n. n < length slots)
slot_next sc slots p None m h = tt
slot_next sc slots p (Some i) m h = (position-Some (fires sc m) slots i None h.fires).0

-- a slot that fired last is one of the slots
pub slot_last : (sc : Scenario) (slots : Slots) (b p : ℕ) (o : Option (ℕ × ℕ)) → LastIn sc slots b p o → IfSome o (λ f. f.1 < length slots)
slot_last sc slots b p None h = tt
slot_last sc slots b p (Some f) h = (position-Some (fires sc f.0) slots f.1 None h.fires).0
