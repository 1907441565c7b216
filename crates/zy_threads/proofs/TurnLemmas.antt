-- A turn keeps the board's facts.
use Rattle.std.proofs.Common.{◌≡◌, ℕ, zero, suc, ◌+◌, ◌<◌, ◌≤◌, Bool, true, false, List, [], ◌∷◌, ◌++◌, length, take, get_or, slice_get, Some, refl, sym, ap}
use Rattle.std.proofs.Common.{◌∙◌, subst, arith, add-one}
use Rattle.std.specs.Prelude.{if◌then◌else◌}
use Rattle.std.proofs.Math.Seq.{take-suc}
use Rattle.std.proofs.lemmas.List.{length-take-le}
use Rattle.std.proofs.lemmas.Option.{slice_get_within, get_or_from_slice_get}
use Rattle.zy_isa.specs.Limits.{max_choices}
use Rattle.zy_isa.specs.declared.node.Actor.{Actor}
use Rattle.zy_isa.specs.declared.node.Actor.TheVariants.{C, A, B}
use Rattle.zy_isa.specs.declared.choice.Choice.{Choice}
use Rattle.zy_isa.specs.Choices.{actor_of, names_below}
use Rattle.zy_isa.specs.Scenario.{AreNamed}
use Rattle.zy_machine.specs.Histories.{History, choices_of}
use Rattle.zy_machine.proofs.HistoryLemmas.{choices_of-push, length-choices_of}
use Rattle.zy_threads.specs.Turns.{sub, is_by, is_c, is_a, is_b, Turns, BoardView, turns_of, one_further}
use Rattle.zy_threads.specs.Turns.{entry_at, after_choice, after_turn, AreTurnsOf, IsBoard}

-- a choice behind a list, whether one is put in front or not
pushed : (b d : Bool) (x c : Choice) (l m : List Choice) → l ≡ (if d then m ++ c ∷ [] else m)
    → (if b then x ∷ l else l) ≡ (if d then (if b then x ∷ m else m) ++ c ∷ [] else (if b then x ∷ m else m))
pushed true true x c l m e = ap (λ (w : List Choice). x ∷ w) e
pushed true false x c l m e = ap (λ (w : List Choice). x ∷ w) e
pushed false true x c l m e = e
pushed false false x c l m e = e

-- a choice of the actor goes to the end of its choices, and another's changes nothing
sub-push : (a : Actor) (cs : List Choice) (c : Choice) → sub a (cs ++ c ∷ []) ≡ (if is_by a c then sub a cs ++ c ∷ [] else sub a cs)
sub-push a [] c = refl
sub-push a (x ∷ cs) c = pushed (is_by a x) (is_by a c) x c (sub a (cs ++ c ∷ [])) (sub a cs) (sub-push a cs c)

-- one more of the first ones
take_next : {X : Type 0} (xs : List X) (k : ℕ) (x : X) → slice_get xs k ≡ Some x → take (k + 1) xs ≡ take k xs ++ x ∷ []
take_next xs k x h =
    let lt : k < length xs = slice_get_within xs k x h in
    rw (add-one, take-suc xs k x lt, get_or_from_slice_get xs k x x h) refl

-- What holds of each choice that is c in a list holds of each in the list behind another choice d.
module _ (P : Choice → Type 0) (c d : Choice) (cs : List Choice) (rest : (j : ℕ) → slice_get cs j ≡ Some c → P c) where
  -- if d is put there
  behind : (k : ℕ) (b : Bool) → (b ≡ true → P d) → slice_get (if b then d ∷ cs else cs) k ≡ Some c → P c
  behind zero true is h = let same : d ≡ c = cc in subst P same (is refl)
  behind (suc k) true is h = rest k h
  behind k false is h = rest k h

-- each choice in an actor's list is made by that actor
sub_by : (x : Actor) (cs : List Choice) (k : ℕ) (c : Choice) → slice_get (sub x cs) k ≡ Some c → is_by x c ≡ true
sub_by x [] k c h = absurd (cc (h))
sub_by x (d ∷ cs) k c h = behind (λ e. is_by x e ≡ true) c d (sub x cs) (λ j e. sub_by x cs j c e) k (is_by x d) (λ e. e) h

-- each of an actor's choices names a transaction that exists
sub_named : (count : ℕ) (x : Actor) (cs : List Choice) (k : ℕ) (c : Choice) → AreNamed count cs → slice_get (sub x cs) k ≡ Some c → names_below count c ≡ true
sub_named count x [] k c all h = absurd (cc (h))
sub_named count x (d ∷ cs) k c all h = behind (λ e. names_below count e ≡ true) c d (sub x cs) (λ j e. sub_named count x cs j c all.1 e) k (is_by x d)
    (λ e. all.0) h

-- a choice counts for one of the three actors
one_of : (x : Actor) (l m n k : ℕ) → l + m + n ≡ k → (if is_c x then l + 1 else l) + (if is_a x then m + 1 else m) + (if is_b x then n + 1 else n) ≡ k + 1
one_of C l m n k e = omega arith
one_of A l m n k e = omega arith
one_of B l m n k e = omega arith

-- a list with one more, or not
length_if : {X : Type 0} (b : Bool) (x : X) (xs : List X) → length (if b then x ∷ xs else xs) ≡ (if b then length xs + 1 else length xs)
length_if true x xs = omega arith
length_if false x xs = refl

-- each choice is of one actor
pub sub_lengths : (cs : List Choice) → length (sub C cs) + length (sub A cs) + length (sub B cs) ≡ length cs
sub_lengths [] = refl
sub_lengths (d ∷ cs) =
    let x = actor_of d in
    let l : length (sub C (d ∷ cs)) ≡ (if is_c x then length (sub C cs) + 1 else length (sub C cs)) = length_if (is_c x) d (sub C cs) in
    let m : length (sub A (d ∷ cs)) ≡ (if is_a x then length (sub A cs) + 1 else length (sub A cs)) = length_if (is_a x) d (sub A cs) in
    let n : length (sub B (d ∷ cs)) ≡ (if is_b x then length (sub B cs) + 1 else length (sub B cs)) = length_if (is_b x) d (sub B cs) in
    let all = one_of x (length (sub C cs)) (length (sub A cs)) (length (sub B cs)) (length cs) (sub_lengths cs) in
    (λ i. l i + m i + n i) ∙ all ∙ omega arith

-- the actor's own turns, after its choice was taken
turns_one_further : (x : Actor) (m : History) (l : Turns) (c : Choice) → AreTurnsOf x m l → slice_get l.schedule l.cursor ≡ Some c
    → AreTurnsOf x (after_choice m c) (one_further l)
turns_one_further x m l c was next =
    let own : is_by x c ≡ true = sub_by x m.scenario.choices l.cursor c (ap (λ s. slice_get s l.cursor) (sym was.whole) ∙ next) in
    record {
      whole = was.whole;
      taken = ap (sub x) (choices_of-push m.entries (entry_at m c)) ∙ sub-push x (choices_of m.entries) c
          ∙ ap (λ (b : Bool). if b then sub x (choices_of m.entries) ++ c ∷ [] else sub x (choices_of m.entries)) own
          ∙ ap (λ w. w ++ c ∷ []) was.taken ∙ sym (take_next l.schedule l.cursor c next);
      within = omega (arith, slice_get_within l.schedule l.cursor c next);
    }

-- another's turns
line_beside : (x : Actor) (m : History) (l : Turns) (c : Choice) → AreTurnsOf x m l → is_by x c ≡ false → AreTurnsOf x (after_choice m c) l
line_beside x m l c was other = record {
  whole = was.whole;
  taken = ap (sub x) (choices_of-push m.entries (entry_at m c)) ∙ sub-push x (choices_of m.entries) c
      ∙ ap (λ (b : Bool). if b then sub x (choices_of m.entries) ++ c ∷ [] else sub x (choices_of m.entries)) other ∙ was.taken;
  within = was.within;
}

-- what is the client's is no node's
only_c : (x : Actor) → is_c x ≡ true → (is_a x ≡ false) × (is_b x ≡ false)
only_c C h = (refl, refl)
only_c A h = absurd (cc (h))
only_c B h = absurd (cc (h))

-- what is A's is no other's
only_a : (x : Actor) → is_a x ≡ true → (is_c x ≡ false) × (is_b x ≡ false)
only_a C h = absurd (cc (h))
only_a A h = (refl, refl)
only_a B h = absurd (cc (h))

-- what is B's is no other's
only_b : (x : Actor) → is_b x ≡ true → (is_c x ≡ false) × (is_a x ≡ false)
only_b C h = absurd (cc (h))
only_b A h = absurd (cc (h))
only_b B h = (refl, refl)

-- an actor's next choice is its own
own_at : (x : Actor) (m : History) (l : Turns) (c : Choice) → AreTurnsOf x m l → slice_get l.schedule l.cursor ≡ Some c → is_by x c ≡ true
own_at x m l c was next = sub_by x m.scenario.choices l.cursor c (ap (λ s. slice_get s l.cursor) (sym was.whole) ∙ next)

-- the board after a turn
board_turned : (x : Actor) (t : BoardView) (c : Choice) → IsBoard t → slice_get (turns_of t x).schedule (turns_of t x).cursor ≡ Some c
    → IsBoard (after_turn t x c)
board_turned C t c was next =
    let others = only_c (actor_of c) (own_at C t.machine t.c c was.of_c next) in
    record {
      tested = was.tested;
      of_c = turns_one_further C t.machine t.c c was.of_c next;
      of_a = line_beside A t.machine t.a c was.of_a others.0;
      of_b = line_beside B t.machine t.b c was.of_b others.1;
    }
board_turned A t c was next =
    let others = only_a (actor_of c) (own_at A t.machine t.a c was.of_a next) in
    record {
      tested = was.tested;
      of_c = line_beside C t.machine t.c c was.of_c others.0;
      of_a = turns_one_further A t.machine t.a c was.of_a next;
      of_b = line_beside B t.machine t.b c was.of_b others.1;
    }
board_turned B t c was next =
    let others = only_b (actor_of c) (own_at B t.machine t.b c was.of_b next) in
    record {
      tested = was.tested;
      of_c = line_beside C t.machine t.c c was.of_c others.0;
      of_a = line_beside A t.machine t.a c was.of_a others.1;
      of_b = turns_one_further B t.machine t.b c was.of_b next;
    }

-- how many choices an actor has taken
taken_length : (x : Actor) (m : History) (l : Turns) → AreTurnsOf x m l
    → (length (sub x (choices_of m.entries)) ≡ l.cursor) × (l.cursor ≤ length (sub x m.scenario.choices))
taken_length x m l was =
    let w : l.cursor ≤ length l.schedule = was.within in
    let e : length l.schedule ≡ length (sub x m.scenario.choices) = ap length was.whole in
    (ap length was.taken ∙ length-take-le l.cursor l.schedule w, omega arith)

-- while an actor has a choice left, fewer are taken than there are
within_sum : (x : Actor) (t : BoardView) (c : Choice) → IsBoard t → slice_get (turns_of t x).schedule (turns_of t x).cursor ≡ Some c
    → t.c.cursor + t.a.cursor + t.b.cursor < length (sub C t.machine.scenario.choices) + length (sub A t.machine.scenario.choices) + length
    (sub B t.machine.scenario.choices)
within_sum C t c was next =
    let lt : t.c.cursor < length t.c.schedule = slice_get_within t.c.schedule t.c.cursor c next in
    omega (arith, ap length was.of_c.whole, (taken_length A t.machine t.a was.of_a).1, (taken_length B t.machine t.b was.of_b).1)
within_sum A t c was next =
    let lt : t.a.cursor < length t.a.schedule = slice_get_within t.a.schedule t.a.cursor c next in
    omega (arith, ap length was.of_a.whole, (taken_length C t.machine t.c was.of_c).1, (taken_length B t.machine t.b was.of_b).1)
within_sum B t c was next =
    let lt : t.b.cursor < length t.b.schedule = slice_get_within t.b.schedule t.b.cursor c next in
    omega (arith, ap length was.of_b.whole, (taken_length C t.machine t.c was.of_c).1, (taken_length A t.machine t.a was.of_a).1)

-- while an actor has a choice left, the history has room
pub room : (x : Actor) (t : BoardView) (c : Choice) → IsBoard t → slice_get (turns_of t x).schedule (turns_of t x).cursor ≡ Some c
    → length t.machine.entries < max_choices
room x t c was next =
    omega (
      arith,
      (taken_length C t.machine t.c was.of_c).0,
      (taken_length A t.machine t.a was.of_a).0,
      (taken_length B t.machine t.b was.of_b).0,
      sub_lengths (choices_of t.machine.entries),
      length-choices_of t.machine.entries,
      sub_lengths t.machine.scenario.choices,
      within_sum x t c was next,
      was.tested.few_choices,
    )

-- the board knows each actor's turns
own_turns : (x : Actor) (t : BoardView) → IsBoard t → AreTurnsOf x t.machine (turns_of t x)
own_turns C t was = was.of_c
own_turns A t was = was.of_a
own_turns B t was = was.of_b

-- an actor's next choice names a transaction that exists
pub named : (x : Actor) (t : BoardView) (c : Choice) → IsBoard t → slice_get (turns_of t x).schedule (turns_of t x).cursor ≡ Some c
    → names_below (length t.machine.scenario.programs) c ≡ true
named x t c was next =
    sub_named (length t.machine.scenario.programs) x t.machine.scenario.choices (turns_of t x).cursor c was.tested.choices_named
    (ap (λ s. slice_get s (turns_of t x).cursor) (sym (own_turns x t was).whole) ∙ next)

-- a board u that is t after the turn of x, where a is the actor asked for
pub turn_kept : (a x : Actor) (s t u : BoardView) (c : Choice) → a ≡ x → t ≡ s → IsBoard t → slice_get (turns_of s a).schedule (turns_of s a).cursor ≡ Some c
    → u ≡ after_turn t x c → IsBoard u
turn_kept a x s t u c is same was next now =
    let here : slice_get (turns_of t x).schedule (turns_of t x).cursor ≡ Some c =
    (λ i. slice_get (turns_of (same i) (sym is i)).schedule (turns_of (same i) (sym is i)).cursor) ∙ next in
    subst IsBoard (sym now) (board_turned x t c was here)

-- the cursor of the actor asked for is within its choices
pub front_within : (a x : Actor) (s t : BoardView) (c : Choice) → a ≡ x → t ≡ s → slice_get (turns_of s a).schedule (turns_of s a).cursor ≡ Some c
    → (turns_of t x).cursor < length (turns_of t x).schedule
front_within a x s t c is same next =
    slice_get_within (turns_of t x).schedule (turns_of t x).cursor c
    ((λ i. slice_get (turns_of (same i) (sym is i)).schedule (turns_of (same i) (sym is i)).cursor) ∙ next)

-- the first choices of an actor, and one more
pub sub_take : (x : Actor) (cs : List Choice) (i : ℕ) (d : Choice) (b : Bool) → i < length cs → is_by x (get_or cs i d) ≡ b
    → sub x (take (i + 1) cs) ≡ (if b then sub x (take i cs) ++ get_or cs i d ∷ [] else sub x (take i cs))
sub_take x cs i d b lt is =
    rw (add-one, take-suc cs i d lt) (sub-push x (take i cs) (get_or cs i d)
    ∙ ap (λ (v : Bool). if v then sub x (take i cs) ++ get_or cs i d ∷ [] else sub x (take i cs)) is)
