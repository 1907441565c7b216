-- The list of the choices that a search considers has exactly those.
use Rattle.std.proofs.Common.{◌≡◌, ◌∙◌, ℕ, zero, suc, ◌+◌, ◌<◌, ◌≤◌, List, [], ◌∷◌, ◌++◌, length, get_or, refl, sym, ap, arith, length-append, append_assoc}
use Rattle.std.proofs.Common.{add-one, Bool, true, false, nat_lt, filter, if◌then◌else◌}
use Rattle.std.proofs.lemmas.List.{get_or_append_left, get_or-append-add}
use Rattle.std.proofs.lemmas.Bool.{and_from, and_parts}
use Rattle.std.proofs.lemmas.Bool.Decides.{nat_tests}
use Rattle.std.proofs.Math.Bool.{false≢true}
use Rattle.zy_isa.specs.declared.node.Node.{Node}
use Rattle.zy_isa.specs.declared.node.Node.TheVariants.{A, B}
use Rattle.zy_isa.specs.declared.choice.Choice.{Choice}
use Rattle.zy_isa.specs.declared.choice.Choice.TheVariants.{Start, Begin, Kill, Run, Take, Finish, Push}
use Rattle.zy_isa.specs.Choices.{names_below}
use Rattle.zy_search.specs.declared.kinds.ChoiceKinds.{ChoiceKinds}
use Rattle.zy_search.specs.Choices.{is_of_kinds, is_considered, AreConsidered, all_choices, considered, each, of_node}

-- the test of a number below another
below : (count t : ℕ) → t < count → nat_lt t count ≡ true
below count t lt = grind (arith, nat_tests, lt)

-- and back
above : (t count : ℕ) → nat_lt t count ≡ true → t < count
above t count e = grind (arith, nat_tests, e)

-- ---- each is considered

-- choices of transactions that are there
abbrev AreThere : ℕ → List Choice → Type 0
AreThere count [] = Unit {0}
AreThere count (c ∷ cs) = (names_below count c ≡ true) × AreThere count cs

-- choices behind others
append : (count : ℕ) (cs ds : List Choice) → AreThere count cs → AreThere count ds → AreThere count (cs ++ ds)
append count [] ds a b = b
append count (c ∷ cs) ds a b = (a.0, append count cs ds a.1 b)

-- a choice for each transaction
each_there : (count n : ℕ) (make : ℕ → Choice) → ((t : ℕ) → t < count → names_below count (make t) ≡ true) → n ≤ count
    → AreThere count (each make n)
each_there count zero make is le = tt
each_there count (suc n) make is le =
    append count (each make n) (make n ∷ []) (each_there count n make is (omega (arith, le))) (is n (omega (arith, le)), tt)

-- the choices of a node
node_there : (count : ℕ) (n : Node) → AreThere count (of_node n count)
node_there count n =
    append count (each (Run n) count) (Take n ∷ Finish n ∷ Push n ∷ []) (each_there count count (Run n) (below count) (omega arith)) (refl, (refl, (refl, tt)))

-- all choices
all_there : (count : ℕ) → AreThere count (all_choices count)
all_there count =
    append count (Start ∷ each Begin count) _ (refl, each_there count count Begin (below count) (omega arith))
    (append count (each Kill count) _ (each_there count count Kill (below count) (omega arith))
    (append count (of_node A count) (of_node B count) (node_there count A) (node_there count B)))

-- one that is there, and whose kind is tested
kept_considered : (kinds : ChoiceKinds) (count : ℕ) (c : Choice) (cs : List Choice) (b : Bool) → is_of_kinds kinds c ≡ b → names_below count c ≡ true
    → AreConsidered kinds count (filter (is_of_kinds kinds) cs) → AreConsidered kinds count (if b then c ∷ filter (is_of_kinds kinds) cs else filter (is_of_kinds kinds) cs)
kept_considered kinds count c cs true e there rest = (and_from (names_below count c) (is_of_kinds kinds c) there e, rest)
kept_considered kinds count c cs false e there rest = rest

-- those of some kinds among them
filter_considered : (kinds : ChoiceKinds) (count : ℕ) (cs : List Choice) → AreThere count cs → AreConsidered kinds count (filter (is_of_kinds kinds) cs)
filter_considered kinds count [] a = tt
filter_considered kinds count (c ∷ cs) a = kept_considered kinds count c cs (is_of_kinds kinds c) refl a.0 (filter_considered kinds count cs a.1)

-- all of the list
pub all_considered : (kinds : ChoiceKinds) (count : ℕ) → AreConsidered kinds count (considered kinds count)
all_considered kinds count = filter_considered kinds count (all_choices count) (all_there count)

-- each element of such a list
at : (kinds : ChoiceKinds) (count i : ℕ) (d : Choice) (cs : List Choice) → AreConsidered kinds count cs → i < length cs
    → is_considered kinds count (get_or cs i d) ≡ true
at kinds count i d [] a lt = absurd (omega (arith, lt))
at kinds count zero d (c ∷ cs) a lt = a.0
at kinds count (suc i) d (c ∷ cs) a lt = at kinds count i d cs a.1 (omega (arith, lt))

-- each element of the list is considered
pub considered_at : (kinds : ChoiceKinds) (count i : ℕ) (d : Choice) → i < length (considered kinds count)
    → is_considered kinds count (get_or (considered kinds count) i d) ≡ true
considered_at kinds count i d lt = at kinds count i d (considered kinds count) (all_considered kinds count) lt

-- ---- each considered one is there

-- a choice is in a list
abbrev pub Has : List Choice → Choice → Type 0
Has cs c = (j : ℕ) × (j < length cs) × (get_or cs j Start ≡ c)

-- a list has what its first part has
has_left : (cs ds : List Choice) (c : Choice) → Has cs c → Has (cs ++ ds) c
has_left cs ds c h = (h.0, omega (arith, h.1, length-append cs ds), get_or_append_left cs ds Start h.0 h.1 ∙ h.2)

-- and what its second part has
has_right : (cs ds : List Choice) (c : Choice) → Has ds c → Has (cs ++ ds) c
has_right cs ds c h = (length cs + h.0, omega (arith, h.1, length-append cs ds), get_or-append-add cs ds h.0 Start ∙ h.2)

-- one more transaction
each_by : (make : ℕ → Choice) (n t : ℕ) (b : Bool) → nat_lt t n ≡ b → (nat_lt t n ≡ true → Has (each make n) (make t)) → t < suc n
    → Has (each make (suc n)) (make t)
each_by make n t true w h lt = has_left (each make n) (make n ∷ []) (make t) (h w)
each_by make n t false w h lt =
    let same : t ≡ n = grind (arith, nat_tests, w, lt) in
    has_right (each make n) (make n ∷ []) (make t) (0, omega arith, ap make (sym same))

-- a choice for each transaction
each_has : (make : ℕ → Choice) (n t : ℕ) → t < n → Has (each make n) (make t)
each_has make zero t lt = absurd (omega (arith, lt))
each_has make (suc n) t lt = each_by make n t (nat_lt t n) refl (λ w. each_has make n t (above t n w)) lt

-- all choices have those of the client: that a transaction begins
begin_has : (count t : ℕ) → nat_lt t count ≡ true → Has (all_choices count) (Begin t)
begin_has count t e =
    let h = each_has Begin count t (above t count e) in
    has_left (Start ∷ each Begin count) _ (Begin t) (suc h.0, omega (arith, h.1), h.2)

-- and that it is killed
kill_has : (count t : ℕ) → nat_lt t count ≡ true → Has (all_choices count) (Kill t)
kill_has count t e =
    has_right (Start ∷ each Begin count) _ (Kill t) (has_left (each Kill count) _ (Kill t) (each_has Kill count t (above t count e)))

-- they have those of each node
node_has : (count : ℕ) (n : Node) (c : Choice) → Has (of_node n count) c → Has (all_choices count) c
node_has count A c h = has_right (Start ∷ each Begin count) _ c (has_right (each Kill count) _ c (has_left (of_node A count) (of_node B count) c h))
node_has count B c h = has_right (Start ∷ each Begin count) _ c (has_right (each Kill count) _ c (has_right (of_node A count) (of_node B count) c h))

-- among them that it runs a transaction
run_has : (count t : ℕ) (n : Node) → nat_lt t count ≡ true → Has (of_node n count) (Run n t)
run_has count t n lt = has_left (each (Run n) count) _ (Run n t) (each_has (Run n) count t (above t count lt))

-- and that it takes, finishes and pushes
last_has : (count : ℕ) (n : Node) (c : Choice) → Has (Take n ∷ Finish n ∷ Push n ∷ []) c → Has (of_node n count) c
last_has count n c h = has_right (each (Run n) count) _ c h

-- all choices have each that names a transaction which is there, or none
all_has : (count : ℕ) (c : Choice) → names_below count c ≡ true → Has (all_choices count) c
all_has count Start e = (0, omega arith, refl)
all_has count (Begin t) e = begin_has count t e
all_has count (Kill t) e = kill_has count t e
all_has count (Run n t) e = node_has count n (Run n t) (run_has count t n e)
all_has count (Take n) e = node_has count n (Take n) (last_has count n (Take n) (0, omega arith, refl))
all_has count (Finish n) e = node_has count n (Finish n) (last_has count n (Finish n) (1, omega arith, refl))
all_has count (Push n) e = node_has count n (Push n) (last_has count n (Push n) (2, omega arith, refl))

-- an element that passes a test is kept at the head of a list
head_kept : (test : Choice → Bool) (c d : Choice) (cs : List Choice) (b : Bool) → test c ≡ b → c ≡ d → test d ≡ true
    → Has (if b then c ∷ filter test cs else filter test cs) d
head_kept test c d cs true e same passes = (0, omega arith, same)
head_kept test c d cs false e same passes = absurd (false≢true (sym e ∙ (ap test same ∙ passes)))

-- and behind it
tail_kept : (test : Choice → Bool) (c d : Choice) (cs : List Choice) (b : Bool) → Has (filter test cs) d
    → Has (if b then c ∷ filter test cs else filter test cs) d
tail_kept test c d cs true h = (suc h.0, omega (arith, h.1), h.2)
tail_kept test c d cs false h = h

-- so it is kept wherever it is
kept : (test : Choice → Bool) (d : Choice) → test d ≡ true → (cs : List Choice) (j : ℕ) → j < length cs → get_or cs j Start ≡ d → Has (filter test cs) d
kept test d passes [] j lt e = absurd (omega (arith, lt))
kept test d passes (c ∷ cs) zero lt e = head_kept test c d cs (test c) refl e passes
kept test d passes (c ∷ cs) (suc j) lt e = tail_kept test c d cs (test c) (kept test d passes cs j (omega (arith, lt)) e)

-- the list has each considered choice
pub has_considered : (kinds : ChoiceKinds) (count : ℕ) (c : Choice) → is_considered kinds count c ≡ true → Has (considered kinds count) c
has_considered kinds count c e =
    let parts = and_parts (names_below count c) (is_of_kinds kinds c) e in
    let h = all_has count c parts.0 in
    kept (is_of_kinds kinds) c parts.1 (all_choices count) h.0 h.1 h.2

-- one more of these choices
pub each_more : (make : ℕ → Choice) (xs ys old : List Choice) (t : ℕ) → xs ≡ old ++ each make t → ys ≡ xs ++ make t ∷ [] → ys ≡ old ++ each make (t + 1)
each_more make xs ys old t e f = rw add-one (f ∙ (ap (λ l. l ++ make t ∷ []) e ∙ append_assoc old (each make t) (make t ∷ [])))

-- ---- each is there once

-- the place of a choice among all
abbrev rank : ℕ → Choice → ℕ
rank count Start = 0
rank count (Begin t) = 1 + t
rank count (Kill t) = 1 + count + t
rank count (Run A t) = 1 + count + count + t
rank count (Take A) = 1 + count + count + count
rank count (Finish A) = 2 + count + count + count
rank count (Push A) = 3 + count + count + count
rank count (Run B t) = 4 + count + count + count + t
rank count (Take B) = 4 + count + count + count + count
rank count (Finish B) = 5 + count + count + count + count
rank count (Push B) = 6 + count + count + count + count

-- the choices of a list have rising ranks, from n on
abbrev Rise : (Choice → ℕ) → ℕ → List Choice → Type 0
Rise f n [] = Unit {0}
Rise f n (c ∷ cs) = (n ≤ f c) × Rise f (f c + 1) cs

-- they rise from any lower number on
lower : (f : Choice → ℕ) (n m : ℕ) (cs : List Choice) → n ≤ m → Rise f m cs → Rise f n cs
lower f n m [] le a = tt
lower f n m (c ∷ cs) le a = (omega (arith, le, a.0), a.1)

-- the choices of a list have ranks one after the other, from n on
abbrev AreRanked : (Choice → ℕ) → ℕ → List Choice → Type 0
AreRanked f n [] = Unit {0}
AreRanked f n (c ∷ cs) = (f c ≡ n) × AreRanked f (n + 1) cs

-- such ranks rise
rise : (f : Choice → ℕ) (n : ℕ) (cs : List Choice) → AreRanked f n cs → Rise f n cs
rise f n [] a = tt
rise f n (c ∷ cs) a = (omega (arith, a.0), lower f (f c + 1) (n + 1) cs (omega (arith, a.0)) (rise f (n + 1) cs a.1))

-- ranks go on behind a list
ranked_append : (f : Choice → ℕ) (n m : ℕ) (cs ds : List Choice) → m ≡ n + length cs → AreRanked f n cs → AreRanked f m ds → AreRanked f n (cs ++ ds)
ranked_append f n m [] ds e a b = let same : n ≡ m = omega (arith, e) in rw same b
ranked_append f n m (c ∷ cs) ds e a b = (a.0, ranked_append f (n + 1) m cs ds (omega (arith, e)) a.1 b)

-- there is a choice for each transaction
length_each : (make : ℕ → Choice) (n : ℕ) → length (each make n) ≡ n
length_each make zero = refl
length_each make (suc n) = omega (arith, length-append (each make n) (make n ∷ []), length_each make n)

-- the ranks of those
ranked_each : (f : Choice → ℕ) (m : ℕ) (make : ℕ → Choice) → ((t : ℕ) → f (make t) ≡ m + t) → (n : ℕ) → AreRanked f m (each make n)
ranked_each f m make is zero = tt
ranked_each f m make is (suc n) = ranked_append f m (m + n) (each make n) (make n ∷ []) (omega (arith, length_each make n)) (ranked_each f m make is n) (
  is n,
  tt,
)

-- the ranks of a node's choices
ranked_node : (f : Choice → ℕ) (m count : ℕ) (n : Node) → ((t : ℕ) → f (Run n t) ≡ m + t) → f (Take n) ≡ m + count → f (Finish n) ≡ m + count + 1
    → f (Push n) ≡ m + count + 1 + 1 → AreRanked f m (of_node n count)
ranked_node f m count n run take finish push =
    ranked_append f m (m + count) (each (Run n) count) _ (omega (arith, length_each (Run n) count)) (ranked_each f m (Run n) run count) (
      take,
      (finish, (push, tt)),
    )

-- how many they are
length_node : (n : Node) (count : ℕ) → length (of_node n count) ≡ count + 3
length_node n count = omega (arith, length-append (each (Run n) count) (Take n ∷ Finish n ∷ Push n ∷ []), length_each (Run n) count)

-- each choice has its place for its rank
all_ranked : (count : ℕ) → AreRanked (rank count) 0 (all_choices count)
all_ranked count =
    let f = rank count in
    ranked_append f 0 (1 + count) (Start ∷ each Begin count) _ (omega (arith, length_each Begin count)) (refl, ranked_each f 1 Begin (λ t. refl) count)
    (ranked_append f (1 + count) (1 + count + count) (each Kill count) _ (omega (arith, length_each Kill count)) (ranked_each f (1 + count) Kill (λ t. refl) count)
    (ranked_append f (1 + count + count) (4 + count + count + count) (of_node A count) (of_node B count) (omega (arith, length_node A count))
    (ranked_node f (1 + count + count) count A (λ t. refl) refl (omega arith) (omega arith))
    (ranked_node f (4 + count + count + count) count B (λ t. refl) refl (omega arith) (omega arith))))

-- ranks still rise where a choice is left out or not
kept_rise : (f : Choice → ℕ) (test : Choice → Bool) (n : ℕ) (c : Choice) (cs : List Choice) (b : Bool) → n ≤ f c → Rise f (f c + 1) (filter test cs)
    → Rise f n (if b then c ∷ filter test cs else filter test cs)
kept_rise f test n c cs true le a = (le, a)
kept_rise f test n c cs false le a = lower f n (f c + 1) (filter test cs) (omega (arith, le)) a

-- or several
filter_rise : (f : Choice → ℕ) (test : Choice → Bool) (n : ℕ) (cs : List Choice) → Rise f n cs → Rise f n (filter test cs)
filter_rise f test n [] a = tt
filter_rise f test n (c ∷ cs) a = kept_rise f test n c cs (test c) a.0 (filter_rise f test (f c + 1) cs a.1)

-- a later element has a higher rank
rank_at : (f : Choice → ℕ) (n i : ℕ) (cs : List Choice) → Rise f n cs → i < length cs → n + i ≤ f (get_or cs i Start)
rank_at f n i [] a lt = absurd (omega (arith, lt))
rank_at f n zero (c ∷ cs) a lt = omega (arith, a.0)
rank_at f n (suc i) (c ∷ cs) a lt = omega (arith, a.0, rank_at f (f c + 1) i cs a.1 (omega (arith, lt)))

-- so the element at one place is at no other
apart : (f : Choice → ℕ) (n i j : ℕ) (cs : List Choice) → Rise f n cs → i < length cs → j < length cs → f (get_or cs i Start) ≡ f (get_or cs j Start) → i ≡ j
apart f n i j [] a lt lu e = absurd (omega (arith, lt))
apart f n zero zero (c ∷ cs) a lt lu e = refl
apart f n zero (suc j) (c ∷ cs) a lt lu e = absurd (omega (arith, e, rank_at f (f c + 1) j cs a.1 (omega (arith, lu))))
apart f n (suc i) zero (c ∷ cs) a lt lu e = absurd (omega (arith, e, rank_at f (f c + 1) i cs a.1 (omega (arith, lt))))
apart f n (suc i) (suc j) (c ∷ cs) a lt lu e = ap suc (apart f (f c + 1) i j cs a.1 (omega (arith, lt)) (omega (arith, lu)) e)

-- so no choice is twice in the list
pub ranked : (kinds : ChoiceKinds) (count i j : ℕ) → i < length (considered kinds count) → j < length (considered kinds count)
    → get_or (considered kinds count) i Start ≡ get_or (considered kinds count) j Start → i ≡ j
ranked kinds count i j lt lu e =
    let f = rank count in
    let rises = filter_rise f (is_of_kinds kinds) 0 (all_choices count) (rise f 0 (all_choices count) (all_ranked count)) in
    apart f 0 i j (considered kinds count) rises lt lu (ap f e)
