-- Paths, the states that they lead to, and what a search knows of them.
use Rattle.std.proofs.Common.{◌≡◌, ◌∙◌, ℕ, ◌+◌, ◌<◌, ◌≤◌, ◌⊎◌, inl, inr, List, [], ◌∷◌, ◌++◌, length, refl, sym, ap, subst, arith, length-append, true}
use Rattle.std.proofs.Common.{false, get_or, zero, suc}
use Rattle.std.proofs.lemmas.List.{get_or_append_left}
use Rattle.std.proofs.lemmas.List.Elements.{All-from_get_or}
use Rattle.std.proofs.lemmas.Bool.{and_parts, cases_lt}
use Rattle.std.proofs.Math.Seq.{get_or-append_seam}
use Rattle.zy_isa.specs.declared.choice.Choice.{Choice}
use Rattle.zy_isa.specs.Choices.{names_below}
use Rattle.zy_isa.specs.Scenario.{Scenario, AreNamed}
use Rattle.zy_table.specs.State.{State}
use Rattle.zy_table.specs.Play.{play, step}
use Rattle.zy_laws.proofs.walk.PlayPush.{play-push}
use Rattle.zy_machine.specs.Histories.{History}
use Rattle.zy_steps.specs.Alike.{part_of, Alike}
use Rattle.zy_search.specs.declared.sought.Sought.{Sought}
use Rattle.zy_search.specs.declared.answer.SearchAnswer.{SearchAnswer}
use Rattle.zy_search.specs.declared.answer.SearchAnswer.TheVariants.{Spent}
use Rattle.zy_search.specs.Paths.{AreApart}
use Rattle.zy_search.specs.Stuck.{is_still, AreMoves}
use Rattle.zy_search.specs.Choices.{is_considered, AreConsidered, is_of_kinds, considered}
use Rattle.zy_search.proofs.ChoiceLemmas.{all_considered}
use Rattle.zy_steps.proofs.AlikeSteps.{alike_after}
use Rattle.zy_search.proofs.AlikeLemmas.{alike_shows}
use Rattle.zy_search.specs.Searches.{reached, deepest, Shows, Considers, IsPath, NoneBelow, NoneAtAll, FindsFirst, IsReached, IsDue, Fills}
use Rattle.zy_search.specs.Visits.{path_at, length_at, counted, IsKnown, IsVisited, Visits, IsEdge, IsExpanded, AreExpanded, Grows, FindsNext, StopsAt}
use Rattle.zy_search.specs.declared.kinds.ChoiceKinds.{ChoiceKinds}

-- ---- choices

-- a choice that is considered names a transaction that is there
pub named_if : (kinds : ChoiceKinds) (count : ℕ) (c : Choice) → is_considered kinds count c ≡ true → names_below count c ≡ true
named_if kinds count c e = (and_parts (names_below count c) (is_of_kinds kinds c) e).0

-- so do choices
pub are_named : (kinds : ChoiceKinds) (count : ℕ) (cs : List Choice) → AreConsidered kinds count cs → AreNamed count cs
are_named kinds count [] a = tt
are_named kinds count (c ∷ cs) a = (named_if kinds count c a.0, are_named kinds count cs a.1)

-- each of choices that name transactions that are there does
pub named_at : (count : ℕ) (cs : List Choice) (i : ℕ) (d : Choice) → AreNamed count cs → i < length cs → names_below count (get_or cs i d) ≡ true
named_at count [] i d a lt = absurd (omega (arith, lt))
named_at count (c ∷ cs) zero d a lt = a.0
named_at count (c ∷ cs) (suc i) d a lt = named_at count cs i d a.1 (omega (arith, lt))

-- all that are considered name transactions that are there
pub all_named : (kinds : ChoiceKinds) (count : ℕ) (cs : List Choice) → cs ≡ considered kinds count → AreNamed count cs
all_named kinds count cs e = are_named kinds count cs (subst (AreConsidered kinds count) (sym e) (all_considered kinds count))

-- one more is considered
are_more : (kinds : ChoiceKinds) (count : ℕ) (cs : List Choice) (c : Choice) → AreConsidered kinds count cs → is_considered kinds count c ≡ true
    → AreConsidered kinds count (cs ++ c ∷ [])
are_more kinds count [] c a e = (e, tt)
are_more kinds count (d ∷ cs) c a e = (a.0, are_more kinds count cs c a.1 e)

-- something comes of one more
moves_more : (sc : Scenario) (s : State) (cs : List Choice) (c : Choice) → AreMoves sc s cs → is_still (step sc c (play sc s cs)).outcome ≡ false
    → AreMoves sc s (cs ++ c ∷ [])
moves_more sc s [] c a e = (e, tt)
moves_more sc s (d ∷ cs) c a e = (a.0, moves_more sc (step sc d s).after cs c a.1 e)

-- a path that goes on by one choice
pub path_more : (h : History) (q : Sought) (cs : List Choice) (c : Choice) → IsPath h q cs → length h.entries + length cs < deepest q
    → is_still (step h.scenario c (reached h cs)).outcome ≡ false → is_considered q.kinds (length h.scenario.programs) c ≡ true → IsPath h q (cs ++ c ∷ [])
path_more h q cs c p room moved e = record {
  considered = are_more q.kinds (length h.scenario.programs) cs c p.considered e;
  moves = moves_more h.scenario h.state cs c p.moves moved;
  room = omega (arith, room, length-append cs (c ∷ []));
}

-- where it leads
pub reached_more : (h : History) (cs : List Choice) (c : Choice) → reached h (cs ++ c ∷ []) ≡ (step h.scenario c (reached h cs)).after
reached_more h cs c = play-push h.scenario h.state cs c

-- a path that goes on from an earlier one by a choice
pub named_front : (count : ℕ) (cs : List Choice) (c : Choice) → AreNamed count (cs ++ c ∷ []) → AreNamed count cs
named_front count [] c a = tt
named_front count (d ∷ cs) c a = (a.0, named_front count cs c a.1)

-- and its last choice
pub named_last : (count : ℕ) (cs : List Choice) (c : Choice) → AreNamed count (cs ++ c ∷ []) → names_below count c ≡ true
named_last count [] c a = a.0
named_last count (d ∷ cs) c a = named_last count cs c a.1

-- its length
pub length_more : (p q : List Choice) (c : Choice) → p ≡ q ++ c ∷ [] → length p ≡ length q + 1
length_more p q c e = ap (λ (l : List Choice). length l) e ∙ length-append q (c ∷ [])

-- a machine that has gone along the earlier one makes the choice
pub walked : (sc : Scenario) (s x y : State) (p q : List Choice) (c : Choice) → p ≡ q ++ c ∷ [] → x ≡ play sc s q → y ≡ (step sc c x).after → y ≡ play sc s p
walked sc s x y p q c e f g =
    g ∙ (ap (λ (z : State). (step sc c z).after) f ∙ (sym (play-push sc s q c) ∙ ap (play sc s) (sym e)))

-- ---- closed under steps

-- two paths that are one lead to states that are alike
pub alike_reached : (h : History) (q : Sought) (cs ds : List Choice) → cs ≡ ds → Alike (counted q) (reached h cs) (reached h ds)
alike_reached h q cs ds e = ap (λ (p : List Choice). part_of (counted q) (reached h p)) e

-- the paths of fewer than d choices are before n
abbrev AreBefore : List (List Choice) → ℕ → ℕ → Type 0
AreBefore ps n d = (j : ℕ) → j < length ps → length_at ps j < d → j < n

module _ (h : History) (q : Sought) (ps : List (List Choice)) where
  -- where the paths before n are expanded, d choices from the start lead to a state of a path that is no longer
  goes_on : (n d : ℕ) → AreExpanded h q ps n → AreBefore ps n d → (cs : List Choice) → Considers h q cs → (k : ℕ) → k + length cs ≤ d → (s : State)
      → IsVisited h q ps k s
      → IsVisited h q ps (k + length cs) (play h.scenario s cs)
  goes_on n d e b [] a k le s r = (r.0, r.1, omega (arith, r.2), r.3)
  goes_on n d e b (c ∷ cs) a k le s r =
      let x = e r.0 (b r.0 r.1 (omega (arith, r.2, le))) c a.0 in
      let y : IsVisited h q ps (k + 1) (step h.scenario c s).after = (
        x.0,
        x.1,
        omega (arith, x.2, r.2),
        x.3 ∙ alike_after (counted q) h.scenario c (reached h (path_at ps r.0)) s r.3,
      ) in
      let z = goes_on n d e b cs a.1 (k + 1) (omega (arith, le)) (step h.scenario c s).after y in
      (z.0, z.1, omega (arith, z.2), z.3)

  module _ (v : Visits h q ps) where
    -- so none of them leads to a state that shows it
    none_within : (n d : ℕ) → AreExpanded h q ps n → AreBefore ps n d → (cs : List Choice) → Considers h q cs → length cs ≤ d
        → Shows h.scenario q (reached h cs) → ⊥
    none_within n d e b cs a le shown =
        let first = ap (λ (l : List Choice). length l) v.first in
        let start = alike_reached h q (path_at ps 0) [] v.first in
        let r = goes_on n d e b cs a 0 (omega (arith, le)) h.state (0, v.some, omega (arith, first), start) in
        v.none r.0 r.1 (alike_shows h.scenario q (reached h cs) (reached h (path_at ps r.0)) (sym r.3) shown)

    -- where all paths are expanded no choices lead to a state that shows it
    pub none_at_all : (n : ℕ) → AreExpanded h q ps n → length ps ≤ n → NoneAtAll h q
    none_at_all n e le = λ cs a. none_within n (length cs) e (λ j lt _. omega (arith, lt, le)) cs a (omega arith)

    -- a shorter path is an earlier one
    before : (at j : ℕ) → j < length ps → length_at ps j < length_at ps at → j < at
    before at j lt short =
        elim (cases_lt j at) [
          | inl less ↦ less
          | inr le ↦ absurd (omega (arith, v.order at j le lt, short))
        ]

    -- where those before one are expanded, no choices do that are as many as that one's, or fewer
    pub none_below : (at : ℕ) → AreExpanded h q ps at → NoneBelow h q (length_at ps at + 1)
    none_below at e = λ cs a lt. none_within at (length_at ps at) e (before at) cs a (omega (arith, lt))

    -- so one that is a choice longer and leads there is a shortest
    pub finds_first : (at : ℕ) (cs : List Choice) → AreExpanded h q ps at → FindsNext h q ps at cs → FindsFirst h q cs
    finds_first at cs e f = record { finds = f.finds; shortest = λ ds a lt. none_below at e ds a (omega (arith, lt, f.longer)) }

    -- what was not gone on from, with its length where there may be more paths
    pub spent_below : (new : List (List Choice)) (at : ℕ) → at < length ps → AreExpanded h q ps at → Grows ps new → NoneBelow h q (length_at new at + 1)
    spent_below new at lt e g = λ cs a few. none_below at e cs a (omega (arith, few, ap (λ (l : List Choice). length l) (g.same at lt)))

-- ---- paths grow

-- no list more
pub grows_not : {X : Type 0} (ps : List (List X)) → Grows ps ps
grows_not ps = record { longer = omega arith; same = λ i lt. refl }

-- one list more
pub grows_push : {X : Type 0} (ps : List (List X)) (p : List X) → Grows ps (ps ++ p ∷ [])
grows_push ps p = record { longer = omega (arith, length-append ps (p ∷ [])); same = λ i lt. get_or_append_left ps (p ∷ []) [] i lt }

-- some lists more, and then others
pub grows_on : {X : Type 0} (ps qs rs : List (List X)) → Grows ps qs → Grows qs rs → Grows ps rs
grows_on ps qs rs g h = record {
  longer = omega (arith, g.longer, h.longer);
  same = λ i lt. h.same i (omega (arith, lt, g.longer)) ∙ g.same i lt;
}

-- a path keeps its length
length_grown : (ps qs : List (List Choice)) (i : ℕ) → Grows ps qs → i < length ps → length_at qs i ≡ length_at ps i
length_grown ps qs i g lt = ap (λ (l : List Choice). length l) (g.same i lt)

-- a state that was come to is still one
pub visited_grown : (h : History) (q : Sought) (ps qs : List (List Choice)) (n : ℕ) (x : State) → Grows ps qs → IsVisited h q ps n x → IsVisited h q qs n x
visited_grown h q ps qs n x g r = (
  r.0,
  omega (arith, r.1, g.longer),
  omega (arith, r.2, length_grown ps qs r.0 g r.1),
  alike_reached h q (path_at qs r.0) (path_at ps r.0) (g.same r.0 r.1) ∙ r.3,
)

-- the state of the last path is one
pub visited_last : (h : History) (q : Sought) (ps : List (List Choice)) (p : List Choice) (n : ℕ) → length p ≤ n → IsVisited h q (ps ++ p ∷ []) n (reached h p)
visited_last h q ps p n le =
    let here = get_or-append_seam ps p [] [] in (
      length ps,
      omega (arith, length-append ps (p ∷ [])),
      omega (arith, le, ap (λ (l : List Choice). length l) here),
      alike_reached h q (path_at (ps ++ p ∷ []) (length ps)) p here,
    )

-- a state like that of one of some paths, where none of them is much longer than that at a place
pub near_known : (h : History) (q : Sought) (ps : List (List Choice)) (at : ℕ) (x : State) → IsEdge ps at → IsKnown h q ps x
    → IsVisited h q ps (length_at ps at + 1) x
near_known h q ps at x edge k = (k.0, k.1, edge.near k.0 k.1, k.2)

-- a path that is expanded still is
pub expanded_grown : (h : History) (q : Sought) (ps qs : List (List Choice)) (i : ℕ) → Grows ps qs → i < length ps → IsExpanded h q ps i → IsExpanded h q qs i
expanded_grown h q ps qs i g lt e = λ c a.
    subst (λ (p : List Choice). IsVisited h q qs (length p + 1) (step h.scenario c (reached h p)).after) (sym (g.same i lt))
    (visited_grown h q ps qs _ _ g (e c a))

-- A path more, behind the others.
module _ (ps : List (List Choice)) (p : List Choice) where
  -- an old path stays at its place
  pub before_it : (i : ℕ) → i < length ps → path_at (ps ++ p ∷ []) i ≡ path_at ps i
  before_it i lt = get_or_append_left ps (p ∷ []) [] i lt

  -- the new one is behind them
  pub it : (i : ℕ) → i ≡ length ps → path_at (ps ++ p ∷ []) i ≡ p
  it i e = rw e (get_or-append_seam ps p [] [])

  -- there is no other place
  pub old_or_new : (i : ℕ) → i < length (ps ++ p ∷ []) → (i < length ps) ⊎ (i ≡ length ps)
  old_or_new i lt =
      elim (cases_lt i (length ps)) [
        | inl below ↦ inl below
        | inr le ↦ inr (omega (arith, le, lt, length-append ps (p ∷ [])))
      ]

  -- what holds of the old paths and of the new one holds of all
  each_more : (P : List Choice → Type 0) → ((i : ℕ) → i < length ps → P (path_at ps i)) → P p → (i : ℕ) → i < length (ps ++ p ∷ [])
      → P (path_at (ps ++ p ∷ []) i)
  each_more P all last i lt =
      elim (old_or_new i lt) [
        | inl below ↦ subst P (sym (before_it i below)) (all i below)
        | inr here ↦ subst P (sym (it i here)) last
      ]

  -- one that is no shorter than the others may come behind them
  order_push : ((i j : ℕ) → i ≤ j → j < length ps → length_at ps i ≤ length_at ps j) → ((i : ℕ) → i < length ps → length_at ps i ≤ length p)
      → (i j : ℕ) → i ≤ j → j < length (ps ++ p ∷ []) → length_at (ps ++ p ∷ []) i ≤ length_at (ps ++ p ∷ []) j
  order_push order short i j le lt =
      elim (old_or_new j lt) [
        | inl below ↦
            let a = ap (λ (l : List Choice). length l) (before_it i (omega (arith, le, below))) in
            let b = ap (λ (l : List Choice). length l) (before_it j below) in
            omega (arith, a, b, order i j le below)
        | inr here ↦
            let a = each_more (λ x. length x ≤ length p) short (omega arith) i (omega (arith, le, lt)) in
            let b = ap (λ (l : List Choice). length l) (it j here) in
            omega (arith, a, b)
      ]

  -- one that leads to no state that shows it, and that is no shorter than the others nor one of them
  pub visits_push : (h : History) (q : Sought) → Visits h q ps → IsPath h q p → (Shows h.scenario q (reached h p) → ⊥)
      → ((i : ℕ) → i < length ps → length_at ps i ≤ length p) → AreApart (ps ++ p ∷ [])
      → Visits h q (ps ++ p ∷ [])
  visits_push h q v path none short apart = record {
    some = omega (arith, v.some, length-append ps (p ∷ []));
    first = before_it 0 v.some ∙ v.first;
    paths = each_more (IsPath h q) v.paths path;
    none = each_more (λ x. Shows h.scenario q (reached h x) → ⊥) v.none none;
    order = order_push v.order short;
    apart = apart;
  }

  -- one that is a choice longer than that at a place, where none is longer
  pub near_push : (at : ℕ) → ((i : ℕ) → i < length ps → length_at ps i ≤ length_at ps at + 1) → at < length ps → length p ≡ length_at ps at + 1
      → (i : ℕ) → i < length (ps ++ p ∷ []) → length_at (ps ++ p ∷ []) i ≤ length_at (ps ++ p ∷ []) at + 1
  near_push at near lt e = λ i below.
      let same = ap (λ (l : List Choice). length l) (before_it at lt) in
      let le = each_more (λ x. length x ≤ length_at ps at + 1) near (omega (arith, e)) i below in
      omega (arith, same, le)

-- the place behind an edge is one
pub edge_next : (h : History) (q : Sought) (ps : List (List Choice)) (at : ℕ) → Visits h q ps → IsEdge ps at → at + 1 < length ps → IsEdge ps (at + 1)
edge_next h q ps at v edge lt = record {
  near = λ i below. omega (arith, edge.near i below, v.order at (at + 1) (omega arith) lt);
  ends = λ j le. edge.ends j (omega (arith, le));
}

-- the first place
one_place : (i : ℕ) → i < 1 → i ≡ 0
one_place i lt = omega (arith, lt)

-- the empty path alone
pub visits_first : (h : History) (q : Sought) → length h.entries ≤ deepest q → (Shows h.scenario q h.state → ⊥) → Visits h q ([] ∷ [])
visits_first h q room none = record {
  some = omega arith;
  first = refl;
  paths = λ i lt. rw (one_place i lt) (record { considered = tt; moves = tt; room = omega (arith, room) });
  none = λ i lt. subst (λ (j : ℕ). Shows h.scenario q (reached h (path_at ([] ∷ []) j)) → ⊥) (sym (one_place i lt)) none;
  order = λ i j le lt. rw (one_place i (omega (arith, le, lt)), one_place j lt) (omega arith);
  apart = λ i j less lt. absurd (omega (arith, less, lt));
}

-- the empty path alone has no choice too many
pub near_first : (i : ℕ) → i < 1 → length_at ([] ∷ []) i ≤ length_at ([] ∷ []) 0 + 1
near_first i lt = rw (one_place i lt) (omega arith)

-- where no fewer choices lead there, an answer that says so is right
pub spent_well : (h : History) (q : Sought) (n : ℕ) (a : SearchAnswer) → NoneBelow h q n → a ≡ Spent n → IsReached h q a
spent_well h q n a below e = subst (IsReached h q) (sym e) below

-- so is what is due
pub spent_due : (h : History) (q : Sought) (most n : ℕ) (a : SearchAnswer) → IsDue h q most (Spent n) → a ≡ Spent n → IsDue h q most a
spent_due h q most n a is e = subst (IsDue h q most) (sym e) is

-- a path of at most n choices that leads to no state that shows it
abbrev IsCounted : History → Sought → ℕ → List Choice → Type 0
IsCounted h q n cs = IsPath h q cs × (length cs ≤ n) × (Shows h.scenario q (reached h cs) → ⊥)

-- as many paths as there may be, none of them much longer than that at a place
pub fills : (h : History) (q : Sought) (most at : ℕ) (ps : List (List Choice)) → Visits h q ps → IsEdge ps at → most ≤ length ps
    → Fills h q most (length_at ps at + 1)
fills h q most at ps v edge many = record {
  paths = ps;
  many = many;
  apart = v.apart;
  each = All-from_get_or (IsCounted h q (length_at ps at + 1)) ps [] (λ i lt. (v.paths i lt, edge.near i lt, v.none i lt));
}

-- a search that can go on no more may give up
pub stops : (h : History) (q : Sought) (most at : ℕ) (old new : List (List Choice)) → at < length old → StopsAt h q most old new at
    → IsDue h q most (Spent (length_at new at + 1))
stops h q most at old new lt (inl full) = inl (fills h q most at new full.visits full.near full.many)
stops h q most at old new lt (inr x) = inr (omega (arith, x.1, length_grown old new at x.0 lt))

-- no path has gone
pub stops_grown : (h : History) (q : Sought) (most at : ℕ) (old new : List (List Choice)) → StopsAt h q most old new at → Grows old new
stops_grown h q most at old new (inl full) = full.grows
stops_grown h q most at old new (inr x) = x.0
