-- No path is there twice, and what goes on from a place goes on from nowhere later.
use Rattle.std.proofs.Common.{◌≡◌, ◌∙◌, ℕ, ◌+◌, ◌<◌, ◌≤◌, ◌⊎◌, inl, inr, List, [], ◌∷◌, ◌++◌, length, get_or, drop, refl, sym, ap, arith, length-append}
use Rattle.std.proofs.Math.Seq.{get_or-append_seam}
use Rattle.zy_isa.specs.declared.choice.Choice.{Choice}
use Rattle.zy_isa.specs.declared.choice.Choice.TheVariants.{Start}
use Rattle.zy_search.specs.Choices.{considered}
use Rattle.zy_search.specs.Paths.{AreApart}
use Rattle.zy_search.specs.Visits.{path_at, length_at, IsFresh, AreEnds, GoOnBy, IsEdge}
use Rattle.zy_search.proofs.ChoiceLemmas.{ranked}
use Rattle.zy_search.proofs.SearchLemmas.{before_it, it, near_push, old_or_new}
use Rattle.zy_search.specs.declared.kinds.ChoiceKinds.{ChoiceKinds}

-- the paths of a search
abbrev Paths : Type 0
Paths = List (List Choice)

-- the same path has one length
length_of : (p q : List Choice) → p ≡ q → length p ≡ length q
length_of p q e = ap (λ (l : List Choice). length l) e

-- ---- two paths that end by a choice

-- they go on from one path
same_front : (p q : List Choice) (c d : Choice) → p ++ c ∷ [] ≡ q ++ d ∷ [] → p ≡ q
same_front [] [] c d e = refl
same_front [] (y ∷ q) c d e = absurd (omega (arith, length_of (c ∷ []) (y ∷ (q ++ d ∷ [])) e, length-append q (d ∷ [])))
same_front (x ∷ p) [] c d e = absurd (omega (arith, length_of (x ∷ (p ++ c ∷ [])) (d ∷ []) e, length-append p (c ∷ [])))
same_front (x ∷ p) (y ∷ q) c d e =
    let head : x ≡ y = ap (λ (l : List Choice). get_or l 0 Start) e in
    let tail : p ++ c ∷ [] ≡ q ++ d ∷ [] = ap (λ (l : List Choice). drop 1 l) e in
    rw head (ap (λ (l : List Choice). y ∷ l) (same_front p q c d tail))

-- by one choice
same_last : (p q : List Choice) (c d : Choice) → p ++ c ∷ [] ≡ q ++ d ∷ [] → c ≡ d
same_last p q c d e =
    let front = length_of p q (same_front p q c d e) in
    let one : get_or (p ++ c ∷ []) (length p) Start ≡ c = get_or-append_seam p c [] Start in
    let two : get_or (q ++ d ∷ []) (length q) Start ≡ d = get_or-append_seam q d [] Start in
    sym one ∙ (ap (λ (l : List Choice). get_or l (length p) Start) e ∙ (ap (λ (n : ℕ). get_or (q ++ d ∷ []) n Start) front ∙ two))

-- ---- a path is added

module _ (ps : Paths) (p : List Choice) where
  -- a path that was not there is there once
  pub apart_push : AreApart ps → ((k : ℕ) → k < length ps → path_at ps k ≡ p → ⊥) → AreApart (ps ++ p ∷ [])
  apart_push apart fresh = λ i j lt in' e.
      elim (old_or_new ps p j in') [
        | inl below ↦ apart i j lt below (sym (before_it ps p i (omega (arith, lt, below))) ∙ (e ∙ before_it ps p j below))
        | inr here ↦ let below : i < length ps = omega (arith, lt, here) in fresh i below (sym (before_it ps p i below) ∙ (e ∙ it ps p j here))
      ]

-- The path at a place is gone on from by one choice.
module _ (ps : Paths) (at : ℕ) (c : Choice) where
  -- the longer path, and the paths with it
  abbrev next : List Choice
  next = path_at ps at ++ c ∷ []

  abbrev more : Paths
  more = ps ++ next ∷ []

  -- still none goes on from a later place
  ends_more : AreApart ps → AreEnds ps (at + 1) → ((k : ℕ) → k < length more → length_at more k ≤ length_at ps at + 1) → AreEnds more (at + 1)
  ends_more apart ends near = λ j le in' d i below e.
      elim (old_or_new ps next j in') [
        | inl j_old ↦
            let f : path_at more i ≡ path_at ps j ++ d ∷ [] = e ∙ ap (λ (l : List Choice). l ++ d ∷ []) (before_it ps next j j_old) in
            elim (old_or_new ps next i below) [
              | inl i_old ↦ ends j le j_old d i i_old (sym (before_it ps next i i_old) ∙ f)
              | inr i_new ↦ apart at j (omega (arith, le)) j_old (same_front (path_at ps at) (path_at ps j) c d (sym (it ps next i i_new) ∙ f))
            ]
        | inr j_new ↦
            let x = length_of (path_at more i) (next ++ d ∷ []) (e ∙ ap (λ (l : List Choice). l ++ d ∷ []) (it ps next j j_new)) in
            absurd (omega (arith, x, near i below, length-append next (d ∷ []), length-append (path_at ps at) (c ∷ [])))
      ]

  -- so it is still an edge
  pub edge_push : AreApart ps → IsEdge ps at → at < length ps → IsEdge more at
  edge_push apart edge lt =
      let near = near_push ps next at edge.near lt (omega (arith, length-append (path_at ps at) (c ∷ []))) in
      let same = length_of (path_at more at) (path_at ps at) (before_it ps next at lt) in
      record { near = near; ends = ends_more apart edge.ends (λ k x. omega (arith, near k x, same)) }

  -- by which choices paths go on from the place: by this one too
  by_more : (cs : List Choice) (k : ℕ) → at < length ps → GoOnBy ps at cs k → get_or cs k Start ≡ c → GoOnBy more at cs (k + 1)
  by_more cs k lt by is = λ i in' d e.
      let f : path_at more i ≡ path_at ps at ++ d ∷ [] = e ∙ ap (λ (l : List Choice). l ++ d ∷ []) (before_it ps next at lt) in
      elim (old_or_new ps next i in') [
        | inl below ↦ let x = by i below d (sym (before_it ps next i below) ∙ f) in (x.0, omega (arith, x.1), x.2)
        | inr here ↦ (k, omega arith, is ∙ same_last (path_at ps at) (path_at ps at) c d (sym (it ps next i here) ∙ f))
      ]

-- the same whether there is a path more or not
pub by_next : (old new : Paths) (at k : ℕ) (cs : List Choice) (c : Choice) → (new ≡ old) ⊎ (new ≡ old ++ (path_at old at ++ c ∷ []) ∷ []) → at < length old
    → GoOnBy old at cs k → get_or cs k Start ≡ c → GoOnBy new at cs (k + 1)
by_next old new at k cs c (inl e) lt by is = rw e (λ i in' d f. let x = by i in' d f in (x.0, omega (arith, x.1), x.2))
by_next old new at k cs c (inr e) lt by is = rw e (by_more old at c cs k lt by is)

-- none goes on by a choice of which it is not the turn yet
pub fresh_one : (kinds : ChoiceKinds) (count : ℕ) (ps : Paths) (at k : ℕ) (cs : List Choice) → cs ≡ considered kinds count → k < length cs → GoOnBy ps at cs k
    → IsFresh ps at (get_or cs k Start)
fresh_one kinds count ps at k cs e lt by = λ i in' f.
    let x = by i in' (get_or cs k Start) f in
    let long = ap (λ (l : List Choice). length l) e in
    let same = ap (λ (l : List Choice). get_or l x.0 Start) (sym e) ∙ (x.2 ∙ ap (λ (l : List Choice). get_or l k Start) e) in
    let both = ranked kinds count x.0 k (omega (arith, x.1, lt, long)) (omega (arith, lt, long)) same in
    omega (arith, x.1, both)

-- ---- the first path

-- none goes on from the empty path alone
pub ends_first : AreEnds ([] ∷ []) 0
ends_first = λ j le lt c i in' e.
    let here : i ≡ 0 = omega (arith, in') in
    let there : j ≡ 0 = omega (arith, lt) in
    omega (
      arith,
      length_of (path_at ([] ∷ []) i) (path_at ([] ∷ []) j ++ c ∷ []) e,
      length-append (path_at ([] ∷ []) j) (c ∷ []),
      ap (length_at ([] ∷ [])) here,
    )

-- nor from any later place
pub ends_later : (ps : Paths) (n m : ℕ) → n ≤ m → AreEnds ps n → AreEnds ps m
ends_later ps n m le ends = λ j lt. ends j (omega (arith, lt, le))
