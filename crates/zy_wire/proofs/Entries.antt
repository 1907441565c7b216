-- Entries in order of low key: where a key is, and what a cut and one more leave.
use Rattle.std.proofs.Common.{◌≡◌, ℕ, zero, suc, ◌+◌, ◌<◌, ◌≤◌, List, [], ◌∷◌, length, get_or, take, drop, refl, arith, inl, inr}
use Rattle.std.specs.List.{insert}
use Rattle.std.specs.List.Sorted.{IsNonDecreasingBy}
use Rattle.std.proofs.lemmas.Bool.{cases_lt, cases_order}
use Rattle.zy_wire.specs.declared.entry.IndexEntry.{IndexEntry}
use Rattle.zy_wire.specs.ByLow.{front, Rise, IsEntryPlace}

-- no low key of entries that rise from a number on is below that number
pub low_from : (from i : ℕ) (d : IndexEntry) (es : List IndexEntry) (end : ℕ) → Rise from es end → i < length es → from ≤ (get_or es i d).low
low_from from i d [] end h lt = absurd (omega arith)
low_from from zero d (e ∷ es) end h lt = h.0
low_from from (suc i) d (e ∷ es) end h lt = omega (arith, h.0, low_from (e.low + 1) i d es end h.1 (omega arith))

-- the number that entries rise from is at most their end
pub from_end : (from : ℕ) (es : List IndexEntry) (end : ℕ) → Rise from es end → from ≤ end
from_end from [] end h = h
from_end from (e ∷ es) end h = omega (arith, h.0, from_end (e.low + 1) es end h.1)

-- each low key of entries that rise is below their end
pub low_below : (from i : ℕ) (d : IndexEntry) (es : List IndexEntry) (end : ℕ) → Rise from es end → i < length es → (get_or es i d).low < end
low_below from i d [] end h lt = absurd (omega arith)
low_below from zero d (e ∷ es) end h lt = omega (arith, from_end (e.low + 1) es end h.1)
low_below from (suc i) d (e ∷ es) end h lt = low_below (e.low + 1) i d es end h.1 (omega arith)

-- of two entries that rise, the later one has the greater low key
pub low_rises : (from i j : ℕ) (d : IndexEntry) (es : List IndexEntry) (end : ℕ) → Rise from es end → i < j → j < length es → (get_or es i d).low < (get_or es j d).low
low_rises from i j d [] end h up lt = absurd (omega arith)
low_rises from i zero d (e ∷ es) end h up lt = absurd (omega arith)
low_rises from zero (suc j) d (e ∷ es) end h up lt = omega (arith, low_from (e.low + 1) j d es end h.1 (omega arith))
low_rises from (suc i) (suc j) d (e ∷ es) end h up lt = low_rises (e.low + 1) i j d es end h.1 (omega arith) (omega arith)

-- they are in order as a search needs it
pub in_order : (es : List IndexEntry) (end : ℕ) → Rise 0 es end → IsNonDecreasingBy (λ (e : IndexEntry). e.low) es
in_order es end h = λ i j d le lt.
    elim (cases_order i j) [
      | inl same ↦ rw same (omega arith)
      | inr (inl up) ↦ (let rises = low_rises 0 i j d es end h up lt in omega arith)
      | inr (inr down) ↦ absurd (omega arith)
    ]

-- one entry is before the place of a key that is not below the first
pub place_some : (k i : ℕ) (es : List IndexEntry) (end : ℕ) → 1 ≤ length es → front es end ≤ k → IsEntryPlace k es i → 1 ≤ i
place_some k i [] end some under at = absurd (omega arith)
place_some k zero (e ∷ es) end some under at = (let above = at.2 0 e (omega arith) (omega arith) in absurd (omega arith))
place_some k (suc i) (e ∷ es) end some under at = omega arith

-- the first of the entries from i on
pub front_drop : (i : ℕ) (d : IndexEntry) (es : List IndexEntry) (end : ℕ) → i < length es → front (drop i es) end ≡ (get_or es i d).low
front_drop i d [] end lt = absurd (omega arith)
front_drop zero d (e ∷ es) end lt = refl
front_drop (suc i) d (e ∷ es) end lt = front_drop i d es end (omega arith)

-- behind the last entry, the first low key is the end
pub front_past : (i : ℕ) (es : List IndexEntry) (end : ℕ) → length es ≤ i → front (drop i es) end ≡ end
front_past zero [] end le = refl
front_past (suc i) [] end le = refl
front_past zero (e ∷ es) end le = absurd (omega arith)
front_past (suc i) (e ∷ es) end le = front_past i es end (omega arith)

-- a key is below what is from its place on
pub below_front : (k i : ℕ) (es : List IndexEntry) (end : ℕ) → IsEntryPlace k es i → k < end → k < front (drop i es) end
below_front k i es end at below =
    let d : IndexEntry = record { low = 0; to = 0 } in
    elim (cases_lt i (length es)) [
      | inl lt ↦ (let above = at.2 i d (omega arith) lt in rw (front_drop i d es end lt) above)
      | inr past ↦ rw (front_past i es end past) below
    ]

-- the low keys from a later one on
pub Rise-lift : (from to : ℕ) (es : List IndexEntry) (end : ℕ) → Rise from es end → to ≤ front es end → Rise to es end
Rise-lift from to [] end h le = le
Rise-lift from to (e ∷ es) end h le = (le, h.1)

-- entries that rise from a number on have their first low key at that number or above it
pub front_from : (from : ℕ) (es : List IndexEntry) (end : ℕ) → Rise from es end → from ≤ front es end
front_from from [] end h = h
front_from from (e ∷ es) end h = h.0

-- the first low key of entries that rise is at most their end
pub front_end : (from : ℕ) (es : List IndexEntry) (end : ℕ) → Rise from es end → front es end ≤ end
front_end from [] end h = omega arith
front_end from (e ∷ es) end h = omega (arith, from_end (e.low + 1) es end h.1)

-- the first i, and the others
pub Rise-take : (from i : ℕ) (es : List IndexEntry) (end : ℕ) → Rise from es end → Rise from (take i es) (front (drop i es) end)
Rise-take from zero [] end h = h
Rise-take from (suc i) [] end h = h
Rise-take from zero (e ∷ es) end h = h.0
Rise-take from (suc i) (e ∷ es) end h = (h.0, Rise-take (e.low + 1) i es end h.1)

-- the entries from index i on rise as they did among the others
pub Rise-drop : (from i : ℕ) (es : List IndexEntry) (end : ℕ) → Rise from es end → Rise from (drop i es) end
Rise-drop from zero [] end h = h
Rise-drop from (suc i) [] end h = h
Rise-drop from zero (e ∷ es) end h = h
Rise-drop from (suc i) (e ∷ es) end h = Rise-lift (e.low + 1) from (drop i es) end (Rise-drop (e.low + 1) i es end h.1)
    (omega (arith, h.0, front_from (e.low + 1) (drop i es) end (Rise-drop (e.low + 1) i es end h.1)))

-- one more, between those before its place and those behind it
pub Rise-insert : (from i : ℕ) (new : IndexEntry) (es : List IndexEntry) (end : ℕ) → Rise from es end → i ≤ length es → from ≤ new.low
    → ((j : ℕ) (d : IndexEntry) → j < i → (get_or es j d).low < new.low) → new.low < front (drop i es) end → Rise from (insert es i new) end
Rise-insert from zero new [] end h le low before after = (low, omega (arith, after))
Rise-insert from (suc i) new [] end h le low before after = absurd (omega arith)
Rise-insert from zero new (e ∷ es) end h le low before after = (low, (omega (arith, after), h.1))
Rise-insert from (suc i) new (e ∷ es) end h le low before after = (
  h.0,
  Rise-insert (e.low + 1) i new es end h.1 (omega arith) (let b = before 0 e (omega arith) in omega arith)
      (λ j d lt. before (suc j) d (omega arith)) after,
)

-- an entry put behind the first one leaves the first low key as it is
pub front-insert : (i : ℕ) (new : IndexEntry) (es : List IndexEntry) (end : ℕ) → 1 ≤ i → 1 ≤ length es → front (insert es i new) end ≡ front es end
front-insert i new [] end up some = absurd (omega arith)
front-insert zero new (e ∷ es) end up some = absurd (omega arith)
front-insert (suc i) new (e ∷ es) end up some = refl

-- the first i entries, which end where the others begin, have the first low key of all
pub front-take : (i : ℕ) (es : List IndexEntry) (end : ℕ) → front (take i es) (front (drop i es) end) ≡ front es end
front-take zero [] end = refl
front-take (suc i) [] end = refl
front-take zero (e ∷ es) end = refl
front-take (suc i) (e ∷ es) end = refl

-- a key has one place
pub one_place : (k i j : ℕ) (es : List IndexEntry) → IsEntryPlace k es i → IsEntryPlace k es j → i ≡ j
one_place k i j es a b =
    let d : IndexEntry = record { low = 0; to = 0 } in
    elim (cases_order i j) [
      | inl same ↦ same
      | inr (inl up) ↦ absurd (let over = a.2 i d (omega arith) (omega (arith, b.0)) in let under = b.1 i d (omega arith) up in omega arith)
      | inr (inr down) ↦ absurd (let over = b.2 j d (omega arith) (omega (arith, a.0)) in let under = a.1 j d (omega arith) down in omega arith)
    ]
