-- What nodes have to do with the pages, when one is cut or has one entry more.
use Rattle.std.proofs.Common.{◌≡◌, ◌∙◌, ℕ, zero, suc, ◌+◌, ◌-◌, ◌<◌, ◌≤◌, List, [], ◌∷◌, ◌++◌, length, get_or, take, drop, sym, ap, arith, length-append}
use Rattle.std.proofs.Common.{length-take, length-drop, ◌⊎◌, inl, inr}
use Rattle.std.specs.Prelude.{Contains}
use Rattle.std.specs.List.{insert}
use Rattle.std.proofs.lemmas.Bool.{cases_lt}
use Rattle.std.proofs.lemmas.List.{get_or_append_left, get_or-take, get_or-drop}
use Rattle.std.proofs.lemmas.List.Elements.{Contains-append_left}
use Rattle.std.proofs.lemmas.List.Edits.{length-insert, get_or-insert_below, get_or-insert_at, get_or-insert_above}
use Rattle.zy_wire.specs.declared.entry.IndexEntry.{IndexEntry}
use Rattle.zy_wire.specs.ByLow.{front, Rise}
use Rattle.zy_wire.specs.Pages.{Keys, Match, EntryOf, Whole}
use Rattle.zy_wire.proofs.Entries.{low_rises, front_drop}
use Rattle.zy_wire.specs.Nodes.{key_end}

-- the low key of the entry at an index is that of a page
pub key_at : (lows : List ℕ) (i : ℕ) (d : IndexEntry) (es : List IndexEntry) → Keys lows es → i < length es → Contains lows (get_or es i d).low
key_at lows i d [] h lt = absurd (omega arith)
key_at lows zero d (e ∷ es) h lt = h.0
key_at lows (suc i) d (e ∷ es) h lt = key_at lows i d es h.1 (omega arith)

-- each low key of the first i entries is that of a page
pub Keys-take : (lows : List ℕ) (i : ℕ) (es : List IndexEntry) → Keys lows es → Keys lows (take i es)
Keys-take lows zero es h = tt
Keys-take lows (suc i) [] h = tt
Keys-take lows (suc i) (e ∷ es) h = (h.0, Keys-take lows i es h.1)

-- the same for the entries from index i on
pub Keys-drop : (lows : List ℕ) (i : ℕ) (es : List IndexEntry) → Keys lows es → Keys lows (drop i es)
Keys-drop lows zero es h = h
Keys-drop lows (suc i) [] h = tt
Keys-drop lows (suc i) (e ∷ es) h = Keys-drop lows i es h.1

-- the same for one more entry whose low key is that of a page
pub Keys-insert : (lows : List ℕ) (i : ℕ) (new : IndexEntry) (es : List IndexEntry) → Contains lows new.low → Keys lows es → Keys lows (insert es i new)
Keys-insert lows zero new es key h = (key, h)
Keys-insert lows (suc i) new [] key h = (key, tt)
Keys-insert lows (suc i) new (e ∷ es) key h = (h.0, Keys-insert lows i new es key h.1)

-- each low key of the entries is still that of a page when there is one page more
pub Keys-push : (lows : List ℕ) (low : ℕ) (es : List IndexEntry) → Keys lows es → Keys (lows ++ low ∷ []) es
Keys-push lows low [] h = tt
Keys-push lows low (e ∷ es) h = (Contains-append_left lows (low ∷ []) e.low h.0, Keys-push lows low es h.1)

-- the entry at an index is of a page that is there, and has its low key
pub match_at : (lows : List ℕ) (es : List IndexEntry) (j : ℕ) (d : IndexEntry) → Match lows es → j < length es → ((get_or es j d).to < length lows)
    × (get_or lows (get_or es j d).to 0 ≡ (get_or es j d).low)
match_at lows [] j d h lt = absurd (omega arith)
match_at lows (e ∷ es) zero d h lt = (h.0, h.1)
match_at lows (e ∷ es) (suc j) d h lt = match_at lows es j d h.2 (omega arith)

-- each of the first i entries has the low key of its page
pub Match-take : (lows : List ℕ) (i : ℕ) (es : List IndexEntry) → Match lows es → Match lows (take i es)
Match-take lows zero es h = tt
Match-take lows (suc i) [] h = tt
Match-take lows (suc i) (e ∷ es) h = (h.0, h.1, Match-take lows i es h.2)

-- the same for the entries from index i on
pub Match-drop : (lows : List ℕ) (i : ℕ) (es : List IndexEntry) → Match lows es → Match lows (drop i es)
Match-drop lows zero es h = h
Match-drop lows (suc i) [] h = tt
Match-drop lows (suc i) (e ∷ es) h = Match-drop lows i es h.2

-- each entry still has the low key of its page when there is one page more
pub Match-push : (lows : List ℕ) (low : ℕ) (es : List IndexEntry) → Match lows es → Match (lows ++ low ∷ []) es
Match-push lows low [] h = tt
Match-push lows low (e ∷ es) h =
    let lt = h.0 in
    let more = length-append lows (low ∷ []) in
    (omega arith, get_or_append_left lows (low ∷ []) 0 e.to h.0 ∙ h.1, Match-push lows low es h.2)

-- each entry has the low key of its page when one more, which has that of its own, is put among them
pub Match-insert : (lows : List ℕ) (i : ℕ) (new : IndexEntry) (es : List IndexEntry) → new.to < length lows → get_or lows new.to 0 ≡ new.low → Match lows es
    → Match lows (insert es i new)
Match-insert lows zero new es lt is h = (lt, is, h)
Match-insert lows (suc i) new [] lt is h = (lt, is, tt)
Match-insert lows (suc i) new (e ∷ es) lt is h = (h.0, h.1, Match-insert lows i new es lt is h.2)

-- the entry of a page has its low key
pub low_of_entry : (lows : List ℕ) (es : List IndexEntry) (p : ℕ) (d : IndexEntry) (e : EntryOf es p) → Match lows es → (get_or es e.at d).low ≡ get_or lows p 0
low_of_entry lows es p d e match = sym (match_at lows es e.at d match e.within).1 ∙ ap (λ q. get_or lows q 0) (e.is d)

-- the pages of the first i entries, and those of the others
pub Whole-take : (lows : List ℕ) (from to i : ℕ) (es : List IndexEntry) → Rise 0 es to → i < length es → Match lows es → front (drop i es) to ≤ to
    → Whole lows from to es → Whole lows from (front (drop i es) to) (take i es)
Whole-take lows from to i es rise lt match le whole = λ p in' low below.
    let d : IndexEntry = record { low = 0; to = 0 } in
    let e = whole p in' low (omega arith) in
    let is = low_of_entry lows es p d e match in
    let mid = front_drop i d es to lt in
    let before : e.at < i = elim (cases_lt e.at i) [
      | inl up ↦ up
      | inr past ↦ absurd (elim (cases_lt i e.at) [
        | inl up ↦ (let r = low_rises 0 i e.at d es to rise up e.within in omega arith)
        | inr down ↦ (let here : e.at ≡ i = omega arith in let same = ap (λ j. (get_or es j d).low) here in omega arith)
      ])
    ] in
    record { at = e.at; within = omega (arith, length-take i es, e.within); is = λ d'. rw (get_or-take i es e.at d' before) (e.is d') }

-- each page whose low key is not below that of entry i has an entry from index i on
pub Whole-drop : (lows : List ℕ) (from to i : ℕ) (es : List IndexEntry) → Rise 0 es to → i < length es → Match lows es → from ≤ front (drop i es) to
    → Whole lows from to es → Whole lows (front (drop i es) to) to (drop i es)
Whole-drop lows from to i es rise lt match le whole = λ p in' low below.
    let d : IndexEntry = record { low = 0; to = 0 } in
    let e = whole p in' (omega arith) below in
    let is = low_of_entry lows es p d e match in
    let mid = front_drop i d es to lt in
    let after : i ≤ e.at = elim (cases_lt e.at i) [
      | inl up ↦ absurd (let r = low_rises 0 e.at i d es to rise up lt in omega arith)
      | inr past ↦ past
    ] in
    let count : i + (e.at - i) ≡ e.at = omega (arith, after) in
    record { at = e.at - i; within = omega (arith, length-drop i es, e.within, after); is = λ d'. rw (get_or-drop i es (e.at - i) d', count) (e.is d') }

-- one entry more
pub EntryOf-old : (i p : ℕ) (new : IndexEntry) (es : List IndexEntry) → i ≤ length es → EntryOf es p → EntryOf (insert es i new) p
EntryOf-old i p new es le e =
    let more = length-insert es i new le in
    elim (cases_lt e.at i) [
      | inl before ↦ record { at = e.at; within = omega (arith, more, e.within); is = λ d. rw (get_or-insert_below es i new d e.at before le) (e.is d) }
      | inr after ↦ record { at = e.at + 1; within = omega (arith, more, e.within); is = λ d. rw (get_or-insert_above es i new d e.at after le) (e.is d) }
    ]

-- the entry that is put among the others is that of its page
pub EntryOf-new : (i : ℕ) (new : IndexEntry) (es : List IndexEntry) → i ≤ length es → EntryOf (insert es i new) new.to
EntryOf-new i new es le =
    let more = length-insert es i new le in
    record { at = i; within = omega (arith, more, le); is = λ d. ap (λ (e : IndexEntry). e.to) (get_or-insert_at es i new d le) }

-- a key that was one still is
pub last-push : (lows : List ℕ) (low end : ℕ) → (end ≡ key_end) ⊎ Contains lows end → (end ≡ key_end) ⊎ Contains (lows ++ low ∷ []) end
last-push lows low end (inl none) = inl none
last-push lows low end (inr key) = inr (Contains-append_left lows (low ∷ []) end key)
