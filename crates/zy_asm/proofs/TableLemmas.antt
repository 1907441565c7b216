-- The names of a text say the same as the table of names that its choices are read by.
use Rattle.std.proofs.Common.{◌≡◌, ◌∙◌, ◌↔◌, ℕ, zero, suc, ◌+◌, Bool, true, false, if◌then◌else◌, cond, List, [], ◌∷◌, ◌++◌, length, slice_get, Ok}
use Rattle.std.proofs.Common.{Some, None, refl, sym, ap, subst, inl, inr, arith}
use Rattle.std.specs.Prelude.{position}
use Rattle.std.specs.List.{position_from}
use Rattle.std.specs.Bool.{one_answer}
use Rattle.std.specs.Str.{bytes_eq}
use Rattle.std.proofs.lemmas.Slice.Eq.{bytes_eq-Decides}
use Rattle.std.proofs.lemmas.Iterator.Adapters.{position_from-zero}
use Rattle.std.proofs.lemmas.List.{length-map}
use Rattle.zy_isa.specs.Scenario.{Scenario}
use Rattle.zy_isa.proofs.ResultLemmas.{same}
use Rattle.zy_text.specs.Words.{is_word, lines_with_words}
use Rattle.zy_text.specs.Names.{Mark, is_name, place, AreNew}
use Rattle.zy_text.specs.Text as m
use Rattle.zy_text.specs.Text.{Written, Draft, Refers, IsDraftOf, SpellEach, statements, name_in, instrs_of}
use Rattle.zy_asm.specs.Names.{if_name, names_of, StandsFor, SayTheSame}
use Rattle.zy_asm.specs.Reading.Progress.{Seen}
use Rattle.zy_asm.specs.Reading.{reading}
use Rattle.zy_asm.proofs.HeadLemmas.{heads, names_of-heads}
use Rattle.zy_asm.proofs.OnlyLemmas.{read_text}
use borrow.Author.Tests.{tests}

-- ---- a search through the heads finds what the table has

-- which of two texts comes first does not matter to their comparison
either_way : (a b : List ℕ) → bytes_eq a b ≡ bytes_eq b a
either_way a b =
    let d = bytes_eq-Decides b a in
    one_answer (bytes_eq a b) (bytes_eq b a) (bytes_eq-Decides a b) (λ e. sym (d.0 e), λ e. d.1 (sym e))

-- the first of the heads that is this word, from number k on, is at the word's number in the table
heads_found : (x : ℕ) (xs : List ℕ) (k : ℕ) (ps : List Written)
    → position_from (λ (n : List ℕ). bytes_eq n (x ∷ xs)) k (heads ps) ≡ place (x ∷ xs) (m.names_of k ps)
heads_found x xs k [] = refl
heads_found x xs k (p ∷ ps) = by (is_name p.head) (heads_found x xs (k + 1) ps)
  where
    by : (b : Bool) → position_from (λ (n : List ℕ). bytes_eq n (x ∷ xs)) (k + 1) (heads ps) ≡ place (x ∷ xs) (m.names_of (k + 1) ps)
        → cond (bytes_eq (if b then p.head else []) (x ∷ xs)) (Some k) (position_from (λ (n : List ℕ). bytes_eq n (x ∷ xs)) (k + 1) (heads ps))
        ≡ place (x ∷ xs) ((if b then (p.head, k) ∷ [] else []) ++ m.names_of (k + 1) ps)
    by true below = rw (either_way p.head (x ∷ xs), below) refl
    by false below = below

-- a search that finds a word finds it where it is
found_there : (w : List ℕ) (k : ℕ) (names : List (List ℕ)) (t : ℕ) → position_from (λ (n : List ℕ). bytes_eq n w) k names ≡ Some t
    → (i : ℕ) × (t ≡ k + i) × (slice_get names i ≡ Some w)
found_there w k [] t h = cc
found_there w k (n ∷ ns) t h = by (bytes_eq n w) refl (found_there w (k + 1) ns t) h
  where
    by : (b : Bool) → bytes_eq n w ≡ b
        → (position_from (λ (y : List ℕ). bytes_eq y w) (k + 1) ns ≡ Some t → (i : ℕ) × (t ≡ k + 1 + i) × (slice_get ns i ≡ Some w))
        → cond b (Some k) (position_from (λ (y : List ℕ). bytes_eq y w) (k + 1) ns) ≡ Some t → (i : ℕ) × (t ≡ k + i) × (slice_get (n ∷ ns) i ≡ Some w)
    by true e ih g = (zero, (let q : k ≡ t = cc (g) in omega (arith, q)), ap Some (same n w e))
    by false e ih g = let r = ih g in (suc r.0, omega (arith, r.1), r.2)

-- ---- a word is at one place at most

-- what is not among marks in a row is among neither part
in_neither : (w : List ℕ) (A B : List Mark) → place w (A ++ B) ≡ None → (place w A ≡ None) × (place w B ≡ None)
in_neither w [] B h = (refl, h)
in_neither w (m ∷ A) B h = by (bytes_eq w m.0) (in_neither w A B) h
  where
    by : (b : Bool) → (place w (A ++ B) ≡ None → (place w A ≡ None) × (place w B ≡ None))
        → (if b then Some m.1 else place w (A ++ B)) ≡ None → ((if b then Some m.1 else place w A) ≡ None) × (place w B ≡ None)
    by true ih g = cc
    by false ih g = ih g

-- a word among new marks is not above them
not_above : (w : List ℕ) (above ms : List Mark) (t : ℕ) → AreNew above ms → place w ms ≡ Some t → place w above ≡ None
not_above w above [] t new h = cc
not_above w above (m ∷ ms) t new h = by (bytes_eq w m.0) refl (not_above w (above ++ m ∷ []) ms t new.1) h
  where
    by : (b : Bool) → bytes_eq w m.0 ≡ b → (place w ms ≡ Some t → place w (above ++ m ∷ []) ≡ None) → (if b then Some m.1 else place w ms) ≡ Some t
        → place w above ≡ None
    by true e ih g = ap (λ (v : List ℕ). place v above) (same w m.0 e) ∙ new.0
    by false e ih g = (in_neither w above (m ∷ []) (ih g)).0

-- a word among new marks, behind a name, is not that name
name_before : (w : List ℕ) (above : List Mark) (head : List ℕ) (k : ℕ) (ms : List Mark) (t : ℕ) → AreNew above (name_in head k ++ ms) → place w ms ≡ Some t
    → place w (name_in head k ++ ms) ≡ Some t
name_before w above head k ms t new h = by (is_name head) new
  where
    other : (b : Bool) → (if b then Some k else None) ≡ None → (if b then Some k else place w ms) ≡ Some t
    other true e = cc
    other false e = h

    by : (b : Bool) → AreNew above ((if b then (head, k) ∷ [] else []) ++ ms) → place w ((if b then (head, k) ∷ [] else []) ++ ms) ≡ Some t
    by true n = other (bytes_eq w head) (in_neither w above ((head, k) ∷ []) (not_above w (above ++ (head, k) ∷ []) ms t n.1 h)).1
    by false n = h

-- where names are new, those behind the first are so too, behind some others
new_behind : (above : List Mark) (head : List ℕ) (k : ℕ) (ms : List Mark) → AreNew above (name_in head k ++ ms) → (more : List Mark) × AreNew more ms
new_behind above head k ms new = by (is_name head) new
  where
    by : (b : Bool) → AreNew above ((if b then (head, k) ∷ [] else []) ++ ms) → (more : List Mark) × AreNew more ms
    by true n = (above ++ (head, k) ∷ [], n.1)
    by false n = (above, n)

-- a word that is one of the heads is in the table with its number
place_is : (x : ℕ) (xs : List ℕ) (k : ℕ) (ps : List Written) (above : List Mark) (i : ℕ) → AreNew above (m.names_of k ps)
    → slice_get (heads ps) i ≡ Some (x ∷ xs) → place (x ∷ xs) (m.names_of k ps) ≡ Some (k + i)
place_is x xs k [] above i new h = cc
place_is x xs k (p ∷ ps) above zero new h = by (is_name p.head) h
  where
    w : List ℕ
    w = x ∷ xs

    by : (b : Bool) → Some (if b then p.head else []) ≡ Some w → place w ((if b then (p.head, k) ∷ [] else []) ++ m.names_of (k + 1) ps) ≡ Some (k + 0)
    by true g =
        let q : p.head ≡ w = cc (g) in
        rw ((bytes_eq-Decides w p.head).1 (sym q)) (ap Some (omega arith))
    by false g = cc
place_is x xs k (p ∷ ps) above (suc i) new h =
    let ms = m.names_of (k + 1) ps in
    let behind = new_behind above p.head k ms new in
    let rest : place (x ∷ xs) ms ≡ Some (k + suc i) = place_is x xs (k + 1) ps behind.0 i behind.1 h ∙ ap Some (omega arith) in
    name_before (x ∷ xs) above p.head k ms (k + suc i) new rest

-- ---- what the names of a text say

-- heads that are new say what their table says
heads_say : (ps : List Written) (count : ℕ) → length ps ≡ count → AreNew [] (m.names_of 0 ps) → SayTheSame (heads ps) count (m.names_of 0 ps)
heads_say ps count many new = record { each = length-map ps (λ (p : Written). if_name p.head) ∙ many; only = only; found = found }
  where
    found : (w : List ℕ) → is_word w ≡ true → position (λ n. bytes_eq n w) (heads ps) ≡ place w (m.names_of 0 ps)
    found [] h = cc
    found (x ∷ xs) h = position_from-zero (λ n. bytes_eq n (x ∷ xs)) (heads ps) ∙ heads_found x xs 0 ps

    only : (w : List ℕ) (t : ℕ) → is_word w ≡ true → (place w (m.names_of 0 ps) ≡ Some t) ↔ (slice_get (heads ps) t ≡ Some w)
    only [] t h = cc
    only (x ∷ xs) t h = (there, back)
      where
        there : place (x ∷ xs) (m.names_of 0 ps) ≡ Some t → slice_get (heads ps) t ≡ Some (x ∷ xs)
        there e =
            let r = found_there (x ∷ xs) 0 (heads ps) t (heads_found x xs 0 ps ∙ e) in
            let q : t ≡ r.0 = omega (arith, r.1) in
            ap (slice_get (heads ps)) q ∙ r.2

        back : slice_get (heads ps) t ≡ Some (x ∷ xs) → place (x ∷ xs) (m.names_of 0 ps) ≡ Some t
        back e = let q : 0 + t ≡ t = omega arith in place_is x xs 0 ps [] t new e ∙ ap Some q

-- the names of a text that writes a draft of a scenario say what the draft's table says
pub names_say : (text : List ℕ) (s : Scenario) (d : Draft) → IsDraftOf d s → SpellEach (statements s d) (lines_with_words text)
    → SayTheSame (names_of text) (length s.programs) (m.names_of 0 d.programs)
names_say text s d is h =
    let many : length d.programs ≡ length s.programs =
    sym (length-map d.programs (λ (p : Written). instrs_of p.body)) ∙ ap length is.programs in
    subst (λ (ns : List (List ℕ)). SayTheSame ns (length s.programs) (m.names_of 0 d.programs)) (sym (names_of-heads text s d h))
    (heads_say d.programs (length s.programs) many is.names_new)

-- a name is a word
name_is_word : (w : List ℕ) → is_name w ≡ true → is_word w ≡ true
name_is_word [] h = cc
name_is_word (x ∷ xs) h = grind (arith, tests)

-- a word refers to a transaction by a table if and only if it stands for it among names that say the same
pub refers : (names : List (List ℕ)) (count : ℕ) (table : List Mark) (t : ℕ) (w : List ℕ) → SayTheSame names count table
    → Refers table t w ↔ StandsFor names t w
refers names count table t w h = (there, back)
  where
    there : Refers table t w → StandsFor names t w
    there r = elim r [ inl n ↦ inl n | inr q ↦ inr (q.0, (h.only w t (name_is_word w q.0)).0 q.1) ]

    back : StandsFor names t w → Refers table t w
    back r = elim r [ inl n ↦ inl n | inr q ↦ inr (q.0, (h.only w t (name_is_word w q.0)).1 q.1) ]

-- the names of a text that is read say what its table says
pub seen_say : (text : List ℕ) (seen : Seen) → reading text ≡ Ok seen → SayTheSame (names_of text) (length seen.programs) seen.names
seen_say text seen h =
    let f = read_text text seen h in
    subst (SayTheSame (names_of text) (length seen.programs)) (sym f.names) (names_say text _ f.draft f.drafts f.spelled)
