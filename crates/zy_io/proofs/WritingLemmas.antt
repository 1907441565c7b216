-- One text written after another: the fault of either is that of both.
use Rattle.std.proofs.Common.{◌≡◌, ℕ, ◌+◌, List, [], ◌∷◌, ◌++◌, Result, Ok, Err, refl, sym, ap, ◌∙◌, append_assoc, append-nil, take, drop, arith, zero}
use Rattle.std.proofs.Common.{suc, ◌<◌, length, get_or}
use Rattle.std.specs.List.{flat_map}
use Rattle.std.proofs.lemmas.Grind.{flat_map-append}
use Rattle.std.proofs.KnownBytes.{Appends-trans}
use Rattle.zy_io.specs.Streams.{Sent, Sends, SendsPrefix, NoneFailed}
use Rattle.zy_io.specs.declared.writing.TextFault.{TextFault}
use Rattle.zy_io.specs.declared.writing.TextFault.TheVariants.{Write, Memory}
use Rattle.zy_io.specs.Writing.{Appended, AppendedPrefix, Wrote}

-- the first text's fault is that of both
pub Appended-stops : {X E : Type 0} (a b : List ℕ) (e : E) (r : Result X E) (xs ys : List ℕ) → AppendedPrefix a b xs → r ≡ Err e → Appended r a b (xs ++ ys)
Appended-stops a b e r xs ys (front, back, is, now) err =
    rw err (front, back ++ ys, ap (λ l. l ++ ys) is ∙ append_assoc front back ys, now)

-- what came of the second text, which follows the whole of the first, came of both
pub Appended-then : {X E : Type 0} (a b c : List ℕ) (r : Result X E) (xs ys : List ℕ) → b ≡ a ++ xs → Appended r b c ys → Appended r a c (xs ++ ys)
Appended-then a b c (Ok x) xs ys first second = second ∙ ap (λ l. l ++ ys) first ∙ append_assoc a xs ys
Appended-then a b c (Err e) xs ys first (front, back, is, now) = (
  xs ++ front,
  back,
  ap (λ l. xs ++ l) is ∙ sym (append_assoc xs front back),
  now ∙ ap (λ l. l ++ front) first ∙ append_assoc a xs front,
)

-- the text of a list is that of its front, of one element and of what follows
pub flat_map-split : {X : Type 0} (f : X → List ℕ) (xs : List X) (i : ℕ) (d : X) → i < length xs
    → flat_map f xs ≡ flat_map f (take i xs) ++ (f (get_or xs i d) ++ flat_map f (drop (suc i) xs))
flat_map-split f [] i d h = absurd (omega arith)
flat_map-split f (x ∷ xs) zero d h = refl
flat_map-split f (x ∷ xs) (suc i) d h =
    ap (λ l. f x ++ l) (flat_map-split f xs i d (omega arith)) ∙ sym (append_assoc (f x) (flat_map f (take i xs))
    (f (get_or xs i d) ++ flat_map f (drop (suc i) xs)))

-- what is behind the elements before it is their text and its own
pub flat_map-take : {X : Type 0} (f : X → List ℕ) (xs : List X) (i : ℕ) (d : X) → i < length xs
    → flat_map f (take (suc i) xs) ≡ flat_map f (take i xs) ++ f (get_or xs i d)
flat_map-take f [] i d h = absurd (omega arith)
flat_map-take f (x ∷ xs) zero d h = append-nil (f x)
flat_map-take f (x ∷ xs) (suc i) d h = ap (λ l. f x ++ l) (flat_map-take f xs i d (omega arith))
    ∙ sym (append_assoc (f x) (flat_map f (take i xs)) (f (get_or xs i d)))

-- the lines of a list of parts are those of each part, one after another
pub flat_map-flat_map : {X : Type 0} (f : X → List ℕ) (parts : List (List X)) → flat_map f (flat_map (λ part. part) parts) ≡ flat_map (flat_map f) parts
flat_map-flat_map f [] = refl
flat_map-flat_map f (part ∷ parts) =
    flat_map-append f part (flat_map (λ x. x) parts) ∙ ap (λ l. flat_map f part ++ l) (flat_map-flat_map f parts)

-- the fault of one element's text, which is behind those before it, is that of the whole list
pub Appended-element-stops : {X E Z : Type 0} (f : Z → List ℕ) (xs : List Z) (i : ℕ) (d : Z) (a b c : List ℕ) (e : E) (r : Result X E)
    → i < length xs → b ≡ a ++ flat_map f (take i xs) → AppendedPrefix b c (f (get_or xs i d)) → r ≡ Err e → Appended r a c (flat_map f xs)
Appended-element-stops f xs i d a b c e r h so_far (front, back, is, now) err =
    let after = flat_map f (drop (suc i) xs) in
    let before = flat_map f (take i xs) in
    rw err (
      before ++ front,
      back ++ after,
      flat_map-split f xs i d h ∙ ap (λ l. before ++ (l ++ after)) is ∙ ap (λ l. before ++ l) (append_assoc front back after)
          ∙ sym (append_assoc before front (back ++ after)),
      now ∙ ap (λ l. l ++ front) so_far ∙ append_assoc a before front,
    )

-- Two texts were written, from a over b to c.
module _ (a b c : Sent) where
  -- a prefix of the second part, after the whole first
  SendsPrefix-after : (xs ys more text : List ℕ) → Sends a b xs → SendsPrefix b c ys → text ≡ xs ++ (ys ++ more) → SendsPrefix a c text
  SendsPrefix-after xs ys more text p q e = (
    xs ++ q.0,
    q.1 ++ more,
    e ∙ ap (λ l. xs ++ (l ++ more)) q.2 ∙ ap (λ l. xs ++ l) (append_assoc q.0 q.1 more) ∙ sym (append_assoc xs q.0 (q.1 ++ more)),
    Appends-trans a.written b.written c.written xs q.0 p q.3,
  )

  -- the fault of a part ys of the text, which follows the whole of xs, is that of the text
  pub Wrote-stops : {Y : Type 0} (f : TextFault) (r : Result Y TextFault) (xs ys more text : List ℕ)
      → Sends a b xs → NoneFailed a b → Wrote b c {X = Unit {0}} (Err f) ys → text ≡ xs ++ (ys ++ more) → r ≡ Err f → Wrote a c r text
  Wrote-stops Write r xs ys more text p same q e is =
      rw is (SendsPrefix-after xs ys more text p q.0 e, q.1 ∙ ap (λ x. x + 1) same)
  Wrote-stops Memory r xs ys more text p same q e is =
      rw is (SendsPrefix-after xs ys more text p q.0 e, q.1 ∙ same)

  -- the second text's fault is that of both
  pub Wrote-second-stops : {Y : Type 0} (f : TextFault) (r : Result Y TextFault) (xs ys : List ℕ)
      → Sends a b xs × NoneFailed a b → Wrote b c {X = Unit {0}} (Err f) ys → r ≡ Err f → Wrote a c r (xs ++ ys)
  Wrote-second-stops f r xs ys p q is =
      Wrote-stops f r xs ys [] (xs ++ ys) p.0 p.1 q (ap (λ l. xs ++ l) (sym (append-nil ys))) is

  -- one text after another, both whole
  pub Wrote-both : (xs ys : List ℕ) → Sends a b xs × NoneFailed a b → Sends b c ys × NoneFailed b c → Sends a c (xs ++ ys) × NoneFailed a c
  Wrote-both xs ys p q = (Appends-trans a.written b.written c.written xs ys p.0 q.0, q.1 ∙ p.1)

  -- one text after another, whatever came of the second
  pub Wrote-then : {X : Type 0} (r : Result X TextFault) (xs ys : List ℕ) → Sends a b xs × NoneFailed a b → Wrote b c r ys → Wrote a c r (xs ++ ys)
  Wrote-then (Ok u) xs ys p q = Wrote-both xs ys p q
  Wrote-then {X} (Err f) xs ys p q = Wrote-second-stops {Y = X} f (Err f) xs ys p q refl

  -- the fault of one element's text, which follows those before it, is that of the whole list
  pub Wrote-element-stops : {Y Z : Type 0} (f : Z → List ℕ) (xs : List Z) (i : ℕ) (d : Z) (fault : TextFault) (r : Result Y TextFault)
      → i < length xs → Sends a b (flat_map f (take i xs)) → NoneFailed a b → Wrote b c {X = Unit {0}} (Err fault) (f (get_or xs i d)) → r ≡ Err fault
      → Wrote a c r (flat_map f xs)
  Wrote-element-stops f xs i d fault r h p same q is =
      Wrote-stops fault r _ _ (flat_map f (drop (suc i) xs)) _ p same q (flat_map-split f xs i d h) is
