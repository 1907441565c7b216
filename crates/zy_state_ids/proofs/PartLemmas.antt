-- What the numbers of parts tell.
use Rattle.std.proofs.Common.{◌≡◌, ◌∙◌, ℕ, zero, suc, ◌+◌, ◌<◌, List, [], ◌∷◌, ◌++◌, length, take, drop, map, Option, Some, None, unwrap_or, slice_get, slice_index_or, refl, sym, ap, ap₂, arith, append_assoc}
use Rattle.std.proofs.Math.Seq.{take-suc, take-length}
use Rattle.std.proofs.lemmas.List.{map-append, length-map}
use Rattle.zy_table.specs.State.{State, Txn}
use Rattle.zy_table.specs.Change.{txn_or}
use Rattle.zy_steps.specs.declared.part.StatePart.{StatePart}
use Rattle.zy_steps.specs.declared.part.StatePart.TheVariants.{Whole, Live}
use Rattle.zy_steps.specs.Alike.{live_txn, txn_part, txns_part, Alike}
use Rattle.zy_state_ids.specs.Packed.{node_state, items, message, commit, txn}
use Rattle.zy_state_ids.proofs.Codecs.{IsCode}
use Rattle.zy_state_ids.proofs.States.{all, node_state_is_code, message_is_code, commit_is_code, txn_is_code}
use Rattle.zy_state_ids.specs.Parts.{shared_parts, txn_parts, parts, AreNumbersOf, IsNumbered, Keeps}

-- ---- numbers in a table that grows

-- the first of two lists of the same options, and those behind it
head_is : {T : Type 0} (x y : T) (xs ys : List (Option T)) → Some x ∷ xs ≡ Some y ∷ ys → x ≡ y
head_is x y xs ys e = ap (λ os. unwrap_or (slice_index_or os 0 None) x) e

-- parts keep their numbers
pub stay : (old new : List (List ℕ)) → Keeps old new → (ns : List ℕ) (xs : List (List ℕ)) → AreNumbersOf old ns xs → AreNumbersOf new ns xs
stay old new keeps [] [] e = refl
stay old new keeps [] (x ∷ xs) e = cc
stay old new keeps (n ∷ ns) [] e = cc
stay old new keeps (n ∷ ns) (x ∷ xs) e =
    let first : slice_get old n ≡ Some x = ap (λ os. slice_index_or os 0 None) e in
    let behind : AreNumbersOf old ns xs = ap (drop 1) e in
    ap₂ (λ (y : Option (List ℕ)) (ys : List (Option (List ℕ))). y ∷ ys) (keeps n x first) (stay old new keeps ns xs behind)

-- one part more
pub one_more : (table : List (List ℕ)) (ns : List ℕ) (xs : List (List ℕ)) (n : ℕ) (x : List ℕ) → AreNumbersOf table ns xs
    → slice_get table n ≡ Some x → AreNumbersOf table (ns ++ n ∷ []) (xs ++ x ∷ [])
one_more table ns xs n x e h =
    map-append (slice_get table) ns (n ∷ []) ∙ ap₂ (λ ys y. ys ++ y ∷ []) e h ∙ sym (map-append Some xs (x ∷ []))

-- the five parts that are no transactions
pub five : (table : List (List ℕ)) (ns : List ℕ) (s : State) {a b ab ba commits : List ℕ} → a ≡ node_state s.a → b ≡ node_state s.b
    → ab ≡ items message s.ab → ba ≡ items message s.ba → commits ≡ items commit s.commits
    → AreNumbersOf table ns (a ∷ b ∷ ab ∷ ba ∷ commits ∷ []) → AreNumbersOf table ns (shared_parts s)
five table ns s a b ab ba commits e =
    let some : (x : List ℕ) → Option (List ℕ) = λ x. Some x in
    e ∙ ap₂ (λ x xs. some x ∷ xs) a (ap₂ (λ x xs. some x ∷ xs) b (ap₂ (λ x xs. some x ∷ xs) ab (ap₂ (λ x y. some x ∷ some y ∷ []) ba commits)))

-- ---- the parts tell the state

-- lists of the same options are the same
somes : {T : Type 0} → (xs ys : List T) → map Some xs ≡ map Some ys → xs ≡ ys
somes [] [] e = refl
somes [] (y ∷ ys) e = cc
somes (x ∷ xs) [] e = cc
somes (x ∷ xs) (y ∷ ys) e =
    let behind : map Some xs ≡ map Some ys = ap (drop 1) e in
    ap₂ (λ z zs. z ∷ zs) (head_is x y _ _ e) (somes xs ys behind)

-- the same bytes code the same
told : {T : Type 0} (f : T → List ℕ) → IsCode f → (x y : T) → f x ≡ f y → x ≡ y
told f code x y e = (code x y [] [] (ap (λ z. z ++ []) e)).0

-- the same bytes of each code the same list
all_told : {T : Type 0} (f : T → List ℕ) → IsCode f → (xs ys : List T) → map f xs ≡ map f ys → xs ≡ ys
all_told f code [] [] e = refl
all_told f code [] (y ∷ ys) e = cc
all_told f code (x ∷ xs) [] e = cc
all_told f code (x ∷ xs) (y ∷ ys) e =
    let first : f x ≡ f y = ap (λ zs. slice_index_or zs 0 []) e in
    let behind : map f xs ≡ map f ys = ap (drop 1) e in
    ap₂ (λ z zs. z ∷ zs) (told f code x y first) (all_told f code xs ys behind)

-- the part at a place
abbrev at : ℕ → List (List ℕ) → List ℕ
at i xs = slice_index_or xs i []

-- states with the same parts are alike
pub alike : (part : StatePart) (s t : State) → parts part s ≡ parts part t → Alike part s t
alike part s t e =
    let a = told node_state node_state_is_code s.a t.a (ap (at 0) e) in
    let b = told node_state node_state_is_code s.b t.b (ap (at 1) e) in
    let ab = told (items message) (all message message_is_code) s.ab t.ab (ap (at 2) e) in
    let ba = told (items message) (all message message_is_code) s.ba t.ba (ap (at 3) e) in
    let commits = told (items commit) (all commit commit_is_code) s.commits t.commits (ap (at 4) e) in
    let txns = all_told txn txn_is_code (txns_part part s.txns) (txns_part part t.txns) (ap (drop 5) e) in
    cc

-- so are those with the same numbers
pub alike_by_numbers : (table : List (List ℕ)) (part : StatePart) (ns : List ℕ) (s t : State) → IsNumbered table part ns s → IsNumbered table part ns t
    → Alike part s t
alike_by_numbers table part ns s t i j = alike part s t (somes (parts part s) (parts part t) (sym i ∙ j))

-- ---- the parts of transactions

-- the bytes of what counts of a transaction are at its place
bytes_at : (part : StatePart) (xs : List Txn) (t : ℕ) (d : List ℕ) → t < length xs
    → slice_index_or (map txn (txns_part part xs)) t d ≡ txn (txn_part part (txn_or (slice_get xs t)))
bytes_at part [] t d h = absurd (omega (arith, h))
bytes_at Whole (x ∷ xs) zero d h = refl
bytes_at Live (x ∷ xs) zero d h = refl
bytes_at Whole (x ∷ xs) (suc t) d h = bytes_at Whole xs t d (omega (arith, h))
bytes_at Live (x ∷ xs) (suc t) d h = bytes_at Live xs t d (omega (arith, h))

-- how many there are
many : (part : StatePart) (xs : List Txn) → length (map txn (txns_part part xs)) ≡ length xs
many Whole xs = length-map xs txn
many Live xs = length-map (map live_txn xs) txn ∙ length-map xs live_txn

-- those of the first transactions and of one more
pub one_txn_more : (part : StatePart) (s : State) (t : ℕ) (xs : List (List ℕ)) → t < length s.txns
    → (xs ++ take t (txn_parts part s)) ++ txn (txn_part part (txn_or (slice_get s.txns t))) ∷ [] ≡ xs ++ take (t + 1) (txn_parts part s)
one_txn_more part s t xs h =
    let within : t < length (txn_parts part s) = omega (arith, h, many part s.txns) in
    let next : suc t ≡ t + 1 = omega arith in
    append_assoc xs (take t (txn_parts part s)) (txn (txn_part part (txn_or (slice_get s.txns t))) ∷ [])
    ∙ ap (λ ys. xs ++ (take t (txn_parts part s) ++ ys ∷ [])) (sym (bytes_at part s.txns t [] h))
    ∙ ap (λ ys. xs ++ ys) (sym (take-suc (txn_parts part s) t [] within)) ∙ ap (λ n. xs ++ take n (txn_parts part s)) next

-- all of them are the first ones
pub all_txns : (part : StatePart) (s : State) (n : ℕ) → n ≡ length s.txns → take n (txn_parts part s) ≡ txn_parts part s
all_txns part s n e = ap (λ k. take k (txn_parts part s)) (e ∙ sym (many part s.txns)) ∙ take-length (txn_parts part s)

-- the number of one more was put
pub put_txn : (table : List (List ℕ)) (ns : List ℕ) (part : StatePart) (s : State) (t : ℕ) (xs : List (List ℕ)) (bytes : List ℕ) (x : Txn)
    → t < length s.txns → bytes ≡ txn (txn_part part x) → x ≡ txn_or (slice_get s.txns t)
    → AreNumbersOf table ns ((xs ++ take t (txn_parts part s)) ++ bytes ∷ []) → AreNumbersOf table ns (xs ++ take (t + 1) (txn_parts part s))
put_txn table ns part s t xs bytes x h b is e =
    e ∙ ap (λ ys. map Some ((xs ++ take t (txn_parts part s)) ++ ys ∷ [])) (b ∙ ap (λ y. txn (txn_part part y)) is)
    ∙ ap (map Some) (one_txn_more part s t xs h)
