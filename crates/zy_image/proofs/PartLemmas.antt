-- Rows, programs and choices: what was read has its image, and an image is read as what it shows.
use Rattle.std.proofs.Common.{◌≡◌, ◌==◌, ℕ, ◌+◌, ◌<◌, ◌^◌, Bool, true, false, nat_lt, List, [], ◌∷◌, ◌++◌, length, get_or, Option, None, Some, IfSome, Ok, Err}
use Rattle.std.proofs.Common.{refl, sym, ap, ◌∙◌, subst, arith, if◌then◌else◌, ok_or}
use Rattle.std.proofs.lemmas.Bool.{cond_both}
use Rattle.std.proofs.lemmas.List.{take-append-drop, length-take-le, length-drop}
use Rattle.std.proofs.lemmas.Nat.{be_bytes_2, be_bytes_4, from_be_bytes-to_be_bytes_2, from_be_bytes-to_be_bytes_4}
use Rattle.std.specs.Prelude.{take, drop}
use Rattle.std.specs.Int.{w32, to_be_bytes}
use Rattle.zy_isa.specs.declared.version.Version.{Version}
use Rattle.zy_isa.specs.declared.row.Row.{Row}
use Rattle.zy_isa.specs.declared.instr.Instr.{Instr}
use Rattle.zy_isa.specs.declared.node.Node.{Node}
use Rattle.zy_isa.specs.declared.node.Node.TheVariants as node
use Rattle.zy_isa.specs.declared.choice.Choice.{Choice}
use Rattle.zy_isa.specs.declared.choice.Choice.TheVariants.{Start, Begin, Kill, Run, Take, Finish, Push}
use Rattle.zy_isa.specs.declared.operation.Parts.{Parts}
use Rattle.zy_isa.specs.declared.operation.Parts.TheVariants.{Number, Pair, Jump, Lone}
use Rattle.zy_isa.specs.InstrWords.{word_with, word_of, IsWordOf}
use Rattle.zy_isa.specs.Operations.{has, parts_of}
use Rattle.zy_isa.specs.WordFields.{decoded}
use Rattle.zy_isa.specs.Programs.{HasValue, HasEach, Values}
use Rattle.zy_isa.specs.Rows.{Rising, RowsFit, misplaced_row, last_row, is_low}
use Rattle.zy_isa.specs.Choices.{names_below}
use Rattle.zy_isa.specs.Scenario.{AreNamed}
use Rattle.zy_isa.proofs.ResultLemmas.{bind_ok, if_err, ok_or_ok}
use Rattle.zy_isa.proofs.RowLemmas.{order_more, Above, above_more}
use Rattle.zy_isa.proofs.ScenarioLemmas.{known_more, named_more}
use Rattle.zy_isa.proofs.WordLemmas.{decoded_found, decoded_only}
use Rattle.zy_image.specs.declared.faults.LoadFault.TheVariants as fault
use Rattle.zy_image.specs.Image.{row_image, choice_image, node_byte}
use Rattle.zy_image.specs.Reading.{Read, field, row_at, next_row, if_known, next_instr, next_choice, named, plain, client_choice, node_choice, choice_at}
use Rattle.zy_image.proofs.FieldLemmas.{AreBytes, byte_at, front_bytes, back_bytes, one_answer, field_found, field_gives}
use Rattle.zy_image.proofs.ListLemmas.{TookItem, AreRead}
use borrow.Author.Tests.{tests}

-- ---- rows

-- the image of the row that six bytes show is these bytes
row_back : (w : List ℕ) → length w ≡ 6 → AreBytes w → row_image (row_at w) ≡ w
row_back w size fit =
    let all = take-append-drop 2 w in
    let b : AreBytes (take 2 w ++ drop 2 w) = subst AreBytes (sym all) fit in
    let k = be_bytes_2 (take 2 w) (row_at w).key (length-take-le 2 w (omega (arith, size))) (byte_at (take 2 w) (front_bytes (take 2 w) (drop 2 w) b)) refl in
    let v = be_bytes_4 (drop 2 w) (row_at w).value (length-drop 2 w ∙ omega (arith, size)) (byte_at (drop 2 w) (back_bytes (take 2 w) (drop 2 w) b)) refl in
    ap (λ x. x ++ to_be_bytes w32 (row_at w).value) k ∙ ap (λ x. take 2 w ++ x) v ∙ all

-- the key of each row is above the one before it
abbrev pub InOrder : List Row → Type 0
InOrder rows = misplaced_row rows ≡ None

-- a row that was read has its image before what is left, and the rows stay in order
pub row_found : (size : ℕ) (rows : List Row) (bytes : List ℕ) (r : Row) (left : List ℕ) → InOrder rows → AreBytes bytes
    → next_row size rows bytes ≡ Ok (r, left) → TookItem row_image InOrder rows bytes r left
row_found size rows bytes r left order fit h =
    let f = bind_ok (field 6 size bytes) _ (r, left) h in
    let w = f.0.0 in
    let d = field_found 6 size bytes w f.0.1 fit f.1 in
    let t = if_err (is_low (row_at w).key (last_row rows)) (Ok (row_at w, f.0.1)) (fault.RowOrder (length rows)) (r, left) f.2 in
    let s = one_answer (row_at w) r f.0.1 left t.1 in
    record {
      same = d.same ∙ ap (λ x. x ++ f.0.1) (sym (row_back w d.size d.front)) ∙ ap (λ x. row_image x ++ f.0.1) s.0 ∙ ap (λ x. row_image r ++ x) s.1;
      back = subst AreBytes s.1 d.back;
      kept = subst (λ x. InOrder (rows ++ x ∷ [])) s.0 (order_more rows (row_at w) order t.0);
    }

-- the image of a row that fits shows this row
row_shown : (r : Row) → r.key < 2 ^ 16 → r.value < 2 ^ 32 → row_at (row_image r) ≡ r
row_shown r k v = rw (from_be_bytes-to_be_bytes_2 r.key k, from_be_bytes-to_be_bytes_4 r.value v) refl

-- a row of a field, if its key is above that of the last one
abbrev in_order : List Row → List ℕ → Row → Read Row
in_order before left x = if is_low x.key (last_row before) then Err (fault.RowOrder (length before)) else Ok (x, left)

-- the image of a row that fits, with a key above the last, is read as it
row_gives : (size : ℕ) (before : List Row) (r : Row) (left : List ℕ) → r.key < 2 ^ 16 → r.value < 2 ^ 32 → is_low r.key (last_row before) ≡ false
    → next_row size before (row_image r ++ left) ≡ Ok (r, left)
row_gives size before r left k v low =
    let e : next_row size before (row_image r ++ left) ≡ in_order before left (row_at (row_image r)) = rw (field_gives size (row_image r) left) refl in
    e ∙ ap (in_order before left) (row_shown r k v) ∙ rw low refl

-- the images of rows that are in order and fit are read as them, one by one
pub rows_read : (size low : ℕ) (rows before : List Row) → Rising low rows → RowsFit rows → Above low before → AreRead row_image (next_row size) before rows
rows_read size low [] before rise fit above = tt
rows_read size low (r ∷ rows) before rise fit above = (
  (λ left. row_gives size before r left fit.0 fit.1 (above r.key rise.0)),
  rows_read size (r.key + 1) rows (before ++ r ∷ []) rise.1 fit.2 (above_more before r),
)

-- ---- instructions

-- an instruction that passes the test of the version is one that it has
known_found : (version : Version) (o : Option Instr) (i : Instr) → if_known version o ≡ Some i → (o ≡ Some i) × (has version i ≡ true)
known_found version None i h = cc
known_found version (Some x) i h = by (has version x) refl h
  where
    by : (b : Bool) → has version x ≡ b → (if b then Some x else None) ≡ Some i → (Some x ≡ Some i) × (has version i ≡ true)
    by true e g = (g, subst (λ z. has version z ≡ true) (let q : x ≡ i = cc in q) e)
    by false e g = cc

-- an instruction that was read has its word before what is left, and it is of the version
pub instr_found : (version : Version) (t size : ℕ) (is : List Instr) (bytes : List ℕ) (i : Instr) (left : List ℕ) → HasEach version is → AreBytes bytes
    → next_instr version t size is bytes ≡ Ok (i, left)
    → TookItem word_of (HasEach version) is bytes i left
instr_found version t size is bytes i left known fit h =
    let f = bind_ok (field 8 size bytes) _ (i, left) h in
    let w = f.0.0 in
    let d = field_found 8 size bytes w f.0.1 fit f.1 in
    let g = bind_ok (ok_or (if_known version (decoded w)) (fault.Word t (length is))) _ (i, left) f.2 in
    let x = known_found version (decoded w) g.0 (ok_or_ok (if_known version (decoded w)) (fault.Word t (length is)) g.0 g.1) in
    let s = one_answer g.0 i f.0.1 left g.2 in
    let is_word : IsWordOf w g.0 = subst (λ o. IfSome o (IsWordOf w)) x.0 (decoded_found w d.size (byte_at w d.front)) in
    record {
      same = d.same ∙ ap (λ x. x ++ f.0.1) is_word.1 ∙ ap (λ x. word_of x ++ f.0.1) s.0 ∙ ap (λ x. word_of i ++ x) s.1;
      back = subst AreBytes s.1 d.back;
      kept = subst (λ z. HasEach version (is ++ z ∷ [])) s.0 (known_more version is g.0 known x.1);
    }

-- the word of an instruction has eight bytes
word_size : (p : Parts) → length (word_with p) ≡ 8
word_size (Number o a n) = refl
word_size (Pair o a b) = refl
word_size (Jump o a b n) = refl
word_size (Lone o) = refl

-- the word of an instruction of the version is read as it
instr_gives : (version : Version) (t size : ℕ) (before : List Instr) (i : Instr) (left : List ℕ) → HasValue i → has version i ≡ true
    → next_instr version t size before (word_of i ++ left) ≡ Ok (i, left)
instr_gives version t size before i left v known =
    let e : field 8 size (word_of i ++ left) ≡ Ok (word_of i, left) = subst (λ n. field n size (word_of i ++ left) ≡ Ok (word_of i, left))
    (word_size (parts_of i)) (field_gives size (word_of i) left) in
    rw e (rw (decoded_only i v) (rw known refl))

-- the words of instructions of the version are read as them, one by one
pub instrs_read : (version : Version) (t size : ℕ) (is before : List Instr) → Values is → HasEach version is
    → AreRead word_of (next_instr version t size) before is
instrs_read version t size [] before values known = tt
instrs_read version t size (i ∷ is) before values known =
    ((λ left. instr_gives version t size before i left values.0 known.0), instrs_read version t size is (before ++ i ∷ []) values.1 known.1)

-- ---- choices

-- a choice of these bytes, if there is one
module _ (count a k t : ℕ) where
  -- it has these bytes, and names a transaction that is there
  abbrev IsOf : Choice → Type 0
  IsOf c = (choice_image c ≡ a ∷ k ∷ t ∷ []) × (names_below count c ≡ true)

  -- the same, or there is none
  abbrev MayBe : Option Choice → Type 0
  MayBe o = IfSome o IsOf

  -- numbers that a test finds equal are equal
  same_number : (n m : ℕ) → (n == m) ≡ true → m ≡ n
  same_number n m e = grind (arith, tests)

  -- a choice that names a transaction
  named_is : (c : Choice) → (nat_lt t count ≡ true → IsOf c) → MayBe (named count t c)
  named_is c h = cond_both (nat_lt t count) _ _ MayBe h (λ _. tt)

  -- a choice that names none
  plain_is : (c : Choice) → (0 ≡ t → IsOf c) → MayBe (plain t c)
  plain_is c h = cond_both (t == 0) _ _ MayBe (λ e. h (same_number t 0 e)) (λ _. tt)

  -- a choice of the client
  client_is : 0 ≡ a → MayBe (client_choice count k t)
  client_is x =
      cond_both (k == 0) _ _ MayBe (λ e. plain_is Start (λ z. (rw (← x, ← same_number k 0 e, ← z) refl, refl))) (λ _.
      cond_both (k == 1) _ _ MayBe (λ e. named_is (Begin t) (λ n. (rw (← x, ← same_number k 1 e) refl, n))) (λ _.
      cond_both (k == 2) _ _ MayBe (λ e. named_is (Kill t) (λ n. (rw (← x, ← same_number k 2 e) refl, n))) (λ _. tt)))

  -- a choice of a node
  node_is : (n : Node) → node_byte n ≡ a → MayBe (node_choice count n k t)
  node_is n x =
      cond_both (k == 3) _ _ MayBe (λ e. named_is (Run n t) (λ m. (rw (← x, ← same_number k 3 e) refl, m))) (λ _.
      cond_both (k == 4) _ _ MayBe (λ e. plain_is (Take n) (λ z. (rw (← x, ← same_number k 4 e, ← z) refl, refl))) (λ _.
      cond_both (k == 5) _ _ MayBe (λ e. plain_is (Finish n) (λ z. (rw (← x, ← same_number k 5 e, ← z) refl, refl))) (λ _.
      cond_both (k == 6) _ _ MayBe (λ e. plain_is (Push n) (λ z. (rw (← x, ← same_number k 6 e, ← z) refl, refl))) (λ _. tt))))

  -- whichever it is
  choice_is : MayBe (choice_at count a k t)
  choice_is =
      cond_both (a == 0) _ _ MayBe (λ e. client_is (same_number a 0 e)) (λ _.
      cond_both (a == 1) _ _ MayBe (λ e. node_is node.A (same_number a 1 e)) (λ _.
      cond_both (a == 2) _ _ MayBe (λ e. node_is node.B (same_number a 2 e)) (λ _. tt)))

-- three bytes are the first, the second and the third
three : (w : List ℕ) → length w ≡ 3 → w ≡ get_or w 0 0 ∷ get_or w 1 0 ∷ get_or w 2 0 ∷ []
three [] h = absurd (omega (arith, h))
three (a ∷ []) h = absurd (omega (arith, h))
three (a ∷ b ∷ []) h = absurd (omega (arith, h))
three (a ∷ b ∷ c ∷ []) h = refl
three (a ∷ b ∷ c ∷ d ∷ w) h = absurd (omega (arith, h))

-- a choice that was read has its image before what is left, and its transaction exists
pub choice_found : (count size : ℕ) (cs : List Choice) (bytes : List ℕ) (c : Choice) (left : List ℕ) → AreNamed count cs → AreBytes bytes
    → next_choice count size cs bytes ≡ Ok (c, left)
    → TookItem choice_image (AreNamed count) cs bytes c left
choice_found count size cs bytes c left named fit h =
    let f = bind_ok (field 3 size bytes) _ (c, left) h in
    let w = f.0.0 in
    let d = field_found 3 size bytes w f.0.1 fit f.1 in
    let o = choice_at count (get_or w 0 0) (get_or w 1 0) (get_or w 2 0) in
    let g = bind_ok (ok_or o (fault.Choice (length cs))) _ (c, left) f.2 in
    let x = ok_or_ok o (fault.Choice (length cs)) g.0 g.1 in
    let s = one_answer g.0 c f.0.1 left g.2 in
    let is : IsOf count (get_or w 0 0) (get_or w 1 0) (get_or w 2 0) g.0 = subst (MayBe count (get_or w 0 0) (get_or w 1 0) (get_or w 2 0)) x
    (choice_is count (get_or w 0 0) (get_or w 1 0) (get_or w 2 0)) in
    record {
      same = d.same ∙ ap (λ x. x ++ f.0.1) (three w d.size ∙ sym is.0) ∙ ap (λ x. choice_image x ++ f.0.1) s.0 ∙ ap (λ x. choice_image c ++ x) s.1;
      back = subst AreBytes s.1 d.back;
      kept = subst (λ x. AreNamed count (cs ++ x ∷ [])) s.0 (named_more count cs g.0 named is.1);
    }

-- the image of a choice whose transaction exists is read as it
choice_gives : (count size : ℕ) (before : List Choice) (c : Choice) (left : List ℕ) → names_below count c ≡ true
    → next_choice count size before (choice_image c ++ left) ≡ Ok (c, left)
choice_gives count size before Start left n = rw (field_gives size (choice_image Start) left) refl
choice_gives count size before (Begin t) left n = rw (field_gives size (choice_image (Begin t)) left) (rw n refl)
choice_gives count size before (Kill t) left n = rw (field_gives size (choice_image (Kill t)) left) (rw n refl)
choice_gives count size before (Run node.A t) left n = rw (field_gives size (choice_image (Run node.A t)) left) (rw n refl)
choice_gives count size before (Run node.B t) left n = rw (field_gives size (choice_image (Run node.B t)) left) (rw n refl)
choice_gives count size before (Take node.A) left n = rw (field_gives size (choice_image (Take node.A)) left) refl
choice_gives count size before (Take node.B) left n = rw (field_gives size (choice_image (Take node.B)) left) refl
choice_gives count size before (Finish node.A) left n = rw (field_gives size (choice_image (Finish node.A)) left) refl
choice_gives count size before (Finish node.B) left n = rw (field_gives size (choice_image (Finish node.B)) left) refl
choice_gives count size before (Push node.A) left n = rw (field_gives size (choice_image (Push node.A)) left) refl
choice_gives count size before (Push node.B) left n = rw (field_gives size (choice_image (Push node.B)) left) refl

-- the images of choices whose transactions exist are read as them, one by one
pub choices_read : (count size : ℕ) (cs before : List Choice) → AreNamed count cs → AreRead choice_image (next_choice count size) before cs
choices_read count size [] before named = tt
choices_read count size (c ∷ cs) before named = ((λ left. choice_gives count size before c left named.0), choices_read count size cs (before ++ c ∷ []) named.1)
