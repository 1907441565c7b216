-- The lists of an image, with their counts in front.
use Rattle.std.proofs.Common.{◌≡◌, ◌==◌, ℕ, ◌≤◌, ◌||◌, false, nat_lt, List, [], ◌∷◌, ◌++◌, length, Option, Some, None, Ok, Err, refl, ap, ◌∙◌, subst}
use Rattle.std.proofs.Common.{append_assoc, arith, if◌then◌else◌}
use Rattle.std.specs.List.{flat_map}
use Rattle.std.specs.Int.{w16, to_be_bytes}
use Rattle.zy_isa.specs.declared.version.Version.{Version}
use Rattle.zy_isa.specs.declared.row.Row.{Row}
use Rattle.zy_isa.specs.declared.instr.Instr.{Instr}
use Rattle.zy_isa.specs.declared.program.ProgramFault.{ProgramFault}
use Rattle.zy_isa.specs.declared.program.ProgramFault.TheVariants as prog
use Rattle.zy_isa.specs.declared.choice.Choice.{Choice}
use Rattle.zy_isa.specs.InstrWords.{word_of}
use Rattle.zy_isa.specs.Programs.{program_fault, HasEach, IsProgram}
use Rattle.zy_isa.specs.Rows.{Rising, RowsFit}
use Rattle.zy_isa.specs.Scenario.{ArePrograms, AreKnown, AreNamed, opening_pages_for}
use Rattle.zy_isa.proofs.ProgramLemmas.{is_some, no_program_fault}
use Rattle.zy_isa.proofs.ResultLemmas.{bind_ok, if_err, neither, not_over, over_not}
use Rattle.zy_isa.proofs.RowLemmas.{Above}
use Rattle.zy_isa.proofs.ScenarioLemmas.{program_more}
use Rattle.zy_image.specs.declared.faults.LoadFault.TheVariants as fault
use Rattle.zy_image.specs.declared.head.ImageHead.{ImageHead}
use Rattle.zy_image.specs.Image.{row_image, rows_image, program_image, programs_image, choice_image, choices_image}
use Rattle.zy_image.specs.Reading.{byte, half, read_items, next_row, row_count, rows, next_instr, instr_count}
use Rattle.zy_image.specs.Reading.{instrs, checked_program, next_program, program_count}
use Rattle.zy_image.specs.Reading.{programs, next_choice, choice_count, choices}
use Rattle.zy_image.proofs.FieldLemmas.{AreBytes, one_answer, byte_found, byte_gives, half_found, half_gives}
use Rattle.zy_image.proofs.ListLemmas.{TookItem, list_found, AreRead, items_give}
use Rattle.zy_image.proofs.PartLemmas.{InOrder, row_found, rows_read, instr_found, instrs_read, choice_found, choices_read}

-- ---- rows

-- the bytes begin with the image of the rows, which are in order and have their places
pub record FoundRows (h : ImageHead) (bytes : List ℕ) (rs : List Row) (left : List ℕ) : Type 0 where
  pub same : bytes ≡ rows_image rs ++ left
  pub back : AreBytes left
  pub few : length rs ≤ 256
  pub few_pages : opening_pages_for h.cap (length rs) ≤ h.pages
  pub order : InOrder rs

-- rows that were read are so
pub rows_found : (h : ImageHead) (size : ℕ) (bytes : List ℕ) (rs : List Row) (left : List ℕ) → AreBytes bytes → rows h size bytes ≡ Ok (rs, left)
    → FoundRows h bytes rs left
rows_found h size bytes rs left fit e =
    let f = bind_ok (row_count h size bytes) (λ n. read_items (next_row size) [] n.0 n.1) (rs, left) e in
    let g = bind_ok (half size bytes) _ f.0 f.1 in
    let t = if_err (nat_lt 256 g.0.0 || nat_lt h.pages (opening_pages_for h.cap g.0.0)) (Ok g.0) fault.RowCount f.0 g.2 in
    let s = one_answer g.0.0 f.0.0 g.0.1 f.0.1 t.1 in
    let n = half_found size bytes f.0.0 f.0.1 fit (g.1 ∙ t.1) in
    let limits = neither (nat_lt 256 g.0.0) (nat_lt h.pages (opening_pages_for h.cap g.0.0)) t.0 in
    let i = list_found row_image (next_row size) InOrder (row_found size) f.0.0 f.0.1 rs left refl n.back f.2 in
    let number : g.0.0 ≡ length rs = s.0 ∙ i.count in
    record {
      same = n.same ∙ ap (λ x. to_be_bytes w16 f.0.0 ++ x) i.same ∙ ap (λ x. to_be_bytes w16 x ++ (flat_map row_image rs ++ left)) i.count;
      back = i.back;
      few = subst (λ x. x ≤ 256) number (not_over g.0.0 256 limits.0);
      few_pages = subst (λ x. opening_pages_for h.cap x ≤ h.pages) number (not_over (opening_pages_for h.cap g.0.0) h.pages limits.1);
      order = i.kept;
    }

-- the image of rows that are in order, fit and have their places is read as them
pub rows_give : (h : ImageHead) (size : ℕ) (rs : List Row) (left : List ℕ) → length rs ≤ 256 → opening_pages_for h.cap (length rs) ≤ h.pages → Rising 0 rs
    → RowsFit rs → rows h size (rows_image rs ++ left) ≡ Ok (rs, left)
rows_give h size rs left few pages rise fit =
    let all : rows_image rs ++ left ≡ to_be_bytes w16 (length rs) ++ (flat_map row_image rs ++ left) =
    append_assoc (to_be_bytes w16 (length rs)) (flat_map row_image rs) left in
    let count : row_count h size (to_be_bytes w16 (length rs) ++ (flat_map row_image rs ++ left)) ≡ Ok (length rs, flat_map row_image rs ++ left) =
    rw (half_gives size (length rs) (flat_map row_image rs ++ left) (omega (arith, few)))
    (rw (over_not (length rs) 256 few, over_not (opening_pages_for h.cap (length rs)) h.pages pages) refl) in
    let above : Above 0 [] = λ key low. refl in
    ap (rows h size) all ∙ rw count (items_give row_image (next_row size) rs [] left (rows_read size 0 rs [] rise fit above))

-- ---- programs

-- what is judged without a fault stays as it is
checked_program_ok : {X : Type 0} (t : ℕ) (o : Option ProgramFault) (x y : X) → checked_program t o x ≡ Ok y → x ≡ y
checked_program_ok t None x y h = cc
checked_program_ok t (Some f) x y h = cc

-- a count of instructions that passes its test stays as it is
count_ok : (t : ℕ) (n m : ℕ × List ℕ) → (if n.0 == 0 then Err (fault.Program t prog.Empty) else if nat_lt 64 n.0 then Err (fault.Program t prog.TooLong)
    else Ok n) ≡ Ok m → n ≡ m
count_ok t n m h =
    let a = if_err (n.0 == 0) (if nat_lt 64 n.0 then Err (fault.Program t prog.TooLong) else Ok n) (fault.Program t prog.Empty) m h in
    let b = if_err (nat_lt 64 n.0) (Ok n) (fault.Program t prog.TooLong) m a.1 in
    cc (b.1)

-- a program that was read has its image before what is left, and it is of the version
pub program_found : (version : Version) (size : ℕ) (ps : List (List Instr)) (bytes : List ℕ) (is : List Instr) (left : List ℕ) → AreKnown version ps
    → AreBytes bytes
    → next_program version size ps bytes ≡ Ok (is, left) → TookItem program_image (AreKnown version) ps bytes is left
program_found version size ps bytes is left known fit h =
    let t = length ps in
    let a = bind_ok (instrs version t size bytes) (λ x. checked_program t (program_fault x.0) x) (is, left) h in
    let j : a.0 ≡ (is, left) = checked_program_ok t (program_fault a.0.0) a.0 (is, left) a.2 in
    let f = bind_ok (instr_count t size bytes) (λ n. read_items (next_instr version t size) [] n.0 n.1) (is, left) (a.1 ∙ ap Ok j) in
    let g = bind_ok (byte size bytes) _ f.0 f.1 in
    let m : g.0 ≡ f.0 = count_ok t g.0 f.0 g.2 in
    let n = byte_found size bytes f.0.0 f.0.1 fit (g.1 ∙ ap Ok m) in
    let i = list_found word_of (next_instr version t size) (HasEach version) (instr_found version t size) f.0.0 f.0.1 is left tt n.back f.2 in
    record {
      same = n.same ∙ ap (λ x. f.0.0 ∷ x) i.same ∙ ap (λ x. x ∷ (flat_map word_of is ++ left)) i.count;
      back = i.back;
      kept = program_more version ps is known i.kept;
    }

-- the image of a program of the version is read as it
program_gives : (version : Version) (size : ℕ) (before : List (List Instr)) (is : List Instr) (left : List ℕ) → IsProgram is → HasEach version is
    → next_program version size before (program_image is ++ left) ≡ Ok (is, left)
program_gives version size before is left p known =
    let t = length before in
    let some : (length is == 0) ≡ false = is_some (length is) p.some in
    let count : instr_count t size (length is ∷ (flat_map word_of is ++ left)) ≡ Ok (length is, flat_map word_of is ++ left) =
    rw (byte_gives size (length is) (flat_map word_of is ++ left)) (rw (some, over_not (length is) 64 p.few) refl) in
    let read : instrs version t size (length is ∷ (flat_map word_of is ++ left)) ≡ Ok (is, left) =
    rw count (items_give word_of (next_instr version t size) is [] left (instrs_read version t size is [] p.values known)) in
    rw read (rw (no_program_fault is p) refl)

-- the images of programs of the version are read as them, one by one
programs_read : (version : Version) (size : ℕ) (ps before : List (List Instr)) → ArePrograms ps → AreKnown version ps
    → AreRead program_image (next_program version size) before ps
programs_read version size [] before h known = tt
programs_read version size (p ∷ ps) before h known =
    ((λ left. program_gives version size before p left h.0 known.0), programs_read version size ps (before ++ p ∷ []) h.1 known.1)

-- the bytes begin with the image of at most 64 programs, which are of the version
pub record FoundPrograms (version : Version) (bytes : List ℕ) (ps : List (List Instr)) (left : List ℕ) : Type 0 where
  pub same : bytes ≡ programs_image ps ++ left
  pub back : AreBytes left
  pub few : length ps ≤ 64
  pub known : AreKnown version ps

-- programs that were read are so
pub programs_found : (version : Version) (size : ℕ) (bytes : List ℕ) (ps : List (List Instr)) (left : List ℕ) → AreBytes bytes
    → programs version size bytes ≡ Ok (ps, left) → FoundPrograms version bytes ps left
programs_found version size bytes ps left fit e =
    let f = bind_ok (program_count size bytes) (λ n. read_items (next_program version size) [] n.0 n.1) (ps, left) e in
    let g = bind_ok (byte size bytes) _ f.0 f.1 in
    let t = if_err (nat_lt 64 g.0.0) (Ok g.0) fault.TxnCount f.0 g.2 in
    let s = one_answer g.0.0 f.0.0 g.0.1 f.0.1 t.1 in
    let n = byte_found size bytes f.0.0 f.0.1 fit (g.1 ∙ t.1) in
    let i = list_found program_image (next_program version size) (AreKnown version) (program_found version size) f.0.0 f.0.1 ps left tt n.back f.2 in
    record {
      same = n.same ∙ ap (λ x. f.0.0 ∷ x) i.same ∙ ap (λ x. x ∷ (flat_map program_image ps ++ left)) i.count;
      back = i.back;
      few = subst (λ x. x ≤ 64) (s.0 ∙ i.count) (not_over g.0.0 64 t.0);
      known = i.kept;
    }

-- the image of at most 64 programs of the version is read as them
pub programs_give : (version : Version) (size : ℕ) (ps : List (List Instr)) (left : List ℕ) → length ps ≤ 64 → ArePrograms ps → AreKnown version ps
    → programs version size (programs_image ps ++ left) ≡ Ok (ps, left)
programs_give version size ps left few h known =
    let count : program_count size (length ps ∷ (flat_map program_image ps ++ left)) ≡ Ok (length ps, flat_map program_image ps ++ left) =
    rw (byte_gives size (length ps) (flat_map program_image ps ++ left)) (rw (over_not (length ps) 64 few) refl) in
    rw count (items_give program_image (next_program version size) ps [] left (programs_read version size ps [] h known))

-- ---- choices

-- the bytes begin with the image of at most 4096 choices, whose transactions exist
pub record FoundChoices (count : ℕ) (bytes : List ℕ) (cs : List Choice) (left : List ℕ) : Type 0 where
  pub same : bytes ≡ choices_image cs ++ left
  pub few : length cs ≤ 4096
  pub named : AreNamed count cs

-- choices that were read are so
pub choices_found : (count size : ℕ) (bytes : List ℕ) (cs : List Choice) (left : List ℕ) → AreBytes bytes → choices count size bytes ≡ Ok (cs, left)
    → FoundChoices count bytes cs left
choices_found k size bytes cs left fit e =
    let f = bind_ok (choice_count size bytes) (λ n. read_items (next_choice k size) [] n.0 n.1) (cs, left) e in
    let g = bind_ok (half size bytes) _ f.0 f.1 in
    let t = if_err (nat_lt 4096 g.0.0) (Ok g.0) fault.ChoiceCount f.0 g.2 in
    let s = one_answer g.0.0 f.0.0 g.0.1 f.0.1 t.1 in
    let n = half_found size bytes f.0.0 f.0.1 fit (g.1 ∙ t.1) in
    let i = list_found choice_image (next_choice k size) (AreNamed k) (choice_found k size) f.0.0 f.0.1 cs left tt n.back f.2 in
    record {
      same = n.same ∙ ap (λ x. to_be_bytes w16 f.0.0 ++ x) i.same ∙ ap (λ x. to_be_bytes w16 x ++ (flat_map choice_image cs ++ left)) i.count;
      few = subst (λ x. x ≤ 4096) (s.0 ∙ i.count) (not_over g.0.0 4096 t.0);
      named = i.kept;
    }

-- the image of at most 4096 choices whose transactions exist is read as them
pub choices_give : (count size : ℕ) (cs : List Choice) (left : List ℕ) → length cs ≤ 4096 → AreNamed count cs
    → choices count size (choices_image cs ++ left) ≡ Ok (cs, left)
choices_give k size cs left few named =
    let count : choice_count size (to_be_bytes w16 (length cs) ++ (flat_map choice_image cs ++ left)) ≡ Ok (length cs, flat_map choice_image cs ++ left) =
    rw (half_gives size (length cs) (flat_map choice_image cs ++ left) (omega (arith, few))) (rw (over_not (length cs) 4096 few) refl) in
    ap (choices k size) (append_assoc (to_be_bytes w16 (length cs)) (flat_map choice_image cs) left)
    ∙ rw count (items_give choice_image (next_choice k size) cs [] left (choices_read k size cs [] named))
