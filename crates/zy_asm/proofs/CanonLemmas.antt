-- The canonical text means its scenario.
use Rattle.std.proofs.Common.{◌≡◌, ℕ, ◌+◌, ◌^◌, ◌<◌, ◌≤◌, true, ◌&&◌, List, [], ◌∷◌, ◌++◌, length, map}
use Rattle.std.proofs.Common.{Some, None, refl, sym, ap, subst, arith, append_assoc, append-nil, codes, inl, inr}
use Rattle.std.specs.Fmt.{decimal}
use Rattle.std.specs.List.{flat_map}
use Rattle.zy_isa.specs.declared.version.Version.TheVariants.{One, Two}
use Rattle.zy_isa.specs.declared.version.Version.{Version}
use Rattle.zy_isa.specs.Versions.{word as version_word}
use Rattle.zy_isa.specs.declared.rule.Rule.{Rule}
use Rattle.zy_isa.specs.declared.rule.Rule.TheVariants.{Held, Loose}
use Rattle.zy_isa.specs.declared.row.Row.{Row}
use Rattle.zy_isa.specs.declared.instr.Reg.{Reg}
use Rattle.zy_isa.specs.declared.instr.Reg.TheVariants.{R0, R1, R2, R3, R4, R5, R6, R7}
use Rattle.zy_isa.specs.declared.instr.Instr.{Instr}
use Rattle.zy_isa.specs.declared.operation.Operation.{Operation}
use Rattle.zy_isa.specs.declared.operation.Operation.TheVariants as op
use Rattle.zy_isa.specs.declared.operation.Parts.{Parts}
use Rattle.zy_isa.specs.declared.operation.Parts.TheVariants.{Number, Pair, Jump, Lone}
use Rattle.zy_isa.specs.declared.choice.Choice.{Choice}
use Rattle.zy_isa.specs.declared.choice.Choice.TheVariants.{Start, Begin, Kill, Run, Take, Finish, Push}
use Rattle.zy_text.specs.Words.{is_word, has_words, lines_with_words, spaced}
use Rattle.zy_isa.specs.Operations.{mnemonic, parts_of}
use Rattle.zy_text.specs.Canon.{rule_text, reg_text, parts_words, instr_words, choice_words, row_words, program_words, canon_words, canon}
use Rattle.zy_isa.specs.Rows.{RowsFit}
use Rattle.zy_isa.specs.Programs.{PartsFit, HasValue, Values}
use Rattle.zy_isa.specs.Choices.{names_below}
use Rattle.zy_isa.specs.Scenario.{Scenario, IsScenario, ArePrograms, AreNamed}
use Rattle.zy_text.specs.Text as m
use Rattle.zy_text.specs.Names.{Mark, AreNew}
use Rattle.zy_text.specs.Text.{Code, Written, Times, Draft, Statement, SpellsParts, SpellsInstr, SpellsChoice, SpellEach, instrs_of, labels_of}
use Rattle.zy_text.specs.Text.{names_of, Headed, Labelled, IsDraftOf, program_statements, repeated, statements, Means}
use Rattle.zy_isa.proofs.OperationLemmas.{each}
use Rattle.zy_isa.proofs.ResultLemmas.{both}
use Rattle.zy_text.proofs.CanonCut.{text_of, under}
use Rattle.zy_text.proofs.WordLemmas.{is_clean, are_clean, split_spaced, text_spaced, uncommented, first_of_text, some_length}
use Rattle.zy_text.proofs.WordLemmas.{number_of-decimal, number_clean, number_last, clean_choice}
use Rattle.zy_asm.proofs.SpellLemmas.{no_name}
use Rattle.zy_asm.proofs.GivesLemmas.{numeral_ok}

-- ---- each line is spelled

-- lines that spell statements, and more lines that spell more statements, spell all of them
SpellEach-append : (xs ys : List Statement) (ls ms : List (List (List ℕ))) → SpellEach xs ls → SpellEach ys ms → SpellEach (xs ++ ys) (ls ++ ms)
SpellEach-append [] ys [] ms h g = g
SpellEach-append [] ys (l ∷ ls) ms h g = absurd h
SpellEach-append (x ∷ xs) ys [] ms h g = absurd h
SpellEach-append (x ∷ xs) ys (l ∷ ls) ms h g = (h.0, SpellEach-append xs ys ls ms h.1 g)

-- the canonical lines of rows that fit spell these rows
spell_rows : (rows : List Row) → RowsFit rows → SpellEach (map m.row rows) (map row_words rows)
spell_rows [] h = tt
spell_rows (r ∷ rows) h = (
  (decimal r.key, decimal r.value, refl, number_of-decimal r.key (omega (arith, h.0)), number_of-decimal r.value h.1),
  spell_rows rows h.2,
)

-- the canonical words of the parts of an instruction spell these parts, whatever the labels
spell_parts : (labels : List Mark) (p : Parts) → PartsFit p → SpellsParts labels p (parts_words p)
spell_parts labels (Number o a n) h = (decimal n, refl, number_of-decimal n h)
spell_parts labels (Pair o a b) h = refl
spell_parts labels (Jump o a b n) h = (64 ∷ decimal n, refl, inl (decimal n, refl, number_of-decimal n h))
spell_parts labels (Lone o) h = refl

-- the same of an instruction
spell_instr : (labels : List Mark) (i : Instr) → HasValue i → SpellsInstr labels i (instr_words i)
spell_instr labels i h = spell_parts labels (parts_of i) h

-- ---- the draft of the canonical text: numbers for names, and no labels

-- a line of an instruction without a label
abbrev plain_code : Instr → Code
plain_code i = record { label = None; instr = Some i }

-- the programs as they are written from number k on, each under its number and without a label
abbrev plain_programs : ℕ → List (List Instr) → List Written
plain_programs k [] = []
plain_programs k (p ∷ ps) = record { head = decimal k; body = map plain_code p } ∷ plain_programs (k + 1) ps

-- the instructions of a program that is written so are the program's
plain_instrs : (is : List Instr) → instrs_of (map plain_code is) ≡ is
plain_instrs [] = refl
plain_instrs (i ∷ is) = ap (λ xs. i ∷ xs) (plain_instrs is)

-- the same of each program
plain_bodies : (k : ℕ) (ps : List (List Instr)) → map (λ (p : Written). instrs_of p.body) (plain_programs k ps) ≡ ps
plain_bodies k [] = refl
plain_bodies k (p ∷ ps) = rw (plain_instrs p, plain_bodies (k + 1) ps) refl

-- a program that is written so has no label
plain_labels : (k : ℕ) (is : List Instr) → labels_of k (map plain_code is) ≡ []
plain_labels k [] = refl
plain_labels k (i ∷ is) = plain_labels (k + 1) is

-- programs that are written so have no name
plain_names : (k : ℕ) (ps : List (List Instr)) → k + length ps ≤ 64 → names_of k (plain_programs k ps) ≡ []
plain_names k [] few = refl
plain_names k (p ∷ ps) few = rw (no_name (decimal k) (numeral_ok (decimal k) k (number_of-decimal k (omega arith)))) (plain_names (k + 1) ps (omega arith))

-- each program that is written so is under its number
plain_heads : (k : ℕ) (ps : List (List Instr)) → k + length ps ≤ 64 → Headed k (plain_programs k ps)
plain_heads k [] few = tt
plain_heads k (p ∷ ps) few = (inr (number_of-decimal k (omega arith)), plain_heads (k + 1) ps (omega arith))

-- programs that are written so have no label twice
plain_labelled : (k : ℕ) (ps : List (List Instr)) → Labelled (plain_programs k ps)
plain_labelled k [] = tt
plain_labelled k (p ∷ ps) = (rw (plain_labels 0 p) tt, plain_labelled (k + 1) ps)

-- the canonical lines of a program's instructions spell the lines of the program
spell_codes : (labels : List Mark) (is : List Instr) → Values is → SpellEach (map (m.code labels) (map plain_code is)) (map instr_words is)
spell_codes labels [] h = tt
spell_codes labels (i ∷ is) h = (([], instr_words i, refl, refl, spell_instr labels i h.0), spell_codes labels is h.1)

-- the canonical lines of programs spell their statements
spell_programs : (ps : List (List Instr)) (k : ℕ) → ArePrograms ps → SpellEach (flat_map program_statements (plain_programs k ps)) (program_words k ps)
spell_programs [] k h = tt
spell_programs (p ∷ ps) k h =
    let labels = labels_of 0 (map plain_code p) in (
      refl,
      SpellEach-append (map (m.code labels) (map plain_code p)) (flat_map program_statements (plain_programs (k + 1) ps)) (map instr_words p)
          (program_words (k + 1) ps) (spell_codes labels p h.0.values) (spell_programs ps (k + 1) h.1),
    )

-- each choice made once
abbrev once : List Choice → List Times
once cs = map (λ c. record { choice = c; times = 1 }) cs

-- choices that are each made once are the choices
once_repeated : (cs : List Choice) → repeated (once cs) ≡ cs
once_repeated [] = refl
once_repeated (c ∷ cs) = ap (λ xs. c ∷ xs) (once_repeated cs)

-- the canonical words of a choice whose transaction exists spell this choice, whatever the names
spell_choice : (names : List Mark) (c : Choice) (count : ℕ) → count ≤ 64 → names_below count c ≡ true → SpellsChoice names c (choice_words c)
spell_choice names Start count few h = refl
spell_choice names (Begin t) count few h = (decimal t, refl, inl (number_of-decimal t (under t count few h)))
spell_choice names (Kill t) count few h = (decimal t, refl, inl (number_of-decimal t (under t count few h)))
spell_choice names (Run n t) count few h = (decimal t, refl, inl (number_of-decimal t (under t count few h)))
spell_choice names (Take n) count few h = refl
spell_choice names (Finish n) count few h = refl
spell_choice names (Push n) count few h = refl

-- the canonical lines of choices whose transactions exist spell these choices, each made once
spell_choices : (names : List Mark) (cs : List Choice) (count : ℕ) → count ≤ 64 → AreNamed count cs
    → SpellEach (map (m.choice names) (once cs)) (map choice_words cs)
spell_choices names [] count few h = tt
spell_choices names (c ∷ cs) count few h = (
  (choice_words c, [], sym (append-nil (choice_words c)), spell_choice names c count few h.0, inl (refl, refl)),
  spell_choices names cs count few h.1,
)

-- ---- the lines of the text

-- each line has words, and these are not empty and have only bytes that may be in a word
abbrev AreClean : List (List (List ℕ)) → Type 0
AreClean [] = Unit {0}
AreClean (l ∷ ls) = (are_clean l ≡ true) × (has_words l ≡ true) × AreClean ls

-- clean lines and other clean lines behind them are clean
AreClean-append : (ls ms : List (List (List ℕ))) → AreClean ls → AreClean ms → AreClean (ls ++ ms)
AreClean-append [] ms h g = g
AreClean-append (l ∷ ls) ms h g = (h.0, h.1, AreClean-append ls ms h.2 g)

-- the name of a register is a clean word
reg_clean : (r : Reg) → (is_word (reg_text r) ≡ true) × (is_clean (reg_text r) ≡ true)
reg_clean R0 = (refl, refl)
reg_clean R1 = (refl, refl)
reg_clean R2 = (refl, refl)
reg_clean R3 = (refl, refl)
reg_clean R4 = (refl, refl)
reg_clean R5 = (refl, refl)
reg_clean R6 = (refl, refl)
reg_clean R7 = (refl, refl)

-- the words of the line of the rule are clean
rule_clean : (r : Rule) → are_clean (codes "rule" ∷ rule_text r ∷ []) ≡ true
rule_clean Held = refl
rule_clean Loose = refl

-- a first word and two more, of which the last is a number
pair_clean : (w : List ℕ) (a b : Reg) → is_word w ≡ true → is_clean w ≡ true → are_clean (w ∷ reg_text a ∷ reg_text b ∷ []) ≡ true
pair_clean w a b h g = rw (h, g, (reg_clean a).0, (reg_clean a).1, (reg_clean b).0, (reg_clean b).1) refl

-- the target `@N` of a jump is a clean word
target_clean : (n : ℕ) → n < 2 ^ 32 → (is_word (64 ∷ decimal n) ≡ true) × (is_clean (64 ∷ decimal n) ≡ true)
target_clean n h = (some_length (64 ∷ decimal n) (omega arith), (number_clean n h).1)

-- each mnemonic is a clean word
operation_clean : (o : Operation) → (is_word (mnemonic o) ≡ true) × (is_clean (mnemonic o) ≡ true)
operation_clean o = both (is_word (mnemonic o)) (is_clean (mnemonic o)) (each (λ x. is_word (mnemonic x) && is_clean (mnemonic x)) refl o)

-- a clean word, two registers and another clean word are clean
target_last : (w v : List ℕ) (a b : Reg) → is_word w ≡ true → is_clean w ≡ true → is_word v ≡ true → is_clean v ≡ true
    → are_clean (w ∷ reg_text a ∷ reg_text b ∷ v ∷ []) ≡ true
target_last w v a b h g i j = rw (h, g, (reg_clean a).0, (reg_clean a).1, (reg_clean b).0, (reg_clean b).1, i, j) refl

-- the words of the parts of an instruction are clean, and there is one at least
parts_clean : (p : Parts) → PartsFit p → (are_clean (parts_words p) ≡ true) × (has_words (parts_words p) ≡ true)
parts_clean (Number o a n) h = let w = operation_clean (op.Number o) in
    (number_last (mnemonic (op.Number o)) (reg_text a) n h w.0 w.1 (reg_clean a).0 (reg_clean a).1, refl)
parts_clean (Pair o a b) h = let w = operation_clean (op.Pair o) in (pair_clean (mnemonic (op.Pair o)) a b w.0 w.1, refl)
parts_clean (Jump o a b n) h =
    let w = operation_clean (op.Jump o) in
    let t = target_clean n h in
    (target_last (mnemonic (op.Jump o)) (64 ∷ decimal n) a b w.0 w.1 t.0 t.1, refl)
parts_clean (Lone o) h = let w = operation_clean (op.Lone o) in (rw (w.0, w.1) refl, refl)

-- the same of an instruction
clean_instr : (i : Instr) → HasValue i → (are_clean (instr_words i) ≡ true) × (has_words (instr_words i) ≡ true)
clean_instr i h = parts_clean (parts_of i) h

-- the lines of a program's instructions are clean
clean_instrs : (is : List Instr) → Values is → AreClean (map instr_words is)
clean_instrs [] h = tt
clean_instrs (i ∷ is) h = let p = clean_instr i h.0 in (p.0, p.1, clean_instrs is h.1)

-- a clean word and a number are clean
clean_one : (w : List ℕ) (n : ℕ) → n < 2 ^ 32 → is_word w ≡ true → is_clean w ≡ true → are_clean (w ∷ decimal n ∷ []) ≡ true
clean_one w n few h g = let p = number_clean n few in rw (h, g, p.0, p.1) refl

-- the lines of rows that fit are clean
clean_rows : (rows : List Row) → RowsFit rows → AreClean (map row_words rows)
clean_rows [] h = tt
clean_rows (r ∷ rows) h =
    let k = number_clean r.key (omega (arith, h.0)) in
    (number_last (codes "row") (decimal r.key) r.value h.1 refl refl k.0 k.1, refl, clean_rows rows h.2)

-- the lines of at most 64 programs, each under its number, are clean
clean_programs : (ps : List (List Instr)) (k : ℕ) → k + length ps ≤ 64 → ArePrograms ps → AreClean (program_words k ps)
clean_programs [] k few h = tt
clean_programs (p ∷ ps) k few h = (
  clean_one (codes "txn") k (omega arith) refl refl,
  refl,
  AreClean-append (map instr_words p) (program_words (k + 1) ps) (clean_instrs p h.0.values) (clean_programs ps (k + 1) (omega arith) h.1),
)

-- the lines of choices whose transactions are among at most 64 are clean
clean_choices : (cs : List Choice) (count : ℕ) → count ≤ 64 → AreNamed count cs → AreClean (map choice_words cs)
clean_choices [] count few h = tt
clean_choices (c ∷ cs) count few h = let p = clean_choice c count few h.0 in (p.0, p.1, clean_choices cs count few h.1)

-- the words of the lines of the text of clean lines are these words again
lines_back : (ls : List (List (List ℕ))) → AreClean ls → lines_with_words (text_of ls) ≡ ls
lines_back [] h = refl
lines_back (l ∷ ls) h =
    let text = text_spaced l h.0 in
    rw (append_assoc, first_of_text (spaced l) (text_of ls) text, uncommented (spaced l) text, split_spaced l h.0, h.1) (ap (λ x. l ∷ x) (lines_back ls h.2))

-- the words of the line of the version are clean
version_clean : (v : Version) → are_clean (codes "zephyr" ∷ version_word v ∷ []) ≡ true
version_clean One = refl
version_clean Two = refl

-- the lines of the canonical text of a scenario are clean
canon_clean : (s : Scenario) → IsScenario s → AreClean (canon_words s)
canon_clean s h = (
  version_clean s.version,
  refl,
  (
    clean_one (codes "cap") s.cap (omega (arith, h.cap_most)) refl refl,
    refl,
    (
      clean_one (codes "pages") s.pages (omega (arith, h.pages_most)) refl refl,
      refl,
      (
        rule_clean s.rule,
        refl,
        AreClean-append (map row_words s.rows) _ (clean_rows s.rows h.rows_fit)
            (AreClean-append (program_words 0 s.programs) _ (clean_programs s.programs 0 (omega (arith, h.few_programs)) h.programs)
            (AreClean-append (map choice_words s.choices) _ (clean_choices s.choices (length s.programs) h.few_programs h.choices_named) (refl, refl, tt))),
      ),
    ),
  ),
)

-- the draft of the canonical text
abbrev plain : Scenario → Draft
plain s = record { programs = plain_programs 0 s.programs; choices = once s.choices }

-- it is a draft of the scenario
plain_drafts : (s : Scenario) → IsScenario s → IsDraftOf (plain s) s
plain_drafts s h = record {
  programs = plain_bodies 0 s.programs;
  choices = once_repeated s.choices;
  headed = plain_heads 0 s.programs (omega (arith, h.few_programs));
  names_new = subst (AreNew []) (sym (plain_names 0 s.programs (omega (arith, h.few_programs)))) tt;
  labelled = plain_labelled 0 s.programs;
}

-- the lines of the canonical text spell the statements of this draft
canon_spelled : (s : Scenario) → IsScenario s → SpellEach (statements s (plain s)) (canon_words s)
canon_spelled s h =
    let names = names_of 0 (plain_programs 0 s.programs) in (
      refl,
      (
        (decimal s.cap, refl, number_of-decimal s.cap (omega (arith, h.cap_most))),
        (
          (decimal s.pages, refl, number_of-decimal s.pages (omega (arith, h.pages_most))),
          (
            refl,
            SpellEach-append (map m.row s.rows) _ (map row_words s.rows) _ (spell_rows s.rows h.rows_fit)
                (SpellEach-append (flat_map program_statements (plain_programs 0 s.programs)) _ (program_words 0 s.programs) _
                (spell_programs s.programs 0 h.programs)
                (SpellEach-append (map (m.choice names) (once s.choices)) (m.end ∷ []) (map choice_words s.choices) ((codes "end" ∷ []) ∷ [])
                (spell_choices names s.choices (length s.programs) h.few_programs h.choices_named) (refl, tt))),
          ),
        ),
      ),
    )

-- the canonical text means its scenario
pub Means-canon : (s : Scenario) → IsScenario s → Means (canon s) s
Means-canon s h =
    (h, (plain s, plain_drafts s h, subst (SpellEach (statements s (plain s))) (sym (lines_back (canon_words s) (canon_clean s h))) (canon_spelled s h)))
