-- The heads of a text's programs, and the names that they give.
use Rattle.std.proofs.Common.{◌≡◌, ◌∙◌, ℕ, Bool, true, false, not, List, [], ◌∷◌, ◌++◌, map, filter, codes, Option, Some, None, refl, sym}
use Rattle.std.proofs.Common.{ap, append_assoc}
use Rattle.std.specs.List.{flat_map}
use Rattle.std.specs.Str.{bytes_eq}
use Rattle.zy_isa.specs.declared.row.Row.{Row}
use Rattle.zy_isa.specs.declared.node.Actor.{Actor}
use Rattle.zy_isa.specs.declared.node.Actor.TheVariants as actor
use Rattle.zy_isa.specs.declared.operation.Operation.{Operation}
use Rattle.zy_isa.specs.declared.operation.Operation.TheVariants as op
use Rattle.zy_isa.specs.declared.operation.Parts.{Parts}
use Rattle.zy_isa.specs.declared.operation.Parts.TheVariants.{Number, Pair, Jump, Lone}
use Rattle.zy_isa.specs.declared.instr.Instr.{Instr}
use Rattle.zy_isa.specs.Operations.{mnemonic, parts_of}
use Rattle.zy_isa.specs.Scenario.{Scenario}
use Rattle.zy_isa.proofs.OperationLemmas.{each}
use Rattle.zy_isa.proofs.ResultLemmas.{same}
use Rattle.zy_text.specs.Words.{lines_of, words_of, has_words, lines_with_words}
use Rattle.zy_text.specs.Canon.{reg_text}
use Rattle.zy_text.specs.Lines.{first_words}
use Rattle.zy_text.specs.Names.{Mark, label_of}
use Rattle.zy_text.specs.Text as m
use Rattle.zy_text.specs.Text.{Code, Written, Times, Draft, Statement, Spells, SpellEach, SpellsLabel, SpellsParts, MaySpell, labels_of}
use Rattle.zy_text.specs.Text.{program_statements, choice_statements, statements}
use Rattle.zy_text.proofs.LabelLemmas.{label-last}
use Rattle.zy_asm.specs.Names.{if_name, name_at, listed, names_in, names_of}
use Rattle.zy_asm.proofs.SpellLemmas.{actor_word}
use Rattle.zy_asm.proofs.OnlyLemmas.{choice_shape}

-- the first words of a line tell the name
name_first : (ws : List (List ℕ)) → name_at (first_words ws) ≡ name_at ws
name_first [] = refl
name_first (first ∷ []) = refl
name_first (first ∷ second ∷ ws) = refl

-- names, that of one line more, and those of the lines below it
pub names_more : (names : List (List ℕ)) (text line below : List ℕ) (name : Option (List ℕ)) → lines_of text ≡ line ∷ lines_of below
    → name ≡ name_at (first_words (words_of line)) → (names ++ listed name) ++ names_in (lines_of below) ≡ names ++ names_in (lines_of text)
names_more names text line below name parted is =
    append_assoc names (listed name) (names_in (lines_of below))
    ∙ (ap (λ (o : Option (List ℕ)). names ++ (listed o ++ names_in (lines_of below))) (is ∙ name_first (words_of line))
    ∙ ap (λ ls. names ++ names_in ls) (sym parted))

-- ---- lines without words give no names

-- the names that the words of lines give
abbrev names_among : List (List (List ℕ)) → List (List ℕ)
names_among ls = flat_map (λ (ws : List (List ℕ)). listed (name_at ws)) ls

-- the lines with words give all names
names_in-words : (ls : List (List ℕ)) → names_in ls ≡ names_among (filter has_words (map words_of ls))
names_in-words [] = refl
names_in-words (l ∷ ls) = by (words_of l) (names_in-words ls)
  where
    by : (ws : List (List ℕ)) → names_in ls ≡ names_among (filter has_words (map words_of ls))
        → listed (name_at ws) ++ names_in ls ≡ names_among (filter has_words (ws ∷ map words_of ls))
    by [] below = below
    by (w ∷ ws) below = ap (λ (ns : List (List ℕ)). listed (name_at (w ∷ ws)) ++ ns) below

-- ---- which statements give a name

-- the name that a statement gives
abbrev given : Statement → List (List ℕ)
given (m.txn head) = if_name head ∷ []
given x = []

-- a line that begins with another word than `txn` gives none
none_at : (w : List ℕ) (ws : List (List ℕ)) → bytes_eq w (codes "txn") ≡ false → listed (name_at (w ∷ ws)) ≡ []
none_at w [] e = refl
none_at w (x ∷ ws) e = rw e refl

-- what passes no negated test is false
not_true : (b : Bool) → not b ≡ true → b ≡ false
not_true true h = cc
not_true false h = refl

-- the word of an operation is not `txn`
no_operation : (o : Operation) → bytes_eq (mnemonic o) (codes "txn") ≡ false
no_operation o = not_true (bytes_eq (mnemonic o) (codes "txn")) (each (λ x. not (bytes_eq (mnemonic x) (codes "txn"))) refl o)

-- nor is a label
no_label : (w name : List ℕ) → label_of w ≡ Some name → bytes_eq w (codes "txn") ≡ false
no_label w name h = by (bytes_eq w (codes "txn")) refl
  where
    by : (b : Bool) → bytes_eq w (codes "txn") ≡ b → b ≡ false
    by true e = let q : None ≡ Some name = ap label_of (sym (same w (codes "txn") e)) ∙ h in cc
    by false e = refl

-- nor is an actor's word
no_actor : (a : Actor) → bytes_eq (actor_word a) (codes "txn") ≡ false
no_actor actor.C = refl
no_actor actor.A = refl
no_actor actor.B = refl

-- an instruction gives none
parts_give : (labels : List Mark) (p : Parts) (l : List (List ℕ)) → SpellsParts labels p l → listed (name_at l) ≡ []
parts_give labels (Number o a n) l h = rw h.1 (none_at (mnemonic (op.Number o)) (reg_text a ∷ h.0 ∷ []) (no_operation (op.Number o)))
parts_give labels (Pair o a b) l h = rw h (none_at (mnemonic (op.Pair o)) (reg_text a ∷ reg_text b ∷ []) (no_operation (op.Pair o)))
parts_give labels (Jump o a b n) l h = rw h.1 (none_at (mnemonic (op.Jump o)) (reg_text a ∷ reg_text b ∷ h.0 ∷ []) (no_operation (op.Jump o)))
parts_give labels (Lone o) l h = rw h refl

-- a line of a program gives none
code_gives : (labels : List Mark) (label : Option (List ℕ)) (i : Option Instr) (l front back : List (List ℕ)) → l ≡ front ++ back → SpellsLabel label front
    → MaySpell labels i back → listed (name_at l) ≡ []
code_gives labels (Some name) i l front back e h g = rw (e, h.0) (none_at (name ++ 58 ∷ []) back (no_label (name ++ 58 ∷ []) name (label-last name 58)))
code_gives labels None None l front back e h g = rw (e, h, g) refl
code_gives labels None (Some i) l front back e h g = rw (e, h) (parts_give labels (parts_of i) back g)

-- a line gives what its statement gives
gives : (x : Statement) (l : List (List ℕ)) → Spells x l → listed (name_at l) ≡ given x
gives (m.zephyr v) l h = rw h refl
gives (m.cap n) l h = rw h.1 refl
gives (m.pages n) l h = rw h.1 refl
gives (m.rule r) l h = rw h refl
gives (m.row r) l h = rw h.2 refl
gives (m.txn head) l h = rw h refl
gives (m.code labels c) l h = code_gives labels c.label c.instr l h.0 h.1 h.2 h.3 h.4
gives (m.choice names c) l h =
    let x = choice_shape names c.choice h.0 h.3 in
    rw (h.2, x.2) (none_at (actor_word x.0) (x.1 ++ h.1) (no_actor x.0))
gives m.end l h = rw h refl

-- lines give what their statements give
all_give : (xs : List Statement) (ls : List (List (List ℕ))) → SpellEach xs ls → names_among ls ≡ flat_map given xs
all_give [] [] h = refl
all_give [] (l ∷ ls) h = absurd h
all_give (x ∷ xs) [] h = absurd h
all_give (x ∷ xs) (l ∷ ls) h = rw (gives x l h.0, all_give xs ls h.1) refl

-- ---- the statements of a scenario give the heads of its programs

-- the name of each program that is written, empty where its head is its number
abbrev pub heads : List Written → List (List ℕ)
heads ps = map (λ (p : Written). if_name p.head) ps

-- choices give none
choices_give : (names : List Mark) (cs : List Times) → flat_map given (choice_statements names cs) ≡ []
choices_give names [] = refl
choices_give names (c ∷ cs) = choices_give names cs

-- nor do the lines of a program, in front of others
codes_give : (labels : List Mark) (cs : List Code) (xs : List Statement) → flat_map given (map (m.code labels) cs ++ xs) ≡ flat_map given xs
codes_give labels [] xs = refl
codes_give labels (c ∷ cs) xs = codes_give labels cs xs

-- programs give their heads, in front of what gives none
programs_give : (ps : List Written) (xs : List Statement) → flat_map given xs ≡ [] → flat_map given (flat_map program_statements ps ++ xs) ≡ heads ps
programs_give [] xs none = none
programs_give (p ∷ ps) xs none =
    let body = map (m.code (labels_of 0 p.body)) p.body in
    let rest = flat_map program_statements ps in
    ap (λ (ys : List Statement). if_name p.head ∷ flat_map given ys) (append_assoc body rest xs)
    ∙ ap (λ (ns : List (List ℕ)). if_name p.head ∷ ns) (codes_give (labels_of 0 p.body) p.body (rest ++ xs) ∙ programs_give ps xs none)

-- rows give none, in front of others
rows_give : (rows : List Row) (xs : List Statement) → flat_map given (map m.row rows ++ xs) ≡ flat_map given xs
rows_give [] xs = refl
rows_give (r ∷ rows) xs = rows_give rows xs

-- the names of a text that writes a draft are its heads
pub names_of-heads : (text : List ℕ) (s : Scenario) (d : Draft) → SpellEach (statements s d) (lines_with_words text) → names_of text ≡ heads d.programs
names_of-heads text s d h =
    let below = choice_statements (m.names_of 0 d.programs) d.choices in
    names_in-words (lines_of text)
    ∙ all_give (statements s d) (lines_with_words text) h
    ∙ rows_give s.rows (flat_map program_statements d.programs ++ below)
    ∙ programs_give d.programs below (choices_give (m.names_of 0 d.programs) d.choices)
