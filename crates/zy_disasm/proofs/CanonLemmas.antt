-- The lines of the parts are those of the canonical text.
use Rattle.std.proofs.Common.{◌≡◌, ◌∙◌, ℕ, zero, suc, ◌+◌, ◌<◌, List, [], ◌∷◌, ◌++◌, refl, sym, ap, map, length, get_or, arith, append_assoc}
use Rattle.std.specs.Prelude.{codes}
use Rattle.std.specs.Fmt.{decimal}
use Rattle.std.specs.List.{flat_map}
use Rattle.std.proofs.lemmas.List.Folds.{flat_map-map}
use Rattle.std.proofs.lemmas.Grind.{flat_map-append}
use Rattle.zy_isa.specs.declared.instr.Instr.{Instr}
use Rattle.zy_text.specs.Words.{spaced}
use Rattle.zy_io.specs.Writing.{line_of}
use Rattle.zy_text.specs.Canon.{instr_words, row_words, row_text, choice_words, choice_text, program_words, header_words, canon}
use Rattle.zy_isa.specs.Scenario.{Scenario}
use Rattle.zy_disasm.specs.Lines.{number_text, header_texts, program_texts, program_parts, head_texts, end_texts}

-- there are as many parts as programs
pub length-parts : (t : ℕ) (ps : List (List Instr)) → length (program_parts t ps) ≡ length ps
length-parts t [] = refl
length-parts t (p ∷ ps) = ap (λ n. suc n) (length-parts (t + 1) ps)

-- the lines of one program
pub parts-at : (t i : ℕ) (d : List Instr) (ps : List (List Instr)) → i < length ps → get_or (program_parts t ps) i [] ≡ program_texts (t + i) (get_or ps i d)
parts-at t i d [] h = absurd (omega arith)
parts-at t zero d (p ∷ ps) h = ap (λ n. program_texts n p) (omega arith)
parts-at t (suc i) d (p ∷ ps) h = parts-at (t + 1) i d ps (omega arith) ∙ ap (λ n. program_texts n (get_or ps i d)) (omega arith)

-- the text of lines is that of their words
words-text : {X : Type 0} (words : X → List (List ℕ)) (xs : List X) → flat_map line_of (map (λ x. spaced (words x)) xs)
    ≡ flat_map (λ ws. line_of (spaced ws)) (map words xs)
words-text words xs = flat_map-map line_of (λ x. spaced (words x)) xs ∙ sym (flat_map-map (λ ws. line_of (spaced ws)) words xs)

-- the text of the lines of the programs is that of their words
parts-text : (t : ℕ) (ps : List (List Instr)) → flat_map line_of (flat_map (λ part. part) (program_parts t ps))
    ≡ flat_map (λ ws. line_of (spaced ws)) (program_words t ps)
parts-text t [] = refl
parts-text t (p ∷ ps) =
    flat_map-append line_of (program_texts t p) (flat_map (λ part. part) (program_parts (t + 1) ps))
    ∙ ap (λ l. flat_map line_of (program_texts t p) ++ l) (parts-text (t + 1) ps)
    ∙ ap (λ l. (line_of (number_text (codes "txn") t) ++ l) ++ flat_map (λ ws. line_of (spaced ws)) (program_words (t + 1) ps)) (words-text instr_words p)
    ∙ sym (flat_map-append (λ ws. line_of (spaced ws)) ((codes "txn" ∷ decimal t ∷ []) ∷ map instr_words p) (program_words (t + 1) ps))

-- two parts whose texts are those of the words, one after another
both-texts : (xs ys : List (List ℕ)) (vs ws : List (List (List ℕ))) → flat_map line_of xs ≡ flat_map (λ ws. line_of (spaced ws)) vs
    → flat_map line_of ys ≡ flat_map (λ ws. line_of (spaced ws)) ws
    → flat_map line_of (xs ++ ys) ≡ flat_map (λ ws. line_of (spaced ws)) (vs ++ ws)
both-texts xs ys vs ws p q =
    flat_map-append line_of xs ys ∙ ap (λ l. l ++ flat_map line_of ys) p ∙ ap (λ l. flat_map (λ ws. line_of (spaced ws)) vs ++ l) q
    ∙ sym (flat_map-append (λ ws. line_of (spaced ws)) vs ws)

-- the lines before the choices, the choices and the end are the canonical text
pub canon-parts : (s : Scenario) → flat_map line_of (head_texts s ++ (map choice_text s.choices ++ end_texts)) ≡ canon s
canon-parts s =
    let tail = both-texts (map choice_text s.choices) end_texts (map choice_words s.choices) ((codes "end" ∷ []) ∷ [])
    (words-text choice_words s.choices) refl in
    let programs = both-texts _ _ _ _ (parts-text 0 s.programs) tail in
    let rows = both-texts _ _ _ _ (words-text row_words s.rows) programs in
    let all = both-texts (header_texts s) _ (header_words s) _ refl rows in
    let choices = map choice_text s.choices ++ end_texts in
    let parts = flat_map (λ part. part) (program_parts 0 s.programs) in
    ap (flat_map line_of) (append_assoc (header_texts s) (map row_text s.rows ++ parts) choices
    ∙ ap (λ l. header_texts s ++ l) (append_assoc (map row_text s.rows) parts choices)) ∙ all

-- what is written behind those lines stands behind the canonical text
pub canon-before : (s : Scenario) (more : List (List ℕ)) → flat_map line_of (head_texts s ++ (map choice_text s.choices ++ (end_texts ++ more)))
    ≡ canon s ++ flat_map line_of more
canon-before s more =
    let choices = map choice_text s.choices in
    ap (flat_map line_of) (sym (append_assoc (head_texts s) (choices ++ end_texts) more ∙ ap (λ l. head_texts s ++ l) (append_assoc choices end_texts more)))
    ∙ flat_map-append line_of (head_texts s ++ (choices ++ end_texts)) more ∙ ap (λ l. l ++ flat_map line_of more) (canon-parts s)
