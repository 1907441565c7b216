-- The places of the lines, and the whole listing.
use Rattle.std.proofs.Common.{◌≡◌, ◌∙◌, ℕ, zero, suc, ◌+◌, ◌<◌, List, [], ◌∷◌, ◌++◌, refl, ap, arith, length, get_or, map, Bool}
use Rattle.std.specs.List.{flat_map}
use Rattle.zy_text.specs.Canon.{canon}
use Rattle.zy_io.specs.Writing.{line_of}
use Rattle.zy_disasm.specs.Lines.{head_texts, end_texts}
use Rattle.zy_disasm.proofs.CanonLemmas.{canon-before}
use Rattle.zy_table.specs.Play.{entries, opening}
use Rattle.zy_table.specs.declared.entry.Entry.{Entry}
use Rattle.zy_text.specs.Canon.{choice_text}
use Rattle.zy_machine.specs.Histories.{History, IsReplay, choices_of}
use Rattle.zy_listing.specs.Texts.{step_text}
use Rattle.zy_listing.specs.Listing.{step_texts, ending_texts, listing}

-- there are as many lines of steps as entries
pub length-steps : (i : ℕ) (es : List Entry) → length (step_texts i es) ≡ length es
length-steps i [] = refl
length-steps i (e ∷ es) = ap (λ n. suc n) (length-steps (i + 1) es)

-- the line of one step
pub steps-at : (i k : ℕ) (d : Entry) (es : List Entry) → k < length es → get_or (step_texts i es) k [] ≡ step_text (i + k) (get_or es k d)
steps-at i k d [] h = absurd (omega arith)
steps-at i zero d (e ∷ es) h = ap (λ n. step_text n e) (omega arith)
steps-at i (suc k) d (e ∷ es) h = steps-at (i + 1) k d es (omega arith) ∙ ap (λ n. step_text n (get_or es k d)) (omega arith)

-- the line of one choice that was made
pub taken-at : (k : ℕ) (d : Entry) (es : List Entry) → k < length es → get_or (map choice_text (choices_of es)) k [] ≡ choice_text (get_or es k d).choice
taken-at k d [] h = absurd (omega arith)
taken-at zero d (e ∷ es) h = refl
taken-at (suc k) d (e ∷ es) h = taken-at k d es (omega arith)

-- there are as many lines of choices that were made as entries
pub length-taken : (es : List Entry) → length (map choice_text (choices_of es)) ≡ length es
length-taken [] = refl
length-taken (e ∷ es) = ap (λ n. suc n) (length-taken es)

-- the line at a place of the list is that of its step
pub step-at : (k : ℕ) (d : Entry) (es : List Entry) → k < length (step_texts 1 es) → get_or (step_texts 1 es) k [] ≡ step_text (k + 1) (get_or es k d)
step-at k d es h =
    let lt : k < length es = omega (arith, h, length-steps 1 es) in
    steps-at 1 k d es lt ∙ ap (λ n. step_text n (get_or es k d)) (omega arith)

-- the lines that are written are the listing of the replay
pub listing-lines : (h : History) (same : Bool) → IsReplay h
    → flat_map line_of (head_texts h.scenario ++ (map choice_text (choices_of h.entries) ++ (end_texts ++ ending_texts h.entries h.state same)))
    ≡ listing h.scenario (choices_of h.entries) same
unfolding listing
listing-lines h same r =
    let sc = h.scenario in
    let cs = choices_of h.entries in
    canon-before (record sc { choices = cs }) (ending_texts h.entries h.state same)
    ∙ ap (λ es. canon (record sc { choices = cs }) ++ flat_map line_of (ending_texts es h.state same)) r.entries
    ∙ ap (λ s. canon (record sc { choices = cs }) ++ flat_map line_of (ending_texts (entries sc (opening sc) cs) s same)) r.state
