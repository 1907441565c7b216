-- The texts of a step are its words with a space between them, and these are words.
use Rattle.std.proofs.Common.{◌≡◌, ◌∙◌, ℕ, ◌^◌, ◌<◌, ◌≤◌, Bool, true, false, ◌==◌, ◌&&◌, ◌||◌, List, [], ◌∷◌, ◌++◌, codes, Some, None, Option, refl, ap, subst, sym, arith}
use Rattle.std.proofs.Common.{append_assoc, append-nil}
use Rattle.std.specs.Fmt.{decimal}
use Rattle.std.specs.Char.{is_ascii_digit}
use Rattle.std.specs.Str.{all_ascii_digits}
use Rattle.std.proofs.lemmas.Bool.{and_from, eqb-true, false≢true, or_right}
use Rattle.zy_isa.specs.Choices.{names_below}
use Rattle.zy_isa.specs.declared.choice.Choice.{Choice}
use Rattle.zy_isa.specs.declared.choice.Choice.TheVariants.{Start, Begin, Kill, Run, Take, Finish, Push}
use Rattle.zy_isa.specs.declared.node.Node.TheVariants.{A, B}
use Rattle.zy_isa.proofs.ResultLemmas.{both}
use Rattle.zy_model.specs.declared.kind.Kind.{Kind}
use Rattle.zy_model.specs.declared.kind.Kind.TheVariants as kind
use Rattle.zy_table.specs.declared.entry.Entry.{Entry}
use Rattle.zy_table.specs.declared.outcome.Why.{Why}
use Rattle.zy_table.specs.declared.outcome.Why.TheVariants as why
use Rattle.zy_table.specs.declared.outcome.Outcome.{Outcome}
use Rattle.zy_table.specs.declared.outcome.Outcome.TheVariants as outcome
use Rattle.zy_text.specs.Canon.{choice_words}
use Rattle.zy_text.specs.Names.{are_parts, is_letter}
use Rattle.zy_text.specs.Words.{is_word, has_words, spaced}
use Rattle.zy_listing.specs.Texts.{why_text, kind_text, outcome_text, sent_text, step_text}
use Rattle.zy_logs.specs.InFull.{IsPage, HasPage, IsTold, reason_words, outcome_words, kind_word, sent_words, step_words}
use Rattle.zy_text.proofs.WordLemmas.{is_clean, are_clean, number_clean, digits_of, clean_choice}
use Rattle.zy_log_laws.specs.ReadBack.{entry_alone}

-- ---- words with a space between them

-- a word in front of some words
spaced_front : (w : List ℕ) (vs : List (List ℕ)) → has_words vs ≡ true → spaced (w ∷ vs) ≡ w ++ (32 ∷ spaced vs)
spaced_front w [] h = absurd (false≢true h)
spaced_front w (v ∷ vs) h = refl

-- words in front of some words
spaced_more : (ws vs : List (List ℕ)) → has_words ws ≡ true → has_words vs ≡ true → spaced (ws ++ vs) ≡ spaced ws ++ (32 ∷ spaced vs)
spaced_more [] vs g h = absurd (false≢true g)
spaced_more (w ∷ []) vs g h = spaced_front w vs h
spaced_more (w ∷ u ∷ ws) vs g h = ap (λ l. w ++ (32 ∷ l)) (spaced_more (u ∷ ws) vs refl h) ∙ sym (append_assoc w (32 ∷ spaced (u ∷ ws)) (32 ∷ spaced vs))

-- words behind words are some
some_more : (ws vs : List (List ℕ)) → has_words ws ≡ true → has_words (ws ++ vs) ≡ true
some_more [] vs h = absurd (false≢true h)
some_more (w ∷ ws) vs h = refl

-- ---- the texts

reason_spaced : (w : Why) → codes "aborted " ++ why_text w ≡ spaced (codes "aborted" ∷ reason_words w)
reason_spaced why.Own = refl
reason_spaced why.Killed = refl
reason_spaced why.BadKey = refl
reason_spaced why.Missing = refl
reason_spaced why.Duplicate = refl
reason_spaced why.NoPage = refl
reason_spaced (why.Frozen p) = refl
reason_spaced (why.Gone p) = refl

-- the text of an outcome is its words with a space between them, and there is one at least
outcome_told : (o : Outcome) → (outcome_text o ≡ spaced (outcome_words o)) × (has_words (outcome_words o) ≡ true)
outcome_told outcome.Started = (refl, refl)
outcome_told outcome.BadMode = (refl, refl)
outcome_told (outcome.Began n) = (refl, refl)
outcome_told outcome.Idle = (refl, refl)
outcome_told outcome.Elsewhere = (refl, refl)
outcome_told outcome.NotYet = (refl, refl)
outcome_told outcome.Did = (refl, refl)
outcome_told (outcome.Split p q k) = (refl, refl)
outcome_told (outcome.Aborted w) = (reason_spaced w, refl)
outcome_told (outcome.Committed n) = (refl, refl)
outcome_told (outcome.Waits n) = (refl, refl)
outcome_told (outcome.Pulls n) = (refl, refl)
outcome_told (outcome.Awaits n) = (refl, refl)
outcome_told outcome.NoMessage = (refl, refl)
outcome_told outcome.GotWire = (refl, refl)
outcome_told outcome.GotReady = (refl, refl)
outcome_told outcome.GotDual = (refl, refl)
outcome_told (outcome.Stale n) = (refl, refl)
outcome_told (outcome.Held n) = (refl, refl)
outcome_told (outcome.GotPull n) = (refl, refl)
outcome_told (outcome.GotPage n) = (refl, refl)
outcome_told outcome.GotFinish = (refl, refl)
outcome_told outcome.GotDone = (refl, refl)
outcome_told outcome.Stray = (refl, refl)
outcome_told outcome.Finishing = (refl, refl)
outcome_told (outcome.Active n) = (refl, refl)
outcome_told (outcome.Pushed n) = (refl, refl)
outcome_told outcome.NoPush = (refl, refl)

-- the text of an outcome
pub outcome_spaced : (o : Outcome) → outcome_text o ≡ spaced (outcome_words o)
outcome_spaced o = (outcome_told o).0

-- the word of a kind of message
kind_same : (k : Kind) → kind_text k ≡ kind_word k
kind_same kind.Wire = refl
kind_same kind.Ready = refl
kind_same kind.Dual = refl
kind_same kind.Pull = refl
kind_same kind.Page = refl
kind_same kind.Finish = refl
kind_same kind.Done = refl

-- a choice has words
choice_some : (c : Choice) → has_words (choice_words c) ≡ true
choice_some Start = refl
choice_some (Begin t) = refl
choice_some (Kill t) = refl
choice_some (Run n t) = refl
choice_some (Take n) = refl
choice_some (Finish n) = refl
choice_some (Push n) = refl

-- an outcome and the message that was sent, if one was
told_spaced : (o : Outcome) (sent : Option Kind) → outcome_text o ++ sent_text sent ≡ spaced (outcome_words o ++ sent_words sent)
told_spaced o None = append-nil (outcome_text o) ∙ outcome_spaced o ∙ ap spaced (sym (append-nil (outcome_words o)))
told_spaced o (Some kind) =
    ap (λ l. l ++ (codes " ! " ++ kind_text kind)) (outcome_spaced o)
    ∙ ap (λ l. spaced (outcome_words o) ++ (codes " ! " ++ l)) (kind_same kind)
    ∙ sym (spaced_more (outcome_words o) (codes "!" ∷ kind_word kind ∷ []) (outcome_told o).1 refl)

-- the words of a step that shows no value and no rows
alone_words : (e : Entry) → step_words (entry_alone e) ≡ choice_words e.choice ++ (codes "->" ∷ (outcome_words e.outcome ++ sent_words e.sent))
alone_words e = ap (λ ws. choice_words e.choice ++ (codes "->" ∷ (outcome_words e.outcome ++ ws))) (append-nil (sent_words e.sent))

-- the text of a step
pub step_spaced : (i : ℕ) (e : Entry) → step_text i e ≡ spaced (decimal i ∷ step_words (entry_alone e))
step_spaced i e =
    let told = outcome_words e.outcome ++ sent_words e.sent in
    let arrow = sym (spaced_front (codes "->") told (some_more (outcome_words e.outcome) (sent_words e.sent) (outcome_told e.outcome).1)) in
    let made = choice_words e.choice in
    let Line : List ℕ → List ℕ = λ l. decimal i ++ (32 ∷ (spaced made ++ (32 ∷ l))) in
    ap Line (ap (λ l. codes "-> " ++ l) (told_spaced e.outcome e.sent) ∙ arrow)
    ∙ ap (λ l. decimal i ++ (32 ∷ l)) (sym (spaced_more made (codes "->" ∷ told) (choice_some e.choice) refl))
    ∙ sym (spaced_front (decimal i) (made ++ (codes "->" ∷ told)) (some_more made (codes "->" ∷ told) (choice_some e.choice)))
    ∙ ap (λ ws. spaced (decimal i ∷ ws)) (sym (alone_words e))

-- ---- the words

-- clean words and more of them are clean
clean_more : (ws vs : List (List ℕ)) → are_clean ws ≡ true → are_clean vs ≡ true → are_clean (ws ++ vs) ≡ true
clean_more [] vs h g = g
clean_more (w ∷ ws) vs h g =
    let p = both (is_word w && is_clean w) (are_clean ws) h in
    rw (p.0, clean_more ws vs p.1 g) refl

-- a number alone
one_clean : (n : ℕ) → n < 2 ^ 32 → are_clean (decimal n ∷ []) ≡ true
one_clean n h = let p = number_clean n h in rw (p.0, p.1) refl

-- a letter or a digit
abbrev pub is_part : ℕ → Bool
is_part b = is_letter b || is_ascii_digit b

-- words of letters and digits
abbrev pub are_parted : List (List ℕ) → Bool
are_parted [] = true
are_parted (w ∷ ws) = is_word w && are_parts w && are_parted ws

-- what is neither a letter nor a digit is another byte
pub other : (k : ℕ) → is_part k ≡ false → (b : ℕ) → is_part b ≡ true → (b == k) ≡ false
other k out b h = tested (b == k) (λ e. eqb-true b k e)
  where
    tested : (t : Bool) → (t ≡ true → b ≡ k) → t ≡ false
    tested true is = absurd (false≢true (sym out ∙ ap is_part (sym (is refl)) ∙ h))
    tested false is = refl

-- letters and digits are clean
parts_clean : (w : List ℕ) → are_parts w ≡ true → is_clean w ≡ true
parts_clean [] h = refl
parts_clean (b ∷ bs) h =
    let p = both (is_part b) (are_parts bs) h in
    rw (other 32 refl b p.0, other 9 refl b p.0, other 13 refl b p.0, other 59 refl b p.0, other 10 refl b p.0, parts_clean bs p.1) refl

-- so are words of them
parted_clean : (ws : List (List ℕ)) → are_parted ws ≡ true → are_clean ws ≡ true
parted_clean [] h = refl
parted_clean (w ∷ ws) h =
    let p = both (is_word w && are_parts w) (are_parted ws) h in
    let q = both (is_word w) (are_parts w) p.0 in
    rw (q.0, parts_clean w q.1, parted_clean ws p.1) refl

-- digits are letters or digits
digits_parts : (ds : List ℕ) → all_ascii_digits ds ≡ true → are_parts ds ≡ true
digits_parts [] h = refl
digits_parts (d ∷ ds) h =
    let p = both (is_ascii_digit d) (all_ascii_digits ds) h in
    and_from _ _ (or_right (is_letter d) (is_ascii_digit d) p.0) (digits_parts ds p.1)

-- a number in front of such words
number_parted : (n : ℕ) (ws : List (List ℕ)) → n < 2 ^ 32 → are_parted ws ≡ true → are_parted (decimal n ∷ ws) ≡ true
number_parted n ws h more = rw ((number_clean n h).0, digits_parts (decimal n) (digits_of n h), more) refl

-- a page alone
page_parted : (p : ℕ) → IsPage p → are_parted (decimal p ∷ []) ≡ true
page_parted p h = number_parted p [] (omega (arith, h)) refl

-- the words of a reason are such words
reason_parted : (w : Why) → HasPage w → are_parted (reason_words w) ≡ true
reason_parted (why.Frozen p) h = page_parted p h
reason_parted (why.Gone p) h = page_parted p h
reason_parted w h = refl

-- so are the words of an outcome
pub outcome_parted : (count : ℕ) (o : Outcome) → count ≤ 64 → IsTold count o → are_parted (outcome_words o) ≡ true
outcome_parted count (outcome.Began A) most h = refl
outcome_parted count (outcome.Began B) most h = refl
outcome_parted count (outcome.Split p q k) most h =
    number_parted p (decimal q ∷ decimal k ∷ []) (omega (arith, h.0)) (number_parted q (decimal k ∷ []) (omega (arith, h.1)) (page_parted k h.2))
outcome_parted count (outcome.Aborted w) most h = reason_parted w h
outcome_parted count (outcome.Committed i) most h = number_parted i [] (omega (arith, h)) refl
outcome_parted count (outcome.Active t) most h = number_parted t [] (omega (arith, most, h)) refl
outcome_parted count (outcome.Waits n) most h = page_parted n h
outcome_parted count (outcome.Pulls n) most h = page_parted n h
outcome_parted count (outcome.Awaits n) most h = page_parted n h
outcome_parted count (outcome.Stale n) most h = page_parted n h
outcome_parted count (outcome.Held n) most h = page_parted n h
outcome_parted count (outcome.GotPull n) most h = page_parted n h
outcome_parted count (outcome.GotPage n) most h = page_parted n h
outcome_parted count (outcome.Pushed n) most h = page_parted n h
outcome_parted count o most h = refl

-- and clean
pub outcome_clean : (count : ℕ) (o : Outcome) → count ≤ 64 → IsTold count o → are_clean (outcome_words o) ≡ true
outcome_clean count o most h = parted_clean (outcome_words o) (outcome_parted count o most h)

-- the words of a message
sent_clean : (k : Option Kind) → are_clean (sent_words k) ≡ true
sent_clean None = refl
sent_clean (Some kind.Wire) = refl
sent_clean (Some kind.Ready) = refl
sent_clean (Some kind.Dual) = refl
sent_clean (Some kind.Pull) = refl
sent_clean (Some kind.Page) = refl
sent_clean (Some kind.Finish) = refl
sent_clean (Some kind.Done) = refl

-- the words of a step
pub step_clean : (count i : ℕ) (e : Entry) → count ≤ 64 → i < 2 ^ 32 → names_below count e.choice ≡ true → IsTold count e.outcome
    → are_clean (decimal i ∷ step_words (entry_alone e)) ≡ true
step_clean count i e most few named h =
    let told = codes "->" ∷ (outcome_words e.outcome ++ sent_words e.sent) in
    clean_more (decimal i ∷ []) (step_words (entry_alone e)) (one_clean i few) (subst (λ ws. are_clean ws ≡ true) (sym (alone_words e))
    (clean_more (choice_words e.choice) told (clean_choice e.choice count most named).0
    (clean_more (outcome_words e.outcome) (sent_words e.sent) (outcome_clean count e.outcome most h) (sent_clean e.sent))))
