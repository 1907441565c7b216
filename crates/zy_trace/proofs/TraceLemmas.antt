-- Lines one after another, and the steps of a run.
use Rattle.std.proofs.Common.{◌≡◌, ◌∙◌, ℕ, ◌+◌, ◌<◌, List, [], ◌∷◌, ◌++◌, refl, sym, ap, ap₂, arith, append_assoc, append-nil}
use Rattle.std.proofs.Common.{true, map, length, get_or, suc, zero, take}
use Rattle.std.specs.List.{flat_map, range_with_len}
use Rattle.std.proofs.lemmas.Grind.{flat_map-append}
use Rattle.std.proofs.lemmas.List.{length-take-le, take_more}
use Rattle.std.proofs.lemmas.List.FromFn.{map-range_with_len_more}
use Rattle.zy_io.specs.Writing.{line_of}
use Rattle.zy_io.proofs.WritingLemmas.{flat_map-take}
use Rattle.zy_isa.specs.declared.choice.Choice.{Choice}
use Rattle.zy_isa.specs.declared.choice.Choice.TheVariants.{Start}
use Rattle.zy_isa.specs.Scenario.{Scenario, IsScenario}
use Rattle.zy_text.specs.Canon.{canon}
use Rattle.zy_table.specs.State.{State}
use Rattle.zy_table.specs.Play.{step, opening, play, entries}
use Rattle.zy_laws.specs.Counts.{Safe}
use Rattle.zy_laws.proofs.walk.PlayPush.{play-push, entries-push, length-entries}
use Rattle.zy_machine.specs.Histories.{History, IsReplay, choices_of}
use Rattle.zy_serial.specs.SameMaps.{is_serial}
use Rattle.zy_trace.specs.declared.form.StepForm.{StepForm}
use Rattle.zy_trace.specs.declared.form.StepForm.TheVariants.{Lines}
use Rattle.zy_trace.specs.declared.subject.Subject.{Subject}
use Rattle.zy_trace.specs.Steps.{end_text, next_lines, ran, with_next}
use Rattle.zy_trace.specs.Subjects.{line_in, inset, lines_of_subject, state_lines, subjects}
use Rattle.zy_trace.specs.Trace.{step_lines, steps_lines, opening_lines, last_lines, trace, trace_from}

-- one number more
pub shown_more : (f : Subject → List ℕ) (g : ℕ → Subject) (n : ℕ) → flat_map f (map g (range_with_len 0 (n + 1))) ≡ flat_map f (map g (range_with_len 0 n))
    ++ f (g n)
shown_more f g n =
    ap (flat_map f) (map-range_with_len_more g 0 n n (omega arith))
    ∙ flat_map-append f (map g (range_with_len 0 n)) (g n ∷ [])
    ∙ ap (λ l. flat_map f (map g (range_with_len 0 n)) ++ l) (append-nil (f (g n)))

-- the lines of some subjects and then of others are those of both lists in a row
two_parts : (f : Subject → List ℕ) (o m p : List ℕ) (ks bs : List Subject) → m ≡ o ++ flat_map f ks → p ≡ m ++ flat_map f bs → p ≡ o ++ flat_map f (ks ++ bs)
two_parts f o m p ks bs h k =
    k ∙ ap (λ x. x ++ flat_map f bs) h ∙ append_assoc o (flat_map f ks) (flat_map f bs) ∙ ap (λ x. o ++ x) (sym (flat_map-append f ks bs))

-- the lines of four lists of subjects are those of all of them in a row
pub four_parts : (f : Subject → List ℕ) (o m p l e : List ℕ) (ks bs cs ds : List Subject) → m ≡ o ++ flat_map f ks → p ≡ m ++ flat_map f bs
    → l ≡ p ++ flat_map f cs → e ≡ l ++ flat_map f ds
    → e ≡ o ++ flat_map f (ks ++ (bs ++ (cs ++ ds)))
four_parts f o m p l e ks bs cs ds h i j k =
    two_parts f o m e ks (bs ++ (cs ++ ds)) h (two_parts f m p e bs (cs ++ ds) i (two_parts f p l e cs ds j k))

-- two subjects, one after the other
pub two_subjects : (f : Subject → List ℕ) (o m p : List ℕ) (x y : Subject) → m ≡ o ++ f x → p ≡ m ++ f y → p ≡ o ++ flat_map f (x ∷ y ∷ [])
two_subjects f o m p x y h k =
    two_parts f o m p (x ∷ []) (y ∷ []) (h ∙ ap (λ l. o ++ l) (sym (append-nil (f x)))) (k ∙ ap (λ l. m ++ l) (sym (append-nil (f y))))

-- the bytes of lines that are shown are those of each
pub lines_each : (g : List ℕ → List ℕ) (f : Subject → List (List ℕ)) (xs : List Subject)
    → flat_map (λ x. flat_map g (f x)) xs ≡ flat_map g (flat_map f xs)
lines_each g f [] = refl
lines_each g f (x ∷ xs) = ap (λ l. flat_map g (f x) ++ l) (lines_each g f xs) ∙ sym (flat_map-append g (f x) (flat_map f xs))

-- the bytes of a line behind two spaces
abbrev pub inset_line : List ℕ → List ℕ
inset_line line = line_of (inset line)

-- the bytes of some such lines
pub inset_lines : (lines : List (List ℕ)) → flat_map inset_line lines ≡ flat_map line_of (map inset lines)
inset_lines [] = refl
inset_lines (x ∷ xs) = ap (λ l. inset_line x ++ l) (inset_lines xs)

-- those of a state, where all are shown
abbrev pub shown_state : State → List ℕ
shown_state s = flat_map (λ x. flat_map inset_line (lines_of_subject true s s x)) (subjects s)

-- where all are shown they are the lines of the state
pub all_shown : (before now : State) (xs : List Subject) → flat_map (lines_of_subject true before now) xs ≡ map (line_in now) xs
all_shown before now [] = refl
all_shown before now (x ∷ xs) = ap (λ l. line_in now x ∷ l) (all_shown before now xs)

-- the lines of each step by themselves, from step i on
abbrev pub blocks : StepForm → Scenario → ℕ → State → List Choice → List (List (List ℕ))
blocks form sc i s [] = []
blocks form sc i s (c ∷ cs) = step_lines form sc i s c ∷ blocks form sc (i + 1) (step sc c s).after cs

-- the lines of all steps are theirs, one after another
pub steps-blocks : (form : StepForm) (sc : Scenario) (i : ℕ) (s : State) (cs : List Choice) → flat_map line_of (steps_lines form sc i s cs)
    ≡ flat_map (flat_map line_of) (blocks form sc i s cs)
steps-blocks form sc i s [] = refl
steps-blocks form sc i s (c ∷ cs) =
    let t = (step sc c s).after in
    flat_map-append line_of (step_lines form sc i s c) (steps_lines form sc (i + 1) t cs)
    ∙ ap (λ l. flat_map line_of (step_lines form sc i s c) ++ l) (steps-blocks form sc (i + 1) t cs)

-- there is one for each choice
pub length-blocks : (form : StepForm) (sc : Scenario) (i : ℕ) (s : State) (cs : List Choice) → length (blocks form sc i s cs) ≡ length cs
length-blocks form sc i s [] = refl
length-blocks form sc i s (c ∷ cs) = ap suc (length-blocks form sc (i + 1) (step sc c s).after cs)

-- that of the choice behind k others
block-at : (form : StepForm) (sc : Scenario) (i : ℕ) (s : State) (cs : List Choice) (k : ℕ) → k < length cs
    → get_or (blocks form sc i s cs) k [] ≡ step_lines form sc (i + k) (play sc s (take k cs)) (get_or cs k Start)
block-at form sc i s [] k lt = absurd (omega arith)
block-at form sc i s (c ∷ cs) zero lt = ap (λ n. step_lines form sc n s c) (omega arith)
block-at form sc i s (c ∷ cs) (suc k) lt =
    let t = (step sc c s).after in
    block-at form sc (i + 1) t cs k (omega arith) ∙ ap (λ n. step_lines form sc n (play sc t (take k cs)) (get_or cs k Start)) (omega arith)

-- Where the first i choices of a scenario are made, and one more is left.
module _ (sc : Scenario) (i : ℕ) (lt : i < length sc.choices) where
  -- there are as many entries
  made : length (entries sc (opening sc) (take i sc.choices)) ≡ i
  made = length-entries sc (opening sc) (take i sc.choices) ∙ length-take-le i sc.choices (omega (arith, lt))

  -- fewer than choices
  pub ran-left : length (entries sc (opening sc) (take i sc.choices)) < length sc.choices
  ran-left = omega (arith, made, lt)

  -- the machine that makes it has made one more
  pub ran-next : with_next (ran sc (take i sc.choices)) ≡ ran sc (take (i + 1) sc.choices)
  ran-next = rw (made, take_more sc.choices i Start lt, play-push, entries-push) refl

-- And for a form of the steps.
module _ (form : StepForm) (sc : Scenario) (i : ℕ) (lt : i < length sc.choices) where
  -- its block is there
  pub block-left : i < length (blocks form sc 1 (opening sc) sc.choices)
  block-left = omega (arith, length-blocks form sc 1 (opening sc) sc.choices, lt)

  -- and has the lines of the next step
  pub next-block : (h : History) → h ≡ ran sc (take i sc.choices)
      → flat_map line_of (next_lines form h) ≡ flat_map line_of (get_or (blocks form sc 1 (opening sc) sc.choices) i [])
  next-block h e =
      ap (λ (x : History). flat_map line_of (next_lines form x)) e
      ∙ ap (flat_map line_of) (ap₂ (λ n c. step_lines form sc n (play sc (opening sc) (take i sc.choices)) c) (omega (arith, made sc i lt))
      (ap (λ k. get_or sc.choices k Start) (made sc i lt))
      ∙ sym (block-at form sc 1 (opening sc) sc.choices i lt))

  -- its text follows that of those before it
  pub blocks-more : flat_map (flat_map line_of) (take (i + 1) (blocks form sc 1 (opening sc) sc.choices))
      ≡ flat_map (flat_map line_of) (take i (blocks form sc 1 (opening sc) sc.choices)) ++ flat_map line_of (get_or (blocks form sc 1 (opening sc) sc.choices) i [])
  blocks-more =
      let on : i + 1 ≡ suc i = omega arith in
      ap (λ n. flat_map (flat_map line_of) (take n (blocks form sc 1 (opening sc) sc.choices))) on
      ∙ flat_map-take (flat_map line_of) (blocks form sc 1 (opening sc) sc.choices) i [] block-left

-- there are as many transactions as programs
pub counted : (h : History) → ((sc : Scenario) → IsScenario sc → (choices : List Choice) → Safe sc (length choices) (play sc (opening sc) choices)) → IsReplay h
    → length h.state.txns ≡ length h.scenario.programs
counted h law r = ap (λ (s : State). length s.txns) r.state ∙ (law h.scenario r.tested (choices_of h.entries)).txns

-- the parts that are written are the trace
pub trace-parts : (sc : Scenario) → (canon sc ++ flat_map line_of (opening_lines (opening sc)))
    ++ (flat_map line_of (steps_lines Lines sc 1 (opening sc) sc.choices) ++ end_text (ran sc sc.choices))
    ≡ trace sc
unfolding trace_from
trace-parts sc =
    let steps = steps_lines Lines sc 1 (opening sc) sc.choices in
    let t = play sc (opening sc) sc.choices in
    let last = last_lines t (is_serial sc t) in
    append_assoc (canon sc) (flat_map line_of (opening_lines (opening sc))) (flat_map line_of steps ++ flat_map line_of last)
    ∙ ap (λ l. canon sc ++ (flat_map line_of (opening_lines (opening sc)) ++ l)) (sym (flat_map-append line_of steps last))
    ∙ ap (λ l. canon sc ++ l) (sym (flat_map-append line_of (opening_lines (opening sc)) (steps ++ last)))

-- the bytes of all lines of a state
pub state_text : (s : State) → shown_state s ≡ flat_map line_of (map inset (state_lines s))
state_text s =
    lines_each inset_line (lines_of_subject true s s) (subjects s) ∙ ap (flat_map inset_line) (all_shown s s (subjects s)) ∙ inset_lines (state_lines s)
