-- What a listing writes of steps is read back.
use Rattle.std.proofs.Common.{◌≡◌, ◌∙◌, ℕ, ◌+◌, ◌^◌, ◌<◌, ◌≤◌, true, List, [], ◌∷◌, length, Ok, ap, subst, sym, arith, append-nil}
use Rattle.std.specs.Fmt.{decimal}
use Rattle.zy_isa.specs.Choices.{names_below}
use Rattle.zy_isa.specs.declared.choice.Choice.{Choice}
use Rattle.zy_isa.specs.Scenario.{Scenario, IsScenario, AreNamed}
use Rattle.zy_table.specs.declared.entry.Entry.{Entry}
use Rattle.zy_table.specs.declared.outcome.Outcome.{Outcome}
use Rattle.zy_table.specs.Play.{entries, entry_of, opening, step}
use Rattle.zy_table.specs.State.{State}
use Rattle.zy_text.specs.Words.{words_of}
use Rattle.zy_patterns.specs.Patterns.{exactly}
use Rattle.zy_listing.specs.Listing.{step_texts}
use Rattle.zy_listing.specs.Texts.{outcome_text, step_text}
use Rattle.zy_logs.specs.declared.log_line.Logged.TheVariants.{Step}
use Rattle.zy_logs.specs.declared.txns.Txns.{Txns}
use Rattle.zy_logs.specs.InFull.{in_full, IsTold, outcome_words, step_words}
use Rattle.zy_logs.specs.Lines.{line_of, outcome_of}
use Rattle.zy_logs.specs.Possible.{can_give}
use Rattle.zy_logs.specs.Words.{after}
use Rattle.zy_logs.proofs.FullLemmas.{outcome_given, step_given}
use Rattle.zy_logs.proofs.PossibleSteps.{step_exactly}
use Rattle.zy_text.proofs.WordLemmas.{words_spaced}
use Rattle.zy_log_laws.specs.ReadBack.{AreReadBack, HaveNumbers, entry_alone}
use Rattle.zy_log_laws.proofs.TextLemmas.{outcome_spaced, outcome_clean, step_spaced, step_clean}

-- the text of an outcome is read as the pattern that leaves nothing out
pub outcome_back : (txns : Txns) (o : Outcome) → txns.count ≤ 64 → IsTold txns.count o → outcome_of txns (words_of (outcome_text o)) ≡ Ok (exactly o, [])
outcome_back txns o most h =
    ap (λ l. outcome_of txns (words_of l)) (outcome_spaced o)
    ∙ ap (outcome_of txns) (words_spaced (outcome_words o) (outcome_clean txns.count o most h) ∙ sym (append-nil (outcome_words o)))
    ∙ outcome_given txns o [] most h

-- the line of a step
step_back : (txns : Txns) (i : ℕ) (e : Entry) → txns.count ≤ 64 → i < 2 ^ 32 → names_below txns.count e.choice ≡ true → IsTold txns.count e.outcome
    → can_give e.choice (exactly e.outcome) ≡ true → line_of txns (after (words_of (step_text i e))) ≡ Ok (Step (in_full (entry_alone e)))
step_back txns i e most few named h can =
    ap (λ l. line_of txns (after (words_of l))) (step_spaced i e)
    ∙ ap (λ ws. line_of txns (after ws)) (words_spaced (decimal i ∷ step_words (entry_alone e)) (step_clean txns.count i e most few named h))
    ∙ step_given txns (entry_alone e) most named h can tt tt

-- the lines of steps from number i on
steps_back : (sc : Scenario) (txns : Txns) (i : ℕ) (s : State) (cs : List Choice) → txns.count ≤ 64 → i + length cs < 2 ^ 32 → AreNamed txns.count cs
    → HaveNumbers txns.count (entries sc s cs) → AreReadBack txns (step_texts i (entries sc s cs)) (entries sc s cs)
steps_back sc txns i s [] most few named told = tt
steps_back sc txns i s (c ∷ cs) most few named told = (
  step_back txns i (entry_of c (step sc c s)) most (omega (arith, few)) named.0 told.0 (step_exactly sc c s),
  steps_back sc txns (i + 1) (step sc c s).after cs most (omega (arith, few)) named.1 told.1,
)

-- the steps of a listing
pub listing_back : (sc : Scenario) → IsScenario sc → (txns : Txns) → txns.count ≡ length sc.programs
    → HaveNumbers txns.count (entries sc (opening sc) sc.choices)
    → AreReadBack txns (step_texts 1 (entries sc (opening sc) sc.choices)) (entries sc (opening sc) sc.choices)
listing_back sc ok txns count told =
    let few = ok.few_choices in
    let most = ok.few_programs in
    steps_back sc txns 1 (opening sc) sc.choices (omega (arith, count, most)) (omega (arith, few))
    (subst (λ k. AreNamed k sc.choices) (sym count) ok.choices_named) told
