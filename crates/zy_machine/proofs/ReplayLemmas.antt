-- A machine that follows its scenario makes one choice more.
use Rattle.std.proofs.Common.{◌≡◌, ◌∙◌, ℕ, ◌+◌, ◌-◌, ◌<◌, [], ◌∷◌, ◌++◌, refl, sym, ap, arith, length, length-append, get_or}
use Rattle.zy_isa.specs.declared.choice.Choice.{Choice}
use Rattle.zy_isa.specs.declared.choice.Choice.TheVariants.{Start}
use Rattle.zy_isa.specs.Scenario.{Scenario}
use Rattle.zy_table.specs.declared.entry.Entry.{Entry}
use Rattle.zy_table.specs.declared.outcome.Outcome.{Outcome}
use Rattle.zy_table.specs.State.{State}
use Rattle.zy_table.specs.Play.{step, entry_of, opening}
use Rattle.zy_machine.specs.Histories.{History}
use Rattle.zy_machine.specs.Replays.{Follows, state_at, outcome_at}
use Rattle.zy_machine.proofs.HistoryLemmas.{play-more, entries-more}

-- one choice more
pub follow : (h k : History) (c : Choice) (e : Entry) → Follows h → length h.entries < length h.scenario.choices → k.scenario ≡ h.scenario
    → c ≡ get_or h.scenario.choices (length h.entries) Start
    → e ≡ entry_of c (step h.scenario c h.state) → k.entries ≡ h.entries ++ e ∷ [] → k.state ≡ (step h.scenario c h.state).after → Follows k
unfolding state_at
follow h k c e f lt es ec ee en et =
    let sc = h.scenario in
    let i = length h.entries in
    let len : length k.entries ≡ i + 1 = omega (arith, ap length en, length-append h.entries (e ∷ [])) in
    record {
      most = rw es (omega (arith, len, lt));
      state = rw (es, len) (play-more sc i Start h.state k.state lt f.state (rw ec at et));
      entries = rw (es, len) (entries-more sc i Start h.state h.entries k.entries e lt f.state f.entries (rw ec at ee) en);
    }

-- one back from m + 1 is m
pub back_one : (m : ℕ) → (m + 1) - 1 ≡ m
back_one m = omega arith

-- the outcome of choice m + 1 is that of its step from the state after m choices
outcome_next : (sc : Scenario) (m : ℕ) → outcome_at sc (m + 1) ≡ (step sc (get_or sc.choices m Start) (state_at sc m)).outcome
outcome_next sc m = ap (λ j. (step sc (get_or sc.choices j Start) (state_at sc j)).outcome) (back_one m)

-- the outcome of the next choice of a machine that follows its scenario is the scenario's at the next position
pub outcome_is : (h : History) (c : Choice) (o : Outcome) → Follows h → c ≡ get_or h.scenario.choices (length h.entries) Start
    → o ≡ (step h.scenario c h.state).outcome → o ≡ outcome_at h.scenario (length h.entries + 1)
outcome_is h c o f ec eo =
    eo
    ∙ (ap (λ (x : Choice). (step h.scenario x h.state).outcome) ec
    ∙ (ap (λ (s : State). (step h.scenario (get_or h.scenario.choices (length h.entries) Start) s).outcome) f.state
    ∙ sym (outcome_next h.scenario (length h.entries))))

-- the opening follows its scenario
pub opens : (h : History) → h.state ≡ opening h.scenario → h.entries ≡ [] → Follows h
unfolding state_at
opens h es ee = rw ee (record { most = omega arith; state = es; entries = refl })
