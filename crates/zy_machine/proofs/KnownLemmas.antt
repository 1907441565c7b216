-- What is known of further steps.
use Rattle.std.proofs.Common.{◌≡◌, ◌∙◌, ℕ, ◌+◌, List, [], ◌∷◌, ◌++◌, refl, sym, ap, suc, zero, arith, subst, ◌⊎◌, inl, inr}
use Rattle.std.specs.Prelude.{take, drop}
use Rattle.zy_isa.specs.declared.choice.Choice.{Choice}
use Rattle.zy_isa.specs.Scenario.{Scenario, IsScenario}
use Rattle.zy_table.specs.declared.entry.Entry.{Entry}
use Rattle.zy_table.specs.State.{State}
use Rattle.zy_table.specs.Play.{step, play, entries, entry_of, opening}
use Rattle.zy_machine.specs.Histories.{History, IsReplay, choices_of}
use Rattle.zy_machine.specs.Trails.{IsPlayed, IsNextChoice}
use Rattle.zy_machine.specs.declared.entry_log.EntryLog.{EntryLog}
use Rattle.zy_machine.specs.declared.entry_log.EntryLog.TheVariants.{Own, Shared}
use Rattle.zy_machine.specs.EntryLogs.{ahead, IsReadyFor}

-- the first n + 1 of a list are its first n, and the one behind them
take-suc : {X : Type 0} (n : ℕ) (xs : List X) → take (suc n) xs ≡ take n xs ++ take 1 (drop n xs)
take-suc zero xs = refl
take-suc (suc n) [] = refl
take-suc (suc n) (x ∷ xs) = ap (λ l. x ∷ l) (take-suc n xs)

-- to drop n + 1 of a list is to drop n, and then one more
drop-suc : {X : Type 0} (n : ℕ) (xs : List X) → drop (suc n) xs ≡ drop 1 (drop n xs)
drop-suc zero xs = refl
drop-suc (suc n) [] = refl
drop-suc (suc n) (x ∷ xs) = drop-suc n xs

-- the front is longer by one
pub take-one-more : {X : Type 0} (n : ℕ) (xs : List X) → take (n + 1) xs ≡ take n xs ++ take 1 (drop n xs)
take-one-more n xs = let on : n + 1 ≡ suc n = omega arith in ap (λ k. take k xs) on ∙ take-suc n xs

-- the same with the count written as n + 1
pub drop-one-more : {X : Type 0} (n : ℕ) (xs : List X) → drop (n + 1) xs ≡ drop 1 (drop n xs)
drop-one-more n xs = let on : n + 1 ≡ suc n = omega arith in ap (λ k. drop k xs) on ∙ drop-suc n xs

-- the choices of entries one after another are those of each
choices_of-append : (es fs : List Entry) → choices_of (es ++ fs) ≡ choices_of es ++ choices_of fs
choices_of-append [] fs = refl
choices_of-append (e ∷ es) fs = ap (λ l. e.choice ∷ l) (choices_of-append es fs)

-- the entries of choices and then more are those of the first, and those of the others from the state that these lead to
entries-append : (sc : Scenario) (s : State) (cs ds : List Choice) → entries sc s (cs ++ ds) ≡ entries sc s cs ++ entries sc (play sc s cs) ds
entries-append sc s [] ds = refl
entries-append sc s (c ∷ cs) ds = ap (λ l. entry_of c (step sc c s) ∷ l) (entries-append sc (step sc c s).after cs ds)

-- what was made and what is known from there on is known from the start
pub known-whole : (h : History) (es : List Entry) → IsReplay h → IsPlayed h.scenario h.state es → IsPlayed h.scenario (opening h.scenario) (h.entries ++ es)
known-whole h es r known =
    let sc = h.scenario in
    let cs = choices_of h.entries in
    ap (λ l. l ++ es) r.entries
    ∙ (ap (λ l. entries sc (opening sc) cs ++ l) known
    ∙ (ap (λ (s : State). entries sc (opening sc) cs ++ entries sc s (choices_of es)) r.state
    ∙ (sym (entries-append sc (opening sc) cs (choices_of es))
    ∙ ap (entries sc (opening sc)) (sym (choices_of-append h.entries es)))))

-- what is known of no step, or what was known
pub still-known : (sc : Scenario) (s : State) (es fs : List Entry) → (fs ≡ []) ⊎ (fs ≡ es) → IsPlayed sc s es → IsPlayed sc s fs
still-known sc s es fs (inl e) known = subst (IsPlayed sc s) (sym e) refl
still-known sc s es fs (inr e) known = subst (IsPlayed sc s) (sym e) known

-- a scenario in its opening state, without an entry, is a replay
pub opened : (sc : Scenario) → IsScenario sc → IsReplay (record { scenario = sc; state = opening sc; entries = [] })
opened sc tested = record { tested = tested; few = omega arith; named = tt; state = refl; entries = refl }

-- without their first, the entries that are known are known from the state after the next choice
after-known : (sc : Scenario) (s : State) (c : Choice) (es : List Entry) → IsNextChoice c es → IsPlayed sc s es → IsPlayed sc (step sc c s).after (drop 1 es)
after-known sc s c [] next known = absurd next
after-known sc s c (x ∷ es) next known = ap (drop 1) known ∙ ap (λ (d : Choice). entries sc (step sc d s).after (choices_of es)) next

-- what is known behind the next choice is known from the state after it
pub known-after : (sc : Scenario) (s : State) (c : Choice) (log : EntryLog) → IsReadyFor c log → IsPlayed sc s (ahead log)
    → IsPlayed sc (step sc c s).after (drop 1 (ahead log))
known-after sc s c (Own v) ready known = refl
known-after sc s c (Shared k) ready known = after-known sc s c k.ahead ready known
