-- What went out of a search.
use Rattle.std.proofs.Common.{◌≡◌, ◌∙◌, ◌++◌, ◌∷◌, ◌≤◌, ℕ, zero, suc, List, [], Option, Some, None, Err, refl, sym, ap, append_assoc, arith, map}
use Rattle.std.proofs.Common.{length, min, take, Result, subst}
use Rattle.std.proofs.Math.Seq.{take-length}
use Rattle.std.specs.List.{flat_map}
use Rattle.std.proofs.lemmas.List.{length-take, map-append, take_min}
use Rattle.zy_io.specs.Streams.{Sent}
use Rattle.zy_io.specs.Writing.{line_of, Wrote}
use Rattle.zy_io.specs.declared.writing.TextFault.{TextFault}
use Rattle.zy_io.specs.declared.writing.TextFault.TheVariants.{Write, Memory}
use Rattle.zy_isa.specs.declared.choice.Choice.{Choice}
use Rattle.zy_text.specs.Canon.{canon, choice_text}
use Rattle.zy_isa.specs.Scenario.{Scenario}
use Rattle.zy_disasm.specs.Lines.{head_texts, end_texts}
use Rattle.zy_disasm.proofs.CanonLemmas.{canon-parts}
use Rattle.zy_threads.specs.Orders.{reordered}
use Rattle.zy_search.specs.declared.answer.SearchAnswer.{SearchAnswer}
use Rattle.zy_search.specs.declared.answer.SearchAnswer.TheVariants.{Spent}
use Rattle.zy_search.specs.declared.sought.Sought.{Sought}
use Rattle.zy_search.specs.Searches.{IsAnswer}
use Rattle.zy_engine.specs.declared.searching.SearchOptions.{SearchOptions}
use Rattle.zy_engine.specs.Searching.{history_of, taken, IsTextOf, WroteAnswer, WroteSome}
use Rattle.zy_io.proofs.StreamLemmas.{SendsPrefix-none}
use Rattle.zy_laws.proofs.walk.PlayPush.{length-entries}
use Rattle.zy_machine.specs.Histories.{History}
use Rattle.zy_machine.specs.Replays.{Follows}
use Rattle.zy_machine.specs.Replays.{state_at}
use Rattle.zy_table.specs.Play.{play, opening, entries}
use Rattle.zy_table.specs.State.{State}
use Rattle.zy_table.specs.declared.entry.Entry.{Entry}

-- the lines of a scenario with other choices
pub canon-with : (sc : Scenario) (cs more : List Choice)
    → flat_map line_of (head_texts sc ++ (map choice_text cs ++ (map choice_text more ++ end_texts))) ≡ canon (reordered sc (cs ++ more))
canon-with sc cs more =
    ap (λ l. flat_map line_of (head_texts sc ++ l)) (sym (append_assoc (map choice_text cs) (map choice_text more) end_texts))
    ∙ ap (λ l. flat_map line_of (head_texts sc ++ (l ++ end_texts))) (sym (map-append choice_text cs more))
    ∙ canon-parts (reordered sc (cs ++ more))

-- the first elements of a list are no more than all
short : {X : Type 0} (n : ℕ) (xs : List X) → length (take n xs) ≤ length xs
short zero xs = omega arith
short (suc n) [] = omega arith
short (suc n) (x ∷ xs) = omega (arith, short n xs)

-- a machine has a step for each choice that is a step already taken
taken-length : (from : Option ℕ) (sc : Scenario) → length (history_of from sc).entries ≡ length (taken from sc)
taken-length from sc = length-entries sc (opening sc) (taken from sc)

-- so it has no more than its scenario has choices
pub taken-few : (from : Option ℕ) (sc : Scenario) → length (history_of from sc).entries ≤ length sc.choices
taken-few None sc = omega (arith, taken-length None sc)
taken-few (Some n) sc = omega (arith, taken-length (Some n) sc, short n sc.choices)

-- and it has made the first of them
pub taken-first : (from : Option ℕ) (sc : Scenario) → take (length (history_of from sc).entries) sc.choices ≡ taken from sc
taken-first None sc = ap (λ n. take n sc.choices) (taken-length None sc) ∙ take-length sc.choices
taken-first (Some n) sc =
    ap (λ k. take k sc.choices) (taken-length (Some n) sc ∙ length-take n sc.choices) ∙ take_min n sc.choices

-- two histories with the same parts are one
same_history : (h : History) (sc : Scenario) (s : State) (es : List Entry) → h.scenario ≡ sc → h.state ≡ s → h.entries ≡ es
    → h ≡ record { scenario = sc; state = s; entries = es }
same_history h sc s es e f g =
    ap (λ (x : Scenario). record { scenario = x; state = h.state; entries = h.entries }) e
    ∙ ap (λ (x : State). record { scenario = sc; state = x; entries = h.entries }) f
    ∙ ap (λ (x : List Entry). record { scenario = sc; state = s; entries = x }) g

-- a machine that follows its scenario for some choices, or for all where there are fewer
pub follows_first : (h : History) (sc : Scenario) (n : ℕ) → Follows h → h.scenario ≡ sc → length h.entries ≡ min n (length sc.choices)
    → h ≡ history_of (Some n) sc
unfolding state_at
follows_first h sc n f e g =
    let made : take (length h.entries) h.scenario.choices ≡ take n sc.choices =
    ap (λ (x : Scenario). take (length h.entries) x.choices) e ∙ ap (λ k. take k sc.choices) g ∙ take_min n sc.choices in
    same_history h sc _ _ e
    (f.state ∙ ap (λ cs. play h.scenario (opening h.scenario) cs) made ∙ ap (λ (x : Scenario). play x (opening x) (take n sc.choices)) e)
    (f.entries ∙ ap (λ cs. entries h.scenario (opening h.scenario) cs) made ∙ ap (λ (x : Scenario). entries x (opening x) (take n sc.choices)) e)

-- that nothing is known of any schedule is an answer
pub nothing_known : (from : Option ℕ) (sc : Scenario) (q : Sought) → IsAnswer (history_of from sc) q (Spent 0)
nothing_known from sc q = λ cs a lt. absurd (omega (arith, lt))

-- where memory runs out before anything is written, nothing is known
pub nothing_searched : (o : SearchOptions) (sc : Scenario) (q : Sought) (sent : Sent)
    → WroteAnswer o q sc sent sent (Err Memory)
nothing_searched o sc q sent =
    record {
      answer = Spent 0;
      is = nothing_known o.from sc q;
      returned = tt;
      due = tt;
      wrote = record { text = []; is = refl; wrote = (SendsPrefix-none sent [], refl) };
    }

-- what was written of a machine's first choices is written of those that are steps already taken
pub wrote_first : (o : SearchOptions) (sc : Scenario) (answer : SearchAnswer) (old new : Sent)
    (result : Result (Unit {0}) TextFault) (h : History) → h ≡ history_of o.from sc
    → WroteSome (IsTextOf o.wording h.scenario (take (length h.entries) h.scenario.choices) answer) old new result
    → WroteSome (IsTextOf o.wording sc (taken o.from sc) answer) old new result
wrote_first o sc answer old new result h e w =
    let first : take (length h.entries) h.scenario.choices ≡ taken o.from sc =
    ap (λ (x : History). take (length x.entries) x.scenario.choices) e ∙ taken-first o.from sc in
    let is : IsTextOf o.wording sc (take (length h.entries) h.scenario.choices) answer w.text =
    subst (λ (x : Scenario). IsTextOf o.wording x (take (length h.entries) h.scenario.choices) answer w.text) (ap (λ (x : History). x.scenario) e) w.is in
    record { text = w.text; is = subst (λ (cs : List Choice). IsTextOf o.wording sc cs answer w.text) first is; wrote = w.wrote }

-- a fault says as much of what went out, whatever the call would have returned
pub wrote_err : (X : Type 0) (old new : Sent) (f : TextFault) (text : List ℕ)
    → Wrote old new {X = Unit {0}} (Err f) text → Wrote old new {X = X} (Err f) text
wrote_err X old new Write text w = w
wrote_err X old new Memory text w = w
