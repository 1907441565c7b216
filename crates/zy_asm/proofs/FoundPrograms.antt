-- What is read of the programs and choices is meant.
use Rattle.std.proofs.Common.{◌≡◌, ℕ, ◌+◌, ◌<◌, ◌≤◌, true, List, [], ◌∷◌, ◌++◌, length, map, codes, Ok, refl, sym, ap, ◌∙◌, subst, inl, inr, arith}
use Rattle.std.proofs.Common.{append_assoc, append-nil, length-append, zero, suc}
use Rattle.std.proofs.lemmas.List.{length-replicate}
use Rattle.std.specs.Prelude.{replicate}
use Rattle.std.specs.List.{flat_map}
use Rattle.zy_isa.specs.declared.instr.Instr.{Instr}
use Rattle.zy_isa.specs.declared.choice.Choice.{Choice}
use Rattle.zy_text.specs.Names.{Mark, AreNew}
use Rattle.zy_isa.specs.Choices.{names_below}
use Rattle.zy_isa.specs.Scenario.{AreKnown, AreNamed}
use Rattle.zy_isa.proofs.ScenarioLemmas.{program_more}
use Rattle.zy_text.specs.Text as m
use Rattle.zy_text.specs.Text.{Code, Written, Times, Statement, SpellEach, instrs_of, label_at, labels_of, name_in, names_of, Headed, Labelled}
use Rattle.zy_text.specs.Text.{program_statements, choice_statements, repeated}
use Rattle.zy_asm.specs.declared.state.Stage.{Stage}
use Rattle.zy_asm.specs.declared.state.Stage.TheVariants as stage
use Rattle.zy_asm.specs.Pending.{Pending, all_resolved}
use Rattle.zy_asm.specs.Reading.Progress.{Seen}
use Rattle.zy_asm.specs.Reading.{body_line, step}
use Rattle.zy_isa.proofs.ResultLemmas.{bind_ok}
use Rattle.zy_asm.proofs.SpellLemmas.{AreBelow}
use Rattle.zy_asm.proofs.DraftLemmas.{Line, SpellBody, pending_in, pendings, marks, coded, new_label, new_name, below_name}
use Rattle.zy_asm.proofs.FitLemmas.{AllFit, all_fit-append, all_known}
use Rattle.zy_asm.proofs.FoundSteps.{Base, at, fold_lines, TxnStep, EndStep, ChoiceStep, Next, CodeStep, inside_ok, below_ok}

-- ---- the choices and the end

-- below the end line there is no line, and the state stays
done_only : (b : Base) (N : List Mark) (P : List (List Instr)) (C : List Choice) (ls : List (List (List ℕ))) (t : Seen)
    → fold_lines (at stage.Done b N P [] [] C) ls ≡ Ok t → (ls ≡ []) × (t ≡ at stage.Done b N P [] [] C)
done_only b N P C [] t h = (refl, cc)
done_only b N P C (l ∷ ls) t h = cc

-- what the lines from the first choice on spell
pub record FoundChoices (b : Base) (N : List Mark) (P : List (List Instr)) (C : List Choice) (ls : List (List (List ℕ))) (t : Seen) : Type 0 where
  pub choices : List Times
  pub spelled : SpellEach (choice_statements N choices) ls
  pub named : AreNamed (length P) (repeated choices)
  pub few : length (C ++ repeated choices) ≤ 4096
  pub same : t ≡ at stage.Done b N P [] [] (C ++ repeated choices)

-- a choice whose transaction exists, made n times in front of such choices, leaves them such choices
named_times : (count n : ℕ) (c : Choice) (rest : List Choice) → names_below count c ≡ true → AreNamed count rest → AreNamed count (replicate n c ++ rest)
named_times count zero c rest h g = g
named_times count (suc n) c rest h g = (h, named_times count n c rest h g)

-- a choice's line in front of lines that are found to be choices and the end is one choice more
choice_more : (b : Base) (N : List Mark) (P : List (List Instr)) (C : List Choice) (st : Stage) (l : List (List ℕ)) (ls : List (List (List ℕ))) (u t : Seen)
    → ChoiceStep (at st b N P [] [] C) l u → ((D : List Choice) → length D ≤ 4096 → fold_lines (at stage.Choices b N P [] [] D) ls ≡ Ok t
    → FoundChoices b N P D ls t)
    → fold_lines u ls ≡ Ok t → FoundChoices b N P C (l ∷ ls) t
choice_more b N P C st l ls u t step ih h =
    let d = step.3 in
    let more = replicate d.made.times d.made.choice in
    let rest = ih (C ++ more) (omega (arith, d.few, length-append C more, length-replicate d.made.times d.made.choice)) (rw d.after at h) in
    record {
      choices = d.made ∷ rest.choices;
      spelled = (rw step.2 d.spelled, rest.spelled);
      named = named_times (length P) d.made.times d.made.choice (repeated rest.choices) d.named rest.named;
      few = rw append_assoc at rest.few;
      same = rest.same ∙ ap (at stage.Done b N P [] []) (append_assoc C more (repeated rest.choices));
    }

-- where the line is the end line, no choice follows
end_here : (b : Base) (N : List Mark) (P : List (List Instr)) (C : List Choice) (st : Stage) (l : List (List ℕ)) (ls : List (List (List ℕ))) (u t : Seen)
    → length C ≤ 4096
    → EndStep (at st b N P [] [] C) l u → fold_lines u ls ≡ Ok t → FoundChoices b N P C (l ∷ ls) t
end_here b N P C st l ls u t few step h =
    let d = done_only b N P C ls t (rw step.1 at h) in
    record {
      choices = [];
      spelled = rw d.0 (step.0, tt);
      named = tt;
      few = rw append-nil few;
      same = d.1 ∙ ap (at stage.Done b N P [] []) (sym (append-nil C));
    }

-- lines that are read from the first choice on spell choices and the end
found_choices : (ls : List (List (List ℕ))) (b : Base) (N : List Mark) (P : List (List Instr)) (C : List Choice) (t : Seen) → AreBelow (length P) N
    → length C ≤ 4096
    → fold_lines (at stage.Choices b N P [] [] C) ls ≡ Ok t → FoundChoices b N P C ls t
found_choices [] b N P C t low few h = cc
found_choices (l ∷ ls) b N P C t low few h =
    let a = bind_ok (body_line (at stage.Choices b N P [] [] C) l) (λ u. fold_lines u ls) t h in
    elim (below_ok b N P C l a.0 low a.1) [
      | inl d ↦ choice_more b N P C stage.Choices l ls a.0 t d (λ D f g. found_choices ls b N P D t low f g) a.2
      | inr e ↦ end_here b N P C stage.Choices l ls a.0 t few e a.2
    ]

-- ---- programs

-- the instructions of each program that is written
abbrev pub bodies : List Written → List (List Instr)
bodies ps = map (λ (p : Written). instrs_of p.body) ps

-- what the programs, from number k on, and the choices are
pub record Rest (b : Base) (N : List Mark) (k : ℕ) (P : List (List Instr)) (t : Seen) : Type 0 where
  pub programs : List Written
  pub choices : List Times
  pub headed : Headed k programs
  pub new : AreNew N (names_of k programs)
  pub labelled : Labelled programs
  pub few : length (P ++ bodies programs) ≤ 64
  pub named : AreNamed (length (P ++ bodies programs)) (repeated choices)
  pub known : AreKnown b.version (P ++ bodies programs)
  pub few_choices : length (repeated choices) ≤ 4096
  pub same : t ≡ at stage.Done b (N ++ names_of k programs) (P ++ bodies programs) [] [] (repeated choices)

-- the statements of such programs and choices
abbrev pub following : List Mark → ℕ → List Written → List Times → List Statement
following N k ps cs = flat_map program_statements ps ++ choice_statements (N ++ names_of k ps) cs

-- what follows, and the lines that spell it
abbrev pub Follows : Base → List Mark → ℕ → List (List Instr) → List Line → List (List (List ℕ)) → Seen → Type 0
Follows b N k P body ls t = (r : Rest b N k P t) × SpellBody body (following N k r.programs r.choices) ls

-- what follows behind the programs so far, where none is open
abbrev pub FoundNext : Base → List Mark → List (List Instr) → List (List (List ℕ)) → Seen → Type 0
FoundNext b N P ls t = Follows b N (length P) P [] ls t

-- what the lines inside a program spell: its lines that are left, the whole program, and what follows it
pub record FoundInside (b : Base) (N : List Mark) (P : List (List Instr)) (M : List Mark) (O : List Pending) (ls : List (List (List ℕ)))
    (t : Seen) : Type 0 where
  pub body : List Line
  pub program : List Instr
  pub new : AreNew M (marks (length O) body)
  pub resolves : all_resolved (M ++ marks (length O) body) (O ++ pendings body) ≡ Ok program
  pub follows : Follows b N (length P + 1) (P ++ program ∷ []) body ls t

-- the programs are over
no_more : (b : Base) (N : List Mark) (P : List (List Instr)) (ls : List (List (List ℕ))) (t : Seen) → length P ≤ 64 → AreKnown b.version P
    → FoundChoices b N P [] ls t → FoundNext b N P ls t
no_more b N P ls t few known f = (
  record {
    programs = [];
    choices = f.choices;
    headed = tt;
    new = tt;
    labelled = tt;
    few = rw append-nil few;
    named = rw append-nil f.named;
    known = rw append-nil known;
    few_choices = f.few;
    same = f.same ∙ rw (append-nil, append-nil) refl;
  },
  subst (λ (x : List Mark). SpellEach (choice_statements x f.choices) ls) (sym (append-nil N)) f.spelled,
)

-- a program more
one_more : (b : Base) (N : List Mark) (P : List (List Instr)) (l : List (List ℕ)) (ls : List (List (List ℕ))) (u t : Seen) (d : TxnStep b N P l u)
    → FoundInside b (N ++ name_in d.head (length P)) P [] [] ls t → FoundNext b N P (l ∷ ls) t
one_more b N P l ls u t d f =
    let n = length P in
    let r = f.follows.0 in
    let one = name_in d.head n in
    let names : N ++ one ++ names_of (n + 1) r.programs ≡ N ++ (one ++ names_of (n + 1) r.programs) = append_assoc N one (names_of (n + 1) r.programs) in
    let c = coded (marks 0 f.body) f.body f.program (following (N ++ one) (n + 1) r.programs r.choices) ls f.resolves f.follows.1 in
    let all : P ++ f.program ∷ [] ++ bodies r.programs ≡ P ++ (instrs_of c.codes ∷ bodies r.programs) =
    append_assoc P (f.program ∷ []) (bodies r.programs) ∙ ap (λ (x : List Instr). P ++ (x ∷ bodies r.programs)) (sym c.instrs) in (
      record {
        programs = record { head = d.head; body = c.codes } ∷ r.programs;
        choices = r.choices;
        headed = (d.kind, r.headed);
        new = new_name N d.head n (names_of (n + 1) r.programs) d.new r.new;
        labelled = (rw (c.same 0) f.new, r.labelled);
        few = subst (λ (x : List (List Instr)). length x ≤ 64) all r.few;
        named = subst (λ (x : List (List Instr)). AreNamed (length x) (repeated r.choices)) all r.named;
        known = subst (AreKnown b.version) all r.known;
        few_choices = r.few_choices;
        same = r.same ∙ ap (λ (x : List Mark). at stage.Done b x (P ++ f.program ∷ [] ++ bodies r.programs) [] [] (repeated r.choices)) names
            ∙ ap (λ (x : List (List Instr)). at stage.Done b (N ++ (one ++ names_of (n + 1) r.programs)) x [] [] (repeated r.choices)) all;
      },
      (d.spelled, lines c.codes r.programs r.choices names (c.same 0) c.spelled),
    )
  where
    lines : (codes : List Code) (ps : List Written) (cs : List Times) → N ++ name_in d.head (length P) ++ names_of (length P + 1) ps ≡ N
        ++ (name_in d.head (length P) ++ names_of (length P + 1) ps) → labels_of 0 codes ≡ marks 0 f.body
        → SpellEach (map (m.code (marks 0 f.body)) codes ++ following (N ++ name_in d.head (length P)) (length P + 1) ps cs) ls
        → SpellEach (map (m.code (labels_of 0 codes)) codes ++ flat_map program_statements ps
        ++ choice_statements (N ++ (name_in d.head (length P) ++ names_of (length P + 1) ps)) cs) ls
    lines codes ps cs names labels h =
        subst (λ xs. SpellEach xs ls)
        (sym (append_assoc (map (m.code (labels_of 0 codes)) codes) (flat_map program_statements ps)
        (choice_statements (N ++ (name_in d.head (length P) ++ names_of (length P + 1) ps)) cs)))
        (subst (λ (x : List Mark). SpellEach (map (m.code (labels_of 0 codes)) codes ++ (flat_map program_statements ps ++ choice_statements x cs)) ls) names
        (subst (λ (x : List Mark). SpellEach (map (m.code x) codes ++ following (N ++ name_in d.head (length P)) (length P + 1) ps cs) ls) (sym labels) h))

-- what is shown of the lines ls, in each state that has no choice and no row more
pub record Found (ls : List (List (List ℕ))) (t : Seen) : Type 0 where
  pub inside : (b : Base) (N : List Mark) (P : List (List Instr)) (M : List Mark) (O : List Pending) → length P < 64 → AreBelow (length P + 1) N
      → AllFit b.version O → AreKnown b.version P
      → fold_lines (at stage.Program b N P M O []) ls ≡ Ok t → FoundInside b N P M O ls t

-- where what is below is found, a line between programs that is read is found with it
pub next_line : (b : Base) (N : List Mark) (P : List (List Instr)) (l : List (List ℕ)) (ls : List (List (List ℕ))) (u t : Seen) → length P ≤ 64
    → AreBelow (length P) N → AreKnown b.version P → Found ls t
    → Next b N P l u → fold_lines u ls ≡ Ok t → FoundNext b N P (l ∷ ls) t
next_line b N P l ls u t few low known ih n h =
    elim n [
      | inl d ↦
          one_more b N P l ls u t d (ih.inside b (N ++ name_in d.head (length P)) P [] [] d.few (below_name (length P) N d.head low) tt known (rw d.after at h))
      | inr x ↦ elim x [
        | inl d ↦ no_more b N P (l ∷ ls) t few known (choice_more b N P [] stage.Rows l ls u t d (λ D f g. found_choices ls b N P D t low f g) h)
        | inr d ↦ no_more b N P (l ∷ ls) t few known (end_here b N P [] stage.Rows l ls u t (omega arith) d h)
      ]
    ]

-- a line of the open program, in front of what is found inside it, is one line more of the program
code_more : (b : Base) (N : List Mark) (P : List (List Instr)) (M : List Mark) (O : List Pending) (l : List (List ℕ)) (ls : List (List (List ℕ))) (u t : Seen)
    (d : CodeStep b N P M O l u)
    → FoundInside b N P (M ++ label_at d.line.label (length O)) (O ++ pending_in d.line.pending) ls t → FoundInside b N P M O (l ∷ ls) t
code_more b N P M O l ls u t d f =
    let mk = label_at d.line.label (length O) in
    let oo = pending_in d.line.pending in
    let len : length (O ++ oo) ≡ length O + length oo = length-append O oo in
    let me : M ++ mk ++ marks (length (O ++ oo)) f.body ≡ M ++ (mk ++ marks (length O + length oo) f.body) =
    ap (λ n. M ++ mk ++ marks n f.body) len ∙ append_assoc M mk (marks (length O + length oo) f.body) in
    let oe : O ++ oo ++ pendings f.body ≡ O ++ (oo ++ pendings f.body) = append_assoc O oo (pendings f.body) in
    let step : all_resolved (M ++ (mk ++ marks (length O + length oo) f.body)) (O ++ oo ++ pendings f.body) ≡ Ok f.program =
    subst (λ (x : List Mark). all_resolved x (O ++ oo ++ pendings f.body) ≡ Ok f.program) me f.resolves in
    record {
      body = d.line ∷ f.body;
      program = f.program;
      new = new_label M d.line.label (length O) (marks (length O + length oo) f.body) d.new (subst (λ n. AreNew (M ++ mk) (marks n f.body)) len f.new);
      resolves = subst (λ (x : List Pending). all_resolved (M ++ (mk ++ marks (length O + length oo) f.body)) x ≡ Ok f.program) oe step;
      follows = (f.follows.0, (d.spelled, f.follows.1));
    }

-- where the program is closed, it has no line more, and what is found next follows it
close_here : (b : Base) (N : List Mark) (P : List (List Instr)) (M : List Mark) (O : List Pending) (ls : List (List (List ℕ))) (t : Seen) (p : List Instr)
    → all_resolved M O ≡ Ok p
    → FoundNext b N (P ++ p ∷ []) ls t → FoundInside b N P M O ls t
close_here b N P M O ls t p e f = record {
  body = [];
  program = p;
  new = tt;
  resolves = rw (append-nil M, append-nil O) e;
  follows = subst (λ n. Follows b N n (P ++ p ∷ []) [] ls t) (length-append P (p ∷ [])) f;
}

-- where what is below is found, a line inside a program that is read is found with it
inside_line : (b : Base) (N : List Mark) (P : List (List Instr)) (M : List Mark) (O : List Pending) (l : List (List ℕ)) (ls : List (List (List ℕ))) (u t : Seen)
    → length P < 64 → AreBelow (length P + 1) N → AllFit b.version O → AreKnown b.version P → Found ls t
    → body_line (at stage.Program b N P M O []) l ≡ Ok u → fold_lines u ls ≡ Ok t → FoundInside b N P M O (l ∷ ls) t
inside_line b N P M O l ls u t few low fit known ih e h =
    elim (inside_ok b N P M O l u low e) [
      | inl d ↦
          code_more b N P M O l ls u t d (ih.inside b N P (M ++ label_at d.line.label (length O)) (O ++ pending_in d.line.pending) few low
          (all_fit-append b.version O (pending_in d.line.pending) fit d.fits) known (rw d.after at h))
      | inr x ↦
          let n : length (P ++ x.program ∷ []) ≡ length P + 1 = length-append P (x.program ∷ []) in
          close_here b N P M O (l ∷ ls) t x.program x.resolves (next_line b N (P ++ x.program ∷ []) l ls u t (omega (arith, few, n))
          (subst (λ k. AreBelow k N) (sym n) low)
          (program_more b.version P x.program known (all_known b.version M O x.program fit x.resolves)) ih x.next h)
    ]

-- lines that are read in any open program are found to be the lines of that program and what follows it
pub found_all : (ls : List (List (List ℕ))) (t : Seen) → Found ls t
found_all [] t = record { inside = λ b N P M O few low fit known h. cc }
found_all (l ∷ ls) t =
    let ih = found_all ls t in
    record {
      inside = λ b N P M O few low fit known h. let a = bind_ok (body_line (at stage.Program b N P M O []) l) (λ u. fold_lines u ls) t h in
          inside_line b N P M O l ls a.0 t few low fit known ih a.1 a.2;
    }
