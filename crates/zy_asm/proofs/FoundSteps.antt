-- What one line that is read means.
use Rattle.std.proofs.Common.{◌≡◌, ℕ, ◌+◌, ◌<◌, ◌≤◌, Bool, true, false, List, [], ◌∷◌, ◌++◌, length, codes, Result, Ok, Err, Option, Some, None, is_some}
use Rattle.std.proofs.Common.{if◌then◌else◌, refl, sym, ap, ◌∙◌, subst, inl, inr, ◌⊎◌, append-nil, length-append, nat_le, nat_lt, ok_or}
use Rattle.zy_isa.specs.declared.version.Version.{Version}
use Rattle.zy_isa.specs.declared.rule.Rule.{Rule}
use Rattle.zy_isa.specs.declared.row.Row.{Row}
use Rattle.zy_isa.specs.declared.instr.Instr.{Instr}
use Rattle.zy_isa.specs.declared.program.ProgramFault.{ProgramFault}
use Rattle.zy_isa.specs.declared.operation.Operation.{Operation}
use Rattle.zy_isa.specs.declared.choice.Choice.{Choice}
use Rattle.zy_isa.specs.declared.node.Actor.{Actor}
use Rattle.zy_isa.specs.Operations.{is_of, mnemonic}
use Rattle.zy_text.specs.Words.{number_of}
use Rattle.zy_text.specs.Names.{Mark, is_name, place, AreNew, label_of}
use Rattle.zy_isa.specs.Programs.{program_fault}
use Rattle.zy_isa.specs.Scenario.{opening_pages_for}
use Rattle.zy_text.specs.Text as m
use Rattle.zy_text.specs.Text.{Spells, label_at, name_in}
use Rattle.zy_asm.specs.declared.faults.AsmKind.{AsmKind}
use Rattle.zy_asm.specs.declared.faults.AsmKind.TheVariants as kinds
use Rattle.zy_asm.specs.declared.choices.Action.{Action}
use Rattle.zy_asm.specs.declared.choices.Action.TheVariants.{Txn, Plain}
use Rattle.zy_asm.specs.declared.reading.keyword.Keyword.{Keyword}
use Rattle.zy_asm.specs.declared.reading.keyword.Keyword.TheVariants as k
use Rattle.zy_asm.specs.declared.state.Stage.{Stage}
use Rattle.zy_asm.specs.declared.state.Stage.TheVariants as stage
use Rattle.zy_isa.specs.Results.{◌>>=◌}
use Rattle.zy_asm.specs.Pending.{Pending, all_resolved, checked_instrs, program_of}
use Rattle.zy_asm.specs.Instructions.{instr_of}
use Rattle.zy_asm.specs.Choices.{action_of}
use Rattle.zy_isa.specs.Rows.{last_row, is_low}
use Rattle.zy_asm.specs.Reading.Progress.{Seen}
use Rattle.zy_asm.specs.Reading.Keywords.{keyword_of}
use Rattle.zy_asm.specs.Reading.RowLines.{row_of, is_full, add_row, row_at}
use Rattle.zy_asm.specs.Reading.ProgramLines.{instr_line, note_label, labelled_instr, behind_label, label_line, head_line}
use Rattle.zy_asm.specs.Reading.ProgramLines.{open_line}
use Rattle.zy_asm.specs.Reading.ChoiceLines.{action_line, choice_line, end_line}
use Rattle.zy_asm.specs.Reading.{statement, line_led_by, body_line, step, finish}
use Rattle.zy_isa.proofs.ResultLemmas.{bind_ok, if_ok, if_err, neither, below, not_over}
use Rattle.zy_asm.proofs.SpellLemmas.{actor_word, keyword_ok, SpellsPending, instr_ok, row_ok, not_some, head_ok, AreBelow, Chose, choice_ok}
use Rattle.zy_text.proofs.LabelLemmas.{label_ok}
use Rattle.zy_asm.proofs.DraftLemmas.{Line, SpellsLine, pending_in}
use Rattle.zy_asm.proofs.FitLemmas.{FitsIn, AllFit, spelled_fits}

-- what the header and the rows gave
pub record Base : Type 0 where
  pub version : Version
  pub cap : ℕ
  pub pages : ℕ
  pub rule : Rule
  pub rows : List Row

-- what these parts of the header and these rows gave
abbrev pub base : Version → ℕ → ℕ → Rule → List Row → Base
base v c p r R = record { version = v; cap = c; pages = p; rule = r; rows = R }

-- a state
abbrev pub at : Stage → Base → List Mark → List (List Instr) → List Mark → List Pending → List Choice → Seen
at st b N P M O C = record {
  stage = st;
  version = b.version;
  cap = b.cap;
  pages = b.pages;
  rule = b.rule;
  rows = b.rows;
  names = N;
  programs = P;
  labels = M;
  instrs = O;
  choices = C;
}

-- a state between programs
abbrev pub top : Stage → Base → List Mark → List (List Instr) → Seen
top st b N P = at st b N P [] [] []

-- the lines with words, without their numbers
abbrev pub fold_lines : Seen → List (List (List ℕ)) → Result Seen AsmKind
fold_lines s [] = finish s
fold_lines s (l ∷ ls) = step s l >>= λ t. fold_lines t ls

-- ---- a line that closes the programs, or goes on below them

-- what a line did that opens a program: its head is its number or a new name, and a program is open
pub record TxnStep (b : Base) (N : List Mark) (P : List (List Instr)) (ws : List (List ℕ)) (t : Seen) : Type 0 where
  pub head : List ℕ
  pub spelled : Spells (m.txn head) ws
  pub kind : (is_name head ≡ true) ⊎ (number_of head ≡ Some (length P))
  pub new : AreNew N (name_in head (length P))
  pub few : length P < 64
  pub after : t ≡ top stage.Program b (N ++ name_in head (length P)) P

-- a line `txn` that is read opens a program
txn_step : (st : Stage) (b : Base) (N : List Mark) (P : List (List Instr)) (ws : List (List ℕ)) (t : Seen) → open_line (top st b N P) ws ≡ Ok t
    → TxnStep b N P (codes "txn" ∷ ws) t
txn_step st b N P [] t h = cc
txn_step st b N P (w ∷ []) t h =
    let a = bind_ok (head_line (top st b N P) w) _ t h in
    let g = head_ok (top st b N P) w a.0 a.1 in
    let d = if_err (nat_le 64 (length a.0.programs)) _ kinds.Count t a.2 in
    let few : length a.0.programs < 64 = below (length a.0.programs) 64 d.0 in
    let e : t ≡ record a.0 { stage = stage.Program } = cc (d.1) in
    record {
      head = w;
      spelled = refl;
      kind = g.kind;
      new = g.new;
      few = subst (λ (u : Seen). length u.programs < 64) g.after few;
      after = e ∙ ap (λ (u : Seen). record u { stage = stage.Program }) g.after;
    }
txn_step st b N P (w ∷ v ∷ ws) t h = cc

-- what the end line did
abbrev pub EndStep : Seen → List (List ℕ) → Seen → Type 0
EndStep s ws t = (ws ≡ codes "end" ∷ []) × (t ≡ record s { stage = stage.Done })

-- a line `end` that is read is that word alone, and nothing follows it
end_step : (s : Seen) (ws : List (List ℕ)) (t : Seen) → end_line s ws ≡ Ok t → EndStep s (codes "end" ∷ ws) t
end_step s [] t h = (refl, cc)
end_step s (w ∷ ws) t h = cc

-- a choice, with its first word
abbrev pub ChoiceStep : Seen → List (List ℕ) → Seen → Type 0
ChoiceStep s ws t = (a : Actor) × (rest : List (List ℕ)) × (ws ≡ actor_word a ∷ rest) × Chose s a rest t

-- words behind equal first words are equal lines
first : (w a : List ℕ) (ws : List (List ℕ)) → w ≡ a → w ∷ ws ≡ a ∷ ws
first w a ws e = ap (λ x. x ∷ ws) e

-- a label is in a program alone
no_label : {Q : Type 0} (b : Bool) (t : Seen) → (if b then Err kinds.Order else Err kinds.Word) ≡ Ok t → Q
no_label true t h = cc
no_label false t h = cc

-- ---- a line among the rows

-- what the line of a row did: its key is above the last, there is room for it, and it is put last
pub record RowStep (b : Base) (ws : List (List ℕ)) (t : Seen) : Type 0 where
  pub line : Row
  pub spelled : Spells (m.row line) ws
  pub few : length b.rows < 256
  pub few_pages : opening_pages_for b.cap (length b.rows + 1) ≤ b.pages
  pub rises : is_low line.key (last_row b.rows) ≡ false
  pub after : t ≡ top stage.Rows (record b { rows = b.rows ++ line ∷ [] }) [] []

-- a line `row` that is read is a row more
row_step : (b : Base) (ws : List (List ℕ)) (t : Seen) → row_at stage.Rows (top stage.Rows b [] []) ws ≡ Ok t → RowStep b (codes "row" ∷ ws) t
row_step b ws t h =
    let a = bind_ok (row_of ws) (add_row (top stage.Rows b [] [])) t h in
    let f = if_err (is_full (top stage.Rows b [] [])) _ kinds.Count t a.2 in
    let d = if_err (is_low a.0.key (last_row b.rows)) _ kinds.Order t f.1 in
    let n = neither (nat_le 256 (length b.rows)) (nat_lt b.pages (opening_pages_for b.cap (length b.rows + 1))) f.0 in
    record { line = a.0; spelled = row_ok ws a.0 a.1; few = below (length b.rows) 256 n.0; few_pages = not_over _ b.pages n.1; rises = d.0; after = cc (d.1) }

-- a line between programs: it opens a program, or is a choice, or is the end line
abbrev pub Next : Base → List Mark → List (List Instr) → List (List ℕ) → Seen → Type 0
Next b N P ws t = TxnStep b N P ws t ⊎ (ChoiceStep (top stage.Rows b N P) ws t ⊎ EndStep (top stage.Rows b N P) ws t)

-- a line below the programs: it is a choice or the end line
abbrev pub Below : Seen → List (List ℕ) → Seen → Type 0
Below s ws t = ChoiceStep s ws t ⊎ EndStep s ws t

-- a line that is read among the rows is a row, or opens a program, or is a choice or the end line
pub rows_ok : (b : Base) (ws : List (List ℕ)) (t : Seen) → body_line (top stage.Rows b [] []) ws ≡ Ok t → RowStep b ws t ⊎ Next b [] [] ws t
rows_ok b [] t h = cc
rows_ok b (w ∷ ws) t h = split (label_of w) h
  where
    by : (o : Option Keyword) → keyword_of b.version w ≡ o → statement o (top stage.Rows b [] []) ws ≡ Ok t → RowStep b (w ∷ ws) t ⊎ Next b [] [] (w ∷ ws) t
    by None e g = cc
    by (Some k.Header) e g = cc
    by (Some k.Row) e g = inl (rw (keyword_ok b.version w k.Row e) (row_step b ws t g))
    by (Some k.Txn) e g = inr (inl (rw (keyword_ok b.version w k.Txn e) (txn_step stage.Rows b [] [] ws t g)))
    by (Some (k.Instr o)) e g = cc
    by (Some (k.Choice a)) e g =
        inr (inr (inl (a, ws, first w (actor_word a) ws (keyword_ok b.version w (k.Choice a) e), choice_ok (top stage.Rows b [] []) t a ws tt g)))
    by (Some k.End) e g = inr (inr (inr (rw (keyword_ok b.version w k.End e) (end_step (top stage.Rows b [] []) ws t g))))

    split : (o : Option (List ℕ)) → line_led_by o (top stage.Rows b [] []) w ws ≡ Ok t → RowStep b (w ∷ ws) t ⊎ Next b [] [] (w ∷ ws) t
    split None g = by (keyword_of b.version w) refl g
    split (Some v) g = no_label (is_name v) t g

-- ---- a line inside a program is a line of it, or it closes it

-- what a line of the open program did: its label is new, and its label and its instruction are put last
pub record CodeStep (b : Base) (N : List Mark) (P : List (List Instr)) (M : List Mark) (O : List Pending) (ws : List (List ℕ)) (t : Seen) : Type 0 where
  pub line : Line
  pub spelled : SpellsLine line ws
  pub new : AreNew M (label_at line.label (length O))
  pub fits : AllFit b.version (pending_in line.pending)
  pub after : t ≡ at stage.Program b N P (M ++ label_at line.label (length O)) (O ++ pending_in line.pending) []

-- what the line of an instruction did: it is of the version, and it is put last
pub record InstrStep (s : Seen) (ws : List (List ℕ)) (t : Seen) : Type 0 where
  pub pending : Pending
  pub spelled : SpellsPending pending ws
  pub fits : FitsIn s.version pending
  pub after : t ≡ record s { instrs = s.instrs ++ pending ∷ [] }

-- an operation of the version that is read with the words behind it is an instruction
instr_step : (s : Seen) (o : Operation) (ws : List (List ℕ)) (t : Seen) → is_of s.version o ≡ true → instr_line s o ws ≡ Ok t → InstrStep s (mnemonic o ∷ ws) t
instr_step s o ws t known h =
    let a = bind_ok (instr_of o ws) _ t h in
    let b = if_err (nat_le 64 (length s.instrs)) _ kinds.Count t a.2 in
    let spelled = instr_ok o ws a.0 a.1 in
    record { pending = a.0; spelled = spelled; fits = spelled_fits s.version o ws a.0 known spelled; after = cc (b.1) }

-- a line that begins with an operation, and is read in an open program, is a line without a label
plain_line : (b : Base) (N : List Mark) (P : List (List Instr)) (M : List Mark) (O : List Pending) (o : Operation) (w : List ℕ) (ws : List (List ℕ)) (t : Seen)
    → (w ≡ mnemonic o) × (is_of b.version o ≡ true)
    → instr_line (at stage.Program b N P M O []) o ws ≡ Ok t → CodeStep b N P M O (w ∷ ws) t
plain_line b N P M O o w ws t e h =
    let p = instr_step (at stage.Program b N P M O []) o ws t e.1 h in
    record {
      line = record { label = None; pending = Some p.pending };
      spelled = ([], w ∷ ws, refl, refl, rw e.0 p.spelled);
      new = tt;
      fits = (p.fits, tt);
      after = p.after ∙ ap (λ x. at stage.Program b N P x (O ++ p.pending ∷ []) []) (sym (append-nil M));
    }

-- a line that begins with a new label and an operation behind it is a line with both
labelled_line : (b : Base) (N : List Mark) (P : List (List Instr)) (M : List Mark) (O : List Pending) (v : List ℕ) (o : Operation) (w x : List ℕ)
    (ws : List (List ℕ)) (t : Seen)
    → x ≡ v ++ 58 ∷ [] → is_name v ≡ true → place v M ≡ None → (w ≡ mnemonic o) × (is_of b.version o ≡ true)
    → instr_line (at stage.Program b N P (M ++ (v, length O) ∷ []) O []) o ws ≡ Ok t → CodeStep b N P M O (x ∷ w ∷ ws) t
labelled_line b N P M O v o w x ws t q n new e h =
    let p = instr_step (at stage.Program b N P (M ++ (v, length O) ∷ []) O []) o ws t e.1 h in
    record {
      line = record { label = Some v; pending = Some p.pending };
      spelled = (x ∷ [], w ∷ ws, refl, (ap (λ y. y ∷ []) q, n), rw e.0 p.spelled);
      new = (new, tt);
      fits = (p.fits, tt);
      after = p.after;
    }

-- a line that begins with a label, and is read in an open program, is a line of that program
label_step : (b : Base) (N : List Mark) (P : List (List Instr)) (M : List Mark) (O : List Pending) (v x : List ℕ) (ws : List (List ℕ)) (t : Seen)
    → x ≡ v ++ 58 ∷ [] → label_line (at stage.Program b N P M O []) v ws ≡ Ok t → CodeStep b N P M O (x ∷ ws) t
label_step b N P M O v x ws t q h =
    let a = if_ok (is_name v) _ kinds.Word t h in
    let d = bind_ok (note_label (at stage.Program b N P M O []) v) (λ u. behind_label u ws) t a.1 in
    let f = if_err (is_some (place v M)) _ kinds.Label d.0 d.1 in
    let e : at stage.Program b N P (M ++ (v, length O) ∷ []) O [] ≡ d.0 = cc (f.1) in
    rest ws a.0 (not_some (place v M) f.0) (ap (λ u. behind_label u ws) e ∙ d.2)
  where
    by : (w : List ℕ) (vs : List (List ℕ)) (o : Option Keyword) → keyword_of b.version w ≡ o → is_name v ≡ true → place v M ≡ None
        → labelled_instr o (at stage.Program b N P (M ++ (v, length O) ∷ []) O []) vs ≡ Ok t → CodeStep b N P M O (x ∷ w ∷ vs) t
    by w vs None e n new g = cc
    by w vs (Some k.Header) e n new g = cc
    by w vs (Some k.Row) e n new g = cc
    by w vs (Some k.Txn) e n new g = cc
    by w vs (Some (k.Instr o)) e n new g = labelled_line b N P M O v o w x vs t q n new (keyword_ok b.version w (k.Instr o) e) g
    by w vs (Some (k.Choice y)) e n new g = cc
    by w vs (Some k.End) e n new g = cc

    rest : (vs : List (List ℕ)) → is_name v ≡ true → place v M ≡ None → behind_label (at stage.Program b N P (M ++ (v, length O) ∷ []) O []) vs ≡ Ok t
        → CodeStep b N P M O (x ∷ vs) t
    rest [] n new g = record {
      line = record { label = Some v; pending = None };
      spelled = (x ∷ [], [], refl, (ap (λ y. y ∷ []) q, n), refl);
      new = (new, tt);
      fits = tt;
      after = (let e : t ≡ at stage.Program b N P (M ++ (v, length O) ∷ []) O [] = cc in e)
          ∙ ap (λ y. at stage.Program b N P (M ++ (v, length O) ∷ []) y []) (sym (append-nil O));
    }
    rest (w ∷ vs) n new g = by w vs (keyword_of b.version w) refl n new g

-- instructions that are judged without a fault stay as they are
checked_instrs_ok : (o : Option ProgramFault) (is p : List Instr) → checked_instrs o is ≡ Ok p → p ≡ is
checked_instrs_ok None is p h = cc
checked_instrs_ok (Some f) is p h = cc

-- a program that is closed is its instructions, resolved with its labels
program_ok : (M : List Mark) (O : List Pending) (p : List Instr) → program_of M O ≡ Ok p → all_resolved M O ≡ Ok p
program_ok M O p h =
    let a = bind_ok (all_resolved M O) _ p h in
    a.1 ∙ ap Ok (sym (checked_instrs_ok (program_fault a.0) a.0 p a.2))

-- the open program is closed
pub record Closing (M : List Mark) (O : List Pending) (t : Seen) (f : List Instr → Seen) (g : Seen → Result Seen AsmKind) : Type 0 where
  pub program : List Instr
  pub resolves : all_resolved M O ≡ Ok program
  pub after : g (f program) ≡ Ok t

-- a step that closes the program first, and is read, closes it and then does the rest
closing : (M : List Mark) (O : List Pending) (t : Seen) (f : List Instr → Seen) (g : Seen → Result Seen AsmKind)
    → ((program_of M O >>= λ p. Ok (f p)) >>= g) ≡ Ok t → Closing M O t f g
closing M O t f g h =
    let a = bind_ok (program_of M O >>= λ p. Ok (f p)) g t h in
    let b = bind_ok (program_of M O) (λ p. Ok (f p)) a.0 a.1 in
    let e : f b.0 ≡ a.0 = cc (b.2) in
    record { program = b.0; resolves = program_ok M O b.0 b.1; after = ap g e ∙ a.2 }

-- an action is read alike below the programs and below the rows
action_same : (b : Base) (N : List Mark) (P : List (List Instr)) (x : Action) (ws : List (List ℕ))
    → action_line (top stage.Choices b N P) x ws ≡ action_line (top stage.Rows b N P) x ws
action_same b N P (Txn x) [] = refl
action_same b N P (Txn x) (w ∷ ws) = refl
action_same b N P (Plain x) ws = refl

-- a choice is read alike below the programs and below the rows
pub choice_same : (b : Base) (N : List Mark) (P : List (List Instr)) (a : Actor) (ws : List (List ℕ))
    → choice_line (top stage.Choices b N P) a ws ≡ choice_line (top stage.Rows b N P) a ws
choice_same b N P a [] = refl
choice_same b N P a (w ∷ ws) = by (action_of a w)
  where
    by : (o : Option Action) → (ok_or o kinds.Word >>= λ x. action_line (top stage.Choices b N P) x ws)
        ≡ (ok_or o kinds.Word >>= λ x. action_line (top stage.Rows b N P) x ws)
    by None = refl
    by (Some x) = action_same b N P x ws

-- so is the end line
end_same : (b : Base) (N : List Mark) (P : List (List Instr)) (vs : List (List ℕ)) (t : Seen) → end_line (top stage.Choices b N P) vs ≡ Ok t
    → end_line (top stage.Rows b N P) vs ≡ Ok t
end_same b N P [] t x = x
end_same b N P (v ∷ vs) t x = x

-- a program is closed with this line below it
pub record Closed (b : Base) (N : List Mark) (P : List (List Instr)) (M : List Mark) (O : List Pending) (ws : List (List ℕ)) (t : Seen) : Type 0 where
  pub program : List Instr
  pub resolves : all_resolved M O ≡ Ok program
  pub next : Next b N (P ++ program ∷ []) ws t

-- a line that is read inside a program: a line of it, or one that closes it
abbrev pub Inside : Base → List Mark → List (List Instr) → List Mark → List Pending → List (List ℕ) → Seen → Type 0
Inside b N P M O ws t = CodeStep b N P M O ws t ⊎ Closed b N P M O ws t

-- a line that is read inside a program is a line of it or closes it
pub inside_ok : (b : Base) (N : List Mark) (P : List (List Instr)) (M : List Mark) (O : List Pending) (ws : List (List ℕ)) (t : Seen)
    → AreBelow (length P + 1) N
    → body_line (at stage.Program b N P M O []) ws ≡ Ok t → Inside b N P M O ws t
inside_ok b N P M O [] t low h = cc
inside_ok b N P M O (w ∷ ws) t low h = split (label_of w) refl h
  where
    low_after : (p : List Instr) → AreBelow (length (P ++ p ∷ [])) N
    low_after p = subst (λ n. AreBelow n N) (sym (length-append P (p ∷ []))) low

    by : (o : Option Keyword) → keyword_of b.version w ≡ o → statement o (at stage.Program b N P M O []) ws ≡ Ok t → Inside b N P M O (w ∷ ws) t
    by None e g = cc
    by (Some k.Header) e g = cc
    by (Some k.Row) e g = cc
    by (Some k.Txn) e g =
        let q = closing M O t (λ p. top stage.Choices b N (P ++ p ∷ [])) (λ u. open_line u ws) g in
        inr
        (record {
          program = q.program;
          resolves = q.resolves;
          next = inl (rw (keyword_ok b.version w k.Txn e) (txn_step stage.Choices b N (P ++ q.program ∷ []) ws t q.after));
        })
    by (Some (k.Instr o)) e g = inl (plain_line b N P M O o w ws t (keyword_ok b.version w (k.Instr o) e) g)
    by (Some (k.Choice a)) e g =
        let q = closing M O t (λ p. top stage.Choices b N (P ++ p ∷ [])) (λ u. choice_line u a ws) g in
        let s = top stage.Rows b N (P ++ q.program ∷ []) in
        let made = choice_ok s t a ws (low_after q.program) (sym (choice_same b N (P ++ q.program ∷ []) a ws) ∙ q.after) in
        inr
        (record {
          program = q.program;
          resolves = q.resolves;
          next = inr (inl (a, ws, first w (actor_word a) ws (keyword_ok b.version w (k.Choice a) e), made));
        })
    by (Some k.End) e g =
        let q = closing M O t (λ p. top stage.Choices b N (P ++ p ∷ [])) (λ u. end_line u ws) g in
        let s = top stage.Rows b N (P ++ q.program ∷ []) in
        inr
        (record {
          program = q.program;
          resolves = q.resolves;
          next = inr (inr (rw (keyword_ok b.version w k.End e) (end_step s ws t (end_same b N (P ++ q.program ∷ []) ws t q.after))));
        })

    split : (o : Option (List ℕ)) → label_of w ≡ o → line_led_by o (at stage.Program b N P M O []) w ws ≡ Ok t → Inside b N P M O (w ∷ ws) t
    split None e g = by (keyword_of b.version w) refl g
    split (Some v) e g = inl (label_step b N P M O v w ws t (label_ok w v e) g)

-- ---- a line below a choice

-- a line that is read below a choice is a choice or the end line
pub below_ok : (b : Base) (N : List Mark) (P : List (List Instr)) (C : List Choice) (ws : List (List ℕ)) (t : Seen) → AreBelow (length P) N
    → body_line (at stage.Choices b N P [] [] C) ws ≡ Ok t → Below (at stage.Choices b N P [] [] C) ws t
below_ok b N P C [] t low h = cc
below_ok b N P C (w ∷ ws) t low h = split (label_of w) h
  where
    by : (o : Option Keyword) → keyword_of b.version w ≡ o → statement o (at stage.Choices b N P [] [] C) ws ≡ Ok t
        → Below (at stage.Choices b N P [] [] C) (w ∷ ws) t
    by None e g = cc
    by (Some k.Header) e g = cc
    by (Some k.Row) e g = cc
    by (Some k.Txn) e g = cc
    by (Some (k.Instr o)) e g = cc
    by (Some (k.Choice a)) e g = inl (
      a,
      ws,
      first w (actor_word a) ws (keyword_ok b.version w (k.Choice a) e),
      choice_ok (at stage.Choices b N P [] [] C) t a ws low g,
    )
    by (Some k.End) e g = inr (rw (keyword_ok b.version w k.End e) (end_step (at stage.Choices b N P [] [] C) ws t g))

    split : (o : Option (List ℕ)) → line_led_by o (at stage.Choices b N P [] [] C) w ws ≡ Ok t → Below (at stage.Choices b N P [] [] C) (w ∷ ws) t
    split None g = by (keyword_of b.version w) refl g
    split (Some v) g = no_label (is_name v) t g
