-- What is read is meant.
use Rattle.std.proofs.Common.{◌≡◌, ℕ, ◌+◌, ◌<◌, ◌≤◌, true, false, List, [], ◌∷◌, ◌++◌, length, map, codes, Ok, Some, None, refl, sym, ap, ◌∙◌, subst, inl, inr}
use Rattle.std.proofs.Common.{arith, append_assoc, append-nil, length-append, ok_or}
use Rattle.std.specs.Str.{bytes_eq}
use Rattle.zy_isa.proofs.VersionLemmas.{named_is as version_is}
use Rattle.zy_isa.specs.declared.version.Version.{Version}
use Rattle.zy_isa.specs.Versions.{named as version_named}
use Rattle.zy_isa.specs.declared.rule.Rule.{Rule}
use Rattle.zy_isa.specs.declared.rule.Rule.TheVariants.{Held, Loose}
use Rattle.zy_isa.specs.declared.row.Row.{Row}
use Rattle.zy_text.specs.Words.{number_of}
use Rattle.zy_text.specs.Canon.{rule_text}
use Rattle.zy_isa.specs.Rows.{misplaced_row}
use Rattle.zy_isa.specs.Scenario.{Scenario, opening_pages_for, scenario_fault}
use Rattle.zy_text.specs.Text as m
use Rattle.zy_text.specs.Text.{Draft, Spells, SpellEach, names_of, IsDraftOf, repeated, statements}
use Rattle.zy_asm.specs.declared.faults.AsmKind.TheVariants as kinds
use Rattle.zy_asm.specs.declared.state.Stage.TheVariants as stage
use Rattle.zy_asm.specs.Steps.{number_in}
use Rattle.zy_isa.specs.Rows.{last_row, is_low}
use Rattle.zy_asm.specs.Reading.Progress.{Seen}
use Rattle.zy_asm.specs.Reading.HeadLines.{header_value, rule_of}
use Rattle.zy_asm.specs.Reading.{body_line, step, nothing_seen}
use Rattle.zy_isa.proofs.RowLemmas.{order_more}
use Rattle.zy_isa.proofs.ScenarioLemmas.{no_fault}
use Rattle.zy_isa.proofs.ResultLemmas.{bind_ok, if_ok, chosen_by, same, ok_or_ok}
use Rattle.zy_asm.proofs.SpellLemmas.{number_in_ok}
use Rattle.zy_asm.proofs.FoundSteps.{Base, base, at, top, fold_lines, rows_ok}
use Rattle.zy_asm.proofs.FoundPrograms.{bodies, Rest, following, FoundNext, next_line, found_all}

-- ---- rows

-- the rows so far are in order and have their places
record Placed (b : Base) : Type 0 where
  few : length b.rows ≤ 256
  few_pages : opening_pages_for b.cap (length b.rows) ≤ b.pages
  in_order : misplaced_row b.rows ≡ None

-- a row more that there is room for, with a key above the last, leaves the rows in order and in their places
placed_more : (b : Base) (r : Row) → Placed b → length b.rows < 256 → opening_pages_for b.cap (length b.rows + 1) ≤ b.pages
    → is_low r.key (last_row b.rows) ≡ false → Placed (record b { rows = b.rows ++ r ∷ [] })
placed_more b r h few pages low =
    let e : length (b.rows ++ r ∷ []) ≡ length b.rows + 1 = length-append b.rows (r ∷ []) in
    record {
      few = omega (arith, e, few);
      few_pages = subst (λ n. opening_pages_for b.cap n ≤ b.pages) (sym e) pages;
      in_order = order_more b.rows r h.in_order low;
    }

-- what the rows from here on are, and what follows them
record FoundRows (b : Base) (ls : List (List (List ℕ))) (t : Seen) : Type 0 where
  rows : List Row
  rest : Rest (record b { rows = b.rows ++ rows }) [] 0 [] t
  placed : Placed (record b { rows = b.rows ++ rows })
  spelled : SpellEach (map m.row rows ++ following [] 0 rest.programs rest.choices) ls

-- a line that spells a row, in front of lines that are found to be rows and the rest, is one row more
row_more : (b : Base) (r : Row) (l : List (List ℕ)) (ls : List (List (List ℕ))) (t : Seen) → Spells (m.row r) l
    → FoundRows (record b { rows = b.rows ++ r ∷ [] }) ls t → FoundRows b (l ∷ ls) t
row_more b r l ls t s f =
    let e : b.rows ++ r ∷ [] ++ f.rows ≡ b.rows ++ (r ∷ f.rows) = append_assoc b.rows (r ∷ []) f.rows in
    let both : (q : Rest (record b { rows = b.rows ++ (r ∷ f.rows) }) [] 0 [] t) × SpellEach (map m.row f.rows ++ following [] 0 q.programs q.choices) ls =
    subst (λ x. (q : Rest (record b { rows = x }) [] 0 [] t) × SpellEach (map m.row f.rows ++ following [] 0 q.programs q.choices) ls) e (f.rest, f.spelled) in
    record { rows = r ∷ f.rows; rest = both.0; placed = subst (λ x. Placed (record b { rows = x })) e f.placed; spelled = (s, both.1) }

-- where no row is left, what follows is the rest
rows_over : (b : Base) (ls : List (List (List ℕ))) (t : Seen) → Placed b → FoundNext b [] [] ls t → FoundRows b ls t
rows_over b ls t placed f =
    let e = sym (append-nil b.rows) in
    let both : (q : Rest (record b { rows = b.rows ++ [] }) [] 0 [] t) × SpellEach (following [] 0 q.programs q.choices) ls =
    subst (λ x. (q : Rest (record b { rows = x }) [] 0 [] t) × SpellEach (following [] 0 q.programs q.choices) ls) e f in
    record { rows = []; rest = both.0; placed = subst (λ x. Placed (record b { rows = x })) e placed; spelled = both.1 }

-- lines that are read from the rows on are rows and then programs and choices, which they spell
found_rows : (ls : List (List (List ℕ))) (b : Base) (t : Seen) → Placed b → fold_lines (top stage.Rows b [] []) ls ≡ Ok t → FoundRows b ls t
found_rows [] b t placed h = cc
found_rows (l ∷ ls) b t placed h =
    let a = bind_ok (body_line (top stage.Rows b [] []) l) (λ u. fold_lines u ls) t h in
    elim (rows_ok b l a.0 a.1) [
      | inl d ↦
          row_more b d.line l ls t d.spelled (found_rows ls (record b { rows = b.rows ++ d.line ∷ [] }) t
          (placed_more b d.line placed d.few d.few_pages d.rises)
          (rw d.after at a.2))
      | inr n ↦ rows_over b (l ∷ ls) t placed (next_line b [] [] l ls a.0 t (omega arith) tt tt (found_all ls t) n a.2)
    ]

-- ---- the header

-- a header line that is read has its name and one word behind it
header_value_ok : (ws : List (List ℕ)) (name w : List ℕ) → header_value ws name ≡ Ok w → ws ≡ name ∷ w ∷ []
header_value_ok [] name w h = cc
header_value_ok (x ∷ []) name w h = cc
header_value_ok (x ∷ v ∷ []) name w h =
    let p = if_ok (bytes_eq x name) (Ok v) kinds.Header w h in
    let e : v ≡ w = cc (p.1) in
    rw (same x name p.0, e) refl
header_value_ok (x ∷ v ∷ y ∷ ys) name w h = cc

-- a word that is equal to that of the rule found is that rule's
this_rule : (w : List ℕ) (a r : Rule) → bytes_eq w (rule_text a) ≡ true → Some a ≡ Some r → w ≡ rule_text r
this_rule w a r e h = let q : a ≡ r = cc in same w (rule_text a) e ∙ ap rule_text q

-- a word that is read as a rule is that rule's
rule_ok : (w : List ℕ) (r : Rule) → rule_of w ≡ Some r → w ≡ rule_text r
rule_ok w r h =
    elim (chosen_by (bytes_eq w (codes "held")) _ _ _ h) [
      | inl a ↦ this_rule w Held r a.0 a.1
      | inr a ↦
          elim (chosen_by (bytes_eq w (codes "loose")) _ _ _ a.1) [ inl b ↦ this_rule w Loose r b.0 b.1 | inr b ↦ absurd (no r b.1) ]
    ]
  where
    no : (x : Rule) → None ≡ Some x → ⊥
    no x e = cc

-- what the lines from that of the rule on spell: the rule, and what the rows and the rest are
record FoundRule (v : Version) (c p : ℕ) (ls : List (List (List ℕ))) (t : Seen) : Type 0 where
  rule : Rule
  line : List (List ℕ)
  more : List (List (List ℕ))
  lines : ls ≡ line ∷ more
  spelled : Spells (m.rule rule) line
  rows : FoundRows (base v c p rule []) more t

-- lines that are read from that of the rule on spell the rule and the rest
found_rule : (ls : List (List (List ℕ))) (v : Version) (c p : ℕ) (t : Seen) → 1 ≤ p → fold_lines (top stage.Rule (base v c p Held []) [] []) ls ≡ Ok t
    → FoundRule v c p ls t
found_rule [] v c p t least h = cc
found_rule (l ∷ ls) v c p t least h =
    let k = bind_ok (step (top stage.Rule (base v c p Held []) [] []) l) (λ u. fold_lines u ls) t h in
    let a = bind_ok (header_value l (codes "rule")) _ k.0 k.1 in
    let r = bind_ok (ok_or (rule_of a.0) kinds.Header) _ k.0 a.2 in
    let e : k.0 ≡ top stage.Rows (base v c p r.0 []) [] [] = cc (r.2) in
    let none : Placed (base v c p r.0 []) = record { few = omega arith; few_pages = least; in_order = refl } in
    record {
      rule = r.0;
      line = l;
      more = ls;
      lines = refl;
      spelled = header_value_ok l (codes "rule") a.0 a.1 ∙ ap (λ (w : List ℕ). codes "rule" ∷ w ∷ []) (rule_ok a.0 r.0 (ok_or_ok (rule_of a.0) kinds.Header r.0 r.1));
      rows = found_rows ls (base v c p r.0 []) t none (rw e at k.2);
    }

-- a line of the header with a number
record Number (name : List ℕ) (low high : ℕ) (line : List (List ℕ)) (n : ℕ) : Type 0 where
  word : List ℕ
  spelled : line ≡ name ∷ word ∷ []
  number : number_of word ≡ Some n
  least : low ≤ n
  most : n ≤ high

-- a header line that is read as a number in its range has that number
number_line : (l : List (List ℕ)) (name w : List ℕ) (a b n : ℕ) → header_value l name ≡ Ok w → number_in w a b ≡ Ok n → Number name a b l n
number_line l name w a b n h g =
    let q = number_in_ok w a b n g in
    record { word = w; spelled = header_value_ok l name w h; number = q.0; least = q.1; most = q.2 }

-- what the lines from that of the pages on spell: the number of pages, and the rest
record FoundPages (v : Version) (c : ℕ) (ls : List (List (List ℕ))) (t : Seen) : Type 0 where
  pages : ℕ
  line : List (List ℕ)
  more : List (List (List ℕ))
  lines : ls ≡ line ∷ more
  number : Number (codes "pages") 1 512 line pages
  rule : FoundRule v c pages more t

-- lines that are read from that of the pages on spell that number and the rest
found_pages : (ls : List (List (List ℕ))) (v : Version) (c : ℕ) (t : Seen) → fold_lines (top stage.Pages (base v c 1 Held []) [] []) ls ≡ Ok t
    → FoundPages v c ls t
found_pages [] v c t h = cc
found_pages (l ∷ ls) v c t h =
    let k = bind_ok (step (top stage.Pages (base v c 1 Held []) [] []) l) (λ u. fold_lines u ls) t h in
    let a = bind_ok (header_value l (codes "pages")) _ k.0 k.1 in
    let n = bind_ok (number_in a.0 1 512) _ k.0 a.2 in
    let e : k.0 ≡ top stage.Rule (base v c n.0 Held []) [] [] = cc (n.2) in
    let q = number_line l (codes "pages") a.0 1 512 n.0 a.1 n.1 in
    record { pages = n.0; line = l; more = ls; lines = refl; number = q; rule = found_rule ls v c n.0 t q.least (rw e at k.2) }

-- what the lines from that of the cap on spell: the cap, and the rest
record FoundCap (v : Version) (ls : List (List (List ℕ))) (t : Seen) : Type 0 where
  cap : ℕ
  line : List (List ℕ)
  more : List (List (List ℕ))
  lines : ls ≡ line ∷ more
  number : Number (codes "cap") 2 16 line cap
  pages : FoundPages v cap more t

-- lines that are read from that of the cap on spell the cap and the rest
found_cap : (ls : List (List (List ℕ))) (v : Version) (t : Seen) → fold_lines (top stage.Cap (base v 2 1 Held []) [] []) ls ≡ Ok t → FoundCap v ls t
found_cap [] v t h = cc
found_cap (l ∷ ls) v t h =
    let k = bind_ok (step (top stage.Cap (base v 2 1 Held []) [] []) l) (λ u. fold_lines u ls) t h in
    let a = bind_ok (header_value l (codes "cap")) _ k.0 k.1 in
    let n = bind_ok (number_in a.0 2 16) _ k.0 a.2 in
    let e : k.0 ≡ top stage.Pages (base v n.0 1 Held []) [] [] = cc (n.2) in
    record {
      cap = n.0;
      line = l;
      more = ls;
      lines = refl;
      number = number_line l (codes "cap") a.0 2 16 n.0 a.1 n.1;
      pages = found_pages ls v n.0 t (rw e at k.2);
    }

-- ---- the whole text

-- the state at the end shows the scenario
abbrev pub shows : Seen → Scenario
shows t = record { version = t.version; cap = t.cap; pages = t.pages; rule = t.rule; rows = t.rows; programs = t.programs; choices = t.choices }

-- lines that spell the statements of a draft of the scenario that the state shows, which has no fault; the draft's names are the state's
pub record FoundText (ls : List (List (List ℕ))) (t : Seen) : Type 0 where
  pub draft : Draft
  pub drafts : IsDraftOf draft (shows t)
  pub names : t.names ≡ names_of 0 draft.programs
  pub spelled : SpellEach (statements (shows t) draft) ls
  pub tested : scenario_fault (shows t) ≡ None

-- a line of the version, and lines that spell the rest of the header and what follows, are such a text
whole : (a : List (List ℕ)) (ls : List (List (List ℕ))) (v : Version) (t : Seen) → Spells (m.zephyr v) a → FoundCap v ls t → FoundText (a ∷ ls) t
whole a ls v t z f =
    let g = f.pages in
    let i = g.rule in
    let j = i.rows in
    let r = j.rest in
    let lines : ls ≡ f.line ∷ g.line ∷ i.line ∷ i.more = f.lines ∙ ap (λ x. f.line ∷ x) (g.lines ∙ ap (λ x. g.line ∷ x) i.lines) in
    let u = at stage.Done (base v f.cap g.pages i.rule j.rows) (names_of 0 r.programs) (bodies r.programs) [] [] (repeated r.choices) in
    let all : FoundText (a ∷ f.line ∷ g.line ∷ i.line ∷ i.more) u = record {
      draft = record { programs = r.programs; choices = r.choices };
      drafts = record { programs = refl; choices = refl; headed = r.headed; names_new = r.new; labelled = r.labelled };
      names = refl;
      spelled = (z, ((f.number.word, f.number.spelled, f.number.number), ((g.number.word, g.number.spelled, g.number.number), (i.spelled, j.spelled))));
      tested = no_fault (shows u) f.number.least f.number.most g.number.least g.number.most j.placed.few j.placed.few_pages j.placed.in_order r.few
          r.few_choices r.named r.known;
    } in
    subst (λ x. FoundText (a ∷ x) t) (sym lines) (subst (FoundText (a ∷ f.line ∷ g.line ∷ i.line ∷ i.more)) (sym r.same) all)

-- lines with words that are read from the beginning on are such a text
pub found_text : (ls : List (List (List ℕ))) (t : Seen) → fold_lines nothing_seen ls ≡ Ok t → FoundText ls t
found_text [] t h = cc
found_text (l ∷ ls) t h =
    let k = bind_ok (step nothing_seen l) (λ u. fold_lines u ls) t h in
    let a = bind_ok (header_value l (codes "zephyr")) _ k.0 k.1 in
    let v = bind_ok (ok_or (version_named a.0) kinds.Header) _ k.0 a.2 in
    let is = version_is a.0 v.0 (ok_or_ok (version_named a.0) kinds.Header v.0 v.1) in
    let e : k.0 ≡ top stage.Cap (base v.0 2 1 Held []) [] [] = cc (v.2) in
    whole l ls v.0 t (header_value_ok l (codes "zephyr") a.0 a.1 ∙ ap (λ (w : List ℕ). codes "zephyr" ∷ w ∷ []) is) (found_cap ls v.0 t (rw e at k.2))
