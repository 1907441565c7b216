-- Orders of lines, and ways along the logs: the choices of one are the other.
use Rattle.std.proofs.Common.{◌≡◌, ◌∙◌, ◌⊎◌, ℕ, inl, inr, List, [], ◌∷◌, ◌++◌, length, refl, sym, ap, subst, Bool, true, Option, None, Some}
use Rattle.std.specs.Prelude.{if◌then◌else◌}
use Rattle.zy_isa.specs.declared.node.Actor.{Actor}
use Rattle.zy_isa.specs.declared.node.Actor.TheVariants.{C, A, B}
use Rattle.zy_isa.specs.declared.choice.Choice.{Choice}
use Rattle.zy_isa.specs.declared.node.Node.{Node}
use Rattle.zy_isa.specs.declared.node.Node.TheVariants as node
use Rattle.zy_isa.specs.declared.version.Version.{Version}
use Rattle.zy_isa.specs.Choices.{actor_of, actor_at, names_below}
use Rattle.zy_isa.specs.Scenario.{Scenario}
use Rattle.zy_table.specs.declared.observation.Observation.{Observation}
use Rattle.zy_table.specs.State.{State}
use Rattle.zy_table.specs.Play.{step}
use Rattle.zy_threads.specs.Turns.{is_c, is_a, is_b}
use Rattle.zy_logs.specs.declared.log_line.LogLine.{LogLine}
use Rattle.zy_logs.specs.Agrees.{Agrees}
use Rattle.zy_order.specs.declared.logs.Logs.{Logs}
use Rattle.zy_order.specs.declared.cursors.Cursor.{Cursor}
use Rattle.zy_order.specs.declared.cursors.Cursors.{Cursors}
use Rattle.zy_order.specs.declared.tellers.Tellers.{Tellers}
use Rattle.zy_order.specs.declared.tellers.Tellers.TheVariants.{One, Both}
use Rattle.zy_order.specs.Gaps.{gaps_of, unlogged, IsMissing}
use Rattle.zy_order.specs.Twins.{AreTwins, HasTwin}
use Rattle.zy_order.specs.Orders.{ToldStep, Agree, AreOne, AreWhole, Fits, lines_in, lines_of, lines_told, choices_told}
use Rattle.zy_table.specs.Observations.{observation_at}
use Rattle.zy_order.specs.Ways.{log_of, cursor_of, cursor, passed, filled, with_cursor, advanced, advanced_by, with_missing}
use Rattle.zy_order.specs.Ways.{IsNextLine, ComeBy, HasGap, IsWithin, Leads, IsWay, AreLinesOf}
use Rattle.zy_order.proofs.GapLemmas.{Ahead, ahead_less, ahead_none, ahead_line, ahead_missing, ahead_next, at_end}
use Rattle.zy_order.proofs.WayLemmas.{HaveGaps, is_in, no_client, node_beside, on_by, on_line}

-- ---- one actor among three

-- whether two actors are the same
abbrev pub is_same : Actor → Actor → Bool
is_same C y = is_c y
is_same A y = is_a y
is_same B y = is_b y

-- the lines of x among one line and others
pub lines_cons : (x : Actor) (line : LogLine) (lines : List LogLine)
    → lines_of x (line ∷ lines) ≡ (if is_same x line.log then line ∷ lines_of x lines else lines_of x lines)
lines_cons C line lines = refl
lines_cons A line lines = refl
lines_cons B line lines = refl

-- lines complete an actor's log from cursors on, up to others
abbrev pub IsAhead : ℕ → Logs → Cursors → Cursors → Actor → List LogLine → Type 0
IsAhead count l g to x lines = Ahead count x (log_of x l) (gaps_of x l.gaps) (cursor_of x g) (cursor x to) lines

-- the lines of x behind a step of y: before it, they are the step's line, if it is of x, and these
with_line : (count : ℕ) (x y : Actor) (l : Logs) (g to : Cursors) (k : Cursor) (line : LogLine) (lines : List LogLine)
    → (Ahead count y (log_of y l) (gaps_of y l.gaps) k (cursor y to) lines → IsAhead count l g to y (line ∷ lines))
    → IsAhead count l (with_cursor y k g) to x lines → IsAhead count l g to x (if is_same x y then line ∷ lines else lines)
with_line count C C l g to k line lines own a = own a
with_line count C A l g to k line lines own a = a
with_line count C B l g to k line lines own a = a
with_line count A C l g to k line lines own a = a
with_line count A A l g to k line lines own a = own a
with_line count A B l g to k line lines own a = a
with_line count B C l g to k line lines own a = a
with_line count B A l g to k line lines own a = a
with_line count B B l g to k line lines own a = own a

-- the lines of x behind a step of a line in y's log
line_ahead : (count : ℕ) (x y : Actor) (l : Logs) (g to : Cursors) (line : LogLine) (lines : List LogLine) → HaveGaps l → IsWithin l g
    → IsNextLine y l g line → IsAhead count l (advanced y g) to x lines → IsAhead count l g to x (if is_same x y then line ∷ lines else lines)
line_ahead count x y l g to line lines many w next a =
    with_line count x y l g to (passed (cursor_of y g)) line lines
    (ahead_line count y (log_of y l) (gaps_of y l.gaps) (cursor_of y g) (cursor y to) line lines (many y) (is_in y l g w) next) a

-- ---- from a way to an order

-- the numbers of a scenario's transactions are below this
abbrev count_of : Scenario → ℕ
count_of sc = length sc.programs

-- the log of each actor
abbrev pub logs_in : Logs → Actor → List LogLine
logs_in l x = log_of x l

-- steps whose lines complete each log from cursors on, fit a state, and have these choices
pub record IsOrderOf (sc : Scenario) (l : Logs) (g to : Cursors) (s : State) (cs : List Choice) (order : List ToldStep) : Type 0 where
  pub ahead : (x : Actor) → IsAhead (length sc.programs) l g to x (lines_of x (lines_told order))
  pub fits : Fits sc (logs_in l) s order
  pub choices : cs ≡ choices_told order

-- a step that leads on, as its lines tell it: they are whole and agree with it, and lie before the lines behind it
pub record IsToldBy (sc : Scenario) (l : Logs) (g next to : Cursors) (o : Observation) (told : ToldStep) : Type 0 where
  pub choice : told.line.choice ≡ o.entry.choice
  pub whole : AreWhole sc.version (logs_in l) told.line told.other
  pub agree : Agree told.line told.other o
  pub before : (x : Actor) (rest : List LogLine) → IsAhead (length sc.programs) l next to x (lines_of x rest)
      → IsAhead (length sc.programs) l g to x (lines_of x (lines_in told ++ rest))

-- a line before others
line_before : (count : ℕ) (x y : Actor) (l : Logs) (g to : Cursors) (line : LogLine) (rest : List LogLine) → line.log ≡ y
    → IsAhead count l g to x (if is_same x y then line ∷ lines_of x rest else lines_of x rest) → IsAhead count l g to x (lines_of x (line ∷ rest))
line_before count x y l g to line rest log a =
    subst (IsAhead count l g to x) (sym (lines_cons x line rest))
    (subst (λ (z : Actor). IsAhead count l g to x (if is_same x z then line ∷ lines_of x rest else lines_of x rest)) (sym log) a)

-- a line of which only the choice is known has no twin
no_twin : (v : Version) (line other : LogLine) → line ≡ unlogged line.choice → AreTwins v line other → ⊥
no_twin v line other is twins =
    let none : None ≡ Some twins.first.what = sym (ap (λ (m : LogLine). m.told) is) ∙ twins.first.told in absurd (cc none)

module _ (sc : Scenario) (l : Logs) (g to : Cursors) (many : HaveGaps l) (w : IsWithin l g)
    (are : (x : Actor) → AreLinesOf (length sc.programs) x (log_of x l)) where
  -- the next line of a log stands in it
  stands : (y : Actor) (k : Cursors) (line : LogLine) → IsNextLine y l k line → line.log ≡ y
  stands y k line next = (are y (cursor y k) line next).log

  -- lines that come next are whole
  come_whole : (by : Tellers) (line : LogLine) (other : Option LogLine) → ComeBy by sc.version l g line other
      → AreWhole sc.version (logs_in l) line other
  come_whole (One y) line None come = come.alone
  come_whole (One y) line (Some other) come = absurd come
  come_whole (Both n) line None come = absurd come
  come_whole (Both n) line (Some other) come =
      record { node = n; client = stands C g line come.client; stands = stands (actor_at n) g other come.node; may = come.may }

  -- they lie before the lines behind their step
  come_before : (by : Tellers) (line : LogLine) (other : Option LogLine) → ComeBy by sc.version l g line other → (x : Actor) (rest : List LogLine)
      → IsAhead (count_of sc) l (advanced_by by g) to x (lines_of x rest)
      → IsAhead (count_of sc) l g to x (lines_of x (lines_in (record { line = line; other = other }) ++ rest))
  come_before (One y) line None come x rest a =
      line_before (count_of sc) x y l g to line rest (stands y g line come.next) (line_ahead (count_of sc) x y l g to line (lines_of x rest) many w come.next a)
  come_before (One y) line (Some other) come x rest a = absurd come
  come_before (Both n) line None come x rest a = absurd come
  come_before (Both n) line (Some other) come x rest a =
      let y = actor_at n in
      let k = advanced C g in
      let next = node_beside n l g other come.node in
      let second = line_before (count_of sc) x y l k to other rest (stands y k other next)
      (line_ahead (count_of sc) x y l k to other (lines_of x rest) many (on_line C l g line many w come.client).within next a) in
      line_before (count_of sc) x C l g to line (other ∷ rest) (stands C g line come.client)
      (line_ahead (count_of sc) x C l g to line (lines_of x (other ∷ rest)) many w come.client second)

  -- no line tells what comes once, if its step is missing
  unlogged_alone : (c : Choice) → HasTwin sc.version (logs_in l) (unlogged c) → ⊥
  unlogged_alone c twin = no_twin sc.version (unlogged c) twin.1.1 refl twin.1.4

  -- each step that leads on is told by some
  told_by_lead : (next : Cursors) (o : Observation) → Leads sc l g o next → (told : ToldStep) × IsToldBy sc l g next to o told
  told_by_lead next o leads = elim leads [
    | inl by ↦
        let lines = by.0.lines in (
          record { line = lines.line; other = lines.other },
          record {
            choice = by.0.choice;
            whole = come_whole lines.by lines.line lines.other by.0.next;
            agree = by.0.agree;
            before = λ x rest a.
                come_before lines.by lines.line lines.other by.0.next x rest (subst (λ (f : Cursors). IsAhead (count_of sc) l f to x (lines_of x rest)) by.1 a);
          },
        )
    | inr by ↦
        let y = actor_of o.entry.choice in
        let line = unlogged o.entry.choice in (
          record { line = line; other = None },
          record {
            choice = refl;
            whole = unlogged_alone o.entry.choice;
            agree = ((tt, tt, tt, tt, inl refl), tt);
            before = λ x rest a.
                line_before (count_of sc) x y l g to line rest refl
                (with_line (count_of sc) x y l g to (filled (cursor_of y g)) line (lines_of x rest)
                (ahead_missing (count_of sc) y (log_of y l) (gaps_of y l.gaps) (cursor_of y g) (cursor y to) line (lines_of x rest)
                (record { is = refl; actor = refl; named = by.0.named }))
                (subst (λ (f : Cursors). IsAhead (count_of sc) l f to x (lines_of x rest)) by.1 a));
          },
        )
  ]

-- the choices of a way are those of an order of the lines between its ends
pub order_of : (sc : Scenario) (l : Logs) (g to : Cursors) (s : State) (cs : List Choice) → HaveGaps l → IsWithin l g
    → ((x : Actor) → AreLinesOf (length sc.programs) x (log_of x l)) → IsWay sc l g s cs to
    → (order : List ToldStep) × IsOrderOf sc l g to s cs order
order_of sc l g to s [] many w are way = (
  [],
  record {
    ahead = λ x.
        subst (λ (f : Cursors). IsAhead (length sc.programs) l g f x []) way
        (ahead_none (length sc.programs) x (log_of x l) (gaps_of x l.gaps) (cursor_of x g) (many x) (is_in x l g w));
    fits = tt;
    choices = refl;
  },
)
order_of sc l g to s (c ∷ cs) many w are way =
    let next = way.0 in
    let o = observation_at sc s c in
    let on = on_by sc l g o next many w way.1 in
    let rest = order_of sc l next to (step sc c s).after cs many on.within are way.2 in
    let first = told_by_lead sc l g to many w are next o way.1 in
    let x = first.0 in
    let is = first.1 in
    let behind : Agree x.line x.other (observation_at sc s x.line.choice) × Fits sc (logs_in l) (step sc x.line.choice s).after rest.0 =
    subst (λ (d : Choice). Agree x.line x.other (observation_at sc s d) × Fits sc (logs_in l) (step sc d s).after rest.0) (sym is.choice)
    (is.agree, rest.1.fits) in (
      x ∷ rest.0,
      record {
        ahead = λ y. is.before y (lines_told rest.0) (rest.1.ahead y);
        fits = (is.whole, behind.0, behind.1);
        choices = λ i. sym is.choice i ∷ rest.1.choices i;
      },
    )

-- ---- from an order to a way

-- the first step of an order leads on, and the lines behind it are ahead from there
pub record LeadsOn (sc : Scenario) (l : Logs) (g to : Cursors) (o : Observation) (rest : List LogLine) : Type 0 where
  pub next : Cursors
  pub leads : Leads sc l g o next
  pub ahead : (x : Actor) → IsAhead (length sc.programs) l next to x (lines_of x rest)

-- the lines of x behind a step of y
behind_line : (count : ℕ) (x y : Actor) (l : Logs) (g to : Cursors) (k : Cursor) (line : LogLine) (lines : Actor → List LogLine)
    → ((z : Actor) → IsAhead count l g to z (if is_same z y then line ∷ lines z else lines z))
    → Ahead count y (log_of y l) (gaps_of y l.gaps) k (cursor y to) (lines y) → IsAhead count l (with_cursor y k g) to x (lines x)
behind_line count C C l g to k line lines before own = own
behind_line count C A l g to k line lines before own = before C
behind_line count C B l g to k line lines before own = before C
behind_line count A C l g to k line lines before own = before A
behind_line count A A l g to k line lines before own = own
behind_line count A B l g to k line lines before own = before A
behind_line count B C l g to k line lines before own = before B
behind_line count B A l g to k line lines before own = before B
behind_line count B B l g to k line lines before own = own

-- y's own lines begin with its line
own_line : (count : ℕ) (y : Actor) (l : Logs) (g to : Cursors) (line : LogLine) (lines : List LogLine)
    → IsAhead count l g to y (if is_same y y then line ∷ lines else lines)
    → IsAhead count l g to y (line ∷ lines)
own_line count C l g to line lines a = a
own_line count A l g to line lines a = a
own_line count B l g to line lines a = a

-- the first of some lines is the next one of y's log, and the others are ahead from there
record FirstIsLine (count : ℕ) (y : Actor) (l : Logs) (g to : Cursors) (line : LogLine) (rest : List LogLine) : Type 0 where
  pub next : IsNextLine y l g line
  pub ahead : (x : Actor) → IsAhead count l (advanced y g) to x (lines_of x rest)

-- it is of a step that is missing from y's log, and the others are ahead behind that
record FirstIsMissing (count : ℕ) (y : Actor) (l : Logs) (g to : Cursors) (line : LogLine) (rest : List LogLine) : Type 0 where
  pub gap : HasGap y l g
  pub missing : IsMissing count y line
  pub ahead : (x : Actor) → IsAhead count l (with_missing y g) to x (lines_of x rest)

-- there is no other
first_of : (count : ℕ) (y : Actor) (l : Logs) (g to : Cursors) (line : LogLine) (rest : List LogLine) → line.log ≡ y
    → ((x : Actor) → IsAhead count l g to x (lines_of x (line ∷ rest)))
    → FirstIsLine count y l g to line rest ⊎ FirstIsMissing count y l g to line rest
first_of count y l g to line rest log ahead =
    let before : (x : Actor) → IsAhead count l g to x (if is_same x y then line ∷ lines_of x rest else lines_of x rest) = λ x.
    subst (λ (z : Actor). IsAhead count l g to x (if is_same x z then line ∷ lines_of x rest else lines_of x rest)) log
    (subst (IsAhead count l g to x) (lines_cons x line rest) (ahead x)) in
    let own = own_line count y l g to line (lines_of y rest) (before y) in
    elim (ahead_next count y (log_of y l) (gaps_of y l.gaps) (cursor_of y g) (cursor y to) line (lines_of y rest) own) [
      | inl by ↦ inl (record {
        next = by.next;
        ahead = λ x. behind_line count x y l g to (passed (cursor_of y g)) line (λ z. lines_of z rest) before by.goes_on;
      })
      | inr by ↦ inr (record {
        gap = by.gap;
        missing = by.missing;
        ahead = λ x. behind_line count x y l g to (filled (cursor_of y g)) line (λ z. lines_of z rest) before by.goes_on;
      })
    ]

-- what is ahead behind a missing step of the client and a line of a node is ahead behind the line alone
without_missing : (count : ℕ) (n : Node) (x : Actor) (l : Logs) (g to : Cursors) (lines : List LogLine)
    → IsAhead count l (advanced (actor_at n) (with_missing C g)) to x lines → IsAhead count l (advanced (actor_at n) g) to x lines
without_missing count node.A C l g to lines a = ahead_less count C l.c.items l.gaps.c.items g.c to.c.lines lines a
without_missing count node.A A l g to lines a = a
without_missing count node.A B l g to lines a = a
without_missing count node.B C l g to lines a = ahead_less count C l.c.items l.gaps.c.items g.c to.c.lines lines a
without_missing count node.B A l g to lines a = a
without_missing count node.B B l g to lines a = a

-- a node's line that is next behind a line of the client is next before it
node_first : (n : Node) (l : Logs) (g : Cursors) (line : LogLine) → IsNextLine (actor_at n) l (advanced C g) line → IsNextLine (actor_at n) l g line
node_first node.A l g line next = next
node_first node.B l g line next = next

-- so is one behind a missing step of the client
node_before : (n : Node) (l : Logs) (g : Cursors) (line : LogLine) → IsNextLine (actor_at n) l (with_missing C g) line → IsNextLine (actor_at n) l g line
node_before node.A l g line next = next
node_before node.B l g line next = next

module _ (sc : Scenario) (l : Logs) (are : (x : Actor) → AreLinesOf (length sc.programs) x (log_of x l)) (g to : Cursors) (o : Observation)
    (rest : List LogLine) where
  -- a line that comes alone leads on
  one_leads : (line : LogLine) → line.choice ≡ o.entry.choice → (HasTwin sc.version (logs_in l) line → ⊥) → Agree line None o
      → ((x : Actor) → IsAhead (count_of sc) l g to x (lines_of x (line ∷ rest))) → LeadsOn sc l g to o rest
  one_leads line same alone agree ahead =
      let y = line.log in
      elim (first_of (count_of sc) y l g to line rest refl ahead) [
        | inl first ↦ record {
          next = advanced y g;
          leads = inl (
            record { lines = record { by = One y; line = line; other = None }; next = record { next = first.next; alone = alone }; choice = same; agree = agree },
            refl,
          );
          ahead = first.ahead;
        }
        | inr first ↦
            let own : y ≡ actor_of o.entry.choice = sym first.missing.actor ∙ ap actor_of same in
            record {
              next = with_missing y g;
              leads = inr (
                record {
                  named = subst (λ (d : Choice). names_below (count_of sc) d ≡ true) same first.missing.named;
                  gap = subst (λ (z : Actor). HasGap z l g) own first.gap;
                },
                ap (λ (z : Actor). with_missing z g) own,
              );
              ahead = first.ahead;
            }
      ]

  module _ (line other : LogLine) (one : AreOne sc.version (logs_in l) line other) (same : line.choice ≡ o.entry.choice) where
    abbrev n : Node
    n = one.node

    -- the choice of two lines is the client's, so the second is of no missing step of a node
    not_missing : actor_of line.choice ≡ C → IsMissing (count_of sc) (actor_at n) other → ⊥
    not_missing client missing = no_client n (sym client ∙ (ap actor_of one.may.choice ∙ missing.actor))

    -- two lines that come next lead on
    both_lead : Agree line (Some other) o → FirstIsLine (count_of sc) C l g to line (other ∷ rest) → FirstIsLine (count_of sc) (actor_at n) l (advanced C g) to other rest
        → LeadsOn sc l g to o rest
    both_lead agree first second = record {
      next = advanced (actor_at n) (advanced C g);
      leads = inl (
        record {
          lines = record { by = Both n; line = line; other = Some other };
          next = record { client = first.next; node = node_first n l g other second.next; may = one.may };
          choice = same;
          agree = agree;
        },
        refl,
      );
      ahead = second.ahead;
    }

    -- where the first is of a missing step, the second leads on alone
    second_leads : Agrees other o → IsMissing (count_of sc) C line → FirstIsLine (count_of sc) (actor_at n) l (with_missing C g) to other rest → LeadsOn sc l g to o rest
    second_leads agrees missing second = record {
      next = advanced (actor_at n) g;
      leads = inl (
        record {
          lines = record { by = One (actor_at n); line = other; other = None };
          next = record {
            next = node_before n l g other second.next;
            alone = λ twin. no_twin sc.version line other missing.is (one.may.whole twin);
          };
          choice = sym one.may.choice ∙ same;
          agree = (agrees, tt);
        },
        refl,
      );
      ahead = λ x. without_missing (count_of sc) n x l g to (lines_of x rest) (second.ahead x);
    }

    -- so two lines that are one lead on
    two_lead : Agree line (Some other) o → ((x : Actor) → IsAhead (count_of sc) l g to x (lines_of x (line ∷ other ∷ rest))) → LeadsOn sc l g to o rest
    two_lead agree ahead = elim (first_of (count_of sc) C l g to line (other ∷ rest) one.client ahead) [
      | inl first ↦
          let client : actor_of line.choice ≡ C = elim (are C (cursor C g) line first.next).actor [ inl e ↦ e | inr e ↦ e ] in
          elim (first_of (count_of sc) (actor_at n) l (advanced C g) to other rest one.stands first.ahead) [
            | inl second ↦ both_lead agree first second
            | inr second ↦ absurd (not_missing client second.missing)
          ]
      | inr first ↦
          elim (first_of (count_of sc) (actor_at n) l (with_missing C g) to other rest one.stands first.ahead) [
            | inl second ↦ second_leads agree.1 first.missing second
            | inr second ↦ absurd (not_missing first.missing.actor second.missing)
          ]
    ]

  -- a step of an order leads on
  told_leads : (line : LogLine) (other : Option LogLine) → line.choice ≡ o.entry.choice → AreWhole sc.version (logs_in l) line other
      → Agree line other o → ((x : Actor) → IsAhead (count_of sc) l g to x (lines_of x (lines_in (record { line = line; other = other }) ++ rest)))
      → LeadsOn sc l g to o rest
  told_leads line None same whole agree ahead = one_leads line same whole agree ahead
  told_leads line (Some other) same whole agree ahead = two_lead line other whole same agree ahead

-- where a way leads that an order's choices are
pub record IsWayBy (sc : Scenario) (l : Logs) (g to : Cursors) (s : State) (order : List ToldStep) : Type 0 where
  pub end : Cursors
  pub way : IsWay sc l g s (choices_told order) end
  pub lines : (x : Actor) → cursor x end ≡ cursor x to

-- where no lines are ahead, an actor's cursor is at the end
nothing_left : (count : ℕ) (l : Logs) (g to : Cursors) (x : Actor) → IsAhead count l g to x [] → cursor x g ≡ cursor x to
nothing_left count l g to x a = at_end count x (log_of x l) (gaps_of x l.gaps) (cursor_of x g) (cursor x to) a

-- steps that fit and whose lines are ahead of cursors are a way
pub way_of : (sc : Scenario) (l : Logs) (g to : Cursors) (s : State) (order : List ToldStep)
    → ((x : Actor) → AreLinesOf (length sc.programs) x (log_of x l))
    → ((x : Actor) → IsAhead (length sc.programs) l g to x (lines_of x (lines_told order))) → Fits sc (logs_in l) s order
    → IsWayBy sc l g to s order
way_of sc l g to s [] are ahead fits = record { end = g; way = refl; lines = λ x. nothing_left (length sc.programs) l g to x (ahead x) }
way_of sc l g to s (x ∷ order) are ahead fits =
    let on = told_leads sc l are g to (observation_at sc s x.line.choice) (lines_told order) x.line x.other refl fits.0 fits.1 ahead in
    let rest = way_of sc l on.next to (step sc x.line.choice s).after order are on.ahead fits.2 in
    record { end = rest.end; way = (on.next, on.leads, rest.way); lines = rest.lines }
