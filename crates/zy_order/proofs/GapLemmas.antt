-- Lines that complete the first lines of a log.
use Rattle.std.proofs.Common.{◌≡◌, ◌∙◌, ℕ, zero, suc, ◌+◌, ◌-◌, ◌<◌, ◌⊎◌, inl, inr, List, [], ◌∷◌, ◌++◌, length, refl, sym, ap, subst, arith, drop, slice_get, Some}
use Rattle.std.proofs.lemmas.Option.{slice_get_within, get_or_from_slice_get}
use Rattle.std.proofs.lemmas.List.{drop_more}
use Rattle.zy_isa.specs.declared.node.Actor.{Actor}
use Rattle.zy_logs.specs.declared.log_line.LogLine.{LogLine}
use Rattle.zy_order.specs.declared.cursors.Cursor.{Cursor}
use Rattle.zy_order.specs.Gaps.{IsMissing, FillsGap, Completes}
use Rattle.zy_order.specs.Ways.{gap_at, passed, filled, log_start, IsIn}

-- ---- lists

-- the list from an element on
pub drop_at : {X : Type 0} (xs : List X) (k : ℕ) (x : X) → slice_get xs k ≡ Some x → drop k xs ≡ x ∷ drop (k + 1) xs
drop_at xs k x e =
    drop_more xs k x (slice_get_within xs k x e) ∙ ap (λ y. y ∷ drop (k + 1) xs) (get_or_from_slice_get xs k x x e)

-- an element that the list from a place on begins with stands at that place
pub at_drop : {X : Type 0} (xs : List X) (k : ℕ) (x : X) (ys : List X) → drop k xs ≡ x ∷ ys → slice_get xs k ≡ Some x
at_drop [] zero x ys e = absurd (cc e)
at_drop [] (suc k) x ys e = absurd (cc e)
at_drop (y ∷ xs) zero x ys e = cc e
at_drop (y ∷ xs) (suc k) x ys e = at_drop xs k x ys e

-- and the rest follows it
pub rest_drop : {X : Type 0} (xs : List X) (k : ℕ) (x : X) (ys : List X) → drop k xs ≡ x ∷ ys → drop (k + 1) xs ≡ ys
rest_drop xs k x ys e =
    let here = drop_at xs k x (at_drop xs k x ys e) in
    let both : x ∷ drop (k + 1) xs ≡ x ∷ ys = sym here ∙ e in
    cc both

-- ---- one line more in front

-- the next line of the log, with nothing in its gap
line_first : (count n : ℕ) (x : Actor) (k : ℕ) (line : LogLine) (log : List LogLine) (gaps : List ℕ) (lines : List LogLine)
    → Completes count x k log gaps lines → Completes count x (suc k) (line ∷ log) (n ∷ gaps) (line ∷ lines)
line_first count n x k line log gaps lines c = record {
  filled = [];
  rest = lines;
  is = refl;
  gap = record { few = omega arith; missing = tt };
  goes_on = c;
}

-- a missing step, with room for one less behind it
missing_first : (count n : ℕ) (x : Actor) (k : ℕ) (line : LogLine) (log : List LogLine) (gaps : List ℕ) (lines : List LogLine)
    → IsMissing count x line → Completes count x k log (n ∷ gaps) lines → Completes count x k log (suc n ∷ gaps) (line ∷ lines)
missing_first count n x zero line log gaps lines is c = record { few = omega (arith, c.few); missing = (is, c.missing) }
missing_first count n x (suc k) line [] gaps lines is c = absurd c
missing_first count n x (suc k) line (l ∷ log) gaps lines is c = record {
  filled = line ∷ c.filled;
  rest = c.rest;
  is = ap (λ (ls : List LogLine). line ∷ ls) c.is;
  gap = record { few = omega (arith, c.gap.few); missing = (is, c.gap.missing) };
  goes_on = c.goes_on;
}

-- ---- what the first of some lines is

-- it is the next line of the log, and the others complete what is behind that
pub record StartsByLine (count : ℕ) (x : Actor) (k : ℕ) (log : List LogLine) (gaps : List ℕ) (line : LogLine) (lines : List LogLine) : Type 0 where
  pub fewer : ℕ
  pub left : List LogLine
  pub is : log ≡ line ∷ left
  pub one : k ≡ suc fewer
  pub goes_on : Completes count x fewer left gaps lines

-- it is a missing step, and the others complete the same with room for one less
pub record StartsByMissing (count n : ℕ) (x : Actor) (k : ℕ) (log : List LogLine) (gaps : List ℕ) (line : LogLine) (lines : List LogLine)
    : Type 0 where
  pub less : ℕ
  pub is : n ≡ suc less
  pub missing : IsMissing count x line
  pub goes_on : Completes count x k log (less ∷ gaps) lines

-- there is no other
abbrev Starts : ℕ → ℕ → Actor → ℕ → List LogLine → List ℕ → LogLine → List LogLine → Type 0
Starts count n x k log gaps line lines =
    StartsByLine count x k log gaps line lines ⊎ StartsByMissing count n x k log gaps line lines

-- where what fills the gap before a line begins with a missing step
starts_filled : (count n : ℕ) (x : Actor) (k : ℕ) (l : LogLine) (log : List LogLine) (gaps : List ℕ) (line : LogLine) (lines more rest : List LogLine)
    → lines ≡ more ++ l ∷ rest → FillsGap count n x (line ∷ more) → Completes count x k log gaps rest
    → StartsByMissing count n x (suc k) (l ∷ log) gaps line lines
starts_filled count zero x k l log gaps line lines more rest is gap c = absurd (omega (arith, gap.few))
starts_filled count (suc n) x k l log gaps line lines more rest is gap c = record {
  less = n;
  is = refl;
  missing = gap.missing.0;
  goes_on = record { filled = more; rest = rest; is = is; gap = record { few = omega (arith, gap.few); missing = gap.missing.1 }; goes_on = c };
}

-- by what fills the gap before a line
starts_by : (count n : ℕ) (x : Actor) (k : ℕ) (l : LogLine) (log : List LogLine) (gaps : List ℕ) (line : LogLine) (lines fill rest : List LogLine)
    → line ∷ lines ≡ fill ++ l ∷ rest → FillsGap count n x fill → Completes count x k log gaps rest
    → Starts count n x (suc k) (l ∷ log) gaps line lines
starts_by count n x k l log gaps line lines [] rest is gap c =
    let same : l ≡ line = cc is in
    let others : rest ≡ lines = cc is in
    inl (record {
      fewer = k;
      left = log;
      is = ap (λ (m : LogLine). m ∷ log) same;
      one = refl;
      goes_on = subst (Completes count x k log gaps) others c;
    })
starts_by count n x k l log gaps line lines (m ∷ more) rest is gap c =
    let same : m ≡ line = cc is in
    let others : lines ≡ more ++ l ∷ rest = cc is in
    inr (starts_filled count n x k l log gaps line lines more rest others (subst (λ (f : LogLine). FillsGap count n x (f ∷ more)) same gap) c)

-- behind the last line
starts_behind : (count n : ℕ) (x : Actor) (log : List LogLine) (gaps : List ℕ) (line : LogLine) (lines : List LogLine) → FillsGap count n x (line ∷ lines)
    → StartsByMissing count n x zero log gaps line lines
starts_behind count zero x log gaps line lines gap = absurd (omega (arith, gap.few))
starts_behind count (suc n) x log gaps line lines gap = record {
  less = n;
  is = refl;
  missing = gap.missing.0;
  goes_on = record { few = omega (arith, gap.few); missing = gap.missing.1 };
}

-- so the first line is the log's next one, or a missing step
starts : (count n : ℕ) (x : Actor) (k : ℕ) (log : List LogLine) (gaps : List ℕ) (line : LogLine) (lines : List LogLine)
    → Completes count x k log (n ∷ gaps) (line ∷ lines) → Starts count n x k log gaps line lines
starts count n x zero log gaps line lines c = inr (starts_behind count n x log gaps line lines c)
starts count n x (suc k) [] gaps line lines c = absurd c
starts count n x (suc k) (l ∷ log) gaps line lines c = starts_by count n x k l log gaps line lines c.filled c.rest c.is c.gap c.goes_on

-- ---- from a cursor on

-- lines complete a log from a cursor up to its first `end` lines, with what is left of the gap where the cursor is
pub record Ahead (count : ℕ) (x : Actor) (log : List LogLine) (gaps : List ℕ) (g : Cursor) (end : ℕ) (lines : List LogLine) : Type 0 where
  pub k : ℕ
  pub n : ℕ
  pub behind : List ℕ
  pub up_to : g.lines + k ≡ end
  pub gaps_left : drop g.lines gaps ≡ (g.missing + n) ∷ behind
  pub completes : Completes count x k (drop g.lines log) (n ∷ behind) lines

-- a log's gap is there where a cursor is within the log
gap_there : (log : List LogLine) (gaps : List ℕ) (g : Cursor) → length gaps ≡ length log + 1 → IsIn log gaps g
    → drop g.lines gaps ≡ gap_at gaps g ∷ drop (g.lines + 1) gaps
gap_there log gaps g many is = drop_more gaps g.lines 0 (omega (arith, many, is.lines))

-- no lines complete it up to the cursor itself
pub ahead_none : (count : ℕ) (x : Actor) (log : List LogLine) (gaps : List ℕ) (g : Cursor) → length gaps ≡ length log + 1 → IsIn log gaps g
    → Ahead count x log gaps g g.lines []
ahead_none count x log gaps g many is = record {
  k = 0;
  n = gap_at gaps g - g.missing;
  behind = drop (g.lines + 1) gaps;
  up_to = omega arith;
  gaps_left = gap_there log gaps g many is ∙ ap (λ m. m ∷ drop (g.lines + 1) gaps) (omega (arith, is.missing));
  completes = record { few = omega arith; missing = tt };
}

-- the next line comes first
pub ahead_line : (count : ℕ) (x : Actor) (log : List LogLine) (gaps : List ℕ) (g : Cursor) (end : ℕ) (line : LogLine) (lines : List LogLine)
    → length gaps ≡ length log + 1 → IsIn log gaps g → slice_get log g.lines ≡ Some line → Ahead count x log gaps (passed g) end lines
    → Ahead count x log gaps g end (line ∷ lines)
ahead_line count x log gaps g end line lines many is at a =
    let n = gap_at gaps g - g.missing in
    let first : Completes count x (suc a.k) (line ∷ drop (g.lines + 1) log) (n ∷ a.n ∷ a.behind) (line ∷ lines) =
    line_first count n x a.k line (drop (g.lines + 1) log) (a.n ∷ a.behind) lines a.completes in
    let next : drop (g.lines + 1) gaps ≡ a.n ∷ a.behind = a.gaps_left ∙ ap (λ l. l ∷ a.behind) (omega arith) in
    let left : gap_at gaps g ∷ drop (g.lines + 1) gaps ≡ (g.missing + n) ∷ drop (g.lines + 1) gaps =
    ap (λ m. m ∷ drop (g.lines + 1) gaps) (omega (arith, is.missing)) in
    record {
      k = suc a.k;
      n = n;
      behind = a.n ∷ a.behind;
      up_to = omega (arith, a.up_to);
      gaps_left = gap_there log gaps g many is ∙ (left ∙ ap (λ ms. (g.missing + n) ∷ ms) next);
      completes = subst (λ (ls : List LogLine). Completes count x (suc a.k) ls (n ∷ a.n ∷ a.behind) (line ∷ lines)) (sym (drop_at log g.lines line at))
          first;
    }

-- a missing step comes first
pub ahead_missing : (count : ℕ) (x : Actor) (log : List LogLine) (gaps : List ℕ) (g : Cursor) (end : ℕ) (line : LogLine) (lines : List LogLine)
    → IsMissing count x line → Ahead count x log gaps (filled g) end lines → Ahead count x log gaps g end (line ∷ lines)
ahead_missing count x log gaps g end line lines is a = record {
  k = a.k;
  n = suc a.n;
  behind = a.behind;
  up_to = a.up_to;
  gaps_left = a.gaps_left ∙ ap (λ m. m ∷ a.behind) (omega arith);
  completes = missing_first count a.n x a.k line (drop g.lines log) a.behind lines is a.completes;
}

-- ---- what comes next from a cursor on

-- the log has this line next, and the others complete what is behind it
pub record NextIsLine (count : ℕ) (x : Actor) (log : List LogLine) (gaps : List ℕ) (g : Cursor) (end : ℕ) (line : LogLine) (lines : List LogLine)
    : Type 0 where
  pub next : slice_get log g.lines ≡ Some line
  pub goes_on : Ahead count x log gaps (passed g) end lines

-- this line is of a missing step, and the others complete the same with room for one less
pub record NextIsMissing (count : ℕ) (x : Actor) (log : List LogLine) (gaps : List ℕ) (g : Cursor) (end : ℕ) (line : LogLine) (lines : List LogLine)
    : Type 0 where
  pub gap : g.missing < gap_at gaps g
  pub missing : IsMissing count x line
  pub goes_on : Ahead count x log gaps (filled g) end lines

-- behind the log's next line
next_line : (count : ℕ) (x : Actor) (log : List LogLine) (gaps : List ℕ) (g : Cursor) (end k n : ℕ) (behind : List ℕ) (line : LogLine)
    (left lines : List LogLine) → g.lines + suc k ≡ end
    → drop g.lines gaps ≡ n ∷ behind → drop g.lines log ≡ line ∷ left → Completes count x k left behind lines
    → NextIsLine count x log gaps g end line lines
next_line count x log gaps g end k n [] line left lines up gaps_left at c = absurd c
next_line count x log gaps g end k n (m ∷ behind) line left lines up gaps_left at c = record {
  next = at_drop log g.lines line left at;
  goes_on = record {
    k = k;
    n = m;
    behind = behind;
    up_to = omega (arith, up);
    gaps_left = rest_drop gaps g.lines n (m ∷ behind) gaps_left ∙ ap (λ l. l ∷ behind) (omega arith);
    completes = subst (λ (ls : List LogLine). Completes count x k ls (m ∷ behind) lines) (sym (rest_drop log g.lines line left at)) c;
  };
}

-- lines complete a log with more room in its first gap, too
more_room : (count n : ℕ) (x : Actor) (k : ℕ) (log : List LogLine) (gaps : List ℕ) (lines : List LogLine) → Completes count x k log (n ∷ gaps) lines
    → Completes count x k log (suc n ∷ gaps) lines
more_room count n x zero log gaps lines c = record { few = omega (arith, c.few); missing = c.missing }
more_room count n x (suc k) [] gaps lines c = absurd c
more_room count n x (suc k) (l ∷ log) gaps lines c = record {
  filled = c.filled;
  rest = c.rest;
  is = c.is;
  gap = record { few = omega (arith, c.gap.few); missing = c.gap.missing };
  goes_on = c.goes_on;
}

-- so what completes it behind a missing step completes it without that step
pub ahead_less : (count : ℕ) (x : Actor) (log : List LogLine) (gaps : List ℕ) (g : Cursor) (end : ℕ) (lines : List LogLine)
    → Ahead count x log gaps (filled g) end lines → Ahead count x log gaps g end lines
ahead_less count x log gaps g end lines a = record {
  k = a.k;
  n = suc a.n;
  behind = a.behind;
  up_to = a.up_to;
  gaps_left = a.gaps_left ∙ ap (λ m. m ∷ a.behind) (omega arith);
  completes = more_room count a.n x a.k (drop g.lines log) a.behind lines a.completes;
}

-- the gap where a cursor is, by what is left of the gaps
gap_left : (gaps : List ℕ) (g : Cursor) (n : ℕ) (behind : List ℕ) → drop g.lines gaps ≡ n ∷ behind → gap_at gaps g ≡ n
gap_left gaps g n behind e = get_or_from_slice_get gaps g.lines n 0 (at_drop gaps g.lines n behind e)

-- the first of the lines ahead is the log's next one, or a missing step
pub ahead_next : (count : ℕ) (x : Actor) (log : List LogLine) (gaps : List ℕ) (g : Cursor) (end : ℕ) (line : LogLine) (lines : List LogLine)
    → Ahead count x log gaps g end (line ∷ lines)
    → NextIsLine count x log gaps g end line lines ⊎ NextIsMissing count x log gaps g end line lines
ahead_next count x log gaps g end line lines a =
    elim (starts count a.n x a.k (drop g.lines log) a.behind line lines a.completes) [
      | inl by ↦
          inl (next_line count x log gaps g end by.fewer (g.missing + a.n) a.behind line by.left lines (omega (arith, a.up_to, by.one)) a.gaps_left by.is
          by.goes_on)
      | inr by ↦ inr (record {
        gap = omega (arith, gap_left gaps g (g.missing + a.n) a.behind a.gaps_left, by.is);
        missing = by.missing;
        goes_on = record {
          k = a.k;
          n = by.less;
          behind = a.behind;
          up_to = a.up_to;
          gaps_left = a.gaps_left ∙ ap (λ m. m ∷ a.behind) (omega (arith, by.is));
          completes = by.goes_on;
        };
      })
    ]

-- no list with an element is empty
none_is : (l : LogLine) (fill rest : List LogLine) → [] ≡ fill ++ l ∷ rest → ⊥
none_is l [] rest e = absurd (cc e)
none_is l (m ∷ fill) rest e = absurd (cc e)

-- no line completes a line more
none_more : (count : ℕ) (x : Actor) (k : ℕ) (log : List LogLine) (gaps : List ℕ) → Completes count x k log gaps [] → k ≡ 0
none_more count x zero log gaps c = refl
none_more count x (suc k) log [] c = absurd c
none_more count x (suc k) [] (n ∷ gaps) c = absurd c
none_more count x (suc k) (l ∷ log) (n ∷ gaps) c = absurd (none_is l c.filled c.rest c.is)

-- where no line is ahead, the cursor is at the end
pub at_end : (count : ℕ) (x : Actor) (log : List LogLine) (gaps : List ℕ) (g : Cursor) (end : ℕ) → Ahead count x log gaps g end [] → g.lines ≡ end
at_end count x log gaps g end a = omega (arith, a.up_to, none_more count x a.k (drop g.lines log) (a.n ∷ a.behind) a.completes)

-- ---- from the start of a log

-- what completes the first lines of a log is ahead of its start
pub ahead_start : (count : ℕ) (x : Actor) (log : List LogLine) (gaps : List ℕ) (k : ℕ) (lines : List LogLine) → Completes count x k log gaps lines
    → Ahead count x log gaps log_start k lines
ahead_start count x log [] k lines c = absurd c
ahead_start count x log (n ∷ gaps) k lines c =
    record { k = k; n = n; behind = gaps; up_to = omega arith; gaps_left = ap (λ m. m ∷ gaps) (omega arith); completes = c }

-- the other way
pub ahead_whole : (count : ℕ) (x : Actor) (log : List LogLine) (gaps : List ℕ) (end : ℕ) (lines : List LogLine) → Ahead count x log gaps log_start end lines
    → Completes count x end log gaps lines
ahead_whole count x log gaps end lines a =
    let k : a.k ≡ end = omega (arith, a.up_to) in
    let left : gaps ≡ a.n ∷ a.behind = a.gaps_left ∙ ap (λ m. m ∷ a.behind) (omega arith) in
    subst (λ (e : ℕ). Completes count x e log gaps lines) k (subst (λ (ms : List ℕ). Completes count x a.k log ms lines) (sym left) a.completes)
