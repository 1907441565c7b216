-- What the lines so far have said, and one line more.
use Rattle.std.proofs.Common.{◌≡◌, ℕ, List, [], ◌∷◌, ◌++◌, refl, sym, ap, subst, ◌∙◌, append_assoc, append-nil}
use Rattle.std.proofs.KnownBytes.{Appends-trans, Appends-nil}
use Rattle.zy_io.specs.Streams.{Sent, Sends, SendsPrefix}
use Rattle.zy_text.specs.Words.{words_of}
use Rattle.zy_text.specs.Lines.{first_words}
use Rattle.zy_debug.specs.Sessions.{Session}
use Rattle.zy_debug_text.specs.Console.{LineSays, Says, SaysPrefix}
use Rattle.zy_debug_text.proofs.OneLemmas.{says_some}

-- behind six words nothing changes what a line says
pub says_first : (s t : Session) (ws : List (List ℕ)) (out : List ℕ) → LineSays s (first_words ws) t out → LineSays s ws t out
says_first s t [] out h = h
says_first s t (a ∷ []) out h = h
says_first s t (a ∷ b ∷ []) out h = h
says_first s t (a ∷ b ∷ c ∷ []) out h = h
says_first s t (a ∷ b ∷ c ∷ d ∷ ws) out h = h

-- lines, and then others
says_join : (s t u : Session) (ls ks : List (List ℕ)) (out more : List ℕ) → Says s ls t out → Says t ks u more → Says s (ls ++ ks) u (out ++ more)
says_join s t u [] ks out more (same, none) h = rw none (subst (λ x. Says x ks u more) same h)
says_join s t u (l ∷ ls) ks out more (v, first, rest, here, below, is) h = (
  v,
  first,
  rest ++ more,
  here,
  says_join v t u ls ks rest more below h,
  ap (λ o. o ++ more) is ∙ append_assoc first rest more,
)

-- one line alone
one_line : (t u : Session) (l more : List ℕ) → LineSays t (words_of l) u more → Says t (l ∷ []) u more
one_line t u l more h = (u, more, [], h, (refl, refl), sym (append-nil more))

-- the first of the lines led from s to t, and what they say went out; the last ones are left
pub record Said (old new : Sent) (s : Session) (lines last : List (List ℕ)) (t : Session) : Type 0 where
  pub read : List (List ℕ)
  pub parted : lines ≡ read ++ last
  pub out : List ℕ
  pub says : Says s read t out
  pub wrote : Sends old new out

-- before the first line
pub said_nothing : (a : Sent) (s : Session) (lines : List (List ℕ)) → Said a a s lines lines s
said_nothing a s lines = record { read = []; parted = refl; out = []; says = (refl, refl); wrote = Appends-nil a.written }

-- no more goes out: it is a prefix, since the others say something
pub said_stops : (a b : Sent) (s t : Session) (lines last : List (List ℕ)) → Said a b s lines last t → SaysPrefix a b s lines
said_stops a b s t lines last h =
    let k = says_some t last in record {
      session = k.0;
      out = h.out ++ k.1;
      says = subst (λ ls. Says s ls k.0 (h.out ++ k.1)) (sym h.parted) (says_join s t k.0 h.read last h.out k.1 h.says k.2);
      prefix = (h.out, k.1, refl, h.wrote);
    }

-- the line that is read belongs to those that were
line_over : (read : List (List ℕ)) (l : List ℕ) (last : List (List ℕ)) → read ++ l ∷ last ≡ (read ++ l ∷ []) ++ last
line_over read l last = sym (append_assoc read (l ∷ []) last)

-- the first of the lines that are left leads from t to u, and says more
pub record Next (all last : List (List ℕ)) (t u : Session) (more : List ℕ) : Type 0 where
  pub line : List ℕ
  pub first : all ≡ line ∷ last
  pub says : LineSays t (words_of line) u more

-- The lines so far led from s to t, and the calls of the sink from old to now; then comes the next line.
module _ (old now : Sent) (s t u : Session) (lines all last : List (List ℕ)) (more : List ℕ) (h : Said old now s lines all t)
    (n : Next all last t u more) where
  -- all that it says goes out
  pub said_more : (new : Sent) → Sends now new more → Said old new s lines last u
  said_more new wrote = record {
    read = h.read ++ n.line ∷ [];
    parted = h.parted ∙ ap (λ x. h.read ++ x) n.first ∙ line_over h.read n.line last;
    out = h.out ++ more;
    says = says_join s t u h.read (n.line ∷ []) h.out more h.says (one_line t u n.line more n.says);
    wrote = Appends-trans old.written now.written new.written h.out more h.wrote wrote;
  }

  -- a prefix of what it says goes out
  pub said_torn : (new : Sent) → SendsPrefix now new more → SaysPrefix old new s lines
  said_torn new (front, back, is, wrote) =
      let k = says_some u last in
      let others : Says t (n.line ∷ last) k.0 (more ++ k.1) = (u, more, k.1, n.says, k.2, refl) in
      let parted : lines ≡ h.read ++ n.line ∷ last = h.parted ∙ ap (λ x. h.read ++ x) n.first in
      record {
        session = k.0;
        out = h.out ++ (more ++ k.1);
        says = subst (λ ls. Says s ls k.0 (h.out ++ (more ++ k.1))) (sym parted) (says_join s t k.0 h.read (n.line ∷ last) h.out (more ++ k.1) h.says others);
        prefix = (
          h.out ++ front,
          back ++ k.1,
          ap (λ x. h.out ++ (x ++ k.1)) is ∙ ap (λ x. h.out ++ x) (append_assoc front back k.1) ∙ sym (append_assoc h.out front (back ++ k.1)),
          Appends-trans old.written now.written new.written h.out front h.wrote wrote,
        );
      }
