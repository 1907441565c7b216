-- Lines lead to one session and say one text.
use Rattle.std.proofs.Common.{◌≡◌, ◌∙◌, ℕ, List, [], ◌∷◌, ◌++◌, Option, Some, None, refl, sym, ap₂, subst}
use Rattle.zy_text.specs.Words.{words_of}
use Rattle.zy_debug.specs.Commands.{refusal}
use Rattle.zy_debug.specs.Sessions.{Session}
use Rattle.zy_debug.specs.declared.command.Command.{Command}
use Rattle.zy_debug.specs.declared.command.DebugFault.{DebugFault}
use Rattle.zy_debug.proofs.ReplyLemmas.{IsDone, does_once, is_done}
use Rattle.zy_debug_text.specs.Console.{Answers, LineSays, Obeyed, Says}
use Rattle.zy_debug_text.specs.Laws.{SaysOne}
use Rattle.zy_debug_text.specs.Lines.{command_of}
use Rattle.zy_debug_text.specs.Replies.{bad_command, refusal_text, reply_text}

-- ---- one at most

-- Two ends of one beginning: from s to t, which says out, and from s to u, which says more.
module _ (s t u : Session) (out more : List ℕ) where
  -- what both are is one
  same : (v : Session) (text : List ℕ) → (t ≡ v) × (out ≡ text) → (u ≡ v) × (more ≡ text) → (t ≡ u) × (out ≡ more)
  same v text h k = (h.0 ∙ sym k.0, h.1 ∙ sym k.1)

  -- a command that is rejected, or done
  obeyed_once : (o : Option DebugFault) (c : Command) → Obeyed o s c t out → Obeyed o s c u more → (t ≡ u) × (out ≡ more)
  obeyed_once (Some f) c h k = same s (refusal_text f) h k
  obeyed_once None c (r, h, is) (q, k, too) = let e = does_once s t u r q c h k in (e.0, is ∙ ap₂ reply_text e.0 e.1 ∙ sym too)

  -- words that are a command, or none
  answers_once : (o : Option Command) → Answers o s t out → Answers o s u more → (t ≡ u) × (out ≡ more)
  answers_once None h k = same s bad_command h k
  answers_once (Some c) h k = obeyed_once (refusal s c) c h k

  -- a line, with words or without
  line_once : (ws : List (List ℕ)) → LineSays s ws t out → LineSays s ws u more → (t ≡ u) × (out ≡ more)
  line_once [] h k = same s [] h k
  line_once (w ∷ ws) h k = answers_once (command_of (w ∷ ws)) h k

-- lines, one after another
pub says_once : (s : Session) (ls : List (List ℕ)) (t u : Session) (out more : List ℕ) → Says s ls t out → Says s ls u more → (t ≡ u) × (out ≡ more)
says_once s [] t u out more h k = same s t u out more s [] h k
says_once s (l ∷ ls) t u out more (v, first, rest, here, below, is) (w, head, tail, there, under, too) =
    let e = line_once s v w first head (words_of l) here there in
    let d = says_once w ls t u rest tail (subst (λ x. Says x ls t rest) e.0 below) under in
    (d.0, is ∙ ap₂ (λ a b. a ++ b) e.1 d.1 ∙ sym too)

-- ---- one at least

-- a command that is rejected, or done
obeyed_some : (o : Option DebugFault) (s : Session) (c : Command) → (o ≡ None → IsDone s c) → (t : Session) × (out : List ℕ) × Obeyed o s c t out
obeyed_some (Some f) s c h = (s, refusal_text f, (refl, refl))
obeyed_some None s c h = let d = h refl in (d.0, reply_text d.0 d.1, (d.1, d.2, refl))

-- words that are a command, or none
answers_some : (o : Option Command) (s : Session) → (t : Session) × (out : List ℕ) × Answers o s t out
answers_some None s = (s, bad_command, (refl, refl))
answers_some (Some c) s = obeyed_some (refusal s c) s c (is_done s c)

-- a line, with words or without
line_some : (s : Session) (ws : List (List ℕ)) → (t : Session) × (out : List ℕ) × LineSays s ws t out
line_some s [] = (s, [], (refl, refl))
line_some s (w ∷ ws) = answers_some (command_of (w ∷ ws)) s

-- lines, one after another
pub says_some : (s : Session) (ls : List (List ℕ)) → (t : Session) × (out : List ℕ) × Says s ls t out
says_some s [] = (s, [], (refl, refl))
says_some s (l ∷ ls) =
    let h = line_some s (words_of l) in
    let k = says_some h.0 ls in
    (k.0, h.1 ++ k.1, (h.0, h.1, k.1, h.2, k.2, refl))

-- one session and one text
pub says_one : (s : Session) (ls : List (List ℕ)) → SaysOne s ls
says_one s ls = let h = says_some s ls in record {
  session = h.0;
  out = h.1;
  says = h.2;
  only = λ t text k. says_once s ls h.0 t h.1 text h.2 k;
}
