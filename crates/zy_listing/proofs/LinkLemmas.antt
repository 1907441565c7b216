-- The text of a link, a message at a time.
use Rattle.std.proofs.Common.{◌≡◌, ◌∙◌, ℕ, ◌<◌, List, ◌++◌, length, take, get_or, ap, sym}
use Rattle.std.proofs.Common.{Result, Err, subst}
use Rattle.std.specs.List.{flat_map}
use Rattle.std.proofs.lemmas.List.Folds.{flat_map-map}
use Rattle.zy_io.specs.Writing.{Appended, AppendedPrefix}
use Rattle.zy_io.proofs.WritingLemmas.{Appended-element-stops}
use Rattle.zy_links.specs.declared.message.Message.{Message as Sent}
use Rattle.zy_links.specs.Messages.{message_of, messages_of}
use Rattle.zy_listing.specs.Texts.{message_text}

-- the text of the first i messages
abbrev pub first_texts : ℕ → List Sent → List ℕ
first_texts i ms = flat_map message_text (messages_of (take i ms))

-- the fault of one message's text is that of all
pub messages-stop : {X E : Type 0} (ms : List Sent) (i : ℕ) (m : Sent) (a b c : List ℕ) (e : E) (r : Result X E) → i < length ms → m ≡ get_or ms i m
    → b ≡ a ++ first_texts i ms → AppendedPrefix b c (message_text (message_of m)) → r ≡ Err e → Appended r a c (flat_map message_text (messages_of ms))
messages-stop ms i m a b c e r h is so_far front err =
    let text : Sent → List ℕ = λ x. message_text (message_of x) in
    let Front : Sent → Type 0 = λ x. AppendedPrefix b c (text x) in
    let before = so_far ∙ ap (λ l. a ++ l) (flat_map-map message_text message_of (take i ms)) in
    let Told : List ℕ → Type 0 = λ l. Appended r a c l in
    subst Told (sym (flat_map-map message_text message_of ms)) (Appended-element-stops text ms i m a b c e r h before (subst Front is front) err)
