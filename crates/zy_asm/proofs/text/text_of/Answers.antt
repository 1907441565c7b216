-- Bytes that are UTF-8 have no fault, and others have it after their longest good front.
use Rattle.std.proofs.Common.{◌≡◌, ◌∙◌, ◌==◌, ◌+◌, ℕ, List, Bool, true, false, refl, take, Some, None}
use Rattle.std.specs.Prelude.{count_by}
use Rattle.std.specs.Str.{IsUtf8, is_utf8}
use Rattle.std.specs.Str.Lossy.{utf8_valid_len}
use Rattle.std.proofs.lemmas.Str.{is_utf8-from_IsUtf8, IsUtf8-from_is_utf8}
use Rattle.zy_asm.specs.declared.faults.AsmKind.TheVariants as kinds
use Rattle.zy_asm.specs.Input.{utf8_fault}
use Rattle.zy_asm.proofs.text.text_of.Goals as goal

good : (bs : List ℕ) → IsUtf8 bs → utf8_fault bs ≡ None
good bs h = rw (is_utf8-from_IsUtf8 bs h) refl

not_utf8 : (bs : List ℕ) (b : Bool) → is_utf8 bs ≡ b → (IsUtf8 bs → ⊥) → is_utf8 bs ≡ false
not_utf8 bs true e h = absurd (h (IsUtf8-from_is_utf8 bs e))
not_utf8 bs false e h = e

bad : (bs front : List ℕ) (n ends : ℕ) → (IsUtf8 bs → ⊥) → n ≡ utf8_valid_len bs → front ≡ take n bs → ends ≡ count_by (λ b. b == 10) front
    → utf8_fault bs ≡ Some (record { line = 1 + ends; kind = kinds.Word })
bad bs front n ends h e f g = rw (not_utf8 bs (is_utf8 bs) refl h, g, f, e) refl

pub returns-in-Ok : goal.returns-in-Ok
returns-in-Ok c = (c.in-Ok.ensures.cases.0, good c.args.bytes.now c.in-Ok.ensures.cases.1)

pub returns-in-Err : goal.returns-in-Err
returns-in-Err c =
    bad c.args.bytes.now c.split_at.result.0.now c.valid_up_to.result c.line_ends.result c.in-Err.ensures.cases.0
    (c.valid_up_to.ensures ∙ c.in-Err.ensures.valid_len) c.split_at.ensures.front c.line_ends.ensures
