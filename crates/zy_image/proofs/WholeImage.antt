-- The whole image: what was read has it as its image, and the image of a scenario is read as it.
use Rattle.std.proofs.Common.{◌≡◌, ◌==◌, ℕ, ◌-◌, ◌≤◌, Bool, true, false, List, [], ◌∷◌, ◌++◌, length, Some, None, Ok, Err, refl, sym, ap, ◌∙◌, subst}
use Rattle.std.proofs.Common.{append-nil, arith, if◌then◌else◌, ok_or}
use Rattle.std.specs.Int.{w16, to_be_bytes}
use Rattle.zy_isa.specs.declared.version.Version.{Version}
use Rattle.zy_isa.specs.Versions.{magic, version_of_magic}
use Rattle.zy_isa.proofs.VersionLemmas.{version_of_magic_is, version_of_magic_back}
use Rattle.zy_isa.specs.declared.rule.Rule.{Rule}
use Rattle.zy_isa.specs.declared.rule.Rule.TheVariants.{Held, Loose}
use Rattle.zy_isa.specs.Scenario.{Scenario, IsScenario, scenario_fault, is_outside}
use Rattle.zy_isa.proofs.ResultLemmas.{bind_ok, if_ok, if_err, ok_or_ok, in_range, out_of_neither}
use Rattle.zy_isa.proofs.ScenarioLemmas.{no_fault}
use Rattle.zy_image.specs.declared.faults.LoadFault.TheVariants as fault
use Rattle.zy_image.specs.declared.head.ImageHead.{ImageHead}
use Rattle.zy_image.specs.Image.{rule_byte, rows_image, programs_image, choices_image, image_of, IsImage}
use Rattle.zy_image.specs.Reading.{field, byte, half, magic_field, cap_field, pages_field, rule_at, rule_field, head_fields, rows, programs, choices, all_read}
use Rattle.zy_image.specs.Reading.{of_parts, reading}
use Rattle.zy_image.proofs.FieldLemmas.{AreBytes, one_value, one_answer, field_found, field_gives, byte_found, byte_gives, half_found, half_gives}
use Rattle.zy_image.proofs.ListImages.{rows_found, rows_give, programs_found, programs_give, choices_found, choices_give}
use borrow.Author.Tests.{tests}

-- ---- the head

-- the bytes begin with the image of a number in its range
record FoundNumber (least most : ℕ) (image : ℕ → List ℕ) (bytes : List ℕ) (n : ℕ) (left : List ℕ) : Type 0 where
  same_bytes : bytes ≡ image n ++ left
  back : AreBytes left
  range : (least ≤ n) × (n ≤ most)

-- a version that was read has its mark before what is left
magic_found : (size : ℕ) (bytes : List ℕ) (v : Version) (left : List ℕ) → AreBytes bytes → magic_field size bytes ≡ Ok (v, left) → (bytes ≡ magic v ++ left)
    × AreBytes left
magic_found size bytes v left fit h =
    let f = bind_ok (field 4 size bytes) _ (v, left) h in
    let d = field_found 4 size bytes f.0.0 f.0.1 fit f.1 in
    let g = bind_ok (ok_or (version_of_magic f.0.0) fault.Magic) _ (v, left) f.2 in
    let s = one_answer g.0 v f.0.1 left g.2 in
    let x = version_of_magic_is f.0.0 v (ok_or_ok (version_of_magic f.0.0) fault.Magic g.0 g.1 ∙ ap (λ n. Some n) s.0) in
    (d.same ∙ ap (λ z. z ++ f.0.1) x ∙ ap (λ z. magic v ++ z) s.1, subst AreBytes s.1 d.back)

-- the mark of a version is read as it
magic_gives : (size : ℕ) (v : Version) (left : List ℕ) → magic_field size (magic v ++ left) ≡ Ok (v, left)
magic_gives size v left = rw (field_gives size (magic v) left, version_of_magic_back v) refl

-- a cap that was read is the first byte, and is in its range
cap_found : (size : ℕ) (bytes : List ℕ) (n : ℕ) (left : List ℕ) → AreBytes bytes → cap_field size bytes ≡ Ok (n, left)
    → FoundNumber 2 16 (λ b. b ∷ []) bytes n left
cap_found size bytes n left fit h =
    let f = bind_ok (byte size bytes) (λ n. if is_outside 2 16 n.0 then Err fault.Cap else Ok n) (n, left) h in
    let t = if_err (is_outside 2 16 f.0.0) (Ok f.0) fault.Cap (n, left) f.2 in
    let s = one_answer f.0.0 n f.0.1 left t.1 in
    let b = byte_found size bytes n left fit (f.1 ∙ t.1) in
    record { same_bytes = b.same; back = b.back; range = subst (λ x. (2 ≤ x) × (x ≤ 16)) s.0 (in_range f.0.0 2 16 t.0) }

-- a number of pages that was read has the first two bytes as its bytes, and is in its range
pages_found : (size : ℕ) (bytes : List ℕ) (n : ℕ) (left : List ℕ) → AreBytes bytes → pages_field size bytes ≡ Ok (n, left)
    → FoundNumber 1 512 (to_be_bytes w16) bytes n left
pages_found size bytes n left fit h =
    let f = bind_ok (half size bytes) (λ n. if is_outside 1 512 n.0 then Err fault.Pages else Ok n) (n, left) h in
    let t = if_err (is_outside 1 512 f.0.0) (Ok f.0) fault.Pages (n, left) f.2 in
    let s = one_answer f.0.0 n f.0.1 left t.1 in
    let b = half_found size bytes n left fit (f.1 ∙ t.1) in
    record { same_bytes = b.same; back = b.back; range = subst (λ x. (1 ≤ x) × (x ≤ 512)) s.0 (in_range f.0.0 1 512 t.0) }

-- the bytes begin with the byte of the rule
record FoundRule (bytes : List ℕ) (r : Rule) (left : List ℕ) : Type 0 where
  same_bytes : bytes ≡ rule_byte r ∷ left
  back : AreBytes left

-- the byte by which a chain of tests chose a rule
chosen_byte : (n : ℕ) (r : Rule) (a b : Bool) → (n == 0) ≡ a → (n == 1) ≡ b → (if a then Some Held else if b then Some Loose else None) ≡ Some r
    → n ≡ rule_byte r
chosen_byte n Held true b e f h = grind (arith, tests)
chosen_byte n Held false true e f h = cc
chosen_byte n Held false false e f h = cc
chosen_byte n Loose true b e f h = cc
chosen_byte n Loose false true e f h = grind (arith, tests)
chosen_byte n Loose false false e f h = cc

-- a byte that is read as a rule is the rule's
rule_is : (n : ℕ) (r : Rule) → rule_at n ≡ Some r → n ≡ rule_byte r
rule_is n r h = chosen_byte n r (n == 0) (n == 1) refl refl h

-- a rule that was read has its byte before what is left
rule_found : (size : ℕ) (bytes : List ℕ) (r : Rule) (left : List ℕ) → AreBytes bytes → rule_field size bytes ≡ Ok (r, left) → FoundRule bytes r left
rule_found size bytes r left fit h =
    let f = bind_ok (byte size bytes) _ (r, left) h in
    let b = byte_found size bytes f.0.0 f.0.1 fit f.1 in
    let g = bind_ok (ok_or (rule_at f.0.0) fault.Rule) _ (r, left) f.2 in
    let x = ok_or_ok (rule_at f.0.0) fault.Rule g.0 g.1 in
    let s = one_answer g.0 r f.0.1 left g.2 in
    record {
      same_bytes = b.same ∙ ap (λ z. z ∷ f.0.1) (rule_is f.0.0 g.0 x ∙ ap rule_byte s.0) ∙ ap (λ z. rule_byte r ∷ z) s.1;
      back = subst AreBytes s.1 b.back;
    }

-- the byte of a rule is read as it
rule_gives : (size : ℕ) (r : Rule) (left : List ℕ) → rule_field size (rule_byte r ∷ left) ≡ Ok (r, left)
rule_gives size Held left = rw (byte_gives size 0 left) refl
rule_gives size Loose left = rw (byte_gives size 1 left) refl

-- the bytes before the rows
abbrev front_of : ImageHead → List ℕ
front_of h = magic h.version ++ (h.cap ∷ to_be_bytes w16 h.pages ++ rule_byte h.rule ∷ [])

-- the bytes begin with the image of the head, whose numbers are in their ranges
record FoundHead (bytes : List ℕ) (h : ImageHead) (left : List ℕ) : Type 0 where
  same_bytes : bytes ≡ front_of h ++ left
  back : AreBytes left
  cap : (2 ≤ h.cap) × (h.cap ≤ 16)
  pages : (1 ≤ h.pages) × (h.pages ≤ 512)

-- a head that was read is so
head_found : (size : ℕ) (bytes : List ℕ) (h : ImageHead) (left : List ℕ) → AreBytes bytes → head_fields size bytes ≡ Ok (h, left) → FoundHead bytes h left
head_found size bytes h left fit e =
    let a = bind_ok (magic_field size bytes) _ (h, left) e in
    let m = magic_found size bytes a.0.0 a.0.1 fit a.1 in
    let b = bind_ok (cap_field size a.0.1) _ (h, left) a.2 in
    let c = cap_found size a.0.1 b.0.0 b.0.1 m.1 b.1 in
    let d = bind_ok (pages_field size b.0.1) _ (h, left) b.2 in
    let p = pages_found size b.0.1 d.0.0 d.0.1 c.back d.1 in
    let f = bind_ok (rule_field size d.0.1) _ (h, left) d.2 in
    let r = rule_found size d.0.1 f.0.0 f.0.1 p.back f.1 in
    let head : ImageHead = record { version = a.0.0; cap = b.0.0; pages = d.0.0; rule = f.0.0 } in
    let s = one_answer head h f.0.1 left f.2 in
    let all : bytes ≡ front_of head ++ f.0.1 =
    m.0 ∙ ap (λ x. magic a.0.0 ++ x) (c.same_bytes ∙ ap (λ x. b.0.0 ∷ x) (p.same_bytes ∙ ap (λ x. to_be_bytes w16 d.0.0 ++ x) r.same_bytes)) in
    record {
      same_bytes = all ∙ ap (λ x. front_of x ++ f.0.1) s.0 ∙ ap (λ x. front_of h ++ x) s.1;
      back = subst AreBytes s.1 r.back;
      cap = subst (λ (x : ImageHead). (2 ≤ x.cap) × (x.cap ≤ 16)) s.0 c.range;
      pages = subst (λ (x : ImageHead). (1 ≤ x.pages) × (x.pages ≤ 512)) s.0 p.range;
    }

-- the image of a head whose numbers are in their ranges is read as it
head_gives : (size : ℕ) (h : ImageHead) (left : List ℕ) → 2 ≤ h.cap → h.cap ≤ 16 → 1 ≤ h.pages → h.pages ≤ 512 → head_fields size (front_of h ++ left) ≡ Ok (h, left)
head_gives size h left c2 c16 p1 p512 =
    let rest : List ℕ = rule_byte h.rule ∷ left in
    let pages_on : List ℕ = to_be_bytes w16 h.pages ++ rest in
    let cap : cap_field size (h.cap ∷ pages_on) ≡ Ok (h.cap, pages_on) = rw (byte_gives size h.cap pages_on) (rw (out_of_neither h.cap 2 16 c2 c16) refl) in
    let pages : pages_field size pages_on ≡ Ok (h.pages, rest) = rw (half_gives size h.pages rest (omega (arith, p512)))
    (rw (out_of_neither h.pages 1 512 p1 p512) refl) in
    rw (magic_gives size h.version (h.cap ∷ pages_on)) (rw cap (rw pages (rw (rule_gives size h.rule left) refl)))

-- ---- the whole

-- bytes of length 0 are none
no_bytes : (bytes : List ℕ) → (length bytes == 0) ≡ true → bytes ≡ []
no_bytes [] h = refl
no_bytes (b ∷ bs) h = absurd (grind (arith, tests))

-- the bytes are the image of the scenario, which has no fault
pub record FoundImage (bytes : List ℕ) (s : Scenario) : Type 0 where
  pub same_bytes : bytes ≡ image_of s
  pub no_fault : scenario_fault s ≡ None

-- bytes that are read as a scenario are its image, and it has no fault
pub image_found : (bytes : List ℕ) (s : Scenario) → AreBytes bytes → reading bytes ≡ Ok s → FoundImage bytes s
image_found bytes s fit e =
    let size = length bytes in
    let a = bind_ok (head_fields size bytes) _ s e in
    let h = head_found size bytes a.0.0 a.0.1 fit a.1 in
    let b = bind_ok (rows a.0.0 size a.0.1) _ s a.2 in
    let r = rows_found a.0.0 size a.0.1 b.0.0 b.0.1 h.back b.1 in
    let c = bind_ok (programs a.0.0.version size b.0.1) _ s b.2 in
    let p = programs_found a.0.0.version size b.0.1 c.0.0 c.0.1 r.back c.1 in
    let d = bind_ok (choices (length c.0.0) size c.0.1) _ s c.2 in
    let q = choices_found (length c.0.0) size c.0.1 d.0.0 d.0.1 p.back d.1 in
    let f = bind_ok (all_read size d.0) _ s d.2 in
    let g = if_ok (length d.0.1 == 0) (Ok d.0.0) (fault.Trailing (size - length d.0.1)) f.0 f.1 in
    let last : d.0.0 ≡ f.0 = cc (g.1) in
    let none : d.0.1 ≡ [] = no_bytes d.0.1 g.0 in
    let t = of_parts a.0.0 b.0.0 c.0.0 d.0.0 in
    let same : t ≡ s = ap (of_parts a.0.0 b.0.0 c.0.0) last ∙ one_value (of_parts a.0.0 b.0.0 c.0.0 f.0) s f.2 in
    let all : bytes ≡ image_of t =
    h.same_bytes ∙ ap (λ x. front_of a.0.0 ++ x) (r.same ∙ ap (λ x. rows_image b.0.0 ++ x)
    (p.same ∙ ap (λ x. programs_image c.0.0 ++ x) (q.same ∙ ap (λ x. choices_image d.0.0 ++ x) none ∙ append-nil (choices_image d.0.0)))) in
    record {
      same_bytes = all ∙ ap image_of same;
      no_fault =
          subst (λ x. scenario_fault x ≡ None) same (no_fault t h.cap.0 h.cap.1 h.pages.0 h.pages.1 r.few r.few_pages r.order p.few q.few q.named p.known);
    }

-- the image of a scenario is read as it
pub image_gives : (s : Scenario) → IsScenario s → reading (image_of s) ≡ Ok s
image_gives s i =
    let size = length (image_of s) in
    let h : ImageHead = record { version = s.version; cap = s.cap; pages = s.pages; rule = s.rule } in
    let last : List ℕ = choices_image s.choices in
    let more : List ℕ = programs_image s.programs ++ last in
    let head = head_gives size h (rows_image s.rows ++ more) i.cap_least i.cap_most i.pages_least i.pages_most in
    let r = rows_give h size s.rows more i.few_rows i.few_opening_pages i.rows_rise i.rows_fit in
    let p = programs_give s.version size s.programs last i.few_programs i.programs i.instrs_known in
    let c : choices (length s.programs) size last ≡ Ok (s.choices, []) = ap (choices (length s.programs) size) (sym (append-nil last))
    ∙ choices_give (length s.programs) size s.choices [] i.few_choices i.choices_named in
    rw head (rw r (rw p (rw c refl)))

-- what has this image is read
pub only_image : (bytes : List ℕ) (s : Scenario) → IsImage bytes s → reading bytes ≡ Ok s
only_image bytes s h = rw h.1 (image_gives s h.0)
