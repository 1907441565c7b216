-- The verdict in the words of equality, and of the longest text that two texts begin with.
use Rattle.std.proofs.Common.{◌≡◌, ◌≢◌, ◌≤◌, ◌==◌, ◌+◌, ◌∙◌, ℕ, true, false, List, [], ◌∷◌, ◌++◌, None, length, refl, sym, ap, subst, arith, inl, inr}
use Rattle.std.specs.Str.{bytes_eq, is_utf8}
use Rattle.std.proofs.lemmas.List.{length-append}
use Rattle.std.proofs.lemmas.Str.{IsUtf8-from_ascii, is_utf8-from_IsUtf8}
use Rattle.std.proofs.lemmas.Slice.Eq.{bytes_eq-Decides}
use Rattle.zy_isa.specs.Scenario.{Scenario, IsScenario}
use Rattle.zy_text.specs.Canon.{canon}
use Rattle.zy_text.specs.Text.{Means}
use Rattle.zy_asm.specs.Input.{utf8_fault}
use Rattle.zy_asm.proofs.CanonLemmas.{Means-canon}
use Rattle.zy_listing.specs.Listing.{listing}
use Rattle.zy_listing.specs.Run.{listing_run}
use Rattle.zy_check.specs.declared.verdict.Verdict.TheVariants.{Table, NotTable}
use Rattle.zy_text.specs.Cut.{cut}
use Rattle.zy_check.specs.Verdicts.{IsListing, IsVerdict}
use Rattle.zy_text.proofs.CanonCut.{cut-canon, canon-ascii}
use Rattle.zy_check.specs.Differs.{common, feeds, differs, verdict, IsPrefix, IsLongestShared}
use Rattle.std.proofs.lemmas.Bool.{cases_Bool}
use Rattle.zy_isa.proofs.OperationLemmas.{same_number}
use Rattle.zy_check.proofs.CommonLemmas.{cons_same, cons_other, common_shared}
use Rattle.zy_check.proofs.JudgeLemmas.{same_parts}

-- ---- equality

-- the verdict on equal texts
verdict_of-true : (x y : List ℕ) → bytes_eq x y ≡ true → verdict x y ≡ Table
verdict_of-true x y e = rw e refl

-- and on others
verdict_of-false : (x y : List ℕ) → bytes_eq x y ≡ false → verdict x y ≡ NotTable (differs x y)
verdict_of-false x y e = rw e refl

-- others are no table
no_table : {Q : Type 0} (x y : List ℕ) → bytes_eq x y ≡ false → verdict x y ≡ Table → Q
no_table x y e h = let n = verdict_of-false x y e in absurd (cc)

-- a table is equal
pub verdict-table : (x y : List ℕ) → verdict x y ≡ Table → x ≡ y
verdict-table x y h = elim (cases_Bool (bytes_eq x y)) [ inl e ↦ (bytes_eq-Decides x y).0 e | inr e ↦ no_table x y e h ]

-- what is equal is a table
pub verdict-same : (x y : List ℕ) → x ≡ y → verdict x y ≡ Table
verdict-same x y e = verdict_of-true x y ((bytes_eq-Decides x y).1 e)

-- ---- the longest text that both begin with

-- a shared byte more begins the first
left_same : (x y : ℕ) (xs ys : List ℕ) → (x == y) ≡ true → IsPrefix (common xs ys) xs → IsPrefix (common (x ∷ xs) (y ∷ ys)) (x ∷ xs)
left_same x y xs ys e h = (h.0, rw (cons_same x y xs ys e) (ap (λ l. x ∷ l) h.1))

-- and the second
right_same : (x y : ℕ) (xs ys : List ℕ) → (x == y) ≡ true → IsPrefix (common xs ys) ys → IsPrefix (common (x ∷ xs) (y ∷ ys)) (y ∷ ys)
right_same x y xs ys e h = (h.0, rw (cons_same x y xs ys e, same_number x y e) (ap (λ l. y ∷ l) h.1))

-- nothing shared begins the first
left_other : (x y : ℕ) (xs ys : List ℕ) → (x == y) ≡ false → IsPrefix (common (x ∷ xs) (y ∷ ys)) (x ∷ xs)
left_other x y xs ys e = (x ∷ xs, rw (cons_other x y xs ys e) refl)

-- and the second
right_other : (x y : ℕ) (xs ys : List ℕ) → (x == y) ≡ false → IsPrefix (common (x ∷ xs) (y ∷ ys)) (y ∷ ys)
right_other x y xs ys e = (y ∷ ys, rw (cons_other x y xs ys e) refl)

-- what is shared begins the first
common_left : (xs ys : List ℕ) → IsPrefix (common xs ys) xs
common_left [] ys = ([], refl)
common_left (x ∷ xs) [] = (x ∷ xs, refl)
common_left (x ∷ xs) (y ∷ ys) = elim (cases_Bool (x == y)) [ inl e ↦ left_same x y xs ys e (common_left xs ys) | inr e ↦ left_other x y xs ys e ]

-- and the second
common_right : (xs ys : List ℕ) → IsPrefix (common xs ys) ys
common_right [] ys = (ys, refl)
common_right (x ∷ xs) [] = ([], refl)
common_right (x ∷ xs) (y ∷ ys) = elim (cases_Bool (x == y)) [ inl e ↦ right_same x y xs ys e (common_right xs ys) | inr e ↦ right_other x y xs ys e ]

-- what both begin with is no longer
prefix_le : (fs xs ys : List ℕ) → length fs ≤ length (common (fs ++ xs) (fs ++ ys))
prefix_le fs xs ys = rw (common_shared fs xs ys) (omega (arith, length-append fs (common xs ys)))

-- no prefix of both is longer
prefixes_le : (fs x y : List ℕ) → IsPrefix fs x → IsPrefix fs y → length fs ≤ length (common x y)
prefixes_le fs x y p q = rw (p.1, q.1) (prefix_le fs p.0 q.0)

-- so it is the longest
pub common-longest : (x y : List ℕ) → IsLongestShared (common x y) x y
common-longest x y = record { left = common_left x y; right = common_right x y; longest = λ other p q. prefixes_le other x y p q }

-- there is no other of that length
same_prefix : (fs gs x : List ℕ) → length fs ≡ length gs → IsPrefix fs x → IsPrefix gs x → fs ≡ gs
same_prefix fs gs x e p q = (same_parts fs gs p.0 q.0 e (sym p.1 ∙ q.1)).0

-- there is one longest
shared-common : (shared x y : List ℕ) → IsLongestShared shared x y → shared ≡ common x y
shared-common shared x y h =
    let c = common-longest x y in
    same_prefix shared (common x y) x (omega (arith, c.longest shared h.left h.right, h.longest (common x y) c.left c.right)) h.left c.left

-- the line is that behind the longest shared prefix
pub verdict-line : (x y shared : List ℕ) → IsLongestShared shared x y → x ≢ y → verdict x y ≡ NotTable (feeds shared + 1)
verdict-line x y shared h other =
    elim (cases_Bool (bytes_eq x y)) [
      | inl e ↦ absurd (other ((bytes_eq-Decides x y).0 e))
      | inr e ↦ verdict_of-false x y e ∙ ap (λ l. NotTable (feeds l + 1)) (sym (shared-common shared x y h))
    ]

-- ---- a listing and its scenario

-- a table is a listing
listing_found : (input : List ℕ) → IsVerdict input Table → IsListing input
listing_found input v = (v.0, v.1, verdict-table input (listing_run v.0) (sym v.2))

-- a listing is a table
listing_table : (input : List ℕ) → IsListing input → IsVerdict input Table
listing_table input l = (l.0, l.1, sym (verdict-same input (listing_run l.0) l.2))

-- both
pub table-listing : (input : List ℕ) → (IsVerdict input Table → IsListing input) × (IsListing input → IsVerdict input Table)
table-listing input = (listing_found input, listing_table input)

-- bytes that are UTF-8 have no fault of it
no_fault : (bytes : List ℕ) → is_utf8 bytes ≡ true → utf8_fault bytes ≡ None
no_fault bytes h = rw h refl

-- the canonical text is ASCII, and so UTF-8
pub canon-utf8 : (sc : Scenario) → IsScenario sc → utf8_fault (canon sc) ≡ None
canon-utf8 sc h = no_fault (canon sc) (is_utf8-from_IsUtf8 (canon sc) (IsUtf8-from_ascii (canon sc) (canon-ascii sc h)))

-- the canonical text is a prefix of a listing
pub cut-run : (sc : Scenario) → IsScenario sc → cut (listing_run sc) ≡ canon sc
unfolding listing
cut-run sc h = cut-canon sc _ h

-- the listing of a run is a table
pub run-table : (sc : Scenario) → IsScenario sc → IsVerdict (listing_run sc) Table
run-table sc h = listing_table (listing_run sc) (sc, subst (λ t. Means t sc) (sym (cut-run sc h)) (Means-canon sc h), refl)
