-- A version is known by its word, and by the first bytes of its images.
use Rattle.std.proofs.Common.{◌≡◌, ℕ, List, Some, refl}
use Rattle.std.specs.Str.{bytes_eq}
use Rattle.zy_isa.specs.declared.version.Version.{Version}
use Rattle.zy_isa.specs.declared.version.Version.TheVariants.{One, Two}
use Rattle.zy_isa.specs.Versions.{word, magic, versions, named, version_of_magic}
use Rattle.zy_isa.proofs.ResultLemmas.{same}
use Rattle.zy_isa.proofs.OperationLemmas.{found_passes}

-- the version that is found by a word has that word
pub named_is : (w : List ℕ) (v : Version) → named w ≡ Some v → w ≡ word v
named_is w v h = same w (word v) (found_passes (λ x. bytes_eq w (word x)) versions v h)

-- the word of a version finds it
pub named_back : (v : Version) → named (word v) ≡ Some v
named_back One = refl
named_back Two = refl

-- the version that is found by the first bytes of an image has these bytes
pub version_of_magic_is : (bytes : List ℕ) (v : Version) → version_of_magic bytes ≡ Some v → bytes ≡ magic v
version_of_magic_is bytes v h = same bytes (magic v) (found_passes (λ x. bytes_eq bytes (magic x)) versions v h)

-- the first bytes of a version's images find it
pub version_of_magic_back : (v : Version) → version_of_magic (magic v) ≡ Some v
version_of_magic_back One = refl
version_of_magic_back Two = refl
