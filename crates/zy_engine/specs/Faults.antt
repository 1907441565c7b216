-- The faults of an engine.
use Rattle.std.specs.Prelude.{ℕ}
use Rattle.zy_io.specs.declared.reading.ReadFault.{ReadFault}
use Rattle.zy_io.specs.declared.reading.ReadFault.TheVariants as reading
use Rattle.zy_io.specs.declared.writing.TextFault.{TextFault}
use Rattle.zy_io.specs.declared.writing.TextFault.TheVariants as writing
use Rattle.zy_asm.specs.declared.faults.AsmKind.{AsmKind}
use Rattle.zy_asm.specs.declared.faults.AsmKind.TheVariants as kinds
use Rattle.zy_asm.specs.declared.faults.LineFault.{LineFault}
use Rattle.zy_asm.specs.Reasons.{kind_of}
use Rattle.zy_image.specs.declared.faults.LoadFault.{LoadFault}
use Rattle.zy_image.specs.declared.faults.LoadFault.TheVariants as loading
use Rattle.zy_image.specs.declared.refusal.ImageRefusal.{ImageRefusal}
use Rattle.zy_engine.specs.declared.faults.BenchFault.{BenchFault}
use Rattle.zy_engine.specs.declared.faults.BenchFault.TheVariants.{Input, Image, TooLong, Read, Write, Memory}

abbrev pub of_load_fault : LoadFault → ImageRefusal → BenchFault
of_load_fault loading.Memory r = Memory
of_load_fault _ r = Image r

abbrev pub of_image_refusal : ImageRefusal → BenchFault
of_image_refusal r = of_load_fault r.fault r

abbrev pub of_kind : AsmKind → LineFault → BenchFault
of_kind kinds.Memory r = Memory
of_kind _ r = Input r

abbrev pub of_refusal : LineFault → BenchFault
of_refusal r = of_kind (kind_of r.reason) r

abbrev pub of_reading : ReadFault → BenchFault
of_reading reading.Read = Read
of_reading reading.TooLong = TooLong
of_reading reading.Memory = Memory

abbrev pub of_writing : TextFault → BenchFault
of_writing writing.Write = Write
of_writing writing.Memory = Memory

abbrev pub status_of : BenchFault → ℕ
status_of (Input r) = 1
status_of (Image r) = 1
status_of TooLong = 1
status_of Memory = 3
status_of Read = 5
status_of Write = 5

-- how many calls of the writer failed or took no byte
abbrev pub writes_failed : BenchFault → ℕ
writes_failed Write = 1
writes_failed _ = 0

-- a fault after which nothing was written
abbrev pub IsQuiet : BenchFault → Type 0
IsQuiet (Input r) = Unit {0}
IsQuiet (Image r) = Unit {0}
IsQuiet TooLong = Unit {0}
IsQuiet Read = Unit {0}
IsQuiet Write = ⊥
IsQuiet Memory = ⊥
