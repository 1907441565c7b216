-- The faults of the engine.
use Rattle.std.specs.Prelude.{ℕ, Result, Err}
use Rattle.zy_io.specs.declared.reading.ReadFault.{ReadFault}
use Rattle.zy_logs.specs.declared.faults.LogFault.{LogFault}
use Rattle.zy_logs.specs.declared.faults.LogFault.TheVariants as reading
use Rattle.zy_json.specs.declared.faults.JsonLogFault.{JsonLogFault}
use Rattle.zy_json.specs.declared.faults.JsonLogFault.TheVariants as objects
use Rattle.zy_engine.specs.declared.faults.BenchFault.TheVariants as bench
use Rattle.zy_engine.specs.Faults as engine
use Rattle.zy_order_engine.specs.declared.faults.BelowFault.{BelowFault}
use Rattle.zy_order_engine.specs.declared.faults.BelowFault.TheVariants as misread
use Rattle.zy_order_engine.specs.declared.faults.OrderFault.{OrderFault}
use Rattle.zy_order_engine.specs.declared.faults.OrderFault.TheVariants.{Bench, Log, Json}

-- the fault that comes of one of the reader of logs, and of one of the reader of objects
abbrev pub of_logs : LogFault → BelowFault
of_logs (reading.Refused r) = misread.Log r
of_logs reading.Memory = misread.Memory

abbrev pub of_objects : JsonLogFault → BelowFault
of_objects (objects.Refused r) = misread.Json r
of_objects objects.Memory = misread.Memory

-- the fault that comes of one below the scenario
abbrev pub of_below : BelowFault → OrderFault
of_below (misread.Log r) = Log r
of_below (misread.Json r) = Json r
of_below misread.Memory = Bench bench.Memory

abbrev pub status_of : OrderFault → ℕ
status_of (Bench f) = engine.status_of f
status_of (Log r) = 1
status_of (Json r) = 1

-- the fault that is reported of one of reading
abbrev pub of_reading : ReadFault → OrderFault
of_reading f = Bench (engine.of_reading f)

-- how many calls of the writer failed or took no byte
abbrev pub failed_writes : {X : Type 0} → Result X OrderFault → ℕ
failed_writes (Err (Bench bench.Write)) = 1
failed_writes _ = 0

-- a fault after which nothing was written
abbrev pub IsQuiet : OrderFault → Type 0
IsQuiet (Bench bench.Write) = ⊥
IsQuiet (Bench bench.Memory) = ⊥
IsQuiet _ = Unit {0}
