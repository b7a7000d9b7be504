-- The gates of operators: the proposal that each needs (WebAssembly core specification, "Change
-- History"; the flags are the crate's own).
use Rattle.std.specs.Prelude.{Bool, true}
use Rattle.validate_types.specs.Features.{has, floats, reference_types, bulk_memory, bulk_memory_opt}
use Rattle.validate_types.specs.Features.{sign_extension, saturating_float_to_int, threads, exceptions}
use Rattle.validate_types.specs.Features.{shared_everything_threads, legacy_exceptions, tail_call}
use Rattle.validate_types.specs.Features.{function_references, gc, custom_descriptors, stack_switching}
use Rattle.validate_types.specs.Features.{memory_control, wide_arithmetic, acquire_release_atomics}
use Rattle.validate_types.specs.declared.features.WasmFeatures.{WasmFeatures}
use Rattle.validate_types.specs.declared.gate.Gate.{Gate}
use Rattle.validate_types.specs.declared.gate.Gate.TheVariants.{Mvp, Floats, ReferenceTypes, BulkMemory}
use Rattle.validate_types.specs.declared.gate.Gate.TheVariants.{Exceptions, LegacyExceptions}
use Rattle.validate_types.specs.declared.gate.Gate.TheVariants.{SharedEverythingThreads}
use Rattle.validate_types.specs.declared.gate.Gate.TheVariants.{BulkMemoryOpt, SignExtension}
use Rattle.validate_types.specs.declared.gate.Gate.TheVariants.{SaturatingFloatToInt, Threads, TailCall}
use Rattle.validate_types.specs.declared.gate.Gate.TheVariants.{FunctionReferences, Gc, MemoryControl}
use Rattle.validate_types.specs.declared.gate.Gate.TheVariants.{StackSwitching, CustomDescriptors}
use Rattle.validate_types.specs.declared.gate.Gate.TheVariants.{WideArithmetic, AcquireReleaseAtomics}

abbrev pub is_open : WasmFeatures → Gate → Bool
is_open features Mvp = true
is_open features Floats = has features floats
is_open features ReferenceTypes = has features reference_types
is_open features BulkMemory = has features bulk_memory
is_open features BulkMemoryOpt = has features bulk_memory_opt
is_open features SignExtension = has features sign_extension
is_open features SaturatingFloatToInt = has features saturating_float_to_int
is_open features Threads = has features threads
is_open features SharedEverythingThreads = has features shared_everything_threads
is_open features Exceptions = has features exceptions
is_open features LegacyExceptions = has features legacy_exceptions
is_open features TailCall = has features tail_call
is_open features FunctionReferences = has features function_references
is_open features Gc = has features gc
is_open features CustomDescriptors = has features custom_descriptors
is_open features StackSwitching = has features stack_switching
is_open features MemoryControl = has features memory_control
is_open features WideArithmetic = has features wide_arithmetic
is_open features AcquireReleaseAtomics = has features acquire_release_atomics
