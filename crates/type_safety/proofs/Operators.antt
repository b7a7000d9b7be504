-- Every operator of the table keeps what the law asks of operators.
use Rattle.std.proofs.Common.{◌≡◌, ℕ, zero, suc, pred, Bool, true, false, List, [], ◌∷◌, ◌++◌, length, map, take, Option, Some, None, refl, sym, ap, ◌∙◌, subst, slice_get, is_none}
use Rattle.std.specs.Option.{option_map}
use Rattle.validate_resources.specs.Context.{IsLawful, is_number_or_vector, is_same_number_or_vector}
use Rattle.validate_types.specs.declared.heap.AbstractHeapType.{AbstractHeapType}
use Rattle.validate_types.specs.declared.heap.AbstractHeapType.TheVariants.{Any, Extern, I31, Array as AnyArray}
use Rattle.validate_types.specs.declared.types.FieldType.{FieldType}
use Rattle.validate_types.specs.declared.types.GlobalType.{GlobalType}
use Rattle.validate_types.specs.Refs.{nullable_reference}
use Rattle.validate_visit.specs.Gates.{gate_of}
use Rattle.validate_visit.specs.Numbers.{number_type, integer_type, packed_type, access_type}
use Rattle.validate_visit.specs.declared.op.Op.{Op}
use Rattle.validate_visit.specs.declared.op.Op.TheVariants.{Control, Numeric, Convert, Memory, Atomic, Reference, Table, Struct, Array, Exception, Continuation}
use Rattle.validate_visit.specs.declared.op.Op.TheVariants.{Shared}
use Rattle.validate_visit.specs.declared.op.ControlOp.{ControlOp}
use Rattle.validate_visit.specs.declared.op.ControlOp.TheVariants.{Unreachable, Nop, Block as BlockOp, Loop as LoopOp, If as IfOp, Else as ElseOp, End, Br, BrIf, BrTable, Return, Call, ReturnCall, CallIndirect, ReturnCallIndirect, CallRef, ReturnCallRef, Drop, Select, TypedSelect, TypedSelectMulti, LocalGet, LocalSet, LocalTee, GlobalGet, GlobalSet}
use Rattle.validate_visit.specs.declared.op.NumericOp.{NumericOp}
use Rattle.validate_visit.specs.declared.op.NumericOp.TheVariants.{I32Const}
use Rattle.validate_visit.specs.declared.op.ConvertOp.{ConvertOp}
use Rattle.validate_visit.specs.declared.op.ConvertOp.TheVariants.{Wrap}
use Rattle.validate_visit.specs.declared.op.MemoryOp.{MemoryOp}
use Rattle.validate_visit.specs.declared.op.MemoryOp.TheVariants.{Load, LoadPacked, Store, StorePacked, MemorySize, MemoryGrow, MemoryInit, DataDrop, MemoryCopy, MemoryFill, MemoryDiscard}
use Rattle.validate_visit.specs.declared.op.AtomicOp.{AtomicOp}
use Rattle.validate_visit.specs.declared.op.AtomicOp.TheVariants.{AtomicNotify, AtomicWait, AtomicFence, AtomicLoad, AtomicStore, AtomicRmw, AtomicCmpxchg, Pause}
use Rattle.validate_visit.specs.declared.op.ReferenceOp.{ReferenceOp}
use Rattle.validate_visit.specs.declared.op.ReferenceOp.TheVariants.{RefNull, RefIsNull, RefFunc, RefAsNonNull, BrOnNull, BrOnNonNull, RefEq, RefTestNonNull, RefTestNullable, RefCastNonNull, RefCastNullable, BrOnCast, BrOnCastFail, RefGetDesc, RefCastDescEqNonNull, RefCastDescEqNullable, BrOnCastDescEq, BrOnCastDescEqFail, RefI31, I31Get, AnyConvertExtern, ExternConvertAny}
use Rattle.validate_visit.specs.declared.op.TableOp.{TableOp}
use Rattle.validate_visit.specs.declared.op.TableOp.TheVariants.{TableGet, TableSet, TableGrow, TableSize, TableFill, TableInit, ElemDrop, TableCopy}
use Rattle.validate_visit.specs.declared.op.StructOp.{StructOp}
use Rattle.validate_visit.specs.declared.op.StructOp.TheVariants.{StructNew, StructNewDefault, StructNewDesc, StructNewDefaultDesc, StructGet, StructGetPacked, StructSet}
use Rattle.validate_visit.specs.declared.op.ArrayOp.{ArrayOp}
use Rattle.validate_visit.specs.declared.op.ArrayOp.TheVariants.{ArrayNew, ArrayNewDefault, ArrayNewFixed, ArrayNewData, ArrayNewElem, ArrayGet, ArrayGetPacked, ArraySet, ArrayLen, ArrayFill, ArrayCopy, ArrayInitData, ArrayInitElem}
use Rattle.validate_visit.specs.declared.op.ExceptionOp.{ExceptionOp}
use Rattle.validate_visit.specs.declared.op.ExceptionOp.TheVariants.{TryTable as TryTableOp, Throw, ThrowRef, Try, Catch as CatchOp, CatchAll, Delegate, Rethrow}
use Rattle.validate_visit.specs.declared.shared.SharedOp.{SharedOp}
use Rattle.validate_visit.specs.declared.shared.SharedOp.TheVariants.{Global as SharedGlobal, Table as SharedTable, Struct as SharedStruct, Array as SharedArray, RefI31Shared}
use Rattle.validation_rules.specs.Calls.{global_type, callee, tail_call_row}
use Rattle.validation_rules.specs.Context.{Signature, ValType, I32, I64, F32, F64, V128, BlockType, Context, AllBelow, block_signature}
use Rattle.validation_rules.specs.Access.{is_loadable, is_storable, address_types, atomic_address_types, access_row}
use Rattle.validation_rules.specs.Memories.{memory_address_type, memory_copy_row_for}
use Rattle.validation_rules.specs.Fits.{MaybeType, Known}
use Rattle.validation_rules.specs.Indirect.{type_reference, function_place, function_reference, typed_callee, call_operand_row, return_call_operand_row}
use Rattle.validation_rules.specs.Found.{found_pushes, measure_row, converted_operand, ref_eq_pushes}
use Rattle.validation_rules.specs.Casts.{cast_type, types_on_cast, types_on_cast_fail}
use Rattle.validation_rules.specs.Descriptors.{descriptor_at}
use Rattle.validation_rules.specs.Exact.{allocated_reference}
use Rattle.validation_rules.specs.Structs.{struct_type, struct_field}
use Rattle.validation_rules.specs.Arrays.{array_type, array_copy_row_for}
use Rattle.validation_rules.specs.References.{null_heap, null_test_pushes, non_null_pushes}
use Rattle.validation_rules.specs.Tables.{table_type, table_init_row_for, table_copy_row_for}
use Rattle.validation_rules.specs.Exceptions.{exception_types, catch_clauses, operator_catching, catch_operator, exception_operator}
use Rattle.validation_rules.specs.Branches.{has_label}
use Rattle.validation_rules.specs.Rows.{FrameKind, Block, If, Loop, TryTable, LegacyTry, Head, params, Opens, BeginsElse, BeginsCatch, Ends, Delegates, Clause, is_if, is_instruction, Plain, Looks, Row, Operator, guard}
use Rattle.validation_rules.specs.Operators.{plain_row, plain_row_if, checked_block, opening_operator_if, opener, staying_operator, row_operator, lookup_row, drop_pushes, select_pushes, lookups_row, struct_row, array_row, control_operator, numeric_row, convert_row, memory_row, atomic_row, reference_row, table_row, shared_row, ungated_operator, operator, operators}
use Rattle.validation_rules.proofs.Steps.{some_injective, guard_some}
use Rattle.type_safety.proofs.Laws.{IsMonotoneAt, IsLawfulOperator}
use Rattle.type_safety.proofs.Branches.{br_lawful, br_if_lawful, br_table_lawful, tail_call_lawful}
use Rattle.type_safety.proofs.Found.{measure_monotone, converted_monotone, ref_eq_monotone}
use Rattle.type_safety.proofs.Casts.{cast_branch_lawful}
use Rattle.type_safety.proofs.Continuations.{continuations_lawful}
use Rattle.type_safety.proofs.Descriptors.{get_desc_lawful, cast_desc_eq_lawful, descriptor_branch_lawful}
use Rattle.type_safety.proofs.References.{is_null_monotone, non_null_monotone, br_on_null_lawful, br_on_non_null_lawful}
use Rattle.type_safety.proofs.Plain.{plain_monotone, plain_below, below_front, no_target, found_lawful, flat_lawful, plain_lawful, looking_lawful, delimiting_lawful, closing_lawful, behind_lawful}

module _ (cx : Context) (laws : IsLawful cx.of_module) where
  -- ---- the operators of the table
  drop_monotone : (xs ys : List ValType) (pushed : List MaybeType) → AllBelow cx ys xs → drop_pushes (map Known xs) ≡ Some pushed → IsMonotoneAt cx (Looks 1 drop_pushes) xs ys pushed
  drop_monotone (x ∷ []) (y ∷ []) pushed b h =
      record { upper = []; lower = []; known = some_injective _ _ (sym h); passes = refl; below = λ us c. c }
  drop_monotone [] ys pushed b h = absurd cc
  drop_monotone (x ∷ w ∷ xs) ys pushed b h = absurd cc
  drop_monotone (x ∷ []) [] pushed b h = elim b [ ]
  drop_monotone (x ∷ []) (y ∷ z ∷ ys) pushed b h = elim b.1 [ ]

  -- the number or vector types on both sides
  number_twice : (t u : ValType) → is_same_number_or_vector t u ≡ true → (is_number_or_vector t ≡ true) × (is_number_or_vector u ≡ true)
  number_twice I32 I32 h = (refl, refl)
  number_twice I64 I64 h = (refl, refl)
  number_twice F32 F32 h = (refl, refl)
  number_twice F64 F64 h = (refl, refl)
  number_twice V128 V128 h = (refl, refl)
  number_twice _ _ h = absurd cc

  select_monotone : (xs ys : List ValType) (pushed : List MaybeType) → AllBelow cx ys xs → select_pushes cx (map Known xs) ≡ Some pushed → IsMonotoneAt cx (Looks 3 (select_pushes cx)) xs ys pushed
  select_monotone (a ∷ b ∷ c ∷ []) (a' ∷ b' ∷ c' ∷ []) pushed below h =
      let g = guard_some (cx.of_module.below c I32) _ _ h in
      let k = select_one (is_same_number_or_vector a b) a pushed g.1 in
      let n = number_twice a b k.0 in
      let ea = laws.number a' a below.0 n.0 in
      let eb = laws.number b' b below.1.0 n.1 in
      let ec = laws.transitive c' c I32 below.1.1.0 g.0 in
      record {
        upper = a ∷ [];
        lower = a ∷ [];
        known = sym k.1;
        passes = ap (λ t. guard t (option_map (λ (x : MaybeType). x ∷ []) (guard (is_same_number_or_vector a' b') (Some (Known a'))))) ec ∙ ap (λ t. option_map (λ (x : MaybeType). x ∷ []) (guard (is_same_number_or_vector t b') (Some (Known t)))) ea ∙ ap (λ t. option_map (λ (x : MaybeType). x ∷ []) (guard (is_same_number_or_vector a t) (Some (Known a)))) eb ∙ ap (λ t. option_map (λ (x : MaybeType). x ∷ []) (guard t (Some (Known a)))) k.0;
        below = λ us e. e;
      }
    where
      select_one : (s : Bool) (t : ValType) (pushed : List MaybeType) → option_map (λ (x : MaybeType). x ∷ []) (guard s (Some (Known t))) ≡ Some pushed → (s ≡ true) × (Known t ∷ [] ≡ pushed)
      select_one true t pushed h = (refl, some_injective _ _ h)
      select_one false t pushed h = absurd cc
  select_monotone [] ys pushed b h = absurd cc
  select_monotone (x ∷ []) ys pushed b h = absurd cc
  select_monotone (x ∷ y ∷ []) ys pushed b h = absurd cc
  select_monotone (x ∷ y ∷ z ∷ w ∷ xs) ys pushed b h = absurd cc
  select_monotone (x ∷ y ∷ z ∷ []) [] pushed b h = elim b [ ]
  select_monotone (x ∷ y ∷ z ∷ []) (a ∷ []) pushed b h = elim b.1 [ ]
  select_monotone (x ∷ y ∷ z ∷ []) (a ∷ c ∷ []) pushed b h = elim b.1.1 [ ]
  select_monotone (x ∷ y ∷ z ∷ []) (a ∷ c ∷ d ∷ e ∷ ys) pushed b h = elim b.1.1.1 [ ]

  -- a row of a type is plain, and so is the one where there is no type
  typed_lawful : (premise : Bool) (o : Option ValType) (reads sets : Option ℕ) (expected push : ValType → List ValType) → IsLawfulOperator cx (row_operator (lookup_row o (λ t. record { premise = premise; reads = reads; type = Plain (expected t) [] (push t); sets = sets; targets = []; clauses = []; ends_live = false })))
  typed_lawful premise None reads sets expected push = plain_lawful cx laws false None None [] [] false
  typed_lawful premise (Some t) reads sets expected push = plain_lawful cx laws premise reads sets (expected t) (push t) false

  pub opens_lawful : (kind : FrameKind) (above : List ValType) (premise : Bool) (bt : BlockType) → IsLawfulOperator cx (opening_operator_if premise cx kind above bt)
  opens_lawful kind above premise bt =
      let ps = (block_signature cx.of_module bt).params in
      record {
        row = λ hs. no_target cx laws hs _ refl (plain_monotone cx laws (ps ++ above) [] []);
        closing = λ hs i. absurd cc;
        opening = λ hs h e. refl;
        takes_params = λ hs h ys pushed e i g.
            let d : record { kind = kind; block_type = bt } ≡ h = cc in
            subst (λ (k : Head). AllBelow cx (take (length (params cx k)) ys) (params cx k)) d
            (below_front cx laws ps above ys (plain_below cx laws (ps ++ above) [] [] ys pushed g));
      }

  opener_lawful : (kind : FrameKind) (above : List ValType) (declared : BlockType) (o : Option BlockType) → IsLawfulOperator cx (opener cx kind above declared o)
  opener_lawful kind above declared (Some bt) = opens_lawful kind above true bt
  opener_lawful kind above declared None = opens_lawful kind above false declared

  call_lawful : (o : Option Signature) → IsLawfulOperator cx (row_operator (lookup_row o (λ s. plain_row s.params s.results)))
  call_lawful None = plain_lawful cx laws _ _ _ _ _ _
  call_lawful (Some s) = plain_lawful cx laws _ _ _ _ _ _

  global_get_lawful : (o : Option GlobalType) → IsLawfulOperator cx (row_operator (lookup_row o (λ g. plain_row [] (g.content_type ∷ []))))
  global_get_lawful None = plain_lawful cx laws _ _ _ _ _ _
  global_get_lawful (Some g) = plain_lawful cx laws _ _ _ _ _ _

  global_set_lawful : (o : Option GlobalType) → IsLawfulOperator cx (row_operator (lookup_row o (λ g. plain_row_if g.mutable (g.content_type ∷ []) [])))
  global_set_lawful None = plain_lawful cx laws _ _ _ _ _ _
  global_set_lawful (Some g) = plain_lawful cx laws _ _ _ _ _ _

  -- a row for an address, or for what else a look-up finds, and the one where it finds nothing
  by_lookup_lawful : {A : Type 0} (o : Option A) (row : A → Row) → ((t : A) → IsLawfulOperator cx (row_operator (row t))) → IsLawfulOperator cx (row_operator (lookup_row o row))
  by_lookup_lawful None row h = plain_lawful cx laws _ _ _ _ _ _
  by_lookup_lawful (Some t) row h = h t

  -- ---- calls of a function that an operand names

  call_by_lawful : (names : Option ValType) (i : ℕ) → IsLawfulOperator cx (row_operator (call_operand_row cx names i))
  call_by_lawful names i =
      by_lookup_lawful names (λ t. lookup_row (typed_callee cx i) (λ s. plain_row (s.params ++ t ∷ []) s.results))
      (λ t. by_lookup_lawful (typed_callee cx i) (λ s. plain_row (s.params ++ t ∷ []) s.results) (λ s. plain_lawful cx laws _ _ _ _ _ _))

  return_call_lawful : (o : Option Signature) → IsLawfulOperator cx (staying_operator (λ hs. lookup_row o (λ s. tail_call_row cx hs s.params s.results)))
  return_call_lawful o =
      flat_lawful cx laws _ (λ hs. found_lawful cx laws hs o (λ s. tail_call_row cx hs s.params s.results) (λ s. tail_call_lawful cx laws hs s.params s.results))

  return_call_by_lawful : (names : Option ValType) (i : ℕ) → IsLawfulOperator cx (staying_operator (λ hs. return_call_operand_row cx hs names i))
  return_call_by_lawful names i =
      flat_lawful cx laws _
      (λ hs. found_lawful cx laws hs names (λ t. lookup_row (typed_callee cx i) (λ s. tail_call_row cx hs (s.params ++ t ∷ []) s.results))
      (λ t. found_lawful cx laws hs (typed_callee cx i) (λ s. tail_call_row cx hs (s.params ++ t ∷ []) s.results) (λ s. tail_call_lawful cx laws hs (s.params ++ t ∷ []) s.results)))

  control_lawful : (op : ControlOp) → IsLawfulOperator cx (control_operator cx op)
  control_lawful Unreachable = plain_lawful cx laws _ _ _ _ _ _
  control_lawful Nop = plain_lawful cx laws _ _ _ _ _ _
  control_lawful (BlockOp bt) = opener_lawful Block [] bt (checked_block cx bt)
  control_lawful (LoopOp bt) = opener_lawful Loop [] bt (checked_block cx bt)
  control_lawful (IfOp bt) = opener_lawful If (I32 ∷ []) bt (checked_block cx bt)
  control_lawful ElseOp = closing_lawful cx laws BeginsElse refl
  control_lawful End = closing_lawful cx laws Ends refl
  control_lawful (Br d) = flat_lawful cx laws _ (λ hs. br_lawful cx laws hs d)
  control_lawful (BrIf d) = flat_lawful cx laws _ (λ hs. br_if_lawful cx laws hs d)
  control_lawful (BrTable table) = flat_lawful cx laws _ (λ hs. br_table_lawful cx laws hs table.complete table.targets.now table.default)
  control_lawful Return = flat_lawful cx laws _ (λ hs. br_lawful cx laws hs (pred (length hs)))
  control_lawful (Call f) = call_lawful (callee cx f)
  control_lawful (ReturnCall f) = return_call_lawful (callee cx f)
  control_lawful (CallIndirect type table) = call_by_lawful (function_place cx table) type
  control_lawful (ReturnCallIndirect type table) = return_call_by_lawful (function_place cx table) type
  control_lawful (CallRef type) = call_by_lawful (function_reference cx type) type
  control_lawful (ReturnCallRef type) = return_call_by_lawful (function_reference cx type) type
  control_lawful Drop = looking_lawful cx laws true 1 drop_pushes drop_monotone
  control_lawful Select = looking_lawful cx laws true 3 (select_pushes cx) select_monotone
  control_lawful (TypedSelect t) = typed_lawful true (cx.of_module.canonical_type cx.features t) None None (λ u. u ∷ u ∷ I32 ∷ []) (λ u. u ∷ [])
  control_lawful (TypedSelectMulti ts) = plain_lawful cx laws _ _ _ _ _ _
  control_lawful (LocalGet i) = typed_lawful true (slice_get cx.locals i) (Some i) None (λ t. []) (λ t. t ∷ [])
  control_lawful (LocalSet i) = typed_lawful true (slice_get cx.locals i) None (Some i) (λ t. t ∷ []) (λ t. [])
  control_lawful (LocalTee i) = typed_lawful true (slice_get cx.locals i) None (Some i) (λ t. t ∷ []) (λ t. t ∷ [])
  control_lawful (GlobalGet i) = global_get_lawful (global_type cx i)
  control_lawful (GlobalSet i) = global_set_lawful (global_type cx i)

  -- all rows of the group are plain: a new one needs no clause
  numeric_lawful : (op : NumericOp) → IsLawfulOperator cx (row_operator (numeric_row op))
  numeric_lawful (I32Const x) = plain_lawful cx laws _ _ _ _ _ _
  numeric_lawful _ = plain_lawful cx laws _ _ _ _ _ _

  convert_lawful : (op : ConvertOp) → IsLawfulOperator cx (row_operator (convert_row op))
  convert_lawful Wrap = plain_lawful cx laws _ _ _ _ _ _
  convert_lawful _ = plain_lawful cx laws _ _ _ _ _ _

  access_lawful : (o : Option (List ValType)) (above push : List ValType) → IsLawfulOperator cx (row_operator (access_row o above push))
  access_lawful None above push = plain_lawful cx laws _ _ _ _ _ _
  access_lawful (Some types) above push = plain_lawful cx laws _ _ _ _ _ _

  memory_lawful : (op : MemoryOp) → IsLawfulOperator cx (row_operator (memory_row cx op))
  memory_lawful (Load t arg) = access_lawful (address_types cx is_loadable arg) [] (number_type t ∷ [])
  memory_lawful (LoadPacked packed sign arg) = access_lawful (address_types cx is_loadable arg) [] (packed_type packed ∷ [])
  memory_lawful (Store t arg) = access_lawful (address_types cx is_storable arg) (number_type t ∷ []) []
  memory_lawful (StorePacked packed arg) = access_lawful (address_types cx is_storable arg) (packed_type packed ∷ []) []
  memory_lawful (MemorySize m) = by_lookup_lawful (memory_address_type cx.of_module m) _ (λ t. plain_lawful cx laws _ _ _ _ _ _)
  memory_lawful (MemoryGrow m) = by_lookup_lawful (memory_address_type cx.of_module m) _ (λ t. plain_lawful cx laws _ _ _ _ _ _)
  memory_lawful (MemoryInit segment m) = by_lookup_lawful (memory_address_type cx.of_module m) _ (λ t. plain_lawful cx laws _ _ _ _ _ _)
  memory_lawful (DataDrop segment) = plain_lawful cx laws _ _ _ _ _ _
  memory_lawful (MemoryCopy dst src) = by_lookup_lawful (memory_address_type cx.of_module dst) (λ t. lookup_row (memory_address_type cx.of_module src) (memory_copy_row_for t)) (λ t. by_lookup_lawful _ (memory_copy_row_for t) (λ u. plain_lawful cx laws _ _ _ _ _ _))
  memory_lawful (MemoryFill m) = by_lookup_lawful (memory_address_type cx.of_module m) _ (λ t. plain_lawful cx laws _ _ _ _ _ _)
  memory_lawful (MemoryDiscard m) = by_lookup_lawful (memory_address_type cx.of_module m) _ (λ t. plain_lawful cx laws _ _ _ _ _ _)

  atomic_lawful : (op : AtomicOp) → IsLawfulOperator cx (row_operator (atomic_row cx op))
  atomic_lawful (AtomicNotify arg) = access_lawful (atomic_address_types cx.of_module arg) (I32 ∷ []) (I32 ∷ [])
  atomic_lawful (AtomicWait t arg) = access_lawful (atomic_address_types cx.of_module arg) (integer_type t ∷ I64 ∷ []) (I32 ∷ [])
  atomic_lawful (AtomicFence ordering) = plain_lawful cx laws _ _ _ _ _ _
  atomic_lawful (AtomicLoad access_row arg) = access_lawful (atomic_address_types cx.of_module arg) [] (access_type access_row ∷ [])
  atomic_lawful (AtomicStore access_row arg) = access_lawful (atomic_address_types cx.of_module arg) (access_type access_row ∷ []) []
  atomic_lawful (AtomicRmw access_row op arg) = access_lawful (atomic_address_types cx.of_module arg) (access_type access_row ∷ []) (access_type access_row ∷ [])
  atomic_lawful (AtomicCmpxchg access_row arg) = access_lawful (atomic_address_types cx.of_module arg) (access_type access_row ∷ access_type access_row ∷ []) (access_type access_row ∷ [])
  atomic_lawful Pause = plain_lawful cx laws _ _ _ _ _ _

  measure_lawful : (a : AbstractHeapType) → IsLawfulOperator cx (row_operator (measure_row cx a))
  measure_lawful a = looking_lawful cx laws _ 1 (found_pushes cx.of_module a (λ x. Known I32)) (measure_monotone cx laws a)

  reference_lawful : (op : ReferenceOp) → IsLawfulOperator cx (staying_operator (λ hs. reference_row cx hs op))
  reference_lawful (RefNull h) = by_lookup_lawful (null_heap cx h) _ (λ k. plain_lawful cx laws _ _ _ _ _ _)
  reference_lawful RefIsNull = looking_lawful cx laws _ 1 null_test_pushes (is_null_monotone cx laws)
  reference_lawful (RefFunc f) = by_lookup_lawful (cx.of_module.type_id_of f) _ (λ id. plain_lawful cx laws _ _ _ _ _ _)
  reference_lawful RefAsNonNull = looking_lawful cx laws _ 1 (non_null_pushes cx []) (non_null_monotone cx laws 1 [])
  reference_lawful (BrOnNull d) = flat_lawful cx laws _ (λ hs. br_on_null_lawful cx laws hs d)
  reference_lawful (BrOnNonNull d) = flat_lawful cx laws _ (λ hs. br_on_non_null_lawful cx laws hs d)
  reference_lawful RefEq = looking_lawful cx laws _ 2 (ref_eq_pushes cx.of_module) (ref_eq_monotone cx laws)
  reference_lawful (RefTestNonNull h) = by_lookup_lawful (cast_type cx false h) _ (λ r. plain_lawful cx laws _ _ _ _ _ _)
  reference_lawful (RefTestNullable h) = by_lookup_lawful (cast_type cx true h) _ (λ r. plain_lawful cx laws _ _ _ _ _ _)
  reference_lawful (RefCastNonNull h) = by_lookup_lawful (cast_type cx false h) _ (λ r. plain_lawful cx laws _ _ _ _ _ _)
  reference_lawful (RefCastNullable h) = by_lookup_lawful (cast_type cx true h) _ (λ r. plain_lawful cx laws _ _ _ _ _ _)
  reference_lawful (BrOnCast cast) = cast_branch_lawful cx laws types_on_cast cast
  reference_lawful (BrOnCastFail cast) = cast_branch_lawful cx laws types_on_cast_fail cast
  reference_lawful (RefGetDesc i) = get_desc_lawful cx laws i
  reference_lawful (RefCastDescEqNonNull h) = cast_desc_eq_lawful cx laws false h
  reference_lawful (RefCastDescEqNullable h) = cast_desc_eq_lawful cx laws true h
  reference_lawful (BrOnCastDescEq cast) = descriptor_branch_lawful cx laws types_on_cast cast
  reference_lawful (BrOnCastDescEqFail cast) = descriptor_branch_lawful cx laws types_on_cast_fail cast
  reference_lawful RefI31 = plain_lawful cx laws _ _ _ _ _ _
  reference_lawful (I31Get sign) = measure_lawful I31
  reference_lawful AnyConvertExtern = looking_lawful cx laws _ 1 (found_pushes cx.of_module Extern (converted_operand cx.of_module Any)) (converted_monotone cx laws Extern Any)
  reference_lawful ExternConvertAny = looking_lawful cx laws _ 1 (found_pushes cx.of_module Any (converted_operand cx.of_module Extern)) (converted_monotone cx laws Any Extern)

  table_lawful : (op : TableOp) → IsLawfulOperator cx (row_operator (table_row cx op))
  table_lawful (TableInit segment i) = by_lookup_lawful (table_type cx i) (λ t. lookup_row (cx.of_module.element_at segment) (table_init_row_for cx t)) (λ t. by_lookup_lawful _ (table_init_row_for cx t) (λ r. plain_lawful cx laws _ _ _ _ _ _))
  table_lawful (ElemDrop segment) = by_lookup_lawful (cx.of_module.element_at segment) _ (λ r. plain_lawful cx laws _ _ _ _ _ _)
  table_lawful (TableCopy dst src) = by_lookup_lawful (table_type cx src) (λ from. lookup_row (table_type cx dst) (table_copy_row_for cx from)) (λ from. by_lookup_lawful _ (table_copy_row_for cx from) (λ to. plain_lawful cx laws _ _ _ _ _ _))
  table_lawful (TableGet i) = by_lookup_lawful (table_type cx i) _ (λ t. plain_lawful cx laws _ _ _ _ _ _)
  table_lawful (TableSet i) = by_lookup_lawful (table_type cx i) _ (λ t. plain_lawful cx laws _ _ _ _ _ _)
  table_lawful (TableGrow i) = by_lookup_lawful (table_type cx i) _ (λ t. plain_lawful cx laws _ _ _ _ _ _)
  table_lawful (TableSize i) = by_lookup_lawful (table_type cx i) _ (λ t. plain_lawful cx laws _ _ _ _ _ _)
  table_lawful (TableFill i) = by_lookup_lawful (table_type cx i) _ (λ t. plain_lawful cx laws _ _ _ _ _ _)

  -- a row for what two look-ups find is plain
  lookups_lawful : {A B : Type 0} (o : Option A) (p : Option B) (row : A → B → Row) → ((a : A) (b : B) → IsLawfulOperator cx (row_operator (row a b))) → IsLawfulOperator cx (row_operator (lookups_row o p row))
  lookups_lawful o p row h = by_lookup_lawful o (λ a. lookup_row p (row a)) (λ a. by_lookup_lawful p (row a) (h a))

  -- a reference that is made, and one that is taken
  abbrev made : ℕ → Option ValType
  made i = allocated_reference cx i

  abbrev taken : ℕ → Option ValType
  taken i = type_reference cx nullable_reference i

  -- a struct whose type has no descriptor
  abbrev undescribed : ℕ → Option (List FieldType)
  undescribed i = guard (is_none (descriptor_at cx.of_module i)) (struct_type cx i)

  struct_lawful : (op : StructOp) → IsLawfulOperator cx (row_operator (struct_row cx op))
  struct_lawful (StructNew i) = lookups_lawful (undescribed i) (made i) _ (λ f t. plain_lawful cx laws _ _ _ _ _ _)
  struct_lawful (StructNewDefault i) = lookups_lawful (undescribed i) (made i) _ (λ f t. plain_lawful cx laws _ _ _ _ _ _)
  struct_lawful (StructNewDesc i) = by_lookup_lawful (descriptor_at cx.of_module i) _ (λ d. lookups_lawful (struct_type cx i) (made i) _ (λ f t. plain_lawful cx laws _ _ _ _ _ _))
  struct_lawful (StructNewDefaultDesc i) = by_lookup_lawful (descriptor_at cx.of_module i) _ (λ d. lookups_lawful (struct_type cx i) (made i) _ (λ f t. plain_lawful cx laws _ _ _ _ _ _))
  struct_lawful (StructGet index) = lookups_lawful (struct_field cx index) (taken index.struct_type_index) _ (λ f t. plain_lawful cx laws _ _ _ _ _ _)
  struct_lawful (StructGetPacked sign index) = lookups_lawful (struct_field cx index) (taken index.struct_type_index) _ (λ f t. plain_lawful cx laws _ _ _ _ _ _)
  struct_lawful (StructSet index) = lookups_lawful (struct_field cx index) (taken index.struct_type_index) _ (λ f t. plain_lawful cx laws _ _ _ _ _ _)

  array_lawful : (op : ArrayOp) → IsLawfulOperator cx (row_operator (array_row cx op))
  array_lawful (ArrayNewElem i segment) = lookups_lawful (array_type cx i) (made i) _ (λ f t. plain_lawful cx laws _ _ _ _ _ _)
  array_lawful (ArrayCopy dst src) = lookups_lawful (array_type cx dst) (taken dst) (array_copy_row_for cx src) (λ to d. lookups_lawful (array_type cx src) (taken src) _ (λ f t. plain_lawful cx laws _ _ _ _ _ _))
  array_lawful (ArrayInitElem i segment) = lookups_lawful (array_type cx i) (taken i) _ (λ f t. plain_lawful cx laws _ _ _ _ _ _)
  array_lawful ArrayLen = measure_lawful AnyArray
  array_lawful (ArrayNew i) = lookups_lawful (array_type cx i) (made i) _ (λ f t. plain_lawful cx laws _ _ _ _ _ _)
  array_lawful (ArrayNewDefault i) = lookups_lawful (array_type cx i) (made i) _ (λ f t. plain_lawful cx laws _ _ _ _ _ _)
  array_lawful (ArrayNewFixed i n) = lookups_lawful (array_type cx i) (made i) _ (λ f t. plain_lawful cx laws _ _ _ _ _ _)
  array_lawful (ArrayNewData i segment) = lookups_lawful (array_type cx i) (made i) _ (λ f t. plain_lawful cx laws _ _ _ _ _ _)
  array_lawful (ArrayGet i) = lookups_lawful (array_type cx i) (taken i) _ (λ f t. plain_lawful cx laws _ _ _ _ _ _)
  array_lawful (ArrayGetPacked sign i) = lookups_lawful (array_type cx i) (taken i) _ (λ f t. plain_lawful cx laws _ _ _ _ _ _)
  array_lawful (ArraySet i) = lookups_lawful (array_type cx i) (taken i) _ (λ f t. plain_lawful cx laws _ _ _ _ _ _)
  array_lawful (ArrayFill i) = lookups_lawful (array_type cx i) (taken i) _ (λ f t. plain_lawful cx laws _ _ _ _ _ _)
  array_lawful (ArrayInitData i segment) = lookups_lawful (array_type cx i) (taken i) _ (λ f t. plain_lawful cx laws _ _ _ _ _ _)

  -- ---- exceptions

  -- the clauses of an operator that opens a frame of another kind than `if`
  catching_lawful : (op : Operator) (h : Head) → op.form ≡ Opens h → is_if h.kind ≡ false → IsLawfulOperator cx op → (o : Option (List Clause)) → IsLawfulOperator cx (operator_catching op o)
  catching_lawful op h opens other v (Some clauses) =
      record {
        row = λ hs. record { monotone = (v.row hs).monotone; reaches = (v.row hs).reaches };
        closing = λ hs i. let clash : true ≡ false = sym (ap is_instruction opens) ∙ i in absurd cc;
        opening = v.opening;
        takes_params = v.takes_params;
      }
  catching_lawful op h opens other v None =
      record {
        row = λ hs. no_target cx laws hs _ refl (plain_monotone cx laws [] [] []);
        closing = λ hs i. let clash : true ≡ false = sym (ap is_instruction opens) ∙ i in absurd cc;
        opening = λ hs k e. refl;
        takes_params = λ hs k ys pushed e i.
            let same : Opens h ≡ Opens k = sym opens ∙ e in
            let kinds : h ≡ k = cc in
            let clash : false ≡ true = sym other ∙ (ap (λ (j : Head). is_if j.kind) kinds ∙ i) in
            absurd cc;
      }

  try_table_lawful : (declared : BlockType) (bt : Option BlockType) (clauses : Option (List Clause)) → IsLawfulOperator cx (operator_catching (opener cx TryTable [] declared bt) clauses)
  try_table_lawful declared (Some bt) clauses = catching_lawful _ (record { kind = TryTable; block_type = bt }) refl refl (opens_lawful TryTable [] true bt) clauses
  try_table_lawful declared None clauses = catching_lawful _ (record { kind = TryTable; block_type = declared }) refl refl (opens_lawful TryTable [] false declared) clauses

  catch_lawful : (o : Option (List ValType)) → IsLawfulOperator cx (catch_operator o)
  catch_lawful (Some types) = closing_lawful cx laws (BeginsCatch false types) refl
  catch_lawful None = delimiting_lawful cx laws (BeginsCatch false []) (λ hs. false) refl

  exception_lawful : (op : ExceptionOp) → IsLawfulOperator cx (exception_operator cx op)
  exception_lawful (TryTableOp t) = try_table_lawful t.ty (checked_block cx t.ty) (catch_clauses cx.of_module t.catches.now)
  exception_lawful (Throw tag) = by_lookup_lawful (exception_types cx.of_module tag) _ (λ ts. plain_lawful cx laws _ _ _ _ _ _)
  exception_lawful ThrowRef = plain_lawful cx laws _ _ _ _ _ _
  exception_lawful (Try bt) = opener_lawful LegacyTry [] bt (checked_block cx bt)
  exception_lawful (CatchOp tag) = catch_lawful (exception_types cx.of_module tag)
  exception_lawful CatchAll = closing_lawful cx laws (BeginsCatch true []) refl
  exception_lawful (Delegate d) = delimiting_lawful cx laws Delegates (λ hs. has_label hs (suc d)) refl
  exception_lawful (Rethrow d) = flat_lawful cx laws _ (λ hs. no_target cx laws hs _ refl (plain_monotone cx laws [] [] []))

  -- ---- shared-everything threads

  shared_lawful : (op : SharedOp) → IsLawfulOperator cx (row_operator (shared_row cx op))
  shared_lawful (SharedGlobal access ordering i) = by_lookup_lawful (global_type cx i) _ (λ g. plain_lawful cx laws _ _ _ _ _ _)
  shared_lawful (SharedTable access ordering i) = by_lookup_lawful (table_type cx i) _ (λ t. plain_lawful cx laws _ _ _ _ _ _)
  shared_lawful (SharedStruct access ordering index) = lookups_lawful (struct_field cx index) (taken index.struct_type_index) _ (λ f t. plain_lawful cx laws _ _ _ _ _ _)
  shared_lawful (SharedArray access ordering i) = lookups_lawful (array_type cx i) (taken i) _ (λ f t. plain_lawful cx laws _ _ _ _ _ _)
  shared_lawful RefI31Shared = plain_lawful cx laws _ _ _ _ _ _

  ungated_lawful : (op : Op) → IsLawfulOperator cx (ungated_operator cx op)
  ungated_lawful (Control op) = control_lawful op
  ungated_lawful (Numeric op) = numeric_lawful op
  ungated_lawful (Convert op) = convert_lawful op
  ungated_lawful (Memory op) = memory_lawful op
  ungated_lawful (Atomic op) = atomic_lawful op
  ungated_lawful (Reference op) = reference_lawful op
  ungated_lawful (Table op) = table_lawful op
  ungated_lawful (Struct op) = struct_lawful op
  ungated_lawful (Array op) = array_lawful op
  ungated_lawful (Exception op) = exception_lawful op
  ungated_lawful (Continuation op) = continuations_lawful cx laws op
  ungated_lawful (Shared op) = shared_lawful op

  pub operator_lawful : (op : Op) → IsLawfulOperator cx (operator cx op)
  operator_lawful op = behind_lawful cx laws (gate_of op) (ungated_operator cx op) (ungated_lawful op)

  pub body_lawful : (ops : List Op) (j : ℕ) (op : Operator) → slice_get (operators cx ops) j ≡ Some op → IsLawfulOperator cx op
  body_lawful [] j op e = absurd cc
  body_lawful (x ∷ ops) zero op e = subst (IsLawfulOperator cx) (some_injective _ _ e) (operator_lawful x)
  body_lawful (x ∷ ops) (suc j) op e = body_lawful ops j op e
