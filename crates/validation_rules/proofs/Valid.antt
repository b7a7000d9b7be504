-- Every step keeps the state valid.
use Rattle.std.proofs.Common.{◌≡◌, ℕ, zero, suc, pred, Bool, true, false, not, ◌&&◌, ◌||◌, List, [], ◌∷◌, ◌++◌, length, map, drop, Option, Some, None, refl, sym, ap, ◌∙◌, if◌then◌else◌, subst, slice_get, is_some, unwrap_or}
use Rattle.std.specs.List.{AllByRecursion, list_all}
use Rattle.std.specs.Option.{option_map}
use Rattle.std.specs.Option.{option_and_then}
use Rattle.validate_types.specs.Features.{has, multi_value}
use Rattle.validate_types.specs.Types.{address_type_of_memory, address_type_of_table}
use Rattle.validate_types.specs.declared.types.GlobalType.{GlobalType}
use Rattle.validate_types.specs.declared.types.MemoryType.{MemoryType}
use Rattle.validate_types.specs.declared.types.TableType.{TableType}
use Rattle.validate_types.specs.declared.refs.RefType.{RefType}
use Rattle.validate_types.specs.declared.heap.AbstractHeapType.{AbstractHeapType}
use Rattle.validate_types.specs.declared.heap.AbstractHeapType.TheVariants.{Any, Extern, I31}
use Rattle.validate_types.specs.declared.heap.HeapType.{HeapType}
use Rattle.validate_types.specs.declared.heap.HeapType.TheVariants.{Exact}
use Rattle.validate_types.specs.declared.heap.UnpackedIndex.{UnpackedIndex}
use Rattle.validate_types.specs.declared.heap.UnpackedIndex.TheVariants.{Module}
use Rattle.validate_types.specs.Refs.{nullable_reference, reference_to, difference, without_null, is_exact}
use Rattle.validate_resources.specs.Context.{IsLawful, IsValidType, Valid, is_valid_index, is_valid_heap, is_number_or_vector, signature_of, descriptor_of}
use Rattle.validate_visit.specs.Numbers.{number_type, integer_type, float_type, packed_type, access_type}
use Rattle.validate_visit.specs.declared.memory.AtomicAccess.{AtomicAccess}
use Rattle.validate_visit.specs.declared.memory.AtomicAccess.TheVariants.{Whole, Packed}
use Rattle.validate_visit.specs.declared.numbers.FloatType.{FloatType}
use Rattle.validate_visit.specs.declared.numbers.FloatType.TheVariants.{F32 as FloatF32, F64 as FloatF64}
use Rattle.validate_visit.specs.declared.numbers.IntegerType.{IntegerType}
use Rattle.validate_visit.specs.declared.numbers.IntegerType.TheVariants.{I32 as IntegerI32, I64 as IntegerI64}
use Rattle.validate_visit.specs.declared.numbers.NumberType.{NumberType}
use Rattle.validate_visit.specs.declared.numbers.NumberType.TheVariants.{I32 as NumberI32, I64 as NumberI64, F32 as NumberF32, F64 as NumberF64}
use Rattle.validate_visit.specs.declared.numbers.PackedInteger.{PackedInteger}
use Rattle.validate_visit.specs.declared.numbers.PackedInteger.TheVariants.{I32Bits8, I32Bits16, I64Bits8, I64Bits16, I64Bits32}
use Rattle.validate_visit.specs.declared.op.ControlOp.{ControlOp}
use Rattle.validate_visit.specs.declared.op.ControlOp.TheVariants.{Unreachable, Nop, Block as BlockOp, Loop as LoopOp, If as IfOp, Else as ElseOp, End, Br, BrIf, BrTable, Return, Call, ReturnCall, CallIndirect, ReturnCallIndirect, CallRef, ReturnCallRef, Drop, Select, TypedSelect, TypedSelectMulti, LocalGet, LocalSet, LocalTee, GlobalGet, GlobalSet}
use Rattle.validate_visit.specs.declared.op.NumericOp.{NumericOp}
use Rattle.validate_visit.specs.declared.op.NumericOp.TheVariants.{IntegerUnary, IntegerBinary, FloatUnary, FloatBinary}
use Rattle.validate_visit.specs.declared.op.ConvertOp.{ConvertOp}
use Rattle.validate_visit.specs.declared.op.ConvertOp.TheVariants.{ExtendPacked, Trunc, TruncSat, Convert as ConvertInteger, Reinterpret}
use Rattle.validate_visit.specs.declared.op.MemoryOp.{MemoryOp}
use Rattle.validate_visit.specs.declared.op.MemoryOp.TheVariants.{Load, LoadPacked, Store, StorePacked, MemorySize, MemoryGrow, MemoryInit, DataDrop, MemoryCopy, MemoryFill, MemoryDiscard}
use Rattle.validate_visit.specs.declared.op.AtomicOp.{AtomicOp}
use Rattle.validate_visit.specs.declared.op.AtomicOp.TheVariants.{AtomicNotify, AtomicWait, AtomicFence, AtomicLoad, AtomicStore, AtomicRmw, AtomicCmpxchg, Pause}
use Rattle.validate_visit.specs.declared.op.ReferenceOp.{ReferenceOp}
use Rattle.validate_visit.specs.declared.op.ReferenceOp.TheVariants.{RefNull, RefIsNull, RefFunc, RefAsNonNull, BrOnNull, BrOnNonNull, RefEq, RefTestNonNull, RefTestNullable, RefCastNonNull, RefCastNullable, BrOnCast, BrOnCastFail, RefGetDesc, RefCastDescEqNonNull, RefCastDescEqNullable, BrOnCastDescEq, BrOnCastDescEqFail, RefI31, I31Get, AnyConvertExtern, ExternConvertAny}
use Rattle.validate_visit.specs.declared.op.TableOp.{TableOp}
use Rattle.validate_visit.specs.declared.op.TableOp.TheVariants.{TableGet, TableSet, TableGrow, TableSize, TableFill, TableInit, ElemDrop, TableCopy}
use Rattle.validate_visit.specs.declared.op.BranchCast.{BranchCast}
use Rattle.validation_rules.specs.Access.{is_loadable, is_storable, address_types, atomic_address_types, access_row}
use Rattle.validation_rules.specs.Memories.{memory_address_type, memory_copy_row_for}
use Rattle.validation_rules.specs.Context.{ModuleContext, Signature, SubType, ValType, I32, I64, F32, F64, V128, Ref, BlockType, Empty, Val, FuncType, Context, empty_signature, block_signature}
use Rattle.validation_rules.specs.Branches.{first_label_types, label_types_at, has_label}
use Rattle.validation_rules.specs.Calls.{may_access, accessible_global, global_type, accessible_signature, callee, tail_call_row}
use Rattle.validation_rules.specs.Indirect.{type_reference, function_place, function_reference, typed_callee}
use Rattle.validation_rules.specs.References.{operand_without_null, null_test_pushes, non_null_pushes, br_on_null_row, last_reference, br_on_non_null_row_for, br_on_non_null_row, null_heap, is_null_gate_open, reference_row}
use Rattle.validation_rules.specs.Tables.{accessible_table, table_type, table_init_row_for, table_copy_row_for, table_row}
use Rattle.validation_rules.specs.Found.{found_pushes, measure_row, converted_operand, ref_eq_pushes}
use Rattle.validation_rules.specs.Casts.{CastTypes, checked_ref, is_castable, castable_type, cast_type, cast_operand, may_cast, checked_cast, split_last, cast_branch_row_for, cast_branch_row, types_on_cast, types_on_cast_fail}
use Rattle.validation_rules.specs.Exact.{declared_heap}
use Rattle.validation_rules.specs.Descriptors.{descriptor_at, descriptor_in, get_desc_pushes, ref_get_desc_row, fit_under, tested_pushes, is_cast_descriptor, ref_cast_desc_eq_row, descriptor_branch_row_for, descriptor_branch_row, cast_desc_eq_branch_row}
use Rattle.validation_rules.specs.Fits.{MaybeType, Bottom, UnknownRef, Known, fits}
use Rattle.validation_rules.specs.Rows.{FrameKind, Block, If, Loop, is_loop, Head, params, results, Form, Stays, Opens, BeginsElse, BeginsCatch, Ends, Delegates, Plain, Row, Operator, pushed_for, expected_count, guard}
use Rattle.validation_rules.specs.Static.{Frame, State, heads, locals_set, stack_with, operands_on_top, operands_found, operands_under, pushed_by_row, operands_after, state_after_exit, state_after, open_frames, step_in}
use Rattle.validation_rules.specs.Operators.{plain_row, plain_row_if, is_accessible_func_type, checked_block, opener, staying_operator, row_operator, delimiter_operator, looking_row_if, drop_pushes, select_result, select_pushes, lookup_row, lookups_row, control_operator, numeric_row, convert_row, memory_row, atomic_row}
use Rattle.validation_rules.specs.Valid.{IsValidOperand, Resolves, IsValidBlock, IsValidFrame}
use Rattle.validation_rules.proofs.PushesValid.{HeadIsValid, PushesValid, StepsKeepValid}
use Rattle.validation_rules.proofs.Below.{and_true}
use Rattle.validation_rules.proofs.Steps.{onto-next, pushed_by_form, label_by, some_injective, guard_some, and_then_given, mapped_some, stepped}

-- ---- lists

pub all_onto : {A : Type 0} (P : A → Type 0) (xs ys : List A) → AllByRecursion P xs → AllByRecursion P ys → AllByRecursion P (stack_with xs ys)
all_onto P [] ys h k = k
all_onto P (x ∷ xs) ys h k = subst (AllByRecursion P) (sym (onto-next x xs ys)) (all_onto P xs (x ∷ ys) h.1 (h.0, k))

pub all_drop : {A : Type 0} (P : A → Type 0) (n : ℕ) (xs : List A) → AllByRecursion P xs → AllByRecursion P (drop n xs)
all_drop P zero xs h = h
all_drop P (suc n) [] h = tt
all_drop P (suc n) (x ∷ xs) h = all_drop P n xs h.1

module _ (md : ModuleContext) where
  pub all_known : (ts : List ValType) → AllByRecursion (Valid md) ts → AllByRecursion (IsValidOperand md) (map Known ts)
  all_known [] h = tt
  all_known (t ∷ ts) h = (h.0, all_known ts h.1)

  on_top_valid : (n : ℕ) (dead : Bool) (own : List MaybeType) → AllByRecursion (IsValidOperand md) own → AllByRecursion (IsValidOperand md) (operands_on_top n dead own)
  on_top_valid zero dead own h = tt
  on_top_valid (suc n) dead (x ∷ own) h = (h.0, on_top_valid n dead own h.1)
  on_top_valid (suc n) true [] h = (tt, on_top_valid n true [] tt)
  on_top_valid (suc n) false [] h = tt

  -- what is found in a frame of valid operands is valid
  pub found_valid : (n : ℕ) (f : Frame) → AllByRecursion (IsValidOperand md) f.operands → AllByRecursion (IsValidOperand md) (operands_found n f)
  found_valid n f h = all_onto (IsValidOperand md) (operands_on_top n f.dead f.operands) [] (on_top_valid n f.dead f.operands h) tt

  -- what a type takes and gives, if it is one of functions, is valid; nothing is
  params_of_valid : (s : SubType) → IsValidType md s → (o : Option Signature) → signature_of s ≡ o → AllByRecursion (Valid md) (unwrap_or o empty_signature).params
  params_of_valid s v None e = tt
  params_of_valid s v (Some f) e = v.params f e

  results_of_valid : (s : SubType) → IsValidType md s → (o : Option Signature) → signature_of s ≡ o → AllByRecursion (Valid md) (unwrap_or o empty_signature).results
  results_of_valid s v None e = tt
  results_of_valid s v (Some f) e = v.results f e

  declared_params : IsLawful md → (i : ℕ) (o : Option SubType) → md.type_at i ≡ o → AllByRecursion (Valid md) (unwrap_or (option_and_then signature_of o) empty_signature).params
  declared_params laws i None e = tt
  declared_params laws i (Some s) e = params_of_valid s (laws.types i s e) (signature_of s) refl

  declared_results : IsLawful md → (i : ℕ) (o : Option SubType) → md.type_at i ≡ o → AllByRecursion (Valid md) (unwrap_or (option_and_then signature_of o) empty_signature).results
  declared_results laws i None e = tt
  declared_results laws i (Some s) e = results_of_valid s (laws.types i s e) (signature_of s) refl

  -- what a block type stands for is valid
  pub params_valid : IsLawful md → (shared : Bool) (bt : BlockType) → IsValidBlock md shared bt → AllByRecursion (Valid md) (block_signature md bt).params
  params_valid laws shared Empty b = tt
  params_valid laws shared (Val t) b = tt
  params_valid laws shared (FuncType i) b = declared_params laws i (md.type_at i) refl

  pub results_valid : IsLawful md → (shared : Bool) (bt : BlockType) → IsValidBlock md shared bt → AllByRecursion (Valid md) (block_signature md bt).results
  results_valid laws shared Empty b = tt
  results_valid laws shared (Val t) b = (b, tt)
  results_valid laws shared (FuncType i) b = declared_results laws i (md.type_at i) refl

module _ (cx : Context) (laws : IsLawful cx.of_module) where
  abbrev Operands : List MaybeType → Type 0
  Operands xs = AllByRecursion (IsValidOperand cx.of_module) xs

  abbrev Frames : List Frame → Type 0
  Frames fs = AllByRecursion (IsValidFrame cx.of_module cx.shared) fs

  pub heads_valid : (fs : List Frame) → Frames fs → AllByRecursion (HeadIsValid cx) (heads fs)
  heads_valid [] h = tt
  heads_valid (f ∷ fs) h = (h.0.block, heads_valid fs h.1)

  -- the frames and what is left, of a state
  abbrev Both : State → Type 0
  Both s = Frames s.frames × Operands s.left

  given_valid : (left : List MaybeType) (types : List ValType) (fs : List Frame) → AllByRecursion (Valid cx.of_module) types → Frames fs → Operands left → Both (state_after_exit left types fs)
  given_valid left types [] t h k = (tt, all_onto (IsValidOperand cx.of_module) (map Known types) left (all_known cx.of_module types t) k)
  given_valid left types (f ∷ fs) t h k =
      ((record { block = h.0.block; operands = all_onto (IsValidOperand cx.of_module) (map Known types) f.operands (all_known cx.of_module types t) h.0.operands }, h.1), k)

  own_valid : (dead : Bool) (below pushed : List MaybeType) → Operands below → Operands pushed → Operands (operands_after dead below pushed)
  own_valid true below pushed b p = tt
  own_valid false below pushed b p = all_onto (IsValidOperand cx.of_module) pushed below p b

  opened_valid : (types : List ValType) → AllByRecursion (Valid cx.of_module) types → Operands (stack_with (map Known types) [])
  opened_valid types t = all_onto (IsValidOperand cx.of_module) (map Known types) [] (all_known cx.of_module types t) tt

  -- what a row that holds gave: its premise, and its operands
  by_premise : (r : Row) (hs : List Head) (set : List ℕ) (f : Frame) (pushed : List MaybeType) → pushed_by_row cx r hs set f ≡ Some pushed → (r.premise ≡ true) × (pushed_for cx r.type (operands_found (expected_count r.type) f) ≡ Some pushed)
  by_premise r hs set f pushed p = let g = guard_some _ _ _ p in ((and_true r.premise _ g.0).0, g.1)

  closing_premise : (premise rest : Bool) (pushed : List MaybeType) → guard (premise && rest) (Some []) ≡ Some pushed → premise ≡ true
  closing_premise premise rest pushed p = (and_true premise rest (guard_some _ _ _ p).0).0

  after_valid : (op : Operator) → PushesValid cx op → (left : List MaybeType) (f : Frame) (fs : List Frame) (form : Form) → op.form ≡ form → (pushed : List MaybeType) → Frames (f ∷ fs) → Operands left → pushed_by_form cx (op.row (heads (f ∷ fs))) (heads (f ∷ fs)) (locals_set (f ∷ fs)) f form ≡ Some pushed → Both (state_after cx (op.row (heads (f ∷ fs))) (open_frames f fs left) form pushed)
  after_valid op v left f fs Stays e pushed h k p =
      let r = op.row (heads (f ∷ fs)) in
      let g = by_premise r (heads (f ∷ fs)) (locals_set (f ∷ fs)) f pushed p in
      let n = expected_count r.type in
      let q = v.pushed (heads (f ∷ fs)) (operands_found n f) pushed g.0 (heads_valid (f ∷ fs) h) (found_valid cx.of_module n f h.0.operands) g.1 in
      ((record { block = h.0.block; operands = own_valid r.ends_live (operands_under n f) pushed (all_drop (IsValidOperand cx.of_module) n f.operands h.0.operands) q }, h.1), k)
  after_valid op v left f fs (Opens o) e pushed h k p =
      let r = op.row (heads (f ∷ fs)) in
      let g = by_premise r (heads (f ∷ fs)) (locals_set (f ∷ fs)) f pushed p in
      let n = expected_count r.type in
      let b = v.opened (heads (f ∷ fs)) o g.0 e in
      ((record { block = b; operands = opened_valid (params cx o) (params_valid cx.of_module laws cx.shared o.block_type b) }, (record { block = h.0.block; operands = all_drop (IsValidOperand cx.of_module) n f.operands h.0.operands }, h.1)), k)
  after_valid op v left f fs BeginsElse e pushed h k p =
      ((record { block = h.0.block; operands = opened_valid (params cx f.head) (params_valid cx.of_module laws cx.shared f.head.block_type h.0.block) }, h.1), k)
  after_valid op v left f fs (BeginsCatch all types) e pushed h k p =
      let t = v.begun (heads (f ∷ fs)) all types (closing_premise (op.row (heads (f ∷ fs))).premise _ pushed p) e in
      ((record { block = h.0.block; operands = opened_valid types t }, h.1), k)
  after_valid op v left f fs Ends e pushed h k p =
      given_valid left (results cx f.head) fs (results_valid cx.of_module laws cx.shared f.head.block_type h.0.block) h.1 k
  after_valid op v left f fs Delegates e pushed h k p =
      given_valid left (results cx f.head) fs (results_valid cx.of_module laws cx.shared f.head.block_type h.0.block) h.1 k

  step_valid : (op : Operator) → PushesValid cx op → (fs : List Frame) (left : List MaybeType) (u : State) → Frames fs → Operands left → step_in cx op fs left ≡ Some u → Both u
  step_valid op v [] left u h k e = absurd cc
  step_valid op v (f ∷ fs) left u h k e =
      let st = stepped cx op f fs left u e in
      subst (λ (w : State). Both w) (sym st.leaves) (after_valid op v left f fs op.form refl st.pushed h k st.holds)

  pub steps_keep_valid : StepsKeepValid cx
  steps_keep_valid op s u v h e =
      let b = step_valid op v s.frames s.left u h.frames h.left e in
      record { locals_valid = h.locals_valid; frames = b.0; left = b.1 }

  -- ---- the operators of the table

  -- an operator with a plain row whose pushed types are valid where its premise holds
  pub plain_valid : (premise : Bool) (reads sets : Option ℕ) (expected push : List ValType) (dead : Bool) → (premise ≡ true → AllByRecursion (Valid cx.of_module) push) → PushesValid cx (row_operator (record { premise = premise; reads = reads; type = Plain expected [] push; sets = sets; targets = []; clauses = []; ends_live = dead }))
  plain_valid premise reads sets expected push dead h =
      record {
        pushed = λ hs xs pushed p v f g.
            subst (λ ys. AllByRecursion (IsValidOperand cx.of_module) ys) (some_injective _ _ (guard_some _ _ _ g).1) (all_known cx.of_module push (h p));
        opened = λ hs k p e. absurd cc;
        begun = λ hs all types p e. absurd cc;
      }

  drops_valid : (xs pushed : List MaybeType) → Operands xs → drop_pushes xs ≡ Some pushed → Operands pushed
  drops_valid (x ∷ []) pushed v e = subst Operands (some_injective _ _ e) tt
  drops_valid [] pushed v e = absurd cc
  drops_valid (x ∷ y ∷ xs) pushed v e = absurd cc

  pub nothing_pushed : (pushed : List MaybeType) (b : Bool) → guard b (Some []) ≡ Some pushed → Operands pushed
  nothing_pushed pushed b g = subst Operands (some_injective _ _ (guard_some _ _ _ g).1) tt

  else_valid : PushesValid cx (delimiter_operator BeginsElse)
  else_valid =
      record {
        pushed = λ hs xs pushed p v f g. nothing_pushed pushed _ g;
        opened = λ hs k p e. absurd cc;
        begun = λ hs all types p e. absurd cc;
      }

  end_valid : PushesValid cx (delimiter_operator Ends)
  end_valid =
      record {
        pushed = λ hs xs pushed p v f g. nothing_pushed pushed _ g;
        opened = λ hs k p e. absurd cc;
        begun = λ hs all types p e. absurd cc;
      }

  -- an operator that looks at valid operands
  looks_valid : (premise : Bool) (n : ℕ) (pushed_for : List MaybeType → Option (List MaybeType)) → ((xs pushed : List MaybeType) → Operands xs → pushed_for xs ≡ Some pushed → Operands pushed) → PushesValid cx (row_operator (looking_row_if premise n pushed_for))
  looks_valid premise n pushed_for h =
      record {
        pushed = λ hs xs pushed p v f g. h xs pushed f g;
        opened = λ hs k p e. absurd cc;
        begun = λ hs all types p e. absurd cc;
      }

  selected_valid : (a b : MaybeType) (o : Option MaybeType) (ys : List MaybeType) → IsValidOperand cx.of_module a → IsValidOperand cx.of_module b → select_result a b ≡ o → option_map (λ (x : MaybeType). x ∷ []) o ≡ Some ys → Operands ys
  selected_valid a b None ys v w e h = absurd cc
  selected_valid (UnknownRef a) b (Some x) ys v w e h = absurd cc
  selected_valid (Known t) (UnknownRef b) (Some x) ys v w e h = absurd cc
  selected_valid Bottom b (Some x) ys v w e h = subst Operands (some_injective _ _ h) (subst (IsValidOperand cx.of_module) (some_injective _ _ (guard_some _ _ _ e).1) w, tt)
  selected_valid (Known t) Bottom (Some x) ys v w e h = subst Operands (some_injective _ _ h) (subst (IsValidOperand cx.of_module) (some_injective _ _ (guard_some _ _ _ e).1) v, tt)
  selected_valid (Known t) (Known u) (Some x) ys v w e h = subst Operands (some_injective _ _ h) (subst (IsValidOperand cx.of_module) (some_injective _ _ (guard_some _ _ _ e).1) v, tt)

  selects_valid : (xs pushed : List MaybeType) → Operands xs → select_pushes cx xs ≡ Some pushed → Operands pushed
  selects_valid (a ∷ b ∷ c ∷ []) pushed v h = selected_valid a b (select_result a b) pushed v.0 v.1.0 refl (guard_some _ _ _ h).1
  selects_valid [] pushed v h = absurd cc
  selects_valid (a ∷ []) pushed v h = absurd cc
  selects_valid (a ∷ b ∷ []) pushed v h = absurd cc
  selects_valid (a ∷ b ∷ c ∷ d ∷ xs) pushed v h = absurd cc

  -- an operator whose row is plain and depends on the open frames, where what it pushes is valid
  pub flat_valid : (row : List Head → Row) (expected push : List Head → List ValType) (also : List Head → List (List ValType)) → ((hs : List Head) → (row hs).type ≡ Plain (expected hs) (also hs) (push hs)) → ((hs : List Head) → AllByRecursion (HeadIsValid cx) hs → AllByRecursion (Valid cx.of_module) (push hs)) → PushesValid cx (staying_operator row)
  flat_valid row expected push also is h =
      record {
        pushed = λ hs xs pushed p v f g.
            let k : pushed_for cx (Plain (expected hs) (also hs) (push hs)) xs ≡ Some pushed = ap (λ o. pushed_for cx o xs) (sym (is hs)) ∙ g in
            subst Operands (some_injective _ _ (guard_some _ _ _ k).1) (all_known cx.of_module (push hs) (h hs v));
        opened = λ hs k p e. absurd cc;
        begun = λ hs all types p e. absurd cc;
      }

  label_valid : (b : Bool) (h : Head) → HeadIsValid cx h → AllByRecursion (Valid cx.of_module) (label_by cx b h)
  label_valid true h v = params_valid cx.of_module laws cx.shared h.block_type v
  label_valid false h v = results_valid cx.of_module laws cx.shared h.block_type v

  types_of_valid : (hs : List Head) → AllByRecursion (HeadIsValid cx) hs → AllByRecursion (Valid cx.of_module) (first_label_types cx hs)
  types_of_valid [] v = tt
  types_of_valid (h ∷ hs) v = label_valid (is_loop h.kind) h v.0

  -- the types of a label are valid
  pub label_at_valid : (hs : List Head) (d : ℕ) → AllByRecursion (HeadIsValid cx) hs → AllByRecursion (Valid cx.of_module) (label_types_at cx hs d)
  label_at_valid hs d v = types_of_valid (drop d hs) (all_drop (HeadIsValid cx) d hs v)

  pub get_valid : (locals : List ValType) (i : ℕ) (t : ValType) → AllByRecursion (Valid cx.of_module) locals → slice_get locals i ≡ Some t → Valid cx.of_module t
  get_valid [] zero t h e = absurd cc
  get_valid [] (suc i) t h e = absurd cc
  get_valid (u ∷ locals) zero t h e = subst (Valid cx.of_module) (some_injective u t e) h.0
  get_valid (u ∷ locals) (suc i) t h e = get_valid locals i t h.1 e

  typed_valid : (premise : Bool) (o : Option ValType) (reads sets : Option ℕ) (expected push : ValType → List ValType) → ((t : ValType) → o ≡ Some t → AllByRecursion (Valid cx.of_module) (push t)) → PushesValid cx (row_operator (lookup_row o (λ t. record { premise = premise; reads = reads; type = Plain (expected t) [] (push t); sets = sets; targets = []; clauses = []; ends_live = false })))
  typed_valid premise None reads sets expected push h = plain_valid false None None [] [] false (λ p. tt)
  typed_valid premise (Some t) reads sets expected push h = plain_valid premise reads sets (expected t) (push t) false (λ p. h t refl)

  shared_by : (a b : Bool) → (not a || b) ≡ true → a ≡ true → b ≡ true
  shared_by true b h e = h
  shared_by false b h e = absurd cc

  named_resolves : (i : ℕ) (o : Option SubType) → cx.of_module.type_at i ≡ o → is_accessible_func_type cx o ≡ true → Resolves cx.of_module cx.shared i
  named_resolves i (Some s) e h =
      let p = and_true (is_some (signature_of s)) _ h in
      record { type = s; is_there = e; is_func = p.0; is_shared = shared_by cx.shared s.composite_type.shared p.1 }
  named_resolves i None e h = absurd cc

  value_valid : (t : ValType) (o : Option ValType) → cx.of_module.canonical_type cx.features t ≡ o → (bt : BlockType) → option_map (λ u. Val u) o ≡ Some bt → IsValidBlock cx.of_module cx.shared bt
  value_valid t (Some u) e bt h = subst (λ b. IsValidBlock cx.of_module cx.shared b) (some_injective _ _ h) (laws.checked cx.features t u e)
  value_valid t None e bt h = absurd cc

  -- a block type that passed its check
  pub checked_valid : (declared bt : BlockType) → checked_block cx declared ≡ Some bt → IsValidBlock cx.of_module cx.shared bt
  checked_valid Empty bt h = subst (λ b. IsValidBlock cx.of_module cx.shared b) (some_injective _ _ h) tt
  checked_valid (Val t) bt h = value_valid t (cx.of_module.canonical_type cx.features t) refl bt h
  checked_valid (FuncType i) bt h =
      let g = guard_some _ _ _ h in
      subst (λ b. IsValidBlock cx.of_module cx.shared b) (some_injective _ _ g.1) (named_resolves i (cx.of_module.type_at i) refl (and_true (has cx.features multi_value) _ g.0).1)

  pub opener_valid : (kind : FrameKind) (above : List ValType) (declared : BlockType) (o : Option BlockType) → checked_block cx declared ≡ o → PushesValid cx (opener cx kind above declared o)
  opener_valid kind above declared (Some bt) e =
      record {
        pushed = λ hs xs pushed p v f g. nothing_pushed pushed _ g;
        opened = λ hs k p i.
            let d : record { kind = kind; block_type = bt } ≡ k = cc in
            subst (λ (h : Head). IsValidBlock cx.of_module cx.shared h.block_type) d (checked_valid declared bt e);
        begun = λ hs all types p i. absurd cc;
      }
  opener_valid kind above declared None e =
      record {
        pushed = λ hs xs pushed p v f g. absurd cc;
        opened = λ hs k p i. absurd cc;
        begun = λ hs all types p i. absurd cc;
      }

  -- ---- what look-ups give

  pub global_valid : (i : ℕ) (g : GlobalType) → global_type cx i ≡ Some g → Valid cx.of_module g.content_type
  global_valid i g e =
      let b = and_then_given (cx.of_module.global_at i) (accessible_global cx) g e in
      let k = guard_some (may_access cx b.0.shared) _ _ b.2 in
      subst (λ (h : GlobalType). Valid cx.of_module h.content_type) (some_injective _ _ k.1) (laws.globals i b.0 b.1)

  signature_valid : (f : ℕ) (s : Signature) → callee cx f ≡ Some s → AllByRecursion (Valid cx.of_module) s.results
  signature_valid f s e =
      let b = and_then_given (option_and_then cx.of_module.type_at (cx.of_module.type_index_of f)) (accessible_signature cx) s e in
      let i = and_then_given (cx.of_module.type_index_of f) cx.of_module.type_at b.0 b.1 in
      let k = guard_some (may_access cx b.0.composite_type.shared) _ _ b.2 in
      (laws.types i.0 b.0 i.2).results s k.1

  global_get_valid : (i : ℕ) (o : Option GlobalType) → global_type cx i ≡ o → PushesValid cx (row_operator (lookup_row o (λ g. plain_row [] (g.content_type ∷ []))))
  global_get_valid i None e = plain_valid _ _ _ _ _ _ (λ p. tt)
  global_get_valid i (Some g) e = plain_valid _ _ _ _ _ _ (λ p. (global_valid i g e, tt))

  global_set_valid : (o : Option GlobalType) → PushesValid cx (row_operator (lookup_row o (λ g. plain_row_if g.mutable (g.content_type ∷ []) [])))
  global_set_valid None = plain_valid _ _ _ _ [] _ (λ p. tt)
  global_set_valid (Some g) = plain_valid _ _ _ _ [] _ (λ p. tt)

  call_valid : (f : ℕ) (o : Option Signature) → callee cx f ≡ o → PushesValid cx (row_operator (lookup_row o (λ s. plain_row s.params s.results)))
  call_valid f None e = plain_valid _ _ _ _ [] _ (λ p. tt)
  call_valid f (Some s) e = plain_valid _ _ _ _ s.results _ (λ p. signature_valid f s e)

  return_call_valid : (o : Option Signature) → PushesValid cx (staying_operator (λ hs. lookup_row o (λ s. tail_call_row cx hs s.params s.results)))
  return_call_valid None = flat_valid _ (λ hs. []) (λ hs. []) (λ hs. []) (λ hs. refl) (λ hs v. tt)
  return_call_valid (Some s) = flat_valid _ (λ hs. s.params) (λ hs. []) (λ hs. []) (λ hs. refl) (λ hs v. tt)

  -- ---- calls of a function that an operand names

  typed_signature_valid : (i : ℕ) (s : Signature) → typed_callee cx i ≡ Some s → AllByRecursion (Valid cx.of_module) s.results
  typed_signature_valid i s e =
      let b = and_then_given (cx.of_module.type_at i) (accessible_signature cx) s e in
      let k = guard_some (may_access cx b.0.composite_type.shared) _ _ b.2 in
      (laws.types i b.0 b.1).results s k.1

  call_by_valid : (names : Option ValType) (i : ℕ) (o : Option Signature) → typed_callee cx i ≡ o → PushesValid cx (row_operator (lookup_row names (λ t. lookup_row o (λ s. plain_row (s.params ++ t ∷ []) s.results))))
  call_by_valid None i o e = plain_valid _ None None [] [] false (λ p. tt)
  call_by_valid (Some t) i None e = plain_valid _ None None [] [] false (λ p. tt)
  call_by_valid (Some t) i (Some s) e = plain_valid _ None None _ s.results false (λ p. typed_signature_valid i s e)

  return_call_by_valid : (names : Option ValType) (o : Option Signature) → PushesValid cx (staying_operator (λ hs. lookup_row names (λ t. lookup_row o (λ s. tail_call_row cx hs (s.params ++ t ∷ []) s.results))))
  return_call_by_valid None o = flat_valid _ (λ hs. []) (λ hs. []) (λ hs. []) (λ hs. refl) (λ hs v. tt)
  return_call_by_valid (Some t) None = flat_valid _ (λ hs. []) (λ hs. []) (λ hs. []) (λ hs. refl) (λ hs v. tt)
  return_call_by_valid (Some t) (Some s) = flat_valid _ (λ hs. s.params ++ t ∷ []) (λ hs. []) (λ hs. []) (λ hs. refl) (λ hs v. tt)

  pub control_valid : (op : ControlOp) → AllByRecursion (Valid cx.of_module) cx.locals → PushesValid cx (control_operator cx op)
  control_valid Unreachable l = plain_valid _ _ _ _ [] _ (λ p. tt)
  control_valid Nop l = plain_valid _ _ _ _ [] _ (λ p. tt)
  control_valid (BlockOp bt) l = opener_valid Block [] bt (checked_block cx bt) refl
  control_valid (LoopOp bt) l = opener_valid Loop [] bt (checked_block cx bt) refl
  control_valid (IfOp bt) l = opener_valid If (I32 ∷ []) bt (checked_block cx bt) refl
  control_valid ElseOp l = else_valid
  control_valid End l = end_valid
  control_valid (Br d) l = flat_valid _ (λ hs. label_types_at cx hs d) (λ hs. []) (λ hs. []) (λ hs. refl) (λ hs v. tt)
  control_valid (BrIf d) l = flat_valid _ (λ hs. label_types_at cx hs d ++ I32 ∷ []) (λ hs. label_types_at cx hs d) (λ hs. []) (λ hs. refl) (λ hs v. label_at_valid hs d v)
  control_valid (BrTable table) l =
      flat_valid _ (λ hs. label_types_at cx hs table.default ++ I32 ∷ []) (λ hs. []) (λ hs. map (λ e. label_types_at cx hs e ++ I32 ∷ []) table.targets.now) (λ hs. refl) (λ hs v. tt)
  control_valid Return l = flat_valid _ (λ hs. label_types_at cx hs (pred (length hs))) (λ hs. []) (λ hs. []) (λ hs. refl) (λ hs v. tt)
  control_valid (Call f) l = call_valid f (callee cx f) refl
  control_valid (ReturnCall f) l = return_call_valid (callee cx f)
  control_valid (CallIndirect type table) l = call_by_valid (function_place cx table) type (typed_callee cx type) refl
  control_valid (ReturnCallIndirect type table) l = return_call_by_valid (function_place cx table) (typed_callee cx type)
  control_valid (CallRef type) l = call_by_valid (function_reference cx type) type (typed_callee cx type) refl
  control_valid (ReturnCallRef type) l = return_call_by_valid (function_reference cx type) (typed_callee cx type)
  control_valid Drop l = looks_valid true 1 drop_pushes drops_valid
  control_valid Select l = looks_valid true 3 (select_pushes cx) selects_valid
  control_valid (TypedSelect t) l =
      typed_valid true (cx.of_module.canonical_type cx.features t) None None (λ u. u ∷ u ∷ I32 ∷ []) (λ u. u ∷ []) (λ u e. (laws.checked cx.features t u e, tt))
  control_valid (TypedSelectMulti ts) l = plain_valid _ _ _ _ [] _ (λ p. tt)
  control_valid (LocalGet i) l = typed_valid true (slice_get cx.locals i) (Some i) None (λ t. []) (λ t. t ∷ []) (λ t e. (get_valid cx.locals i t l e, tt))
  control_valid (LocalSet i) l = typed_valid true (slice_get cx.locals i) None (Some i) (λ t. t ∷ []) (λ t. []) (λ t e. tt)
  control_valid (LocalTee i) l = typed_valid true (slice_get cx.locals i) None (Some i) (λ t. t ∷ []) (λ t. t ∷ []) (λ t e. (get_valid cx.locals i t l e, tt))
  control_valid (GlobalGet i) l = global_get_valid i (global_type cx i) refl
  control_valid (GlobalSet i) l = global_set_valid (global_type cx i)

  -- a number or vector type has no index
  number_valid : (t : ValType) → is_number_or_vector t ≡ true → Valid cx.of_module t
  number_valid (Ref r) h = absurd cc
  number_valid I32 h = refl
  number_valid I64 h = refl
  number_valid F32 h = refl
  number_valid F64 h = refl
  number_valid V128 h = refl

  -- a list of numbers
  numbers_valid : (ts : List ValType) → list_all is_number_or_vector ts ≡ true → AllByRecursion (Valid cx.of_module) ts
  numbers_valid [] h = tt
  numbers_valid (t ∷ ts) h =
      let a = and_true (is_number_or_vector t) _ h in
      (number_valid t a.0, numbers_valid ts a.1)

  numbers_pushed : (premise : Bool) (reads sets : Option ℕ) (expected push : List ValType) (dead : Bool) → list_all is_number_or_vector push ≡ true → PushesValid cx (row_operator (record { premise = premise; reads = reads; type = Plain expected [] push; sets = sets; targets = []; clauses = []; ends_live = dead }))
  numbers_pushed premise reads sets expected push dead h = plain_valid premise reads sets expected push dead (λ p. numbers_valid push h)

  address_is_number : (has_64_bits : Bool) → is_number_or_vector (if has_64_bits then I64 else I32) ≡ true
  address_is_number true = refl
  address_is_number false = refl

  number_is_valid : (t : NumberType) → Valid cx.of_module (number_type t)
  number_is_valid NumberI32 = refl
  number_is_valid NumberI64 = refl
  number_is_valid NumberF32 = refl
  number_is_valid NumberF64 = refl

  integer_is_valid : (t : IntegerType) → Valid cx.of_module (integer_type t)
  integer_is_valid IntegerI32 = refl
  integer_is_valid IntegerI64 = refl

  float_is_valid : (t : FloatType) → Valid cx.of_module (float_type t)
  float_is_valid FloatF32 = refl
  float_is_valid FloatF64 = refl

  packed_is_valid : (packed : PackedInteger) → Valid cx.of_module (packed_type packed)
  packed_is_valid I32Bits8 = refl
  packed_is_valid I32Bits16 = refl
  packed_is_valid I64Bits8 = refl
  packed_is_valid I64Bits16 = refl
  packed_is_valid I64Bits32 = refl

  access_is_valid : (access : AtomicAccess) → Valid cx.of_module (access_type access)
  access_is_valid (Whole t) = integer_is_valid t
  access_is_valid (Packed packed) = packed_is_valid packed

  -- every row of the group pushes one number, or two
  pub numeric_valid : (op : NumericOp) → PushesValid cx (row_operator (numeric_row op))
  numeric_valid (IntegerUnary t op) = plain_valid _ _ _ _ _ _ (λ p. (integer_is_valid t, tt))
  numeric_valid (IntegerBinary t op) = plain_valid _ _ _ _ _ _ (λ p. (integer_is_valid t, tt))
  numeric_valid (FloatUnary t op) = plain_valid _ _ _ _ _ _ (λ p. (float_is_valid t, tt))
  numeric_valid (FloatBinary t op) = plain_valid _ _ _ _ _ _ (λ p. (float_is_valid t, tt))
  numeric_valid _ = numbers_pushed _ _ _ _ _ _ refl

  pub convert_valid : (op : ConvertOp) → PushesValid cx (row_operator (convert_row op))
  convert_valid (ExtendPacked packed) = plain_valid _ _ _ _ _ _ (λ p. (packed_is_valid packed, tt))
  convert_valid (Trunc into from sign) = plain_valid _ _ _ _ _ _ (λ p. (integer_is_valid into, tt))
  convert_valid (TruncSat into from sign) = plain_valid _ _ _ _ _ _ (λ p. (integer_is_valid into, tt))
  convert_valid (ConvertInteger into from sign) = plain_valid _ _ _ _ _ _ (λ p. (float_is_valid into, tt))
  convert_valid (Reinterpret into) = plain_valid _ _ _ _ _ _ (λ p. (number_is_valid into, tt))
  convert_valid _ = numbers_pushed _ _ _ _ _ _ refl

  -- a row for an address, or for what else was found, is one for the type of it
  pub by_lookup_valid : {A : Type 0} (o : Option A) (row : A → Row) → ((t : A) → o ≡ Some t → PushesValid cx (row_operator (row t))) → PushesValid cx (row_operator (lookup_row o row))
  by_lookup_valid None row h = plain_valid _ None None [] [] false (λ p. tt)
  by_lookup_valid (Some t) row h = h t refl

  pub lookups_valid : {A B : Type 0} (o : Option A) (p : Option B) (row : A → B → Row) → ((a : A) (b : B) → o ≡ Some a → p ≡ Some b → PushesValid cx (row_operator (row a b))) → PushesValid cx (row_operator (lookups_row o p row))
  lookups_valid o p row h = by_lookup_valid o (λ a. lookup_row p (row a)) (λ a e. by_lookup_valid p (row a) (λ b k. h a b e k))

  -- the types of addresses are numbers
  index_valid : (m : ℕ) (t : ValType) → memory_address_type cx.of_module m ≡ Some t → Valid cx.of_module t
  index_valid m t e = by (cx.of_module.memory_at m) refl e
    where
      by : (o : Option MemoryType) → cx.of_module.memory_at m ≡ o → option_map address_type_of_memory o ≡ Some t → Valid cx.of_module t
      by None k h = absurd cc
      by (Some ty) k h = subst (Valid cx.of_module) (some_injective _ _ h) (number_valid (address_type_of_memory ty) (address_is_number ty.memory64))

  -- accesses push what they read, if anything
  access_valid : (o : Option (List ValType)) (above push : List ValType) → AllByRecursion (Valid cx.of_module) push → PushesValid cx (row_operator (access_row o above push))
  access_valid None above push h = plain_valid _ None None [] [] false (λ p. tt)
  access_valid (Some types) above push h = plain_valid _ None None (types ++ above) push false (λ p. h)

  pub memory_valid : (op : MemoryOp) → PushesValid cx (row_operator (memory_row cx op))
  memory_valid (Load t arg) = access_valid (address_types cx is_loadable arg) [] (number_type t ∷ []) (number_is_valid t, tt)
  memory_valid (LoadPacked packed sign arg) = access_valid (address_types cx is_loadable arg) [] (packed_type packed ∷ []) (packed_is_valid packed, tt)
  memory_valid (Store t arg) = access_valid (address_types cx is_storable arg) (number_type t ∷ []) [] tt
  memory_valid (StorePacked packed arg) = access_valid (address_types cx is_storable arg) (packed_type packed ∷ []) [] tt
  memory_valid (MemorySize m) = by_lookup_valid (memory_address_type cx.of_module m) _ (λ t e. plain_valid _ _ _ _ _ _ (λ p. (index_valid m t e, tt)))
  memory_valid (MemoryGrow m) = by_lookup_valid (memory_address_type cx.of_module m) _ (λ t e. plain_valid _ _ _ _ _ _ (λ p. (index_valid m t e, tt)))
  memory_valid (MemoryInit segment m) = by_lookup_valid (memory_address_type cx.of_module m) _ (λ t e. numbers_pushed _ _ _ _ _ _ refl)
  memory_valid (DataDrop segment) = numbers_pushed _ _ _ _ _ _ refl
  memory_valid (MemoryCopy dst src) = by_lookup_valid (memory_address_type cx.of_module dst) (λ t. lookup_row (memory_address_type cx.of_module src) (memory_copy_row_for t)) (λ t e. by_lookup_valid _ (memory_copy_row_for t) (λ u k. numbers_pushed _ _ _ _ _ _ refl))
  memory_valid (MemoryFill m) = by_lookup_valid (memory_address_type cx.of_module m) _ (λ t e. numbers_pushed _ _ _ _ _ _ refl)
  memory_valid (MemoryDiscard m) = by_lookup_valid (memory_address_type cx.of_module m) _ (λ t e. numbers_pushed _ _ _ _ _ _ refl)

  pub atomic_valid : (op : AtomicOp) → PushesValid cx (row_operator (atomic_row cx op))
  atomic_valid (AtomicNotify arg) = access_valid (atomic_address_types cx.of_module arg) (I32 ∷ []) (I32 ∷ []) (refl, tt)
  atomic_valid (AtomicWait t arg) = access_valid (atomic_address_types cx.of_module arg) (integer_type t ∷ I64 ∷ []) (I32 ∷ []) (refl, tt)
  atomic_valid (AtomicFence ordering) = numbers_pushed _ _ _ _ _ _ refl
  atomic_valid (AtomicLoad access arg) = access_valid (atomic_address_types cx.of_module arg) [] (access_type access ∷ []) (access_is_valid access, tt)
  atomic_valid (AtomicStore access arg) = access_valid (atomic_address_types cx.of_module arg) (access_type access ∷ []) [] tt
  atomic_valid (AtomicRmw access op arg) = access_valid (atomic_address_types cx.of_module arg) (access_type access ∷ []) (access_type access ∷ []) (access_is_valid access, tt)
  atomic_valid (AtomicCmpxchg access arg) = access_valid (atomic_address_types cx.of_module arg) (access_type access ∷ access_type access ∷ []) (access_type access ∷ []) (access_is_valid access, tt)
  atomic_valid Pause = numbers_pushed _ _ _ _ _ _ refl

  -- ---- references

  pub without_null_valid : (x y : MaybeType) → IsValidOperand cx.of_module x → operand_without_null x ≡ Some y → IsValidOperand cx.of_module y
  without_null_valid Bottom y v e = subst (IsValidOperand cx.of_module) (some_injective _ _ e) tt
  without_null_valid (UnknownRef a) y v e = subst (IsValidOperand cx.of_module) (some_injective _ _ e) tt
  without_null_valid (Known (Ref r)) y v e = subst (IsValidOperand cx.of_module) (some_injective _ _ e) v
  without_null_valid (Known _) y v e = absurd cc

  is_null_valid : (xs pushed : List MaybeType) → Operands xs → null_test_pushes xs ≡ Some pushed → Operands pushed
  is_null_valid (x ∷ []) pushed v e = subst Operands (mapped_some _ (operand_without_null x) pushed e).2 (refl, tt)
  is_null_valid [] pushed v e = absurd cc
  is_null_valid (x ∷ y ∷ xs) pushed v e = absurd cc

  non_null_above_valid : (ts : List ValType) → AllByRecursion (Valid cx.of_module) ts → (xs pushed : List MaybeType) → Operands xs → non_null_pushes cx ts xs ≡ Some pushed → Operands pushed
  non_null_above_valid [] h (x ∷ []) pushed v e =
      let m = mapped_some _ (operand_without_null x) pushed e in
      subst Operands m.2 (without_null_valid x m.0 v.0 m.1, tt)
  non_null_above_valid [] h [] pushed v e = absurd cc
  non_null_above_valid [] h (x ∷ y ∷ xs) pushed v e = absurd cc
  non_null_above_valid (t ∷ ts) h [] pushed v e = absurd cc
  non_null_above_valid (t ∷ ts) h (x ∷ xs) pushed v e =
      let m = mapped_some _ (non_null_pushes cx ts xs) pushed (guard_some (fits cx x t) _ _ e).1 in
      subst Operands m.2 (h.0, non_null_above_valid ts h.1 xs m.0 v.1 m.1)

  -- the types before the last, which is a reference
  pub before_last_valid : (ts : List ValType) (p : List ValType × RefType) → AllByRecursion (Valid cx.of_module) ts → last_reference ts ≡ Some p → AllByRecursion (Valid cx.of_module) p.0
  before_last_valid [] p h e = absurd cc
  before_last_valid (Ref r ∷ []) p h e = subst (λ (q : List ValType × RefType). AllByRecursion (Valid cx.of_module) q.0) (some_injective _ _ e) tt
  before_last_valid (t ∷ u ∷ ts) p h e =
      let m = mapped_some _ (last_reference (u ∷ ts)) p e in
      subst (λ (q : List ValType × RefType). AllByRecursion (Valid cx.of_module) q.0) m.2 (h.0, before_last_valid (u ∷ ts) m.0 h.1 m.1)
  before_last_valid (t ∷ []) p h e = absurd cc

  pub last_valid : (ts : List ValType) (p : List ValType × RefType) → AllByRecursion (Valid cx.of_module) ts → last_reference ts ≡ Some p → Valid cx.of_module (Ref p.1)
  last_valid [] p h e = absurd cc
  last_valid (Ref r ∷ []) p h e = subst (λ (q : List ValType × RefType). Valid cx.of_module (Ref q.1)) (some_injective _ _ e) h.0
  last_valid (t ∷ u ∷ ts) p h e =
      let m = mapped_some _ (last_reference (u ∷ ts)) p e in
      subst (λ (q : List ValType × RefType). Valid cx.of_module (Ref q.1)) m.2 (last_valid (u ∷ ts) m.0 h.1 m.1)
  last_valid (t ∷ []) p h e = absurd cc

  br_on_null_valid : (d : ℕ) → PushesValid cx (staying_operator (λ hs. br_on_null_row cx hs d))
  br_on_null_valid d =
      record {
        pushed = λ hs xs pushed p v f g. non_null_above_valid (label_types_at cx hs d) (label_at_valid hs d v) xs pushed f g;
        opened = λ hs k p e. absurd cc;
        begun = λ hs all types p e. absurd cc;
      }

  br_on_non_null_valid : (d : ℕ) → PushesValid cx (staying_operator (λ hs. br_on_non_null_row cx hs d))
  br_on_non_null_valid d =
      record {
        pushed = λ hs xs pushed p v f g. by hs xs pushed (label_at_valid hs d v) (last_reference (label_types_at cx hs d)) refl g;
        opened = λ hs k p e. absurd cc;
        begun = λ hs all types p e. absurd cc;
      }
    where
      by : (hs : List Head) (xs pushed : List MaybeType) → AllByRecursion (Valid cx.of_module) (label_types_at cx hs d) → (o : Option (List ValType × RefType)) → last_reference (label_types_at cx hs d) ≡ o → pushed_for cx (lookup_row o (br_on_non_null_row_for cx hs d)).type xs ≡ Some pushed → Operands pushed
      by hs xs pushed v None k g = nothing_pushed pushed _ g
      by hs xs pushed v (Some p) k g =
          subst Operands (some_injective _ _ (guard_some _ _ _ g).1) (all_known cx.of_module p.0 (before_last_valid (label_types_at cx hs d) p v k))

  null_valid : (h : HeapType) → PushesValid cx (staying_operator (λ hs. reference_row cx hs (RefNull h)))
  null_valid h =
      by_lookup_valid (null_heap cx h) _
      (λ k e. plain_valid _ _ _ _ _ _ (λ p. (laws.checked_heap h k (guard_some (is_null_gate_open cx h) _ _ e).1, tt)))

  -- ---- found below an abstract type

  found_pushes_valid : (a : AbstractHeapType) (gives : MaybeType → MaybeType) → ((x : MaybeType) → IsValidOperand cx.of_module (gives x)) → (xs pushed : List MaybeType) → Operands xs → found_pushes cx.of_module a gives xs ≡ Some pushed → Operands pushed
  found_pushes_valid a gives h (x ∷ []) pushed v e =
      let valid : Operands (gives x ∷ []) = (h x, tt) in
      subst Operands (some_injective _ _ (guard_some _ _ _ e).1) valid
  found_pushes_valid a gives h [] pushed v e = absurd cc
  found_pushes_valid a gives h (x ∷ y ∷ xs) pushed v e = absurd cc

  pub measure_valid : (a : AbstractHeapType) → PushesValid cx (row_operator (measure_row cx a))
  measure_valid a = looks_valid _ 1 (found_pushes cx.of_module a (λ x. Known I32)) (found_pushes_valid a (λ x. Known I32) (λ x. refl))

  converted_valid : (a : AbstractHeapType) (x : MaybeType) → IsValidOperand cx.of_module (converted_operand cx.of_module a x)
  converted_valid a (Known (Ref r)) = refl
  converted_valid a (Known _) = tt
  converted_valid a (UnknownRef b) = tt
  converted_valid a Bottom = tt

  ref_eq_valid : (xs pushed : List MaybeType) → Operands xs → ref_eq_pushes cx.of_module xs ≡ Some pushed → Operands pushed
  ref_eq_valid (x ∷ y ∷ []) pushed v e =
      let valid : Operands (Known I32 ∷ []) = (refl, tt) in
      subst Operands (some_injective _ _ (guard_some _ _ _ e).1) valid
  ref_eq_valid [] pushed v e = absurd cc
  ref_eq_valid (x ∷ []) pushed v e = absurd cc
  ref_eq_valid (x ∷ y ∷ z ∷ xs) pushed v e = absurd cc

  -- ---- casts

  pub checked_ref_valid : (r s : RefType) → checked_ref cx r ≡ Some s → Valid cx.of_module (Ref s)
  checked_ref_valid r s e = laws.checked_ref r s (guard_some _ _ _ e).1

  pub cast_type_valid : (nullable : Bool) (h : HeapType) (r : RefType) → cast_type cx nullable h ≡ Some r → Valid cx.of_module (Ref r)
  cast_type_valid nullable h r e =
      let a = and_then_given (option_and_then (checked_ref cx) (reference_to nullable h)) (castable_type cx.of_module) r e in
      let b = and_then_given (reference_to nullable h) (checked_ref cx) a.0 a.1 in
      let g = guard_some (is_castable cx.of_module a.0) _ _ a.2 in
      subst (λ (q : RefType). Valid cx.of_module (Ref q)) (some_injective _ _ g.1) (checked_ref_valid b.0 a.0 b.2)

  pub difference_valid : (a b : RefType) → Valid cx.of_module (Ref a) → Valid cx.of_module (Ref (difference a b))
  difference_valid a b v = by b.nullable
    where
      by : (n : Bool) → Valid cx.of_module (Ref (if n then without_null a else a))
      by true = v
      by false = v

  pub checked_cast_valid : (cast : BranchCast) (p : RefType × RefType) → checked_cast cx cast ≡ Some p → Valid cx.of_module (Ref p.0) × Valid cx.of_module (Ref p.1)
  checked_cast_valid cast p e =
      let a = and_then_given (checked_ref cx cast.from_ref_type) _ p e in
      let b = and_then_given (checked_ref cx cast.to_ref_type) _ p a.2 in
      let g = guard_some (may_cast cx a.0 b.0) _ _ b.2 in
      subst (λ (q : RefType × RefType). Valid cx.of_module (Ref q.0) × Valid cx.of_module (Ref q.1)) (some_injective _ _ g.1) (checked_ref_valid _ a.0 a.1, checked_ref_valid _ b.0 b.1)

  pub but_last_valid : (ts : List ValType) (p : List ValType × ValType) → AllByRecursion (Valid cx.of_module) ts → split_last ts ≡ Some p → AllByRecursion (Valid cx.of_module) p.0
  but_last_valid [] p h e = absurd cc
  but_last_valid (t ∷ []) p h e = subst (λ (q : List ValType × ValType). AllByRecursion (Valid cx.of_module) q.0) (some_injective _ _ e) tt
  but_last_valid (t ∷ u ∷ ts) p h e =
      let m = mapped_some _ (split_last (u ∷ ts)) p e in
      subst (λ (q : List ValType × ValType). AllByRecursion (Valid cx.of_module) q.0) m.2 (h.0, but_last_valid (u ∷ ts) m.0 h.1 m.1)

  one_more_valid : (ts : List ValType) (t : ValType) → AllByRecursion (Valid cx.of_module) ts → Valid cx.of_module t → AllByRecursion (Valid cx.of_module) (ts ++ t ∷ [])
  one_more_valid [] t h v = (v, tt)
  one_more_valid (u ∷ ts) t h v = (h.0, one_more_valid ts t h.1 v)

  cast_branch_valid : (types : RefType × RefType → CastTypes) → ((p : RefType × RefType) → Valid cx.of_module (Ref p.0) → Valid cx.of_module (Ref p.1) → Valid cx.of_module (Ref (types p).left)) → (cast : BranchCast) → PushesValid cx (staying_operator (λ hs. lookup_row (checked_cast cx cast) (λ p. cast_branch_row cx hs cast.relative_depth (types p))))
  cast_branch_valid types keeps cast =
      record {
        pushed = λ hs xs pushed p v f g. by hs xs pushed (label_at_valid hs cast.relative_depth v) (checked_cast cx cast) refl g;
        opened = λ hs k p e. absurd cc;
        begun = λ hs all types p e. absurd cc;
      }
    where
      there : (hs : List Head) (xs pushed : List MaybeType) (t : CastTypes) → Valid cx.of_module (Ref t.left) → AllByRecursion (Valid cx.of_module) (label_types_at cx hs cast.relative_depth) → (o : Option (List ValType × ValType)) → guard (has_label hs cast.relative_depth) (split_last (label_types_at cx hs cast.relative_depth)) ≡ o → pushed_for cx (lookup_row o (cast_branch_row_for cx cast.relative_depth t)).type xs ≡ Some pushed → Operands pushed
      there hs xs pushed t w v None k g = nothing_pushed pushed _ g
      there hs xs pushed t w v (Some p) k g =
          let e = (guard_some (has_label hs cast.relative_depth) _ _ k).1 in
          subst Operands (some_injective _ _ (guard_some _ _ _ g).1) (all_known cx.of_module (p.0 ++ Ref t.left ∷ []) (one_more_valid p.0 (Ref t.left) (but_last_valid _ p v e) w))

      by : (hs : List Head) (xs pushed : List MaybeType) → AllByRecursion (Valid cx.of_module) (label_types_at cx hs cast.relative_depth) → (o : Option (RefType × RefType)) → checked_cast cx cast ≡ o → pushed_for cx (lookup_row o (λ p. cast_branch_row cx hs cast.relative_depth (types p))).type xs ≡ Some pushed → Operands pushed
      by hs xs pushed v None k g = nothing_pushed pushed _ g
      by hs xs pushed v (Some p) k g =
          let c = checked_cast_valid cast p k in
          there hs xs pushed (types p) (keeps p c.0 c.1) v _ refl g

  -- ---- descriptors

  -- a type of the module is valid, exact or not, where its index is
  pub declared_valid : (exact : Bool) (u : UnpackedIndex) → is_valid_index cx.of_module u ≡ true → is_valid_heap cx.of_module (declared_heap exact u) ≡ true
  declared_valid true u v = v
  declared_valid false u v = v

  pub descriptor_valid : (i : ℕ) (d : UnpackedIndex) → descriptor_at cx.of_module i ≡ Some d → is_valid_index cx.of_module d ≡ true
  descriptor_valid i d e =
      let s = and_then_given (cx.of_module.type_at i) descriptor_of d e in
      ((laws.types i s.0 s.1).descriptor d s.2).valid

  get_desc_pushes_valid : (t : ValType) (h : HeapType) (d : UnpackedIndex) → is_valid_index cx.of_module d ≡ true → (xs pushed : List MaybeType) → Operands xs → get_desc_pushes cx t h d xs ≡ Some pushed → Operands pushed
  get_desc_pushes_valid t h d w (x ∷ []) pushed v e = subst Operands (some_injective _ _ (guard_some (fits cx x t) _ _ e).1) (declared_valid _ d w, tt)
  get_desc_pushes_valid t h d w [] pushed v e = absurd cc
  get_desc_pushes_valid t h d w (x ∷ y ∷ xs) pushed v e = absurd cc

  get_desc_valid : (i : ℕ) → PushesValid cx (row_operator (ref_get_desc_row cx i))
  get_desc_valid i =
      by_lookup_valid (descriptor_at cx.of_module i) _
      (λ d e. lookups_valid (type_reference cx nullable_reference i) (cx.of_module.canonical_heap (Exact (Module i))) _
      (λ t h a b. looks_valid true 1 (get_desc_pushes cx t h d) (get_desc_pushes_valid t h d (descriptor_valid i d e))))

  tested_pushes_valid : (test : MaybeType → Bool) (expected push : List ValType) → AllByRecursion (Valid cx.of_module) push → (xs pushed : List MaybeType) → tested_pushes cx test expected push xs ≡ Some pushed → Operands pushed
  tested_pushes_valid test expected push v xs pushed e = subst Operands (some_injective _ _ (guard_some (fit_under cx test expected xs) _ _ e).1) (all_known cx.of_module push v)

  cast_desc_eq_valid : (nullable : Bool) (h : HeapType) → PushesValid cx (row_operator (ref_cast_desc_eq_row cx nullable h))
  cast_desc_eq_valid nullable h =
      lookups_valid (descriptor_in cx.of_module h) (cast_type cx nullable h) _
      (λ d r e k. looks_valid true 2 (tested_pushes cx (is_cast_descriptor cx (is_exact h) d) (cast_operand cx.of_module r ∷ []) (Ref r ∷ []))
      (λ xs pushed v g. tested_pushes_valid (is_cast_descriptor cx (is_exact h) d) (cast_operand cx.of_module r ∷ []) (Ref r ∷ []) (cast_type_valid nullable h r k, tt) xs pushed g))

  descriptor_branch_valid : (types : RefType × RefType → CastTypes) → ((p : RefType × RefType) → Valid cx.of_module (Ref p.0) → Valid cx.of_module (Ref p.1) → Valid cx.of_module (Ref (types p).left)) → (cast : BranchCast) → PushesValid cx (staying_operator (λ hs. cast_desc_eq_branch_row cx hs types cast))
  descriptor_branch_valid types keeps cast =
      record {
        pushed = λ hs xs pushed p v f g. by hs xs pushed (label_at_valid hs cast.relative_depth v) (descriptor_in cx.of_module cast.to_ref_type.heap_type) (checked_cast cx cast) refl g;
        opened = λ hs k p e. absurd cc;
        begun = λ hs all types p e. absurd cc;
      }
    where
      there : (hs : List Head) (xs pushed : List MaybeType) (test : MaybeType → Bool) (t : CastTypes) → Valid cx.of_module (Ref t.left) → AllByRecursion (Valid cx.of_module) (label_types_at cx hs cast.relative_depth) → (o : Option (List ValType × ValType)) → guard (has_label hs cast.relative_depth) (split_last (label_types_at cx hs cast.relative_depth)) ≡ o → pushed_for cx (lookup_row o (descriptor_branch_row_for cx test cast.relative_depth t)).type xs ≡ Some pushed → Operands pushed
      there hs xs pushed test t w v None k g = nothing_pushed pushed _ g
      there hs xs pushed test t w v (Some p) k g =
          let e = (guard_some (has_label hs cast.relative_depth) _ _ k).1 in
          tested_pushes_valid test (p.0 ++ Ref t.from ∷ []) (p.0 ++ Ref t.left ∷ []) (one_more_valid p.0 (Ref t.left) (but_last_valid _ p v e) w) xs pushed g

      by : (hs : List Head) (xs pushed : List MaybeType) → AllByRecursion (Valid cx.of_module) (label_types_at cx hs cast.relative_depth) → (d : Option UnpackedIndex) (o : Option (RefType × RefType)) → checked_cast cx cast ≡ o → pushed_for cx (lookups_row d o (λ u p. descriptor_branch_row cx hs (is_cast_descriptor cx (is_exact cast.to_ref_type.heap_type) u) cast.relative_depth (types p))).type xs ≡ Some pushed → Operands pushed
      by hs xs pushed v None o k g = nothing_pushed pushed _ g
      by hs xs pushed v (Some d) None k g = nothing_pushed pushed _ g
      by hs xs pushed v (Some d) (Some p) k g =
          let c = checked_cast_valid cast p k in
          there hs xs pushed (is_cast_descriptor cx (is_exact cast.to_ref_type.heap_type) d) (types p) (keeps p c.0 c.1) v _ refl g

  pub reference_valid : (op : ReferenceOp) → PushesValid cx (staying_operator (λ hs. reference_row cx hs op))
  reference_valid (RefNull h) = null_valid h
  reference_valid RefIsNull = looks_valid _ 1 null_test_pushes is_null_valid
  reference_valid (RefFunc f) = by_lookup_valid (cx.of_module.type_id_of f) _ (λ id e. plain_valid _ _ _ _ _ _ (λ p. (declared_valid _ _ (laws.functions f id e), tt)))
  reference_valid RefAsNonNull = looks_valid _ 1 (non_null_pushes cx []) (non_null_above_valid [] tt)
  reference_valid (BrOnNull d) = br_on_null_valid d
  reference_valid (BrOnNonNull d) = br_on_non_null_valid d
  reference_valid RefEq = looks_valid _ 2 (ref_eq_pushes cx.of_module) ref_eq_valid
  reference_valid (RefTestNonNull h) = by_lookup_valid (cast_type cx false h) _ (λ r e. numbers_pushed _ _ _ _ _ _ refl)
  reference_valid (RefTestNullable h) = by_lookup_valid (cast_type cx true h) _ (λ r e. numbers_pushed _ _ _ _ _ _ refl)
  reference_valid (RefCastNonNull h) = by_lookup_valid (cast_type cx false h) _ (λ r e. plain_valid _ _ _ _ _ _ (λ p. (cast_type_valid false h r e, tt)))
  reference_valid (RefCastNullable h) = by_lookup_valid (cast_type cx true h) _ (λ r e. plain_valid _ _ _ _ _ _ (λ p. (cast_type_valid true h r e, tt)))
  reference_valid (BrOnCast cast) = cast_branch_valid types_on_cast (λ p v w. difference_valid p.0 p.1 v) cast
  reference_valid (BrOnCastFail cast) = cast_branch_valid types_on_cast_fail (λ p v w. w) cast
  reference_valid (RefGetDesc i) = get_desc_valid i
  reference_valid (RefCastDescEqNonNull h) = cast_desc_eq_valid false h
  reference_valid (RefCastDescEqNullable h) = cast_desc_eq_valid true h
  reference_valid (BrOnCastDescEq cast) = descriptor_branch_valid types_on_cast (λ p v w. difference_valid p.0 p.1 v) cast
  reference_valid (BrOnCastDescEqFail cast) = descriptor_branch_valid types_on_cast_fail (λ p v w. w) cast
  reference_valid RefI31 = plain_valid _ _ _ _ _ _ (λ p. (refl, tt))
  reference_valid (I31Get sign) = measure_valid I31
  reference_valid AnyConvertExtern = looks_valid _ 1 (found_pushes cx.of_module Extern (converted_operand cx.of_module Any)) (found_pushes_valid Extern (converted_operand cx.of_module Any) (converted_valid Any))
  reference_valid ExternConvertAny = looks_valid _ 1 (found_pushes cx.of_module Any (converted_operand cx.of_module Extern)) (found_pushes_valid Any (converted_operand cx.of_module Extern) (converted_valid Extern))

  -- ---- tables

  pub table_found : (i : ℕ) (t : TableType) → table_type cx i ≡ Some t → cx.of_module.table_at i ≡ Some t
  table_found i t e =
      let b = and_then_given (cx.of_module.table_at i) (accessible_table cx) t e in
      let k = guard_some (may_access cx b.0.shared) _ _ b.2 in
      subst (λ u. cx.of_module.table_at i ≡ Some u) (some_injective _ _ k.1) b.1

  place_valid : (i : ℕ) (t : TableType) → table_type cx i ≡ Some t → Valid cx.of_module (address_type_of_table t)
  place_valid i t e = number_valid _ (address_is_number t.table64)

  pub table_valid : (op : TableOp) → PushesValid cx (row_operator (table_row cx op))
  table_valid (TableGet i) = by_lookup_valid (table_type cx i) _ (λ t e. plain_valid _ _ _ _ _ _ (λ p. (laws.tables i t (table_found i t e), tt)))
  table_valid (TableGrow i) = by_lookup_valid (table_type cx i) _ (λ t e. plain_valid _ _ _ _ _ _ (λ p. (place_valid i t e, tt)))
  table_valid (TableSize i) = by_lookup_valid (table_type cx i) _ (λ t e. plain_valid _ _ _ _ _ _ (λ p. (place_valid i t e, tt)))
  table_valid (TableInit segment i) = by_lookup_valid (table_type cx i) (λ t. lookup_row (cx.of_module.element_at segment) (table_init_row_for cx t)) (λ t e. by_lookup_valid _ (table_init_row_for cx t) (λ r k. numbers_pushed _ _ _ _ _ _ refl))
  table_valid (ElemDrop segment) = by_lookup_valid (cx.of_module.element_at segment) _ (λ r e. numbers_pushed _ _ _ _ _ _ refl)
  table_valid (TableCopy dst src) = by_lookup_valid (table_type cx src) (λ from. lookup_row (table_type cx dst) (table_copy_row_for cx from)) (λ from e. by_lookup_valid _ (table_copy_row_for cx from) (λ to k. numbers_pushed _ _ _ _ _ _ refl))
  table_valid (TableSet i) = by_lookup_valid (table_type cx i) _ (λ t e. numbers_pushed _ _ _ _ _ _ refl)
  table_valid (TableFill i) = by_lookup_valid (table_type cx i) _ (λ t e. numbers_pushed _ _ _ _ _ _ refl)
