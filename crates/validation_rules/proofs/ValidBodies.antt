-- Every operator of the table keeps the state valid: what a gate and the operators on exceptions need for that.
use Rattle.std.proofs.Common.{◌≡◌, ℕ, Bool, true, false, List, [], Option, Some, None, refl, sym, subst}
use Rattle.std.specs.List.{AllByRecursion}
use Rattle.validate_resources.specs.Context.{IsLawful, Valid}
use Rattle.validate_types.specs.Gates.{is_open}
use Rattle.validate_types.specs.declared.gate.Gate.{Gate}
use Rattle.validate_visit.specs.Gates.{gate_of}
use Rattle.validate_visit.specs.declared.op.ExceptionOp.{ExceptionOp}
use Rattle.validate_visit.specs.declared.op.ExceptionOp.TheVariants.{TryTable as TryTableOp, Throw, ThrowRef, Try, Catch as CatchOp, CatchAll, Delegate, Rethrow}
use Rattle.validate_visit.specs.declared.op.Op.{Op}
use Rattle.validate_visit.specs.declared.op.Op.TheVariants.{Control, Numeric, Convert, Memory, Atomic, Reference, Table, Struct, Array, Exception, Continuation}
use Rattle.validate_visit.specs.declared.op.Op.TheVariants.{Shared}
use Rattle.validation_rules.specs.Context.{ModuleContext, ValType, Context}
use Rattle.validation_rules.specs.Exceptions.{types_carried, exception_types, catch_clauses, operator_catching, catch_operator, delegate_operator, exception_operator}
use Rattle.validation_rules.specs.Operators.{checked_block, delimiter_operator, gated_operator, ungated_operator, operator}
use Rattle.validation_rules.specs.Rows.{TryTable, LegacyTry, BeginsCatch, Clause, Operator}
use Rattle.validation_rules.specs.Valid.{RowsKeepValid}
use Rattle.validation_rules.proofs.Below.{and_true}
use Rattle.validation_rules.proofs.PushesValid.{PushesValid}
use Rattle.validation_rules.proofs.Steps.{some_injective, guard_some, and_then_given}
use Rattle.validation_rules.proofs.ValidContinuations.{continuations_valid}
use Rattle.validation_rules.proofs.Valid.{steps_keep_valid, nothing_pushed, plain_valid, flat_valid, opener_valid, by_lookup_valid, control_valid, numeric_valid, convert_valid, memory_valid, atomic_valid, reference_valid, table_valid}
use Rattle.validation_rules.proofs.ValidAggregates.{struct_valid, array_valid}
use Rattle.validation_rules.proofs.ValidShared.{shared_valid}

module _ (cx : Context) (laws : IsLawful cx.of_module) where
  -- ---- exceptions

  catching_valid : (op : Operator) → PushesValid cx op → (o : Option (List Clause)) → PushesValid cx (operator_catching op o)
  catching_valid op v (Some clauses) = record { pushed = v.pushed; opened = v.opened; begun = v.begun }
  catching_valid op v None =
      record {
        pushed = λ hs xs pushed p w f g. absurd cc;
        opened = λ hs k p e. absurd cc;
        begun = λ hs all types p e. absurd cc;
      }

  carried_valid : (tag : ℕ) (types : List ValType) → exception_types cx.of_module tag ≡ Some types → AllByRecursion (Valid cx.of_module) types
  carried_valid tag types e =
      let b = and_then_given (cx.of_module.tag_at tag) types_carried types e in
      subst (AllByRecursion (Valid cx.of_module)) (some_injective _ _ (guard_some _ _ _ b.2).1) (laws.tags tag b.0 b.1).0

  begins_valid : (all : Bool) (types : List ValType) → AllByRecursion (Valid cx.of_module) types → PushesValid cx (delimiter_operator (BeginsCatch all types))
  begins_valid all types v =
      record {
        pushed = λ hs xs pushed p w f g. nothing_pushed cx laws pushed _ g;
        opened = λ hs k p e. absurd cc;
        begun = λ hs a ts p e. let same : types ≡ ts = cc in subst (AllByRecursion (Valid cx.of_module)) same v;
      }

  catch_valid : (tag : ℕ) (o : Option (List ValType)) → exception_types cx.of_module tag ≡ o → PushesValid cx (catch_operator o)
  catch_valid tag (Some types) e = begins_valid false types (carried_valid tag types e)
  catch_valid tag None e =
      record {
        pushed = λ hs xs pushed p w f g. absurd cc;
        opened = λ hs k p i. absurd cc;
        begun = λ hs all types p i. absurd cc;
      }

  delegate_valid : (d : ℕ) → PushesValid cx (delegate_operator d)
  delegate_valid d =
      record {
        pushed = λ hs xs pushed p v f g. nothing_pushed cx laws pushed _ g;
        opened = λ hs k p e. absurd cc;
        begun = λ hs all types p e. absurd cc;
      }

  exception_valid : (op : ExceptionOp) → PushesValid cx (exception_operator cx op)
  exception_valid (TryTableOp t) =
      catching_valid _ (opener_valid cx laws TryTable [] t.ty (checked_block cx t.ty) refl) (catch_clauses cx.of_module t.catches.now)
  exception_valid (Throw tag) = by_lookup_valid cx laws (exception_types cx.of_module tag) _ (λ ts e. plain_valid cx laws _ _ _ _ [] _ (λ p. tt))
  exception_valid ThrowRef = plain_valid cx laws _ _ _ _ [] _ (λ p. tt)
  exception_valid (Try bt) = opener_valid cx laws LegacyTry [] bt (checked_block cx bt) refl
  exception_valid (CatchOp tag) = catch_valid tag (exception_types cx.of_module tag) refl
  exception_valid CatchAll = begins_valid true [] tt
  exception_valid (Delegate d) = delegate_valid d
  exception_valid (Rethrow d) = flat_valid cx laws _ (λ hs. []) (λ hs. []) (λ hs. []) (λ hs. refl) (λ hs v. tt)

  ungated_valid : (op : Op) → AllByRecursion (Valid cx.of_module) cx.locals → PushesValid cx (ungated_operator cx op)
  ungated_valid (Control op) l = control_valid cx laws op l
  ungated_valid (Numeric op) l = numeric_valid cx laws op
  ungated_valid (Convert op) l = convert_valid cx laws op
  ungated_valid (Memory op) l = memory_valid cx laws op
  ungated_valid (Atomic op) l = atomic_valid cx laws op
  ungated_valid (Reference op) l = reference_valid cx laws op
  ungated_valid (Table op) l = table_valid cx laws op
  ungated_valid (Struct op) l = struct_valid cx laws op
  ungated_valid (Array op) l = array_valid cx laws op
  ungated_valid (Exception op) l = exception_valid op
  ungated_valid (Continuation op) l = continuations_valid cx laws op
  ungated_valid (Shared op) l = shared_valid cx laws op

  -- a gate takes nothing away from that
  behind_valid : (gate : Gate) (op : Operator) → PushesValid cx op → PushesValid cx (gated_operator cx gate op)
  behind_valid gate op v =
      record {
        pushed = λ hs xs pushed p h f g. v.pushed hs xs pushed (and_true (is_open cx.features gate) _ p).1 h f g;
        opened = λ hs h p e. v.opened hs h (and_true (is_open cx.features gate) _ p).1 e;
        begun = λ hs all types p e. v.begun hs all types (and_true (is_open cx.features gate) _ p).1 e;
      }

  pub operator_valid : (op : Op) → AllByRecursion (Valid cx.of_module) cx.locals → PushesValid cx (operator cx op)
  operator_valid op l = behind_valid (gate_of op) (ungated_operator cx op) (ungated_valid op l)

pub rows_keep_valid : (md : ModuleContext) → IsLawful md → RowsKeepValid md
rows_keep_valid md laws cx op s u same h e =
    let l = subst IsLawful (sym same) laws in
    steps_keep_valid cx l (operator cx op) s u (operator_valid cx l op h.locals_valid) h e
