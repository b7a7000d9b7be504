-- What is read behind a code of its form is what the bytes begin with.
use Rattle.std.proofs.Common.{◌≡◌, ℕ, List, ◌∷◌, Option, Some, None, refl, sym, ap, ◌∙◌, ℤ, option_map}
use Rattle.binary_operators.specs.Codes.{at, access_ops, index_ops}
use Rattle.binary_operators.specs.Forms.{from, forms}
use Rattle.binary_operators.specs.Immediates.{memarg}
use Rattle.binary_operators.specs.Instructions.{operator, operator_of, index_op, access_op, constant_i32, constant_i64, constant_f32, constant_f64}
use Rattle.binary_operators.specs.Integers.{unsigned, signed}
use Rattle.binary_operators.specs.Numbers.{numeric_ops, conversion_ops}
use Rattle.binary_operators.specs.Unplaced.{unplaced}
use Rattle.binary_operators.specs.Values.{◌>>=◌, float32, float64}
use Rattle.binary_operators.specs.declared.forms.Form.{Form}
use Rattle.binary_operators.specs.declared.forms.Form.TheVariants.{Access, Conversion, Index, Numeric as OfNumeric, I32, I64, F32, F64}
use Rattle.binary_operators.specs.declared.types.CanonicalTypes.{CanonicalTypes}
use Rattle.validate_visit.specs.declared.memory.MemArg.{MemArg}
use Rattle.validate_visit.specs.declared.op.ConvertOp.{ConvertOp}
use Rattle.validate_visit.specs.declared.op.NumericOp.{NumericOp}
use Rattle.validate_visit.specs.declared.op.NumericOp.TheVariants.{I32Const, I64Const, F32Const, F64Const}
use Rattle.validate_visit.specs.declared.op.Op.{Op}
use Rattle.validate_visit.specs.declared.op.Op.TheVariants.{Numeric, Convert}
use Rattle.module_check.specs.FirstBytes.{BeginLike}

abbrev before : List ℕ → Op → Option (Op × List ℕ)
before bs op = Some (op, bs)

made : {A : Type 0} (make : Option (A → Op)) (x : A) (op : Op) (bs : List ℕ) → option_map (λ (f : A → Op). f x) make ≡ Some op → (make >>= (λ (f : A → Op). before bs (f x))) ≡ Some (op, bs)
made None x op bs h = cc
made (Some f) x op bs h = ap (λ (o : Option Op). o >>= before bs) h

module _ {bytes : List ℕ} {code : ℕ} {left behind : List ℕ} (begins : bytes ≡ code ∷ left) where
  told : (form : Form) (op : Op) → from 0 forms code ≡ Some form → ((types : CanonicalTypes) → operator_of (Some form) code types left ≡ Some (unplaced op, behind)) → BeginLike bytes op behind
  unfolding operator
  told form op is read = record {
    actual = op;
    is_read = λ types. ap (operator types) begins ∙ ap (λ f. operator_of f code types left) is ∙ read types;
    same_row = λ cx. refl;
  }

  pub index_told : (op : Op) (index : ℕ) → from 0 forms code ≡ Some Index → unsigned 32 left ≡ Some (index, behind) → option_map (λ (f : ℕ → Op). f index) (at code index_ops) ≡ Some (unplaced op) → BeginLike bytes op behind
  unfolding index_op
  index_told op index is read h = told Index op is (λ types.
      ap (λ (r : Option (ℕ × List ℕ)). r >>= (λ (i : ℕ × List ℕ). at code index_ops >>= (λ (f : ℕ → Op). before i.1 (f i.0)))) read
      ∙ made (at code index_ops) index (unplaced op) behind h)

  pub access_told : (op : Op) (m : MemArg) → from 0 forms code ≡ Some Access → memarg left ≡ Some (m, behind) → option_map (λ (f : MemArg → Op). f m) (at code access_ops) ≡ Some (unplaced op) → BeginLike bytes op behind
  unfolding access_op
  access_told op m is read h = told Access op is (λ types.
      ap (λ (r : Option (MemArg × List ℕ)). r >>= (λ (p : MemArg × List ℕ). at code access_ops >>= (λ (f : MemArg → Op). before p.1 (f p.0)))) read
      ∙ made (at code access_ops) m (unplaced op) behind h)

  pub numeric_told : (op : NumericOp) → from 0 forms code ≡ Some OfNumeric → behind ≡ left → from 0x45 numeric_ops code ≡ Some op → BeginLike bytes (Numeric op) behind
  numeric_told op is same h = told OfNumeric (Numeric op) is (λ types.
      ap (λ (o : Option NumericOp). o >>= (λ (n : NumericOp). Some (Numeric n, left))) h ∙ ap (λ bs. Some (Numeric op, bs)) (sym same))

  pub conversion_told : (op : ConvertOp) → from 0 forms code ≡ Some Conversion → behind ≡ left → from 0xa7 conversion_ops code ≡ Some op → BeginLike bytes (Convert op) behind
  conversion_told op is same h = told Conversion (Convert op) is (λ types.
      ap (λ (o : Option ConvertOp). o >>= (λ (n : ConvertOp). Some (Convert n, left))) h ∙ ap (λ bs. Some (Convert op, bs)) (sym same))

  pub i32_told : {m : ℤ} (n : ℤ) → from 0 forms code ≡ Some I32 → signed 32 left ≡ Some (n, behind) → BeginLike bytes (Numeric (I32Const m)) behind
  unfolding operator constant_i32
  i32_told n is read = record {
    actual = Numeric (I32Const n);
    is_read = λ types. ap (operator types) begins ∙ ap (λ f. operator_of f code types left) is
        ∙ ap (λ (r : Option (ℤ × List ℕ)). r >>= (λ (j : ℤ × List ℕ). Some (Numeric (I32Const j.0), j.1))) read;
    same_row = λ cx. refl;
  }

  pub i64_told : {m : ℤ} (n : ℤ) → from 0 forms code ≡ Some I64 → signed 64 left ≡ Some (n, behind) → BeginLike bytes (Numeric (I64Const m)) behind
  unfolding operator constant_i64
  i64_told n is read = record {
    actual = Numeric (I64Const n);
    is_read = λ types. ap (operator types) begins ∙ ap (λ f. operator_of f code types left) is
        ∙ ap (λ (r : Option (ℤ × List ℕ)). r >>= (λ (j : ℤ × List ℕ). Some (Numeric (I64Const j.0), j.1))) read;
    same_row = λ cx. refl;
  }

  pub f32_told : (n : ℕ) → from 0 forms code ≡ Some F32 → float32 left ≡ Some (n, behind) → BeginLike bytes (Numeric (F32Const (record { 0 = n }))) behind
  unfolding constant_f32
  f32_told n is read = told F32 (Numeric (F32Const (record { 0 = n }))) is (λ types.
      ap (λ (r : Option (ℕ × List ℕ)). r >>= (λ (z : ℕ × List ℕ). Some (Numeric (F32Const (record { 0 = z.0 })), z.1))) read)

  pub f64_told : (n : ℕ) → from 0 forms code ≡ Some F64 → float64 left ≡ Some (n, behind) → BeginLike bytes (Numeric (F64Const (record { 0 = n }))) behind
  unfolding constant_f64
  f64_told n is read = told F64 (Numeric (F64Const (record { 0 = n }))) is (λ types.
      ap (λ (r : Option (ℕ × List ℕ)). r >>= (λ (z : ℕ × List ℕ). Some (Numeric (F64Const (record { 0 = z.0 })), z.1))) read)
