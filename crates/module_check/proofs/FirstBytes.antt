-- What is told by the first byte is what the bytes are.
use Rattle.std.proofs.Common.{◌≡◌, ℕ, ◌+◌, ◌*◌, List, [], ◌∷◌, Bool, true, false, Option, Some, None, suc, zero, ◌&&◌, ◌||◌, refl, length, sym, ap, subst, ◌∙◌, get_or, arith, nat_eq, nat_lt, ◌<◌, ◌≤◌, ◌-◌, ◌^◌, drop, if◌then◌else◌, ℤ, pos, ◌-ℤ◌, ◌⊎◌, inl, inr, option_map}
use borrow.Author.Tests.{clash}
use Rattle.std.proofs.lemmas.Bool.{and_parts, eqb-true, ltb-true, lt-ltb, le-ltb, cases_lt}
use Rattle.binary_operators.specs.Codes.{at, natural, plain_ops, index_ops, block_ops, access_ops}
use Rattle.binary_operators.specs.Immediates.{block_type, memarg, in_memory, in_indexed_memory}
use Rattle.binary_operators.specs.Integers.{unsigned, signed, biased, last_biased, with_low, with_rest, without_bias}
use Rattle.binary_operators.specs.Unplaced.{unplaced}
use Rattle.binary_operators.specs.Forms.{from, forms}
use Rattle.binary_operators.specs.Instructions.{operator, operator_of, index_op, block_op, access_op, constant_i32, constant_i64}
use Rattle.binary_operators.specs.Numbers.{numeric_ops}
use Rattle.binary_operators.specs.Unread.{Unread}
use Rattle.binary_operators.specs.Values.{◌>>=◌}
use Rattle.binary_operators.specs.declared.forms.Form.{Form}
use Rattle.binary_operators.specs.declared.forms.Form.TheVariants.{Numeric as OfNumeric, Access as OfAccess, Index as OfIndex}
use Rattle.binary_operators.specs.declared.types.CanonicalTypes.{CanonicalTypes}
use Rattle.validate_visit.specs.Order.{is_part_closer, nesting}
use Rattle.validate_visit.specs.declared.memory.MemArg.{MemArg}
use Rattle.validate_visit.specs.declared.numbers.NumberType.{NumberType}
use Rattle.validate_visit.specs.declared.numbers.NumberType.TheVariants.{I32, I64, F32, F64}
use Rattle.validate_visit.specs.declared.numbers.PackedInteger.TheVariants.{I32Bits8, I32Bits16, I64Bits8, I64Bits16, I64Bits32}
use Rattle.validate_visit.specs.declared.numbers.Sign.TheVariants.{Signed, Unsigned}
use Rattle.validate_visit.specs.declared.op.MemoryOp.{MemoryOp}
use Rattle.validate_visit.specs.declared.op.MemoryOp.TheVariants.{Load, LoadPacked, Store, StorePacked}
use Rattle.validate_visit.specs.declared.numbers.IntegerType.TheVariants.{I32 as W32, I64 as W64}
use Rattle.validate_visit.specs.declared.numbers.FloatType.TheVariants.{F32 as R32, F64 as R64}
use Rattle.validate_visit.specs.declared.numeric.FloatBinaryOp.TheVariants.{Add as AddF}
use Rattle.validate_visit.specs.declared.numeric.IntegerBinaryOp.TheVariants.{Add}
use Rattle.validate_visit.specs.declared.numeric.IntegerComparisonOp.TheVariants.{Eq}
use Rattle.validate_visit.specs.declared.op.ControlOp.{ControlOp}
use Rattle.validate_visit.specs.declared.op.ControlOp.TheVariants.{Nop as NopOp, End as EndOp, Return as ReturnOp, Drop as DropOp, Select as SelectOp, LocalGet as LocalGetOp, LocalSet as LocalSetOp, LocalTee as LocalTeeOp, Block as BlockOp, Loop as LoopOp, If as IfOp}
use Rattle.validate_visit.specs.declared.op.NumericOp.{NumericOp}
use Rattle.validate_visit.specs.declared.op.NumericOp.TheVariants.{I32Const, I64Const, Eqz, IntegerBinary, IntegerComparison, FloatBinary}
use Rattle.validate_visit.specs.declared.op.Op.{Op}
use Rattle.validate_visit.specs.declared.op.Op.TheVariants.{Numeric, Control, Memory}
use Rattle.validate_visit.specs.declared.frame.BlockType.TheVariants.{Empty}
use Rattle.validation_rules.specs.Context.{Context}
use Rattle.validation_rules.specs.Operators.{operator as row_of}
use Rattle.module_check.specs.FirstBytes.{kinds, near, BeginAs, BeginLike, BeginAccess, EndsNear, IsNear}
use Rattle.module_check.specs.declared.first_bytes.Common.{Common}
use Rattle.module_check.specs.declared.first_bytes.Common.TheVariants.{Rare, Nop, Block, Loop, If, End, Indexed, Return, Drop, Select, LocalGet, LocalSet, LocalTee, Constant32, Constant64, Test32, Compare32, Compare64, Binary32, Binary64, BinaryF32, BinaryF64, Load32, Load64, LoadF32, LoadF64, Store32, Store64, StoreF32, StoreF64}

-- whether a byte of this form, with this operator on numbers, is of the kind
abbrev pub is_test32 : Option Form → Option NumericOp → Bool
is_test32 (Some OfNumeric) (Some (Eqz W32)) = true
is_test32 _ _ = false

abbrev pub is_compare32 : Option Form → Option NumericOp → Bool
is_compare32 (Some OfNumeric) (Some (IntegerComparison W32 _)) = true
is_compare32 _ _ = false

abbrev pub is_compare64 : Option Form → Option NumericOp → Bool
is_compare64 (Some OfNumeric) (Some (IntegerComparison W64 _)) = true
is_compare64 _ _ = false

abbrev pub is_binary32 : Option Form → Option NumericOp → Bool
is_binary32 (Some OfNumeric) (Some (IntegerBinary W32 _)) = true
is_binary32 _ _ = false

abbrev pub is_binary64 : Option Form → Option NumericOp → Bool
is_binary64 (Some OfNumeric) (Some (IntegerBinary W64 _)) = true
is_binary64 _ _ = false

abbrev pub is_binary_f32 : Option Form → Option NumericOp → Bool
is_binary_f32 (Some OfNumeric) (Some (FloatBinary R32 _)) = true
is_binary_f32 _ _ = false

abbrev pub is_binary_f64 : Option Form → Option NumericOp → Bool
is_binary_f64 (Some OfNumeric) (Some (FloatBinary R64 _)) = true
is_binary_f64 _ _ = false

abbrev pub is_indexed : Option Form → Bool
is_indexed (Some OfIndex) = true
is_indexed _ = false

indexed_form : (form : Option Form) → is_indexed form ≡ true → form ≡ Some OfIndex
indexed_form (Some OfIndex) e = refl
indexed_form _ e = absurd (clash e)

-- the codes of loads and stores of each type, with their natural alignments
abbrev load32_codes : List (ℕ × ℕ)
load32_codes = (0x28, 2) ∷ (0x2c, 0) ∷ (0x2d, 0) ∷ (0x2e, 1) ∷ (0x2f, 1) ∷ []

abbrev load64_codes : List (ℕ × ℕ)
load64_codes = (0x29, 3) ∷ (0x30, 0) ∷ (0x31, 0) ∷ (0x32, 1) ∷ (0x33, 1) ∷ (0x34, 2) ∷ (0x35, 2) ∷ []

abbrev store32_codes : List (ℕ × ℕ)
store32_codes = (0x36, 2) ∷ (0x3a, 0) ∷ (0x3b, 1) ∷ []

abbrev store64_codes : List (ℕ × ℕ)
store64_codes = (0x37, 3) ∷ (0x3c, 0) ∷ (0x3d, 1) ∷ (0x3e, 2) ∷ []

abbrev pub is_among : ℕ → ℕ → List (ℕ × ℕ) → Bool
is_among code natural [] = false
is_among code natural (c ∷ cs) = (nat_eq code c.0 && nat_eq natural c.1) || is_among code natural cs

-- whether an operator of this kind begins with this byte
unfoldable pub is_common : ℕ → Common → Bool
is_common code Rare = true
is_common code Test32 = is_test32 (from 0 forms code) (from 0x45 numeric_ops code)
is_common code Compare32 = is_compare32 (from 0 forms code) (from 0x45 numeric_ops code)
is_common code Compare64 = is_compare64 (from 0 forms code) (from 0x45 numeric_ops code)
is_common code Binary32 = is_binary32 (from 0 forms code) (from 0x45 numeric_ops code)
is_common code Binary64 = is_binary64 (from 0 forms code) (from 0x45 numeric_ops code)
is_common code BinaryF32 = is_binary_f32 (from 0 forms code) (from 0x45 numeric_ops code)
is_common code BinaryF64 = is_binary_f64 (from 0 forms code) (from 0x45 numeric_ops code)
is_common code (Load32 n) = is_among code n load32_codes
is_common code (Load64 n) = is_among code n load64_codes
is_common code (LoadF32 n) = is_among code n ((0x2a, 2) ∷ [])
is_common code (LoadF64 n) = is_among code n ((0x2b, 3) ∷ [])
is_common code (Store32 n) = is_among code n store32_codes
is_common code (Store64 n) = is_among code n store64_codes
is_common code (StoreF32 n) = is_among code n ((0x38, 2) ∷ [])
is_common code (StoreF64 n) = is_among code n ((0x39, 3) ∷ [])
is_common code Nop = nat_eq code 0x01
is_common code Block = nat_eq code 0x02
is_common code Loop = nat_eq code 0x03
is_common code If = nat_eq code 0x04
is_common code End = nat_eq code 0x0b
is_common code Return = nat_eq code 0x0f
is_common code Indexed = is_indexed (from 0 forms code)
is_common code Drop = nat_eq code 0x1a
is_common code Select = nat_eq code 0x1b
is_common code LocalGet = nat_eq code 0x20
is_common code LocalSet = nat_eq code 0x21
is_common code LocalTee = nat_eq code 0x22
is_common code Constant32 = nat_eq code 0x41
is_common code Constant64 = nat_eq code 0x42

abbrev pub are_common : ℕ → List Common → Bool
are_common n [] = true
are_common n (k ∷ ks) = is_common n k && are_common (suc n) ks

common_at : (n : ℕ) (ks : List Common) → are_common n ks ≡ true → (i code : ℕ) → code ≡ i + n → is_common code (get_or ks i Rare) ≡ true
unfolding is_common
common_at n [] h i code e = refl
common_at n (k ∷ ks) h zero code e =
    let same : n ≡ code = omega (arith, e) in
    subst (λ c. is_common c k ≡ true) same (and_parts _ _ h).0
common_at n (k ∷ ks) h (suc i) code e =
    let next : code ≡ i + suc n = omega (arith, e) in
    common_at (suc n) ks (and_parts _ _ h).1 i code next

all_common : are_common 0 kinds ≡ true
unfolding is_common kinds forms numeric_ops
all_common = refl

pub common_there : (code : ℕ) (k : Common) → k ≡ get_or kinds code Rare → is_common code k ≡ true
common_there code k e =
    let same : code ≡ code + 0 = omega arith in
    subst (λ x. is_common code x ≡ true) (sym e) (common_at 0 kinds all_common code code same)

numeric_read : (types : CanonicalTypes) (code : ℕ) (rest : List ℕ) (op : NumericOp) → from 0 forms code ≡ Some OfNumeric → from 0x45 numeric_ops code ≡ Some op → operator types (code ∷ rest) ≡ Some (Numeric op, rest)
unfolding operator
numeric_read types code rest op e f =
    ap (λ form. operator_of form code types rest) e ∙ ap (λ (o : Option NumericOp). o >>= (λ (n : NumericOp). Some (Numeric n, rest))) f

test32_of : (code : ℕ) (rest : List ℕ) (form : Option Form) (op : Option NumericOp) → from 0 forms code ≡ form → from 0x45 numeric_ops code ≡ op → is_test32 form op ≡ true → BeginLike (code ∷ rest) (Numeric (Eqz W32)) rest
test32_of code rest (Some OfNumeric) (Some (Eqz W32)) e f h = record {
  actual = Numeric (Eqz W32);
  is_read = λ types. numeric_read types code rest (Eqz W32) e f;
  same_row = λ cx. refl;
}
test32_of code rest form op e f h = absurd (clash h)

compare32_of : (code : ℕ) (rest : List ℕ) (form : Option Form) (op : Option NumericOp) → from 0 forms code ≡ form → from 0x45 numeric_ops code ≡ op → is_compare32 form op ≡ true → BeginLike (code ∷ rest) (Numeric (IntegerComparison W32 Eq)) rest
compare32_of code rest (Some OfNumeric) (Some (IntegerComparison W32 o)) e f h = record {
  actual = Numeric (IntegerComparison W32 o);
  is_read = λ types. numeric_read types code rest (IntegerComparison W32 o) e f;
  same_row = λ cx. refl;
}
compare32_of code rest form op e f h = absurd (clash h)

compare64_of : (code : ℕ) (rest : List ℕ) (form : Option Form) (op : Option NumericOp) → from 0 forms code ≡ form → from 0x45 numeric_ops code ≡ op → is_compare64 form op ≡ true → BeginLike (code ∷ rest) (Numeric (IntegerComparison W64 Eq)) rest
compare64_of code rest (Some OfNumeric) (Some (IntegerComparison W64 o)) e f h = record {
  actual = Numeric (IntegerComparison W64 o);
  is_read = λ types. numeric_read types code rest (IntegerComparison W64 o) e f;
  same_row = λ cx. refl;
}
compare64_of code rest form op e f h = absurd (clash h)

binary32_of : (code : ℕ) (rest : List ℕ) (form : Option Form) (op : Option NumericOp) → from 0 forms code ≡ form → from 0x45 numeric_ops code ≡ op → is_binary32 form op ≡ true → BeginLike (code ∷ rest) (Numeric (IntegerBinary W32 Add)) rest
binary32_of code rest (Some OfNumeric) (Some (IntegerBinary W32 o)) e f h = record {
  actual = Numeric (IntegerBinary W32 o);
  is_read = λ types. numeric_read types code rest (IntegerBinary W32 o) e f;
  same_row = λ cx. refl;
}
binary32_of code rest form op e f h = absurd (clash h)

binary64_of : (code : ℕ) (rest : List ℕ) (form : Option Form) (op : Option NumericOp) → from 0 forms code ≡ form → from 0x45 numeric_ops code ≡ op → is_binary64 form op ≡ true → BeginLike (code ∷ rest) (Numeric (IntegerBinary W64 Add)) rest
binary64_of code rest (Some OfNumeric) (Some (IntegerBinary W64 o)) e f h = record {
  actual = Numeric (IntegerBinary W64 o);
  is_read = λ types. numeric_read types code rest (IntegerBinary W64 o) e f;
  same_row = λ cx. refl;
}
binary64_of code rest form op e f h = absurd (clash h)

binary_f32_of : (code : ℕ) (rest : List ℕ) (form : Option Form) (op : Option NumericOp) → from 0 forms code ≡ form → from 0x45 numeric_ops code ≡ op → is_binary_f32 form op ≡ true → BeginLike (code ∷ rest) (Numeric (FloatBinary R32 AddF)) rest
binary_f32_of code rest (Some OfNumeric) (Some (FloatBinary R32 o)) e f h = record {
  actual = Numeric (FloatBinary R32 o);
  is_read = λ types. numeric_read types code rest (FloatBinary R32 o) e f;
  same_row = λ cx. refl;
}
binary_f32_of code rest form op e f h = absurd (clash h)

binary_f64_of : (code : ℕ) (rest : List ℕ) (form : Option Form) (op : Option NumericOp) → from 0 forms code ≡ form → from 0x45 numeric_ops code ≡ op → is_binary_f64 form op ≡ true → BeginLike (code ∷ rest) (Numeric (FloatBinary R64 AddF)) rest
binary_f64_of code rest (Some OfNumeric) (Some (FloatBinary R64 o)) e f h = record {
  actual = Numeric (FloatBinary R64 o);
  is_read = λ types. numeric_read types code rest (FloatBinary R64 o) e f;
  same_row = λ cx. refl;
}
binary_f64_of code rest form op e f h = absurd (clash h)

small_unsigned : (bits i : ℕ) (bs : List ℕ) → i < 128 → i < 2 ^ bits → unsigned bits (i ∷ bs) ≡ Some (i, bs)
small_unsigned bits i bs l fits =
    ap (λ t. if t then (if nat_lt i (2 ^ bits) then Some (i, bs) else None) else (if nat_lt 7 bits then with_low (i - 128) (unsigned (bits - 7) bs) else None)) (lt-ltb i 128 l)
    ∙ ap (λ t. if t then Some (i, bs) else None) (lt-ltb i (2 ^ bits) fits)

small_last : (bits i : ℕ) → 64 ≤ 2 ^ (bits - 1) → (v : ℕ) × (last_biased bits i ≡ Some v)
small_last bits i wide = by (cases_lt i 64)
  where
    half : ℕ
    half = 2 ^ (bits - 1)

    by : (i < 64) ⊎ (64 ≤ i) → (v : ℕ) × (last_biased bits i ≡ Some v)
    by (inl l) =
        let fits : i < half = omega (arith, l, wide) in (
          i + half,
          ap (λ t. if t then (if nat_lt i half then Some (i + half) else None) else (if nat_lt (i + half) 128 then None else Some (i + half - 128))) (lt-ltb i 64 l)
              ∙ ap (λ t. if t then Some (i + half) else None) (lt-ltb i half fits),
        )
    by (inr m) =
        let fits : 128 ≤ i + half = omega (arith, m, wide) in (
          i + half - 128,
          ap (λ t. if t then (if nat_lt i half then Some (i + half) else None) else (if nat_lt (i + half) 128 then None else Some (i + half - 128))) (le-ltb i 64 m)
              ∙ ap (λ t. if t then None else Some (i + half - 128)) (le-ltb (i + half) 128 fits),
        )

-- a number of one byte, and one of two
small_biased : (bits i : ℕ) (bs : List ℕ) → 64 ≤ 2 ^ (bits - 1) → i < 128 → (v : ℕ) × (biased bits (i ∷ bs) ≡ Some (v, bs))
small_biased bits i bs wide l =
    let last = small_last bits i wide in (
      last.0,
      ap (λ t. if t then with_rest bs (last_biased bits i) else (if nat_lt 7 bits then with_low (i - 128) (biased (bits - 7) bs) else None)) (lt-ltb i 128 l)
          ∙ ap (with_rest bs) last.1,
    )

two_biased : (bits i j : ℕ) (bs : List ℕ) → 7 < bits → 64 ≤ 2 ^ (bits - 7 - 1) → 128 ≤ i → j < 128 → (v : ℕ) × (biased bits (i ∷ j ∷ bs) ≡ Some (v, bs))
two_biased bits i j bs more wide long short =
    let last = small_biased (bits - 7) j bs wide short in (
      last.0 * 128 + (i - 128),
      ap (λ t. if t then with_rest (j ∷ bs) (last_biased bits i) else (if nat_lt 7 bits then with_low (i - 128) (biased (bits - 7) (j ∷ bs)) else None)) (le-ltb i 128 long)
          ∙ ap (λ t. if t then with_low (i - 128) (biased (bits - 7) (j ∷ bs)) else None) (lt-ltb 7 bits more)
          ∙ ap (with_low (i - 128)) last.1,
    )

-- the same as an integer
as_signed : (bits : ℕ) (bytes bs : List ℕ) → (v : ℕ) × (biased bits bytes ≡ Some (v, bs)) → (n : ℤ) × (signed bits bytes ≡ Some (n, bs))
as_signed bits bytes bs b = (pos b.0 -ℤ pos (2 ^ (bits - 1)), ap (without_bias bits) b.1)

near_read : (align offset : ℕ) (rest bs : List ℕ) → align < 64 → unsigned 64 rest ≡ Some (offset, bs) → memarg (align ∷ rest) ≡ Some (near 0 align offset, bs)
unfolding memarg
near_read align offset rest bs a o =
    let below : align < 128 = omega (arith, a) in
    let fits : align < 2 ^ 32 = omega (arith, a) in
    ap (λ (r : Option (ℕ × List ℕ)). r >>= (λ (flags : ℕ × List ℕ). if nat_lt flags.0 0x40 then in_memory flags.0 0 flags.1 else (if nat_lt flags.0 0x80 then in_indexed_memory (flags.0 - 0x40) flags.1 else None))) (small_unsigned 32 align rest below fits)
    ∙ ap (λ t. if t then in_memory align 0 rest else (if nat_lt align 0x80 then in_indexed_memory (align - 0x40) rest else None)) (lt-ltb align 64 a)
    ∙ ap (λ (r : Option (ℕ × List ℕ)). r >>= (λ (n : ℕ × List ℕ). Some (near 0 align n.0, n.1))) o

abbrev before : List ℕ → Op → Option (Op × List ℕ)
before bs op = Some (op, bs)

made : (make : Option (MemArg → Op)) (m : MemArg) (op : Op) (bs : List ℕ) → option_map (λ (f : MemArg → Op). f m) make ≡ Some op → (make >>= (λ (f : MemArg → Op). before bs (f m))) ≡ Some (op, bs)
made None m op bs h = cc
made (Some f) m op bs h = ap (λ (o : Option Op). o >>= before bs) h

access_read : (code align offset : ℕ) (op : Op) (rest bs : List ℕ) → from 0 forms code ≡ Some OfAccess → align < 64 → unsigned 64 rest ≡ Some (offset, bs) → option_map (λ (f : MemArg → Op). f (near 0 align offset)) (at code access_ops) ≡ Some op → (types : CanonicalTypes) → operator types (code ∷ align ∷ rest) ≡ Some (op, bs)
unfolding operator access_op
access_read code align offset op rest bs e a o h types =
    ap (λ form. operator_of form code types (align ∷ rest)) e
    ∙ ap (λ (r : Option (MemArg × List ℕ)). r >>= (λ (m : MemArg × List ℕ). at code access_ops >>= (λ (f : MemArg → Op). before m.1 (f m.0)))) (near_read align offset rest bs a o)
    ∙ made (at code access_ops) (near 0 align offset) op bs h

-- with a near place behind this code, it is an operator whose row is that of this one
abbrev IsLike : (MemArg → MemoryOp) → ℕ × ℕ → Type 0
IsLike op c = (align offset : ℕ) (rest behind : List ℕ) → align < 64 → unsigned 64 rest ≡ Some (offset, behind) → BeginLike (c.0 ∷ align ∷ rest) (Memory (op (near c.1 align offset))) behind

abbrev AreLike : (MemArg → MemoryOp) → List (ℕ × ℕ) → Type 0
AreLike op [] = Unit {0}
AreLike op (c ∷ cs) = IsLike op c × AreLike op cs

like_of : (code natural : ℕ) (op actual : MemArg → MemoryOp) → from 0 forms code ≡ Some OfAccess → ((m : MemArg) → option_map (λ (f : MemArg → Op). f m) (at code access_ops) ≡ Some (Memory (actual m))) → ((m : MemArg) (cx : Context) → row_of cx (Memory (actual m)) ≡ row_of cx (Memory (op (record m { max_align = natural })))) → IsLike op (code, natural)
like_of code natural op actual e f same = λ align offset rest behind a o. record {
  actual = Memory (actual (near 0 align offset));
  is_read = access_read code align offset (Memory (actual (near 0 align offset))) rest behind e a o (f (near 0 align offset));
  same_row = λ cx. same (near 0 align offset) cx;
}

either : (a b : Bool) → (a || b) ≡ true → (a ≡ true) ⊎ (b ≡ true)
either true b h = inl refl
either false b h = inr h

like_among : (op : MemArg → MemoryOp) (code natural : ℕ) (cs : List (ℕ × ℕ)) → is_among code natural cs ≡ true → AreLike op cs → IsLike op (code, natural)
like_among op code natural [] h all = absurd (clash h)
like_among op code natural (c ∷ cs) h all = elim (either (nat_eq code c.0 && nat_eq natural c.1) (is_among code natural cs) h) [
  | inl e ↦
      let both = and_parts (nat_eq code c.0) (nat_eq natural c.1) e in
      subst (λ k. IsLike op (k, natural)) (sym (eqb-true code c.0 both.0)) (subst (λ n. IsLike op (c.0, n)) (sym (eqb-true natural c.1 both.1)) all.0)
  | inr e ↦ like_among op code natural cs e all.1
]

abbrev load : NumberType → MemArg → MemoryOp
load ty m = Load ty m

abbrev store : NumberType → MemArg → MemoryOp
store ty m = Store ty m

loads32 : AreLike (load I32) load32_codes
unfolding forms access_ops
loads32 = (
  like_of 0x28 2 (load I32) (λ m. Load I32 (natural 2 m)) refl (λ m. refl) (λ m cx. refl),
  (
    like_of 0x2c 0 (load I32) (λ m. LoadPacked I32Bits8 Signed (natural 0 m)) refl (λ m. refl) (λ m cx. refl),
    (
      like_of 0x2d 0 (load I32) (λ m. LoadPacked I32Bits8 Unsigned (natural 0 m)) refl (λ m. refl) (λ m cx. refl),
      (
        like_of 0x2e 1 (load I32) (λ m. LoadPacked I32Bits16 Signed (natural 1 m)) refl (λ m. refl) (λ m cx. refl),
        (
          like_of 0x2f 1 (load I32) (λ m. LoadPacked I32Bits16 Unsigned (natural 1 m)) refl (λ m. refl) (λ m cx. refl),
          tt,
        ),
      ),
    ),
  ),
)

loads64 : AreLike (load I64) load64_codes
unfolding forms access_ops
loads64 = (
  like_of 0x29 3 (load I64) (λ m. Load I64 (natural 3 m)) refl (λ m. refl) (λ m cx. refl),
  (
    like_of 0x30 0 (load I64) (λ m. LoadPacked I64Bits8 Signed (natural 0 m)) refl (λ m. refl) (λ m cx. refl),
    (
      like_of 0x31 0 (load I64) (λ m. LoadPacked I64Bits8 Unsigned (natural 0 m)) refl (λ m. refl) (λ m cx. refl),
      (
        like_of 0x32 1 (load I64) (λ m. LoadPacked I64Bits16 Signed (natural 1 m)) refl (λ m. refl) (λ m cx. refl),
        (
          like_of 0x33 1 (load I64) (λ m. LoadPacked I64Bits16 Unsigned (natural 1 m)) refl (λ m. refl) (λ m cx. refl),
          (
            like_of 0x34 2 (load I64) (λ m. LoadPacked I64Bits32 Signed (natural 2 m)) refl (λ m. refl) (λ m cx. refl),
            (
              like_of 0x35 2 (load I64) (λ m. LoadPacked I64Bits32 Unsigned (natural 2 m)) refl (λ m. refl) (λ m cx. refl),
              tt,
            ),
          ),
        ),
      ),
    ),
  ),
)

stores32 : AreLike (store I32) store32_codes
unfolding forms access_ops
stores32 = (
  like_of 0x36 2 (store I32) (λ m. Store I32 (natural 2 m)) refl (λ m. refl) (λ m cx. refl),
  (
    like_of 0x3a 0 (store I32) (λ m. StorePacked I32Bits8 (natural 0 m)) refl (λ m. refl) (λ m cx. refl),
    (
      like_of 0x3b 1 (store I32) (λ m. StorePacked I32Bits16 (natural 1 m)) refl (λ m. refl) (λ m cx. refl),
      tt,
    ),
  ),
)

stores64 : AreLike (store I64) store64_codes
unfolding forms access_ops
stores64 = (
  like_of 0x37 3 (store I64) (λ m. Store I64 (natural 3 m)) refl (λ m. refl) (λ m cx. refl),
  (
    like_of 0x3c 0 (store I64) (λ m. StorePacked I64Bits8 (natural 0 m)) refl (λ m. refl) (λ m cx. refl),
    (
      like_of 0x3d 1 (store I64) (λ m. StorePacked I64Bits16 (natural 1 m)) refl (λ m. refl) (λ m cx. refl),
      (
        like_of 0x3e 2 (store I64) (λ m. StorePacked I64Bits32 (natural 2 m)) refl (λ m. refl) (λ m cx. refl),
        tt,
      ),
    ),
  ),
)

loads_f32 : AreLike (load F32) ((0x2a, 2) ∷ [])
unfolding forms access_ops
loads_f32 = (like_of 0x2a 2 (load F32) (λ m. Load F32 (natural 2 m)) refl (λ m. refl) (λ m cx. refl), tt)

loads_f64 : AreLike (load F64) ((0x2b, 3) ∷ [])
unfolding forms access_ops
loads_f64 = (like_of 0x2b 3 (load F64) (λ m. Load F64 (natural 3 m)) refl (λ m. refl) (λ m cx. refl), tt)

stores_f32 : AreLike (store F32) ((0x38, 2) ∷ [])
unfolding forms access_ops
stores_f32 = (like_of 0x38 2 (store F32) (λ m. Store F32 (natural 2 m)) refl (λ m. refl) (λ m cx. refl), tt)

stores_f64 : AreLike (store F64) ((0x39, 3) ∷ [])
unfolding forms access_ops
stores_f64 = (like_of 0x39 3 (store F64) (λ m. Store F64 (natural 3 m)) refl (λ m. refl) (λ m cx. refl), tt)

-- what is behind the code and the place is left
pub near_like : {bytes : List ℕ} {op : MemArg → MemoryOp} {n o : ℕ} {place : MemArg} {r : Unread} {behind : List ℕ} → BeginAccess bytes op n → r ≡ record { offset = o; left = drop 1 bytes } → IsNear r.left n place behind → BeginLike bytes (Memory (op place)) behind
near_like {bytes} {op} {n} {o} {place} {r} {behind} access f near_place =
    let rest : r.left ≡ drop 1 bytes = ap (λ (x : Unread). x.left) f in
    let whole : bytes ≡ access.code ∷ near_place.align ∷ drop 1 r.left =
    access.begins ∙ ap (λ bs. access.code ∷ bs) (sym rest ∙ near_place.begins) in
    let like = access.like near_place.align near_place.offset (drop 1 r.left) behind near_place.one_byte near_place.is_offset in
    subst (λ m. BeginLike bytes (Memory (op m)) behind) (sym near_place.is_place) (subst (λ b. BeginLike b (Memory (op (near n near_place.align near_place.offset))) behind) (sym whole) like)

pub one_there : {bytes : List ℕ} {op : MemArg → MemoryOp} {n : ℕ} → BeginAccess bytes op n → 1 ≤ length bytes
one_there {bytes} access =
    let one : length bytes ≡ suc (length (drop 1 bytes)) = ap (λ bs. length bs) access.begins in
    omega (arith, one)

-- the bytes are these two and others
pub record AreTwo (bytes : List ℕ) (code next : ℕ) (rest behind : List ℕ) : Type 0 where
  pub begins : bytes ≡ code ∷ rest
  pub goes_on : rest ≡ next ∷ behind

pub two_of : {bytes : List ℕ} {code next : ℕ} → bytes ≡ code ∷ next ∷ drop 2 bytes → AreTwo bytes code next (drop 1 bytes) (drop 2 bytes)
two_of {bytes} {code} {next} e =
    let more : drop 1 bytes ≡ next ∷ drop 2 bytes = ap (λ bs. drop 1 bs) e in
    record { begins = e ∙ ap (λ bs. code ∷ bs) (sym more); goes_on = more }

-- an operator of one byte, and one of both
pub has_one : {bytes : List ℕ} {code next : ℕ} → bytes ≡ code ∷ next ∷ drop 2 bytes → 1 ≤ length bytes
has_one {bytes} e =
    let two : length bytes ≡ suc (suc (length (drop 2 bytes))) = ap (λ bs. length bs) e in
    omega (arith, two)

pub has_two : {bytes : List ℕ} {code next : ℕ} → bytes ≡ code ∷ next ∷ drop 2 bytes → 2 ≤ length bytes
has_two {bytes} e =
    let two : length bytes ≡ suc (suc (length (drop 2 bytes))) = ap (λ bs. length bs) e in
    omega (arith, two)

pub of_one : {bytes : List ℕ} {code next : ℕ} {op : Op} → is_part_closer (nesting op) ≡ false → bytes ≡ code ∷ next ∷ drop 2 bytes → (AreTwo bytes code next (drop 1 bytes) (drop 2 bytes) → BeginLike bytes op (drop 1 bytes)) → BeginAs bytes op 1
of_one {bytes} {code} {next} {op} none e like = record { are_there = has_one e; closes_none = none; like = like (two_of e) }

pub of_both : {bytes : List ℕ} {code next : ℕ} {op : Op} → is_part_closer (nesting op) ≡ false → bytes ≡ code ∷ next ∷ drop 2 bytes → (AreTwo bytes code next (drop 1 bytes) (drop 2 bytes) → BeginLike bytes op (drop 2 bytes)) → BeginAs bytes op 2
of_both {bytes} {code} {next} {op} none e like =
    let two : length bytes ≡ suc (suc (length (drop 2 bytes))) = ap (λ bs. length bs) e in
    record { are_there = omega (arith, two); closes_none = none; like = like (two_of e) }

pub end_begins : {r t : Unread} {code : ℕ} {rest : List ℕ} → r ≡ t → r.left ≡ code ∷ rest → code ≡ 0x0b → BeginLike t.left (Control EndOp) rest
unfolding operator forms plain_ops
end_begins {r} {t} {code} {rest} same e is = record {
  actual = Control EndOp;
  is_read = λ types. ap (λ (u : Unread). operator types u.left) (sym same) ∙ ap (λ bs. operator types bs) e ∙ ap (λ c. operator types (c ∷ rest)) is;
  same_row = λ cx. refl;
}

module _ {bytes : List ℕ} {code next : ℕ} {rest behind : List ℕ} (two : AreTwo bytes code next rest behind) where
  moved : (op : Op) (left : List ℕ) → BeginLike (code ∷ rest) op left → BeginLike bytes op left
  moved op left like = subst (λ b. BeginLike b op left) (sym two.begins) like

  pub test32_like : Test32 ≡ get_or kinds code Rare → BeginLike bytes (Numeric (Eqz W32)) rest
  unfolding is_common
  test32_like e = moved (Numeric (Eqz W32)) rest (test32_of code rest (from 0 forms code) (from 0x45 numeric_ops code) refl refl (common_there code Test32 e))

  pub compare32_like : Compare32 ≡ get_or kinds code Rare → BeginLike bytes (Numeric (IntegerComparison W32 Eq)) rest
  unfolding is_common
  compare32_like e = moved (Numeric (IntegerComparison W32 Eq)) rest (compare32_of code rest (from 0 forms code) (from 0x45 numeric_ops code) refl refl (common_there code Compare32 e))

  pub compare64_like : Compare64 ≡ get_or kinds code Rare → BeginLike bytes (Numeric (IntegerComparison W64 Eq)) rest
  unfolding is_common
  compare64_like e = moved (Numeric (IntegerComparison W64 Eq)) rest (compare64_of code rest (from 0 forms code) (from 0x45 numeric_ops code) refl refl (common_there code Compare64 e))

  pub binary32_like : Binary32 ≡ get_or kinds code Rare → BeginLike bytes (Numeric (IntegerBinary W32 Add)) rest
  unfolding is_common
  binary32_like e = moved (Numeric (IntegerBinary W32 Add)) rest (binary32_of code rest (from 0 forms code) (from 0x45 numeric_ops code) refl refl (common_there code Binary32 e))

  pub binary64_like : Binary64 ≡ get_or kinds code Rare → BeginLike bytes (Numeric (IntegerBinary W64 Add)) rest
  unfolding is_common
  binary64_like e = moved (Numeric (IntegerBinary W64 Add)) rest (binary64_of code rest (from 0 forms code) (from 0x45 numeric_ops code) refl refl (common_there code Binary64 e))

  pub binary_f32_like : BinaryF32 ≡ get_or kinds code Rare → BeginLike bytes (Numeric (FloatBinary R32 AddF)) rest
  unfolding is_common
  binary_f32_like e = moved (Numeric (FloatBinary R32 AddF)) rest (binary_f32_of code rest (from 0 forms code) (from 0x45 numeric_ops code) refl refl (common_there code BinaryF32 e))

  pub binary_f64_like : BinaryF64 ≡ get_or kinds code Rare → BeginLike bytes (Numeric (FloatBinary R64 AddF)) rest
  unfolding is_common
  binary_f64_like e = moved (Numeric (FloatBinary R64 AddF)) rest (binary_f64_of code rest (from 0 forms code) (from 0x45 numeric_ops code) refl refl (common_there code BinaryF64 e))

  bare_like : (c : ℕ) (op : ControlOp) → nat_eq code c ≡ true → ((types : CanonicalTypes) → operator types (c ∷ rest) ≡ Some (unplaced (Control op), rest)) → BeginLike bytes (Control op) rest
  bare_like c op e read = moved (Control op) rest (subst (λ n. BeginLike (n ∷ rest) (Control op) rest) (sym (eqb-true code c e)) (record {
    actual = Control op;
    is_read = read;
    same_row = λ cx. refl;
  }))

  pub nop_like : Nop ≡ get_or kinds code Rare → BeginLike bytes (Control NopOp) rest
  unfolding is_common operator forms plain_ops
  nop_like e = bare_like 0x01 NopOp (common_there code Nop e) (λ types. refl)

  pub end_like : End ≡ get_or kinds code Rare → BeginLike bytes (Control EndOp) rest
  unfolding is_common operator forms plain_ops
  end_like e = bare_like 0x0b EndOp (common_there code End e) (λ types. refl)

  pub return_like : Return ≡ get_or kinds code Rare → BeginLike bytes (Control ReturnOp) rest
  unfolding is_common operator forms plain_ops
  return_like e = bare_like 0x0f ReturnOp (common_there code Return e) (λ types. refl)

  pub drop_like : Drop ≡ get_or kinds code Rare → BeginLike bytes (Control DropOp) rest
  unfolding is_common operator forms plain_ops
  drop_like e = bare_like 0x1a DropOp (common_there code Drop e) (λ types. refl)

  pub select_like : Select ≡ get_or kinds code Rare → BeginLike bytes (Control SelectOp) rest
  unfolding is_common operator forms plain_ops
  select_like e = bare_like 0x1b SelectOp (common_there code Select e) (λ types. refl)

  index_like : (c : ℕ) (op : ℕ → ControlOp) → nat_eq code c ≡ true → ((types : CanonicalTypes) (bs : List ℕ) → operator types (c ∷ bs) ≡ (unsigned 32 bs >>= (λ (i : ℕ × List ℕ). Some (unplaced (Control (op i.0)), i.1)))) → {index : ℕ} → index ≡ next → nat_lt next 128 ≡ true → BeginLike bytes (Control (op index)) behind
  index_like c op e read {index} same l = subst (λ i. BeginLike bytes (Control (op i)) behind) (sym same) (moved (Control (op next)) behind (subst (λ n. BeginLike (n ∷ rest) (Control (op next)) behind) (sym (eqb-true code c e)) (record {
    actual = Control (op next);
    is_read = λ types. ap (λ bs. operator types (c ∷ bs)) two.goes_on ∙ read types (next ∷ behind)
        ∙ ap (λ (r : Option (ℕ × List ℕ)). r >>= (λ (j : ℕ × List ℕ). Some (unplaced (Control (op j.0)), j.1))) (let less = ltb-true next 128 l in small_unsigned 32 next behind less (omega (arith, less)));
    same_row = λ cx. refl;
  })))

  pub indexed_begun : Indexed ≡ get_or kinds code Rare → from 0 forms code ≡ Some OfIndex
  unfolding is_common
  indexed_begun e = indexed_form _ (common_there code Indexed e)

  constant_of : (c : ℕ) (make : ℤ → NumericOp) (bits : ℕ) (zero_is : ℤ) (left : List ℕ) → nat_eq code c ≡ true → ((types : CanonicalTypes) (bs : List ℕ) → operator types (c ∷ bs) ≡ (signed bits bs >>= (λ (n : ℤ × List ℕ). Some (Numeric (make n.0), n.1)))) → ((n : ℤ) (cx : Context) → row_of cx (Numeric (make n)) ≡ row_of cx (Numeric (make zero_is))) → (n : ℤ) × (signed bits rest ≡ Some (n, left)) → BeginLike bytes (Numeric (make zero_is)) left
  constant_of c make bits zero_is left e read same n = moved (Numeric (make zero_is)) left (subst (λ k. BeginLike (k ∷ rest) (Numeric (make zero_is)) left) (sym (eqb-true code c e)) (record {
    actual = Numeric (make n.0);
    is_read = λ types. read types rest ∙ ap (λ (r : Option (ℤ × List ℕ)). r >>= (λ (j : ℤ × List ℕ). Some (Numeric (make j.0), j.1))) n.1;
    same_row = λ cx. same n.0 cx;
  }))

  one_signed : (bits : ℕ) → 64 ≤ 2 ^ (bits - 1) → next < 128 → (n : ℤ) × (signed bits rest ≡ Some (n, behind))
  one_signed bits wide l = as_signed bits rest behind (let v = small_biased bits next behind wide l in (v.0, ap (biased bits) two.goes_on ∙ v.1))

  two_signed : (bits last : ℕ) (left : List ℕ) → 7 < bits → 64 ≤ 2 ^ (bits - 7 - 1) → 128 ≤ next → last < 128 → behind ≡ last ∷ left → (n : ℤ) × (signed bits rest ≡ Some (n, left))
  two_signed bits last left more wide long short e = as_signed bits rest left (let v = two_biased bits next last left more wide long short in (v.0, ap (biased bits) (two.goes_on ∙ ap (λ bs. next ∷ bs) e) ∙ v.1))

  constant32_of : (left : List ℕ) → Constant32 ≡ get_or kinds code Rare → (n : ℤ) × (signed 32 rest ≡ Some (n, left)) → BeginLike bytes (Numeric (I32Const (pos 0))) left
  unfolding is_common operator forms constant_i32
  constant32_of left e = constant_of 0x41 I32Const 32 (pos 0) left (common_there code Constant32 e) (λ types bs. refl) (λ n cx. refl)

  constant64_of : (left : List ℕ) → Constant64 ≡ get_or kinds code Rare → (n : ℤ) × (signed 64 rest ≡ Some (n, left)) → BeginLike bytes (Numeric (I64Const (pos 0))) left
  unfolding is_common operator forms constant_i64
  constant64_of left e = constant_of 0x42 I64Const 64 (pos 0) left (common_there code Constant64 e) (λ types bs. refl) (λ n cx. refl)

  near_signed : (bits : ℕ) (left : List ℕ) → 7 < bits → 64 ≤ 2 ^ (bits - 1) → 64 ≤ 2 ^ (bits - 7 - 1) → EndsNear next behind left → (n : ℤ) × (signed bits rest ≡ Some (n, left))
  near_signed bits left more wide wide_too (inl e) = subst (λ bs. (n : ℤ) × (signed bits rest ≡ Some (n, bs))) (sym e.1) (one_signed bits wide e.0)
  near_signed bits left more wide wide_too (inr e) = two_signed bits e.1.0 left more wide_too e.0 e.1.1 e.1.2

  pub constant32_near : Constant32 ≡ get_or kinds code Rare → (left : List ℕ) → EndsNear next behind left → BeginLike bytes (Numeric (I32Const (pos 0))) left
  constant32_near e left ends = constant32_of left e (near_signed 32 left (omega arith) (omega arith) (omega arith) ends)

  pub constant64_near : Constant64 ≡ get_or kinds code Rare → (left : List ℕ) → EndsNear next behind left → BeginLike bytes (Numeric (I64Const (pos 0))) left
  constant64_near e left ends = constant64_of left e (near_signed 64 left (omega arith) (omega arith) (omega arith) ends)

  opener_like : (c : ℕ) (op : ControlOp) → nat_eq code c ≡ true → ((types : CanonicalTypes) (bs : List ℕ) → operator types (c ∷ 0x40 ∷ bs) ≡ Some (unplaced (Control op), bs)) → nat_eq next 0x40 ≡ true → BeginLike bytes (Control op) behind
  opener_like c op e read empty = moved (Control op) behind (subst (λ n. BeginLike (n ∷ rest) (Control op) behind) (sym (eqb-true code c e)) (record {
    actual = Control op;
    is_read = λ types. ap (λ bs. operator types (c ∷ bs)) (two.goes_on ∙ ap (λ n. n ∷ behind) (eqb-true next 0x40 empty)) ∙ read types behind;
    same_row = λ cx. refl;
  }))

  pub local_get_like : LocalGet ≡ get_or kinds code Rare → {index : ℕ} → index ≡ next → nat_lt next 128 ≡ true → BeginLike bytes (Control (LocalGetOp index)) behind
  unfolding is_common operator forms index_op index_ops
  local_get_like e same l = index_like 0x20 (λ j. LocalGetOp j) (common_there code LocalGet e) (λ types bs. refl) same l

  pub local_set_like : LocalSet ≡ get_or kinds code Rare → {index : ℕ} → index ≡ next → nat_lt next 128 ≡ true → BeginLike bytes (Control (LocalSetOp index)) behind
  unfolding is_common operator forms index_op index_ops
  local_set_like e same l = index_like 0x21 (λ j. LocalSetOp j) (common_there code LocalSet e) (λ types bs. refl) same l

  pub local_tee_like : LocalTee ≡ get_or kinds code Rare → {index : ℕ} → index ≡ next → nat_lt next 128 ≡ true → BeginLike bytes (Control (LocalTeeOp index)) behind
  unfolding is_common operator forms index_op index_ops
  local_tee_like e same l = index_like 0x22 (λ j. LocalTeeOp j) (common_there code LocalTee e) (λ types bs. refl) same l

  pub block_like : Block ≡ get_or kinds code Rare → nat_eq next 0x40 ≡ true → BeginLike bytes (Control (BlockOp Empty)) behind
  unfolding is_common operator forms block_op block_type block_ops
  block_like e empty = opener_like 0x02 (BlockOp Empty) (common_there code Block e) (λ types bs. refl) empty

  pub loop_like : Loop ≡ get_or kinds code Rare → nat_eq next 0x40 ≡ true → BeginLike bytes (Control (LoopOp Empty)) behind
  unfolding is_common operator forms block_op block_type block_ops
  loop_like e empty = opener_like 0x03 (LoopOp Empty) (common_there code Loop e) (λ types bs. refl) empty

  pub if_like : If ≡ get_or kinds code Rare → nat_eq next 0x40 ≡ true → BeginLike bytes (Control (IfOp Empty)) behind
  unfolding is_common operator forms block_op block_type block_ops
  if_like e empty = opener_like 0x04 (IfOp Empty) (common_there code If e) (λ types bs. refl) empty

module _ {bytes : List ℕ} {code next : ℕ} (e : bytes ≡ code ∷ next ∷ drop 2 bytes) where
  of_access : (op : MemArg → MemoryOp) (n : ℕ) → IsLike op (code, n) → BeginAccess bytes op n
  of_access op n like = record { code = code; begins = (two_of e).begins; like = like }

  pub load32_like : {n : ℕ} → Load32 n ≡ get_or kinds code Rare → BeginAccess bytes (λ m. Load I32 m) n
  unfolding is_common
  load32_like {n} k = of_access (load I32) n (like_among (load I32) code n load32_codes (common_there code (Load32 n) k) loads32)

  pub load64_like : {n : ℕ} → Load64 n ≡ get_or kinds code Rare → BeginAccess bytes (λ m. Load I64 m) n
  unfolding is_common
  load64_like {n} k = of_access (load I64) n (like_among (load I64) code n load64_codes (common_there code (Load64 n) k) loads64)

  pub load_f32_like : {n : ℕ} → LoadF32 n ≡ get_or kinds code Rare → BeginAccess bytes (λ m. Load F32 m) n
  unfolding is_common
  load_f32_like {n} k = of_access (load F32) n (like_among (load F32) code n ((0x2a, 2) ∷ []) (common_there code (LoadF32 n) k) loads_f32)

  pub load_f64_like : {n : ℕ} → LoadF64 n ≡ get_or kinds code Rare → BeginAccess bytes (λ m. Load F64 m) n
  unfolding is_common
  load_f64_like {n} k = of_access (load F64) n (like_among (load F64) code n ((0x2b, 3) ∷ []) (common_there code (LoadF64 n) k) loads_f64)

  pub store32_like : {n : ℕ} → Store32 n ≡ get_or kinds code Rare → BeginAccess bytes (λ m. Store I32 m) n
  unfolding is_common
  store32_like {n} k = of_access (store I32) n (like_among (store I32) code n store32_codes (common_there code (Store32 n) k) stores32)

  pub store64_like : {n : ℕ} → Store64 n ≡ get_or kinds code Rare → BeginAccess bytes (λ m. Store I64 m) n
  unfolding is_common
  store64_like {n} k = of_access (store I64) n (like_among (store I64) code n store64_codes (common_there code (Store64 n) k) stores64)

  pub store_f32_like : {n : ℕ} → StoreF32 n ≡ get_or kinds code Rare → BeginAccess bytes (λ m. Store F32 m) n
  unfolding is_common
  store_f32_like {n} k = of_access (store F32) n (like_among (store F32) code n ((0x38, 2) ∷ []) (common_there code (StoreF32 n) k) stores_f32)

  pub store_f64_like : {n : ℕ} → StoreF64 n ≡ get_or kinds code Rare → BeginAccess bytes (λ m. Store F64 m) n
  unfolding is_common
  store_f64_like {n} k = of_access (store F64) n (like_among (store F64) code n ((0x39, 3) ∷ []) (common_there code (StoreF64 n) k) stores_f64)
