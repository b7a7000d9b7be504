-- The parts that are open after each operator, the innermost first, and what is noted of them (the crate's
-- own: what a test of the order remembers; no public contract names it).
use Rattle.std.specs.Prelude.{◌≡◌, ◌≢◌, ℕ, ◌+◌, ◌-◌, ◌<◌, ◌≤◌, ◌/◌, ◌%◌, Bool, true, false, ◌&&◌, not}
use Rattle.std.specs.Prelude.{List, [], ◌∷◌, map, length, drop, nat_eq, slice_index}
use Rattle.std.specs.Int.{bit_at}
use Rattle.validate_visit.specs.declared.frame.FrameKind.{FrameKind}
use Rattle.validate_visit.specs.declared.frame.FrameKind.TheVariants.{Block, If, LegacyTry}
use Rattle.validate_visit.specs.declared.op.Op.{Op}
use Rattle.validate_visit.specs.declared.order.Notes.{Notes}
use Rattle.validate_visit.specs.Order.{Nesting, BeginsElse, BeginsCatch, Delegates, nesting, may_catch}
use Rattle.validate_visit.specs.Order.{parts_after}

abbrev pub outermost : List FrameKind
outermost = Block ∷ []

-- the open parts after a list
abbrev pub parts_after_list : List FrameKind → List Nesting → List FrameKind
parts_after_list ks [] = ks
parts_after_list ks (n ∷ ns) = parts_after_list (parts_after ks n) ns

-- the parts that a list leaves open
abbrev pub parts_left : List Op → List FrameKind
parts_left ops = parts_after_list outermost (map nesting ops)

-- ---- two questions about a part tell where an operator may stand

-- the first part of an `if` or of a legacy `try`
abbrev pub is_first_part : FrameKind → Bool
is_first_part If = true
is_first_part LegacyTry = true
is_first_part _ = false

-- an operator may stand in a part, given whether that is a first part, and whether a `catch` may follow it
abbrev pub may_stand_in : (is_first catches : Bool) → Nesting → Bool
may_stand_in is_first catches BeginsElse = is_first && not catches
may_stand_in is_first catches (BeginsCatch all) = catches
may_stand_in is_first catches Delegates = is_first && catches
may_stand_in is_first catches _ = true

-- ---- what is noted

-- of how many parts it can be noted what they are: 64 bits in each of 1024 words
abbrev pub most_noted : ℕ
most_noted = 65536

-- the bit for the part at this depth is set
abbrev pub is_noted_at : List ℕ → ℕ → Bool
is_noted_at words depth = nat_eq (bit_at (slice_index words (depth / 64 % 1024)) (depth % 64)) 1

-- the bit for the part at this depth becomes this, and the others that can be noted beside it stay
pub record NotesAt (depth : ℕ) (is_set : Bool) (before after : List ℕ) : Type 0 where
  pub here : is_noted_at after depth ≡ is_set
  pub others : (other : ℕ) → other ≢ depth → depth < other + most_noted → other < depth + most_noted
      → is_noted_at after other ≡ is_noted_at before other

-- the innermost part has this property
abbrev pub has_innermost : (FrameKind → Bool) → List FrameKind → Bool
has_innermost is_such [] = false
has_innermost is_such (k ∷ ks) = is_such k

-- of so many of the innermost parts, these bits say which have this property
abbrev pub Tell : List ℕ → (FrameKind → Bool) → (depth noted : ℕ) → List FrameKind → Type 0
Tell words is_such depth noted kinds =
    (under : ℕ) → under < noted → is_noted_at words (depth - under) ≡ has_innermost is_such (drop under kinds)

-- so many parts are open, and of so many of the innermost it is noted what they are
pub record AreNoted (depth noted : ℕ) (notes : Notes) (kinds : List FrameKind) : Type 0 where
  pub counted : depth ≡ length kinds
  pub within : noted ≤ depth
  pub within_limit : noted ≤ most_noted
  pub firsts : Tell notes.firsts is_first_part depth noted kinds
  pub catching : Tell notes.catching may_catch depth noted kinds
