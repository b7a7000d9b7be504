-- The words of lines, and the order of lines (the crate's own).
use Rattle.std.specs.Prelude.{◌≡◌, ◌==◌, ◌&&◌, ◌||◌, ◌++◌, ℕ, List, [], ◌∷◌, Bool, true, false, not}
use Rattle.std.specs.Prelude.{◌^◌, ◌-◌, Option, Some, None, length, is_some, if◌then◌else◌, vec_len}
use Rattle.std.specs.List.{filter, slice_split}
use Rattle.std.specs.Int.RustNames.{bit_or}
use Rattle.validate_types.specs.declared.features.WasmFeatures.{WasmFeatures}
use Rattle.validate_types.specs.declared.refs.RefType.{RefType}
use Rattle.validate_types.specs.declared.types.GlobalType.{GlobalType}
use Rattle.validate_types.specs.declared.types.MemoryType.{MemoryType}
use Rattle.validate_types.specs.declared.types.SubType.{SubType}
use Rattle.validate_types.specs.declared.types.TableType.{TableType}
use Rattle.validate_resources.specs.declared.lists.FuncDecl.{FuncDecl}
use Rattle.script_reader.specs.declared.parts.script.BodyLine.{BodyLine}
use Rattle.script_reader.specs.declared.parts.script.Draft.{Draft}
use Rattle.script_reader.specs.Written.{may_be_attempted}
use Rattle.script_reader.specs.declared.parts.script.Part.{Part}
use Rattle.script_reader.specs.declared.parts.script.Part.TheVariants.{Module, Locals, Operators}
use Rattle.validate_visit.specs.declared.body.LocalGroup.{LocalGroup}
use Rattle.validate_visit.specs.declared.op.Op.{Op}
use Rattle.script_reader.specs.declared.parts.line.Line.{Line}
use Rattle.script_reader.specs.declared.parts.line.Line.TheVariants.{Feature as OnFeature}
use Rattle.script_reader.specs.declared.parts.line.Line.TheVariants.{SubType as OnType}
use Rattle.script_reader.specs.declared.parts.line.Line.TheVariants.{Function as OnFunction}
use Rattle.script_reader.specs.declared.parts.line.Line.TheVariants.{Table as OnTable}
use Rattle.script_reader.specs.declared.parts.line.Line.TheVariants.{Memory as OnMemory}
use Rattle.script_reader.specs.declared.parts.line.Line.TheVariants.{Global as OnGlobal}
use Rattle.script_reader.specs.declared.parts.line.Line.TheVariants.{Tag as OnTag}
use Rattle.script_reader.specs.declared.parts.line.Line.TheVariants.{Element as OnElement}
use Rattle.script_reader.specs.declared.parts.line.Line.TheVariants.{DataCount as OnDataCount, Show as OnShow}
use Rattle.script_reader.specs.declared.parts.line.Line.TheVariants.{Body as OnBody, Locals as OnLocals}

-- the words of a line: what lies between spaces (32) and isn't empty
abbrev pub words_in : List ℕ → List (List ℕ)
words_in line = filter (λ word. not (length word == 0)) (slice_split (λ b. b == 32) line)

-- the part of a script that the lines so far have come to
abbrev pub part_of : Draft → Part
part_of d = if is_some d.body then (if vec_len d.operators.ops == 0 then Locals else Operators) else Module

-- Whether a line may stand after lines that have come to this part, have said how many data segments
-- there are, if they have, and have a `show` line or none: proposals and declarations before the `func` or
-- `expr` line, that number and `show` once, locals after the line, and before operators.
abbrev pub may_stand_in : Line → Part → Option ℕ → Bool → Bool
may_stand_in (OnFeature named) Module _ _ = true
may_stand_in (OnType ty) Module _ _ = true
may_stand_in (OnFunction function) Module _ _ = true
may_stand_in (OnTable ty) Module _ _ = true
may_stand_in (OnMemory ty) Module _ _ = true
may_stand_in (OnGlobal ty) Module _ _ = true
may_stand_in (OnTag index) Module _ _ = true
may_stand_in (OnElement ty) Module _ _ = true
may_stand_in (OnDataCount count) Module None _ = true
may_stand_in OnShow Module _ false = true
may_stand_in (OnBody body) Module _ _ = true
may_stand_in (OnLocals n ty) Locals _ _ = true
may_stand_in _ _ _ _ = false

-- whether an operator may stand after these lines, in a `try` line or not: behind the `func` or `expr` line
abbrev pub may_add_operator : Draft → Op → (attempted : Bool) → Bool
may_add_operator d op attempted = is_some d.body && (not attempted || may_be_attempted op)

-- every proposal
abbrev pub all_features : WasmFeatures
all_features = record { 0 = 2 ^ 21 - 1 }

-- all, where no `feature` line stands
abbrev pub features_or_all : Option WasmFeatures → WasmFeatures
features_or_all (Some features) = features
features_or_all None = all_features

-- the proposals of two sets
abbrev pub joined_features : WasmFeatures → WasmFeatures → WasmFeatures
joined_features a b = record { 0 = bit_or a.0 b.0 }

-- those that are named, after a line: it adds its own
abbrev pub features_after : Line → Option WasmFeatures → Option WasmFeatures
features_after (OnFeature named) None = Some named
features_after (OnFeature named) (Some before) = Some (joined_features before named)
features_after _ before = before

-- whether there is a `show` line, after a line
abbrev pub shows_after : Line → Bool → Bool
shows_after OnShow before = true
shows_after _ before = before

-- each list after a line, the one of this number
abbrev pub types_after : Line → List SubType → List SubType
types_after (OnType ty) before = before ++ ty ∷ []
types_after _ before = before

abbrev pub functions_after : Line → List FuncDecl → List FuncDecl
functions_after (OnFunction function) before = before ++ function ∷ []
functions_after _ before = before

abbrev pub tables_after : Line → List TableType → List TableType
tables_after (OnTable ty) before = before ++ ty ∷ []
tables_after _ before = before

abbrev pub memories_after : Line → List MemoryType → List MemoryType
memories_after (OnMemory ty) before = before ++ ty ∷ []
memories_after _ before = before

abbrev pub globals_after : Line → List GlobalType → List GlobalType
globals_after (OnGlobal ty) before = before ++ ty ∷ []
globals_after _ before = before

abbrev pub tags_after : Line → List ℕ → List ℕ
tags_after (OnTag index) before = before ++ index ∷ []
tags_after _ before = before

abbrev pub elements_after : Line → List RefType → List RefType
elements_after (OnElement ty) before = before ++ ty ∷ []
elements_after _ before = before

abbrev pub locals_after : Line → ℕ → List LocalGroup → List LocalGroup
locals_after (OnLocals n t) number before = before ++ record { count = n; ty = t; offset = number } ∷ []
locals_after _ number before = before

-- the `func` or `expr` line after a line
abbrev pub body_after : Line → ℕ → Option BodyLine → Option BodyLine
body_after (OnBody kind) number before = Some (record { kind = kind; offset = number })
body_after _ number before = before

-- how many data segments the lines up to this one say that there are, if they do
abbrev pub data_count_after : Line → Option ℕ → Option ℕ
data_count_after (OnDataCount count) before = Some count
data_count_after _ before = before

-- the draft with a line, the one of this number, added to it
pub record AddsLine (old new : Draft) (line : Line) (number : ℕ) : Type 0 where
  pub features : new.features ≡ features_after line old.features
  pub shows : new.shows ≡ shows_after line old.shows
  pub types : new.declarations.types.items ≡ types_after line old.declarations.types.items
  pub functions : new.declarations.functions.items ≡ functions_after line old.declarations.functions.items
  pub tables : new.declarations.tables.items ≡ tables_after line old.declarations.tables.items
  pub memories : new.declarations.memories.items ≡ memories_after line old.declarations.memories.items
  pub globals : new.declarations.globals.items ≡ globals_after line old.declarations.globals.items
  pub tags : new.declarations.tags.items ≡ tags_after line old.declarations.tags.items
  pub elements : new.declarations.elements.items ≡ elements_after line old.declarations.elements.items
  pub data_count : new.declarations.data_count ≡ data_count_after line old.declarations.data_count
  pub body : new.body ≡ body_after line number old.body
  pub locals : new.locals.items ≡ locals_after line number old.locals.items
  pub operators : new.operators ≡ old.operators
