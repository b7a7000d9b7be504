-- One more group of locals of a body.
use Rattle.std.proofs.Common.{◌≡◌, ℕ, ◌+◌, ◌<◌, List, [], ◌∷◌, ◌++◌, length, take, get_or, refl, sym, ap, ◌∙◌, subst, inr}
use Rattle.std.proofs.lemmas.List.{take_more}
use Rattle.std.proofs.lemmas.Option.{slice_get-get_or}
use Rattle.validate_types.specs.declared.features.WasmFeatures.{WasmFeatures}
use Rattle.validate_types.specs.declared.types.ValType.{ValType}
use Rattle.validate_resources.specs.Context.{ModuleContext}
use Rattle.validate_stacks.specs.State.{BodyState}
use Rattle.validate_operators.specs.Start.{DefinesLocals, CannotDefine}
use Rattle.validate_operators.specs.Begin.{DefinesEach, HasLocals, CannotBegin, without_places}
use Rattle.validate_visit.specs.declared.body.BodyKind.{BodyKind}
use Rattle.validate_visit.specs.declared.body.LocalGroup.{LocalGroup}

pub one_group_more : (md : ModuleContext) (ls : List (ℕ × ValType)) (l : ℕ × ValType) (v u w : BodyState) → DefinesEach md ls v u → DefinesLocals md l.0 l.1 u w → DefinesEach md (ls ++ l ∷ []) v w
one_group_more md [] l v u w e d = (w, subst (λ x. DefinesLocals md l.0 l.1 x w) (sym e) d, refl)
one_group_more md (k ∷ ks) l v u w e d = (e.0, e.1, one_group_more md ks l e.0 u w e.2 d)

without_places-more : (ls : List LocalGroup) (l : LocalGroup) → without_places (ls ++ l ∷ []) ≡ without_places ls ++ (l.count, l.ty) ∷ []
without_places-more [] l = refl
without_places-more (k ∷ ks) l = ap (λ (xs : List (ℕ × ValType)). (k.count, k.ty) ∷ xs) (without_places-more ks l)

pub one_local_more : (md : ModuleContext) (features : WasmFeatures) (kind : BodyKind) (ls : List LocalGroup) (i : ℕ) (l : LocalGroup) (v w : BodyState) → i < length ls → HasLocals md features kind (without_places (take i ls)) v → DefinesLocals md (get_or ls i l).count (get_or ls i l).ty v w → HasLocals md features kind (without_places (take (i + 1) ls)) w
one_local_more md features kind ls i l v w h so_far d =
    let more = ap without_places (take_more ls i l h) ∙ without_places-more (take i ls) (get_or ls i l) in
    record {
      start = so_far.start;
      starts = so_far.starts;
      defines = subst (λ xs. DefinesEach md xs so_far.start w) (sym more) (one_group_more md (without_places (take i ls)) ((get_or ls i l).count, (get_or ls i l).ty) so_far.start v w so_far.defines d);
    }

-- a group that defines no locals is why the body is refused
pub bad_group : (md : ModuleContext) (features : WasmFeatures) (kind : BodyKind) (begun : ℕ) (ls : List LocalGroup) (i : ℕ) (l : LocalGroup) (v : BodyState) (offset : ℕ) → i < length ls → HasLocals md features kind (without_places (take i ls)) v → offset ≡ (get_or ls i l).offset → CannotDefine md (get_or ls i l).count (get_or ls i l).ty v → CannotBegin md features kind begun ls offset
bad_group md features kind begun ls i l v offset h so_far at cannot =
    inr (record {
      index = i;
      group = get_or ls i l;
      is_there = slice_get-get_or ls i l h;
      at_offset = at;
      before = v;
      has_those_before = so_far;
      cannot = cannot;
    })
