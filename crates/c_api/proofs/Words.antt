-- The machine value of a handle. Assumes `Logic`.
use Rattle.std.proofs.Common.{◌≡◌, ℕ, List, [], ◌∷◌, ◌++◌, refl, subst}
use seplogic.Ra.Ura.{Ura}
use mir.Val.{Val, vstruct, vcons, vnil, of_list}
use mir.Raw.{raw as bare}
use base.Fraction.{full_share}
use base.Logic.{ent, via, fst∗, snd∗, never, guard, guard_i}
use types.Logic.{Logic, sem}
use contract.Monad.{fact_use}
use types.Kit.{Item, Goal, Seq, Step, step, ‵, ◌$◌, drop, fsplit, fjoin, fpick, fpack, feq_i, feq_l, flt_l}
use denote.RattleType.{RattleType, Valss}
use denote.Builtin.{RawPtr}
use denote.Memory.{lone}
use denote.RawPtr.{Ptr, block_ptr, null_ptr, ptr_val, lies_at, in_a_block, Testable}
use denote.Param.Laws.{Laws}
use denote.Steps.{nothing}
use denote.Struct.Struct.{within}
use denote.Struct.Owning.{shape}
use Rattle.core.specs.declared.option.Option.TheVariants.{None, Some}
use Rattle.std_heap.specs.contracts.Global as heap
use Rattle.std_heap.specs.contracts.GlobalAllocator.TheImpl.{ghosts}
use Rattle.std_heap.proofs.Global.TheLaws as heap_laws
use Rattle.std_heap.proofs.GlobalToken.{dealloc_token-Testable}
use Rattle.std_alloc.specs.Box.Ownership.{box_owns}
use Rattle.c_api.specs.Handle.{MaybeKept, handle_owns}
use Rattle.c_api.specs.contracts.kept.Kept as kept
use Rattle.c_api.proofs.Values.{Loose}
use Rattle.c_api.specs.contracts.handle.Handle as handle

abbrev pub Handle : RattleType
Handle = handle.the_row

abbrev pub word : Ptr → Val
word p = vstruct (vcons (ptr_val p) vnil)

module _ {M : Type 1} {𝓤 : Ura M} {𝓛 : Logic 𝓤} {K : Type 0} {Γ : List (Item 𝓤)} {G : Goal 𝓤 𝓛.H} where
  pub handle_in : K → (p : Ptr) (x : MaybeKept) → Step K 𝓛 (‵ (Handle.own_val (record { at = p; held = x }) (word p ∷ [])) ∷ Γ) G (‵ (handle_owns p x) ∷ Γ) G
  handle_in t p x = step (λ s.
      nothing t $ feq_i t (List Val) (ptr_val p ∷ []) (ptr_val p ∷ []) refl $ fjoin t $ feq_i t (List Val) (word p ∷ []) (word p ∷ []) refl $ fjoin t $
      fpack t (Valss (RawPtr ∷ [])) (within (shape handle.the_type) (p, tt) (word p ∷ [])) (ptr_val p ∷ [], tt) $ fjoin t $ s)

  pub handle_out : K → (d : Handle.Denot) (vs : List Val) → (vs ≡ word d.at ∷ [] → Seq K 𝓛 (‵ (handle_owns d.at d.held) ∷ Γ) G) → Seq K 𝓛 (‵ (Handle.own_val d vs) ∷ Γ) G
  handle_out t d vs k =
      fsplit t $ fpick t (λ vss. fsplit t $ feq_l t (λ ev. fsplit t $ feq_l t (λ ep. drop t $
      k (subst (λ (ps : List Val). vs ≡ vstruct (of_list (ps ++ [])) ∷ []) ep ev))))

-- what a handle keeps, as a box and as its pointer
abbrev pub R : RattleType
R = kept.the_row

abbrev pub Z : RattleType
Z = heap.the_row

abbrev pub LZ : Laws Z
LZ = heap_laws.the_row_laws

abbrev pub Held : RattleType
Held = Loose R Z LZ ghosts

module _ {M : Type 1} {𝓤 : Ura M} (𝓛 : Logic 𝓤) where
  -- what may be freed may be compared with null
  pub tested : (a : Z.Denot) (p : Ptr) (x : R.Denot) → ent 𝓤 (sem 𝓛 (box_owns (ghosts.dealloc_token a) R p x)) (guard 𝓤 (Testable p) (sem 𝓛 (box_owns (ghosts.dealloc_token a) R p x)))
  tested a p x =
      fact_use 𝓤 (Testable p) (via 𝓤 _ (snd∗ 𝓤 (sem 𝓛 (lies_at R full_share p x)) (sem 𝓛 (ghosts.dealloc_token a (bare (lone R.mir)) p))) (dealloc_token-Testable 𝓛 a (bare (lone R.mir)) p))
      (guard_i 𝓤 (Testable p) (sem 𝓛 (box_owns (ghosts.dealloc_token a) R p x)))

module _ {M : Type 1} {𝓤 : Ura M} {𝓛 : Logic 𝓤} {K : Type 0} {Γ : List (Item 𝓤)} {G : Goal 𝓤 𝓛.H} where
  -- a handle is null and has nothing, or has the box at its pointer
  pub either_owned : K → (p : Ptr) (x : MaybeKept) → (p ≡ null_ptr → x ≡ None → Seq K 𝓛 Γ G)
      → ((b o : ℕ) (a : Z.Denot) (m : R.Denot) → p ≡ block_ptr b o → x ≡ Some m → Testable (block_ptr b o) → Seq K 𝓛 (‵ (box_owns (ghosts.dealloc_token a) R (block_ptr b o) m) ∷ Γ) G) → Seq K 𝓛 (‵ (handle_owns p x) ∷ Γ) G
  either_owned t p None none one = feq_l t (λ e. none e refl)
  either_owned t p (Some m) none one =
      fsplit t $ flt_l t (λ low. fpick t (λ a. in_a_block t p (λ q. box_owns (ghosts.dealloc_token a) R q m) (fst∗ 𝓤 (never 𝓤) (sem 𝓛 (ghosts.dealloc_token a (bare (lone R.mir)) null_ptr))) (λ b o e. one b o a m e refl (subst Testable e low))))
