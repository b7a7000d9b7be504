-- What passes at once is a turn, and otherwise nothing is changed. An operator that closes no frame leaves one open.
use Rattle.std.proofs.Common.{◌≡◌, ◌≢◌, ◌∙◌, ℕ, Bool, true, false, List, [], ◌∷◌, Some, Ok, Err, refl, sym, subst}
use Rattle.binary_operators.specs.Unread.{Unread}
use Rattle.binary_operators.specs.declared.types.CanonicalTypes.{CanonicalTypes}
use Rattle.validate_resources.specs.Context.{ModuleContext}
use Rattle.validate_types.specs.ErrorValue.{ErrorValue}
use Rattle.validate_visit.specs.Order.{is_part_closer, nesting}
use Rattle.validate_visit.specs.declared.op.Op.{Op}
use Rattle.validation_rules.specs.Context.{Context}
use Rattle.validation_rules.specs.Fits.{MaybeType}
use Rattle.validation_rules.specs.Operators.{operator}
use Rattle.validation_rules.specs.Order.{nesting_of}
use Rattle.validation_rules.specs.Rows.{Operator, Row, Form, Stays, Opens, BeginsElse, BeginsCatch, Ends, Delegates}
use Rattle.validate_stacks.specs.AtOnce.{MeetsOrUnchanged}
use Rattle.validate_stacks.specs.Attempts.{Stacked}
use Rattle.validate_stacks.specs.State.{BodyState, body_context}
use Rattle.validate_stacks.specs.Visits.{step_body, MayVisit, Meets}
use Rattle.validation_rules.specs.Static.{Frame, State, RowFails, frame_count, heads, open_frames, state_after, step, step_in}
use Rattle.validation_rules.proofs.Order.{operator_nests}
use Rattle.validation_rules.proofs.Steps.{stepped}
use Rattle.validate_stacks.proofs.AtOnce.{done_at_once, same_at_once}
use Rattle.module_check.specs.FirstBytes.{BeginLike}
use Rattle.validate_operators.proofs.Listed.{visited, no_frames}
use Rattle.module_check.specs.Turns.{IsTurn, Passes, Turns}
use Rattle.module_check.specs.declared.common.Turn.TheVariants.{Open, Closed, NotPassed}
use Rattle.module_check.proofs.Behind.{still_open}

-- ---- an operator that closes no frame

open_after : (left : List MaybeType) (cx : Context) (row : Row) (f : Frame) (fs : List Frame) (form : Form) (pushed : List MaybeType) → is_part_closer (nesting_of form) ≡ false → (state_after cx row (open_frames f fs left) form pushed).frames ≢ []
open_after left cx row f fs Stays pushed h e = absurd cc
open_after left cx row f fs (Opens o) pushed h e = absurd cc
open_after left cx row f fs BeginsElse pushed h e = absurd cc
open_after left cx row f fs (BeginsCatch all types) pushed h e = absurd cc
open_after left cx row f fs Ends pushed h e = absurd cc
open_after left cx row f fs Delegates pushed h e = absurd cc

open_behind : (cx : Context) (op : Op) (s u : State) → is_part_closer (nesting op) ≡ false → s.frames ≢ [] → step cx (operator cx op) s ≡ Some u → u.frames ≢ []
open_behind cx op s u none o e = by s.frames refl
  where
    by : (fs : List Frame) → s.frames ≡ fs → u.frames ≢ []
    by [] k = absurd (o k)
    by (f ∷ fs) k =
        let st = stepped cx (operator cx op) f fs s.left u (subst (λ gs. step_in cx (operator cx op) gs s.left ≡ Some u) k e) in
        let none_closed : is_part_closer (nesting_of (operator cx op).form) ≡ false = subst (λ n. is_part_closer n ≡ false) (sym (operator_nests cx op)) none in
        subst (λ (w : State). w.frames ≢ []) (sym st.leaves) (open_after s.left cx ((operator cx op).row (heads (f ∷ fs))) f fs (operator cx op).form st.pushed none_closed)

module _ (md : ModuleContext) where
  turned : (op : Op) (bytes behind : List ℕ) (v w : BodyState) → BeginLike bytes op behind → Meets md (λ cx. operator cx op) 0 v (Ok tt) w → (types : CanonicalTypes) → IsTurn md types bytes behind v w
  turned op bytes behind v w like m types = record {
    op = like.actual;
    offset = 0;
    is_read = like.is_read types;
    meets = subst (λ (f : Context → Operator). Meets md f 0 v (Ok tt) w) (sym (λ i cx. like.same_row cx i)) m;
  }

  pub at_once : (op : Op) (r s : Unread) (v w : Stacked) (b : Bool) → BeginLike r.left op s.left → MeetsOrUnchanged md (λ cx. operator cx op) v b w → b ≡ true → Passes md true r s v w
  unfolding Passes
  at_once op r s v w b like m is = turned op r.left s.left v.body w.body like (done_at_once md (λ cx. operator cx op) v w b m is 0)

  pub not_at_once : (op : Op) (r : Unread) (v w : Stacked) (b : Bool) → MeetsOrUnchanged md (λ cx. operator cx op) v b w → b ≡ false → Passes md false r r v w
  unfolding Passes
  not_at_once op r v w b m is = (refl, same_at_once md (λ cx. operator cx op) v w b m is)

  pub unchanged : (r : Unread) (v : Stacked) → Passes md false r r v v
  unfolding Passes
  unchanged r v = (refl, refl)

  pub turn_of : (b : Bool) (r s : Unread) (v w : Stacked) → Passes md b r s v w → b ≡ true → (types : CanonicalTypes) → IsTurn md types r.left s.left v.body w.body
  unfolding Passes
  turn_of true r s v w p is = p
  turn_of false r s v w p is = cc

  pub same_of : (b : Bool) (r s : Unread) (v w : Stacked) → Passes md b r s v w → b ≡ false → (s ≡ r) × (w ≡ v)
  unfolding Passes
  same_of true r s v w p is = cc
  same_of false r s v w p is = p

  -- a visit that is refused
  pub fails : (op : Context → Operator) (offset : ℕ) (v w : BodyState) (e : ErrorValue) → Meets md op offset v (Err e) w → e.wants_memory ≡ false → RowFails (step_body md op v) × (e.offset ≡ offset)
  unfolding Meets
  fails op offset v w e m f = (m.refused f, m.at_offset)

  -- ---- which turn

  pub open_at_once : (op : Op) (v w : Stacked) (b : Bool) → MayVisit md v → is_part_closer (nesting op) ≡ false → MeetsOrUnchanged md (λ cx. operator cx op) v b w → b ≡ true → w.body.present.frames ≢ []
  open_at_once op v w b may none m is = open_behind (body_context md v.body) op v.body.present w.body.present none may.open_frame (visited md op 0 v.body w.body tt (done_at_once md (λ cx. operator cx op) v w b m is 0))

  pub turned_open : (b : Bool) (r s : Unread) (v w : Stacked) → Passes md b r s v w → (b ≡ true → w.body.present.frames ≢ []) → b ≡ true → Turns md Open r s v w
  unfolding Turns
  turned_open b r s v w p o is = (subst (λ a. Passes md a r s v w) is p, o is)

  pub not_passed : (r : Unread) (v : Stacked) → Turns md NotPassed r r v v
  unfolding Turns
  not_passed r v = unchanged r v

  -- by how many frames are open
  pub turn_closed : (b : Bool) (r s : Unread) (v w : Stacked) (n : ℕ) → Passes md b r s v w → b ≡ true → n ≡ frame_count w.body.present → n ≡ 0 → Turns md Closed r s v w
  unfolding Turns
  turn_closed b r s v w n p is c z = (subst (λ a. Passes md a r s v w) is p, no_frames w.body.present.frames (sym c ∙ z))

  pub turn_open : (b : Bool) (r s : Unread) (v w : Stacked) (n : ℕ) → Passes md b r s v w → b ≡ true → n ≡ frame_count w.body.present → n ≢ 0 → Turns md Open r s v w
  unfolding Turns
  turn_open b r s v w n p is c some = (subst (λ a. Passes md a r s v w) is p, still_open w.body.present n c some)

  pub turn_refused : (b : Bool) (r s : Unread) (v w : Stacked) → Passes md b r s v w → b ≡ false → Turns md NotPassed r s v w
  unfolding Turns
  turn_refused b r s v w p is = subst (λ a. Passes md a r s v w) is p

  -- ---- what a turn says

  pub passed_open : (r s : Unread) (v w : Stacked) → Turns md Open r s v w → (types : CanonicalTypes) → IsTurn md types r.left s.left v.body w.body
  unfolding Turns
  passed_open r s v w p = turn_of true r s v w p.0 refl

  pub open_there : (r s : Unread) (v w : Stacked) → Turns md Open r s v w → w.body.present.frames ≢ []
  unfolding Turns
  open_there r s v w p = p.1

  pub passed_closed : (r s : Unread) (v w : Stacked) → Turns md Closed r s v w → (types : CanonicalTypes) → IsTurn md types r.left s.left v.body w.body
  unfolding Turns
  passed_closed r s v w p = turn_of true r s v w p.0 refl

  pub closed_there : (r s : Unread) (v w : Stacked) → Turns md Closed r s v w → w.body.present.frames ≡ []
  unfolding Turns
  closed_there r s v w p = p.1

  pub same_there : (r s : Unread) (v w : Stacked) → Turns md NotPassed r s v w → (s ≡ r) × (w ≡ v)
  unfolding Turns
  same_there r s v w p = same_of false r s v w p refl
