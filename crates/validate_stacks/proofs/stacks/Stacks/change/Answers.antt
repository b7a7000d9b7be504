use Rattle.std.proofs.Common.{◌≡◌, ◌-◌, ◌≤◌, ℕ, List, length, drop, slice_get, sym, ◌∙◌, ap, subst, arith}
use Rattle.std.proofs.Common.{length-drop}
use Rattle.validate_locals.specs.Inits.{AreFresh}
use Rattle.validate_stacks.specs.Attempts.{body_of}
use Rattle.validate_stacks.specs.Changes.{MayChange, frames_opened, order_closed, order_set, log_changed}
use Rattle.validate_stacks.specs.Changes.{frames_closed, operands_given, operands_topped, body_changed}
use Rattle.validate_stacks.specs.Flat.{FlatStacks, IsSound, stacked_of}
use Rattle.validate_stacks.specs.StacksInside.{flat_of}
use Rattle.validate_stacks.specs.declared.change.Change.{Change}
use Rattle.validate_stacks.proofs.Idle.{own_within}
use Rattle.validate_stacks.proofs.Changed.{Allowed, with_lists, Makes, changed_there, length_given, one_above}
use Rattle.validate_stacks.proofs.Cuts.{own_of}
use Rattle.validate_stacks.proofs.Undone.{sound_room, with_room, inits_within}
use Rattle.validate_stacks.proofs.stacks.Stacks.change.Given.{Over}
use Rattle.validate_stacks.proofs.stacks.Stacks.change.Goals as goal

pub invariant_of-self : goal.invariant_of-self
invariant_of-self g c =
    let s = flat_of c.self.inside in
    let room = c.make_room in
    rw (room.ensures.operands, room.ensures.frames, room.ensures.order, room.ensures.set_at_entry)
    (sound_room s room.new.control.room room.new.operands.room room.new.inits.room room.ensures.frames_room
    room.ensures.operands_room room.ensures.order_room c.self.invariant)

pub invariant_of-self-in_err-record : goal.invariant_of-self-in_err-record
invariant_of-self-in_err-record g c =
    let s = flat_of c.self.inside in
    let room = c.make_room in
    rw (
      room.ensures.operands,
      room.ensures.frames,
      room.ensures.order,
      room.ensures.set_at_entry,
      c.in_err-record.ensures.exact,
    )
    (sound_room s room.new.control.room room.new.operands.room room.new.inits.room room.ensures.frames_room
    room.ensures.operands_room room.ensures.order_room c.self.invariant)

-- no more go than there are
within :
    (c : Change) (s : FlatStacks) → MayChange c (stacked_of s) → c.popped ≤ length s.operands
within c s may =
    let own : c.popped ≤ length (own_of s) = may.own in
    omega (arith, own, own_within s.frames s.operands s.order)

pub record-requires-clause-popped : goal.record-requires-clause-popped
record-requires-clause-popped g c =
    let s = flat_of c.self.inside in
    let popped = within c.args.change s (rw (← c.self.view_is) at c.requires) in
    omega (arith, popped, ap length c.make_room.ensures.operands)

pub record-requires-clause-closed : goal.record-requires-clause-closed
record-requires-clause-closed g c f h =
    let s = flat_of c.self.inside in
    let first = ap (λ fs. slice_get fs 0) (sym c.make_room.ensures.frames) ∙ h in
    let set = inits_within s.frames f (length s.operands) (length s.order) first c.self.invariant.shape in
    omega (arith, set, ap length c.make_room.ensures.order)

pub overflow_sub-height : goal.overflow_sub-height
overflow_sub-height g c =
    let s = flat_of c.self.inside in
    let popped = within c.args.change s (rw (← c.self.view_is) at c.requires) in
    omega (arith, popped, ap length c.make_room.ensures.operands, c.len.ensures.value)

pub give-requires : goal.give-requires
give-requires g c =
    let s = flat_of c.self.inside in
    let n = c.args.change.popped in
    let all = c.make_room.new.operands.items in
    let popped = within c.args.change s (rw (← c.self.view_is) at c.requires) in
    omega (
      arith,
      popped,
      ap length c.make_room.ensures.operands,
      c.len.ensures.value,
      ap length c.truncate.ensures.items,
      length-drop (length all - (c.len.result - n)) all,
      c.truncate.ensures.room,
      c.in_ok-pushed.ensures.for_operands,
    )

pub put_top-requires : goal.put_top-requires
put_top-requires g c some =
    let s = flat_of c.self.inside in
    let n = c.args.change.popped in
    let all = c.make_room.new.operands.items in
    let popped = within c.args.change s (rw (← c.self.view_is) at c.requires) in
    omega (
      arith,
      popped,
      ap length c.make_room.ensures.operands,
      c.len.ensures.value,
      ap length c.truncate.ensures.items,
      length-drop (length all - (c.len.result - n)) all,
      c.truncate.ensures.room,
      c.in_ok-pushed.ensures.for_operands,
      ap length c.give.ensures.items,
      length_given c.args.change.pushed.now c.truncate.new.self.items,
      c.give.ensures.never_less,
      one_above c.args.change.top some,
    )

module _ (g : Over) (c : goal.After-put_top g) where
  abbrev change : Change
  change = c.args.change

  abbrev s : FlatStacks
  s = flat_of c.self.inside

  may : MayChange change (stacked_of s)
  may = rw (← c.self.view_is) at c.requires

  height : c.len.result - change.popped ≡ length (drop change.popped s.operands)
  height =
      omega (
        arith,
        within change s may,
        ap length c.make_room.ensures.operands,
        c.len.ensures.value,
        length-drop change.popped s.operands,
      )

  left : c.truncate.new.self.items ≡ drop change.popped s.operands
  left =
      let all = c.make_room.new.operands.items in
      let count : length all - (c.len.result - change.popped) ≡ change.popped =
      omega (arith, within change s may, ap length c.make_room.ensures.operands, c.len.ensures.value) in
      c.truncate.ensures.items
      ∙ ap (λ k. drop k all) count
      ∙ ap (drop change.popped) c.make_room.ensures.operands

  operands :
      c.put_top.new.operands.items
      ≡ operands_topped change.top (operands_given change.pushed.now (drop change.popped s.operands))
  operands =
      c.put_top.ensures.items
      ∙ ap (operands_topped change.top) (c.give.ensures.items ∙ ap (operands_given change.pushed.now) left)

  entries : c.set-init_height.new.inits.set_at_entry ≡ s.set_at_entry
  entries =
      c.set-init_height.ensures.set_at_entry ∙ c.close.ensures.set_at_entry ∙ c.make_room.ensures.set_at_entry

  abbrev order_left : List ℕ
  order_left = order_set change.sets s.set_at_entry (order_closed change.closes s.frames s.order)

  order : c.set-init_height.new.inits.order ≡ order_left
  order =
      c.set-init_height.ensures.order
      ∙ ap (λ marks. order_set change.sets marks c.close.new.inits.order)
      (c.close.ensures.set_at_entry ∙ c.make_room.ensures.set_at_entry)
      ∙ ap (order_set change.sets s.set_at_entry)
      (c.close.ensures.order
      ∙ ap (λ fs. order_closed change.closes fs c.make_room.new.inits.order) c.make_room.ensures.frames
      ∙ ap (order_closed change.closes s.frames) c.make_room.ensures.order)

  frames :
      c.open.new.control.items
      ≡ frames_opened change.opens (length (drop change.popped s.operands)) (length order_left)
      (frames_closed change.closes s.frames)
  frames =
      c.open.ensures.frames
      ∙ ap (λ k. frames_opened change.opens k c.set-init_height.result c.close.new.control.items) height
      ∙ ap
      (λ k. frames_opened change.opens (length (drop change.popped s.operands)) k c.close.new.control.items)
      (c.set-init_height.ensures.height ∙ ap length order)
      ∙ ap (frames_opened change.opens (length (drop change.popped s.operands)) (length order_left))
      (c.close.ensures.frames ∙ ap (frames_closed change.closes) c.make_room.ensures.frames)

  log : c.record.new.transaction ≡ log_changed change s.frames s.operands s.order s.transaction
  log =
      let made = c.make_room.new in
      c.in_ok-record.ensures.exact
      ∙ ap (λ fs. log_changed change fs made.operands.items made.inits.order s.transaction)
      c.make_room.ensures.frames
      ∙ ap (λ all. log_changed change s.frames all made.inits.order s.transaction)
      c.make_room.ensures.operands
      ∙ ap (λ is. log_changed change s.frames s.operands is s.transaction) c.make_room.ensures.order

  -- with the room that is there in the end
  abbrev roomy : FlatStacks
  roomy =
      with_room c.open.new.control.room c.put_top.new.operands.room c.set-init_height.new.inits.room s

  sound : IsSound roomy
  sound =
      sound_room s roomy.frames_room roomy.operands_room roomy.order_room
      (omega (arith, c.make_room.ensures.frames_room, c.close.ensures.frames_room, c.open.ensures.room))
      (omega (
        arith,
        c.make_room.ensures.operands_room,
        c.truncate.ensures.room,
        c.give.ensures.never_less,
        c.put_top.ensures.never_less,
      ))
      (omega
      (arith, c.make_room.ensures.order_room, c.close.ensures.order_room, c.set-init_height.ensures.room))
      c.self.invariant

  allowed : Allowed change roomy
  allowed =
      record {
        may = may;
        operands_room = omega (
          arith,
          ap length c.make_room.ensures.operands,
          c.len.ensures.within,
          c.truncate.ensures.room,
          c.give.ensures.never_less,
          c.put_top.ensures.never_less,
        );
        frames_room = omega (
          arith,
          ap length c.make_room.ensures.frames,
          c.in_ok-pushed.ensures.within,
          c.close.ensures.frames_room,
          c.open.ensures.room,
        );
        order_room = omega (arith, ap length order, c.set-init_height.ensures.within);
        fresh =
            subst (AreFresh s.set_at_entry) order
            (subst (λ marks. AreFresh marks c.set-init_height.new.inits.order) entries
            c.set-init_height.ensures.fresh);
      }

  both :
      Makes (body_changed change) roomy
      (with_lists c.open.new.control.items c.put_top.new.operands.items c.set-init_height.new.inits.order
      c.record.new.transaction c.set-init_height.new.inits.set_at_entry roomy)
  both =
      changed_there change roomy c.open.new.control.items c.put_top.new.operands.items
      c.set-init_height.new.inits.order c.record.new.transaction c.set-init_height.new.inits.set_at_entry
      frames operands order log entries allowed sound

pub invariant_of-self-2 : goal.invariant_of-self-2
invariant_of-self-2 g c = (both g c).0

pub returns-clause-exact : goal.returns-clause-exact
returns-clause-exact g c = (both g c).1 ∙ ap (body_changed c.args.change) (ap body_of c.self.view_is)
