-- What the first bytes tell is what the bytes begin with.
use Rattle.std.proofs.Common.{refl, sym, subst}
use Rattle.binary_operators.specs.Unread.{Unread}
use Rattle.validate_visit.specs.declared.op.ControlOp.TheVariants.{End}
use Rattle.validate_visit.specs.declared.op.Op.TheVariants.{Control}
use Rattle.module_check.specs.FirstBytes.{BeginAs, BeginLike}
use Rattle.module_check.proofs.FirstBytes.{has_one, has_two, two_of, of_one, of_both, nop_like, end_like, return_like, drop_like, select_like, test32_like, compare32_like, compare64_like, binary32_like, binary64_like, binary_f32_like, binary_f64_like, constant32_near, constant64_near, indexed_begun, local_get_like, local_set_like, local_tee_like, block_like, loop_like, if_like, load32_like, load64_like, load_f32_like, load_f64_like, store32_like, store64_like, store_f32_like, store_f64_like}
use Rattle.module_check.proofs.common.common_turn.Goals as goal

pub turn_of_bytes-requires-clause-like : goal.turn_of_bytes-requires-clause-like
turn_of_bytes-requires-clause-like g c = of_one refl c.in-Some.ensures.next (λ two. nop_like two c.in-Nop.ensures)

pub behind-rest-requires : goal.behind-rest-requires
behind-rest-requires g c = has_one c.in-Some.ensures.next

pub turn_of_end-requires-clause-like : goal.turn_of_end-requires-clause-like
turn_of_end-requires-clause-like g c = subst (λ (u : Unread). BeginLike c.args.reader.now.left (Control End) u.left) (sym c.behind-rest.ensures) (end_like (two_of c.in-Some.ensures.next) c.in-End.ensures)

pub turn_of_bytes-requires-in-Return-clause-like : goal.turn_of_bytes-requires-in-Return-clause-like
turn_of_bytes-requires-in-Return-clause-like g c = of_one refl c.in-Some.ensures.next (λ two. return_like two c.in-Return.ensures)

pub turn_of_bytes-requires-in-Drop-clause-like : goal.turn_of_bytes-requires-in-Drop-clause-like
turn_of_bytes-requires-in-Drop-clause-like g c = of_one refl c.in-Some.ensures.next (λ two. drop_like two c.in-Drop.ensures)

pub turn_of_bytes-requires-in-Select-clause-like : goal.turn_of_bytes-requires-in-Select-clause-like
turn_of_bytes-requires-in-Select-clause-like g c = of_one refl c.in-Some.ensures.next (λ two. select_like two c.in-Select.ensures)

pub turn_of_bytes-requires-in-Test32-clause-like : goal.turn_of_bytes-requires-in-Test32-clause-like
turn_of_bytes-requires-in-Test32-clause-like g c = subst (λ o. BeginAs c.args.reader.now.left o 1) (sym c.zero_test.ensures) (of_one refl c.in-Some.ensures.next (λ two. test32_like two c.in-Test32.ensures))

pub turn_of_bytes-requires-in-Compare32-clause-like : goal.turn_of_bytes-requires-in-Compare32-clause-like
turn_of_bytes-requires-in-Compare32-clause-like g c = subst (λ o. BeginAs c.args.reader.now.left o 1) (sym c.comparison.ensures) (of_one refl c.in-Some.ensures.next (λ two. compare32_like two c.in-Compare32.ensures))

pub turn_of_bytes-requires-in-Compare64-clause-like : goal.turn_of_bytes-requires-in-Compare64-clause-like
turn_of_bytes-requires-in-Compare64-clause-like g c = subst (λ o. BeginAs c.args.reader.now.left o 1) (sym c.comparison-in-Compare64.ensures) (of_one refl c.in-Some.ensures.next (λ two. compare64_like two c.in-Compare64.ensures))

pub turn_of_bytes-requires-in-Binary32-clause-like : goal.turn_of_bytes-requires-in-Binary32-clause-like
turn_of_bytes-requires-in-Binary32-clause-like g c = subst (λ o. BeginAs c.args.reader.now.left o 1) (sym c.binary.ensures) (of_one refl c.in-Some.ensures.next (λ two. binary32_like two c.in-Binary32.ensures))

pub turn_of_bytes-requires-in-Binary64-clause-like : goal.turn_of_bytes-requires-in-Binary64-clause-like
turn_of_bytes-requires-in-Binary64-clause-like g c = subst (λ o. BeginAs c.args.reader.now.left o 1) (sym c.binary-in-Binary64.ensures) (of_one refl c.in-Some.ensures.next (λ two. binary64_like two c.in-Binary64.ensures))

pub turn_of_bytes-requires-in-BinaryF32-clause-like : goal.turn_of_bytes-requires-in-BinaryF32-clause-like
turn_of_bytes-requires-in-BinaryF32-clause-like g c = subst (λ o. BeginAs c.args.reader.now.left o 1) (sym c.float_binary.ensures) (of_one refl c.in-Some.ensures.next (λ two. binary_f32_like two c.in-BinaryF32.ensures))

pub turn_of_bytes-requires-in-BinaryF64-clause-like : goal.turn_of_bytes-requires-in-BinaryF64-clause-like
turn_of_bytes-requires-in-BinaryF64-clause-like g c = subst (λ o. BeginAs c.args.reader.now.left o 1) (sym c.float_binary-in-BinaryF64.ensures) (of_one refl c.in-Some.ensures.next (λ two. binary_f64_like two c.in-BinaryF64.ensures))

pub turn_of_constant-requires-clause-there : goal.turn_of_constant-requires-clause-there
turn_of_constant-requires-clause-there g c = has_two c.in-Some.ensures.next

pub turn_of_constant-requires-clause-like : goal.turn_of_constant-requires-clause-like
turn_of_constant-requires-clause-like g c = λ behind ends. constant32_near (two_of c.in-Some.ensures.next) c.in-Constant32.ensures behind ends

pub turn_of_constant-requires-in-Constant64-clause-there : goal.turn_of_constant-requires-in-Constant64-clause-there
turn_of_constant-requires-in-Constant64-clause-there g c = has_two c.in-Some.ensures.next

pub turn_of_constant-requires-in-Constant64-clause-like : goal.turn_of_constant-requires-in-Constant64-clause-like
turn_of_constant-requires-in-Constant64-clause-like g c = λ behind ends. constant64_near (two_of c.in-Some.ensures.next) c.in-Constant64.ensures behind ends

pub turn_of_index-requires-clause-begins : goal.turn_of_index-requires-clause-begins
turn_of_index-requires-clause-begins g c = (two_of c.in-Some.ensures.next).begins

pub turn_of_index-requires-clause-form : goal.turn_of_index-requires-clause-form
turn_of_index-requires-clause-form g c = indexed_begun (two_of c.in-Some.ensures.next) c.in-Indexed.ensures

pub turn_of_index-requires-clause-next : goal.turn_of_index-requires-clause-next
turn_of_index-requires-clause-next g c = (two_of c.in-Some.ensures.next).goes_on

pub turn_with-requires-clause-like : goal.turn_with-requires-clause-like
turn_with-requires-clause-like g c = λ short. of_both refl c.in-Some.ensures.next (λ two. local_get_like two c.in-LocalGet.ensures c.from-index.ensures short)

pub turn_with-requires-in-LocalSet-clause-like : goal.turn_with-requires-in-LocalSet-clause-like
turn_with-requires-in-LocalSet-clause-like g c = λ short. of_both refl c.in-Some.ensures.next (λ two. local_set_like two c.in-LocalSet.ensures c.from-index.ensures short)

pub turn_with-requires-in-LocalTee-clause-like : goal.turn_with-requires-in-LocalTee-clause-like
turn_with-requires-in-LocalTee-clause-like g c = λ short. of_both refl c.in-Some.ensures.next (λ two. local_tee_like two c.in-LocalTee.ensures c.from-index.ensures short)

pub turn_with-requires-in-Block-clause-like : goal.turn_with-requires-in-Block-clause-like
turn_with-requires-in-Block-clause-like g c = λ empty. of_both refl c.in-Some.ensures.next (λ two. block_like two c.in-Block.ensures empty)

pub turn_with-requires-in-Loop-clause-like : goal.turn_with-requires-in-Loop-clause-like
turn_with-requires-in-Loop-clause-like g c = λ empty. of_both refl c.in-Some.ensures.next (λ two. loop_like two c.in-Loop.ensures empty)

pub turn_with-requires-in-If-clause-like : goal.turn_with-requires-in-If-clause-like
turn_with-requires-in-If-clause-like g c = λ empty. of_both refl c.in-Some.ensures.next (λ two. if_like two c.in-If.ensures empty)

pub turn_of_load-requires-clause-like : goal.turn_of_load-requires-clause-like
turn_of_load-requires-clause-like g c = load32_like c.in-Some.ensures.next c.in-Load32.ensures

pub turn_of_load-requires-in-Load64-clause-like : goal.turn_of_load-requires-in-Load64-clause-like
turn_of_load-requires-in-Load64-clause-like g c = load64_like c.in-Some.ensures.next c.in-Load64.ensures

pub turn_of_load-requires-in-LoadF32-clause-like : goal.turn_of_load-requires-in-LoadF32-clause-like
turn_of_load-requires-in-LoadF32-clause-like g c = load_f32_like c.in-Some.ensures.next c.in-LoadF32.ensures

pub turn_of_load-requires-in-LoadF64-clause-like : goal.turn_of_load-requires-in-LoadF64-clause-like
turn_of_load-requires-in-LoadF64-clause-like g c = load_f64_like c.in-Some.ensures.next c.in-LoadF64.ensures

pub turn_of_store-requires-clause-like : goal.turn_of_store-requires-clause-like
turn_of_store-requires-clause-like g c = store32_like c.in-Some.ensures.next c.in-Store32.ensures

pub turn_of_store-requires-in-Store64-clause-like : goal.turn_of_store-requires-in-Store64-clause-like
turn_of_store-requires-in-Store64-clause-like g c = store64_like c.in-Some.ensures.next c.in-Store64.ensures

pub turn_of_store-requires-in-StoreF32-clause-like : goal.turn_of_store-requires-in-StoreF32-clause-like
turn_of_store-requires-in-StoreF32-clause-like g c = store_f32_like c.in-Some.ensures.next c.in-StoreF32.ensures

pub turn_of_store-requires-in-StoreF64-clause-like : goal.turn_of_store-requires-in-StoreF64-clause-like
turn_of_store-requires-in-StoreF64-clause-like g c = store_f64_like c.in-Some.ensures.next c.in-StoreF64.ensures
