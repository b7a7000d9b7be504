-- Bytes that aren't read are no module's, unless memory was wanting.
use Rattle.std.proofs.Common.{inl}
use Rattle.module_check.specs.declared.load_refusal.LoadRefusal.TheVariants.{Judged}
use Rattle.module_check.proofs.Decoded.{loads_complete, loads_valid, memory_alone}
use Rattle.module_check.proofs.Unread.{judged_same, uncovered_told, malformed_told, refused_told}
use Rattle.module_check.proofs.loaded.LoadedModule.new.Goals as goal

pub returns-in-Err-clause-unread : goal.returns-in-Err-clause-unread
returns-in-Err-clause-unread c = λ offset is.
    c.in-Err.ensures.refused (c.unread-verdict.ensures.memory (uncovered_told c.unread-verdict.result offset is))

pub returns-in-Err-clause-malformed : goal.returns-in-Err-clause-malformed
returns-in-Err-clause-malformed c = λ e is.
    c.in-Err.ensures.refused (c.unread-verdict.ensures.memory (malformed_told c.unread-verdict.result e is))

pub returns-in-Err-clause-invalid : goal.returns-in-Err-clause-invalid
returns-in-Err-clause-invalid c = λ e is.
    inl (c.in-Err.ensures.refused (c.unread-verdict.ensures.memory (refused_told c.unread-verdict.result e is)))

pub returns-in-Err-clause-complete : goal.returns-in-Err-clause-complete
returns-in-Err-clause-complete c =
    memory_alone c.args.features c.args.bytes.now (Judged c.unread-verdict.result) (λ is. c.unread-verdict.ensures.refused (judged_same is))
    (returns-in-Err-clause-unread c) (returns-in-Err-clause-malformed c) (returns-in-Err-clause-invalid c) (λ e is. absurd cc)

pub returns-in-Ok-clause-valid : goal.returns-in-Ok-clause-valid
returns-in-Ok-clause-valid c =
    let x = c.of_module.ensures in
    loads_valid c.args.features c.args.bytes.now c.of_module.result x.bytes x.features

pub returns-in-Ok-clause-complete : goal.returns-in-Ok-clause-complete
returns-in-Ok-clause-complete c =
    let x = c.of_module.ensures in
    loads_complete c.args.features c.args.bytes.now c.of_module.result x.refused x.covered x.readable x.invalid x.too_large
