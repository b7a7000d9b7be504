-- What a closure does to the log of an attempt (the crate's own).
use Rattle.std.specs.Prelude.{◌≡◌, Result, Ok}
use Rattle.std.specs.Borrow.{MutBor}
use Rattle.std.specs.Fn.{Once, FnOnceReturnsAtMut}
use Rattle.validate_types.specs.declared.error.OutOfMemory.{OutOfMemory}
use Rattle.validate_transaction.specs.declared.log.Transaction.{Transaction}
use Rattle.validate_transaction.specs.declared.log.Transaction.TheVariants.{Active, Inactive}
use Rattle.validate_transaction.specs.Log.{Log}

-- the log of an attempt is what the closure leaves; without an attempt nothing changes
abbrev pub Maps :
    {F : Type 0} → Once F (MutBor Log × Unit {0}) (Result (Unit {0}) OutOfMemory × (MutBor Log × Unit {0})) →
    F → Transaction → Result (Unit {0}) OutOfMemory → Transaction → Type 0
Maps g f (Active log) r t = (after : Log) × FnOnceReturnsAtMut g f log r after × (t ≡ Active after)
Maps g f (Inactive allocs) r t = (r ≡ Ok tt) × (t ≡ Inactive allocs)
