use Rattle.validate_rows.proofs.atomic.atomic_operator.Goals as goal

pub returns : goal.returns
returns g c = c.exchange_found.ensures _ c.atomic_types-found.ensures
