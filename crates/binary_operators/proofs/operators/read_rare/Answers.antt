-- The form of vector operators is that of one code.
use Rattle.std.proofs.Common.{◌≡◌, Some}
use Rattle.binary_operators.specs.Forms.{from, forms}
use Rattle.binary_operators.specs.declared.forms.Form.TheVariants.{Vector}
use Rattle.binary_operators.proofs.Vectors.{vector_code}
use Rattle.binary_operators.proofs.operators.read_rare.Goals as goal

pub returns-in-Some-Vector-clause-vector : goal.returns-in-Some-Vector-clause-vector
returns-in-Some-Vector-clause-vector c = λ vector.
    let found = c.form_of.ensures in
    let some = c.in-Some-Vector.is in
    let form = c.in-Some-Vector.field-0-is in
    let is : from 0 forms c.args.code ≡ Some Vector = cc in
    vector_code c.args.code is
