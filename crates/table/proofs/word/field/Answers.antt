-- `table::word::field` meets its contract: a shift and a remainder read one digit.
use native.Mathlib.Omega.{arith}
use Rattle.laws.proofs.Shifts.{digit_of_shift}
use Rattle.table.proofs.word.field.Goals as goal

pub returns : goal.returns
returns c = (digit_of_shift 4 c.args.word c.args.i, omega arith)
