-- `forms::words::splice_fields` meets its contract: a splice of bits at a multiple of four is one of fields.
use mathlib.Core.Path.{ap₂, ◌∙◌, ◌≡◌}
use Prim.Native.Nat.{ℕ}
use native.Mathlib.Omega.{arith}
use Rattle.table.specs.Board.{FIELDS}
use Rattle.shapes.proofs.SpliceLaws.{splice_bits}
use Rattle.laws.proofs.Splices.{spliced, splice_lt}
use Rattle.forms.proofs.words.splice_fields.Goals as goal
use Rattle.forms.proofs.words.splice_fields.Goals.{After-splice}

same : (c : After-splice) → let a = c.args in c.splice.result ≡ spliced 16 a.k a.low a.high
same c =
    let a = c.args in
    c.splice.ensures ∙ splice_bits 4 a.k _ _ ∙ ap₂ (λ (x y : ℕ). spliced 16 a.k x y) c.wide.ensures.0 c.wide-2.ensures.0

-- the word has the fields of an entry, on a board of any size of entries
pub narrow-requires : goal.narrow-requires
narrow-requires c =
    let a = c.args in
    rw (same (goal.at.narrow-requires c).After-splice) (splice_lt 16 (omega arith) a.k FIELDS a.low a.high c.requires (omega arith))

pub returns : goal.returns
returns c = c.narrow.ensures ∙ same (goal.at.returns c).After-splice
