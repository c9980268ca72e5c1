-- `sound::is_flat` meets its contract: the number above INFO first, as the definition has it.
use borrow.Author.Tests.{lt-ltb, le-ltb}
use Rattle.scan.specs.Scan.{flat_word}
use Rattle.sound.proofs.is_flat.Goals as goal

pub returns-then-bits-lt-PERMISSIONS : goal.returns-then-bits-lt-PERMISSIONS
unfolding flat_word
returns-then-bits-lt-PERMISSIONS c = rw (lt-ltb _ _ c.if-bits-lt-PERMISSIONS.true)

pub returns : goal.returns
unfolding flat_word
returns c = rw (le-ltb _ _ c.if-bits-lt-PERMISSIONS.false)
