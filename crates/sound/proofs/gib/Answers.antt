-- `sound::gib` meets its contract: entries of the "1G" types leave the marks, and the others are looked at one by one.
use mathlib.Core.Path.{sym, ◌∙◌}
use Rattle.model.specs.Layout.{gib_blocks}
use Rattle.table.specs.Board.{frame_of}
use Rattle.scan.proofs.FlatEntries.{flat_run}
use Rattle.sound.proofs.gib.Goals as goal

pub returns-then-all_flat : goal.returns-then-all_flat
returns-then-all_flat c =
    let a = c.args in
    sym (flat_run (frame_of a.f a.words.now) a.words.now a.at gib_blocks 0 a.free.now (sym c.all_flat.ensures ∙ c.if-all_flat.true))
