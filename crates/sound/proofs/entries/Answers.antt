-- `sound::entries` meets its contract: the invariant: the entries that are left, from the marks so far, decide the whole.
use mathlib.Core.Path.{◌≡◌, sym, ap, ◌∙◌}
use Rattle.model.specs.Entry.{decode}
use Rattle.table.specs.Board.{board, frame_of}
use Rattle.scan.specs.Scan.{scanned, entry_step, word_step}
use Rattle.scan.proofs.Loops.{run_on, run_stopped, run_ended, part_word, part_end}
use Rattle.sound.proofs.entries.Goals as goal
use Rattle.sound.proofs.entries.Goals.{After-entry}

-- what the entry at hand says
said : (c : After-entry) → let a = c.args in let m = a.words.now in
    scanned c.entry.result c.entry.new.free ≡ word_step (frame_of a.f m) m a.start c.loop-word.free c.loop-word.word-index
said c =
    let a = c.args in
    c.entry.ensures
    ∙ ap (entry_step _ _ _) (c.decode.ensures.0 ∙ ap (decode board) (part_word a.words.now a.start a.end (c.requires.1, c.requires.2) _ c.loop-word-test.true).1)

pub returns-then-not-entry : goal.returns-then-not-entry
returns-then-not-entry c =
    let a = c.args in
    let l = part_word a.words.now a.start a.end (c.requires.1, c.requires.2) _ c.loop-word-test.true in
    sym (c.loop-word.invariant ∙ run_stopped _ _ _ _ l.0 (rw c.if-not-entry.true at (said (goal.at.returns-then-not-entry c).After-entry)))

pub loop-word-preserved : goal.loop-word-preserved
loop-word-preserved c =
    let a = c.args in
    let l = part_word a.words.now a.start a.end (c.requires.1, c.requires.2) _ c.loop-word-test.true in
    c.loop-word.invariant ∙ run_on _ _ _ _ l.0 (rw c.if-not-entry.false at (said (goal.at.loop-word-preserved c).After-entry))

pub returns : goal.returns
returns c =
    let a = c.args in
    sym (c.loop-word.invariant ∙ run_ended _ _ _ _ (part_end a.words.now a.start a.end (c.requires.1, c.requires.2) _ c.loop-word-test.false))
