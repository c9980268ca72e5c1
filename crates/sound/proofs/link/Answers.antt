-- `sound::link` meets its contract: the page was claimed, so it is lent, and its words are those that `clean` reads.
use mathlib.Core.Path.{ap, ◌∙◌}
use mathlib.Core.Bool.{Bool}
use Rattle.table.specs.Board.{board}
use Rattle.model.specs.Entry as entry
use Rattle.model.specs.Sound.{clean_page}
use Rattle.laws.proofs.Every.{every_cong}
use Rattle.laws.proofs.FrameNumbers.{word_at_lem}
use Rattle.scan.specs.Scan.{scanned, link_step}
use Rattle.scan.proofs.Loops.{claimed_lent}
use Rattle.sound.proofs.link.Goals as goal

pub page_at-requires : goal.page_at-requires
page_at-requires c = claimed_lent _ _ _ (rw c.if-claim.true at c.claim.ensures)

pub returns-then-claim : goal.returns-then-claim
unfolding link_step clean_page
returns-then-claim c = rw (← c.claim.ensures, c.if-claim.true)
    (ap (λ (r : Bool). scanned r c.claim.new.free)
    (c.clean.ensures ∙ every_cong _ _ board.words 0 (λ i l u. ap (entry.clean board) (word_at_lem _ _ _ i _ c.page_at.ensures.0))))

pub returns : goal.returns
unfolding link_step
returns c = rw (← c.claim.ensures, c.if-claim.false)
