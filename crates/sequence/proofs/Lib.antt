--   CountAndFence   from the stores that were made to the answer
--   Facts           what is known of an accepted edit
--   AtBlock         an edit between two of its blocks
--   NextBlock       one more block
--   GibBlockLaws    several blocks of one GiB
--   LoopInvariant   the loop over the blocks, in the code's words
pub mod CountAndFence
pub mod Facts
pub mod AtBlock
pub mod NextBlock
pub mod GibBlockLaws
pub mod LoopInvariant
