-- `edit::block::store_block` meets its contract: the finished form says which stores there are: that of the entry, if it changes, or those of the
-- L1 page.
use Rattle.model.specs.Entry.{encode}
use Rattle.model.specs.Stores.{block_stores}
use Rattle.edit.proofs.block.store_block.Goals as goal

pub put_entry-requires : goal.put_entry-requires
unfolding block_stores encode
put_entry-requires c =
    (c.args.block.inside, c.requires.1, rw c.narrow.ensures (rw c.in-Flat.is at c.requires.4))

pub put_entry-requires-in-Pieces : goal.put_entry-requires-in-Pieces
unfolding block_stores encode
put_entry-requires-in-Pieces c =
    (c.args.block.inside, c.requires.1, rw c.narrow-in-Pieces.ensures (rw c.in-Pieces.is at c.requires.4))

pub returns-in-Flat : goal.returns-in-Flat
unfolding block_stores encode
returns-in-Flat c = rw c.in-Flat.is (rw c.narrow.ensures at c.put_entry.ensures)

pub returns-in-Pieces : goal.returns-in-Pieces
unfolding block_stores encode
returns-in-Pieces c = rw c.in-Pieces.is (rw c.narrow-in-Pieces.ensures at c.put_entry-in-Pieces.ensures)
