-- `table::word::decode` meets its contract: TYPE and INFO decide, and each branch is one law of decoded words.
use native.Mathlib.Omega.{arith}
use lib.Dec.{lit<}
use Rattle.table.specs.Board.{board}
use Rattle.laws.proofs.Decoded.{flat_word_lem, not_flat, table_word, pieces_word, not_pieces, no_type}
use Rattle.table.proofs.word.decode.Goals as goal

pub returns-then-info-eq0 : goal.returns-then-info-eq0
returns-then-info-eq0 c = (flat_word_lem board _ (omega arith) (omega arith), omega arith)

pub returns-then-kind-lt-PERMISSIONS : goal.returns-then-kind-lt-PERMISSIONS
returns-then-kind-lt-PERMISSIONS c = (not_flat board _ (omega arith) (λ e. omega (arith, e)), tt)

pub returns-then-kind-eq-TABLE_TYPE : goal.returns-then-kind-eq-TABLE_TYPE
returns-then-kind-eq-TABLE_TYPE c = (table_word board _ (omega arith), omega arith)

pub returns-then-info-lt-PIECE_INFO : goal.returns-then-info-lt-PIECE_INFO
returns-then-info-lt-PIECE_INFO c = (pieces_word board _ (lit< tt) (lit< tt) (omega arith) (omega arith), omega arith)

pub returns-else-info-lt-PIECE_INFO : goal.returns-else-info-lt-PIECE_INFO
returns-else-info-lt-PIECE_INFO c = (not_pieces board _ (lit< tt) (lit< tt) (omega arith) (omega arith), tt)

pub returns-else-kind-eq-PIECE_TYPE : goal.returns-else-kind-eq-PIECE_TYPE
returns-else-kind-eq-PIECE_TYPE c = (no_type board _ (omega arith) (λ e. omega (arith, e)), tt)
