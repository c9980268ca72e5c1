-- `sound::admit` meets its contract: each return is one of the laws of `Admissions`, by the passes so far.
use mathlib.Core.Path.{sym}
use native.Mathlib.Omega.{arith}
use Rattle.laws.proofs.FrameNumbers.{framed}
use Rattle.scan.proofs.Admissions.{frame_fails, registers_fail, tables_fail, both_pass}
use Rattle.sound.proofs.admit.Goals as goal

pub returns-then-not-frame_ok : goal.returns-then-not-frame_ok
returns-then-not-frame_ok c = frame_fails _ _ _ (omega arith) c.if-not-frame_ok.ensures

pub returns-then-not-registers : goal.returns-then-not-registers
returns-then-not-registers c = registers_fail _ _ _ (omega arith) c.if-not-frame_ok.ensures c.all_marks-sdids.ensures c.if-not-registers.ensures

pub tables-requires : goal.tables-requires
tables-requires c = (framed _ _ (sym c.if-not-frame_ok.ensures)).0

pub returns-then-not-tables : goal.returns-then-not-tables
returns-then-not-tables c =
    tables_fail _ _ _ (omega arith) c.if-not-frame_ok.ensures c.all_marks-sdids.ensures c.if-not-registers.ensures c.all_marks.ensures c.if-not-tables.ensures

pub returns : goal.returns
returns c =
    both_pass _ _ _ (omega arith) c.if-not-frame_ok.ensures c.all_marks-sdids.ensures c.if-not-registers.ensures c.all_marks.ensures c.if-not-tables.ensures
