-- `forms::blocks::pieces_form` meets its contract: the pieces so far, from the highest down, are the digits of the form; the first that is mixed decides.
use mathlib.Core.Path.{◌≡◌, refl, ap, ◌∙◌}
use mathlib.Core.Bool.{Bool, true}
use Prim.Native.Nat.{ℕ, suc, ◌+◌, ◌-◌, ◌*◌, ◌≤◌, ◌<◌}
use native.Mathlib.Omega.{arith}
use Rattle.laws.proofs.Choices.{and_both}
use Rattle.laws.proofs.Every.{every_step}
use Rattle.table.specs.Board.{PIECES, PIECE-PAGES, PIECE-INFO, frame_of}
use Rattle.forms.proofs.BoardShape.{board_shape}
use Rattle.shapes.proofs.FormLaws.{first_of, form_pieces, form_table}
use Rattle.shapes.proofs.Fields.{every_fail, pack_fits}
use Rattle.shapes.proofs.EntryLaws.{after_small}
use Rattle.model.specs.Forms.{want_pieces}
use Rattle.model.specs.Numbers.{pack, every}
use Rattle.types.specs.Views.{entry_of, request_of}
use Rattle.forms.proofs.blocks.pieces_form.Goals as goal
use Rattle.forms.proofs.blocks.pieces_form.Goals.{In-Ok}

-- one piece more, the one below those from i on
module _ (n i : ℕ) (pos : 0 < i) (h : i ≤ n) where
  one_more : n - (i - 1) ≡ suc (n - i)
  one_more = omega arith

  above : suc (i - 1) ≡ i
  above = omega arith

  next_digit : (f : ℕ → ℕ) (word x : ℕ) → word ≡ pack 4 f (n - i) i → x ≡ f (i - 1) → x + 4 * word ≡ pack 4 f (n - (i - 1)) (i - 1)
  unfolding pack
  next_digit f word x e z = rw (e, z, one_more, above)

  next_every : (t : ℕ → Bool) → every t (n - i) i ≡ true → t (i - 1) ≡ true → every t (n - (i - 1)) (i - 1) ≡ true
  next_every t e z = rw one_more (every_step t (n - i) (i - 1) ∙ and_both z (rw above e))

next_info : (c : In-Ok) → let a = c.args in
    c.in-Ok.p + 4 * c.loop-i.info ≡ pack 4 (first_of (frame_of a.edit.f a.words.now) a.words.now (request_of a.edit.q) (entry_of a.block.e) a.block.b) (PIECES - (c.loop-i.i - 1)) (c.loop-i.i - 1)
next_info c = next_digit PIECES c.loop-i.i c.loop-i-test.true c.loop-i.auto.i _ _ _ c.loop-i.invariant.0 c.in-Ok.ensures.0

next_fits : (c : In-Ok) → c.in-Ok.p + 4 * c.loop-i.info < PIECE-INFO
next_fits c =
    rw (next_info c)
    (pack_fits 4 _ (λ k. after_small _ board_shape _ _ c.args.edit.fair.small _ c.requires (c.args.block.b * 8192 + k * PIECE-PAGES)) PIECES (PIECES - (c.loop-i.i - 1)) _ (omega arith))

pub loop-i-init : goal.loop-i-init
unfolding pack every
loop-i-init c = (refl, refl)

pub returns-in_default : goal.returns-in_default
returns-in_default c = form_table _ _ _ _ _ (every_fail _ PIECES (c.loop-i.i - 1) (omega arith) (rw c.in_default.ensures.0 at c.in_default.ensures.1))

pub overflow_mul-info : goal.overflow_mul-info
overflow_mul-info c = record { fits = omega (arith, next_fits c) }

pub overflow_add-info : goal.overflow_add-info
overflow_add-info c = record { fits = omega (arith, next_fits c) }

pub loop-i-preserved : goal.loop-i-preserved
loop-i-preserved c =
    (next_info c, next_every PIECES c.loop-i.i c.loop-i-test.true c.loop-i.auto.i _ c.loop-i.invariant.1 (rw c.in-Ok.ensures.0 at c.in-Ok.ensures.1))

pub returns : goal.returns
returns c =
    let z : c.loop-i.i ≡ 0 = omega arith in
    ap want_pieces (rw z at c.loop-i.invariant.0) ∙ form_pieces _ _ _ _ _ (rw z at c.loop-i.invariant.1)
