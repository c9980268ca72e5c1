-- From a sound table, once, to what the code's contracts use: each root is `Rooted`, each entry `Good`.
use mathlib.Core.Path.{◌≡◌, refl, sym, ap, ◌∙◌}
use mathlib.Core.Bool.{true≢false}
use mathlib.Core.List.{List}
use Prim.Native.Nat.{ℕ, ◌<◌}
use Rattle.model.specs.Entry.{Entry, flat, invalid, pieces, table}
use Rattle.model.specs.Frame.{Frame, blocks}
use Rattle.model.specs.Walk.{entry_at, entry_page}
use Rattle.laws.proofs.Times.{times}
use Rattle.shapes.specs.Rooted.{Good, Rooted}
use Rattle.theory.proofs.Entries.{Small}
use Rattle.theory.proofs.Frames.{Ok, blocks_pos, blocks_few}
use Rattle.theory.proofs.Tables.{Sound, link_in}
use Rattle.theory.proofs.Used.{passes}
use Rattle.theory.proofs.Finds.{entry_small}
use Rattle.theory.proofs.OneStore.{root_lent}

module _ (F : Frame) (ok : Ok F) (rs m : List ℕ) (s : Sound F rs m) where
  good_of : (r b : ℕ) → 0 < times r rs → b < blocks F → (e : Entry) → entry_at F m r b ≡ e → Small F.layout ok.lawful e → Good F m e
  unfolding passes
  good_of r b l u (flat p) z h = h
  good_of r b l u (pieces i) z h = h
  good_of r b l u (table t) z h =
      let k = link_in F rs m r b t l u z in
      (s.links_lent t k, λ i v. s.links_clean t i k v)
  good_of r b l u invalid z h = absurd (true≢false (sym (s.pass r b l u) ∙ ap passes z))

  pub sound_good : (r b : ℕ) → 0 < times r rs → b < blocks F → Good F m (entry_at F m r b)
  sound_good r b l u = good_of r b l u (entry_at F m r b) refl (entry_small F ok m r b)

  pub sound_rooted : (r : ℕ) → 0 < times r rs → Rooted F m r
  unfolding entry_page
  sound_rooted r l =
      record {
        is_lent = root_lent F ok rs m s r 0 l (blocks_pos F ok);
        few = blocks_few F ok;
        good = λ b u. sound_good r b l u;
      }
