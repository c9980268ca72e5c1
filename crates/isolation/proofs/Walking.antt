-- The same words in the table pages give every domain the same walk, and so the same lookups: a walk reads its root and a page that an entry of
-- the root names, and these are table pages.
use mathlib.Core.Path.{◌≡◌, sym, ◌∙◌}
use mathlib.Core.Bool.{Bool, true}
use mathlib.Core.List.Memᴰ
use mathlib.Core.List.{List, [], ◌∷◌, Memᴰ}
use mathlib.Core.Logic.{⊎_elim}
use Prim.Native.Nat.{ℕ, ◌≤◌, ◌<◌}
use native.Mathlib.Omega.{arith}
use lib.Dec.{ltb}
use lib.ListN.{length}
use borrow.Author.Tests.{eqb-true, ltb-true, ltb-false}
use Rattle.model.specs.Numbers.{each}
use Rattle.model.specs.Register.{ppn_of, mode_of, register_ok, is_bare}
use Rattle.model.specs.Frame.{Frame, page_of, frame_ok, blocks, space}
use Rattle.model.specs.Walk.{walk, l2_word, entry_page, entry_place, pn1, pn2}
use Rattle.model.specs.Access.{Kind}
use Rattle.model.specs.Lookup.{reads, lookup, supervisor, is_machine}
use Rattle.model.specs.Sound.{Slot, open_registers, roots, sound, sound_slots, sound_register, sound_table}
use Rattle.model.specs.Demands.{Domain}
use Rattle.laws.proofs.Choices.{split, and_true}
use Rattle.laws.proofs.Lists.{each_step}
use Rattle.laws.proofs.Times.{times}
use Rattle.theory.proofs.Entries.{Lawful}
use Rattle.theory.proofs.Frames.{Ok, frame_ok_lem, pn1_lt, pn2_lt}
use Rattle.theory.proofs.Roots.{page_of_lem, place_lt}
use Rattle.theory.proofs.Tables.{link_in}
use Rattle.theory.proofs.TablePages.{in_use}
use Rattle.theory.proofs.Walks.{entry_word, walk_same, outside_space}
use Rattle.theory.proofs.Domains.{domain_root, same_read}
use Rattle.isolation.specs.Neighbours.{SameTable}

-- what each member of a list passes
pub each_mem : (test : ℕ → Bool) (r : ℕ) (l : List ℕ) → each test l ≡ true → Memᴰ r l → test r ≡ true
each_mem test r [] h k = absurd (Memᴰ.not-nil k)
each_mem test r (x ∷ xs) h k =
    let both = and_true (test x) (each test xs) (sym (each_step test x xs) ∙ h) in
    ⊎_elim (λ e. rw e both.0) (λ k'. each_mem test r xs both.1 k') (Memᴰ.cases_cons k)

module _ (F : Frame) (lawful : Lawful F.layout) (slots : List Slot) (m : List ℕ) (frame : frame_ok F m ≡ true) (good : sound F m slots ≡ true) where
  abbrev rs : List ℕ
  rs = roots F slots

  ok : Ok F
  ok = (frame_ok_lem F m lawful frame).0

  -- a domain's register is Smmpt, so that a lookup of it outside M mode is what the walk answers
  mode_one : (r : ℕ) → Domain F slots r → mode_of F.layout r ≡ 1
  unfolding sound sound_slots sound_register
  mode_one r d =
      let registers = (and_true (each (sound_register F) (open_registers slots)) _ (and_true (sound_slots F slots) (sound_table F m rs) good).0).0 in
      eqb-true (mode_of F.layout r) 1 (and_true _ _ (each_mem (sound_register F) r (open_registers slots) registers d)).0

  module _ (m' : List ℕ) (size : length m' ≡ length m) (same : SameTable F slots m m') where
    l2_kept : (p b : ℕ) → 0 < times p rs → b < blocks F → l2_word F m' p b ≡ l2_word F m p b
    unfolding l2_word
    l2_kept p b l u = same (entry_page F p b) (entry_place F b) (in_use F lawful slots m frame good (entry_page F p b) (omega (arith, page_of_lem F ok rs p b l u))) (place_lt F ok b u)

    pub walk_kept : (r page : ℕ) → Domain F slots r → walk F m' (ppn_of F.layout r) page ≡ walk F m (ppn_of F.layout r) page
    walk_kept r page d =
        let p : ℕ = ppn_of F.layout r in
        let l : 0 < times p rs = domain_root F slots r d in
        split (ltb page (space F))
        (λ q. let u : page < space F = ltb-true page (space F) q in
        let b : pn2 page < blocks F = pn2_lt F ok page u in
        walk_same F m m' p page u
        (entry_word F m m' p (pn2 page) (l2_kept p (pn2 page) l b))
        (λ t e. same t (pn1 F.layout page) (in_use F lawful slots m frame good t (omega (arith, link_in F rs m p (pn2 page) t l b e))) (pn1_lt F ok page)))
        (λ q. let u : space F ≤ page = ltb-false page (space F) q in outside_space F m' p page u ∙ sym (outside_space F m p page u))

    frame_kept : frame_ok F m' ≡ true
    unfolding frame_ok
    frame_kept = rw size frame

    pub lookup_reads : (r address : ℕ) (kind : Kind) → Domain F slots r → lookup F m' r supervisor address kind ≡ reads F m r address kind
    unfolding lookup register_ok is_bare is_machine
    lookup_reads r address kind d =
        rw (frame_kept, mode_one r d) (same_read F slots m' m r address (walk_kept r (page_of address) d) kind)
