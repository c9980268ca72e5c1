-- Pages in use are lent, so that their places among the lent tell them apart, and the marks that are left say which pages are not in use.
use mathlib.Core.Path.{◌≡◌, refl, sym, ap, ap₂, ◌∙◌}
use mathlib.Core.Bool.{Bool, true, false, ◌&&◌, ◌||◌, not}
use mathlib.Core.List.{List, [], ◌∷◌, map}
use Prim.Native.Nat.{ℕ, zero, suc, ◌-◌, ◌≤◌, ◌<◌}
use native.Mathlib.Omega.{arith}
use lib.Dec.{eqb, ltb}
use borrow.Author.Tests.{eq-eqb, ne_eqb, eqb-true, eqb-false, lt-ltb}
use Rattle.model.specs.Numbers.{every, joined, each, member, distinct}
use Rattle.model.specs.Entry.{Entry, flat, pieces, table, invalid}
use Rattle.model.specs.Frame.{Frame, blocks, lent}
use Rattle.model.specs.Walk.{root_pages, entry_at}
use Rattle.model.specs.Sound.{link_of, links_in, used, clean_page, sound_entry, sound_root}
use Rattle.laws.proofs.Choices.{and_true, and-alone}
use Rattle.laws.proofs.Every.{every_step}
use Rattle.laws.proofs.Lists.{each_step, each_append, member_step, distinct_step}
use Rattle.laws.proofs.FrameNumbers.{lent_in}
use Rattle.marks.specs.Marks.{mark_at, all_marks}
use Rattle.marks.proofs.Laws.{all_stand}
use Rattle.scan.proofs.Claims.{unmark_all, stands_after}

-- each member of joined lists passes, if each list's members do where its number passes
joined_each : (test guard : ℕ → Bool) (f : ℕ → List ℕ) → ((b : ℕ) → guard b ≡ true → each test (f b) ≡ true)
    → (n s : ℕ) → every guard n s ≡ true → each test (joined f n s) ≡ true
unfolding joined each
joined_each test guard f law zero s h = refl
joined_each test guard f law (suc n) s h =
    let k = and_true (guard s) (every guard n (suc s)) (sym (every_step guard n s) ∙ h) in
    each_append test (f s) (joined f n (suc s)) ∙ ap₂ ◌&&◌ (law s k.0) (joined_each test guard f law n (suc s) k.1)

module _ (F : Frame) where
  -- a page's place among the lent
  abbrev pub place : ℕ → ℕ
  place page = page - F.first

  -- ---- every page in use is lent

  module _ (m : List ℕ) where
    link_lent : (e : Entry) → sound_entry F m e ≡ true → each (lent F) (link_of e) ≡ true
    unfolding sound_entry link_of each
    link_lent (flat p) h = refl
    link_lent (pieces info) h = refl
    link_lent (table page) h = each_step (lent F) page [] ∙ and-alone (lent F page) ∙ (and_true (lent F page) (clean_page F m page) h).0
    link_lent invalid h = refl

    pub used_lent : (rs : List ℕ) → each (sound_root F m) rs ≡ true → each (lent F) (used F m rs) ≡ true
    unfolding each used sound_root links_in
    used_lent [] h = refl
    used_lent (root ∷ rs) h =
        let k = and_true (sound_root F m root) (each (sound_root F m) rs) (sym (each_step (sound_root F m) root rs) ∙ h) in
        let r = and_true (each (lent F) (root_pages F root)) (every (λ b. sound_entry F m (entry_at F m root b)) (blocks F) 0) k.0 in
        each_append (lent F) (root_pages F root) _
        ∙ ap₂ ◌&&◌ r.0
        (each_append (lent F) (links_in F m root) (used F m rs)
        ∙ ap₂ ◌&&◌
        (joined_each (lent F) (λ b. sound_entry F m (entry_at F m root b)) (λ b. link_of (entry_at F m root b)) (λ b g. link_lent (entry_at F m root b) g) (blocks F) 0 r.1)
        (used_lent rs k.1))

  -- ---- and so its place tells it from the others

  place_eqb : (p q : ℕ) → lent F p ≡ true → lent F q ≡ true → eqb (place p) (place q) ≡ eqb p q
  place_eqb p q hp hq = go (eqb p q) refl
    where
      go : (t : Bool) → eqb p q ≡ t → eqb (place p) (place q) ≡ t
      go true e = eq-eqb (place p) (place q) (ap place (eqb-true p q e))
      go false e = ne_eqb (place p) (place q) (λ s. eqb-false p q e (omega (arith, (lent_in F p hp).0, (lent_in F q hq).0)))

  place_member : (p : ℕ) (qs : List ℕ) → lent F p ≡ true → each (lent F) qs ≡ true → member (place p) (map place qs) ≡ member p qs
  unfolding member each
  place_member p [] hp h = refl
  place_member p (q ∷ qs) hp h =
      let k = and_true (lent F q) (each (lent F) qs) (sym (each_step (lent F) q qs) ∙ h) in
      member_step (place p) (place q) (map place qs)
      ∙ ap₂ ◌||◌ (place_eqb p q hp k.0) (place_member p qs hp k.1)
      ∙ sym (member_step p q qs)

  pub place_distinct : (ps : List ℕ) → each (lent F) ps ≡ true → distinct (map place ps) ≡ distinct ps
  unfolding distinct each
  place_distinct [] h = refl
  place_distinct (p ∷ ps) h =
      let k = and_true (lent F p) (each (lent F) ps) (sym (each_step (lent F) p ps) ∙ h) in
      distinct_step (place p) (map place ps)
      ∙ ap₂ ◌&&◌ (ap not (place_member p ps k.0 k.1)) (place_distinct ps k.1)
      ∙ sym (distinct_step p ps)

  module _ (few : F.pages ≤ 256) where
    place_low : (p : ℕ) → lent F p ≡ true → place p < 256
    place_low p h = let b = lent_in F p h in omega arith

    pub places_low : (ps : List ℕ) → each (lent F) ps ≡ true → each (λ i. ltb i 256) (map place ps) ≡ true
    unfolding each
    places_low [] h = refl
    places_low (p ∷ ps) h =
        let k = and_true (lent F p) (each (lent F) ps) (sym (each_step (lent F) p ps) ∙ h) in
        each_step (λ i. ltb i 256) (place p) (map place ps) ∙ ap₂ ◌&&◌ (lt-ltb (place p) 256 (place_low p k.0)) (places_low ps k.1)

    -- ---- and what stands once their marks are taken away is the mark of every other lent page

    pub stands_unless_used : (p : ℕ) → lent F p ≡ true → (ps : List ℕ) → each (lent F) ps ≡ true
        → mark_at (unmark_all all_marks (map place ps)) (place p) ≡ not (member p ps)
    stands_unless_used p hp ps h =
        stands_after (map place ps) all_marks (place p)
        ∙ ap₂ (λ (a b : Bool). not a && b) (place_member p ps hp h) (all_stand (place p) (place_low p hp))
        ∙ and-alone (not (member p ps))
