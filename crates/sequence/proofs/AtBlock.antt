-- An edit between two of its blocks: those below b are done, and what the memory as it stands has of the blocks ahead is what the edit found. So
-- their forms, their stores and their new pages are the same from both.
use Rattle.std.specs.Prelude.{if◌then◌else◌, Option, Result, Ok, Err}
use mathlib.Core.Path.{◌≡◌, refl, sym, ap, ap₂, ◌∙◌}
use mathlib.Core.Bool.{Bool}
use mathlib.Core.Logic.{⊎_elim}
use mathlib.Core.List.{List, [], ◌++◌, head_d, tail}
use Prim.Native.Nat.{ℕ, zero, suc, ◌+◌, ◌*◌, ◌/◌, ◌≤◌, ◌<◌}
use native.Mathlib.Omega.{arith}
use lib.ListN.{length, drop}
use Rattle.laws.proofs.Choices.{split}
use Rattle.laws.proofs.Times.{times}
use Rattle.model.specs.Entry.{Entry, perm}
use Rattle.model.specs.Forms.{Request, Form, in_range, after, form_in, forms_in, gib_first, gib_is_one, forms, first_gib, gibs}
use Rattle.model.specs.Frame.{Frame, blocks, space}
use Rattle.model.specs.Layout.{gib_blocks}
use Rattle.model.specs.Stores.{Store, block_stores, needs_page, stores_from, new_pages}
use Rattle.model.specs.Walk.{entry_at, walk}
use Rattle.theory.proofs.Finds.{after_outside, after_inside}
use Rattle.theory.proofs.Forms.{forms_fit, forms_all, forms_length, same_form, same_gib, same_first}
use Rattle.theory.proofs.OneCall.{At, at_start}
use Rattle.theory.proofs.Plans.{AllAt, FitsAll, PlannedCall}
use Rattle.theory.proofs.Walks.{entry_word}
use Rattle.types.specs.declared.Budget.{Budget}
use Rattle.shapes.specs.Blocks.{GibIs, has_one, one_of, form_in_gib, form_of_block, stores_in_gib, stores_over, pages_over}
use Rattle.shapes.specs.Rooted.{Rooted}
use Rattle.shapes.proofs.Order.{Remaining, remaining_start}
use Rattle.shapes.proofs.PageLaws.{stores_same}
use Rattle.shapes.proofs.SoundRoots.{sound_rooted}
use Rattle.sequence.specs.Prepared.{whole_list}
use Rattle.sequence.proofs.Facts.{Facts}

module _ {F : Frame} {m0 : List ℕ} {q : Request} {root : ℕ} {free : List ℕ} (k : Facts F m0 q root free) where
  abbrev B₀ : ℕ
  B₀ = first_gib q * gib_blocks

  abbrev fs₀ : List Form
  fs₀ = forms F m0 q root

  pub forms_count : length fs₀ ≡ gibs q * gib_blocks
  forms_count = forms_length F k.ok q k.low root m0

  pub within : B₀ + length fs₀ ≤ blocks F
  within = omega (arith, forms_count, k.inside)

  -- the call, as the theory sees it
  abbrev pub call_here : PlannedCall
  call_here = record { F = F; ok = k.ok; rs = k.rs; ro = root; here = k.here; q = q; low = k.low; m0 = m0; b0 = B₀; fs = fs₀; inside = within }

  pub record AtBlock (limit : Budget) (m : List ℕ) (b next : ℕ) (left : Budget) : Type 0 where
    pub pre : List Form
    pub post : List Form
    pub parts : fs₀ ≡ pre ++ post
    pub at : b ≡ B₀ + length pre
    pub fits : FitsAll F (after F m0 q root) b post
    pub named : AllAt (λ c fm. fm ≡ form_of_block F m0 q root c) b post
    pub here : At call_here m b post (drop next free)
    pub taken : next ≤ length free
    pub remaining : Remaining limit m0 (whole_list F m0 q root free) left m (stores_from F m0 q root b post (drop next free))

  pub at_block_start : (limit : Budget) → AtBlock limit m0 B₀ 0 limit
  at_block_start limit =
      record {
        pre = [];
        post = fs₀;
        parts = refl;
        at = omega arith;
        fits = forms_fit F k.ok q k.low root m0;
        named = forms_all F k.ok q k.low root m0 (λ c fm. fm ≡ form_of_block F m0 q root c)
            (λ g c lo hi l u. let z : g ≡ c / gib_blocks = omega arith in
            ap (λ (x : ℕ). form_in F m0 q (gib_is_one F m0 q root x (gib_first F m0 q root x)) (gib_first F m0 q root x) (entry_at F m0 root c) c) z);
        here = at_start call_here k.sound (forms_fit F k.ok q k.low root m0) free k.unused k.once k.room;
        taken = omega arith;
        remaining = remaining_start refl k.start;
      }

module _ {F : Frame} {m0 : List ℕ} {q : Request} {root : ℕ} {free : List ℕ} {k : Facts F m0 q root free} {limit : Budget}
    {m : List ℕ} {b next : ℕ} {left : Budget} (s : AtBlock k limit m b next left) where
  -- ---- the memory as it stands

  pub size : length m ≡ length m0
  size = s.here.step.sound.size ∙ sym k.sound.size

  lr : 0 < times root k.rs
  lr = omega (arith, k.here)

  pub rooted : Rooted F m root
  rooted = sound_rooted F k.ok k.rs m s.here.step.sound root lr

  perm_inj : (x y : ℕ) → perm x ≡ perm y → x ≡ y
  perm_inj x y e = cc

  after_same : (n : ℕ) → n < space F → after F m q root n ≡ after F m0 q root n
  after_same n u =
      split (in_range q n)
      (λ z. after_inside F k.ok m q root n z ∙ sym (after_inside F k.ok m0 q root n z))
      (λ z.
      let x : walk F m root n ≡ perm (after F m q root n) = after_outside F k.ok k.rs m s.here.step.sound q root n lr u z in
      let y : walk F m0 root n ≡ perm (after F m0 q root n) = after_outside F k.ok k.rs m0 k.sound q root n lr u z in
      perm_inj _ _ (sym x ∙ ⊎_elim (λ e. e ∙ y) (λ e. e.1) (s.here.step.reads root n lr u)))

  -- what is said of a GiB's one permission is so of both memories
  module _ (g : ℕ) (u : g * gib_blocks + gib_blocks ≤ blocks F) where
    first_same : gib_first F m q root g ≡ gib_first F m0 q root g
    first_same = same_first F k.ok q k.low root m0 m after_same g u

    one_same : (p : ℕ) → gib_is_one F m q root g p ≡ gib_is_one F m0 q root g p
    one_same p = same_gib F k.ok q k.low root m0 m after_same g p u

    pub gib_same : (gib : Result ℕ ℕ) → GibIs F m0 q root g gib → GibIs F m q root g gib
    gib_same (Ok p) h = (h.0 ∙ sym first_same, one_same p ∙ h.1, h.2)
    gib_same (Err p) h = (h.0 ∙ sym first_same, one_same p ∙ h.1, h.2)

    pub gib_back : (gib : Result ℕ ℕ) → GibIs F m q root g gib → GibIs F m0 q root g gib
    gib_back (Ok p) h = (h.0 ∙ first_same, sym (one_same p) ∙ h.1, h.2)
    gib_back (Err p) h = (h.0 ∙ first_same, sym (one_same p) ∙ h.1, h.2)

  -- ---- the blocks ahead

  module _ (gib : Option ℕ) where
    module _ (c : ℕ) (lo : b ≤ c) (hi : c < blocks F) where
      entry_over : entry_at F m root c ≡ entry_at F m0 root c
      entry_over = entry_word F m0 m root c (s.here.ahead c lo hi)

      form_over : form_in_gib F m q root gib c ≡ form_in_gib F m0 q root gib c
      form_over = same_form F k.ok q k.low root m0 m after_same (has_one gib) (one_of gib) c hi

      stores_over_lem : (new : ℕ) → stores_in_gib F m q root gib c new ≡ stores_in_gib F m0 q root gib c new
      stores_over_lem new =
          ap₂ (λ (x : Form) (y : Entry). block_stores F m q root x y c new) form_over entry_over
          ∙ stores_same F q c m0 m k.shape root (s.here.ahead c lo hi) (form_in_gib F m0 q root gib c) (entry_at F m0 root c) new (λ t i z h. s.here.ahead_l1 c t i lo hi z h)

      pub need_over : needs_page (form_in_gib F m q root gib c) (entry_at F m root c) ≡ needs_page (form_in_gib F m0 q root gib c) (entry_at F m0 root c)
      need_over = ap₂ (λ (x : Form) (y : Entry). needs_page x y) form_over entry_over

    pub over_same : (n c : ℕ) (fr : List ℕ) → b ≤ c → c + n ≤ blocks F → stores_over F m q root gib n c fr ≡ stores_over F m0 q root gib n c fr
    unfolding stores_from forms_in
    over_same zero c fr lo hi = refl
    over_same (suc n) c fr lo hi =
        ap₂ (λ (x y : List Store). x ++ y) (stores_over_lem c lo (omega arith) (head_d fr 0))
        (ap (λ (x : Bool). stores_over F m q root gib n (suc c) (if x then tail fr else fr)) (need_over c lo (omega arith))
        ∙ over_same n (suc c) (if needs_page (form_in_gib F m0 q root gib c) (entry_at F m0 root c) then tail fr else fr) (omega arith) (omega arith))

    pub pages_same : (n c : ℕ) → b ≤ c → c + n ≤ blocks F → pages_over F m q root gib n c ≡ pages_over F m0 q root gib n c
    unfolding new_pages forms_in
    pages_same zero c lo hi = refl
    pages_same (suc n) c lo hi =
        ap₂ (λ (x : Bool) (y : ℕ). (if x then 1 else 0) + y) (need_over c lo (omega arith)) (pages_same n (suc c) (omega arith) (omega arith))
