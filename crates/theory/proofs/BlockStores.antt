-- The stores of one block, computed from the memory that the call found and made from the one that stands: each keeps the plan's step,
-- and after them the block is done.
use mathlib.Core.Path.{◌≡◌, refl, sym, ap, ap₂, ◌∙◌, subst}
use mathlib.Core.Bool.{true}
use mathlib.Core.List.{List, []}
use Prim.Native.Nat.{ℕ, suc, ◌+◌, ◌<◌}
use Rattle.model.specs.Numbers.{digit}
use Rattle.model.specs.Entry.{Entry, decode, encode, flat, invalid, perm, pieces, table}
use Rattle.model.specs.Frame.{Frame, lent, space, word_at}
use Rattle.model.specs.Walk.{entry_at, found, l2_word, piece_of, pn2}
use Rattle.model.specs.Sound.{link_of}
use Rattle.model.specs.Forms.{Form, l1_word, want_flat, want_pieces, want_table}
use Rattle.model.specs.Stores.{Store, apply, block_stores, if_changed_l2, link_table, needs_page, new_table, same_table}
use Rattle.model.specs.Demands.{IsForm}
use Rattle.laws.proofs.Times.{times}
use Rattle.theory.proofs.Used.{links, pages_of, passes}
use Rattle.theory.proofs.Entries.{decode_flat, decode_pieces}
use Rattle.theory.proofs.Tables.{Sound}
use Rattle.theory.proofs.Walks.{entry_word}
use Rattle.theory.proofs.Finds.{l1_wanted, wanted}
use Rattle.theory.proofs.Along.{Along}
use Rattle.theory.proofs.Plans.{PlannedCall, Fits, Spot, Step, need, plan_of}
use Rattle.theory.proofs.BlockEntry.{End, entry_block}
use Rattle.theory.proofs.BlockPage.{new_block, same_block}

-- ---- an entry that holds permissions

flat_facts : (p : ℕ) → (passes (flat p) ≡ true) × (link_of (flat p) ≡ []) × ((q : ℕ) → need (want_flat q) (flat p) ≡ 0)
unfolding passes link_of need needs_page
flat_facts p = (refl, refl, λ q. refl)

pieces_facts : (p : ℕ) → (passes (pieces p) ≡ true) × (link_of (pieces p) ≡ []) × ((q : ℕ) → need (want_pieces q) (pieces p) ≡ 0)
unfolding passes link_of need needs_page
pieces_facts p = (refl, refl, λ q. refl)

flat_found : (F : Frame) (m : List ℕ) (p n : ℕ) → found F m (flat p) n ≡ perm p
unfolding found
flat_found F m p n = refl

pieces_found : (F : Frame) (m : List ℕ) (i n : ℕ) → found F m (pieces i) n ≡ perm (digit 4 i (piece_of F.layout n))
unfolding found
pieces_found F m i n = refl

-- ---- a block that the stores have not reached: memory m has it as m0 has, and page p is free if the block needs one

pub record Ready (C : PlannedCall) (B : Spot (plan_of C)) (m : List ℕ) (p : ℕ) : Type 0 where
  pub fit : Fits C.F (plan_of C).A B.b B.f
  pub sound : Sound C.F C.rs m
  pub same : l2_word C.F m C.ro B.b ≡ l2_word C.F C.m0 C.ro B.b
  pub same_l1 : (t i : ℕ) → entry_at C.F C.m0 C.ro B.b ≡ table t → i < C.F.layout.words → word_at C.F m t i ≡ word_at C.F C.m0 t i
  pub fresh :
      needs_page B.f (entry_at C.F C.m0 C.ro B.b) ≡ true
      → (lent C.F p ≡ true) × (times p (pages_of C.F C.rs) + times p (links C.F m C.rs) ≡ 0)

module _ (C : PlannedCall) (B : Spot (plan_of C)) (m : List ℕ) (p : ℕ) (k : Ready C B m p) where
  open C use {F, rs, ro, q, m0}
  open B use {b, f}

  abbrev A : ℕ → ℕ
  A = (plan_of C).A

  -- each store keeps the step, and after them the block is done, with page p or any other where none is needed
  abbrev pub Result : List Store → Type 0
  Result ss =
      Along (Step (plan_of C) b (suc b) m) ss m
      × ((x : ℕ) → (needs_page f (entry_at F m0 ro b) ≡ true → x ≡ p) → End (plan_of C) B x m (apply ss m))

  entry_same : entry_at F m ro b ≡ entry_at F m0 ro b
  entry_same = entry_word F m0 m ro b k.same

  wanted_at : (e : Entry) → entry_at F m0 ro b ≡ e → (i : ℕ) → i < F.layout.words → l1_word F m0 q e b i ≡ wanted F C.ok A b i
  wanted_at e z i h = ap (λ (x : Entry). l1_word F m0 q x b i) (sym z) ∙ l1_wanted F C.ok m0 q ro b i h

  -- the block is to hold permissions, as the entry e says
  plain_block : (e : Entry) → decode F.layout (encode F.layout e) ≡ e → passes e ≡ true → link_of e ≡ [] → IsForm f e → need f e ≡ 0
      → ((n : ℕ) → n < space F → pn2 n ≡ b → found F m e n ≡ perm (A n)) → Result (if_changed_l2 F m0 ro b (encode F.layout e))
  plain_block e dec passed plain form noNeed finds =
      let one : (x : ℕ) → Along (Step (plan_of C) b (suc b) m) (if_changed_l2 F m0 ro b (encode F.layout e)) m
      × End (plan_of C) B x m (apply (if_changed_l2 F m0 ro b (encode F.layout e)) m)
      = λ x. entry_block (plan_of C) B x (encode F.layout e) e m k.sound dec passed plain finds form noNeed m0 k.same in
      ((one p).0, λ x y. (one x).1)

  flat_block : (i : ℕ) → f ≡ want_flat i → Fits F A b (want_flat i) → Result (if_changed_l2 F m0 ro b (encode F.layout (flat i)))
  flat_block i z h =
      plain_block (flat i) (decode_flat F.layout C.ok.lawful i h.0) (flat_facts i).0 (flat_facts i).1
      (subst (λ (g : Form). IsForm g (flat i)) (sym z) refl) (ap (λ (g : Form). need g (flat i)) z ∙ (flat_facts i).2 i)
      (λ n u bb. flat_found F m i n ∙ ap perm (sym (h.1 n bb)))

  pieces_block : (i : ℕ) → f ≡ want_pieces i → Fits F A b (want_pieces i) → Result (if_changed_l2 F m0 ro b (encode F.layout (pieces i)))
  pieces_block i z h =
      plain_block (pieces i) (decode_pieces F.layout C.ok.lawful i h.0) (pieces_facts i).0 (pieces_facts i).1
      (subst (λ (g : Form). IsForm g (pieces i)) (sym z) refl) (ap (λ (g : Form). need g (pieces i)) z ∙ (pieces_facts i).2 i)
      (λ n u bb. pieces_found F m i n ∙ ap perm (sym (h.1 n bb)))

  -- the block is to have an L1 page, and has none
  absent_block : (e : Entry) → f ≡ want_table → entry_at F m0 ro b ≡ e → needs_page want_table e ≡ true → Result (link_table F m0 q ro e b p)
  unfolding link_table new_table
  absent_block e z ez needed =
      let needs : needs_page f (entry_at F m0 ro b) ≡ true = ap₂ (λ (x : Form) (y : Entry). needs_page x y) z ez ∙ needed in
      let g = k.fresh needs in
      let r = new_block (plan_of C) B z m k.sound m0 (λ i. l1_word F m0 q e b i) (wanted_at e ez) p g.0 g.1
      (ap (needs_page want_table) (entry_same ∙ ez) ∙ needed) in
      (r.0, λ x y. subst (λ (j : ℕ). End (plan_of C) B j m (apply (link_table F m0 q ro e b p) m)) (sym (y needs)) r.1)

  -- the block is to have an L1 page, and has one
  present_block : (t : ℕ) → f ≡ want_table → entry_at F m0 ro b ≡ table t → Result (same_table F m0 q (table t) b t)
  unfolding same_table
  present_block t z ez =
      let one : (x : ℕ) → Along (Step (plan_of C) b (suc b) m) (same_table F m0 q (table t) b t) m × End (plan_of C) B x m (apply (same_table F m0 q (table t) b t) m)
      = λ x. same_block (plan_of C) B z m k.sound m0 (λ i. l1_word F m0 q (table t) b i) (wanted_at (table t) ez) x t
      (entry_same ∙ ez) (λ i h. k.same_l1 t i ez h) in
      ((one p).0, λ x y. (one x).1)

  table_block : f ≡ want_table → (e : Entry) → entry_at F m0 ro b ≡ e → Result (block_stores F m0 q ro want_table e b p)
  unfolding block_stores needs_page
  table_block z (flat i) ez = absent_block (flat i) z ez refl
  table_block z (pieces i) ez = absent_block (pieces i) z ez refl
  table_block z (table t) ez = present_block t z ez
  table_block z invalid ez = absent_block invalid z ez refl

  by_form : (g : Form) → f ≡ g → Fits F A b g → Result (block_stores F m0 q ro g (entry_at F m0 ro b) b p)
  unfolding block_stores
  by_form (want_flat i) z h = flat_block i z h
  by_form (want_pieces i) z h = pieces_block i z h
  by_form want_table z h = table_block z (entry_at F m0 ro b) refl

  pub block : Result (block_stores F m0 q ro f (entry_at F m0 ro b) b p)
  block = by_form f refl k.fit
