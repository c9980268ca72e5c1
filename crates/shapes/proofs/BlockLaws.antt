-- Several blocks of one GiB at once: where each block's stores are that of its entry, if it changes, those of a row of entries are those
-- of its blocks.
use Rattle.std.specs.Prelude.{if◌then◌else◌, Option, Some, None}
use mathlib.Core.Path.{◌≡◌, refl, sym, ap, ap₂, ◌∙◌}
use mathlib.Core.Bool.{Bool, true, false}
use mathlib.Core.List.{List, [], ◌∷◌, ◌++◌, append_assoc, append-nil, head_d, tail}
use Prim.Native.Nat.{ℕ, zero, suc, ◌+◌, ◌*◌, ◌-◌, ◌^◌, ◌≤◌, ◌<◌}
use native.Mathlib.Nat.{zero-add}
use native.Mathlib.Omega.{arith}
use lib.Dec.{eqb}
use lib.ListN.{get_or}
use Rattle.laws.proofs.Choices.{split}
use Rattle.laws.proofs.Digits.{pack_lt}
use Rattle.model.specs.Entry.{Entry, flat, pieces, table, invalid, decode, encode}
use Rattle.model.specs.Forms.{Request, Form, want_pieces, form_in, forms_in, in_range, pieces_are_one, pieces_info}
use Rattle.model.specs.Frame.{Frame, lent, index_of, word_at}
use Rattle.model.specs.Layout.{block_pages}
use Rattle.model.specs.Numbers.{joined}
use Rattle.model.specs.Stores.{Store, store_at, store_l2, if_changed_l2, block_stores, needs_page, new_pages, stores_from}
use Rattle.model.specs.Walk.{entry_at, entry_page, entry_place, l2_word}
use Rattle.theory.proofs.Entries.{Small, decode_small}
use Rattle.shapes.specs.Ahead.{Ahead}
use Rattle.shapes.specs.Rooted.{Good}
use Rattle.shapes.specs.Words.{flat_info}
use Rattle.shapes.specs.Blocks.{form_in_gib, stores_in_gib, stores_over, pages_over, Encodes}
use Rattle.shapes.specs.Rows.{change_at, row_stores, entry_as_pieces, word_as_pieces}
use Rattle.shapes.proofs.Shape.{Shape}
use Rattle.shapes.proofs.EntryLaws.{after_small}
use Rattle.shapes.proofs.FormLaws.{form_flat_out, form_pieces_out}
use Rattle.shapes.proofs.Order.{ahead_of, ahead_first}
use Rattle.shapes.proofs.PageLaws.{index_next}

-- a form's entry fits a word
pub form_encodes : (F : Frame) (sh : Shape F.layout) (m : List ℕ) (q : Request) (low : q.permission < 4) (e : Entry) (g : Good F m e) (one : Bool) (p b : ℕ)
    → p < 4 → Encodes F.layout (form_in F m q one p e b)
unfolding form_in pieces_info
form_encodes F sh m q low e g true p b h = h
form_encodes F sh m q low e g false p b h =
    split (pieces_are_one F m q e b)
    (λ z. rw z (pack_lt 4 _ (λ i. after_small F sh m q low e g _) F.layout.pieces 0))
    (λ z. rw z tt)

-- an L2 entry of the root
pub changed_l2 : (F : Frame) (m : List ℕ) (root b w at : ℕ) → at ≡ index_of F root b → (if eqb (get_or m at 0) w then [] else record { at = at; word = w } ∷ []) ≡ if_changed_l2 F m root b w
unfolding if_changed_l2 l2_word word_at store_l2 store_at entry_page entry_place
changed_l2 F m root b w at e = ap (λ (k : ℕ). if eqb (get_or m k 0) w then [] else record { at = k; word = w } ∷ []) e

module _ (F : Frame) (m : List ℕ) (q : Request) (root : ℕ) (gib : Option ℕ) where
  -- ---- one block

  pub over_one : (b : ℕ) (fr : List ℕ) → stores_over F m q root gib 1 b fr ≡ stores_in_gib F m q root gib b (head_d fr 0)
  unfolding stores_from forms_in
  over_one b fr = append-nil (stores_in_gib F m q root gib b (head_d fr 0))

  pub pages_one : (b next : ℕ) → next + pages_over F m q root gib 1 b ≡ (if needs_page (form_in_gib F m q root gib b) (entry_at F m root b) then next + 1 else next)
  unfolding new_pages forms_in
  pages_one b next = split (needs_page (form_in_gib F m q root gib b) (entry_at F m root b)) (λ z. rw z (omega arith)) (λ z. rw z (omega arith))

  -- ---- the first c of several

  over_first : (c d b : ℕ) (fr : List ℕ) → (rest : List Store) × (stores_over F m q root gib (c + d) b fr ≡ stores_over F m q root gib c b fr ++ rest)
  unfolding stores_from forms_in
  over_first zero d b fr = (stores_over F m q root gib (0 + d) b fr, refl)
  over_first (suc c) d b fr =
      let new : List Store = stores_in_gib F m q root gib b (head_d fr 0) in
      let fr' : List ℕ = if needs_page (form_in_gib F m q root gib b) (entry_at F m root b) then tail fr else fr in
      let more = over_first c d (suc b) fr' in
      let u : suc c + d ≡ suc (c + d) = omega arith in (
        more.0,
        ap (λ (n : ℕ). stores_over F m q root gib n b fr) u ∙ ap (λ (l : List Store). new ++ l) more.1 ∙ sym (append_assoc new (stores_over F m q root gib c (suc b) fr') more.0),
      )

  pub ahead_over : (c n b : ℕ) (fr : List ℕ) → c ≤ n → Ahead m (stores_over F m q root gib n b fr) → Ahead m (stores_over F m q root gib c b fr)
  ahead_over c n b fr h a =
      let u : n ≡ c + (n - c) = omega arith in
      let f = over_first c (n - c) b fr in
      ahead_first _ f.0 (ahead_of (ap (λ (k : ℕ). stores_over F m q root gib k b fr) u ∙ f.1) a)

  -- ---- a row

  -- block c has one store at the most: its entry becomes what `to` makes of it
  pub record Entrywise (to : ℕ → ℕ) (c : ℕ) : Type 0 where
    pub stores : (new : ℕ) → stores_in_gib F m q root gib c new ≡ if_changed_l2 F m root c (to (l2_word F m root c))
    pub page : needs_page (form_in_gib F m q root gib c) (entry_at F m root c) ≡ false

  module _ (to : ℕ → ℕ) where
    pub row_stores_lem : (n b : ℕ) (fr : List ℕ) → ((c : ℕ) → b ≤ c → c < b + n → Entrywise to c) → stores_over F m q root gib n b fr ≡ row_stores m to n (index_of F root b)
    unfolding stores_from forms_in joined l2_word word_at entry_page entry_place
    row_stores_lem zero b fr h = refl
    row_stores_lem (suc n) b fr h =
        let e : Entrywise to b = h b (omega arith) (omega arith) in
        ap₂ (λ (x y : List Store). x ++ y)
        (e.stores (head_d fr 0) ∙ sym (changed_l2 F m root b (to (l2_word F m root b)) (index_of F root b) refl))
        (rw e.page (row_stores_lem n (suc b) fr (λ c lo hi. h c (omega arith) (omega arith))) ∙ ap (joined (change_at m to) n) (sym (index_next F root b)))

    pub row_pages : (n b : ℕ) → ((c : ℕ) → b ≤ c → c < b + n → Entrywise to c) → pages_over F m q root gib n b ≡ 0
    unfolding new_pages forms_in
    row_pages zero b h = refl
    row_pages (suc n) b h = rw (h b (omega arith) (omega arith)).page (zero-add _ ∙ row_pages n (suc b) (λ c lo hi. h c (omega arith) (omega arith)))

-- ---- the two kinds of row

module _ (F : Frame) (m : List ℕ) (q : Request) (root : ℕ) where
  -- a GiB of one permission
  pub flat_entry : (p c : ℕ) → Entrywise F m q root (Some p) (λ w. p * 2 ^ F.layout.info_bits) c
  unfolding form_in block_stores needs_page encode
  flat_entry p c = record { stores = λ new. refl; page = refl }

  -- outside the range, in a GiB that is not: an entry without an L1 page
  module _ (sh : Shape F.layout) (low : q.permission < 4) (ro : lent F root ≡ true) (c : ℕ) (g : Good F m (entry_at F m root c))
      (o : (k : ℕ) → c * block_pages ≤ k → k < c * block_pages + block_pages → in_range q k ≡ false) (some : word_as_pieces F.layout (get_or m (index_of F root c) 0) ≡ 0 → ⊥) where
    said : entry_at F m root c ≡ decode F.layout (l2_word F m root c)
    unfolding entry_at l2_word word_at entry_page entry_place
    said = rw ro refl

    made : (info : ℕ) → want_pieces info ≡ form_in F m q false 0 (entry_at F m root c) c → word_as_pieces F.layout (l2_word F m root c) ≡ F.layout.piece_type * 2 ^ F.layout.info_bits + info
        → Entrywise F m q root None (word_as_pieces F.layout) c
    unfolding needs_page block_stores encode
    made info z w =
        record {
          stores = λ new. ap (λ (x : Form). block_stores F m q root x (entry_at F m root c) c new) (sym z) ∙ ap (if_changed_l2 F m root c) (sym w);
          page = ap (λ (x : Form). needs_page x (entry_at F m root c)) (sym z);
        }

    pub pieces_entry : Entrywise F m q root None (word_as_pieces F.layout) c
    unfolding l2_word word_at entry_page entry_place
    pieces_entry = go (decode F.layout (l2_word F m root c)) refl (decode_small F.layout sh.lawful (l2_word F m root c))
      where
        go : (e : Entry) → decode F.layout (l2_word F m root c) ≡ e → Small F.layout sh.lawful e → Entrywise F m q root None (word_as_pieces F.layout) c
        go (flat x) z s = made (flat_info F.layout x) (form_flat_out F sh m q low (entry_at F m root c) g c o x (said ∙ z)) (ap (entry_as_pieces F.layout) z)
        go (pieces x) z s = made x (form_pieces_out F sh m q low (entry_at F m root c) g c o x (said ∙ z) s) (ap (entry_as_pieces F.layout) z)
        go (table t) z s = absurd (some (ap (entry_as_pieces F.layout) z))
        go invalid z s = absurd (some (ap (entry_as_pieces F.layout) z))
