-- One more block: its form heads those that are left, so its stores head the stores that are left; once they are made the edit stands before
-- the block behind it, and if the limit cuts them it cuts the whole.
use Rattle.std.specs.Prelude.{if◌then◌else◌, Option, Result, Some, None, Ok, Err}
use mathlib.Core.Path.{◌≡◌, refl, sym, ap, ◌∙◌, subst, subst₂}
use mathlib.Core.Bool.{Bool, true, false}
use mathlib.Core.List.{List, [], ◌∷◌, ◌++◌, append_assoc, head_d, tail}
use Prim.Native.Nat.{ℕ, zero, suc, ◌+◌, ◌*◌, ◌/◌, ◌≤◌, ◌<◌}
use native.Mathlib.Omega.{arith}
use native.Mathlib.Numerals.{add-one}
use lib.ListN.{length, drop, length-append, length-drop}
use Rattle.laws.proofs.Choices.{split}
use Rattle.laws.proofs.Fronts.{drop_tail}
use Rattle.laws.proofs.Times.{head_times}
use Rattle.model.specs.Forms.{Request, Form, after, form_in, forms_in, gib_first, gib_is_one, first_gib, gibs}
use Rattle.model.specs.Frame.{Frame}
use Rattle.model.specs.Layout.{gib_blocks}
use Rattle.model.specs.Stores.{Store, apply, needs_page, stores_from, new_pages}
use Rattle.model.specs.Walk.{entry_at}
use Rattle.theory.proofs.Frames.{lent_ppn}
use Rattle.theory.proofs.OneCall.{At, spot, next as at_next}
use Rattle.theory.proofs.Plans.{AllAt, FitsAll}
use Rattle.types.specs.declared.Budget.{Budget}
use Rattle.shapes.specs.Ahead.{Ahead}
use Rattle.shapes.specs.Blocks.{GibIs, one_in, form_in_gib, form_of_block, stores_in_gib, stores_over}
use Rattle.shapes.specs.Run.{Out, all_made, limit_reached, run}
use Rattle.shapes.proofs.FormLaws.{form_not}
use Rattle.shapes.proofs.Order.{Remaining, remaining_end, remaining_ahead, remaining_next, remaining_cut}
use Rattle.shapes.proofs.RunLaws.{run_whole}
use Rattle.sequence.specs.GibBlocks.{OneIs, HasNewPage}
use Rattle.sequence.specs.Prepared.{whole_list}
use Rattle.sequence.proofs.AtBlock.{AtBlock, call_here, forms_count, need_over}
use Rattle.sequence.proofs.Facts.{Facts}

-- what is found of a GiB tells its one permission, if it has one
pub one_is : (F : Frame) (m : List ℕ) (q : Request) (root g : ℕ) (gib : Result ℕ ℕ) → GibIs F m q root g gib → OneIs F m q root g (one_in gib)
one_is F m q root g (Ok p) h = h
one_is F m q root g (Err p) h = rw h.0 at h.1

-- the free pages that a block leaves
pub pages_left : (need : Bool) (free : List ℕ) (next : ℕ) → (if need then tail (drop next free) else drop next free) ≡ drop (if need then next + 1 else next) free
pages_left true free next = drop_tail free next
pages_left false free next = refl

module _ {F : Frame} {m0 : List ℕ} {q : Request} {root : ℕ} {free : List ℕ} {k : Facts F m0 q root free} {limit : Budget}
    {m : List ℕ} {b next : ℕ} {left : Budget} (s : AtBlock k limit m b next left) where
  abbrev end : ℕ
  end = first_gib q * gib_blocks + gibs q * gib_blocks

  abbrev fr : List ℕ
  fr = drop next free

  -- as many forms are left as blocks
  post_count : b + length s.post ≡ end
  post_count = omega (arith, forms_count k, ap (λ (l : List Form). length l) s.parts, length-append s.pre s.post, s.at)

  form_found : (gib : Option ℕ) (c : ℕ) → OneIs F m0 q root (c / gib_blocks) gib → form_in_gib F m0 q root gib c ≡ form_of_block F m0 q root c
  form_found (Some p) c gi =
      ap (λ (x : Bool). form_in F m0 q x p (entry_at F m0 root c) c) (sym gi.1)
      ∙ ap (λ (x : ℕ). form_in F m0 q (gib_is_one F m0 q root (c / gib_blocks) x) x (entry_at F m0 root c) c) gi.0
  form_found None c gi =
      let p : ℕ = gib_first F m0 q root (c / gib_blocks) in
      form_not F m0 q (entry_at F m0 root c) c p ∙ ap (λ (x : Bool). form_in F m0 q x p (entry_at F m0 root c) c) (sym gi)

  -- ---- the stores of several blocks of one GiB begin those of all blocks ahead

  front : (gib : Option ℕ) (n : ℕ) (post : List Form) (c : ℕ) (xs : List ℕ) → n ≤ length post → AllAt (λ d fm. fm ≡ form_of_block F m0 q root d) c post
      → ((d : ℕ) → c ≤ d → d < c + n → OneIs F m0 q root (d / gib_blocks) gib) → (rest : List Store) × (stores_from F m0 q root c post xs ≡ stores_over F m0 q root gib n c xs ++ rest)
  unfolding stores_from forms_in
  front gib zero post c xs h named gi = (stores_from F m0 q root c post xs, refl)
  front gib (suc n) [] c xs h named gi = absurd (omega arith)
  front gib (suc n) (fm ∷ post) c xs h named gi =
      let is : fm ≡ form_in_gib F m0 q root gib c = named.0 ∙ sym (form_found gib c (gi c (omega arith) (omega arith))) in
      let left' : List ℕ = if needs_page (form_in_gib F m0 q root gib c) (entry_at F m0 root c) then tail xs else xs in
      let more = front gib n post (suc c) left' (omega arith) named.1 (λ d lo hi. gi d (omega arith) (omega arith)) in
      let new : List Store = stores_in_gib F m0 q root gib c (head_d xs 0) in (
        more.0,
        ap (λ (x : Form). stores_from F m0 q root c (x ∷ post) xs) is ∙ ap (λ (l : List Store). new ++ l) more.1 ∙ sym (append_assoc new (stores_over F m0 q root gib n (suc c) left') more.0),
      )

  pub at_block_ahead : (gib : Option ℕ) (n : ℕ) → b + n ≤ end → ((d : ℕ) → b ≤ d → d < b + n → OneIs F m0 q root (d / gib_blocks) gib) → Ahead m (stores_over F m0 q root gib n b fr)
  at_block_ahead gib n h gi = let f = front gib n s.post b fr (omega (arith, post_count)) s.named gi in remaining_ahead s.remaining _ f.0 f.1

  -- ---- the next block

  module _ (some : b < end) (gib : Option ℕ) (gi : OneIs F m0 q root (b / gib_blocks) gib) where
    abbrev form : Form
    form = form_in_gib F m0 q root gib b

    abbrev need : Bool
    need = needs_page form (entry_at F m0 root b)

    abbrev ss : List Store
    ss = stores_in_gib F m0 q root gib b (head_d fr 0)

    -- its form heads those that are left
    headed : (post : List Form) → s.post ≡ post → (post' : List Form) × (s.post ≡ form ∷ post')
    headed [] e = absurd (omega (arith, post_count, ap (λ (l : List Form). length l) e))
    headed (fm ∷ post') e =
        (post', e ∙ ap (λ (x : Form). x ∷ post') ((subst (AllAt (λ c x. x ≡ form_of_block F m0 q root c) b) e s.named).0 ∙ sym (form_found gib b gi)))

    abbrev post' : List Form
    post' = (headed s.post refl).0

    e : s.post ≡ form ∷ post'
    e = (headed s.post refl).1

    here' : At (call_here k) m b (form ∷ post') fr
    here' = subst (λ (l : List Form). At (call_here k) m b l fr) e s.here

    one_left : need ≡ true → 1 ≤ length fr
    unfolding new_pages
    one_left z = omega (arith, rw z at here'.enough)

    pub has_new_page : HasNewPage F m q root gib b (head_d fr 0)
    has_new_page z =
        let g = here'.is_free (head_d fr 0) (head_times fr (one_left (sym (need_over s gib b (omega arith) (omega (arith, k.inside))) ∙ z))) in
        (g.0, lent_ppn F k.ok (head_d fr 0) g.0)

    parts : stores_from F m0 q root b s.post fr ≡ ss ++ stores_from F m0 q root (suc b) post' (if need then tail fr else fr)
    unfolding stores_from
    parts = ap (λ (l : List Form). stores_from F m0 q root b l fr) e

    taken' : (if need then next + 1 else next) ≤ length free
    taken' = split need (λ z. rw z (omega (arith, one_left z, length-drop next free))) (λ z. rw z s.taken)

    module _ {o : Out} (said : o ≡ run left ss m) where
      pub at_block_cut : {m' : List ℕ} → o ≡ limit_reached m' → o ≡ run limit (whole_list F m0 q root free) m0
      at_block_cut z = z ∙ remaining_cut s.remaining ss _ parts (sym z ∙ said)

      pub at_block_next : {l : Budget} {m' : List ℕ} → o ≡ all_made l m' → AtBlock k limit m' (b + 1) (if need then next + 1 else next) l
      at_block_next {l} {m'} z =
          let made : m' ≡ apply ss m = (run_whole left ss m l m' (sym said ∙ z)).1 in
          let one : suc b ≡ b + 1 = sym (add-one b) in
          let all = s.parts ∙ ap (λ (l : List Form). s.pre ++ l) e in
          record {
            pre = s.pre ++ (form ∷ []);
            post = post';
            parts = all ∙ sym (append_assoc s.pre (form ∷ []) post');
            at = omega (arith, s.at, length-append s.pre (form ∷ []));
            fits = subst (λ (c : ℕ). FitsAll F (after F m0 q root) c post') one (subst (FitsAll F (after F m0 q root) b) e s.fits).1;
            named = subst (λ (c : ℕ). AllAt (λ d x. x ≡ form_of_block F m0 q root d) c post') one (subst (AllAt (λ c x. x ≡ form_of_block F m0 q root c) b) e s.named).1;
            here =
                subst₂ (λ (x : List ℕ) (c : ℕ). At (call_here k) x c post' (drop (if need then next + 1 else next) free)) (sym made) one
                (subst (At (call_here k) (apply ss m) (suc b) post') (pages_left need free next)
                (at_next (call_here k) (spot (call_here k) s.pre form post' all b s.at) (subst (FitsAll F (after F m0 q root) b) e s.fits).0 fr m here'));
            taken = taken';
            remaining =
                subst₂ (λ (c : ℕ) (x : List ℕ). Remaining limit m0 (whole_list F m0 q root free) l m' (stores_from F m0 q root c post' x)) one (pages_left need free next)
                (remaining_next s.remaining ss _ parts (sym z ∙ said));
          }

  pub at_block_end : end ≤ b → all_made left m ≡ run limit (whole_list F m0 q root free) m0
  unfolding stores_from
  at_block_end h = go s.post refl
    where
      go : (post : List Form) → s.post ≡ post → all_made left m ≡ run limit (whole_list F m0 q root free) m0
      go [] e = remaining_end s.remaining (ap (λ (l : List Form). stores_from F m0 q root b l fr) e)
      go (fm ∷ post') e = absurd (omega (arith, post_count, ap (λ (l : List Form). length l) e))
