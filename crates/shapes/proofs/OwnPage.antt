-- A block with an L1 page of its own: its entries one after another, of which only those that the range can meet change. A store of one entry
-- keeps the others, so what is left of the page decides the whole.
use mathlib.Core.Path.{◌≡◌, refl, sym, ap, ◌∙◌, subst}
use mathlib.Core.Bool.{false}
use mathlib.Core.List.{List, []}
use Prim.Native.Nat.{ℕ, ◌+◌, ◌*◌, ◌-◌, ◌^◌, ◌≤◌, ◌<◌}
use native.Mathlib.Nat.{zero-add, mul-le-mul_right, suc-mul}
use native.Mathlib.Omega.{arith}
use lib.Dec.{eqb}
use lib.ListN.{length, get_or}
use borrow.Author.Tests.{eqb-true, eqb-false}
use Rattle.laws.proofs.Choices.{split}
use Rattle.laws.proofs.Lists.{joined_none, joined_skip}
use Rattle.model.specs.Entry.{table, clean}
use Rattle.model.specs.Forms.{Request, in_range, l1_word}
use Rattle.model.specs.Frame.{Frame, word_at}
use Rattle.model.specs.Layout.{block_pages}
use Rattle.model.specs.Numbers.{joined}
use Rattle.model.specs.Stores.{Store, if_changed, same_table}
use Rattle.types.specs.declared.Budget.{Budget}
use Rattle.shapes.specs.Ahead.{Ahead}
use Rattle.shapes.specs.Pages.{own_run}
use Rattle.shapes.specs.Rooted.{Good}
use Rattle.shapes.specs.Run.{Out, all_made, limit_reached, run}
use Rattle.shapes.proofs.Order.{ahead_of, Remaining, remaining_start, remaining_end, remaining_ahead, remaining_next, remaining_cut}
use Rattle.shapes.proofs.PageLaws.{Put, changed_same, entry_stays, l1_clean, put_changed}
use Rattle.shapes.proofs.RunLaws.{run_none, run_whole, joined_next}
use Rattle.shapes.proofs.Shape.{Shape}

-- page t, as the edit finds it: an L1 page of a sound table, in a memory of whole entries
pub record Own (F : Frame) (m : List ℕ) (q : Request) (t : ℕ) : Type 0 where
  pub shape : Shape F.layout
  pub long : F.pages * F.layout.words ≤ length m
  pub typed : (j : ℕ) → get_or m j 0 < 16 ^ F.layout.fields
  pub low : q.permission < 4
  pub good : Good F m (table t)

-- the store of entry i, if it changes
abbrev one : Frame → List ℕ → Request → ℕ → ℕ → ℕ → List Store
one F m q t b i = if_changed F m t i (l1_word F m q (table t) b i)

module _ {F : Frame} {m : List ℕ} {q : Request} {t : ℕ} (own : Own F m q t) (b : ℕ) where
  -- none of the entries from .. to has one, if all lie outside the range
  stay : (from to i : ℕ) → to ≤ F.layout.words → ((k : ℕ) → b * block_pages + from * F.layout.fields ≤ k → k < b * block_pages + to * F.layout.fields → in_range q k ≡ false)
      → from ≤ i → i < to → one F m q t b i ≡ []
  stay from to i few o lo hi =
      let N : ℕ = F.layout.fields in
      entry_stays F own.shape m q own.low t b own.good own.typed i (omega arith)
      (λ k l u. o k (omega (arith, mul-le-mul_right N lo)) (omega (arith, mul-le-mul_right N hi, suc-mul i N)))

  -- a block outside the range: its own page does not change
  pub own_none : ((k : ℕ) → b * block_pages ≤ k → k < b * block_pages + block_pages → in_range q k ≡ false) → (left : Budget) → all_made left m ≡ run left (same_table F m q (table t) b t) m
  unfolding same_table
  own_none o left =
      sym (ap (λ (ss : List Store). run left ss m)
      (joined_none (one F m q t b) F.layout.words 0
      (λ i lo hi. stay 0 F.layout.words i (omega arith) (λ k l u. o k (omega arith) (omega (arith, own.shape.lawful.page_fields))) lo (omega arith)))
      ∙ run_none left m)

-- the entries below i are done, and the rest from here decides the whole
pub record Same (over : ℕ → Frame) (q : Request) (t b : ℕ) (m0 : List ℕ) (left : Budget) (m : List ℕ) (more : Budget) (i : ℕ) : Type 0 where
  pub own : Own (over (length m0)) m0 q t
  pub few : i ≤ (over (length m0)).layout.words
  pub size : length m ≡ length m0
  pub ahead : (j : ℕ) → i ≤ j → j < (over (length m0)).layout.words → word_at (over (length m0)) m t j ≡ word_at (over (length m0)) m0 t j
  pub good : Good (over (length m0)) m (table t)
  pub remaining : Remaining left m0 (same_table (over (length m0)) m0 q (table t) b t) more m (own_run (over (length m0)) m0 q t b ((over (length m0)).layout.words - i) i)

module _ {over : ℕ → Frame} {q : Request} {t b : ℕ} {m0 : List ℕ} {left : Budget} where
  -- the entries below from lie outside the range
  pub same_start : Own (over (length m0)) m0 q t → (from : ℕ) → from ≤ (over (length m0)).layout.words
      → ((k : ℕ) → k < b * block_pages + from * (over (length m0)).layout.fields → b * block_pages ≤ k → in_range q k ≡ false)
      → Ahead m0 (same_table (over (length m0)) m0 q (table t) b t) → Same over q t b m0 left m0 left from
  unfolding same_table
  same_start own from few o a =
      let G : Frame = over (length m0) in
      let W : ℕ = G.layout.words in
      let gs : ℕ → List Store = one G m0 q t b in
      let u : W ≡ from + (W - from) = omega arith in
      let skip : same_table G m0 q (table t) b t ≡ own_run G m0 q t b (W - from) from
      = ap (λ (n : ℕ). joined gs n 0) u
      ∙ joined_skip gs from (W - from) 0 (λ i lo hi. stay own b 0 from i few (λ k l v. o k v (omega arith)) lo (omega arith))
      ∙ ap (joined gs (W - from)) (zero-add from) in
      record { own = own; few = few; size = refl; ahead = λ j l v. refl; good = own.good; remaining = remaining_start skip a }

  module _ {m : List ℕ} {more : Budget} {i : ℕ} (s : Same over q t b m0 left m more i) where
    abbrev G : Frame
    G = over (length m0)

    abbrev W : ℕ
    W = G.layout.words

    abbrev gs : ℕ → List Store
    gs = one G m0 q t b

    -- the entries from `to` on lie outside the range
    pub same_end : (to : ℕ) → ((k : ℕ) → b * block_pages + to * G.layout.fields ≤ k → k < b * block_pages + block_pages → in_range q k ≡ false) → to ≤ i
        → all_made more m ≡ run left (same_table G m0 q (table t) b t) m0
    same_end to o h =
        remaining_end s.remaining (joined_none gs (W - i) i
        (λ j lo hi. stay s.own b to W j (omega arith) (λ k l u. o k l (omega (arith, s.own.shape.lawful.page_fields))) (omega arith) (omega (arith, s.few))))

    pub same_good : Good (over (length m)) m (table t)
    same_good = subst (λ (X : Frame). Good X m (table t)) (sym (ap over s.size)) s.good

    module _ (h : i < W) where
      as_found : one G m q t b i ≡ gs i
      as_found = changed_same G q b m0 m s.own.shape t i h (s.ahead i (omega arith) h)

      pub same_ahead : Ahead m (one (over (length m)) m q t b i)
      same_ahead =
          subst (λ (X : Frame). Ahead m (one X m q t b i)) (sym (ap over s.size)) (ahead_of (sym as_found) (remaining_ahead s.remaining (gs i) _ (joined_next gs W i h)))

      -- it is stored
      here : {o : Out} → o ≡ run more (one (over (length m)) m q t b i) m → o ≡ run more (one G m q t b i) m
      here {o} said = subst (λ (X : Frame). o ≡ run more (one X m q t b i) m) (ap over s.size) said

      step : {o : Out} → o ≡ run more (one (over (length m)) m q t b i) m → o ≡ run more (gs i) m
      step said = here said ∙ ap (λ (ss : List Store). run more ss m) as_found

      pub same_cut : {m' : List ℕ} → limit_reached m' ≡ run more (one (over (length m)) m q t b i) m → limit_reached m' ≡ run left (same_table G m0 q (table t) b t) m0
      same_cut said = remaining_cut s.remaining (gs i) _ (joined_next gs W i h) (step said)

      pub same_next : {l : Budget} {m' : List ℕ} → all_made l m' ≡ run more (one (over (length m)) m q t b i) m → Same over q t b m0 left m' l (i + 1)
      same_next {l} {m'} said =
          let wrote : Put G m m' t i (l1_word G m q (table t) b i)
          = put_changed G m (omega (arith, s.own.long, s.size)) t i (l1_word G m q (table t) b i) s.good.0 h m' (run_whole more (one G m q t b i) m l m' (sym (here said))).1 in
          record {
            own = s.own;
            few = omega arith;
            size = wrote.size ∙ s.size;
            ahead = λ j lo u. wrote.others t j s.good.0 u (λ x y. omega (arith, y)) ∙ s.ahead j (omega arith) u;
            good = (
              s.good.0,
              λ j u. split (eqb j i)
                  (λ y. let same : j ≡ i = eqb-true j i y in
                  ap (λ (k : ℕ). clean G.layout (word_at G m' t k)) same ∙ ap (clean G.layout) wrote.here ∙ l1_clean G s.own.shape m q s.own.low (table t) s.good b i)
                  (λ y. ap (clean G.layout) (wrote.others t j s.good.0 u (λ x. eqb-false j i y)) ∙ s.good.1 j u),
            );
            remaining = remaining_next s.remaining (gs i) _ (joined_next gs W i h) (step said);
          }
