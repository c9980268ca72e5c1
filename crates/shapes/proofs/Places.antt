-- One word of a page: the store into it, as the code says it and as the model does; and the frame beside memories of one length.
use Rattle.std.specs.Prelude.{if◌then◌else◌}
use mathlib.Core.Path.{◌≡◌, sym, ap, ap₂, ◌∙◌, subst}
use mathlib.Core.Bool.{true}
use mathlib.Core.List.{List, [], ◌∷◌}
use Prim.Native.Nat.{ℕ, ◌+◌}
use lib.Dec.{eqb}
use lib.ListN.{length, get_or}
use Rattle.laws.proofs.FrameNumbers.{index_add}
use Rattle.model.specs.Entry.{Entry}
use Rattle.model.specs.Frame.{Frame, lent, word_at, index_of}
use Rattle.model.specs.Stores.{Store, store_at, if_changed}
use Rattle.types.specs.declared.Budget.{Budget}
use Rattle.shapes.specs.Ahead.{Ahead}
use Rattle.shapes.specs.Pages.{Plain}
use Rattle.shapes.specs.Rooted.{Good}
use Rattle.shapes.specs.Rows.{change_at}
use Rattle.shapes.specs.Run.{Out, run}
use Rattle.shapes.proofs.Order.{ahead_of}
use Rattle.shapes.proofs.PageLaws.{good_plain}

-- ---- what the code stores at place i of the page that starts at word `start`: w, which it worked out to be w'

module _ (F : Frame) (p i start : ℕ) (starts : start ≡ index_of F p 0) where
  pub place : start + i ≡ index_of F p i
  place = ap (λ (k : ℕ). k + i) starts ∙ index_add F p i

  module _ (m : List ℕ) {w w' : ℕ} (is : w ≡ w') where
    abbrev this : List Store
    this = record { at = start + i; word = w } ∷ []

    one : this ≡ store_at F p i w' ∷ []
    unfolding store_at
    one = ap₂ (λ (at x : ℕ). record { at = at; word = x } ∷ []) place is

    one_if : change_at m (λ x. w) (start + i) ≡ if_changed F m p i w'
    unfolding if_changed word_at store_at
    one_if = ap₂ (λ (at x : ℕ). if eqb (get_or m at 0) x then [] else record { at = at; word = x } ∷ []) place is

    pub next_store : Ahead m (store_at F p i w' ∷ []) → Ahead m this
    next_store a = ahead_of (sym one) a

    pub next_if : Ahead m (if_changed F m p i w') → Ahead m (change_at m (λ x. w) (start + i))
    next_if a = ahead_of (sym one_if) a

    module _ (left : Budget) {o : Out} where
      pub stored : o ≡ run left this m → o ≡ run left (store_at F p i w' ∷ []) m
      stored said = said ∙ ap (λ (ss : List Store). run left ss m) one

      pub stored_if : o ≡ run left (change_at m (λ x. w) (start + i)) m → o ≡ run left (if_changed F m p i w') m
      stored_if said = said ∙ ap (λ (ss : List Store). run left ss m) one_if

-- ---- what is asked of a page and of an entry, once stores have been made: the frame beside a memory follows from its length

module _ (over : ℕ → Frame) (m m' : List ℕ) (len : length m' ≡ length m) where
  pub lent_same : (x : ℕ) → lent (over (length m)) x ≡ true → lent (over (length m')) x ≡ true
  lent_same x h = subst (λ (X : Frame). lent X x ≡ true) (sym (ap over len)) h

  pub good_same : (e : Entry) → Plain e → Good (over (length m)) m e → Good (over (length m')) m' e
  good_same e pl g = subst (λ (X : Frame). Good X m' e) (sym (ap over len)) (good_plain (over (length m)) m m' e pl g)
