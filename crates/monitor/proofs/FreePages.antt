-- The two lowest free pages stand for all of them: in the list that an edit takes from, and in whether there are enough.
use mathlib.Core.Path.{◌≡◌, refl, sym, ap, ◌∙◌}
use mathlib.Core.List.{List, [], ◌∷◌}
use Prim.Native.Nat.{ℕ, ◌≤◌, min}
use native.Mathlib.Omega.{arith}
use lib.Dec.{ltb}
use lib.ListN.{length, take, length-take}
use borrow.Author.Tests.{ltb-true, ltb-false, lt-ltb, le-ltb}
use Rattle.types.specs.Views.{free_list}
use Rattle.laws.proofs.Choices.{split}
use Rattle.scan.specs.FreeMarks.{listed}

-- the front of their list
pub listed_front : (pages : List ℕ) → free_list (listed pages) ≡ take 2 pages
listed_front [] = refl
listed_front (x ∷ []) = refl
listed_front (x ∷ y ∷ rest) = refl

-- whether there are as many as an edit may take is seen from two
pub listed_short : (pages : List ℕ) (n : ℕ) → n ≤ 2 → ltb (length (free_list (listed pages))) n ≡ ltb (length pages) n
listed_short pages n h =
    let two : length (free_list (listed pages)) ≡ min 2 (length pages) = ap (λ (l : List ℕ). length l) (listed_front pages) ∙ length-take 2 pages in
    split (ltb (length pages) n)
    (λ z. lt-ltb _ n (omega (arith, two, ltb-true (length pages) n z)) ∙ sym z)
    (λ z. le-ltb _ n (omega (arith, two, ltb-false (length pages) n z)) ∙ sym z)
