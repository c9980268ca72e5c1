-- The free pages by the marks alone.
use mathlib.Core.List.{List, [], ◌∷◌}
use Rattle.std.specs.Prelude.{◌≡◌, ℕ, ◌-◌, Option, if◌then◌else◌, Some, None}
use Rattle.model.specs.Numbers.{joined}
use Rattle.model.specs.Frame.{Frame}
use Rattle.types.specs.declared.Free.{Free}
use Rattle.types.specs.declared.PageNumber.{PageNumber}
use Rattle.marks.specs.Marks.{Marks, mark_at}

-- a page, if it is marked; and the lent pages that are, lowest first
abbrev pub marked_at : ℕ → Marks → ℕ → List ℕ
marked_at first marks page = if mark_at marks (page - first) then page ∷ [] else []

unfoldable pub marked_pages : Frame → Marks → List ℕ
marked_pages F marks = joined (marked_at F.first marks) F.pages F.first

-- the first two of some pages
abbrev pub listed : List ℕ → Free
listed [] = record { first = None; second = None }
listed (page ∷ []) = record { first = Some (record { 0 = page }); second = None }
listed (page ∷ next ∷ more) = record { first = Some (record { 0 = page }); second = Some (record { 0 = next }) }

-- the first of some pages was picked, if there is one, and the others are left
abbrev pub Picked : List ℕ → Option PageNumber → List ℕ → Type 0
Picked pages (Some page) left = pages ≡ page.0 ∷ left
Picked pages None left = (pages ≡ []) × (left ≡ [])
