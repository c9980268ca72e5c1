-- The entry of a block that needs an L1 page names none: by cases of the entry.
use mathlib.Core.Path.{◌≡◌, sym}
use mathlib.Core.Bool.{true, true≢false}
use Rattle.model.specs.Entry as entry
use Rattle.model.specs.Forms.{want_table}
use Rattle.model.specs.Stores.{needs_page}
use Rattle.shapes.specs.Pages.{Plain}

pub plain : (e : entry.Entry) → needs_page want_table e ≡ true → Plain e
unfolding needs_page
plain (entry.flat p) h = tt
plain (entry.pieces i) h = tt
plain (entry.table t) h = true≢false (sym h)
plain entry.invalid h = tt
