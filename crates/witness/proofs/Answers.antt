-- What the call answers. A fault stands on a low page, so it is computed: the pages above it are not looked at. That there is none follows from
-- the premises.
use mathlib.Core.Path.{◌≡◌, refl, sym, ap, ◌∙◌}
use mathlib.Core.Bool.{true, false}
use mathlib.Core.List.{List, [], ◌∷◌, ◌++◌, head_d, cons≢nil}
use Prim.Native.Nat.{ℕ}
use lib.ListN.{take}
use Rattle.model.specs.Numbers.{joined}
use Rattle.model.specs.Frame.{frame_ok}
use Rattle.model.specs.Calls.{first_met}
use Rattle.model.specs.Apart.{grants, grants_any, Strength, strict, sharing, Separation, refused_apart, apart, table_open, page_shared, opens, writes, reaches, table_page, by_slot, table_fault, pair_fault, faults_at, separation, apart_refusal, apart_answer}
use Rattle.laws.proofs.Lists.{joined_append}
use Rattle.cases.specs.Cases.{AllOf, done, both}
use Rattle.cases.proofs.Sounds.{quick_sound, sound_quick}
use Rattle.cases.proofs.Compute.{compute}
use Rattle.isolation.proofs.Test.{strict_stronger, test_passes}
use Rattle.witness.specs.Witness.{F, slots, fields0, fields1, words}
use Rattle.witness.specs.Answers.{read_below, written_twice, read_above, root_to_first, root_to_second, root_to_both, root_read_below, own_read, two_faults, one_register, narrow, asked, answer_cases}
use Rattle.witness.proofs.Premises.{first_far, none, far_root, Computed, space_is, premises}
use Rattle.witness.proofs.Premises.{apart as kept}

-- what unfolds when an answer is computed
unfoldable tables : Unit {0}
unfolding compute words slots fields0 fields1 read_below written_twice read_above root_to_first root_to_second root_to_both root_read_below own_read two_faults grants grants_any opens writes reaches table_page by_slot table_fault pair_fault faults_at separation
tables = tt

-- what is computed of an answer: the table is not refused, and the first fault, which is on a page below 20
record Told (s : Strength) (m : List ℕ) (x : Separation) : Type 0 where
  frame : frame_ok F m ≡ true
  sounds : quick_sound F m slots ≡ true
  first : take 1 (joined (faults_at F m slots s) 20 0) ≡ x ∷ []

first_of : (l l' : List Separation) (x d : Separation) → take 1 l ≡ x ∷ [] → head_d (l ++ l') d ≡ x
unfolding head_d
first_of [] l' x d h = absurd (cons≢nil (sym h))
first_of (y ∷ l) l' x d h = ap (λ (k : List Separation). head_d k d) h

told : {s : Strength} {m : List ℕ} {x : Separation} → Told s m x → asked s m ≡ x
unfolding apart_answer apart_refusal first_met separation
told {s} {m} {x} c =
    rw (c.frame, sound_quick F m slots ∙ c.sounds)
    (ap (λ (l : List Separation). head_d l apart) (ap (λ (n : ℕ). joined (faults_at F m slots s) n 0) space_is ∙ joined_append (faults_at F m slots s) 20 262124 0)
    ∙ first_of (joined (faults_at F m slots s) 20 0) (joined (faults_at F m slots s) 262124 20) x apart c.first)

all_told : {m : List ℕ} {x : Separation} → ((s : Strength) → Told s m x) → (s : Strength) → asked s m ≡ x
all_told c s = told (c s)

-- ---- apart

strict_apart : asked strict (words strict) ≡ apart
strict_apart = test_passes F (words strict) slots strict (kept strict)

strict_apart_too : asked sharing (words strict) ≡ apart
strict_apart_too = test_passes F (words strict) slots sharing (strict_stronger F (words strict) slots (kept strict))

sharing_apart : asked sharing (words sharing) ≡ apart
sharing_apart = test_passes F (words sharing) slots sharing (kept sharing)

own_computed : Computed sharing own_read 2
unfolding tables first_far none far_root
own_computed = record { frame = refl; sounds = refl; far = refl; pages = refl; table = refl }

own_read_lem : asked sharing own_read ≡ apart
own_read_lem = test_passes F own_read slots sharing (premises sharing own_read 2 own_computed)

-- ---- faults

code_shared : Told strict (words sharing) (page_shared 2 0 1 false)
unfolding tables
code_shared = record { frame = refl; sounds = refl; first = refl }

read_below_lem : (s : Strength) → Told s read_below (page_shared 1 0 1 true)
unfolding tables
read_below_lem strict = record { frame = refl; sounds = refl; first = refl }
read_below_lem sharing = record { frame = refl; sounds = refl; first = refl }

read_above_lem : (s : Strength) → Told s read_above (page_shared 0 0 1 true)
unfolding tables
read_above_lem strict = record { frame = refl; sounds = refl; first = refl }
read_above_lem sharing = record { frame = refl; sounds = refl; first = refl }

written_twice_lem : (s : Strength) → Told s written_twice (page_shared 1 0 1 true)
unfolding tables
written_twice_lem strict = record { frame = refl; sounds = refl; first = refl }
written_twice_lem sharing = record { frame = refl; sounds = refl; first = refl }

root_to_first_lem : (s : Strength) → Told s root_to_first (table_open 16 0 true)
unfolding tables
root_to_first_lem strict = record { frame = refl; sounds = refl; first = refl }
root_to_first_lem sharing = record { frame = refl; sounds = refl; first = refl }

root_to_second_lem : (s : Strength) → Told s root_to_second (table_open 16 1 true)
unfolding tables
root_to_second_lem strict = record { frame = refl; sounds = refl; first = refl }
root_to_second_lem sharing = record { frame = refl; sounds = refl; first = refl }

root_to_both_lem : (s : Strength) → Told s root_to_both (table_open 16 0 true)
unfolding tables
root_to_both_lem strict = record { frame = refl; sounds = refl; first = refl }
root_to_both_lem sharing = record { frame = refl; sounds = refl; first = refl }

root_read : Told strict root_read_below (table_open 16 0 false)
unfolding tables
root_read = record { frame = refl; sounds = refl; first = refl }

root_written : Told sharing root_read_below (table_open 16 1 true)
unfolding tables
root_written = record { frame = refl; sounds = refl; first = refl }

own_open : Told strict own_read (table_open 18 0 false)
unfolding tables
own_open = record { frame = refl; sounds = refl; first = refl }

lowest_page : (s : Strength) → Told s two_faults (page_shared 1 0 1 true)
unfolding tables
lowest_page strict = record { frame = refl; sounds = refl; first = refl }
lowest_page sharing = record { frame = refl; sounds = refl; first = refl }

-- ---- refused

one_register_lem : (s : Strength) → apart_answer F (words strict) one_register s ≡ refused_apart 3
unfolding tables one_register apart_answer apart_refusal
one_register_lem s = refl

narrow_frame : (s : Strength) → apart_answer narrow (words strict) slots s ≡ refused_apart 1
unfolding tables apart_answer apart_refusal
narrow_frame s = refl

frame_first : (s : Strength) → apart_answer narrow (words strict) one_register s ≡ refused_apart 1
unfolding tables one_register apart_answer apart_refusal
frame_first s = refl

-- ---- all of them

pub answers : AllOf answer_cases
answers =
    both strict_apart
    (both strict_apart_too
    (both (told code_shared)
    (both sharing_apart
    (both (all_told read_below_lem)
    (both (all_told read_above_lem)
    (both (all_told written_twice_lem)
    (both (all_told root_to_first_lem)
    (both (all_told root_to_second_lem)
    (both (all_told root_to_both_lem)
    (both (told root_read)
    (both (told root_written)
    (both (told own_open)
    (both own_read_lem
    (both (all_told lowest_page)
    (both one_register_lem
    (both narrow_frame
    (both frame_first
    done)))))))))))))))))
