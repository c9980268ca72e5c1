-- What the states answer: each is known in numbers (`States`), so what is asked of it is computed from the numbers.
use mathlib.Core.Path.{◌≡◌, refl, ap, ◌∙◌}
use mathlib.Core.Bool.{true}
use mathlib.Core.List.{List, [], ◌∷◌, map}
use lib.ListN.{take, drop, replicate}
use Rattle.model.specs.Access.{itself, table_read, fetch, load, store, refused, allowed, fault}
use Rattle.model.specs.Forms.{Request, Form}
use Rattle.model.specs.Fence.{domain_fence}
use Rattle.model.specs.Stores.{Store}
use Rattle.model.specs.Calls.{refused_with, closed, edited, root_of, finished, store_list_with, store_list}
use Rattle.laws.proofs.PageRuns.{quick_forms, forms_quick}
use Rattle.cases.specs.Bench.{bench, small_bench, bad_bench, none, rx, read_write, rwx, ask, ask_of, most, opens, closes, closes_on, look, look_by, l1, eight_bytes, free_pages_of, words_stored, top_digit, wpri_set, past_the_blocks, reserved_bits, two_roots, from_before}
use Rattle.cases.proofs.Sounds.{quick_sound, sound_quick}
use Rattle.cases.proofs.QuickCalls.{held_is_8, full_is_7, sound_closes}
use Rattle.cases.proofs.Compute.{compute, pos, quick}
use Rattle.cases.proofs.States.{slots5, memory_new, outcome_new, memory_c, outcome_c, memory_g, outcome_g, outcome512, outcome513, outcome_k1, outcome_k2, outcome_l, outcome_n, outcome_o, outcome_w}

-- ---- lookups

pub A-load : look outcome_new 0x40000000 (itself load) ≡ fault 5
unfolding compute slots5 memory_new outcome_new
A-load = refl

pub D-load512 : look outcome512 0x40000000 (itself load) ≡ fault 5
unfolding compute slots5 outcome512
D-load512 = refl

pub D-load513 : look outcome513 0x40000000 (itself load) ≡ allowed
unfolding compute slots5 outcome513
D-load513 = refl

pub D-beside : look outcome513 0x40001000 (itself load) ≡ fault 5
unfolding compute slots5 outcome513
D-beside = refl

pub E-store : look outcome_c 0x40000FFF (itself store) ≡ allowed
unfolding compute slots5 memory_c outcome_c
E-store = refl

pub E-fetch : look outcome_c 0x40000FFF (itself fetch) ≡ fault 1
unfolding compute slots5 memory_c outcome_c
E-fetch = refl

pub E-table : look outcome_c 0x40001000 (table_read store) ≡ fault 7
unfolding compute slots5 memory_c outcome_c
E-table = refl

pub I-load : look outcome_new 0x100000000 (itself load) ≡ fault 5
unfolding compute slots5 memory_new outcome_new
I-load = refl

pub L-load : look outcome_l 0x40059FFF (itself load) ≡ allowed
unfolding compute slots5 outcome_l
L-load = refl

pub L-swapped : look outcome_l 0x40095000 (itself load) ≡ fault 5
unfolding compute slots5 outcome_l
L-swapped = refl

pub P-load : look top_digit 0x40000000 (itself load) ≡ fault 5
unfolding compute top_digit
P-load = refl

pub R-load : look wpri_set 0x40000000 (itself load) ≡ allowed
unfolding compute wpri_set
R-load = refl

pub U-look_frame : look_by bad_bench 0x2140000000080000 outcome_new 0x40000000 (itself load) ≡ refused 1
unfolding compute slots5 memory_new outcome_new
U-look_frame = refl

pub U-look_register : look_by bench 0x2140000000080000 outcome_new 0x40000000 (itself load) ≡ refused 2
unfolding compute slots5 memory_new outcome_new
U-look_register = refl

pub V-load : look reserved_bits 0x40000000 (itself load) ≡ fault 5
unfolding compute reserved_bits
V-load = refl

pub V-own_none : look reserved_bits 0x4000F000 (itself load) ≡ fault 5
unfolding compute reserved_bits
V-own_none = refl

pub V-beside : look reserved_bits 0x40010000 (itself load) ≡ allowed
unfolding compute reserved_bits
V-beside = refl

pub V-own : look reserved_bits 0x4002F000 (itself load) ≡ fault 5
unfolding compute reserved_bits
V-own = refl

pub V-lowest : look reserved_bits 0x4003F000 (itself store) ≡ fault 7
unfolding compute reserved_bits
V-lowest = refl

-- ---- calls whose answer alone is asked

pub D-again : (quick 32 0x80000 16 outcome513 (ask 0x40000000 0x1000 read_write) most).reply ≡ edited 31 true
unfolding compute slots5 outcome513
D-again = refl

pub I-edit : (quick 32 0x80000 16 outcome_new (ask 0xFFFFF000 0x1000 read_write) most).reply ≡ edited 544 true
unfolding compute slots5 memory_new outcome_new
I-edit = refl

pub I-past : (quick 32 0x80000 16 outcome_new (ask 0xFFFFF000 0x2000 read_write) most).reply ≡ refused_with 5
unfolding compute slots5 memory_new outcome_new
I-past = refl

pub J-lent : (quick 32 0x80000 16 outcome_new (ask 0x8000F000 0x1000 read_write) most).reply ≡ refused_with 6
unfolding compute slots5 memory_new outcome_new
J-lent = refl

pub J-beside : (quick 32 0x80000 16 outcome_new (ask 0x80010000 0x1000 read_write) most).reply ≡ edited 544 true
unfolding compute slots5 memory_new outcome_new
J-beside = refl

pub J-none : (quick 32 0x80000 16 outcome_new (ask 0x8000F000 0x1000 none) most).reply ≡ edited 0 true
unfolding compute slots5 memory_new outcome_new
J-none = refl

pub K-full : (quick 32 0x80000 2 outcome_k1 (ask 0x42000000 0x1000 read_write) most).reply ≡ refused_with 7
unfolding compute slots5 outcome_k1
K-full = refl

pub K-freed : (quick 32 0x80000 2 outcome_k2 (ask 0x42000000 0x1000 read_write) most).reply ≡ edited 544 true
unfolding compute slots5 outcome_k2
K-freed = refl

pub N-held : (opens bench outcome_n 2 0).reply ≡ refused_with 8
unfolding compute outcome_n
N-held = refl

pub N-close : (closes outcome_n 1).fence ≡ domain_fence 0
unfolding compute outcome_n
N-close = refl

pub K1-sound : quick_sound small_bench outcome_k1.memory outcome_k1.slots ≡ true
unfolding compute slots5 outcome_k1
K1-sound = refl

pub N-first : (opens small_bench outcome_k1 1 5).reply ≡ refused_with 8
unfolding compute slots5 outcome_k1
N-first = held_is_8 small_bench outcome_k1.memory outcome_k1.slots 1 5 refl (sound_quick small_bench outcome_k1.memory outcome_k1.slots ∙ K1-sound) refl refl

pub N-full : (opens small_bench outcome_k1 1 0).reply ≡ refused_with 7
unfolding compute slots5 outcome_k1
N-full = full_is_7 small_bench outcome_k1.memory outcome_k1.slots 1 0 refl (sound_quick small_bench outcome_k1.memory outcome_k1.slots ∙ K1-sound) refl refl refl

pub P-close : (closes top_digit 0).reply ≡ refused_with 3
unfolding compute top_digit
P-close = refl

pub R-close : (closes wpri_set 0).reply ≡ refused_with 3
unfolding compute wpri_set
R-close = refl

pub S-close : (closes past_the_blocks 0).reply ≡ closed
unfolding compute past_the_blocks
S-close = refl

pub V-close : (closes reserved_bits 0).reply ≡ refused_with 3
unfolding compute reserved_bits
V-close = refl

-- ---- lowest number first

pub U-frame : (quick 32 0 16 top_digit (ask_of 8 0x8000F000 0x800 read_write) most).reply ≡ refused_with 1
unfolding compute top_digit
U-frame = refl

pub U-unsound : (quick 32 0x80000 16 top_digit (ask_of 8 0x8000F000 0x800 read_write) most).reply ≡ refused_with 3
unfolding compute top_digit
U-unsound = refl

pub U-slot : (quick 32 0x80000 16 outcome_new (ask_of 8 0x8000F000 0x800 read_write) most).reply ≡ refused_with 4
unfolding compute slots5 memory_new outcome_new
U-slot = refl

pub U-range : (quick 32 0x80000 16 outcome_new (ask 0x8000F000 0x800 read_write) most).reply ≡ refused_with 5
unfolding compute slots5 memory_new outcome_new
U-range = refl

pub U-lent : (quick 32 0x80000 2 outcome_k1 (ask 0x80000000 0x1000 read_write) most).reply ≡ refused_with 6
unfolding compute slots5 outcome_k1
U-lent = refl

pub U-open_frame : (opens bad_bench top_digit 8 64).reply ≡ refused_with 1
unfolding compute top_digit
U-open_frame = refl

pub U-open_unsound : (opens bench top_digit 8 64).reply ≡ refused_with 3
unfolding compute top_digit
U-open_unsound = refl

pub U-open_slot : (opens bench outcome_new 8 64).reply ≡ refused_with 4
unfolding compute slots5 memory_new outcome_new
U-open_slot = refl

pub U-open_sdid : (opens bench outcome_new 1 64).reply ≡ refused_with 8
unfolding compute slots5 memory_new outcome_new
U-open_sdid = refl

pub U-close_frame : (closes_on bad_bench top_digit 8).reply ≡ refused_with 1
unfolding compute top_digit
U-close_frame = refl

pub U-close_unsound : (closes top_digit 8).reply ≡ refused_with 3
unfolding compute top_digit
U-close_unsound = refl

pub U-close_slot : (closes outcome_new 8).reply ≡ refused_with 4
unfolding compute slots5 memory_new outcome_new
U-close_slot = refl

-- ---- no write and execute together

pub W-one : (quick 32 0x80000 16 outcome_n (ask_of 1 0x40000000 0x1000 rwx) most).reply ≡ refused_with 10
unfolding compute outcome_n
W-one = refl

pub W-zero : (quick 32 0x80000 16 outcome_n (ask 0x40000000 0x1000 rwx) most).reply ≡ edited 544 true
unfolding compute outcome_n
W-zero = refl

pub W-seven : (quick 32 0x80000 16 outcome_w (ask_of 7 0x40000000 0x1000 rwx) most).reply ≡ refused_with 10
unfolding compute outcome_w
W-seven = refl

pub W-empty : (quick 32 0x80000 16 outcome_n (ask_of 2 0x40000000 0x1000 rwx) most).reply ≡ refused_with 4
unfolding compute outcome_n
W-empty = refl

pub W-range : (quick 32 0x80000 16 outcome_n (ask_of 1 0x8000F000 0x800 rwx) most).reply ≡ refused_with 5
unfolding compute outcome_n
W-range = refl

pub W-lent : (quick 32 0x80000 16 outcome_n (ask_of 1 0x8000F000 0x1000 rwx) most).reply ≡ refused_with 10
unfolding compute outcome_n
W-lent = refl

pub W-lent_zero : (quick 32 0x80000 16 outcome_n (ask 0x8000F000 0x1000 rwx) most).reply ≡ refused_with 6
unfolding compute outcome_n
W-lent_zero = refl

pub W-none : (quick 32 0x80000 16 outcome_n (ask_of 1 0x40000000 0x1000 none) most).reply ≡ edited 0 true
unfolding compute outcome_n
W-none = refl

pub W-rx : (quick 32 0x80000 16 outcome_n (ask_of 1 0x40000000 0x1000 rx) most).reply ≡ edited 544 true
unfolding compute outcome_n
W-rx = refl

pub W-rw : (quick 32 0x80000 16 outcome_n (ask_of 1 0x40000000 0x1000 read_write) most).reply ≡ edited 544 true
unfolding compute outcome_n
W-rw = refl

pub W-full : (quick 32 0x80000 2 two_roots (ask_of 1 0x40000000 0x1000 rwx) most).reply ≡ refused_with 10
unfolding compute two_roots
W-full = refl

pub W-full_rw : (quick 32 0x80000 2 two_roots (ask_of 1 0x40000000 0x1000 read_write) most).reply ≡ refused_with 7
unfolding compute two_roots
W-full_rw = refl

pub W-fetch : look_by bench 0x1140000000080000 from_before 0xC0000000 (itself fetch) ≡ allowed
unfolding compute from_before
W-fetch = refl

pub W-store : look_by bench 0x1140000000080000 from_before 0xC2000000 (itself store) ≡ allowed
unfolding compute from_before
W-store = refl

W-sound : quick_sound bench from_before.memory from_before.slots ≡ true
unfolding compute from_before
W-sound = refl

pub W-close : (closes from_before 1).reply ≡ closed
unfolding compute from_before
W-close = sound_closes bench from_before.memory from_before.slots 1 refl (sound_quick bench from_before.memory from_before.slots ∙ W-sound) refl

pub W-began : (quick 32 0x80000 16 from_before (ask_of 1 0x40000000 0x1000 rwx) most).reply ≡ refused_with 10
unfolding compute from_before
W-began = refl

pub W-stays : l1 (quick 32 0x80000 16 from_before (ask_of 1 0x40001000 0x1000 read_write) most) 0 ≡ 0x23
unfolding compute from_before
W-stays = refl

pub W-rest : take 2 (drop 1024 (quick 32 0x80000 16 from_before (ask_of 1 0xC0000000 0x1000 rx) most).memory) ≡ 0x3333333333333331 ∷ 0x3333333333333333 ∷ []
unfolding compute from_before
W-rest = refl

-- ---- G's stores, the free pages, and bytes

abbrev pub gib : Request
gib = ask 0x40000000 0x40000000 read_write

pub G-words : map (λ (s : Store). s.word) (store_list_with bench memory_c slots5 gib (quick_forms bench memory_c gib (root_of bench slots5 gib) pos)) ≡ replicate 32 0x0000200000000000
unfolding compute slots5 memory_c
G-words = refl

pub G-stored : words_stored outcome_c gib ≡ replicate 32 0x0000200000000000
unfolding store_list finished outcome_c
G-stored =
    ap (λ (fs : List Form). map (λ (s : Store). s.word) (store_list_with bench memory_c slots5 gib fs)) (forms_quick bench memory_c gib (root_of bench slots5 gib) pos)
    ∙ G-words

pub G-free : free_pages_of outcome_g ≡ 15
unfolding compute slots5 memory_g outcome_g
G-free = refl

pub O-free : free_pages_of outcome_o ≡ 15
unfolding compute slots5 outcome_o
O-free = refl

pub S-free : free_pages_of past_the_blocks ≡ 15
unfolding compute past_the_blocks
S-free = refl

pub Q-bytes : eight_bytes outcome_c 256 ≡ 0x01 ∷ 0x00 ∷ 0x08 ∷ 0x00 ∷ 0x00 ∷ 0x40 ∷ 0x00 ∷ 0x00 ∷ []
unfolding compute slots5 memory_c outcome_c
Q-bytes = refl
