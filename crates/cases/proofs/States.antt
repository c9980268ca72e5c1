-- Each state that the cases start from, in numbers: what document 01 says of it, and that the definitions compute it.
use mathlib.Core.Path.{◌≡◌, refl, ap}
use mathlib.Core.Bool.{true, false}
use mathlib.Core.List.{List, [], ◌∷◌}
use Prim.Native.Nat.{ℕ}
use lib.ListN.{replicate, set}
use lib.Seq.{sets}
use Rattle.model.specs.Fence.{Fence, no_fence, domain_fence, address_fence}
use Rattle.model.specs.Calls.{Outcome, Reply, opened, edited}
use Rattle.cases.specs.Bench.{bench, small_bench, none, rx, read_write, ask, most, blank, new, after_c, after_f, after_g, after_h, cut512, cut513, small0, small1, small2, after_l, after_m, after_m2, with_zero, with_seven, unfinished, after_o, one_page_short, after_t}
use Rattle.cases.proofs.QuickPasses.{pasted, sets_pasted}
use Rattle.cases.proofs.QuickCalls.{quick_open}
use Rattle.cases.proofs.Compute.{compute, quick, run, run_open}

-- ---- slots and memory in numbers

unfoldable pub slots5 : List ℕ
slots5 = set (replicate 8 0) 0 0x1140000000080000

abbrev left : Reply → List ℕ → List ℕ → Fence → Outcome
left r m s f = record { reply = r; memory = m; slots = s; fence = f }

-- the L2 entries of a GiB of nothing, by pieces: 31 of them from b on
abbrev nothing : ℕ → List ℕ → List ℕ
nothing b m = sets m b (replicate 31 0x0000600000000000)

-- ---- the new domain

unfoldable pub memory_new : List ℕ
memory_new = replicate 8192 0

unfoldable pub outcome_new : Outcome
outcome_new = left opened memory_new slots5 no_fence

new_run_lem : quick_open bench (blank 8192).memory (blank 8192).slots 0 5 ≡ outcome_new
unfolding compute memory_new slots5 outcome_new
new_run_lem = refl

pub new_is : new ≡ outcome_new
unfolding new
new_is = run_open 32 0x80000 16 {o = blank 8192} 0 5 refl new_run_lem

-- ---- C, F, G, H

unfoldable pub memory_c : List ℕ
memory_c = nothing 33 (set (set (replicate 8192 0) 32 0x0000400000080001) 512 0x2)

unfoldable pub outcome_c : Outcome
outcome_c = left (edited 544 true) memory_c slots5 (domain_fence 5)

C-run : quick 32 0x80000 16 outcome_new (ask 0x40000000 0x1000 read_write) most ≡ outcome_c
unfolding compute slots5 memory_new outcome_new memory_c outcome_c
C-run = refl

pub C-is : after_c ≡ outcome_c
unfolding after_c
C-is = run 32 0x80000 16 (ask 0x40000000 0x1000 read_write) most new_is C-run

unfoldable pub outcome_f : Outcome
unfolding memory_c
outcome_f = left (edited 1 true) (set memory_c 512 0x1002) slots5 (address_fence 0x40003000 5)

F-run : quick 32 0x80000 16 outcome_c (ask 0x40003000 0x1000 rx) most ≡ outcome_f
unfolding compute slots5 memory_c outcome_c outcome_f
F-run = refl

pub F-is : after_f ≡ outcome_f
unfolding after_f
F-is = run 32 0x80000 16 (ask 0x40003000 0x1000 rx) most C-is F-run

unfoldable pub memory_g : List ℕ
unfolding memory_c
memory_g = sets memory_c 32 (replicate 32 0x0000200000000000)

unfoldable pub outcome_g : Outcome
outcome_g = left (edited 32 true) memory_g slots5 (domain_fence 5)

G-run : quick 32 0x80000 16 outcome_c (ask 0x40000000 0x40000000 read_write) most ≡ outcome_g
unfolding compute slots5 memory_c outcome_c memory_g outcome_g
G-run = refl

pub G-is : after_g ≡ outcome_g
unfolding after_g
G-is = run 32 0x80000 16 (ask 0x40000000 0x40000000 read_write) most C-is G-run

unfoldable pub outcome_h : Outcome
unfolding memory_g
outcome_h = left (edited 32 true) (set (sets memory_g 33 (replicate 31 0x00006000AAAAAAAA)) 32 0x00006000AAAAAAA2) slots5 (domain_fence 5)

H-run : quick 32 0x80000 16 outcome_g (ask 0x40200000 0x200000 none) most ≡ outcome_h
unfolding compute slots5 memory_g outcome_g outcome_h
H-run = refl

pub H-is : after_h ≡ outcome_h
unfolding after_h
H-is = run 32 0x80000 16 (ask 0x40200000 0x200000 none) most G-is H-run

-- ---- D

unfoldable pub outcome512 : Outcome
outcome512 = left (edited 512 false) (set (replicate 8192 0) 512 0x2) slots5 (domain_fence 5)

D512-run : quick 32 0x80000 16 outcome_new (ask 0x40000000 0x1000 read_write) 512 ≡ outcome512
unfolding compute slots5 memory_new outcome_new outcome512
D512-run = refl

pub D512-is : cut512 ≡ outcome512
unfolding cut512
D512-is = run 32 0x80000 16 (ask 0x40000000 0x1000 read_write) 512 new_is D512-run

unfoldable pub outcome513 : Outcome
outcome513 = left (edited 513 false) (set (set (replicate 8192 0) 512 0x2) 32 0x0000400000080001) slots5 (domain_fence 5)

D513-run : quick 32 0x80000 16 outcome_new (ask 0x40000000 0x1000 read_write) 513 ≡ outcome513
unfolding compute slots5 memory_new outcome_new outcome513
D513-run = refl

pub D513-is : cut513 ≡ outcome513
unfolding cut513
D513-is = run 32 0x80000 16 (ask 0x40000000 0x1000 read_write) 513 new_is D513-run

-- ---- K, on two pages

unfoldable pub outcome_k0 : Outcome
outcome_k0 = left opened (replicate 1024 0) slots5 no_fence

K0-run : quick_open small_bench (blank 1024).memory (blank 1024).slots 0 5 ≡ outcome_k0
unfolding compute slots5 outcome_k0
K0-run = refl

pub K0-is : small0 ≡ outcome_k0
unfolding small0
K0-is = run_open 32 0x80000 2 {o = blank 1024} 0 5 refl K0-run

unfoldable pub outcome_k1 : Outcome
outcome_k1 = left (edited 544 true) (nothing 33 (set (set (replicate 1024 0) 32 0x0000400000080001) 512 0x2)) slots5 (domain_fence 5)

K1-run : quick 32 0x80000 2 outcome_k0 (ask 0x40000000 0x1000 read_write) most ≡ outcome_k1
unfolding compute slots5 outcome_k0 outcome_k1
K1-run = refl

pub K1-is : small1 ≡ outcome_k1
unfolding small1
K1-is = run 32 0x80000 2 (ask 0x40000000 0x1000 read_write) most K0-is K1-run

unfoldable pub outcome_k2 : Outcome
outcome_k2 = left (edited 32 true) (set (replicate 1024 0) 512 0x2) slots5 (domain_fence 5)

K2-run : quick 32 0x80000 2 outcome_k1 (ask 0x40000000 0x1000 none) most ≡ outcome_k2
unfolding compute slots5 outcome_k1 outcome_k2
K2-run = refl

pub K2-is : small2 ≡ outcome_k2
unfolding small2
K2-is = run 32 0x80000 2 (ask 0x40000000 0x1000 none) most K1-is K2-run

-- ---- L to O

unfoldable pub outcome_l : Outcome
outcome_l = left (edited 544 true) (nothing 33 (set (set (replicate 8192 0) 32 0x0000400000080001) 517 0x0000002000000000)) slots5 (domain_fence 5)

L-run : quick 32 0x80000 16 outcome_new (ask 0x40059000 0x1000 read_write) most ≡ outcome_l
unfolding compute slots5 memory_new outcome_new outcome_l
L-run = refl

pub L-is : after_l ≡ outcome_l
unfolding after_l
L-is = run 32 0x80000 16 (ask 0x40059000 0x1000 read_write) most new_is L-run

unfoldable pub outcome_m : Outcome
outcome_m = left (edited 64 true) (nothing 64 (nothing 97 (sets (replicate 8192 0) 95 (0x0000600080000000 ∷ 0x0000600000000002 ∷ [])))) slots5 (domain_fence 5)

M-run : quick 32 0x80000 16 outcome_new (ask 0xBFE00000 0x400000 read_write) most ≡ outcome_m
unfolding compute slots5 memory_new outcome_new outcome_m
M-run = refl

pub M-is : after_m ≡ outcome_m
unfolding after_m
M-is = run 32 0x80000 16 (ask 0xBFE00000 0x400000 read_write) most new_is M-run

unfoldable pub outcome_m2 : Outcome
outcome_m2 =
    left (edited 1088 true)
    (nothing 64 (nothing 97 (set (set (sets (replicate 8192 0) 95 (0x0000400000080001 ∷ 0x0000400000080002 ∷ [])) 1023 0x2000000000000000) 1024 0x2)))
    slots5 (domain_fence 5)

M2-run : quick 32 0x80000 16 outcome_new (ask 0xBFFFF000 0x2000 read_write) most ≡ outcome_m2
unfolding compute slots5 memory_new outcome_new outcome_m2
M2-run = refl

pub M2-is : after_m2 ≡ outcome_m2
unfolding after_m2
M2-is = run 32 0x80000 16 (ask 0xBFFFF000 0x2000 read_write) most new_is M2-run

unfoldable pub outcome_n : Outcome
outcome_n = left opened (replicate 8192 0) (set (set (replicate 8 0) 0 0x1140000000080000) 1 0x1000000000080001) no_fence

N-run : quick_open bench outcome_new.memory outcome_new.slots 1 0 ≡ outcome_n
unfolding compute slots5 memory_new outcome_new outcome_n
N-run = refl

pub N-is : with_zero ≡ outcome_n
unfolding with_zero
N-is = run_open 32 0x80000 16 1 0 new_is N-run

-- an L1 page of rw alone, lent page 1
abbrev with_page : List ℕ → List ℕ
with_page m = pasted m 512 (replicate 512 0x2222222222222222)

unfoldable pub memory_o0 : List ℕ
memory_o0 = with_page (set (sets (replicate 8192 0) 33 (replicate 31 0x0000200000000000)) 32 0x0000400000080001)

unfoldable pub outcome_o0 : Outcome
outcome_o0 = left opened memory_o0 slots5 no_fence

O0-is : unfinished ≡ outcome_o0
unfolding unfinished memory_o0 outcome_o0 slots5
O0-is =
    ap (λ (m : List ℕ). left opened m (set (replicate 8 0) 0 0x1140000000080000) no_fence)
    (sets_pasted (set (sets (replicate 8192 0) 33 (replicate 31 0x0000200000000000)) 32 0x0000400000080001) 512 (replicate 512 0x2222222222222222))

unfoldable pub outcome_o : Outcome
outcome_o =
    left (edited 32 true)
    (with_page (set (sets (replicate 8192 0) 33 (replicate 31 0x00006000AAAAAAAA)) 32 0x00006000AAAAAAA2))
    slots5 (domain_fence 5)

O-run : quick 32 0x80000 16 outcome_o0 (ask 0x40200000 0x200000 none) most ≡ outcome_o
unfolding compute memory_o0 outcome_o0 slots5 outcome_o
O-run = refl

pub O-is : after_o ≡ outcome_o
unfolding after_o
O-is = run 32 0x80000 16 (ask 0x40200000 0x200000 none) most O0-is O-run

-- ---- T

abbrev without_one : List ℕ → List ℕ
without_one m = set (with_page m) 512 0x2222222222222220

unfoldable pub memory_t0 : List ℕ
memory_t0 = without_one (sets (replicate 8192 0) 32 (0x0000400000080001 ∷ 0x00006000AAAAAAA8 ∷ replicate 30 0x00006000AAAAAAAA))

unfoldable pub outcome_t0 : Outcome
outcome_t0 = left opened memory_t0 slots5 no_fence

T0-is : one_page_short ≡ outcome_t0
unfolding one_page_short memory_t0 outcome_t0 slots5
T0-is =
    ap (λ (m : List ℕ). left opened (set m 512 0x2222222222222220) (set (replicate 8 0) 0 0x1140000000080000) no_fence)
    (sets_pasted (sets (replicate 8192 0) 32 (0x0000400000080001 ∷ 0x00006000AAAAAAA8 ∷ replicate 30 0x00006000AAAAAAAA)) 512 (replicate 512 0x2222222222222222))

unfoldable pub outcome_t : Outcome
outcome_t =
    left (edited 1 true)
    (without_one (sets (replicate 8192 0) 32 (0x00006000AAAAAAAA ∷ 0x00006000AAAAAAA8 ∷ replicate 30 0x00006000AAAAAAAA)))
    slots5 (domain_fence 5)

T-run : quick 32 0x80000 16 outcome_t0 (ask 0x40000000 0x1000 read_write) most ≡ outcome_t
unfolding compute memory_t0 outcome_t0 slots5 outcome_t
T-run = refl

pub T-is : after_t ≡ outcome_t
unfolding after_t
T-is = run 32 0x80000 16 (ask 0x40000000 0x1000 read_write) most T0-is T-run

-- ---- W

unfoldable pub outcome_w : Outcome
outcome_w = left opened (replicate 8192 0) (set (set (set (replicate 8 0) 0 0x1140000000080000) 1 0x1000000000080001) 7 0x1180000000080002) no_fence

W-run : quick_open bench outcome_n.memory outcome_n.slots 7 6 ≡ outcome_w
unfolding compute outcome_n outcome_w
W-run = refl

pub W-is : with_seven ≡ outcome_w
unfolding with_seven
W-is = run_open 32 0x80000 16 7 6 N-is W-run
