-- The claim: every case marked * holds. And the cases beside them.
-- The idea: a state is what it is in numbers (`States`), and what those answer is computed (`Answers`).
use mathlib.Core.Path.{refl, ap, ◌∙◌}
use lib.ListN.{take, drop}
use Rattle.model.specs.Access.{itself, table_read, fetch, load, store}
use Rattle.model.specs.Calls.{Outcome, Reply}
use Rattle.cases.specs.Bench.{bench, small_bench, bad_bench, none, rx, read_write, rwx, ask, ask_of, most, opens, closes, look, look_by, register_at, l2, l1, eight_bytes, free_pages_of, words_stored, top_digit, two_roots, from_before}
use Rattle.cases.specs.Cases.{AllOf, done, both, marked_cases, other_cases}
use Rattle.cases.proofs.Compute.{compute, runs}
use Rattle.cases.proofs.States.{slots5, memory_new, outcome_new, new_is, memory_c, outcome_c, C-is, outcome_f, F-is, memory_g, outcome_g, G-is, outcome_h, H-is, outcome512, D512-is, outcome513, D513-is, outcome_k1, K1-is, outcome_k2, K2-is, outcome_l, L-is, outcome_m, M-is, outcome_m2, M2-is, outcome_n, N-is, outcome_o, O-is, outcome_t, T-is, W-is}
use Rattle.cases.proofs.Answers.{gib, A-load, D-load512, D-load513, D-beside, E-store, E-fetch, E-table, I-load, L-load, L-swapped, P-load, R-load, U-look_frame, U-look_register, V-load, V-own_none, V-beside, V-own, V-lowest, V-close, D-again, I-edit, I-past, J-lent, J-beside, J-none, K-full, K-freed, N-held, N-close, N-first, N-full, P-close, R-close, S-close, U-frame, U-unsound, U-slot, U-range, U-lent, U-open_frame, U-open_unsound, U-open_slot, U-open_sdid, U-close_frame, U-close_unsound, U-close_slot, G-stored, G-free, O-free, S-free, Q-bytes, W-one, W-zero, W-seven, W-empty, W-range, W-lent, W-lent_zero, W-none, W-rx, W-rw, W-full, W-full_rw, W-fetch, W-store, W-close, W-began, W-stays, W-rest}

abbrev reply_of : Outcome → Reply
reply_of o = o.reply

pub claim : AllOf marked_cases
unfolding compute slots5 memory_new outcome_new memory_c outcome_c outcome_f memory_g outcome_g outcome_h
claim =
    both (ap (λ (o : Outcome). register_at o 0) new_is)
    (both (ap (λ (o : Outcome). look o 0x40000000 (itself load)) new_is ∙ A-load)
    (both refl
    (both refl
    (both refl
    (both (ap reply_of C-is)
    (both (ap (λ (o : Outcome). o.fence) C-is)
    (both (ap (λ (o : Outcome). l2 o 32) C-is)
    (both (ap (λ (o : Outcome). take 31 (drop 33 o.memory)) C-is)
    (both (ap (λ (o : Outcome). look o 0x40000FFF (itself store)) C-is ∙ E-store)
    (both (ap (λ (o : Outcome). look o 0x40000FFF (itself fetch)) C-is ∙ E-fetch)
    (both (ap (λ (o : Outcome). look o 0x40001000 (table_read store)) C-is ∙ E-table)
    (both (ap (λ (o : Outcome). l1 o 0) C-is)
    (both (ap reply_of F-is)
    (both (ap (λ (o : Outcome). l1 o 0) F-is)
    (both (ap (λ (o : Outcome). o.fence) F-is)
    (both (ap reply_of G-is)
    (both (ap (λ (o : Outcome). words_stored o gib) C-is ∙ G-stored)
    (both (ap free_pages_of G-is ∙ G-free)
    (both (ap reply_of H-is)
    (both (ap (λ (o : Outcome). l2 o 32) H-is)
    (both (runs 32 0x80000 16 reply_of (ask 0xFFFFF000 0x1000 read_write) most new_is I-edit)
    (both (runs 32 0x80000 16 reply_of (ask 0xFFFFF000 0x2000 read_write) most new_is I-past)
    (both (ap (λ (o : Outcome). look o 0x100000000 (itself load)) new_is ∙ I-load)
    (both (runs 32 0x80000 16 reply_of (ask 0x8000F000 0x1000 read_write) most new_is J-lent)
    (both (runs 32 0x80000 16 reply_of (ask 0x80010000 0x1000 read_write) most new_is J-beside)
    (both (runs 32 0x80000 16 reply_of (ask 0x8000F000 0x1000 none) most new_is J-none)
    done))))))))))))))))))))))))))

pub others : AllOf other_cases
unfolding compute slots5 outcome512 outcome513 outcome_k1 outcome_k2 outcome_l outcome_m outcome_m2 outcome_n outcome_o outcome_t
others =
    both (ap reply_of D512-is)
    (both (ap (λ (o : Outcome). look o 0x40000000 (itself load)) D512-is ∙ D-load512)
    (both (ap reply_of D513-is)
    (both (ap (λ (o : Outcome). look o 0x40000000 (itself load)) D513-is ∙ D-load513)
    (both (ap (λ (o : Outcome). look o 0x40001000 (itself load)) D513-is ∙ D-beside)
    (both (runs 32 0x80000 16 reply_of (ask 0x40000000 0x1000 read_write) most D513-is D-again)
    (both (ap reply_of K1-is)
    (both (runs 32 0x80000 2 reply_of (ask 0x42000000 0x1000 read_write) most K1-is K-full)
    (both (ap reply_of K2-is)
    (both (runs 32 0x80000 2 reply_of (ask 0x42000000 0x1000 read_write) most K2-is K-freed)
    (both (ap reply_of L-is)
    (both (ap (λ (o : Outcome). l1 o 5) L-is)
    (both (ap (λ (o : Outcome). look o 0x40059FFF (itself load)) L-is ∙ L-load)
    (both (ap (λ (o : Outcome). look o 0x40095000 (itself load)) L-is ∙ L-swapped)
    (both (ap reply_of M-is)
    (both (ap (λ (o : Outcome). l2 o 95) M-is)
    (both (ap (λ (o : Outcome). l2 o 96) M-is)
    (both (ap reply_of M2-is)
    (both (ap (λ (o : Outcome). take 2 (drop 95 o.memory)) M2-is)
    (both (ap (λ (o : Outcome). register_at o 1) N-is)
    (both (ap (λ (o : Outcome). (opens bench o 2 0).reply) N-is ∙ N-held)
    (both (ap (λ (o : Outcome). (closes o 1).fence) N-is ∙ N-close)
    (both (ap (λ (o : Outcome). (opens small_bench o 1 5).reply) K1-is ∙ N-first)
    (both (ap (λ (o : Outcome). (opens small_bench o 1 0).reply) K1-is ∙ N-full)
    (both (ap reply_of O-is)
    (both (ap (λ (o : Outcome). l2 o 32) O-is)
    (both (ap free_pages_of O-is ∙ O-free)
    (both P-load
    (both P-close
    (both (ap (λ (o : Outcome). eight_bytes o 256) C-is ∙ Q-bytes)
    (both R-load
    (both R-close
    (both S-free
    (both S-close
    (both (ap reply_of T-is)
    (both (ap (λ (o : Outcome). l2 o 32) T-is)
    (both (ap (λ (o : Outcome). o.fence) T-is)
    (both (runs 32 0 16 reply_of {o = top_digit} (ask_of 8 0x8000F000 0x800 read_write) most refl U-frame)
    (both (runs 32 0x80000 16 reply_of {o = top_digit} (ask_of 8 0x8000F000 0x800 read_write) most refl U-unsound)
    (both (runs 32 0x80000 16 reply_of (ask_of 8 0x8000F000 0x800 read_write) most new_is U-slot)
    (both (runs 32 0x80000 16 reply_of (ask 0x8000F000 0x800 read_write) most new_is U-range)
    (both (runs 32 0x80000 2 reply_of (ask 0x80000000 0x1000 read_write) most K1-is U-lent)
    (both U-open_frame
    (both U-open_unsound
    (both (ap (λ (o : Outcome). (opens bench o 8 64).reply) new_is ∙ U-open_slot)
    (both (ap (λ (o : Outcome). (opens bench o 1 64).reply) new_is ∙ U-open_sdid)
    (both U-close_frame
    (both U-close_unsound
    (both (ap (λ (o : Outcome). (closes o 8).reply) new_is ∙ U-close_slot)
    (both (ap (λ (o : Outcome). look_by bad_bench 0x2140000000080000 o 0x40000000 (itself load)) new_is ∙ U-look_frame)
    (both (ap (λ (o : Outcome). look_by bench 0x2140000000080000 o 0x40000000 (itself load)) new_is ∙ U-look_register)
    (both V-load
    (both V-own_none
    (both V-beside
    (both V-own
    (both V-lowest
    (both V-close
    (both (runs 32 0x80000 16 reply_of (ask_of 1 0x40000000 0x1000 rwx) most N-is W-one)
    (both (runs 32 0x80000 16 reply_of (ask 0x40000000 0x1000 rwx) most N-is W-zero)
    (both (runs 32 0x80000 16 reply_of (ask_of 7 0x40000000 0x1000 rwx) most W-is W-seven)
    (both (runs 32 0x80000 16 reply_of (ask_of 2 0x40000000 0x1000 rwx) most N-is W-empty)
    (both (runs 32 0x80000 16 reply_of (ask_of 1 0x8000F000 0x800 rwx) most N-is W-range)
    (both (runs 32 0x80000 16 reply_of (ask_of 1 0x8000F000 0x1000 rwx) most N-is W-lent)
    (both (runs 32 0x80000 16 reply_of (ask 0x8000F000 0x1000 rwx) most N-is W-lent_zero)
    (both (runs 32 0x80000 16 reply_of (ask_of 1 0x40000000 0x1000 none) most N-is W-none)
    (both (runs 32 0x80000 16 reply_of (ask_of 1 0x40000000 0x1000 rx) most N-is W-rx)
    (both (runs 32 0x80000 16 reply_of (ask_of 1 0x40000000 0x1000 read_write) most N-is W-rw)
    (both (runs 32 0x80000 2 reply_of {o = two_roots} (ask_of 1 0x40000000 0x1000 rwx) most refl W-full)
    (both (runs 32 0x80000 2 reply_of {o = two_roots} (ask_of 1 0x40000000 0x1000 read_write) most refl W-full_rw)
    (both W-fetch
    (both W-store
    (both W-close
    (both (runs 32 0x80000 16 reply_of {o = from_before} (ask_of 1 0x40000000 0x1000 rwx) most refl W-began)
    (both (runs 32 0x80000 16 (λ (o : Outcome). l1 o 0) {o = from_before} (ask_of 1 0x40001000 0x1000 read_write) most refl W-stays)
    (both (runs 32 0x80000 16 (λ (o : Outcome). take 2 (drop 1024 o.memory)) {o = from_before} (ask_of 1 0xC0000000 0x1000 rx) most refl W-rest)
    done))))))))))))))))))))))))))))))))))))))))))))))))))))))))))))))))))))))))))
