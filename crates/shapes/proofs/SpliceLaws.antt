-- Words spliced from the old one and the asked permission: what a range leaves of a run of digits.
use mathlib.Core.Path.{◌≡◌, sym, ap}
use Prim.Native.Nat.{ℕ, ◌+◌, ◌*◌, ◌/◌, ◌%◌, ◌^◌, ◌<◌}
use native.Mathlib.Omega.{arith}
use Rattle.laws.proofs.Splices.{spliced, band_pack}
use Rattle.model.specs.Forms.{Request}
use Rattle.model.specs.Numbers.{pack}
use Rattle.shapes.specs.Words.{ones, mixed_at}
use Rattle.types.specs.Range.{Cut}
use Rattle.laws.proofs.InRange.{first_page, past_page, within, under, over}
use Rattle.shapes.proofs.Fields.{pow_times, const_digit, outside}

-- a splice at a digit of c bits
pub splice_bits : (c k x y : ℕ) → spliced 2 (c * k) x y ≡ spliced (2 ^ c) k x y
splice_bits c k x y = ap (λ (p : ℕ). x % p + y / p * p) (pow_times 2 c k)

-- of the n pages from s those from lo to hi lie in the range: the L1 entry of these pages
pub mixed_spliced : (q : Request) {s n lo hi : ℕ} → Cut (first_page q) s n lo → Cut (past_page q) s n hi → (old : ℕ) → old < 16 ^ n → q.permission < 4
    → spliced 16 hi (spliced 16 lo old (q.permission * ones 16 n)) old ≡ pack 16 (mixed_at q old s) n s
mixed_spliced q {s} {n} {lo} {hi} from to old fits low =
    band_pack 16 (omega arith) n s lo hi old (q.permission * ones 16 n) (mixed_at q old s) to.few fits
    (λ i u h. sym (outside q old s i (under q (s + i) (omega arith))))
    (λ i u l h. rw (within q (s + i) (omega (arith, from.past (omega arith))) (omega arith)) (sym (const_digit 15 q.permission n i (omega arith) (omega arith) u)))
    (λ i u h. sym (outside q old s i (over q (s + i) (omega (arith, to.past (omega arith))))))
