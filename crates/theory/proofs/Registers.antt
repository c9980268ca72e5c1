-- A register that opening makes: each of its fields is read back.
use mathlib.Core.Path.{◌≡◌, sym, ap, ◌∙◌, subst}
use mathlib.Core.Bool.{true, not}
use Prim.Native.Nat.{ℕ, ◌+◌, ◌*◌, ◌/◌, ◌%◌, ◌^◌, ◌≤◌, ◌<◌}
use native.Mathlib.Nat.{add-zero, add-mul, mul_assoc, mul_comm, mul-one, mul-le-mul_left, div-div-eq-div-mul, lt_of_lt_of_le}
use native.Mathlib.Omega.{arith}
use lib.Arith.{digits_div, digits_mod}
use lib.Pow.{pow-add, pow_pos}
use borrow.Author.Tests.{ne_eqb}
use Rattle.model.specs.Layout.{Layout}
use Rattle.model.specs.Register.{mode_of, ppn_of, register_of, sdid_of, wpri_of}
use Rattle.model.specs.Sound.{is_open}

module _ (L : Layout) (sdid root : ℕ) (small : sdid < 64) (fits : root < 2 ^ L.info_bits) where
  abbrev A : ℕ
  A = 2 ^ L.info_bits

  abbrev W : ℕ
  W = 2 ^ L.wpri_bits

  abbrev r : ℕ
  r = register_of L sdid root

  -- by the fields above PPN, and by those above WPRI
  above_wpri : r ≡ (64 + sdid) * 2 ^ (L.info_bits + L.wpri_bits) + root
  unfolding register_of
  above_wpri =
      let K : ℕ = 2 ^ (L.info_bits + L.wpri_bits) in
      let a : 2 ^ (L.info_bits + L.wpri_bits + 6) ≡ K * 64 = pow-add 2 (L.info_bits + L.wpri_bits) 6 in
      let b : (64 + sdid) * K ≡ 64 * K + sdid * K = add-mul 64 sdid K in
      omega (arith, a, b)

  above_ppn : r ≡ (64 + sdid) * W * A + root
  above_ppn =
      above_wpri
      ∙ ap (λ (k : ℕ). (64 + sdid) * k + root) (pow-add 2 L.info_bits L.wpri_bits ∙ mul_comm A W)
      ∙ ap (λ (k : ℕ). k + root) (sym (mul_assoc (64 + sdid) W A))

  root_low : root < 2 ^ (L.info_bits + L.wpri_bits)
  root_low =
      lt_of_lt_of_le fits
      (subst (λ (k : ℕ). A ≤ k) (sym (pow-add 2 L.info_bits L.wpri_bits)) (subst (λ (k : ℕ). k ≤ A * W) (mul-one A) (mul-le-mul_left A (pow_pos L.wpri_bits))))

  pub register_ppn : ppn_of L r ≡ root
  unfolding ppn_of
  register_ppn = ap (λ (k : ℕ). k % A) above_ppn ∙ digits_mod ((64 + sdid) * W) fits

  pub register_wpri : wpri_of L r ≡ 0
  unfolding wpri_of
  register_wpri =
      ap (λ (k : ℕ). k / A % W) above_ppn
      ∙ ap (λ (k : ℕ). k % W) (digits_div ((64 + sdid) * W) fits ∙ sym (add-zero _))
      ∙ digits_mod (64 + sdid) (pow_pos L.wpri_bits)

  above : r / 2 ^ (L.info_bits + L.wpri_bits) ≡ 64 + sdid
  above = ap (λ (k : ℕ). k / 2 ^ (L.info_bits + L.wpri_bits)) above_wpri ∙ digits_div (64 + sdid) root_low

  pub register_sdid : sdid_of L r ≡ sdid
  unfolding sdid_of
  register_sdid = ap (λ (k : ℕ). k % 64) above ∙ omega arith

  pub register_mode : mode_of L r ≡ 1
  unfolding mode_of
  register_mode =
      ap (λ (k : ℕ). r / k) (pow-add 2 (L.info_bits + L.wpri_bits) 6)
      ∙ sym (div-div-eq-div-mul r (2 ^ (L.info_bits + L.wpri_bits)) 64)
      ∙ ap (λ (k : ℕ). k / 64) above
      ∙ omega arith

  pub register_open : is_open (register_of L sdid root) ≡ true
  unfolding is_open register_of
  register_open =
      ap not (ne_eqb (register_of L sdid root) 0 (λ z. omega (arith, z, pow_pos (L.info_bits + L.wpri_bits + 6))))
