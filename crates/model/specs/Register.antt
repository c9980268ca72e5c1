-- The register mmpt. On RV64: PPN bits 43:0, WPRI 53:44, SDID 59:54, MODE 63:60.
use Rattle.std.specs.Prelude.{Bool, ◌&&◌, ◌||◌, ℕ, ◌+◌, ◌*◌, ◌/◌, ◌%◌, ◌^◌, eqb}
use Rattle.model.specs.Layout.{Layout}

module _ (L : Layout) where
  -- the page number of the root
  unfoldable pub ppn_of : ℕ → ℕ
  ppn_of r = r % 2 ^ L.info_bits

  unfoldable pub wpri_of : ℕ → ℕ
  wpri_of r = r / 2 ^ L.info_bits % 2 ^ L.wpri_bits

  -- the supervisor domain's number, six bits
  unfoldable pub sdid_of : ℕ → ℕ
  sdid_of r = r / 2 ^ (L.info_bits + L.wpri_bits) % 64

  unfoldable pub mode_of : ℕ → ℕ
  mode_of r = r / 2 ^ (L.info_bits + L.wpri_bits + 6)

  -- "MODE 1, that SDID and that page, WPRI zero"
  unfoldable pub register_of : ℕ → ℕ → ℕ
  register_of sdid root = 2 ^ (L.info_bits + L.wpri_bits + 6) + sdid * 2 ^ (L.info_bits + L.wpri_bits) + root

  -- "MODE 0 is Bare"
  unfoldable pub is_bare : ℕ → Bool
  is_bare r = eqb (mode_of r) 0

  -- "MODE 0 is Bare, 1 is Smmpt46; others are refused in the base. Bare with PPN or SDID not zero is refused." WPRI is ignored
  unfoldable pub register_ok : ℕ → Bool
  register_ok r = eqb (mode_of r) 1 || (eqb (mode_of r) 0 && eqb (ppn_of r) 0 && eqb (sdid_of r) 0)
