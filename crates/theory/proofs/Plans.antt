-- The plan of one call, and what a store of it, or many, keep.
use Rattle.std.specs.Prelude.{if◌then◌else◌}
use mathlib.Core.Path.{◌≡◌, refl, ap, ap₂, ◌∙◌}
use mathlib.Core.Logic.{◌≢◌, ◌⊎◌, inl, inr}
use mathlib.Core.List.{List, [], ◌∷◌, ◌++◌}
use Prim.Native.Nat.{ℕ, suc, ◌+◌, ◌^◌, ◌≤◌, ◌<◌}
use native.Mathlib.Nat.{add-zero}
use native.Mathlib.Omega.{arith}
use lib.ListN.{length, get_or, length-append}
use Rattle.model.specs.Numbers.{digit}
use Rattle.model.specs.Entry.{Entry, perm}
use Rattle.model.specs.Frame.{Frame, blocks, space}
use Rattle.model.specs.Walk.{entry_at, piece_of, pn2, walk}
use Rattle.model.specs.Forms.{Form, Request, after, want_flat, want_pieces, want_table}
use Rattle.model.specs.Stores.{needs_page, new_pages}
use Rattle.laws.proofs.Times.{times}
use Rattle.theory.proofs.Used.{links}
use Rattle.theory.proofs.Frames.{Ok}
use Rattle.theory.proofs.Tables.{Sound}
use Rattle.theory.proofs.Finds.{after_small}

-- ---- forms of a run of blocks

-- a block whose pages are to have the permissions A can be of a form
abbrev pub Fits : Frame → (ℕ → ℕ) → ℕ → Form → Type 0
Fits F A b (want_flat p) = (p < 4) × ((n : ℕ) → pn2 n ≡ b → A n ≡ p)
Fits F A b (want_pieces i) = (i < 4 ^ F.layout.pieces) × ((n : ℕ) → pn2 n ≡ b → A n ≡ digit 4 i (piece_of F.layout n))
Fits F A b want_table = Unit {0}

-- forms of blocks from b on, each with what is asked of its block and form
abbrev pub AllAt : (ℕ → Form → Type 0) → ℕ → List Form → Type 0
AllAt Q b [] = Unit {0}
AllAt Q b (f ∷ fs) = Q b f × AllAt Q (suc b) fs

abbrev pub FitsAll : Frame → (ℕ → ℕ) → ℕ → List Form → Type 0
FitsAll F A = AllAt (Fits F A)

-- ---- the plan

-- One call, as the theory sees it: a frame within its bounds, the roots of a sound table, the root that is edited, the permissions that
-- its pages are to end with, and the finished forms of the blocks from b0 on
pub record Plan : Type 0 where
  pub F : Frame
  pub ok : Ok F
  pub rs : List ℕ
  pub ro : ℕ
  pub here : times ro rs ≡ 1
  pub A : ℕ → ℕ
  pub small : (n : ℕ) → A n < 4
  pub b0 : ℕ
  pub fs : List Form
  pub inside : b0 + length fs ≤ blocks F

-- One block of it: its number, its form, and the forms before and after
pub record Spot (P : Plan) : Type 0 where
  pub b : ℕ
  pub f : Form
  pub pre : List Form
  pub post : List Form
  pub parts : P.fs ≡ pre ++ f ∷ post
  pub at : b ≡ P.b0 + length pre

pub spot_inside : (P : Plan) (s : Spot P) → s.b < blocks P.F
spot_inside P s = omega (arith, P.inside, s.at, ap length s.parts ∙ length-append s.pre (s.f ∷ s.post))

-- A call that finds memory m0 and is asked q: its pages are to end with the permissions after the edit
pub record PlannedCall : Type 0 where
  pub F : Frame
  pub ok : Ok F
  pub rs : List ℕ
  pub ro : ℕ
  pub here : times ro rs ≡ 1
  pub q : Request
  pub low : q.permission < 4
  pub m0 : List ℕ
  pub b0 : ℕ
  pub fs : List Form
  pub inside : b0 + length fs ≤ blocks F

abbrev pub plan_of : PlannedCall → Plan
plan_of C =
    record {
      F = C.F;
      ok = C.ok;
      rs = C.rs;
      ro = C.ro;
      here = C.here;
      A = after C.F C.m0 C.q C.ro;
      small = after_small C.F C.ok C.m0 C.q C.ro C.low;
      b0 = C.b0;
      fs = C.fs;
      inside = C.inside;
    }

-- ---- what a store, or many, keep

module _ (P : Plan) where
  open P use {F, rs, ro, A, b0, fs}

  -- From m to m', which differ in the entries of root ro for the blocks from lo to below hi, in L1 pages and in free pages:
  -- the table is sound; every walk finds what it found, or in ro what A says; the new pages still needed and the pages named are together no more
  pub record Step (lo hi : ℕ) (m m' : List ℕ) : Type 0 where
    pub sound : Sound F rs m'
    pub reads : (r n : ℕ) → 0 < times r rs → n < space F → (walk F m' r n ≡ walk F m r n) ⊎ ((r ≡ ro) × (walk F m' r n ≡ perm (A n)))
    pub entries : (r b : ℕ) → 0 < times r rs → b < blocks F → ((r ≡ ro) × (lo ≤ b) × (b < hi) → ⊥) → entry_at F m' r b ≡ entry_at F m r b
    pub weight : new_pages F m' ro b0 fs + length (links F m' rs) ≤ new_pages F m ro b0 fs + length (links F m rs)
    -- words of an entry's bits stay so
    pub low : ((i : ℕ) → get_or m i 0 < 16 ^ F.layout.fields) → (i : ℕ) → get_or m' i 0 < 16 ^ F.layout.fields

  pub step_refl : (lo hi : ℕ) (m : List ℕ) → Sound F rs m → Step lo hi m m
  step_refl lo hi m s = record { sound = s; reads = λ r n l u. inl refl; entries = λ r b l u ne. refl; weight = omega arith; low = λ h. h }

  pub step_trans : (lo hi : ℕ) (m m' m'' : List ℕ) → Step lo hi m m' → Step lo hi m' m'' → Step lo hi m m''
  step_trans lo hi m m' m'' p q =
      record {
        sound = q.sound;
        reads = λ r n l u. join_reads r n (p.reads r n l u) (q.reads r n l u);
        entries = λ r b l u ne. q.entries r b l u ne ∙ p.entries r b l u ne;
        weight = omega (arith, p.weight, q.weight);
        low = λ h. q.low (p.low h);
      }
    where
      join_reads : (r n : ℕ)
          → (walk F m' r n ≡ walk F m r n) ⊎ ((r ≡ ro) × (walk F m' r n ≡ perm (A n)))
          → (walk F m'' r n ≡ walk F m' r n) ⊎ ((r ≡ ro) × (walk F m'' r n ≡ perm (A n)))
          → (walk F m'' r n ≡ walk F m r n) ⊎ ((r ≡ ro) × (walk F m'' r n ≡ perm (A n)))
      join_reads r n (inl e) (inl e') = inl (e' ∙ e)
      join_reads r n (inr e) (inl e') = inr (e.0, e' ∙ e.1)
      join_reads r n (inl e) (inr e') = inr e'
      join_reads r n (inr e) (inr e') = inr e'

  pub step_widen : (lo hi lo' hi' : ℕ) (m m' : List ℕ) → lo' ≤ lo → hi ≤ hi' → Step lo hi m m' → Step lo' hi' m m'
  step_widen lo hi lo' hi' m m' l h p =
      record {
        sound = p.sound;
        reads = p.reads;
        entries = λ r b z u ne. p.entries r b z u (λ k. ne (k.0, omega (arith, k.1), omega (arith, k.2)));
        weight = p.weight;
        low = p.low;
      }

-- the new pages needed depend on the entries
pub new_pages_same : (F : Frame) (m m' : List ℕ) (ro b : ℕ) (fs : List Form) → ((c : ℕ) → b ≤ c → c < b + length fs → entry_at F m' ro c ≡ entry_at F m ro c)
    → new_pages F m' ro b fs ≡ new_pages F m ro b fs
unfolding new_pages
new_pages_same F m m' ro b [] h = refl
new_pages_same F m m' ro b (f ∷ fs) h =
    ap₂ (λ (e : Entry) (k : ℕ). (if needs_page f e then 1 else 0) + k) (h b (omega arith) (omega arith))
    (new_pages_same F m m' ro (suc b) fs (λ c lo hi. h c (omega arith) (omega arith)))

unfoldable pub need : Form → Entry → ℕ
need f e = if needs_page f e then 1 else 0

-- and where one entry changes
pub new_pages_change : (F : Frame) (m m' : List ℕ) (ro b : ℕ) (pre : List Form) (f : Form) (post : List Form)
    → ((c : ℕ) → b ≤ c → c < b + length (pre ++ f ∷ post) → c ≢ b + length pre → entry_at F m' ro c ≡ entry_at F m ro c)
    → new_pages F m' ro b (pre ++ f ∷ post) + need f (entry_at F m ro (b + length pre)) ≡ new_pages F m ro b (pre ++ f ∷ post) + need f (entry_at F m' ro (b + length pre))
unfolding new_pages need
new_pages_change F m m' ro b [] f post h =
    let rest : new_pages F m' ro (suc b) post ≡ new_pages F m ro (suc b) post
    = new_pages_same F m m' ro (suc b) post (λ c lo hi. h c (omega arith) (omega arith) (λ z. omega (arith, z))) in
    rw (add-zero b) (omega arith)
new_pages_change F m m' ro b (g ∷ pre) f post h =
    let here : entry_at F m' ro b ≡ entry_at F m ro b = h b (omega arith) (omega arith) (λ z. omega (arith, z)) in
    let z : b + suc (length pre) ≡ suc b + length pre = omega arith in
    let rest = new_pages_change F m m' ro (suc b) pre f post (λ c lo hi ne. h c (omega arith) (omega arith) (λ y. ne (y ∙ z))) in
    rw (z, here) (omega (arith, rest))
