-- Nobody reads a neighbour: the premises and the claims. Open this file first. Each claim is proved, in proofs/Neighbours.antt, for all slots and
-- every frame whose layout is lawful with words * entryBytes ≡ 4096. rv64 and rv32 are such layouts (`rv64_item13`, `rv32_item13`).
use Rattle.std.specs.Prelude.{◌≡◌, ◌⊎◌, ◌≢◌, true, false, List, [], ◌∷◌, ℕ, ◌≤◌, ◌<◌, length}
use Rattle.model.specs.Layout.{slot_count}
use Rattle.model.specs.Frame.{Frame, page_of, frame_ok, word_at}
use Rattle.model.specs.Access.{original_of, cause_of, allowed, fault}
use Rattle.model.specs.Sound.{Slot, sound}
use Rattle.model.specs.Apart.{Strength, strict, sharing, apart, opens, reaches, table_page, apart_answer}
use Rattle.model.specs.Demands.{Domain}
use Rattle.isolation.specs.Board.{Board, board_pages, holds, load_byte, table_of}
use Rattle.isolation.specs.Run.{Action, kind_of, Output, actions_of, Follows, answer, outputs_of, final}

module _ (F : Frame) (slots : List Slot) where
  -- ---- the premises

  -- of a table. strict is item 13's own, sharing is ours and asks less: domains may share pages that none of them may write
  pub record Apart (s : Strength) (m : List ℕ) : Type 0 where
    -- "Take a sound table"
    pub frame : frame_ok F m ≡ true
    pub sounds : sound F m slots ≡ true
    -- "no page open to two domains": `reaches` of strict is `opens`, and of sharing `writes`
    pub pages : (r r' page : ℕ) → Domain F slots r → Domain F slots r' → r ≢ r' → opens F m r page ≡ true → reaches F m s r' page ≡ false
    -- "no table page open to any": in sharing, written by none
    pub table : (r page : ℕ) → Domain F slots r → table_page F m slots page ≡ true → reaches F m s r page ≡ false

  -- of the memory: "that holds .. every page open to anyone". Our own claims ask this alone, of memory of any size
  abbrev pub Held : Board → Type 0
  Held B = (r page : ℕ) → Domain F slots r → opens F (table_of F B) r page ≡ true → holds B page ≡ true

  -- item 13's own: "board memory of at most 16 pages that holds the table and every page open to anyone"
  pub record Bench (B : Board) : Type 0 where
    pub few : length B ≤ board_pages
    pub table_held : (page : ℕ) → table_page F (table_of F B) slots page ≡ true → holds B page ≡ true
    pub open_held : Held B

  -- "the same .. table": the words of its pages. Lent pages that are not in use may differ
  abbrev pub SameTable : List ℕ → List ℕ → Type 0
  SameTable m m' = (page i : ℕ) → table_page F m slots page ≡ true → i < F.layout.words → word_at F m' page i ≡ word_at F m page i

  -- the same "bytes in one domain's pages", which are those that are open to it
  abbrev pub SameBytes : ℕ → List ℕ → Board → Board → Type 0
  SameBytes r m B B' = (address : ℕ) → opens F m r (page_of address) ≡ true → load_byte B address ≡ load_byte B' address

  -- "Two runs that start with the same frame, slots, table and bytes in one domain's pages": frame and slots are those above
  pub record Start (memory : Board → Type 0) (r : ℕ) (B B' : Board) : Type 0 where
    pub domain : Domain F slots r
    pub board : memory B
    pub board' : memory B'
    pub table : SameTable (table_of F B) (table_of F B')
    pub bytes : SameBytes r (table_of F B) B B'

  -- "Domains load and store": so each access is by a register of an open slot, which in a sound table has MODE 1: "no Bare"
  abbrev pub ByDomains : List Action → Type 0
  ByDomains [] = Unit {0}
  ByDomains (a ∷ acts) = Domain F slots a.by × ByDomains acts

  -- ---- the claims

  -- "give that domain the same bytes and the same faults"; and, which is ours, leave the same bytes in its pages
  pub record Alike (r : ℕ) (B B' : Board) (acts acts' : List Action) : Type 0 where
    pub outputs : outputs_of F r B acts ≡ outputs_of F r B' acts'
    pub bytes : SameBytes r (table_of F B) (final F B acts) (final F B' acts')

  -- "with the same accesses and stored bytes by that domain in the same order, whatever the others do and whatever their pages first held"
  abbrev pub NobodyReads : (List ℕ → Type 0) → (Board → Type 0) → Type 0
  NobodyReads table memory =
      (r : ℕ) (B B' : Board) (acts acts' : List Action)
      → table (table_of F B)
      → Start memory r B B'
      → ByDomains acts
      → ByDomains acts'
      → actions_of r acts ≡ actions_of r acts'
      → Alike r B B' acts acts'

  -- item 13
  abbrev pub Item13 : Type 0
  Item13 = NobodyReads (Apart strict) Bench

  -- ours: the same in memory of any size, where domains share pages that none of them may write
  abbrev pub WithShared : Type 0
  WithShared = NobodyReads (Apart sharing) Held

  -- ours: the same by the call that tests a table, which asks the first eight slots: there are no more
  abbrev pub Tested : Strength → Type 0
  Tested s = length slots ≡ slot_count → NobodyReads (λ m. apart_answer F m slots s ≡ apart) Held

  -- and the call answers so exactly where the premises of a table hold
  abbrev pub Exact : Strength → Type 0
  Exact s =
      length slots ≡ slot_count
      → (m : List ℕ)
      → (apart_answer F m slots s ≡ apart → Apart s m) × (Apart s m → apart_answer F m slots s ≡ apart)

  -- "any other access faults as a lookup says": in a run no access is refused, each is allowed or faults as one of its kind
  abbrev pub AllowedOrFaults : Strength → Type 0
  AllowedOrFaults s =
      (B : Board) (acts : List Action) (a : Action)
      → Apart s (table_of F B)
      → ByDomains acts
      → Domain F slots a.by
      → (answer F (final F B acts) a ≡ allowed) ⊎ (answer F (final F B acts) a ≡ fault (cause_of (original_of (kind_of a.operation))))

  -- ours: a domain that chooses each access by what it was given makes the same ones in both runs. Nothing of the others reaches it to choose by
  abbrev pub NothingReaches : Strength → Type 0
  NothingReaches s =
      (r : ℕ) (choose : List Output → Action) (B B' : Board) (acts acts' : List Action)
      → Apart s (table_of F B)
      → Start Held r B B'
      → ByDomains acts
      → ByDomains acts'
      → Follows choose [] (actions_of r acts) (outputs_of F r B acts)
      → Follows choose [] (actions_of r acts') (outputs_of F r B' acts')
      → length (actions_of r acts) ≡ length (actions_of r acts')
      → (actions_of r acts ≡ actions_of r acts') × Alike r B B' acts acts'
