-- One access, in a board whose table pages hold the words of a table m that keeps its domains apart: it is answered as m answers it, and it
-- changes neither a table page nor a page of a domain that did not make it.
use mathlib.Core.Path.{◌≡◌, refl, sym, ap, ◌∙◌, subst}
use mathlib.Core.Bool.{Bool, true, false, ◌||◌, true≢false}
use mathlib.Core.Logic.{◌≢◌}
use mathlib.Core.List.{List}
use Prim.Native.Nat.{ℕ, ◌*◌}
use lib.Dec.{eqb}
use borrow.Author.Tests.{eqb-true, eqb-false}
use Rattle.model.specs.Bytes.{entry_bytes}
use Rattle.model.specs.Register.{ppn_of}
use Rattle.model.specs.Entry.{Found, perm, faults}
use Rattle.model.specs.Frame.{Frame, page_of}
use Rattle.model.specs.Walk.{walk}
use Rattle.model.specs.Access.{Kind, Need, Answer, read, write, execute, need_of, may, judge}
use Rattle.model.specs.Lookup.{reads}
use Rattle.model.specs.Sound.{Slot}
use Rattle.model.specs.Apart.{grants, grants_any, Strength, strict, sharing, opens, writes, reaches}
use Rattle.model.specs.Demands.{Domain}
use Rattle.laws.proofs.Choices.{split}
use Rattle.theory.proofs.Entries.{Lawful}
use Rattle.theory.proofs.TablePages.{sounds, table_lent}
use Rattle.isolation.specs.Board.{Board, holds, table_of}
use Rattle.isolation.specs.Run.{Operation, loads, fetches, stores, Action, kind_of, Output, is_allowed, gives, changes, answer, output, next}
use Rattle.isolation.specs.Neighbours.{Apart, SameTable, SameBytes}
use Rattle.isolation.proofs.Bytes.{byte_other, byte_here, holds_put, table_length, word_put}
use Rattle.isolation.proofs.Walking.{lookup_reads}

pub never_true : (b : Bool) → (b ≡ true → ⊥) → b ≡ false
never_true true h = absurd (h refl)
never_true false h = refl

-- ---- what is allowed, granted, open and reached

pub judge_grants : (f : Found) (kind : Kind) → is_allowed (judge f kind) ≡ grants f (need_of kind)
unfolding judge grants is_allowed
judge_grants (perm p) kind = split (may p (need_of kind)) (λ q. rw q refl) (λ q. rw q refl)
judge_grants faults kind = refl

any_of : (f : Found) (need : Need) → grants f need ≡ true → grants_any f ≡ true
unfolding grants_any
any_of f read h = rw h refl
any_of f write h = split (grants f read) (λ q. rw q refl) (λ q. rw (q, h) refl)
any_of f execute h = split (grants f read || grants f write) (λ q. rw q refl) (λ q. rw q h)

module _ (F : Frame) (m : List ℕ) where
  pub writes_reach : (s : Strength) (r page : ℕ) → writes F m r page ≡ true → reaches F m s r page ≡ true
  unfolding writes opens reaches
  writes_reach strict r page h = any_of (walk F m (ppn_of F.layout r) page) write h
  writes_reach sharing r page h = h

  pub reaches_open : (s : Strength) (r page : ℕ) → reaches F m s r page ≡ true → opens F m r page ≡ true
  unfolding reaches
  reaches_open strict r page h = h
  reaches_open sharing r page h = rw (writes_reach strict r page h)

  -- an access that m allows
  pub allowed_open : (r address : ℕ) (kind : Kind) → is_allowed (reads F m r address kind) ≡ true → opens F m r (page_of address) ≡ true
  unfolding reads opens
  allowed_open r address kind h =
      any_of (walk F m (ppn_of F.layout r) (page_of address)) (need_of kind) (sym (judge_grants (walk F m (ppn_of F.layout r) (page_of address)) kind) ∙ h)

  store_writes : (r address v : ℕ) → is_allowed (reads F m r address (kind_of (stores v))) ≡ true → writes F m r (page_of address) ≡ true
  unfolding reads writes kind_of need_of
  store_writes r address v h = sym (judge_grants (walk F m (ppn_of F.layout r) (page_of address)) (kind_of (stores v))) ∙ h

-- what m answers to an access
abbrev pub answer_in : Frame → List ℕ → Action → Answer
answer_in F m a = reads F m a.by a.address (kind_of a.operation)

module _ (F : Frame) (slots : List Slot) (m : List ℕ) where
  -- a board holds the pages that are open in m
  abbrev pub HeldIn : Board → Type 0
  HeldIn B = (r page : ℕ) → Domain F slots r → opens F m r page ≡ true → holds B page ≡ true

  -- two boards alike in the pages of r: the first stands in a run, beside the second m answers
  pub record Pair (r : ℕ) (B C : Board) : Type 0 where
    pub table : SameTable F slots m (table_of F B)
    pub held : HeldIn B
    pub held' : HeldIn C
    pub bytes : SameBytes F slots r m B C

module _ (F : Frame) (lawful : Lawful F.layout) (whole : F.layout.words * entry_bytes F.layout ≡ 4096) (slots : List Slot)
    (s : Strength) (m : List ℕ) (kept : Apart F slots s m) where
  pub answer_in_lem : (B : Board) → SameTable F slots m (table_of F B) → (a : Action) → Domain F slots a.by → answer F B a ≡ answer_in F m a
  unfolding answer
  answer_in_lem B same a d =
      lookup_reads F lawful slots m kept.frame kept.sounds (table_of F B)
      (table_length F B ∙ sym (sounds F lawful slots m kept.frame kept.sounds).size) same a.by a.address (kind_of a.operation) d

  -- ---- what an allowed access leaves

  changes_table : (B : Board) (r x : ℕ) (o : Operation) → Domain F slots r → is_allowed (reads F m r x (kind_of o)) ≡ true
      → SameTable F slots m (table_of F B) → SameTable F slots m (table_of F (changes B x o))
  unfolding changes
  changes_table B r x loads d g same page i h u = same page i h u
  changes_table B r x fetches d g same page i h u = same page i h u
  changes_table B r x (stores v) d g same page i h u =
      word_put F whole B x v page i (table_lent F lawful slots m kept.frame kept.sounds page h) u
      (λ z. true≢false (sym (writes_reach F m s r (page_of x) (store_writes F m r x v g)) ∙ ap (reaches F m s r) z ∙ kept.table r page d h))
      ∙ same page i h u

  -- what any access leaves
  pub next_table : (B : Board) (a : Action) → Domain F slots a.by → SameTable F slots m (table_of F B) → SameTable F slots m (table_of F (next B a (answer F B a)))
  unfolding next
  next_table B a d same =
      rw (answer_in_lem B same a d)
      (split (is_allowed (answer_in F m a)) (λ q. rw q (changes_table B a.by a.address a.operation d q same)) (λ q. rw q same))

  changes_held : (B : Board) (x : ℕ) (o : Operation) → HeldIn F slots m B → HeldIn F slots m (changes B x o)
  unfolding changes
  changes_held B x loads held r page d z = held r page d z
  changes_held B x fetches held r page d z = held r page d z
  changes_held B x (stores v) held r page d z = holds_put B x v page ∙ held r page d z

  module _ (r : ℕ) (dr : Domain F slots r) where
    -- made in both by r
    changes_own : (B C : Board) (x : ℕ) (o : Operation) → opens F m r (page_of x) ≡ true → HeldIn F slots m B → HeldIn F slots m C
        → SameBytes F slots r m B C → SameBytes F slots r m (changes B x o) (changes C x o)
    unfolding changes
    changes_own B C x loads g hb hc same y z = same y z
    changes_own B C x fetches g hb hc same y z = same y z
    changes_own B C x (stores v) g hb hc same y z =
        split (eqb y x)
        (λ q. rw (eqb-true y x q) (byte_here B x v (hb r (page_of x) dr g) ∙ sym (byte_here C x v (hc r (page_of x) dr g))))
        (λ q. byte_other B x v y (eqb-false y x q) ∙ same y z ∙ sym (byte_other C x v y (eqb-false y x q)))

    gives_same : (B C : Board) (x : ℕ) (o : Operation) → opens F m r (page_of x) ≡ true → SameBytes F slots r m B C → gives B x o ≡ gives C x o
    unfolding gives
    gives_same B C x loads g same = ap Output.byte (same x g)
    gives_same B C x fetches g same = ap Output.byte (same x g)
    gives_same B C x (stores v) g same = refl

    -- made in the first by another domain
    changes_other : (B C : Board) (r' x : ℕ) (o : Operation) → Domain F slots r' → r' ≢ r → is_allowed (reads F m r' x (kind_of o)) ≡ true
        → SameBytes F slots r m B C → SameBytes F slots r m (changes B x o) C
    unfolding changes
    changes_other B C r' x loads d ne g same y z = same y z
    changes_other B C r' x fetches d ne g same y z = same y z
    changes_other B C r' x (stores v) d ne g same y z =
        byte_other B x v y
        (λ e. true≢false (sym (writes_reach F m s r' (page_of x) (store_writes F m r' x v g))
        ∙ kept.pages r r' (page_of x) dr d (λ k. ne (sym k)) (ap (λ (k : ℕ). opens F m r (page_of k)) (sym e) ∙ z)))
        ∙ same y z

    -- ---- any access

    pub own_access : (B C : Board) → Pair F slots m r B C → (a : Action) → a.by ≡ r
        → (output B a (answer F B a) ≡ output C a (answer_in F m a)) × Pair F slots m r (next B a (answer F B a)) (next C a (answer_in F m a))
    unfolding output next
    own_access B C p a e =
        let d : Domain F slots a.by = subst (Domain F slots) (sym e) dr in
        rw (answer_in_lem B p.table a d)
        (split (is_allowed (answer_in F m a))
        (λ q.
        let g : opens F m r (page_of a.address) ≡ true
        = subst (λ (k : ℕ). opens F m k (page_of a.address) ≡ true) e (allowed_open F m a.by a.address (kind_of a.operation) q) in
        rw q (
          gives_same B C a.address a.operation g p.bytes,
          record {
            table = changes_table B a.by a.address a.operation d q p.table;
            held = changes_held B a.address a.operation p.held;
            held' = changes_held C a.address a.operation p.held';
            bytes = changes_own B C a.address a.operation g p.held p.held' p.bytes;
          },
        ))
        (λ q. rw q (refl, p)))

    pub others_access : (B C : Board) → Pair F slots m r B C → (a : Action) → Domain F slots a.by → a.by ≢ r → Pair F slots m r (next B a (answer F B a)) C
    unfolding next
    others_access B C p a d ne =
        rw (answer_in_lem B p.table a d)
        (split (is_allowed (answer_in F m a))
        (λ q.
        rw q (record {
          table = changes_table B a.by a.address a.operation d q p.table;
          held = changes_held B a.address a.operation p.held;
          held' = p.held';
          bytes = changes_other B C a.by a.address a.operation d ne q p.bytes;
        }))
        (λ q. rw q p))
