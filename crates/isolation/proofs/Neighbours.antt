-- Nobody reads a neighbour. Open this file first. What a domain is given in a run is what the table at the start gives it if it makes its
-- accesses alone: those of the others may be left out one by one (`alone`). Two runs in which it makes the same are then alike.
use mathlib.Core.Path.{◌≡◌, refl, sym, ap, ap₂, ◌∙◌, subst}
use mathlib.Core.Logic.{◌⊎◌, inl, inr}
use mathlib.Core.List.{List, [], ◌∷◌}
use Prim.Native.Nat.{ℕ, ◌*◌}
use native.Mathlib.Omega.{arith}
use lib.Dec.{eqb}
use lib.ListN.{length}
use borrow.Author.Tests.{eqb-true, eqb-false}
use Rattle.model.specs.Layout.{rv32, rv64}
use Rattle.model.specs.Bytes.{entry_bytes}
use Rattle.model.specs.Register.{ppn_of}
use Rattle.model.specs.Entry.{Found, perm, faults}
use Rattle.model.specs.Frame.{Frame, page_of}
use Rattle.model.specs.Walk.{walk}
use Rattle.model.specs.Access.{Kind, original_of, need_of, cause_of, may, Answer, allowed, fault, judge}
use Rattle.model.specs.Lookup.{reads}
use Rattle.model.specs.Sound.{Slot}
use Rattle.model.specs.Apart.{grants_any, Strength, strict, sharing, opens}
use Rattle.model.specs.Demands.{Domain}
use Rattle.laws.proofs.Choices.{split}
use Rattle.theory.proofs.Entries.{Lawful, rv32_lawful, rv64_lawful}
use Rattle.isolation.specs.Board.{Board, load_byte, table_of}
use Rattle.isolation.specs.Run.{Action, kind_of, Output, output, next, actions_of, Follows, outputs_of, final}
use Rattle.isolation.specs.Neighbours.{Apart, Held, SameTable, SameBytes, Start, ByDomains, NobodyReads, Item13, WithShared, Tested, Exact, AllowedOrFaults, NothingReaches}
use Rattle.isolation.proofs.Bytes.{table_length}
use Rattle.isolation.proofs.Walking.{walk_kept}
use Rattle.isolation.proofs.Steps.{answer_in, Pair, answer_in_lem, next_table, own_access, others_access}
use Rattle.isolation.proofs.Test.{test_gives, test_passes}

-- what the walk finds is no refusal
judged : (f : Found) (kind : Kind) → (judge f kind ≡ allowed) ⊎ (judge f kind ≡ fault (cause_of (original_of kind)))
unfolding judge
judged (perm p) kind = split (may p (need_of kind)) (λ q. rw q (inl refl)) (λ q. rw q (inr refl))
judged faults kind = inr refl

module _ (F : Frame) (m : List ℕ) where
  -- a domain's accesses made by it alone, each answered by m: what they give, and the memory that they leave
  unfoldable pub solo : Board → List Action → List Output
  solo C [] = []
  solo C (a ∷ acts) = output C a (answer_in F m a) ∷ solo (next C a (answer_in F m a)) acts

  unfoldable pub solo_final : Board → List Action → Board
  solo_final C [] = C
  solo_final C (a ∷ acts) = solo_final (next C a (answer_in F m a)) acts

  -- who chooses by what it is given alone chooses in one way
  one_choice : (choose : List Output → Action) (acts acts' : List Action) (before : List Output) (C : Board) → length acts ≡ length acts'
      → Follows choose before acts (solo C acts) → Follows choose before acts' (solo C acts') → acts ≡ acts'
  unfolding solo
  one_choice choose [] [] before C n f f' = refl
  one_choice choose [] (b ∷ l') before C n f f' = absurd (omega (arith, n))
  one_choice choose (a ∷ l) [] before C n f f' = absurd (omega (arith, n))
  one_choice choose (a ∷ l) (b ∷ l') before C n f f' =
      let e : b ≡ a = f'.0 ∙ sym f.0 in
      let o : Output = output C a (answer_in F m a) in
      let rest = subst (λ (x : Action). Follows choose (output C x (answer_in F m x) ∷ before) l' (solo (next C x (answer_in F m x)) l')) e f'.1 in
      ap₂ (λ (x : Action) (t : List Action). x ∷ t) (sym e) (one_choice choose l l' (o ∷ before) (next C a (answer_in F m a)) (omega (arith, n)) f.1 rest)

module _ (F : Frame) (lawful : Lawful F.layout) (whole : F.layout.words * entry_bytes F.layout ≡ 4096) (slots : List Slot) where
  -- a run in B is for r as if it were alone in C
  abbrev pub Alone : List ℕ → ℕ → Board → Board → List Action → Type 0
  Alone m r B C acts =
      (outputs_of F r B acts ≡ solo F m C (actions_of r acts)) × SameBytes F slots r m (final F B acts) (solo_final F m C (actions_of r acts))

  module _ (s : Strength) (m : List ℕ) (kept : Apart F slots s m) (r : ℕ) (d : Domain F slots r) where
    pub alone : (acts : List Action) (B C : Board) → ByDomains F slots acts → Pair F slots m r B C → Alone m r B C acts
    unfolding outputs_of final actions_of solo solo_final
    alone [] B C by p = (refl, p.bytes)
    alone (a ∷ acts) B C by p =
        split (eqb a.by r)
        (λ q.
        let one = own_access F lawful whole slots s m kept r d B C p a (eqb-true a.by r q) in
        let rest = alone acts _ _ by.1 one.1 in
        rw q (ap₂ (λ (o : Output) (l : List Output). o ∷ l) one.0 rest.0, rest.1))
        (λ q. rw q (alone acts _ C by.1 (others_access F lawful whole slots s m kept r d B C p a by.0 (eqb-false a.by r q))))

  -- the table stands still in a run
  table_stays : (s : Strength) (m : List ℕ) → Apart F slots s m → (acts : List Action) (B : Board) → ByDomains F slots acts
      → SameTable F slots m (table_of F B) → SameTable F slots m (table_of F (final F B acts))
  unfolding final
  table_stays s m kept [] B by same = same
  table_stays s m kept (a ∷ acts) B by same = table_stays s m kept acts _ by.1 (next_table F lawful whole slots s m kept B a by.0 same)

  -- two runs, each beside the domain alone in the first board
  module _ (s : Strength) (r : ℕ) (B B' : Board) (kept : Apart F slots s (table_of F B)) (start : Start F slots (Held F slots) r B B') where
    abbrev m : List ℕ
    m = table_of F B

    first_alone : (acts : List Action) → ByDomains F slots acts → Alone m r B B acts
    first_alone acts by =
        alone s m kept r start.domain acts B B by
        (record { table = λ page i h u. refl; held = start.board; held' = start.board; bytes = λ x o. refl })

    second_alone : (acts : List Action) → ByDomains F slots acts → Alone m r B' B acts
    unfolding opens
    second_alone acts by =
        alone s m kept r start.domain acts B' B by
        (record {
          table = start.table;
          held = λ k page d o.
              let same = walk_kept F lawful slots m kept.frame kept.sounds (table_of F B') (table_length F B' ∙ sym (table_length F B)) start.table k page d in
              start.board' k page d (ap grants_any same ∙ o);
          held' = start.board;
          bytes = λ x o. sym (start.bytes x o);
        })

  nobody_reads : (s : Strength) → NobodyReads F slots (Apart F slots s) (Held F slots)
  nobody_reads s r B B' acts acts' kept start by by' e =
      let a = first_alone s r B B' kept start acts by in
      let b = second_alone s r B B' kept start acts' by' in
      record {
        outputs = a.0 ∙ ap (solo F (table_of F B) B) e ∙ sym b.0;
        bytes = λ x o. a.1 x o ∙ ap (λ (l : List Action). load_byte (solo_final F (table_of F B) B l) x) e ∙ sym (b.1 x o);
      }

  -- ---- the claims

  pub item13 : Item13 F slots
  item13 r B B' acts acts' kept start =
      nobody_reads strict r B B' acts acts' kept
      (record { domain = start.domain; board = start.board.open_held; board' = start.board'.open_held; table = start.table; bytes = start.bytes })

  pub with_shared : WithShared F slots
  with_shared = nobody_reads sharing

  pub tested : (s : Strength) → Tested F slots s
  tested s eight r B B' acts acts' h = nobody_reads s r B B' acts acts' (test_gives F (table_of F B) slots s eight h)

  pub exact : (s : Strength) → Exact F slots s
  exact s eight m = (test_gives F m slots s eight, test_passes F m slots s)

  pub allowed_or_faults : (s : Strength) → AllowedOrFaults F slots s
  unfolding reads
  allowed_or_faults s B acts a kept by d =
      subst (λ (x : Answer). (x ≡ allowed) ⊎ (x ≡ fault (cause_of (original_of (kind_of a.operation)))))
      (sym (answer_in_lem F lawful whole slots s (table_of F B) kept (final F B acts) (table_stays s (table_of F B) kept acts B by (λ page i h u. refl)) a d))
      (judged (walk F (table_of F B) (ppn_of F.layout a.by) (page_of a.address)) (kind_of a.operation))

  pub nothing_reaches : (s : Strength) → NothingReaches F slots s
  nothing_reaches s r choose B B' acts acts' kept start by by' f f' n =
      let g = subst (Follows choose [] (actions_of r acts)) (first_alone s r B B' kept start acts by).0 f in
      let g' = subst (Follows choose [] (actions_of r acts')) (second_alone s r B B' kept start acts' by').0 f' in
      let e = one_choice F (table_of F B) choose (actions_of r acts) (actions_of r acts') [] B n g g' in
      (e, nobody_reads s r B B' acts acts' kept start by by' e)

-- ---- the two boards

module _ (paw first pages : ℕ) (slots : List Slot) where
  pub rv64_item13 : Item13 (record { layout = rv64; paw = paw; first = first; pages = pages }) slots
  rv64_item13 = item13 (record { layout = rv64; paw = paw; first = first; pages = pages }) rv64_lawful refl slots

  pub rv32_item13 : Item13 (record { layout = rv32; paw = paw; first = first; pages = pages }) slots
  rv32_item13 = item13 (record { layout = rv32; paw = paw; first = first; pages = pages }) rv32_lawful refl slots
