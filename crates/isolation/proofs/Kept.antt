-- What our own calls keep. Of an edit, cut anywhere any number of times: every page of every domain reads as before or as after (the third
-- demand), after is before where the edit does not name the page (the second), and a lent page that it names is to have no permission. Opening
-- adds a domain to which nothing is open, and until then it zeroes words of a free page, which no walk reads; closing takes a domain away.
use mathlib.Core.Path.{◌≡◌, refl, sym, ap, ap₂, ◌∙◌, subst}
use mathlib.Core.Bool.{Bool, true, false, not, ◌||◌, true≢false, false≢true}
use mathlib.Core.Logic.{◌⊎◌, inl, inr, ⊎_elim}
use mathlib.Core.List.Memᴰ
use mathlib.Core.List.{List, [], ◌∷◌, head_d, Memᴰ}
use Prim.Native.Nat.{ℕ, zero, suc, ◌+◌, ◌*◌, ◌≤◌, ◌<◌}
use native.Mathlib.Omega.{arith}
use lib.Dec.{eqb, ltb}
use lib.ListN.{set, length, length-set, take, replicate}
use lib.Seq.{sets, length-sets}
use borrow.Author.Tests.{eqb-true, eqb-false, ltb-true, ltb-false, lt-ltb}
use Rattle.model.specs.Numbers.{member}
use Rattle.model.specs.Layout.{slot_count}
use Rattle.model.specs.Register.{ppn_of, register_of}
use Rattle.model.specs.Entry.{perm}
use Rattle.model.specs.Frame.{Frame, page_of, index_of, lent, space, frame_ok, word_at}
use Rattle.model.specs.Walk.{walk}
use Rattle.model.specs.Access.{Kind, itself, fetch, load, store, need_of, may, may_rows, column_of}
use Rattle.model.specs.Lookup.{reads}
use Rattle.model.specs.Sound.{Slot, empty_slot, is_open, open_registers, roots, used, sound, free_pages}
use Rattle.model.specs.Forms.{Request}
use Rattle.model.specs.Calls.{close_refusal, close_slot, edit_refusal, open_refusal, open_at, open_slot, refuse, meets_lent, register_for, root_of}
use Rattle.model.specs.Apart.{grants, grants_any, Strength, opens, writes, reaches, table_page}
use Rattle.model.specs.Demands.{Domain, SameAt, Accepted, Done, calls, whole}
use Rattle.laws.proofs.Choices.{split, and_both, and_false, not-false-true}
use Rattle.laws.proofs.Times.{times, head_times, member_none}
use Rattle.theory.proofs.Entries.{Lawful}
use Rattle.theory.proofs.Memory.{lent_low, lent_high}
use Rattle.theory.proofs.Walks.{outside_space}
use Rattle.theory.proofs.Accepts.{Accept, to_accept, first_none}
use Rattle.theory.proofs.WholeCall.{EditCall}
use Rattle.theory.proofs.Cuts.{calls_kept, steady_of, unstarted}
use Rattle.theory.proofs.Finished.{whole_done}
use Rattle.theory.proofs.TablePages.{table_lent}
use Rattle.theory.proofs.Free.{free_in}
use Rattle.theory.proofs.Zeroed.{zero_from, zero_other_page}
use Rattle.theory.proofs.OpenClose.{open_new, open_others}
use Rattle.isolation.specs.Run.{is_allowed}
use Rattle.isolation.specs.Neighbours.{SameTable}
use Rattle.isolation.specs.Kept.{Shut, SameRights, Unnamed, Keeps, Call, opening, cut_opening, closing, editing, zeroed_to, leaves, history, EditsKeep, StaysShut, AlwaysShut}
use Rattle.isolation.proofs.Walking.{walk_kept}
use Rattle.isolation.proofs.Slots.{slot_domain}
use Rattle.isolation.proofs.Steps.{never_true, judge_grants, reaches_open}

page_of_lem : (page : ℕ) → page_of (page * 4096) ≡ page
unfolding page_of
page_of_lem page = omega arith

pub none_open : grants_any (perm 0) ≡ false
unfolding grants_any grants may may_rows column_of
none_open = refl

module _ (F : Frame) (slots : List Slot) where
  -- ---- a page that reads the same is had the same

  same_rights : (m m' : List ℕ) (r page : ℕ) → SameAt F slots m' m r (page * 4096) → SameRights F slots m m' r page
  unfolding opens writes grants_any need_of reads
  same_rights m m' r page same =
      record {
        opened = ap₂ (λ (a b : Bool). a || b) (ap₂ (λ (a b : Bool). a || b) (at (itself load)) (at (itself store))) (at (itself fetch));
        written = at (itself store);
      }
    where
      granted : (n : List ℕ) (kind : Kind) → is_allowed (reads F n r (page * 4096) kind) ≡ grants (walk F n (ppn_of F.layout r) page) (need_of kind)
      granted n kind =
          judge_grants (walk F n (ppn_of F.layout r) (page_of (page * 4096))) kind ∙ ap (λ (x : ℕ). grants (walk F n (ppn_of F.layout r) x) (need_of kind)) (page_of_lem page)

      at : (kind : Kind) → grants (walk F m' (ppn_of F.layout r) page) (need_of kind) ≡ grants (walk F m (ppn_of F.layout r) page) (need_of kind)
      at kind = sym (granted m' kind) ∙ ap is_allowed (same kind) ∙ granted m kind

  -- ---- of the premises of item 13 the one about table pages then holds, for either strength

  pub shut_table : Lawful F.layout → (s : Strength) (m : List ℕ) → frame_ok F m ≡ true → sound F m slots ≡ true → Shut F slots m
      → (r page : ℕ) → Domain F slots r → table_page F m slots page ≡ true → reaches F m s r page ≡ false
  shut_table lawful s m frame good shut r page d t =
      never_true (reaches F m s r page)
      (λ w. true≢false (sym (reaches_open F m s r page w) ∙ shut r page d (table_lent F lawful slots m frame good page t)))

  -- ---- edits

  module _ (lawful : Lawful F.layout) (q : Request) (m : List ℕ) (low : q.permission < 4) (accepted : Accepted F slots q m) where
    abbrev E : EditCall
    E = record { F = F; lawful = lawful; slots = slots; q = q; low = low }

    k : Accept F slots q m
    k = to_accept F slots q m accepted

    done : Done F slots q m (whole F slots q m)
    done = whole_done E m k

    -- a lent page in the range is to have no permission
    none_asked : (page : ℕ) → lent F page ≡ true → q.start ≤ page * 4096 → page * 4096 < q.start + q.size → q.permission ≡ 0
    unfolding meets_lent
    none_asked page l lo hi =
        split (eqb q.permission 0)
        (eqb-true q.permission 0)
        (λ z. absurd (and_false (not (eqb q.permission 0)) (meets_lent F q) k.apart (rw z refl)
        (and_both
        (lt-ltb q.start ((F.first + F.pages) * 4096) (omega (arith, lent_high F page l)))
        (lt-ltb (F.first * 4096) (q.start + q.size) (omega (arith, lent_low F page l))))))

    whole_rights : (r page : ℕ) → Domain F slots r → Unnamed F slots q r page → SameRights F slots m (whole F slots q m) r page
    whole_rights r page d (inl ne) = same_rights m (whole F slots q m) r page (done.others r d ne (page * 4096))
    whole_rights r page d (inr out) =
        split (eqb r (register_for slots q))
        (λ z. subst (λ (x : ℕ). SameRights F slots m (whole F slots q m) x page) (sym (eqb-true r (register_for slots q) z))
        (same_rights m (whole F slots q m) (register_for slots q) page (done.outside (page * 4096) out)))
        (λ z. same_rights m (whole F slots q m) r page (done.others r d (eqb-false r (register_for slots q) z) (page * 4096)))

    -- a page is not named by the edit, or it is one of its domain in its range
    named : (r page : ℕ) → Unnamed F slots q r page ⊎ ((r ≡ register_for slots q) × (q.start ≤ page * 4096) × (page * 4096 < q.start + q.size))
    named r page =
        split (eqb r (register_for slots q))
        (λ z. split (ltb (page * 4096) q.start)
        (λ y. inl (inr (inl (ltb-true (page * 4096) q.start y))))
        (λ y. split (ltb (page * 4096) (q.start + q.size))
        (λ x. inr (eqb-true r (register_for slots q) z, ltb-false (page * 4096) q.start y, ltb-true (page * 4096) (q.start + q.size) x))
        (λ x. inl (inr (inr (ltb-false (page * 4096) (q.start + q.size) x))))))
        (λ z. inl (inl (eqb-false r (register_for slots q) z)))

    -- before or after
    either : (ks : List ℕ) (r page : ℕ) → Domain F slots r
        → SameRights F slots m (calls F slots q ks m) r page ⊎ SameRights F slots (whole F slots q m) (calls F slots q ks m) r page
    either ks r page d =
        ⊎_elim
        (λ e. inl (same_rights m (calls F slots q ks m) r page e))
        (λ e. inr (same_rights (whole F slots q m) (calls F slots q ks m) r page e))
        (steady_of E m k (calls F slots q ks m) (calls_kept E m k ks m (unstarted E m k)) r d (page * 4096))

    edit_keeps : (ks : List ℕ) → Keeps F slots q m (calls F slots q ks m)
    unfolding opens root_of
    edit_keeps ks =
        record {
          shut = λ shut r page d l.
              ⊎_elim
              (λ e. e.opened ∙ shut r page d l)
              (λ e. e.opened ∙ ⊎_elim
              (λ out. (whole_rights r page d out).opened ∙ shut r page d l)
              (λ (at, lo, hi).
              ap (λ (x : ℕ). grants_any (walk F (whole F slots q m) (ppn_of F.layout x) page)) at
              ∙ ap (λ (x : ℕ). grants_any (walk F (whole F slots q m) (root_of F slots q) x)) (sym (page_of_lem page))
              ∙ ap grants_any (done.inside (page * 4096) lo hi ∙ ap perm (none_asked page l lo hi))
              ∙ none_open)
              (named r page))
              (either ks r page d);
          rights = λ r page d out.
              ⊎_elim
              (λ e. e)
              (λ e. let w = whole_rights r page d out in record { opened = e.opened ∙ w.opened; written = e.written ∙ w.written })
              (either ks r page d);
        }

-- ---- opening and closing: the domains are the same, one more or one less

module _ (F : Frame) (lawful : Lawful F.layout) (m : List ℕ) (slots : List Slot) (eight : length slots ≡ slot_count) (s : ℕ) (shut : Shut F slots m) where
  close_shut : Shut F (close_slot F m slots s).slots (close_slot F m slots s).memory
  unfolding close_slot refuse is_open
  close_shut =
      split (eqb (close_refusal F m slots s) 0)
      (λ z. rw z (λ r page d l. ⊎_elim (λ e. absurd (false≢true e.1)) (λ k. shut r page k l) (slot_domain slots s empty_slot r d)))
      (λ z. rw z shut)

  module _ (sdid : ℕ) where
    abbrev new : ℕ
    new = register_of F.layout sdid (head_d (free_pages F m (roots F slots)) 0)

    abbrev m' : List ℕ
    m' = (open_slot F m slots s sdid).memory

    -- to the new domain nothing is open
    new_shut : open_refusal F m slots s sdid ≡ 0 → (page : ℕ) → opens F m' new page ≡ false
    unfolding opens grants_any grants may may_rows column_of
    new_shut accepted page =
        split (ltb page (space F))
        (λ z. ap grants_any ((open_new F lawful m slots eight s sdid accepted).1 page (ltb-true page (space F) z)))
        (λ z. ap grants_any (outside_space F m' (ppn_of F.layout new) page (ltb-false page (space F) z)))

    opened_slots : open_refusal F m slots s sdid ≡ 0 → (open_slot F m slots s sdid).slots ≡ set slots s new
    unfolding open_slot open_at
    opened_slots accepted = rw accepted

    refused : eqb (open_refusal F m slots s sdid) 0 ≡ false → Shut F (open_slot F m slots s sdid).slots (open_slot F m slots s sdid).memory
    unfolding open_slot refuse
    refused z = rw z shut

    open_shut : Shut F (open_slot F m slots s sdid).slots (open_slot F m slots s sdid).memory
    open_shut =
        split (eqb (open_refusal F m slots s sdid) 0)
        (λ z r page d l.
        let accepted = eqb-true (open_refusal F m slots s sdid) 0 z in
        ⊎_elim
        (λ e. ap (λ (x : ℕ). opens F m' x page) e.0 ∙ new_shut accepted page)
        (λ h. (same_rights F slots m m' r page (open_others F lawful m slots eight s sdid accepted r h (page * 4096))).opened ∙ shut r page h l)
        (slot_domain slots s new r (subst (λ (ss : List Slot). Memᴰ r (open_registers ss)) (opened_slots accepted) d)))
        refused

-- ---- an opening that is cut

-- zeros cut anywhere are zeros
fewer : (c n : ℕ) → (j : ℕ) × (j ≤ n) × (take {A = ℕ} c (replicate n 0) ≡ replicate j 0)
fewer zero n = (0, omega arith, refl)
fewer (suc c) zero = (0, omega arith, refl)
fewer (suc c) (suc n) = let (j, l, e) = fewer c n in (suc j, omega (arith, l), ap (λ (t : List ℕ). 0 ∷ t) e)

module _ (F : Frame) (lawful : Lawful F.layout) (m : List ℕ) (slots : List Slot) (s sdid : ℕ) (accepted : open_refusal F m slots s sdid ≡ 0) where
  abbrev root : ℕ
  root = head_d (free_pages F m (roots F slots)) 0

  finds : (frame_ok F m ≡ true) × (sound F m slots ≡ true) × (0 < length (free_pages F m (roots F slots)))
  unfolding open_refusal
  finds =
      let a = first_none 0 _ _ accepted in
      let b = first_none 2 _ _ a.1 in
      let c = first_none 3 _ _ b.1 in
      let d = first_none 7 _ _ c.1 in
      let e = first_none 6 _ _ d.1 in
      let some = eqb-false (length (free_pages F m (roots F slots))) 0 e.0 in
      (not-false-true _ a.0, not-false-true _ b.0, omega arith)

  root_free : (lent F root ≡ true) × (times root (used F m (roots F slots)) ≡ 0)
  unfolding free_pages
  root_free = free_in F (used F m (roots F slots)) root (head_times (free_pages F m (roots F slots)) finds.2)

  same_table_lem : (k : ℕ) → SameTable F slots m (zeroed_to F m slots k)
  unfolding zeroed_to zero_from table_page
  same_table_lem k page i t u =
      let (j, l, e) = fewer k F.layout.words in
      ap (λ (zeros : List ℕ). word_at F (sets m (index_of F root 0) zeros) page i) e
      ∙ zero_other_page F root root_free.0 j 0 m page i (omega (arith, l))
      (λ z. true≢false (sym t ∙ ap (λ (x : ℕ). member x (used F m (roots F slots))) z ∙ member_none root (used F m (roots F slots)) root_free.1))
      (table_lent F lawful slots m finds.0 finds.1 page t) u

  cut_shut : (k : ℕ) → Shut F slots m → Shut F slots (zeroed_to F m slots k)
  unfolding opens zeroed_to
  cut_shut k shut r page d l =
      let size = length-sets m (index_of F root 0) (take k (replicate F.layout.words 0)) in
      ap grants_any (walk_kept F lawful slots m finds.0 finds.1 (zeroed_to F m slots k) size (same_table_lem k) r page d) ∙ shut r page d l

-- ---- any calls

module _ (F : Frame) (lawful : Lawful F.layout) where
  leaves_eight : (m : List ℕ) (slots : List Slot) (c : Call) → length slots ≡ slot_count → length (leaves F (m, slots) c).1 ≡ slot_count
  unfolding leaves open_slot open_at close_slot refuse
  leaves_eight m slots (opening s sdid) e = split (eqb (open_refusal F m slots s sdid) 0) (λ z. rw z (length-set slots s _ ∙ e)) (λ z. rw z e)
  leaves_eight m slots (cut_opening s sdid k) e = e
  leaves_eight m slots (closing s) e = split (eqb (close_refusal F m slots s) 0) (λ z. rw z (length-set slots s _ ∙ e)) (λ z. rw z e)
  leaves_eight m slots (editing q cuts) e = e

  edit_shut : (m : List ℕ) (slots : List Slot) (q : Request) (cuts : List ℕ) → q.permission < 4 → Shut F slots m → Shut F slots (leaves F (m, slots) (editing q cuts)).0
  unfolding leaves
  edit_shut m slots q cuts low shut =
      split (eqb (edit_refusal F m slots q) 0)
      (λ z. rw z ((edit_keeps F slots lawful q m low (eqb-true (edit_refusal F m slots q) 0 z) cuts).shut shut))
      (λ z. rw z shut)

  opening_shut : (m : List ℕ) (slots : List Slot) (s sdid k : ℕ) → Shut F slots m → Shut F slots (leaves F (m, slots) (cut_opening s sdid k)).0
  unfolding leaves
  opening_shut m slots s sdid k shut =
      split (eqb (open_refusal F m slots s sdid) 0)
      (λ z. rw z (cut_shut F lawful m slots s sdid (eqb-true (open_refusal F m slots s sdid) 0 z) k shut))
      (λ z. rw z shut)

  pub edits_keep : EditsKeep F
  edits_keep m slots q cuts low accepted = edit_keeps F slots lawful q m low accepted cuts

  pub stays_shut : StaysShut F
  unfolding history leaves
  stays_shut m slots [] eight four shut = shut
  stays_shut m slots (opening s sdid ∷ cs) eight four shut =
      stays_shut (leaves F (m, slots) (opening s sdid)).0 (leaves F (m, slots) (opening s sdid)).1 cs (leaves_eight m slots (opening s sdid) eight) four (open_shut F lawful m slots eight s shut sdid)
  stays_shut m slots (cut_opening s sdid k ∷ cs) eight four shut =
      stays_shut (leaves F (m, slots) (cut_opening s sdid k)).0 (leaves F (m, slots) (cut_opening s sdid k)).1 cs eight four (opening_shut m slots s sdid k shut)
  stays_shut m slots (closing s ∷ cs) eight four shut =
      stays_shut (leaves F (m, slots) (closing s)).0 (leaves F (m, slots) (closing s)).1 cs (leaves_eight m slots (closing s) eight) four (close_shut F lawful m slots eight s shut)
  stays_shut m slots (editing q cuts ∷ cs) eight four shut =
      stays_shut (leaves F (m, slots) (editing q cuts)).0 (leaves F (m, slots) (editing q cuts)).1 cs eight four.1 (edit_shut m slots q cuts four.0 shut)

-- with no domain nothing is open
pub always_shut : (F : Frame) → Lawful F.layout → AlwaysShut F
unfolding open_registers is_open
always_shut F lawful m cs four = stays_shut F lawful m (replicate slot_count empty_slot) cs refl four (λ r page d l. absurd (no_domain slot_count r d))
  where
    no_domain : (i r : ℕ) → Memᴰ r (open_registers (replicate i empty_slot)) → ⊥
    no_domain zero r h = Memᴰ.not-nil h
    no_domain (suc i) r h = no_domain i r h
