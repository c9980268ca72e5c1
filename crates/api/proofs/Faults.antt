-- A lookup that answers a fault answers that of the original access.
use Rattle.std.specs.Prelude.{if◌then◌else◌}
use mathlib.Core.Path.{◌≡◌}
use mathlib.Core.Bool.{Bool, true, false, not}
use mathlib.Core.List.{List}
use Prim.Native.Nat.{ℕ}
use Rattle.model.specs.Entry.{Found, perm, faults}
use Rattle.model.specs.Frame.{Frame, frame_ok}
use Rattle.model.specs.Register.{register_ok, is_bare}
use Rattle.model.specs.Access.{Kind, Answer, refused, allowed, fault, need_of, may, cause_of, original_of, judge}
use Rattle.model.specs.Lookup.{Privilege, is_machine, reads, lookup}

-- if an answer is a fault, its cause is that of the kind's original access
abbrev ItsFault : Kind → Answer → Type 0
ItsFault k a = (cause : ℕ) → a ≡ fault cause → cause ≡ cause_of (original_of k)

never_refused : (k : Kind) (n : ℕ) → ItsFault k (refused n)
never_refused k n cause e = cc

never_allowed : (k : Kind) → ItsFault k allowed
never_allowed k cause e = cc

its_own : (k : Kind) → ItsFault k (fault (cause_of (original_of k)))
its_own k cause e = cc

either : (k : Kind) (b : Bool) {x y : Answer} → ItsFault k x → ItsFault k y → ItsFault k (if b then x else y)
either k true p q = p
either k false p q = q

judged : (k : Kind) (f : Found) → ItsFault k (judge f k)
unfolding judge
judged k (perm p) = either k (may p (need_of k)) (never_allowed k) (its_own k)
judged k faults = its_own k

pub fault_of_lookup : (F : Frame) (m : List ℕ) (register : ℕ) (privilege : Privilege) (address : ℕ) (k : Kind) → ItsFault k (lookup F m register privilege address k)
unfolding lookup reads
fault_of_lookup F m register privilege address k =
    either k (not (frame_ok F m)) (never_refused k 1)
    (either k (not (register_ok F.layout register)) (never_refused k 2)
    (either k (is_machine privilege) (never_allowed k)
    (either k (is_bare F.layout register) (never_allowed k)
    (judged k _))))
