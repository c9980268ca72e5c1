-- The bench and the run meet every premise (`premises_met`); and what the run gives each domain: what it would be given alone, which is computed.
use mathlib.Core.Path.{◌≡◌, refl, ap, ◌∙◌}
use mathlib.Core.List.{List}
use Prim.Native.Nat.{ℕ}
use Rattle.model.specs.Frame.{word_at}
use Rattle.model.specs.Apart.{Strength, strict, sharing, opens}
use Rattle.model.specs.Demands.{Domain}
use Rattle.theory.proofs.Entries.{rv64_lawful}
use Rattle.cases.proofs.Compute.{compute}
use Rattle.isolation.specs.Board.{load_byte, store_byte, table_of}
use Rattle.isolation.specs.Run.{kind_of, is_allowed, gives, changes, output, next, actions_of, outputs_of}
use Rattle.isolation.specs.Neighbours.{Apart, Bench, Start, ByDomains}
use Rattle.isolation.proofs.Steps.{HeldIn}
use Rattle.isolation.proofs.Neighbours.{solo, alone}
use Rattle.witness.specs.Witness.{F, r0, r1, slots, fields0, fields1, words, others, board_for, board, actions, fetched, given0, given1}
use Rattle.witness.proofs.Premises.{apart, apart_there, bench, start, table_is, domain0, domain1}

pub by_domains : ByDomains F slots actions
unfolding actions
by_domains = (domain0, (domain1, (domain0, (domain0, (domain1, (domain0, (domain0, tt)))))))

-- all premises of item 13, and of the claims that ask less, at once: of the table, of two boards that differ by v and v', and of the run
pub premises_met : (s : Strength) (v v' : ℕ)
    → Apart F slots s (table_of F (board s v)) × Start F slots (Bench F slots) r0 (board s v) (board s v') × ByDomains F slots actions
premises_met s v v' = (apart_there s v, start s v v', by_domains)

by_itself : (s : Strength) (v r : ℕ) → Domain F slots r → outputs_of F r (board s v) actions ≡ solo F (words s) (board s v) (actions_of r actions)
by_itself s v r d =
    (alone F rv64_lawful refl slots s (words s) (apart s) r d actions (board s v) (board s v) by_domains
    (record { table = λ page i h u. ap (λ (m : List ℕ). word_at F m page i) (table_is s v); held = held; held' = held; bytes = λ x o. refl })).0
  where
    held : HeldIn F slots (words s) (board s v)
    held k page dk o = (bench s v).open_held k page dk (ap (λ (m : List ℕ). opens F m k page) (table_is s v) ∙ o)

pub first_given : (s : Strength) (v : ℕ) → outputs_of F r0 (board s v) actions ≡ given0 s
unfolding compute slots words fields0 fields1 others board_for actions fetched given0 load_byte store_byte kind_of is_allowed gives changes output next actions_of solo
first_given strict v = by_itself strict v r0 domain0
first_given sharing v = by_itself sharing v r0 domain0

pub second_given : (s : Strength) (v : ℕ) → outputs_of F r1 (board s v) actions ≡ given1
unfolding compute slots words fields0 fields1 others board_for actions given1 load_byte store_byte kind_of is_allowed gives changes output next actions_of solo
second_given strict v = by_itself strict v r1 domain1
second_given sharing v = by_itself sharing v r1 domain1
