-- Making a list of stores, as many as are left: what the functions that store say by their result and the memory.
use Rattle.std.specs.Prelude.{Option, List, [], ◌∷◌, ℕ, zero, suc, set, Some, None}
use Rattle.model.specs.Stores.{Store}
use Rattle.types.specs.declared.Budget.{Budget}

-- all were made, and what is left; or the limit cut them
pub data Out : Type 0 where
  all_made : Budget → List ℕ → Out
  limit_reached : List ℕ → Out

abbrev pub out : Option Budget → List ℕ → Out
out (Some left) m = all_made left m
out None m = limit_reached m

abbrev pub and_then : Out → (Budget → List ℕ → Out) → Out
and_then (all_made left m) next = next left m
and_then (limit_reached m) next = limit_reached m

-- more stores may be made, and the last went to word last
unfoldable pub run_from : ℕ → ℕ → List Store → List ℕ → Out
run_from more last [] m = all_made (record { more = more; last = last }) m
run_from zero last (s ∷ ss) m = limit_reached m
run_from (suc more) last (s ∷ ss) m = run_from more s.at ss (set m s.at s.word)

abbrev pub run : Budget → List Store → List ℕ → Out
run left ss m = run_from left.more left.last ss m
