-- Kinds of access, what each needs, who may do what, and the cause of a fault.
use Rattle.std.specs.Prelude.{Bool, true, false, List, [], ◌∷◌, ℕ, get_or, if◌then◌else◌}
use Rattle.model.specs.Entry.{Found, perm, faults}

-- An original access
pub data Access : Type 0 where
  fetch load store : Access

-- "Kinds of access: fetch, load, store, page-table read on behalf of one of these, A/D update on behalf of one of these."
pub data Kind : Type 0 where
  itself : Access → Kind
  table_read : Access → Kind
  update : Access → Kind

pub data Need : Type 0 where
  read write execute : Need

-- "A fetch needs execute, a load and a page-table read need read, a store and an A/D update need write."
unfoldable pub need_of : Kind → Need
need_of (itself fetch) = execute
need_of (itself load) = read
need_of (itself store) = write
need_of (table_read a) = read
need_of (update a) = write

unfoldable pub original_of : Kind → Access
original_of (itself a) = a
original_of (table_read a) = a
original_of (update a) = a

-- "fetch 1, load 5, store 7"
unfoldable pub cause_of : Access → ℕ
cause_of fetch = 1
cause_of load = 5
cause_of store = 7

-- "a small table of four permissions by three needs, kept as rows": none, rx, rw, rwx; read, write, execute
unfoldable pub may_rows : List (List Bool)
may_rows =
    (false ∷ false ∷ false ∷ [])
    ∷ (true ∷ false ∷ true ∷ [])
    ∷ (true ∷ true ∷ false ∷ [])
    ∷ (true ∷ true ∷ true ∷ [])
    ∷ []

unfoldable pub column_of : Need → ℕ
column_of read = 0
column_of write = 1
column_of execute = 2

unfoldable pub may : ℕ → Need → Bool
may p need = get_or (get_or may_rows p []) (column_of need) false

-- What a lookup answers: a refusal's number, allowed, or a fault's cause
pub data Answer : Type 0 where
  refused : ℕ → Answer
  allowed : Answer
  fault : ℕ → Answer

-- "The fault is that of the original access"
unfoldable pub judge : Found → Kind → Answer
judge (perm p) kind = if may p (need_of kind) then allowed else fault (cause_of (original_of kind))
judge faults kind = fault (cause_of (original_of kind))
