-- The code's types as the model's: one view for each, with the papers' numbers.
use Rattle.std.specs.Prelude.{List, [], ◌∷◌, ℕ, Option, Result, Some, None, Ok, Err}
use Rattle.model.specs.Entry as entry
use Rattle.model.specs.Access as access
use Rattle.model.specs.Lookup as lookup
use Rattle.model.specs.Fence as fence
use Rattle.model.specs.Forms as model
use Rattle.model.specs.Calls as calls
use Rattle.model.specs.Apart as apart
use Rattle.types.specs.declared.Permission.{Permission}
use Rattle.types.specs.declared.Permission.TheVariants as permission
use Rattle.types.specs.declared.Need.{Need}
use Rattle.types.specs.declared.Need.TheVariants.{Read, Write, Execute}
use Rattle.types.specs.declared.Access.{Access}
use Rattle.types.specs.declared.Access.TheVariants.{Fetch, Load, Store}
use Rattle.types.specs.declared.Kind.{Kind}
use Rattle.types.specs.declared.Kind.TheVariants.{Itself, TableRead, Update}
use Rattle.types.specs.declared.Privilege.{Privilege}
use Rattle.types.specs.declared.Privilege.TheVariants.{Machine, Supervisor, User}
use Rattle.types.specs.declared.Cause.{Cause}
use Rattle.types.specs.declared.Cause.TheVariants as cause
use Rattle.types.specs.declared.Refusal.{Refusal}
use Rattle.types.specs.declared.Refusal.TheVariants as refusal
use Rattle.types.specs.declared.Answer.{Answer}
use Rattle.types.specs.declared.Answer.TheVariants as answer
use Rattle.types.specs.declared.Fence.{Fence}
use Rattle.types.specs.declared.Fence.TheVariants.{Nothing, Domain, One}
use Rattle.types.specs.declared.Entry.{Entry}
use Rattle.types.specs.declared.Entry.TheVariants.{Flat, Pieces, Table, Invalid}
use Rattle.types.specs.declared.PageNumber.{PageNumber}
use Rattle.types.specs.declared.Request.{Request}
use Rattle.types.specs.declared.Reply.{Reply}
use Rattle.types.specs.declared.Reply.TheVariants as reply
use Rattle.types.specs.declared.Form.{Form}
use Rattle.types.specs.declared.Form.TheVariants as form
use Rattle.types.specs.declared.Free.{Free}
use Rattle.types.specs.declared.Strength.{Strength}
use Rattle.types.specs.declared.Strength.TheVariants.{Strict, Sharing}
use Rattle.types.specs.declared.Separation.{Separation}
use Rattle.types.specs.declared.Separation.TheVariants as separation

-- "00 none, 01 rx, 10 rw, 11 rwx"
abbrev pub permission_number : Permission → ℕ
permission_number permission.None = 0
permission_number permission.Rx = 1
permission_number permission.Rw = 2
permission_number permission.Rwx = 3

abbrev pub need_view : Need → access.Need
need_view Read = access.read
need_view Write = access.write
need_view Execute = access.execute

abbrev pub access_of : Access → access.Access
access_of Fetch = access.fetch
access_of Load = access.load
access_of Store = access.store

-- an access itself, or a page-table read or an A/D update on behalf of one
abbrev pub kind_of : Kind → access.Kind
kind_of (Itself a) = access.itself (access_of a)
kind_of (TableRead a) = access.table_read (access_of a)
kind_of (Update a) = access.update (access_of a)

abbrev pub privilege_of : Privilege → lookup.Privilege
privilege_of Machine = lookup.machine
privilege_of Supervisor = lookup.supervisor
privilege_of User = lookup.user

-- "fetch 1, load 5, store 7"
abbrev pub cause_number : Cause → ℕ
cause_number cause.Fetch = 1
cause_number cause.Load = 5
cause_number cause.Store = 7

-- the numbers of "When the monitor says no", and document 02's
abbrev pub refusal_number : Refusal → ℕ
refusal_number refusal.Frame = 1
refusal_number refusal.Register = 2
refusal_number refusal.NotSound = 3
refusal_number refusal.Slot = 4
refusal_number refusal.Range = 5
refusal_number refusal.LentPages = 6
refusal_number refusal.NoRoom = 7
refusal_number refusal.Sdid = 8
refusal_number refusal.WriteExecute = 10

-- what a lookup answers: a refusal by its number
abbrev pub answer_of : Result Answer Refusal → access.Answer
answer_of (Ok answer.Allowed) = access.allowed
answer_of (Ok (answer.Fault c)) = access.fault (cause_number c)
answer_of (Err r) = access.refused (refusal_number r)

-- the fence that a call asks for
abbrev pub fence_of : Fence → fence.Fence
fence_of Nothing = fence.no_fence
fence_of (Domain sdid) = fence.domain_fence sdid.0
fence_of (One address sdid) = fence.address_fence address.0 sdid.0

-- what an L2 entry says of its block
abbrev pub entry_of : Entry → entry.Entry
entry_of (Flat p) = entry.flat p
entry_of (Pieces info) = entry.pieces info
entry_of (Table page) = entry.table page.0
entry_of Invalid = entry.invalid

-- what the walk finds: a permission, or a fault
abbrev pub found_of : Option Permission → entry.Found
found_of (Some p) = entry.perm (permission_number p)
found_of None = entry.faults

-- what an edit asks
abbrev pub request_of : Request → model.Request
request_of q = record { slot = q.slot; start = q.start.0; size = q.size; permission = q.permission }

-- the finished form of a block
abbrev pub form_of : Form → model.Form
form_of (form.Flat p) = model.want_flat p
form_of (form.Pieces info) = model.want_pieces info
form_of form.Table = model.want_table

-- what a call answers: a refusal by its number
abbrev pub reply_of : Result Reply Refusal → calls.Reply
reply_of (Ok reply.Opened) = calls.opened
reply_of (Ok reply.Closed) = calls.closed
reply_of (Ok (reply.Edited count all)) = calls.edited count all
reply_of (Err r) = calls.refused_with (refusal_number r)

-- a page, if there is one, before those that follow it; none follows where there is none
abbrev pub page_before : Option PageNumber → List ℕ → List ℕ
page_before (Some page) more = page.0 ∷ more
page_before None more = []

-- the free pages that an edit may take, lowest first: two at the most
abbrev pub free_list : Free → List ℕ
free_list free = page_before free.first (page_before free.second [])

-- how much is asked of domains that are to be kept apart, and what is answered
abbrev pub strength_of : Strength → apart.Strength
strength_of Strict = apart.strict
strength_of Sharing = apart.sharing

abbrev pub separation_of : Result Separation Refusal → apart.Separation
separation_of (Ok separation.Apart) = apart.apart
separation_of (Ok (separation.TableOpen page slot written)) = apart.table_open page.0 slot written
separation_of (Ok (separation.PageShared page slot other written)) = apart.page_shared page.0 slot other written
separation_of (Err r) = apart.refused_apart (refusal_number r)
