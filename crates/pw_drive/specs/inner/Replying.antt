-- The replies of a run by workers: those to one seat's or one processor's entries, and where they lie.
use Rattle.std.specs.Prelude.{◌≡◌, ◌==◌, ◌<◌, ◌≤◌, ◌++◌, ◌∷◌, ℕ, Bool, List, Vec, [], length, reverse, slice_index_or, slice_set, vec_capacity}
use Rattle.std.specs.Prelude.{Option, Some, None, if◌then◌else◌}
use Rattle.std.specs.declared.alloc.Global.{Global}
use Rattle.pw_plan.specs.declared.plan.Plan.{Plan}
use Rattle.pw_plan.specs.declared.request.Request.{Request}
use Rattle.pw_model.specs.declared.entry.HistoryEntry.{HistoryEntry}
use Rattle.pw_model.specs.declared.reply.Reply.{Reply}
use Rattle.pw_model.specs.declared.state.State.{State}
use Rattle.pw_model.specs.States.{opening}
use Rattle.pw_model.specs.History.{after_entry, entry_reply, replies}
use Rattle.pw_machine.specs.declared.view.View.{View}
use Rattle.pw_machine.specs.Machine.{seat_of}
use Rattle.pw_books.specs.declared.calls.Calls.{Calls}
use Rattle.pw_books.specs.Books.{calls_of, entries_of}
use Rattle.pw_turns.specs.declared.waited.Done.{Done}
use Rattle.pw_turns.specs.declared.waited.Done.TheVariants.{Answer, Full, RegisterFault, Stopped}
use Rattle.pw_drive.specs.declared.working.Worker.{Worker}

-- # Which they are

-- the reply that a request was told
abbrev pub reply_in : Done → Option Reply
reply_in (Answer reply) = Some reply
reply_in (Full capacity) = None
reply_in (RegisterFault done) = None
reply_in (Stopped at) = None

-- the replies to those entries of which this is so, in their order, from a state on
abbrev pub picked_from : Plan → (HistoryEntry → Bool) → State → List HistoryEntry → List Reply
picked_from P f S [] = []
picked_from P f S (e ∷ es) =
    if f e then entry_reply P S e ++ picked_from P f (after_entry P S e) es else picked_from P f (after_entry P S e) es

-- of a history
unfoldable pub picked : Plan → (HistoryEntry → Bool) → List HistoryEntry → List Reply
picked P f es = picked_from P f (opening P) es

-- whether a seat or a processor made the entry
abbrev pub is_by : ℕ → HistoryEntry → Bool
is_by n e = e.seat == n

abbrev pub is_for : ℕ → HistoryEntry → Bool
is_for p e = e.cpu == p

-- The seat's book has its number alone, with the entries of it that the seat has seen, and these are the replies to them.
pub record HasReplies (P : Plan) (replies : List Reply) (number : ℕ) (book : List (Calls HistoryEntry)) (seen : List HistoryEntry) : Type 0
  where
    pub entries : List HistoryEntry
    pub alone : book ≡ calls_of number entries ∷ []
    pub known : entries_of seat_of number seen ≡ entries
    pub are : replies ≡ picked P (is_by number) seen

-- so the view of a worker's seat has it
abbrev pub KeepsReplies : Plan → List Reply → View → Type 0
KeepsReplies P replies v = HasReplies P replies v.number v.book v.seen

-- # Where they lie

-- so many lists in which nothing is
pub record AreEmpty (count : ℕ) (each : List (Vec Reply Global)) : Type 0 where
  pub size : length each ≡ count
  pub empty : (p : ℕ) (d : Vec Reply Global) → p < count → (slice_index_or each p d).items ≡ []

-- the first ones have room for a reply to each request of the list in the same place
abbrev pub HaveRoom : ℕ → List (Vec Request Global) → List (Vec Reply Global) → Type 0
HaveRoom count lists each =
    (p : ℕ) (r : Vec Request Global) (d : Vec Reply Global) → p < count
    → length (slice_index_or lists p r).items ≤ vec_capacity (slice_index_or each p d)

-- the lists once each worker has put its own at the place of its processor, from the last worker to the first
abbrev pub handed_down : List (Vec Reply Global) → List Worker → List (Vec Reply Global)
handed_down each [] = each
handed_down each (w ∷ ws) = slice_set (handed_down each ws) w.cpu w.replies

-- One for each processor, with the replies to its entries.
pub record AreReplies (P : Plan) (es : List HistoryEntry) (each : List (Vec Reply Global)) : Type 0 where
  pub size : length each ≡ length P.cpus
  pub replies : (p : ℕ) (d : Vec Reply Global) → p < length each → (slice_index_or each p d).items ≡ picked P (is_for p) es

-- those to the first entries lie there still, and the others' were put into one list, from the last to the first
pub record Leaves (P : Plan) (whole es : List HistoryEntry) (lists : List (Vec Reply Global)) (all : List Reply) : Type 0 where
  pub each : AreReplies P es lists
  pub rest : replies P es ++ reverse all ≡ replies P whole
