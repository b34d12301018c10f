-- A run over lines, one line further.
use Rattle.std.proofs.Common.{◌≡◌, ◌≤◌, ◌<◌, ◌+◌, ◌++◌, ◌∷◌, ◌∙◌, ℕ, true, false, List, [], length, map, take, drop, get_or, None, Result, Ok, Err, refl, ap, sym, subst, append-nil, take-append-drop}
use Rattle.std.specs.Prelude.{is_err, is_some, OnOk}
use Rattle.std.specs.List.{AllByRecursion}
use Rattle.std.proofs.lemmas.List.{length-map, map-append, take_more}
use Rattle.std.proofs.lemmas.List.Sums.{sum_by-take-le, sum_by_push}
use Rattle.pw_plan.specs.declared.plan.Plan.{Plan}
use Rattle.pw_plan.specs.Requests.{ops_bound}
use Rattle.pw_plan.proofs.Lists.{each_append}
use Rattle.pw_model.specs.declared.entry.HistoryEntry.{HistoryEntry}
use Rattle.pw_model.specs.History.{Faultless, entry_ops, fault_at, history_ops, replay, request_of}
use Rattle.pw_model.proofs.Joining.{faultless_none}
use Rattle.pw_regs.specs.Seen.{RegistersSeen}
use Rattle.pw_script.specs.declared.script.Line.{Line as line}
use Rattle.pw_script.specs.Reading.{requests_of}
use Rattle.pw_drive.specs.declared.records.Records.{Records}
use Rattle.pw_regs.specs.Doing.{Did}
use Rattle.pw_drive.specs.inner.Running.{Ran, Stands, Turned, lines_bound}
use Rattle.pw_regs.proofs.Operating.{did_as, did_more, did_nothing, did_within}
use Rattle.pw_machine.proofs.Plans.{ops_nil, ops_snoc}

-- The requests of these lines were made, and no register failed.
pub record Runs (P : Plan) (lines : List line) (es : List HistoryEntry) (R : Records) (old new : RegistersSeen) : Type 0 where
  pub stands : Stands P es R
  pub seats : AllByRecursion (λ (e : HistoryEntry). e.seat ≡ 0) es
  pub asked : map request_of es ≡ requests_of lines
  pub did : Did (lines_bound P lines) (history_ops P es) None old new

pub runs_none : (P : Plan) (R : Records) (s : RegistersSeen) → Stands P [] R → Runs P [] [] R s s
runs_none P R s stands = record { stands = stands; seats = tt; asked = refl; did = did_as 0 [] (history_ops P []) None None s s (sym (ops_nil P)) refl (did_nothing s) }

pub asked_count : (es : List HistoryEntry) (lines : List line) → map request_of es ≡ requests_of lines → length es ≡ length lines
asked_count es lines e = sym (length-map es request_of) ∙ ap length e ∙ length-map lines (λ (l : line). l.request)

module _ (P : Plan) (before : List line) (l : line) (es fs : List HistoryEntry) (was : Records) (old mid new : RegistersSeen)
    (runs : Runs P before es was old mid) (turned : Turned P l.request es fs mid new) where
  seats_more : AllByRecursion (λ (e : HistoryEntry). e.seat ≡ 0) fs
  seats_more = rw turned.is (each_append (λ (e : HistoryEntry). e.seat ≡ 0) es (turned.entry ∷ []) runs.seats (turned.seat, tt))

  asked_more : map request_of fs ≡ requests_of (before ++ l ∷ [])
  asked_more =
      ap (map request_of) turned.is ∙ map-append request_of es (turned.entry ∷ []) ∙ ap (λ q. map request_of es ++ q ∷ []) turned.request ∙ ap (λ qs. qs ++ l.request ∷ []) runs.asked
      ∙ sym (map-append (λ (l : line). l.request) before (l ∷ []))

  ops_then : history_ops P es ++ entry_ops P (replay P es) turned.entry ≡ history_ops P fs
  ops_then = sym (ops_snoc P es turned.entry) ∙ ap (history_ops P) (sym turned.is)

  did_line : Did (lines_bound P (before ++ l ∷ [])) (history_ops P fs) (fault_at fs) old new
  did_line =
      let all = did_more (lines_bound P before) (ops_bound P l.request) (history_ops P es) (entry_ops P (replay P es) turned.entry) (fault_at fs) old mid new runs.did turned.did in
      let count : lines_bound P (before ++ l ∷ []) ≡ lines_bound P before + ops_bound P l.request = sum_by_push (λ (l : line). ops_bound P l.request) before l in
      rw (count, ← ops_then) all

  pub runs_on : (now : Records) → Stands P fs now → Runs P (before ++ l ∷ []) fs now old new
  runs_on now stands = record {
    stands = stands;
    seats = seats_more;
    asked = asked_more;
    did = did_as (lines_bound P (before ++ l ∷ [])) (history_ops P fs) (history_ops P fs) (fault_at fs) None old new refl (faultless_none fs stands.faultless) did_line;
  }

  pub ran_stopped : (lines later : List line) → lines ≡ (before ++ l ∷ []) ++ later → lines_bound P (before ++ l ∷ []) ≤ lines_bound P lines → is_some (fault_at fs) ≡ true → Ran P lines fs old new
  ran_stopped lines later is within stopped = record {
    serial = record {
      legal = turned.legal;
      begins = record { rest = requests_of later; is = ap requests_of is ∙ map-append (λ (l : line). l.request) (before ++ l ∷ []) later ∙ ap (λ qs. qs ++ requests_of later) (sym asked_more) };
      whole = λ none. absurd (no_fault none);
    };
    seats = seats_more;
    did = did_within (lines_bound P (before ++ l ∷ [])) (lines_bound P lines) (history_ops P fs) (fault_at fs) old new within did_line;
  }
    where
      no_fault : Faultless fs → ⊥
      no_fault none = let e = faultless_none fs none in let there = rw e at stopped in cc

-- all lines were made
pub ran_all : (P : Plan) (lines : List line) (es : List HistoryEntry) (R : Records) (old new : RegistersSeen) → Runs P lines es R old new → Ran P lines es old new
ran_all P lines es R old new runs = record {
  serial = record {
    legal = runs.stands.legal;
    begins = record { rest = []; is = sym runs.asked ∙ sym (append-nil (map request_of es)) };
    whole = λ none. runs.asked;
  };
  seats = runs.seats;
  did = did_as (lines_bound P lines) (history_ops P es) (history_ops P es) None (fault_at es) old new refl (sym (faultless_none es runs.stands.faultless)) runs.did;
}

-- # By the number of lines so far

module _ (P : Plan) (lines : List line) (i : ℕ) (d : line) (lt : i < length lines) (es fs : List HistoryEntry) (was : Records) (old mid new : RegistersSeen)
    (runs : Runs P (take i lines) es was old mid) (turned : Turned P (get_or lines i d).request es fs mid new) where
  pub runs_further : (now : Records) → Stands P fs now → Runs P (take (i + 1) lines) fs now old new
  runs_further now stands = rw (take_more lines i d lt) (runs_on P (take i lines) (get_or lines i d) es fs was old mid new runs turned now stands)

  pub ran_so_far : is_some (fault_at fs) ≡ true → Ran P lines fs old new
  ran_so_far stopped =
      let more = take_more lines i d lt in
      ran_stopped P (take i lines) (get_or lines i d) es fs was old mid new runs turned lines (drop (i + 1) lines)
      (sym (take-append-drop (i + 1) lines) ∙ ap (λ (ls : List line). ls ++ drop (i + 1) lines) more)
      (subst (λ (ls : List line). lines_bound P ls ≤ lines_bound P lines) more (sum_by-take-le (λ (l : line). ops_bound P l.request) lines (i + 1)))
      stopped

-- # How a call ended

pub where_ok : {T E X : Type 0} (r : Result T E) → is_err r ≡ false → OnOk r X → X
where_ok (Ok x) e h = h
where_ok (Err k) e h = cc
