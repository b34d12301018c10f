-- A run over lines, one line further.
use Rattle.std.proofs.Common.{◌≡◌, ◌≤◌, ◌<◌, ◌+◌, ◌++◌, ◌∷◌, ◌∙◌, ℕ, true, List, [], length, take, drop, get_or, None, refl, ap, sym, subst, append-nil, take-append-drop}
use Rattle.std.specs.Prelude.{is_some}
use Rattle.std.specs.List.{AllByRecursion}
use Rattle.std.proofs.lemmas.List.{map-append, take_more}
use Rattle.std.proofs.lemmas.List.Sums.{sum_by-take-le, sum_by_push}
use Rattle.pw_plan.proofs.Lists.{each_append}
use Rattle.pw_regs.specs.Seen.{RegistersSeen}
use Rattle.pw_regs.specs.Doing.{Did}
use Rattle.pw_regs.proofs.Operating.{did_as, did_more, did_nothing, did_within}
use Rattle.pw_cppc.specs.declared.plan.CppcPlan.{CppcPlan}
use Rattle.pw_cppc.specs.Requests.{ops_bound}
use Rattle.pw_cppc.specs.declared.entry.CppcEntry.{CppcEntry}
use Rattle.pw_cppc.specs.History.{Faultless, Legal, entry_ops, fault_at, history_ops, replay, requests}
use Rattle.pw_cppc.proofs.Joining.{faultless_none, legal-empty, requests-append}
use Rattle.pw_cppc_drive.specs.declared.script.CppcLine.{CppcLine as line}
use Rattle.pw_cppc_drive.specs.Reading.{requests_of}
use Rattle.pw_cppc_desk.proofs.Entering.{ops_more}
use Rattle.pw_cppc_drive.specs.inner.Running.{Ran, Turned, lines_bound}
use Rattle.pw_cppc_desk.proofs.Holding.{no_ops}

-- The requests of these lines were made, and no register failed.
pub record Runs (P : CppcPlan) (lines : List line) (es : List CppcEntry) (old new : RegistersSeen) : Type 0 where
  pub legal : Legal P es
  pub faultless : Faultless es
  pub seats : AllByRecursion (λ (e : CppcEntry). e.seat ≡ 0) es
  pub asked : requests es ≡ requests_of lines
  pub did : Did (lines_bound P lines) (history_ops P es) None old new

pub runs_none : (P : CppcPlan) (s : RegistersSeen) → Runs P [] [] s s
runs_none P s = record { legal = legal-empty P; faultless = tt; seats = tt; asked = refl; did = did_as 0 [] (history_ops P []) None None s s (sym (no_ops P)) refl (did_nothing s) }

module _ (P : CppcPlan) (before : List line) (l : line) (es fs : List CppcEntry) (old mid new : RegistersSeen)
    (runs : Runs P before es old mid) (turned : Turned P l.request es fs mid new) where
  seats_more : AllByRecursion (λ (e : CppcEntry). e.seat ≡ 0) fs
  seats_more = rw turned.is (each_append (λ (e : CppcEntry). e.seat ≡ 0) es (turned.entry ∷ []) runs.seats (turned.seat, tt))

  asked_more : requests fs ≡ requests_of (before ++ l ∷ [])
  asked_more =
      ap requests turned.is ∙ requests-append es (turned.entry ∷ []) ∙ ap (λ q. requests es ++ q ∷ []) turned.request ∙ ap (λ qs. qs ++ l.request ∷ []) runs.asked
      ∙ sym (map-append (λ (l : line). l.request) before (l ∷ []))

  ops_then : history_ops P es ++ entry_ops P (replay P es) turned.entry ≡ history_ops P fs
  ops_then = sym (ops_more P es turned.entry) ∙ ap (history_ops P) (sym turned.is)

  did_line : Did (lines_bound P (before ++ l ∷ [])) (history_ops P fs) (fault_at fs) old new
  did_line =
      let all = did_more (lines_bound P before) (ops_bound P l.request) (history_ops P es) (entry_ops P (replay P es) turned.entry) (fault_at fs) old mid new runs.did turned.did in
      let count : lines_bound P (before ++ l ∷ []) ≡ lines_bound P before + ops_bound P l.request = sum_by_push (λ (l : line). ops_bound P l.request) before l in
      rw (count, ← ops_then) all

  pub runs_on : Faultless fs → Runs P (before ++ l ∷ []) fs old new
  runs_on none = record {
    legal = turned.legal;
    faultless = none;
    seats = seats_more;
    asked = asked_more;
    did = did_as (lines_bound P (before ++ l ∷ [])) (history_ops P fs) (history_ops P fs) (fault_at fs) None old new refl (faultless_none fs none) did_line;
  }

  pub ran_stopped : (lines later : List line) → lines ≡ (before ++ l ∷ []) ++ later → lines_bound P (before ++ l ∷ []) ≤ lines_bound P lines → is_some (fault_at fs) ≡ true → Ran P lines fs old new
  ran_stopped lines later is within stopped = record {
    serial = record {
      legal = turned.legal;
      rest = requests_of later;
      begins = ap requests_of is ∙ map-append (λ (l : line). l.request) (before ++ l ∷ []) later ∙ ap (λ qs. qs ++ requests_of later) (sym asked_more);
      whole = λ none. absurd (no_fault none);
    };
    seats = seats_more;
    did = did_within (lines_bound P (before ++ l ∷ [])) (lines_bound P lines) (history_ops P fs) (fault_at fs) old new within did_line;
  }
    where
      no_fault : Faultless fs → ⊥
      no_fault none = let e = faultless_none fs none in let there = rw e at stopped in cc

-- all lines were made
pub ran_all : (P : CppcPlan) (lines : List line) (es : List CppcEntry) (old new : RegistersSeen) → Runs P lines es old new → Ran P lines es old new
ran_all P lines es old new runs = record {
  serial = record {
    legal = runs.legal;
    rest = [];
    begins = sym runs.asked ∙ sym (append-nil (requests es));
    whole = λ none. runs.asked;
  };
  seats = runs.seats;
  did = did_as (lines_bound P lines) (history_ops P es) (history_ops P es) None (fault_at es) old new refl (sym (faultless_none es runs.faultless)) runs.did;
}

-- # By the number of lines so far

module _ (P : CppcPlan) (lines : List line) (i : ℕ) (d : line) (lt : i < length lines) (es fs : List CppcEntry) (old mid new : RegistersSeen)
    (runs : Runs P (take i lines) es old mid) (turned : Turned P (get_or lines i d).request es fs mid new) where
  pub runs_further : Faultless fs → Runs P (take (i + 1) lines) fs old new
  runs_further none = rw (take_more lines i d lt) (runs_on P (take i lines) (get_or lines i d) es fs old mid new runs turned none)

  pub ran_so_far : is_some (fault_at fs) ≡ true → Ran P lines fs old new
  ran_so_far stopped =
      let more = take_more lines i d lt in
      ran_stopped P (take i lines) (get_or lines i d) es fs old mid new runs turned lines (drop (i + 1) lines)
      (sym (take-append-drop (i + 1) lines) ∙ ap (λ (ls : List line). ls ++ drop (i + 1) lines) more)
      (subst (λ (ls : List line). lines_bound P ls ≤ lines_bound P lines) more (sum_by-take-le (λ (l : line). ops_bound P l.request) lines (i + 1)))
      stopped
