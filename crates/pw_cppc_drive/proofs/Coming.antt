-- What may come of requests by workers is what may come of them as their texts tell it.
use Rattle.std.proofs.Common.{◌≡◌, ◌≤◌, ◌++◌, ℕ, List, [], ap, sym, ◌∙◌, inl, inr, length, Option, Some, None}
use Rattle.std.specs.List.{AllByRecursion}
use Rattle.std.proofs.lemmas.Bool.{cases_lt}
use Rattle.pw_history.proofs.Firsts.{own-none, own-past}
use Rattle.pw_books.specs.Asked.{own, requests}
use Rattle.pw_cppc.specs.declared.plan.CppcPlan.{CppcPlan}
use Rattle.pw_cppc.specs.declared.request.CppcRequest.{CppcRequest}
use Rattle.pw_cppc.specs.declared.entry.CppcEntry.{CppcEntry}
use Rattle.pw_cppc.specs.Requests.{Has}
use Rattle.pw_cppc_drive.specs.HistoryText.{performance_words}
use Rattle.pw_cppc_drive.specs.Lawful.{Lawful, telling}
use Rattle.pw_cppc_drive.specs.Wholes.{MayCome}
use Rattle.pw_cppc_drive.proofs.Told.{performance_fits}

pub told : (P : CppcPlan) (asked : List CppcRequest) (o : Option ℕ) (es : List CppcEntry) → Lawful P asked o es → MayCome P asked o es
told P asked (Some k) es lawful = lawful
told P asked None es lawful =
    let run = lawful.1 in
    record {
      legal = lawful.0;
      begins = λ p lt. record { rest = (run.begins p).0; is = (run.begins p).1 };
      whole = λ none p lt. run.whole none p;
    }

pub by_workers : (P : CppcPlan) (asked : List CppcRequest) (o : Option ℕ) (es : List CppcEntry) → AllByRecursion (Has P) asked → MayCome P asked o es → Lawful P asked o es
by_workers P asked (Some k) es has may = may
by_workers P asked None es has may =
    let past : (p : ℕ) → length P.cpus ≤ p → own telling p (requests telling es) ≡ [] = λ p le. own-past performance_words (performance_fits P) es p may.legal.well_formed.entries le in (
      may.legal,
      record {
        begins = λ p. elim (cases_lt p (length P.cpus)) [
          | inl lt ↦ ((may.begins p lt).rest, (may.begins p lt).is)
          | inr le ↦ (own telling p asked, ap (λ l. l ++ own telling p asked) (sym (past p le)))
        ];
        whole = λ none p. elim (cases_lt p (length P.cpus)) [
          | inl lt ↦ may.whole none p lt
          | inr le ↦ past p le ∙ sym (own-none performance_words (length P.cpus) p asked has le)
        ];
      },
    )
