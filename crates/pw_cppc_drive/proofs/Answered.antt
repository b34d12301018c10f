-- The replies of a history with one more entry.
use Rattle.std.proofs.Common.{◌≡◌, ◌+◌, ◌==◌, ◌++◌, ◌∷◌, ◌∙◌, ℕ, false, List, [], refl, ap, sym, arith, append-nil}
use Rattle.std.proofs.lemmas.Bool.Decides.{nat_tests}
use Rattle.pw_kind.specs.History as histories
use Rattle.pw_cppc.specs.declared.plan.CppcPlan.{CppcPlan}
use Rattle.pw_cppc.specs.declared.request.CppcRequest.{CppcRequest}
use Rattle.pw_cppc.specs.declared.entry.CppcEntry.{CppcEntry}
use Rattle.pw_cppc.specs.declared.reply.CppcReply.{CppcReply}
use Rattle.pw_cppc.specs.Answers.{answer}
use Rattle.pw_cppc.specs.History.{replay, replies}
use Rattle.pw_cppc.proofs.Joining.{replies-append, request_of-entry}
use Rattle.pw_cppc_desk.specs.Entries.{entry_as}

pub replies_none : (P : CppcPlan) → replies P [] ≡ []
unfolding histories.replies
replies_none P = refl

pub replied_done : (P : CppcPlan) (es fs : List CppcEntry) (q : CppcRequest) (reply : CppcReply) → fs ≡ es ++ entry_as 0 q 0 ∷ [] → reply ≡ answer P (replay P es) q
    → replies P fs ≡ replies P es ++ reply ∷ []
replied_done P es fs q reply entry is =
    ap (replies P) entry ∙ replies-append P es (entry_as 0 q 0 ∷ [])
    ∙ ap (λ r. replies P es ++ answer P (replay P es) r ∷ []) (request_of-entry 0 0 q) ∙ ap (λ r. replies P es ++ r ∷ []) (sym is)

some_is : (k : ℕ) → (k + 1 == 0) ≡ false
some_is k = grind (arith, nat_tests)

-- a fault has none
pub replied_stopped : (P : CppcPlan) (es fs : List CppcEntry) (q : CppcRequest) (k : ℕ) → fs ≡ es ++ entry_as 0 q (k + 1) ∷ [] → replies P fs ≡ replies P es
replied_stopped P es fs q k entry = ap (replies P) entry ∙ replies-append P es (entry_as 0 q (k + 1) ∷ []) ∙ rw (some_is k) (append-nil (replies P es))
