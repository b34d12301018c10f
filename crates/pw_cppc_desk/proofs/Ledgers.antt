-- The work of a plan, as it opens and behind each request.
use Rattle.std.proofs.Common.{◌≡◌, ◌≤◌, ◌<◌, ◌+◌, ◌++◌, ◌∷◌, ◌∙◌, ℕ, [], length, length-append, ap, sym, arith}
use Rattle.pw_kind.specs.History as histories
use Rattle.pw_cppc.specs.declared.plan.CppcPlan.{CppcPlan}
use Rattle.pw_cppc.specs.declared.request.CppcRequest.{CppcRequest}
use Rattle.pw_cppc.specs.Requests.{Has, opening_bound, ops_bound}
use Rattle.pw_cppc.specs.declared.entry.CppcEntry.{CppcEntry}
use Rattle.pw_cppc.specs.declared.numbers.CppcNumbers.{CppcNumbers}
use Rattle.pw_cppc.specs.States.{AreNumbers, opening}
use Rattle.pw_cppc.specs.Answers.{after}
use Rattle.pw_cppc.specs.History.{Faultless, replay}
use Rattle.pw_cppc.specs.Operations.{ops_of}
use Rattle.pw_cppc.proofs.Joining.{legal-empty}
use Rattle.pw_cppc.proofs.Staying.{replay_fits}
use Rattle.pw_cppc_desk.specs.Entries.{entry_as}
use Rattle.pw_cppc_desk.specs.Ledgered.{IsLedgerOf, Ledgered}
use Rattle.pw_cppc_desk.proofs.Entering.{legal_done, legal_stopped, replay_done, replay_stopped}

pub opening_replayed : (P : CppcPlan) (S : CppcNumbers) → S ≡ opening P → S ≡ replay P []
unfolding histories.replay
opening_replayed P S is = is

module _ {R : Type 0} (P : CppcPlan) where
  -- with no entry
  pub first_ledger : (w : Ledgered R) → w.entries ≡ [] → w.numbers ≡ replay P [] → opening_bound P ≤ w.room → ((q : CppcRequest) → ops_bound P q ≤ w.room) → IsLedgerOf P w
  first_ledger w empty numbers opening requests = record {
    legal = rw empty (legal-empty P);
    within = rw empty (omega arith);
    opening = opening;
    requests = requests;
    numbers = rw empty numbers;
  }

  -- the same but for the registers
  pub same_ledger : (w new : Ledgered R) → IsLedgerOf P w → new.numbers ≡ w.numbers → new.entries ≡ w.entries → new.capacity ≡ w.capacity → new.room ≡ w.room → IsLedgerOf P new
  same_ledger w new of numbers entries capacity room = record {
    legal = rw entries of.legal;
    within = rw (entries, capacity) of.within;
    opening = rw room of.opening;
    requests = λ q. rw room (of.requests q);
    numbers = numbers ∙ of.numbers ∙ ap (replay P) (sym entries);
  }

  module _ (w : Ledgered R) (of : IsLedgerOf P w) (none : Faultless w.entries) (q : CppcRequest) (has : Has P q) where
    pub numbers_fit : AreNumbers P w.numbers
    numbers_fit = rw of.numbers (replay_fits P w.entries)

    module _ (seat : ℕ) (new : Ledgered R) (capacity : new.capacity ≡ w.capacity) (room : new.room ≡ w.room) (space : length w.entries < w.capacity) where
      within_more : (e : CppcEntry) → new.entries ≡ w.entries ++ e ∷ [] → length new.entries ≤ new.capacity
      within_more e is = let more = length-append w.entries (e ∷ []) in rw (is, capacity) (omega (arith, more, space))

      pub ledger_done : new.entries ≡ w.entries ++ entry_as seat q 0 ∷ [] → new.numbers ≡ after P w.numbers q → IsLedgerOf P new
      ledger_done is numbers = record {
        legal = rw is (legal_done P w.entries seat q none has of.legal);
        within = within_more (entry_as seat q 0) is;
        opening = rw room of.opening;
        requests = λ r. rw room (of.requests r);
        numbers = numbers ∙ ap (λ S. after P S q) of.numbers ∙ sym (replay_done P w.entries seat q) ∙ ap (replay P) (sym is);
      }

      pub ledger_stopped : (k : ℕ) → k < length (ops_of P (replay P w.entries) q) → new.entries ≡ w.entries ++ entry_as seat q (k + 1) ∷ [] → new.numbers ≡ w.numbers → IsLedgerOf P new
      ledger_stopped k lt is numbers = record {
        legal = rw is (legal_stopped P w.entries seat q none has of.legal k lt);
        within = within_more (entry_as seat q (k + 1)) is;
        opening = rw room of.opening;
        requests = λ r. rw room (of.requests r);
        numbers = numbers ∙ of.numbers ∙ sym (replay_stopped P w.entries seat q k) ∙ ap (replay P) (sym is);
      }
