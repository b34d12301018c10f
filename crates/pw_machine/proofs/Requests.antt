-- What a request wants of the turns, as the view or the history changes.
use Rattle.std.proofs.Common.{◌≡◌, ◌≢◌, ℕ, ◌+◌, ◌<◌, List, [], ◌∷◌, ◌++◌, Bool, true, false, Option, Some, None, if◌then◌else◌, eqb, ne_eqb, sym, refl, ap, ◌∙◌, subst, arith, append_assoc, append-nil}
use Rattle.pw_plan.specs.declared.plan.Plan.{Plan}
use Rattle.pw_model.specs.declared.state.State.{State}
use Rattle.pw_plan.specs.declared.request.Request.{Request}
use Rattle.pw_model.specs.declared.entry.HistoryEntry.{HistoryEntry}
use Rattle.pw_machine.specs.Turns.{count_turn, StartsWith}
use Rattle.pw_plan.specs.Requests.{Has}
use Rattle.pw_model.specs.States.{IsState}
use Rattle.pw_model.specs.Answers.{after}
use Rattle.pw_model.specs.History.{Legal, MayFollow, replay, request_of}
use Rattle.pw_model.specs.Records.{record_count}
use Rattle.pw_machine.specs.Turns.{part_at, way}
use Rattle.pw_machine.proofs.Plans.{legal_state, follows_has, replay_snoc, part_stays, way_front}
use Rattle.pw_machine.specs.declared.view.Held.{Held}
use Rattle.pw_machine.specs.Machine.{turns_of, count_held, IsNoted, ServesRequest}
use Rattle.pw_machine.specs.Steps.{request_left, sign_left}
use Rattle.pw_books.proofs.Lists.{off, one}
use Rattle.pw_machine.proofs.Turns.{count-turns, noted_off}

pub no_some : {A : Type 0} (q : Request) → Some q ≡ None → A
no_some q e = absurd (cc)

-- # Fronts

count_turn-append : (t : ℕ) (xs ys : List ℕ) → count_turn t (xs ++ ys) ≡ count_turn t xs + count_turn t ys
count_turn-append t [] ys = omega arith
count_turn-append t (x ∷ xs) ys = omega (arith, count_turn-append t xs ys)

pub next_in : (l front : List ℕ) (t : ℕ) → StartsWith l (front ++ t ∷ []) → 0 < count_turn t l
next_in l front t b = subst (λ l. 0 < count_turn t l) (sym b.1) (omega (arith, count_turn-append t (front ++ t ∷ []) b.0, count_turn-append t front (t ∷ []), one t t refl))

pub front_of : (l front : List ℕ) (t : ℕ) → StartsWith l (front ++ t ∷ []) → StartsWith l front
front_of l front t b = (t ∷ b.0, b.1 ∙ append_assoc front (t ∷ []) b.0)

pub all_of : (l front : List ℕ) → front ≡ l → StartsWith l front
all_of l front e = ([], sym e ∙ sym (append-nil front))

-- # Requests

-- a view that looks for its turns
pub serves_asking : (P : Plan) (S : State) (hs : List Held) (q : Request) → Has P q → StartsWith (way P S q) (turns_of hs) → IsNoted P S hs
    → ServesRequest P S hs false (Some q) false
serves_asking P S hs q has begins noted = record {
  of_plan = λ r e. let same : q ≡ r = cc in subst (Has P) same has;
  before = λ r e _. let same : q ≡ r = cc in subst (λ q. StartsWith (way P S q) (turns_of hs)) same begins;
  whole = λ r _ e. off false refl e;
  back = λ e. off false refl e;
  rests = λ e. no_some q e;
  noted = noted;
}

-- a view that has all its turns
pub serves_leading : (P : Plan) (S : State) (hs : List Held) (q : Request) → Has P q → turns_of hs ≡ way P S q → IsNoted P S hs
    → ServesRequest P S hs true (Some q) false
serves_leading P S hs q has all noted = record {
  of_plan = λ r e. let same : q ≡ r = cc in subst (Has P) same has;
  before = λ r e _. let same : q ≡ r = cc in subst (λ q. StartsWith (way P S q) (turns_of hs)) same (all_of (way P S q) (turns_of hs) all);
  whole = λ r e _. let same : q ≡ r = cc in subst (λ q. turns_of hs ≡ way P S q) same all;
  back = λ e. off false refl e;
  rests = λ e. no_some q e;
  noted = noted;
}

-- a view that only releases
pub serves_releasing : (P : Plan) (S : State) (hs : List Held) (request : Option Request) → ((q : Request) → request ≡ Some q → Has P q)
    → (request ≡ None → hs ≡ []) → IsNoted P S hs
    → ServesRequest P S hs false (request_left hs request) (sign_left hs true)
serves_releasing P S [] request has rests noted = record {
  of_plan = λ q e. no_some q (sym e);
  before = λ q e _. no_some q (sym e);
  whole = λ q _ e. off false refl e;
  back = λ e. off false refl e;
  rests = λ _. (refl, refl, refl);
  noted = tt;
}
serves_releasing P S (h ∷ hs) request has rests noted = record {
  of_plan = has;
  before = λ q _ e. off true e refl;
  whole = λ q _ e. off false refl e;
  back = λ _. refl;
  rests = λ e. let nil = rests e in absurd (cc);
  noted = noted;
}

pub serves_nothing : (P : Plan) (S : State) → ServesRequest P S [] false None false
serves_nothing P S = record {
  of_plan = λ q e. no_some q (sym e);
  before = λ q e _. no_some q (sym e);
  whole = λ q _ e. off false refl e;
  back = λ e. off false refl e;
  rests = λ _. (refl, refl, refl);
  noted = tt;
}

-- # An entry

-- an entry leaves the records off its footprint alone
pub entry_stays : (P : Plan) (history : List HistoryEntry) (e : HistoryEntry) (t : ℕ) → Legal P history → MayFollow P history e
    → t < record_count P → count_turn t (way P (replay P history) (request_of e)) ≡ 0
    → part_at P t (replay P (history ++ e ∷ [])) ≡ part_at P t (replay P history)
entry_stays P history e t legal follows low away = ap (part_at P t) (replay_snoc P history e) ∙ go (eqb e.fault 0)
  where
    go : (b : Bool)
        → part_at P t (if b then after P (replay P history) (request_of e) else replay P history) ≡ part_at P t (replay P history)
    go true = part_stays P (replay P history) (request_of e) t (legal_state P history legal) (follows_has P history e follows) low away
    go false = refl

-- a fault changes nothing
pub fault_stays : (P : Plan) (history : List HistoryEntry) (e : HistoryEntry) → e.fault ≢ 0
    → replay P (history ++ e ∷ []) ≡ replay P history
fault_stays P history e ne = replay_snoc P history e ∙ ap (λ b. if b then after P (replay P history) (request_of e) else replay P history) (ne_eqb e.fault 0 ne)

-- a view without the journal goes on as it was, where the records that it holds stay
pub serves_still : (P : Plan) (S S2 : State) (hs : List Held) (leads : Bool) (request : Option Request) (releasing : Bool) → IsState P S
    → IsState P S2 → leads ≡ false → ((t : ℕ) → 0 < count_held t hs → part_at P t S2 ≡ part_at P t S)
    → ServesRequest P S hs leads request releasing → ServesRequest P S2 hs leads request releasing
serves_still P S S2 hs leads request releasing s s2 none same g = record {
  of_plan = g.of_plan;
  before = λ q is on. way_front P S S2 q (turns_of hs) s s2 (g.of_plan q is) (λ t more. same t (omega (arith, count-turns t hs, more))) (g.before q is on);
  whole = λ q is leads. off _ none leads;
  back = g.back;
  rests = g.rests;
  noted = noted_off P S S2 hs same g.noted;
}
