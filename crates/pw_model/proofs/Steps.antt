-- What requests and histories leave.
use Rattle.std.proofs.Common.{inl, inr}
use Rattle.pw_model.specs.Effects.{takes_in, Taken}
use Rattle.std.proofs.Common.{zero, eqb-true, eq-eqb}
use Rattle.pw_model.proofs.Ways.{has_way}
use Rattle.pw_model.specs.Numbers.{IsIn}
use Rattle.pw_model.specs.Locality.{AllTold, KeepsRecords, Tells, put}
use Rattle.pw_model.specs.Records.{IsRecord, Part, container, domain, group, is_record, reach}
use Rattle.std.proofs.Common.{◌≡◌, ◌==◌, ℕ, suc, zero, Bool, true, false, cond, List, [], ◌∷◌, length, take, refl, sym, ◌∙◌, ap, subst, eqb-true, eq-eqb}
use Rattle.std.specs.List.{AllByRecursion}
use Rattle.pw_plan.specs.declared.plan.Plan.{Plan}
use Rattle.pw_plan.specs.declared.request.Request.{Request}
use Rattle.pw_plan.specs.Requests.{Has}
use Rattle.pw_model.specs.declared.entry.HistoryEntry.{HistoryEntry}
use Rattle.pw_model.specs.declared.state.State.{State}
use Rattle.pw_model.specs.States.{IsState}
use Rattle.pw_model.specs.Answers.{after}
use Rattle.pw_model.specs.History.{StatesRequest, replay, request_of}
use Rattle.pw_model.specs.Effects.{Effect, effect}
use Rattle.pw_model.specs.inner.Wired.{IsWired}
use Rattle.pw_model.specs.Locality.{AllTold, Apart, KeepsRecords, put, IsDone, IsTold, SameParts, Stays, StaysInHistory}
use Rattle.pw_model.specs.Records.{Record, footprint, part_of}
use Rattle.pw_model.proofs.Agree.{SameOn, effect_prefix, effect_same}
use Rattle.pw_model.proofs.Central.{does, is_local}
use Rattle.pw_model.proofs.Joining.{replay-append}
use Rattle.pw_model.proofs.Staying.{after_fits, replay_fits, request_has}
use Rattle.pw_model.proofs.Ways.{has_way}

-- # By what is held of records

pub is_told : (P : Plan) (q : Request) → IsWired P → Has P q → IsTold P q
is_told P q wired has = record {
  next = λ S F j s h.
      let a = does P wired S s q has in
      ap (take (suc j)) a.takes ∙ effect_prefix P (part_of P S) F q j (subst (λ rs. SameOn (part_of P S) F (take j rs)) a.takes h);
  done = λ S F s h.
      let a = does P wired S s q has in
      let e : effect P (part_of P S) q ≡ effect P F q = effect_same P (part_of P S) F q (subst (λ rs. SameOn (part_of P S) F rs) a.takes h) in
      subst (λ (d : Effect). IsDone P S q d) e (record { places = a.takes; reply = a.answers; operations = a.operates; parts = a.parts });
}

-- # A program that keeps records

pub same_record : (r s : Record) → is_record r s ≡ true → r ≡ s
same_record (container m) (container n) e = ap (λ k. container k) (eqb-true m n e)
same_record (domain m) (domain n) e = ap (λ k. domain k) (eqb-true m n e)
same_record (group m) (group n) e = ap (λ k. group k) (eqb-true m n e)
same_record (container m) (domain n) e = cc
same_record (container m) (group n) e = cc
same_record (domain m) (container n) e = cc
same_record (domain m) (group n) e = cc
same_record (group m) (container n) e = cc
same_record (group m) (domain n) e = cc

pub its_record : (r : Record) → is_record r r ≡ true
its_record (container m) = eq-eqb m m refl
its_record (domain m) = eq-eqb m m refl
its_record (group m) = eq-eqb m m refl

-- a record that is put has its new part, and another what it had
put_is : (P : Plan) (S T : State) (F : Record → Part) (r : Record) (ts : List Taken) → AllByRecursion (λ (t : Taken). part_of P T t.place ≡ t.part) ts
    → ((IsIn r (takes_in ts) → ⊥) → part_of P T r ≡ F r) → part_of P T r ≡ put F ts r
put_is P S T F r [] a h = h (λ x. x)
put_is P S T F r (t ∷ ts) a h = step (is_record r t.place) refl (λ k. put_is P S T F r ts a.1 k)
  where
    step : (b : Bool) → is_record r t.place ≡ b → (((IsIn r (takes_in ts) → ⊥) → part_of P T r ≡ F r) → part_of P T r ≡ put F ts r) → part_of P T r ≡ cond b t.part (put F ts r)
    step true e later = ap (part_of P T) (same_record r t.place e) ∙ a.0
    step false e later = later (λ out. h (λ i. elim i [
      | inl same ↦ let f : false ≡ true = sym e ∙ ap (λ x. is_record x t.place) same ∙ its_record t.place in cc
      | inr k ↦ out k
    ]))

tells_all : (P : Plan) (S : State) (F : Record → Part) (rs : List Record) → AllByRecursion (IsRecord P) rs → AllTold P S F → Tells P S F rs
tells_all P S F [] a h = tt
tells_all P S F (r ∷ rs) a h = (h r a.0, tells_all P S F rs a.1 h)

first_exist : (P : Plan) (k : ℕ) (rs : List Record) → AllByRecursion (IsRecord P) rs → AllByRecursion (IsRecord P) (take k rs)
first_exist P zero rs a = tt
first_exist P (suc k) [] a = tt
first_exist P (suc k) (r ∷ rs) a = (a.0, first_exist P k rs a.1)

pub keeps_records : (P : Plan) (q : Request) → IsWired P → Has P q → KeepsRecords P q
keeps_records P q wired has S F s all =
    let way = has_way P q has in
    let begins = way.begins S in
    let tells : Tells P S F (footprint P S q) = tells_all P S F (footprint P S q) (subst (λ rs. AllByRecursion (IsRecord P) rs) (sym begins.1) (first_exist P begins.0 (reach P q) way.exist)) all in
    let done = (is_told P q wired has).done S F s tells in (
      done,
      λ r exists. put_is P S (after P S q) F r (effect P F q).takes done.parts
          (λ out. (does P wired S s q has).rest r (λ i. out (subst (λ rs. IsIn r rs) (sym (does P wired S s q has).takes ∙ done.places) i)) ∙ all r exists),
    )

-- # Other requests

pub stays : (P : Plan) (q other : Request) → IsWired P → Has P q → Has P other → ((S : State) → IsState P S → IsState P (after P S other)) → Stays P q other
stays P q other wired has also fits = record {
  parts = λ S rs s out. same S s rs out;
  way = λ S j s out. (is_local P q wired has).prefix S (after P S other) j s (fits S s) (same S s (take j (footprint P S q)) out);
}
  where
    same : (S : State) → IsState P S → (rs : List Record) → Apart rs (footprint P S other) → SameParts P S (after P S other) rs
    same S s [] out = tt
    same S s (r ∷ rs) out = (sym ((is_local P other wired also).rest S r s out.0), same S s rs out.1)

-- # Histories

same_all : (P : Plan) (S : State) (rs : List Record) → SameParts P S S rs
same_all P S [] = tt
same_all P S (r ∷ rs) = (refl, same_all P S rs)

pub stays_in_history : (P : Plan) (q : Request) → IsWired P → Has P q → StaysInHistory P q
stays_in_history P q wired has = record {
  parts = λ es e rs a i out. subst (λ (T : State). SameParts P (replay P es) T rs) (sym (replay-append P es (e ∷ []))) (parts e i (e.fault == 0) (replay P es) (replay_fits P es a) rs out);
  way = λ es e j a i out. subst (λ (T : State). take (suc j) (footprint P (replay P es) q) ≡ take (suc j) (footprint P T q)) (sym (replay-append P es (e ∷ [])))
      (way e i (e.fault == 0) (replay P es) (replay_fits P es a) j out);
}
  where
    other : (e : HistoryEntry) → StatesRequest P e → Stays P q (request_of e)
    other e i = stays P q (request_of e) wired has (request_has P e i) (λ S s. after_fits P S (request_of e) s (request_has P e i))

    parts : (e : HistoryEntry) → StatesRequest P e → (b : Bool) (S : State) → IsState P S → (rs : List Record) → Apart rs (footprint P S (request_of e))
        → SameParts P S (cond b (after P S (request_of e)) S) rs
    parts e i true S s rs out = (other e i).parts S rs s out
    parts e i false S s rs out = same_all P S rs

    way : (e : HistoryEntry) → StatesRequest P e → (b : Bool) (S : State) → IsState P S → (j : ℕ) → Apart (take j (footprint P S q)) (footprint P S (request_of e))
        → take (suc j) (footprint P S q) ≡ take (suc j) (footprint P (cond b (after P S (request_of e)) S) q)
    way e i true S s j out = (other e i).way S j s out
    way e i false S s j out = refl

-- what agrees with all of a list and has no more is it
pub whole_from_take : {X : Type 0} (xs ys : List X) → take (suc (length xs)) xs ≡ take (suc (length xs)) ys → xs ≡ ys
whole_from_take [] [] e = refl
whole_from_take [] (y ∷ ys) e = cc
whole_from_take (x ∷ xs) [] e = cc
whole_from_take (x ∷ xs) (y ∷ ys) e =
    let first : x ≡ y = cc in
    let rest : xs ≡ ys = whole_from_take xs ys (cc) in
    cc
