-- What a reply tells of a request's operations, and of where processors stand after it.
use Rattle.std.proofs.Common.{◌≡◌, ◌≢◌, ◌<◌, ◌==◌, ◌||◌, ℕ, Bool, true, false, cond, List, [], ◌∷◌, ◌++◌, map, length, get_or, Option, Some, None, refl, ap, sym, subst, ◌∙◌, arith, inl, inr, zero-add, append_assoc, eqb-true, eq-eqb, get_or-set_same, get_or-set_other}
use Rattle.std.specs.Prelude.{slice_set}
use Rattle.std.specs.List.{flat_map, range_with_len}
use Rattle.std.proofs.lemmas.Bool.{cases_eq, lt-ltb}
use Rattle.std.proofs.lemmas.List.{length-set}
use Rattle.std.proofs.lemmas.List.FromFn.{get_or-map-range_with_len, length-map-range_with_len}
use Rattle.acpi_values.specs.declared.operation.Op.{Op}
use Rattle.pw_plan.specs.Groups.{has_member, is_software}
use Rattle.pw_plan.proofs.Lists.{or_left}
use Rattle.pw_plan.proofs.Placing.{the_member}
use Rattle.pw_model.specs.Operations.{set_at}
use Rattle.pw_cppc.specs.declared.numbers.CppcNumbers.{CppcNumbers}
use Rattle.pw_cppc.specs.declared.parts.Control.TheVariants.{Desired}
use Rattle.pw_cppc.specs.declared.plan.CppcPlan.{CppcPlan}
use Rattle.pw_cppc.specs.declared.reply.CppcReply.{CppcReply}
use Rattle.pw_cppc.specs.declared.reply.CppcReply.TheVariants.{Stands, NoTable, Unfit, OutOfRange, Crossed}
use Rattle.pw_cppc.specs.declared.request.CppcRequest.{CppcRequest}
use Rattle.pw_cppc.specs.Answers.{after, answer, if_accepted, refusal}
use Rattle.pw_cppc.specs.Causes.{IsDue}
use Rattle.pw_cppc.specs.Controls.{IsFitMember}
use Rattle.pw_cppc.specs.Operations.{bound_ops, ops_of, set_on, standing_ops}
use Rattle.pw_cppc.specs.Planning.{domain_at, domain_of}
use Rattle.pw_cppc.specs.Requests.{cpu_of}
use Rattle.pw_cppc.specs.Standings.{AreStandings}
use Rattle.pw_cppc.specs.States.{changed, standing, stands}
use Rattle.pw_cppc.specs.inner.Stood.{standing_with, stood_by, written}
use Rattle.pw_cppc.proofs.Asked.{asks_in}
use Rattle.pw_cppc.proofs.Controls.{changed_same, for_all, stays, stays_alone}
use Rattle.pw_cppc.proofs.OneNumber.{after_is}
use Rattle.pw_cppc.proofs.Refused.{is_due}
use Rattle.pw_cppc.proofs.Starting.{exists}

-- # The list

pub written_length : (xs ps : List ℕ) (v : ℕ) → length (written xs ps v) ≡ length xs
written_length xs [] v = refl
written_length xs (p ∷ ps) v = written_length (slice_set xs p v) ps v ∙ length-set xs p v

-- what is written stays, whatever more is written of it
written_stays : (xs ps : List ℕ) (v p : ℕ) → p < length xs → get_or xs p 0 ≡ v → get_or (written xs ps v) p 0 ≡ v
written_stays xs [] v p lt is = is
written_stays xs (q ∷ ps) v p lt is =
    let n = length-set xs q v in
    written_stays (slice_set xs q v) ps v p (omega (arith, n, lt)) (elim (cases_eq p q) [
      | inl same ↦ ap (λ k. get_or (slice_set xs k v) p 0) (sym same) ∙ get_or-set_same xs p v 0 lt
      | inr other ↦ get_or-set_other xs q p v 0 other ∙ is
    ])

written_there : (xs ps : List ℕ) (v p : ℕ) → p < length xs → has_member ps p ≡ true → get_or (written xs ps v) p 0 ≡ v
written_there xs [] v p lt m = cc
written_there xs (q ∷ ps) v p lt m = step (q == p) refl m (λ h. let n = length-set xs q v in written_there (slice_set xs q v) ps v p (omega (arith, n, lt)) h)
  where
    step : (b : Bool) → (q == p) ≡ b → (b || has_member ps p) ≡ true → (has_member ps p ≡ true → get_or (written (slice_set xs q v) ps v) p 0 ≡ v)
        → get_or (written (slice_set xs q v) ps v) p 0 ≡ v
    step true e h later =
        let n = length-set xs q v in
        written_stays (slice_set xs q v) ps v p (omega (arith, n, lt)) (ap (λ k. get_or (slice_set xs k v) p 0) (eqb-true q p e) ∙ get_or-set_same xs p v 0 lt)
    step false e h later = later h

written_elsewhere : (xs ps : List ℕ) (v p : ℕ) → has_member ps p ≡ false → get_or (written xs ps v) p 0 ≡ get_or xs p 0
written_elsewhere xs [] v p m = refl
written_elsewhere xs (q ∷ ps) v p m = step (q == p) refl m (λ h. written_elsewhere (slice_set xs q v) ps v p h)
  where
    step : (b : Bool) → (q == p) ≡ b → (b || has_member ps p) ≡ false
        → (has_member ps p ≡ false → get_or (written (slice_set xs q v) ps v) p 0 ≡ get_or (slice_set xs q v) p 0)
        → get_or (written (slice_set xs q v) ps v) p 0 ≡ get_or xs p 0
    step true e h later = cc
    step false e h later = later h ∙ get_or-set_other xs q p v 0 (λ same. let f : (q == p) ≡ true = eq-eqb q p (sym same) in cc)

-- # Operations

-- what is appended in two steps
pub in_two : (old mid new first second whole : List Op) → mid ≡ old ++ first → new ≡ mid ++ second → first ++ second ≡ whole → new ≡ old ++ whole
in_two old mid new first second whole a b e = b ∙ ap (λ ops. ops ++ second) a ∙ append_assoc old first second ∙ ap (λ ops. old ++ ops) e

-- # At the start

pub at_start : (P : CppcPlan) (S : CppcNumbers) → AreStandings P S (map (stood_by P S) (range_with_len 0 (length P.cpus)))
at_start P S = record {
  size = length-map-range_with_len (stood_by P S) 0 (length P.cpus);
  each = λ d p is.
      let at = P.sound.only d p is.exists is.member in
      let lt : domain_of P p < length P.domains = rw at is.exists in
      get_or-map-range_with_len (stood_by P S) 0 (length P.cpus) p p 0 (exists P d is.exists is.fit p is.member) (zero-add p)
      ∙ ap (λ b. cond b (stands P S p) 0) (lt-ltb (domain_of P p) (length P.domains) lt)
      ∙ ap (λ k. standing P S k p) at;
}

-- # What the reply tells

module _ (P : CppcPlan) (S : CppcNumbers) (q : CppcRequest) where
  abbrev p : ℕ
  p = cpu_of q

  abbrev T : CppcNumbers
  T = changed S q

  abbrev value_in : CppcReply → ℕ
  value_in (Stands v) = v
  value_in NoTable = 0
  value_in (Unfit why) = 0
  value_in (OutOfRange lowest highest) = 0
  value_in (Crossed bound) = 0

  -- an accepted request is answered where its processor then stands
  told : (v : ℕ) → answer P S q ≡ Stands v → (refusal P S q ≡ None) × (stands P T p ≡ v)
  unfolding answer
  told v e = step (refusal P S q) refl e
    where
      step : (r : Option CppcReply) → refusal P S q ≡ r → if_accepted r (λ reply. reply) (Stands (stands P T p)) ≡ Stands v → (refusal P S q ≡ None) × (stands P T p ≡ v)
      step None h e = (h, ap value_in e)
      step (Some reply) h e = absurd (subst (IsDue P S q) e (is_due P S q reply h))

  -- any other reply is a refusal
  pub refused : (r : CppcReply) → answer P S q ≡ r → ((v : ℕ) → r ≢ Stands v) → (ops_of P S q ≡ []) × (after P S q ≡ S)
  unfolding answer after ops_of
  refused r e none = step (refusal P S q) refl e
    where
      step : (o : Option CppcReply) → refusal P S q ≡ o → if_accepted o (λ reply. reply) (Stands (stands P T p)) ≡ r
          → (if_accepted o (λ reply. []) (bound_ops P q ++ standing_ops P S T p) ≡ []) × (if_accepted o (λ reply. S) T ≡ S)
      step None h e = absurd (none (stands P T p) (sym e))
      step (Some reply) h e = (refl, refl)

  module _ (stood : List ℕ) (are : AreStandings P S stood) (v : ℕ) (reply : answer P S q ≡ Stands v) where
    abbrev d : ℕ
    d = domain_of P p

    abbrev on : List ℕ
    on = standing_with (domain_at P d) p

    own : IsFitMember P d p
    own = asks_in P S q (told v reply).0

    pub placed : d < length P.domains
    placed = own.exists

    pub operates : ops_of P S q ≡ bound_ops P q ++ cond (get_or stood p 0 == v) [] (flat_map (λ m. set_on P Desired m v) (set_at (domain_at P d).coord (domain_at P d).members p))
    unfolding ops_of
    operates =
        ap (λ o. if_accepted o (λ r. []) (bound_ops P q ++ standing_ops P S T p)) (told v reply).0
        ∙ ap (λ n. bound_ops P q ++ cond (n == stands P T p) [] (flat_map (λ m. set_on P Desired m (stands P T p)) (set_at (domain_at P d).coord (domain_at P d).members p)))
        (sym (are.each d p own))
        ∙ ap (λ n. bound_ops P q ++ cond (get_or stood p 0 == n) [] (flat_map (λ m. set_on P Desired m n) (set_at (domain_at P d).coord (domain_at P d).members p))) (told v reply).1

    -- # Of each member of a fit domain

    module _ (e m : ℕ) (is : IsFitMember P e m) where
      -- another domain has other members
      elsewhere : e ≢ d → standing P T e m ≡ standing P S e m
      elsewhere other = stays P S T e m is.member (λ k in_e. changed_same S q k (λ same. other (sym (P.sound.only e k is.exists in_e) ∙ ap (domain_of P) same)))

      -- who stands with the processor stands there now, and stood there with it
      with_it : has_member on m ≡ true → (standing P T e m ≡ v) × (standing P S e m ≡ stands P S p)
      with_it h = step (is_software (domain_at P d).coord) refl h
        where
          step : (b : Bool) → is_software (domain_at P d).coord ≡ b → has_member (cond b (domain_at P d).members (p ∷ [])) m ≡ true
              → (standing P T e m ≡ v) × (standing P S e m ≡ stands P S p)
          step true soft h =
              let here : e ≡ d = sym (P.sound.only e m is.exists is.member) ∙ P.sound.only d m own.exists h in
              (ap (λ k. standing P T k m) here ∙ for_all P T d m p soft ∙ (told v reply).1, ap (λ k. standing P S k m) here ∙ for_all P S d m p soft)
          step false hard h =
              let itself : m ≡ p = sym (the_member p m h) in
              let here : e ≡ d = sym (P.sound.only e m is.exists is.member) ∙ ap (domain_of P) itself in
              (ap (λ k. standing P T k m) here ∙ ap (standing P T d) itself ∙ (told v reply).1, ap (λ k. standing P S k m) here ∙ ap (standing P S d) itself)

      -- who doesn't stands where it stood
      without_it : has_member on m ≡ false → standing P T e m ≡ standing P S e m
      without_it h = step (is_software (domain_at P d).coord) refl h
        where
          step : (b : Bool) → is_software (domain_at P d).coord ≡ b → has_member (cond b (domain_at P d).members (p ∷ [])) m ≡ false → standing P T e m ≡ standing P S e m
          step true soft h = elsewhere (λ here. let f : has_member (domain_at P d).members m ≡ true = ap (λ k. has_member (domain_at P k).members m) (sym here) ∙ is.member in cc)
          step false hard h = elim (cases_eq e d) [
            | inl here ↦ stays_alone P S T e m (ap (λ k. is_software (domain_at P k).coord) here ∙ hard)
                (changed_same S q m (λ itself. let f : has_member (p ∷ []) m ≡ true = or_left (p == m) false (eq-eqb p m (sym itself)) in cc))
            | inr other ↦ elsewhere other
          ]

    still : get_or stood p 0 ≡ v → AreStandings P T stood
    still same = record {
      size = are.size;
      each = λ e m is. are.each e m is ∙ step e m is (has_member on m) refl;
    }
      where
        step : (e m : ℕ) → (is : IsFitMember P e m) → (b : Bool) → has_member on m ≡ b → standing P S e m ≡ standing P T e m
        step e m is true h = let w = with_it e m is h in w.1 ∙ sym (are.each d p own) ∙ same ∙ sym w.0
        step e m is false h = sym (without_it e m is h)

    moved : AreStandings P T (written stood on v)
    moved = record {
      size = written_length stood on v ∙ are.size;
      each = λ e m is. step e m is (has_member on m) refl;
    }
      where
        step : (e m : ℕ) → (is : IsFitMember P e m) → (b : Bool) → has_member on m ≡ b → get_or (written stood on v) m 0 ≡ standing P T e m
        step e m is true h =
            let n = are.size in
            let lt = exists P e is.exists is.fit m is.member in
            written_there stood on v m (omega (arith, n, lt)) h ∙ sym (with_it e m is h).0
        step e m is false h = written_elsewhere stood on v m h ∙ are.each e m is ∙ sym (without_it e m is h)

    pub stays_noted : get_or stood p 0 ≡ v → AreStandings P (after P S q) stood
    stays_noted same = subst (λ R. AreStandings P R stood) (sym (after_is P S q (told v reply).0)) (still same)

    pub noted : AreStandings P (after P S q) (written stood on v)
    noted = subst (λ R. AreStandings P R (written stood on v)) (sym (after_is P S q (told v reply).0)) moved
