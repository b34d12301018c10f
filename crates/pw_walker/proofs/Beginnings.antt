-- Where a request that isn't refused in every state begins.
use Rattle.std.proofs.Common.{◌≡◌, ◌≤◌, ℕ, Bool, true, false, cond, List, [], ◌∷◌, length, Option, Some, None, ap, sym, subst, ◌∙◌}
use Rattle.std.specs.Prelude.{is_some, nat_lt}
use Rattle.acpi_values.specs.Idle.{rows_of}
use Rattle.acpi_values.specs.declared.idle.IdleKind.{IdleKind}
use Rattle.acpi_values.specs.declared.idle.IdleKind.TheVariants.{Lpi, Cst, Absent}
use Rattle.acpi_values.specs.declared.operation.Chain.{Chain}
use Rattle.acpi_values.specs.declared.operation.Op.{Op}
use Rattle.pw_plan.specs.declared.domain.Child.TheVariants.{Cpu}
use Rattle.pw_plan.specs.declared.domain.DomainKind.{DomainKind}
use Rattle.pw_plan.specs.declared.plan.Plan.{Plan}
use Rattle.pw_plan.specs.declared.request.Request.{Request}
use Rattle.pw_plan.specs.declared.request.Request.TheVariants.{Idle, Wake, Perf, Throttle, PerfLimit, ThrottleLimit}
use Rattle.pw_plan.specs.Parts.{scale_of}
use Rattle.pw_plan.specs.Places.{cpu_at, domain_of, group_of}
use Rattle.pw_plan.specs.Requests.{Has, cpu_of}
use Rattle.pw_model.specs.declared.state.Vote.{Vote}
use Rattle.pw_model.specs.States.{idling, running}
use Rattle.pw_model.specs.Answers.{chain_of}
use Rattle.pw_model.specs.Operations.{own_entry}
use Rattle.pw_model.specs.Refusals.{fixed_refusal}
use Rattle.pw_model.proofs.Accepting.{idle_from}
use Rattle.pw_core.specs.Chains.{states_in}
use Rattle.pw_core.proofs.Climbing.{states_in-chain_of}
use Rattle.pw_model.specs.Effects.{enter_c}
use Rattle.pw_machine.specs.Standing.{own_vote}
use Rattle.pw_machine.specs.Walk.{begins_at, climb_on, grouped, over, scaled, vote_begins, vote_reply}
use Rattle.pw_walker.specs.declared.place.Place.TheVariants.{Scaled}
use Rattle.pw_walker.specs.Places.{AreStatesUpTo, IsPlace}
use Rattle.pw_walker.specs.inner.Going.{IsVote}
use Rattle.pw_walker.proofs.Members.{scaled_exists}

-- # Votes

own_alone : (P : Plan) (q : Request) → IsVote q → fixed_refusal P q ≡ None → AreStatesUpTo P q ((own_vote q).state ∷ []) []
own_alone P (Idle p s t) v acc = let may = idle_from P p s t acc in none may.from may.within
  where
    none : 1 ≤ s → s ≤ length (rows_of (cpu_at P p).idle) → AreStatesUpTo P (Idle p s t) (s ∷ []) []
    none some le [] are = (some, le, tt)
    none some le (m ∷ more) are = absurd are
own_alone P (Wake p) v acc = tt
own_alone P (Perf p i) v acc = absurd v
own_alone P (Throttle p i) v acc = absurd v
own_alone P (PerfLimit p n) v acc = absurd v
own_alone P (ThrottleLimit p n) v acc = absurd v

module _ (P : Plan) (q : Request) (vote : IsVote q) (acc : fixed_refusal P q ≡ None) (own : Vote) (oe : own ≡ own_vote q) (chain : Chain) (ce : chain ≡ chain_of (own.state ∷ [])) where
  states_are : states_in chain ≡ own.state ∷ []
  states_are = ap states_in ce ∙ states_in-chain_of (own.state ∷ [])

  states_own : states_in chain ≡ (own_vote q).state ∷ []
  states_own = states_are ∙ ap (λ (v : Vote). v.state ∷ []) oe

  pub states_alone : AreStatesUpTo P q (states_in chain) []
  states_alone = subst (λ ss. AreStatesUpTo P q ss []) (sym states_own) (own_alone P q vote acc)

-- # Requests on domains

pub scaled_stands : (P : Plan) (q : Request) (kind : DomainKind) (d : ℕ) → fixed_refusal P q ≡ None → Has P q → (ops : List Op) → ops ≡ [] → d ≡ domain_of P kind (cpu_of q)
    → is_some (scale_of kind (cpu_at P (cpu_of q))) ≡ true → begins_at P q ≡ scaled (domain_of P kind (cpu_of q)) → IsPlace P q (Scaled d) ops
scaled_stands P q kind d acc has ops none de some first = rw de (record {
  has = has;
  stands = ((acc, first), scaled_exists P kind (cpu_of q) has some);
  climb = tt;
  none = none;
})

-- # What stands at a group or a domain

module _ (P : Plan) (q : Request) (g : ℕ) where
  vote_grouped : (alone : List Op) (v : Vote) (k : IdleKind) → vote_begins P q (cpu_of q) v alone k ≡ grouped g → g ≡ group_of P (cpu_of q)
  vote_grouped alone v Lpi e = up (cpu_at P (cpu_of q)).parent e
    where
      up : (from : Option ℕ) → climb_on P q (Cpu (cpu_of q)) v (v.state ∷ []) true from ≡ grouped g → g ≡ group_of P (cpu_of q)
      up None e = absurd (cc)
      up (Some n) e = absurd (cc)
  vote_grouped alone v Cst e = at (nat_lt (group_of P (cpu_of q)) (length P.groups)) e
    where
      at : (b : Bool) → cond b (grouped (group_of P (cpu_of q))) (over (vote_reply q (v.state ∷ [])) alone) ≡ grouped g → g ≡ group_of P (cpu_of q)
      at true e = cc
      at false e = absurd (cc)
  vote_grouped alone v Absent e = absurd (cc)

pub at_group : (P : Plan) (q : Request) (g : ℕ) → begins_at P q ≡ grouped g → IsVote q × (g ≡ group_of P (cpu_of q))
at_group P (Idle p s t) g e = (tt, vote_grouped P (Idle p s t) g (own_entry Cst s (enter_c P p s)) (idling s t) (cpu_at P p).idle.kind e)
at_group P (Wake p) g e = (tt, vote_grouped P (Wake p) g [] running (cpu_at P p).idle.kind e)
at_group P (Perf p i) g e = absurd (cc)
at_group P (Throttle p i) g e = absurd (cc)
at_group P (PerfLimit p n) g e = absurd (cc)
at_group P (ThrottleLimit p n) g e = absurd (cc)
