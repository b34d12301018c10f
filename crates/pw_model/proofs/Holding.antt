-- What records hold in the states of a plan.
use Rattle.std.proofs.Common.{◌≡◌, ◌<◌, ◌≤◌, ℕ, map, length, get_or, refl, ap, arith, inl, inr}
use Rattle.std.proofs.lemmas.Bool.{cases_lt}
use Rattle.std.proofs.lemmas.List.{get_or-map, get_or_past, length-map}
use Rattle.acpi_values.specs.Idle.{rows_of}
use Rattle.acpi_values.specs.declared.idle.IdleKind.{IdleKind}
use Rattle.acpi_values.specs.declared.idle.IdleKind.TheVariants.{Lpi, Cst, Absent}
use Rattle.pw_plan.specs.declared.domain.Child.{Child}
use Rattle.pw_plan.specs.declared.domain.Child.TheVariants.{Cpu, Container}
use Rattle.pw_plan.specs.declared.plan.Plan.{Plan}
use Rattle.pw_plan.specs.Groups.{no_domain}
use Rattle.pw_plan.specs.Places.{children_at, cpu_at, domain_at, group_at, no_group, table_of}
use Rattle.pw_model.specs.declared.state.State.{State}
use Rattle.pw_model.specs.declared.state.Vote.{Vote}
use Rattle.pw_model.specs.States.{IsProper, IsState, ask_of, limit_of, running, vote_of}
use Rattle.pw_model.specs.Containers.{child_vote, seen_by_kind}
use Rattle.pw_model.proofs.Enabling.{container_vote-le, container_vote-runs}
use Rattle.pw_model.proofs.Votes.{cpu_child}
use Rattle.pw_model.specs.Holding.{Holds, member_in}
use Rattle.pw_model.specs.Records.{Record, container, domain, group, part_of, state_of_vote}

module _ (P : Plan) where
  module _ (S : State) (s : IsState P S) where
    abbrev Fine : Child → Vote → Type 0
    Fine c v = (v.state ≤ length (rows_of (table_of P c))) × IsProper v

    seen_fine : (k : IdleKind) (v : Vote) (n : ℕ) → v.state ≤ n → IsProper v → ((seen_by_kind k v).state ≤ n) × IsProper (seen_by_kind k v)
    seen_fine Lpi v n le h = (le, h)
    seen_fine Cst v n le h = (omega arith, λ z. refl)
    seen_fine Absent v n le h = (omega arith, λ z. refl)

    child_fine : (n k : ℕ) (c : Child) → k < length (children_at P n) → get_or (children_at P n) k (Cpu 0) ≡ c → Fine c (child_vote P S c)
    child_fine n k (Cpu p) lt e =
        let in_it = cpu_child P n k p (Cpu 0) lt e in
        seen_fine (cpu_at P p).idle.kind (vote_of S p) (length (rows_of (cpu_at P p).idle)) (s.vote p in_it) (s.proper p in_it)
    child_fine n k (Container m) lt e = (container_vote-le P S m, λ z. ap (λ (v : Vote). v.tolerance) (container_vote-runs P S m z))

    at_child : (n k : ℕ) → k < length (children_at P n) → Fine (get_or (children_at P n) k (Cpu 0)) (get_or (map (child_vote P S) (children_at P n)) k running)
    at_child n k lt = rw (get_or-map (child_vote P S) (children_at P n) k (Cpu 0) running lt) (child_fine n k (get_or (children_at P n) k (Cpu 0)) lt refl)

    member_exists : (d k : ℕ) → k < length (domain_at P d).members → member_in (domain_at P d).members k < length P.cpus
    unfolding no_domain
    member_exists d k lt = elim (cases_lt d (length P.domains)) [
      | inl in_it ↦ P.sound.domains.members d no_domain in_it k 0 lt
      | inr past ↦ let none : domain_at P d ≡ no_domain = get_or_past P.domains d no_domain past in let n = ap (λ x. length x.members) none in absurd (omega (arith, n, lt))
    ]

    grouped_exists : (g k : ℕ) → k < length (group_at P g).members → member_in (group_at P g).members k < length P.cpus
    unfolding no_group
    grouped_exists g k lt = elim (cases_lt g (length P.groups)) [
      | inl in_it ↦ P.sound.groups.members g no_group in_it k 0 lt
      | inr past ↦ let none : group_at P g ≡ no_group = get_or_past P.groups g no_group past in let n = ap (λ x. length x.members) none in absurd (omega (arith, n, lt))
    ]

    pub holds : (r : Record) → Holds P r (part_of P S r)
    holds (container n) = record {
      children = length-map (children_at P n) (child_vote P S);
      states = λ k lt. (at_child n k lt).0;
      proper = λ k lt. (at_child n k lt).1;
    }
    holds (domain d) =
        let kind = (domain_at P d).kind in
        let ms = (domain_at P d).members in
        record {
          asked = length-map ms (ask_of kind S);
          limited = length-map ms (limit_of kind S);
          ask = λ k lt. rw (get_or-map (ask_of kind S) ms k 0 0 lt) (s.ask kind (member_in ms k) (member_exists d k lt));
          limit = λ k lt. rw (get_or-map (limit_of kind S) ms k 0 0 lt) (s.limit kind (member_in ms k) (member_exists d k lt));
        }
    holds (group g) =
        let ms = (group_at P g).members in
        record {
          members = length-map ms (state_of_vote S);
          states = λ k lt. rw (get_or-map (state_of_vote S) ms k 0 0 lt) (s.vote (member_in ms k) (grouped_exists g k lt));
        }
