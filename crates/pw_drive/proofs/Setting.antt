-- A record set where it lies among those of a plan, and the walk's next one stepped.
use Rattle.std.proofs.Common.{◌≡◌, ◌≢◌, ◌<◌, ◌∙◌, ℕ, List, [], length, get_or, set, refl, ap, sym, subst, inl, inr}
use Rattle.std.specs.Vec.{with_item}
use Rattle.std.proofs.lemmas.Bool.Decides.{eqb_tells}
use Rattle.std.proofs.lemmas.List.{get_or-set_other, get_or-set_same, get_or_default, length-set}
use Rattle.pw_plan.specs.declared.plan.Plan.{Plan}
use Rattle.pw_plan.specs.declared.request.Request.{Request}
use Rattle.pw_model.specs.Records.{Part, Record, container, domain, group, scaled_count}
use Rattle.pw_idle.specs.declared.node.NodeRec.{NodeRec}
use Rattle.pw_idle.specs.Nodes.{node_part}
use Rattle.pw_domain.specs.declared.domain.DomainRec.{DomainRec}
use Rattle.pw_domain.specs.declared.group.GroupRec.{GroupRec}
use Rattle.pw_domain.specs.Domains.{domain_part}
use Rattle.pw_domain.specs.Groups.{group_part}
use Rattle.pw_machine.specs.Walk.{Walk, grouped, left, scaled, step}
use Rattle.pw_walker.specs.declared.place.Climb.{Climb}
use Rattle.pw_walker.specs.declared.place.Place.TheVariants.{Climbing}
use Rattle.pw_walker.specs.Places.{walk_of}
use Rattle.pw_walker.specs.Records.{IsDomain, IsGroup, IsNode}
use Rattle.pw_drive.specs.declared.records.Records.{Records}
use Rattle.pw_drive.specs.Keeping.{AreInOrder, AreRecordsOf, no_domain_record, no_group_record, no_node_record, part_in}
use Rattle.pw_drive.proofs.Midway.{Puts, Stepped}

module _ {X : Type 0} {Is : ℕ → X → Type 0} {none : X} {count : ℕ} {xs : List X} (are : AreInOrder Is none count xs) (n : ℕ) (lt : n < count) where
  pub within : n < length xs
  within = subst (λ k. n < k) (sym are.size) lt

  -- the one that is in hand
  module _ (h : X) (e : h ≡ get_or xs n h) where
    pub held_at : h ≡ get_or xs n none
    held_at = e ∙ get_or_default xs n h none within

    pub held_is : Is n h
    held_is = subst (λ x. Is n x) (sym held_at) (are.each n lt)

  -- another is set there
  module _ (x : X) (is : Is n x) where
    each_is : (m : ℕ) → m < count → Is m (get_or (set xs n x) m none)
    each_is m le = elim (eqb_tells m n) [
      | inl same ↦ subst (λ k. Is k (get_or (set xs n x) k none)) (sym same.1) (subst (λ y. Is n y) (sym (get_or-set_same xs n x none within)) is)
      | inr other ↦ subst (λ y. Is m y) (sym (get_or-set_other xs n m x none other.1)) (are.each m le)
    ]

    pub in_order : AreInOrder Is none count (set xs n x)
    in_order = record { size = length-set xs n x ∙ are.size; each = each_is }

-- # Containers

abbrev pub with_node : Records → ℕ → NodeRec → Records
with_node R n r = record { nodes = with_item R.nodes n r; domains = R.domains; groups = R.groups }

module _ (P : Plan) (was : Records) (are : AreRecordsOf P was) (n : ℕ) (lt : n < length P.containers) (h r : NodeRec)
    (there : h ≡ get_or was.nodes.items n h) (fits : IsNode P h.node r) where
  node_is : IsNode P n h
  node_is = held_is are.nodes n lt h there

  pub node_before : node_part h ≡ part_in was (container n)
  node_before = ap node_part (held_at are.nodes n lt h there)

  pub puts_node : (f : Part → Part) → node_part r ≡ f (node_part h) → Puts P (container n) (f (part_in was (container n))) was (with_node was n r)
  puts_node f part = record {
    of = record { nodes = in_order are.nodes n lt r (subst (λ m. IsNode P m r) node_is.number fits); domains = are.domains; groups = are.groups };
    here = ap node_part (get_or-set_same was.nodes.items n r no_node_record (within are.nodes n lt)) ∙ part ∙ ap f node_before;
    rest = others;
  }
    where
      others : (s : Record) → s ≢ container n → part_in (with_node was n r) s ≡ part_in was s
      others (container m) ne = ap node_part (get_or-set_other was.nodes.items n m r no_node_record (λ same. ne (ap container same)))
      others (domain m) ne = refl
      others (group m) ne = refl

  pub stepped_node : (q : Request) (climb : Climb) (v : Walk) → node_part r ≡ left P q (walk_of (Climbing n climb) []) (node_part h)
      → v ≡ step P q (walk_of (Climbing n climb) []) (node_part h)
      → Stepped P q (walk_of (Climbing n climb) []) v (container n) was (with_node was n r)
  stepped_node q climb v part on = record {
    next = refl;
    exists = lt;
    puts = puts_node (left P q (walk_of (Climbing n climb) [])) part;
    on = on ∙ ap (step P q (walk_of (Climbing n climb) [])) node_before;
  }

-- # Domains of performance and throttling

abbrev pub with_domain : Records → ℕ → DomainRec → Records
with_domain R n r = record { nodes = R.nodes; domains = with_item R.domains n r; groups = R.groups }

module _ (P : Plan) (was : Records) (are : AreRecordsOf P was) (n : ℕ) (lt : n < scaled_count P) (h r : DomainRec)
    (there : h ≡ get_or was.domains.items n h) (fits : IsDomain P h.domain r) where
  domain_is : IsDomain P n h
  domain_is = held_is are.domains n lt h there

  pub domain_before : domain_part h ≡ part_in was (domain n)
  domain_before = ap domain_part (held_at are.domains n lt h there)

  pub puts_domain : (f : Part → Part) → domain_part r ≡ f (domain_part h) → Puts P (domain n) (f (part_in was (domain n))) was (with_domain was n r)
  puts_domain f part = record {
    of = record { nodes = are.nodes; domains = in_order are.domains n lt r (subst (λ m. IsDomain P m r) domain_is.number fits); groups = are.groups };
    here = ap domain_part (get_or-set_same was.domains.items n r no_domain_record (within are.domains n lt)) ∙ part ∙ ap f domain_before;
    rest = others;
  }
    where
      others : (s : Record) → s ≢ domain n → part_in (with_domain was n r) s ≡ part_in was s
      others (container m) ne = refl
      others (domain m) ne = ap domain_part (get_or-set_other was.domains.items n m r no_domain_record (λ same. ne (ap domain same)))
      others (group m) ne = refl

  pub stepped_domain : (q : Request) (v : Walk) → domain_part r ≡ left P q (scaled h.domain) (domain_part h)
      → v ≡ step P q (scaled h.domain) (domain_part h) → Stepped P q (scaled n) v (domain n) was (with_domain was n r)
  stepped_domain q v part on = record {
    next = refl;
    exists = lt;
    puts = puts_domain (left P q (scaled n)) (subst (λ m. domain_part r ≡ left P q (scaled m) (domain_part h)) domain_is.number part);
    on = subst (λ m. v ≡ step P q (scaled m) (domain_part h)) domain_is.number on ∙ ap (step P q (scaled n)) domain_before;
  }

-- # Groups

abbrev pub with_group : Records → ℕ → GroupRec → Records
with_group R n r = record { nodes = R.nodes; domains = R.domains; groups = with_item R.groups n r }

module _ (P : Plan) (was : Records) (are : AreRecordsOf P was) (n : ℕ) (lt : n < length P.groups) (h r : GroupRec)
    (there : h ≡ get_or was.groups.items n h) (fits : IsGroup P h.group r) where
  group_is : IsGroup P n h
  group_is = held_is are.groups n lt h there

  pub group_before : group_part h ≡ part_in was (group n)
  group_before = ap group_part (held_at are.groups n lt h there)

  pub puts_group : (f : Part → Part) → group_part r ≡ f (group_part h) → Puts P (group n) (f (part_in was (group n))) was (with_group was n r)
  puts_group f part = record {
    of = record { nodes = are.nodes; domains = are.domains; groups = in_order are.groups n lt r (subst (λ m. IsGroup P m r) group_is.number fits) };
    here = ap group_part (get_or-set_same was.groups.items n r no_group_record (within are.groups n lt)) ∙ part ∙ ap f group_before;
    rest = others;
  }
    where
      others : (s : Record) → s ≢ group n → part_in (with_group was n r) s ≡ part_in was s
      others (container m) ne = refl
      others (domain m) ne = refl
      others (group m) ne = ap group_part (get_or-set_other was.groups.items n m r no_group_record (λ same. ne (ap group same)))

  pub stepped_group : (q : Request) (v : Walk) → group_part r ≡ left P q (grouped h.group) (group_part h)
      → v ≡ step P q (grouped h.group) (group_part h) → Stepped P q (grouped n) v (group n) was (with_group was n r)
  stepped_group q v part on = record {
    next = refl;
    exists = lt;
    puts = puts_group (left P q (grouped n)) (subst (λ m. group_part r ≡ left P q (grouped m) (group_part h)) group_is.number part);
    on = subst (λ m. v ≡ step P q (grouped m) (group_part h)) group_is.number on ∙ ap (step P q (grouped n)) group_before;
  }
