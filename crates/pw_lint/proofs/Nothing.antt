-- Where nothing is found.
use Rattle.std.proofs.Common.{◌≡◌, ◌↔◌, ℕ, List, [], ◌∷◌, ◌++◌, refl}
use Rattle.std.specs.List.{AllByRecursion, flat_map}
use Rattle.aml_data.specs.declared.path.FullPath.{FullPath}
use Rattle.acpi_space.specs.Namespace.{Entry}
use Rattle.acpi_build.specs.declared.note.Note.{Note}
use Rattle.acpi_build.specs.declared.note.NoteKind.{NoteKind}
use Rattle.acpi_build.specs.declared.note.NoteKind.TheVariants.{ByMethod, ByAlias, Empty, Ignored, NoSuchState, UnfitDomain}
use Rattle.pw_plan.specs.declared.domain.Domain.{Domain}
use Rattle.pw_plan.specs.declared.parts.ContainerParts.{ContainerParts}
use Rattle.pw_plan.specs.declared.parts.CpuParts.{CpuParts}
use Rattle.pw_findings.specs.declared.finding.Finding.{Finding}
use Rattle.pw_findings.specs.Domains.{domain_findings, member_findings, unfit_findings}
use Rattle.pw_lint.specs.CpcDomains.{cpc_domain_findings}
use Rattle.pw_lint.specs.Devices.{twin_findings}
use Rattle.pw_lint.specs.Laws.{IsOfDomain, IsWise, NoneIn}
use Rattle.pw_lint.specs.Machine.{container_findings, cpu_findings, findings}
use Rattle.pw_lint.specs.Notes.{note_findings, noted_kind, of_object}
use Rattle.pw_lint.proofs.Found.{unfit_is_found}

pub ends_empty : {X : Type 0} (xs ys : List X) → xs ++ ys ≡ [] → (xs ≡ []) × (ys ≡ [])
ends_empty [] ys e = (refl, e)
ends_empty (x ∷ xs) ys e = absurd (cc)

pub none_in : {X : Type 0} (f : X → List Finding) (xs : List X) → flat_map f xs ≡ [] → NoneIn f xs
none_in f [] e = tt {0}
none_in f (x ∷ xs) e = let s = ends_empty (f x) (flat_map f xs) e in (s.0, none_in f xs s.1)

pub in_none : {X : Type 0} (f : X → List Finding) (xs : List X) → NoneIn f xs → flat_map f xs ≡ []
in_none f [] none = refl
in_none f (x ∷ xs) none = rw (none.0, in_none f xs none.1) refl

-- what holds of each follows of each
each_of : {X : Type 0} {P Q : X → Type 0} → ((x : X) → P x → Q x) → (xs : List X) → AllByRecursion P xs → AllByRecursion Q xs
each_of f [] all = tt {0}
each_of f (x ∷ xs) all = (f x all.0, each_of f xs all.1)

-- # Notes

kind_is_of_domain : (path : FullPath) (kind : NoteKind) → of_object path (noted_kind kind) ≡ [] → (domain : ℕ) × (kind ≡ UnfitDomain domain)
kind_is_of_domain path ByMethod e = absurd (cc)
kind_is_of_domain path ByAlias e = absurd (cc)
kind_is_of_domain path Empty e = absurd (cc)
kind_is_of_domain path Ignored e = absurd (cc)
kind_is_of_domain path NoSuchState e = absurd (cc)
kind_is_of_domain path (UnfitDomain domain) e = (domain, refl)

is_of_domain : (note : Note) → note_findings note ≡ [] → IsOfDomain note
is_of_domain note e = kind_is_of_domain note.path note.kind e

none_of_note : (note : Note) → IsOfDomain note → note_findings note ≡ []
none_of_note note is = rw is.1 refl

-- # Domains

is_agreed : (cpus : List CpuParts) (d : Domain) → domain_findings cpus d ≡ [] → (d.unfit ≡ 0) × (member_findings cpus d ≡ [])
is_agreed cpus d e =
    let s = ends_empty (unfit_findings cpus d) (member_findings cpus d) e in
    ((unfit_is_found cpus d).0 s.0, s.1)

none_of_domain : (cpus : List CpuParts) (d : Domain) → (d.unfit ≡ 0) × (member_findings cpus d ≡ []) → domain_findings cpus d ≡ []
none_of_domain cpus d s = rw ((unfit_is_found cpus d).1 s.0, s.1) refl

-- # All of it

pub nothing_found : (entries : List Entry) (containers : List ContainerParts) (cpus : List CpuParts) (domains : List Domain) (noted : List Note)
    → (findings entries containers cpus domains noted ≡ []) ↔ IsWise entries containers cpus domains noted
unfolding findings
nothing_found entries containers cpus domains noted = (
  λ e.
      let a = ends_empty (flat_map note_findings noted) _ e in
      let b = ends_empty (flat_map (container_findings entries containers) containers) _ a.1 in
      let c = ends_empty (flat_map (cpu_findings entries containers cpus) cpus) _ b.1 in
      let d = ends_empty (twin_findings entries cpus) _ c.1 in
      let g = ends_empty (flat_map (domain_findings cpus) domains) (cpc_domain_findings entries cpus) d.1 in
      record {
        of_notes = each_of is_of_domain noted (none_in note_findings noted a.0);
        of_containers = none_in (container_findings entries containers) containers b.0;
        of_processors = none_in (cpu_findings entries containers cpus) cpus c.0;
        of_names = d.0;
        of_domains = each_of (is_agreed cpus) domains (none_in (domain_findings cpus) domains g.0);
        of_cpc = g.1;
      },
  λ wise. rw (
    in_none note_findings noted (each_of none_of_note noted wise.of_notes),
    in_none (container_findings entries containers) containers wise.of_containers,
    in_none (cpu_findings entries containers cpus) cpus wise.of_processors,
    wise.of_names,
    in_none (domain_findings cpus) domains (each_of (none_of_domain cpus) domains wise.of_domains),
    wise.of_cpc,
  ) refl,
)
