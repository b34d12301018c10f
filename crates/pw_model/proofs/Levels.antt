-- What asks and limits do to the parts of domains.
use Rattle.std.proofs.Common.{◌≡◌, ◌≢◌, ◌<◌, ◌≤◌, ◌==◌, ◌||◌, ℕ, max, Bool, true, false, cond, List, [], ◌∷◌, map, length, get_or, set, refl, sym, ◌∙◌, ap, inl, inr, eqb-true, eq-eqb}
use Rattle.std.specs.List.{AllByRecursion}
use Rattle.std.proofs.lemmas.List.{get_or-set_same, get_or-set_other, get_or_past}
use Rattle.std.proofs.lemmas.Bool.{cases_lt, eqb-false}
use Rattle.pw_plan.specs.declared.domain.DomainKind.{DomainKind}
use Rattle.pw_plan.specs.declared.domain.DomainKind.TheVariants.{Perf, Throttle}
use Rattle.pw_plan.specs.declared.domain.Domain.{Domain}
use Rattle.pw_plan.specs.declared.plan.Plan.{Plan}
use Rattle.std.specs.Prelude.{is_some}
use Rattle.pw_plan.specs.Parts.{scale_of}
use Rattle.pw_plan.specs.Groups.{has_member, is_idle, is_software, no_domain}
use Rattle.pw_plan.specs.Places.{cpu_at, domain_at, domain_of}
use Rattle.pw_plan.specs.Covering.{covers, same_kind}
use Rattle.pw_plan.proofs.Lists.{and_both, and_first, and_second, or_left, or_right}
use Rattle.pw_model.specs.declared.state.Change.{Change}
use Rattle.pw_model.specs.declared.state.Change.TheVariants as changes
use Rattle.pw_model.specs.declared.state.ScaleKind.{ScaleKind}
use Rattle.pw_model.specs.declared.state.ScaleKind.TheVariants as scales
use Rattle.pw_model.specs.declared.state.State.{State}
use Rattle.pw_model.specs.States.{ask_of, asks_of, limit_of, limits_of, with_change}
use Rattle.pw_model.specs.Domains.{standing, stands_at}
use Rattle.pw_model.proofs.Maps.{map_agree}
use Rattle.pw_model.proofs.Standings.{Spares, ask_spared, domain_kind, limit_spared, each_member}
use Rattle.pw_plan.specs.inner.Once.{Once}
use Rattle.pw_model.specs.Records.{Part, levels, domain, part_of}
use Rattle.pw_model.specs.Effects.{member_place, standing_in, with_ask, with_limit}
use Rattle.pw_model.proofs.Sets.{map_set}
use Rattle.pw_plan.proofs.Firsts.{same_by, same_from}
use Rattle.pw_plan.proofs.Found.{passes, position-here, position-later}

-- # Members

-- what is kept of a member
pub read_place : (f : ℕ → ℕ) (ms : List ℕ) (p : ℕ) → has_member ms p ≡ true → get_or (map f ms) (member_place ms p) 0 ≡ f p
read_place f [] p e = cc
read_place f (m ∷ ms) p e = step (m == p) refl e (read_place f ms p)
  where
    step : (b : Bool) → (m == p) ≡ b → (b || has_member ms p) ≡ true → (has_member ms p ≡ true → get_or (map f ms) (member_place ms p) 0 ≡ f p)
        → get_or (map f (m ∷ ms)) (member_place (m ∷ ms) p) 0 ≡ f p
    step true h e later = ap (λ k. get_or (f m ∷ map f ms) k 0) (position-here (λ q. q == p) m ms h) ∙ ap f (eqb-true m p h)
    step false h e later = ap (λ k. get_or (f m ∷ map f ms) k 0) (position-later (λ q. q == p) m ms h) ∙ later e

-- reads of a list with one element set, at members that stand there once
pub set_place : (f g : ℕ → ℕ) (ms : List ℕ) (p i : ℕ) → Once (λ q. q == p) ms → g p ≡ i → ((q : ℕ) → q ≢ p → g q ≡ f q) → map g ms ≡ set (map f ms) (member_place ms p) i
set_place f g ms p i once here other =
    map_set (λ q. q == p) f g i ms (λ q e. ap g (eqb-true q p e) ∙ here) (each_member (λ q. (q == p) ≡ false → g q ≡ f q) ms (λ q h e. other q (eqb-false q p e))) once

-- # Parts of domains

-- the asks and limits of these members
abbrev pub level_part : DomainKind → List ℕ → State → Part
level_part kind ms S = levels (map (ask_of kind S) ms) (map (limit_of kind S) ms)

pub asked : (kind : ScaleKind) (ms : List ℕ) (S : State) (p i : ℕ) → p < length (asks_of (domain_kind kind) S) → Once (λ q. q == p) ms
    → level_part (domain_kind kind) ms (with_change S (changes.Ask kind p i)) ≡ with_ask (member_place ms p) i (level_part (domain_kind kind) ms S)
asked scales.Perf ms S p i lt once =
    ap (λ xs. levels xs (map (limit_of Perf S) ms)) (set_place (ask_of Perf S) (ask_of Perf (with_change S (changes.Ask scales.Perf p i))) ms p i once (get_or-set_same S.perf_asks p i 0 lt)
    (λ q ne. get_or-set_other S.perf_asks p q i 0 ne))
asked scales.Throttle ms S p i lt once =
    ap (λ xs. levels xs (map (limit_of Throttle S) ms)) (set_place (ask_of Throttle S) (ask_of Throttle (with_change S (changes.Ask scales.Throttle p i))) ms p i once
    (get_or-set_same S.throttle_asks p i 0 lt) (λ q ne. get_or-set_other S.throttle_asks p q i 0 ne))

pub limited : (kind : ScaleKind) (ms : List ℕ) (S : State) (p n : ℕ) → p < length (limits_of (domain_kind kind) S) → Once (λ q. q == p) ms
    → level_part (domain_kind kind) ms (with_change S (changes.Limit kind p n)) ≡ with_limit (member_place ms p) n (level_part (domain_kind kind) ms S)
limited scales.Perf ms S p i lt once =
    ap (λ xs. levels (map (ask_of Perf S) ms) xs) (set_place (limit_of Perf S) (limit_of Perf (with_change S (changes.Limit scales.Perf p i))) ms p i once (get_or-set_same S.perf_limits p i 0 lt)
    (λ q ne. get_or-set_other S.perf_limits p q i 0 ne))
limited scales.Throttle ms S p i lt once =
    ap (λ xs. levels (map (ask_of Throttle S) ms) xs) (set_place (limit_of Throttle S) (limit_of Throttle (with_change S (changes.Limit scales.Throttle p i))) ms p i once
    (get_or-set_same S.throttle_limits p i 0 lt) (λ q ne. get_or-set_other S.throttle_limits p q i 0 ne))

-- a change that spares all members
pub spared : (kind : DomainKind) (ms : List ℕ) (S : State) (c : Change) → ((q : ℕ) → has_member ms q ≡ true → Spares c kind q) → level_part kind ms (with_change S c) ≡ level_part kind ms S
spared kind ms S c spares =
    let each = each_member (Spares c kind) ms spares in
    ap (λ xs. levels xs (map (limit_of kind (with_change S c)) ms)) (map_agree (Spares c kind) (ask_of kind (with_change S c)) (ask_of kind S) (ask_spared S c kind) ms each)
    ∙ ap (λ xs. levels (map (ask_of kind S) ms) xs) (map_agree (Spares c kind) (limit_of kind (with_change S c)) (limit_of kind S) (limit_spared S c kind) ms each)

-- # Where a domain stands

module _ (P : Plan) (S : State) where
  pub standing_is : (d p : ℕ) → has_member (domain_at P d).members p ≡ true → standing P S d p ≡ standing_in (domain_at P d) (part_of P S (domain d)) (member_place (domain_at P d).members p)
  standing_is d p on =
      let D = domain_at P d in
      ap (λ x. cond (is_software D.coord) (stands_at (map (ask_of D.kind S) D.members) (map (limit_of D.kind S) D.members)) (max x (ask_of D.kind S p)))
      (sym (read_place (limit_of D.kind S) D.members p on))
      ∙ ap (λ x. cond (is_software D.coord) (stands_at (map (ask_of D.kind S) D.members) (map (limit_of D.kind S) D.members))
      (max (get_or (map (limit_of D.kind S) D.members) (member_place D.members p) 0) x)) (sym (read_place (ask_of D.kind S) D.members p on))

-- # The domain of a processor

none_there : (P : Plan) (d q : ℕ) → length P.domains ≤ d → has_member (domain_at P d).members q ≡ true → ⊥
unfolding no_domain
none_there P d q le on =
    let none : domain_at P d ≡ no_domain = get_or_past P.domains d no_domain le in
    let e : has_member [] q ≡ true = sym (ap (λ (D : Domain). has_member D.members q) none) ∙ on in
    cc

-- The processor is in a domain of this kind.
pub record HasDomain (P : Plan) (kind : DomainKind) (p : ℕ) : Type 0 where
  pub within : domain_of P kind p < length P.domains
  pub kind_is : (domain_at P (domain_of P kind p)).kind ≡ kind
  pub member : has_member (domain_at P (domain_of P kind p)).members p ≡ true

module _ (P : Plan) (kind : DomainKind) (p : ℕ) where
  pub has_domain : p < length P.cpus → is_some (scale_of kind (cpu_at P p)) ≡ true → HasDomain P kind p
  has_domain exists some =
      let within = P.sound.domains.placed kind p exists some in
      let D = domain_at P (domain_of P kind p) in
      let on : covers kind p D ≡ true = passes (covers kind p) P.domains no_domain within in
      record {
        within = within;
        kind_is = same_from D.kind kind (and_first (same_kind D.kind kind) (has_member D.members p) on);
        member = and_second (same_kind D.kind kind) (has_member D.members p) on;
      }

  -- it is in no other one
  pub elsewhere : is_idle kind ≡ false → (d q : ℕ) → (d ≡ domain_of P kind p → ⊥) → has_member (domain_at P d).members q ≡ true → (domain_at P d).kind ≡ kind → q ≢ p
  elsewhere scaled d q out on same s = elim (cases_lt d (length P.domains)) [
    | inl lt ↦
        let D = domain_at P d in
        let cover : covers kind p D ≡ true = and_both (same_kind D.kind kind) (has_member D.members p) (ap (λ k. same_kind k kind) same ∙ same_by kind) (ap (has_member D.members) (sym s) ∙ on) in
        out (sym (P.sound.domains.only kind d p lt scaled cover))
    | inr le ↦ none_there P d q le on
  ]
