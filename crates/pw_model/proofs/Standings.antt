-- Where a domain stands changes only by a request on itself.
use Rattle.std.proofs.Common.{◌≡◌, ◌≢◌, ◌==◌, ℕ, Bool, true, false, cond, List, [], ◌∷◌, map, max, refl, ap, ◌∙◌, arith}
use Rattle.std.specs.List.{AllByRecursion}
use Rattle.std.proofs.lemmas.List.{get_or-set_other}
use Rattle.std.proofs.lemmas.Bool.Decides.{nat_tests}
use Rattle.pw_plan.specs.declared.domain.DomainKind.{DomainKind}
use Rattle.pw_plan.specs.declared.domain.DomainKind.TheVariants.{Perf, Throttle, Idle}
use Rattle.pw_plan.specs.declared.plan.Plan.{Plan}
use Rattle.pw_plan.specs.Groups.{has_member, is_software}
use Rattle.pw_plan.specs.Places.{domain_at}
use Rattle.pw_plan.proofs.Lists.{or_left, or_right}
use Rattle.pw_model.specs.declared.state.Change.{Change}
use Rattle.pw_model.specs.declared.state.Change.TheVariants as changes
use Rattle.pw_model.specs.declared.state.ScaleKind.{ScaleKind}
use Rattle.pw_model.specs.declared.state.ScaleKind.TheVariants as scales
use Rattle.pw_model.specs.declared.state.State.{State}
use Rattle.pw_model.specs.States.{ask_of, limit_of, with_change}
use Rattle.pw_model.specs.Domains.{standing, stands_at}
use Rattle.pw_model.proofs.Maps.{map_agree}

pub each_member : (Q : ℕ → Type 0) (ms : List ℕ) → ((q : ℕ) → has_member ms q ≡ true → Q q) → AllByRecursion Q ms
each_member Q [] h = tt
each_member Q (m ∷ ms) h = (h m (or_left (m == m) (has_member ms m) (grind (arith, nat_tests))), each_member Q ms (λ q e. h q (or_right (m == q) (has_member ms q) e)))

-- the kind of the domains whose members share such states
abbrev pub domain_kind : ScaleKind → DomainKind
domain_kind scales.Perf = Perf
domain_kind scales.Throttle = Throttle

-- the change is of no ask and no limit of this kind of processor q
abbrev pub Spares : Change → DomainKind → ℕ → Type 0
Spares changes.Nothing kind q = Unit {0}
Spares (changes.Vote p v) kind q = Unit {0}
Spares (changes.Ask k p i) kind q = kind ≡ domain_kind k → q ≢ p
Spares (changes.Limit k p n) kind q = kind ≡ domain_kind k → q ≢ p

pub ask_spared : (S : State) (c : Change) (kind : DomainKind) (q : ℕ) → Spares c kind q → ask_of kind (with_change S c) q ≡ ask_of kind S q
ask_spared S changes.Nothing kind q h = refl
ask_spared S (changes.Vote p v) Perf q h = refl
ask_spared S (changes.Vote p v) Throttle q h = refl
ask_spared S (changes.Vote p v) Idle q h = refl
ask_spared S (changes.Ask scales.Perf p i) Perf q h = get_or-set_other S.perf_asks p q i 0 (h refl)
ask_spared S (changes.Ask scales.Perf p i) Throttle q h = refl
ask_spared S (changes.Ask scales.Perf p i) Idle q h = refl
ask_spared S (changes.Ask scales.Throttle p i) Perf q h = refl
ask_spared S (changes.Ask scales.Throttle p i) Throttle q h = get_or-set_other S.throttle_asks p q i 0 (h refl)
ask_spared S (changes.Ask scales.Throttle p i) Idle q h = refl
ask_spared S (changes.Limit scales.Perf p n) Perf q h = refl
ask_spared S (changes.Limit scales.Perf p n) Throttle q h = refl
ask_spared S (changes.Limit scales.Perf p n) Idle q h = refl
ask_spared S (changes.Limit scales.Throttle p n) Perf q h = refl
ask_spared S (changes.Limit scales.Throttle p n) Throttle q h = refl
ask_spared S (changes.Limit scales.Throttle p n) Idle q h = refl

pub limit_spared : (S : State) (c : Change) (kind : DomainKind) (q : ℕ) → Spares c kind q → limit_of kind (with_change S c) q ≡ limit_of kind S q
limit_spared S changes.Nothing kind q h = refl
limit_spared S (changes.Vote p v) Perf q h = refl
limit_spared S (changes.Vote p v) Throttle q h = refl
limit_spared S (changes.Vote p v) Idle q h = refl
limit_spared S (changes.Ask scales.Perf p i) Perf q h = refl
limit_spared S (changes.Ask scales.Perf p i) Throttle q h = refl
limit_spared S (changes.Ask scales.Perf p i) Idle q h = refl
limit_spared S (changes.Ask scales.Throttle p i) Perf q h = refl
limit_spared S (changes.Ask scales.Throttle p i) Throttle q h = refl
limit_spared S (changes.Ask scales.Throttle p i) Idle q h = refl
limit_spared S (changes.Limit scales.Perf p n) Perf q h = get_or-set_other S.perf_limits p q n 0 (h refl)
limit_spared S (changes.Limit scales.Perf p n) Throttle q h = refl
limit_spared S (changes.Limit scales.Perf p n) Idle q h = refl
limit_spared S (changes.Limit scales.Throttle p n) Perf q h = refl
limit_spared S (changes.Limit scales.Throttle p n) Throttle q h = get_or-set_other S.throttle_limits p q n 0 (h refl)
limit_spared S (changes.Limit scales.Throttle p n) Idle q h = refl

own_spared : (S : State) (c : Change) (kind : DomainKind) (p : ℕ) → Spares c kind p → max (limit_of kind (with_change S c) p) (ask_of kind (with_change S c) p)
    ≡ max (limit_of kind S p) (ask_of kind S p)
own_spared S c kind p spared =
    ap (λ l. max l (ask_of kind (with_change S c) p)) (limit_spared S c kind p spared)
    ∙ ap (max (limit_of kind S p)) (ask_spared S c kind p spared)

-- # Where domains stand

-- the domain stands alike for whoever asks
pub standing-any : (P : Plan) (S : State) (d p q : ℕ) → is_software (domain_at P d).coord ≡ true → standing P S d p ≡ standing P S d q
standing-any P S d p q e = rw e refl

-- what spares all members leaves where a member stands
pub standing-spared : (P : Plan) (S : State) (c : Change) (d p : ℕ) → has_member (domain_at P d).members p ≡ true
    → ((q : ℕ) → has_member (domain_at P d).members q ≡ true → Spares c (domain_at P d).kind q)
    → standing P (with_change S c) d p ≡ standing P S d p
standing-spared P S c d p member spares =
    let each = each_member (Spares c (domain_at P d).kind) (domain_at P d).members spares in
    let asks : map (ask_of (domain_at P d).kind (with_change S c)) (domain_at P d).members ≡ map (ask_of (domain_at P d).kind S) (domain_at P d).members =
    map_agree (Spares c (domain_at P d).kind) (ask_of (domain_at P d).kind (with_change S c)) (ask_of (domain_at P d).kind S) (ask_spared S c (domain_at P d).kind) (domain_at P d).members each in
    let limits : map (limit_of (domain_at P d).kind (with_change S c)) (domain_at P d).members ≡ map (limit_of (domain_at P d).kind S) (domain_at P d).members =
    map_agree (Spares c (domain_at P d).kind) (limit_of (domain_at P d).kind (with_change S c)) (limit_of (domain_at P d).kind S) (limit_spared S c (domain_at P d).kind) (domain_at P d).members each
    in
    by (is_software (domain_at P d).coord) asks limits
  where
    own : max (limit_of (domain_at P d).kind (with_change S c) p) (ask_of (domain_at P d).kind (with_change S c) p) ≡ max (limit_of (domain_at P d).kind S p) (ask_of (domain_at P d).kind S p)
    own = own_spared S c (domain_at P d).kind p (spares p member)

    by : (b : Bool)
        → map (ask_of (domain_at P d).kind (with_change S c)) (domain_at P d).members ≡ map (ask_of (domain_at P d).kind S) (domain_at P d).members
        → map (limit_of (domain_at P d).kind (with_change S c)) (domain_at P d).members ≡ map (limit_of (domain_at P d).kind S) (domain_at P d).members
        → cond b (stands_at (map (ask_of (domain_at P d).kind (with_change S c)) (domain_at P d).members) (map (limit_of (domain_at P d).kind (with_change S c)) (domain_at P d).members))
        (max (limit_of (domain_at P d).kind (with_change S c) p) (ask_of (domain_at P d).kind (with_change S c) p))
        ≡ cond b (stands_at (map (ask_of (domain_at P d).kind S) (domain_at P d).members) (map (limit_of (domain_at P d).kind S) (domain_at P d).members))
        (max (limit_of (domain_at P d).kind S p) (ask_of (domain_at P d).kind S p))
    by true asks limits =
        ap (λ xs. stands_at xs (map (limit_of (domain_at P d).kind (with_change S c)) (domain_at P d).members)) asks
        ∙ ap (stands_at (map (ask_of (domain_at P d).kind S) (domain_at P d).members)) limits
    by false asks limits = own

-- # Domains that hardware coordinates

-- what spares a member leaves where it stands
pub standing-own : (P : Plan) (S : State) (c : Change) (d p : ℕ) → is_software (domain_at P d).coord ≡ false → Spares c (domain_at P d).kind p
    → standing P (with_change S c) d p ≡ standing P S d p
standing-own P S c d p e spared = rw e (own_spared S c (domain_at P d).kind p spared)
