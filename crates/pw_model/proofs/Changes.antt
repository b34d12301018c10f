-- An accepted request changes one entry.
use Rattle.std.proofs.Common.{◌≡◌, ◌≢◌, ◌<◌, ◌-◌, ℕ, min, length, Option, Some, None, refl, ap, ◌⊎◌, inl, inr}
use Rattle.std.proofs.lemmas.List.{get_or-set_same, get_or-set_other}
use Rattle.pw_plan.specs.declared.domain.DomainKind.{DomainKind}
use Rattle.pw_plan.specs.declared.domain.DomainKind.TheVariants as kinds
use Rattle.pw_plan.specs.declared.parts.Scale.{Scale}
use Rattle.pw_plan.specs.declared.plan.Plan.{Plan}
use Rattle.pw_plan.specs.declared.request.Request.{Request}
use Rattle.pw_model.specs.declared.state.Change.TheVariants as changes
use Rattle.pw_model.specs.declared.state.ScaleKind.{ScaleKind}
use Rattle.pw_model.specs.declared.state.ScaleKind.TheVariants as scales
use Rattle.pw_model.specs.declared.state.State.{State}
use Rattle.pw_model.specs.declared.state.Vote.{Vote}
use Rattle.pw_model.specs.States.{ask_of, capped, limit_of, running, with_change}
use Rattle.pw_model.specs.Answers.{after, changed, if_accepted}
use Rattle.pw_model.specs.Changes.{MovesAsk, MovesLimit, MovesVote}
use Rattle.pw_model.specs.Refusals.{refusal}
use Rattle.pw_model.proofs.Standings.{ask_spared, domain_kind, limit_spared}

pub accepted_leaves : (P : Plan) (S : State) (q : Request) → refusal P S q ≡ None → after P S q ≡ changed P S q
unfolding after
accepted_leaves P S q e = ap (λ x. if_accepted x (λ reply. S) (changed P S q)) e

-- of another kind, or of another processor
spared : (k : ScaleKind) (kind : DomainKind) (p q : ℕ) → (kind ≢ domain_kind k) ⊎ (q ≢ p) → kind ≡ domain_kind k → q ≢ p
spared k kind p q (inl other) e = absurd (other e)
spared k kind p q (inr other) e = other

module _ (S : State) (p : ℕ) where
  pub vote_moved : (v : Vote) → p < length S.votes → MovesVote S (with_change S (changes.Vote p v)) p v
  vote_moved v lt = record {
    own = get_or-set_same S.votes p v running lt;
    votes = λ q ne. get_or-set_other S.votes p q v running ne;
    asks = λ k q. ask_spared S (changes.Vote p v) k q tt;
    limits = λ k q. limit_spared S (changes.Vote p v) k q tt;
  }

  asks_stay : (k : ScaleKind) (n : ℕ) (kind : DomainKind) (q : ℕ) → ask_of kind (with_change S (changes.Limit k p n)) q ≡ ask_of kind S q
  asks_stay scales.Perf n kinds.Perf q = refl
  asks_stay scales.Perf n kinds.Throttle q = refl
  asks_stay scales.Perf n kinds.Idle q = refl
  asks_stay scales.Throttle n kinds.Perf q = refl
  asks_stay scales.Throttle n kinds.Throttle q = refl
  asks_stay scales.Throttle n kinds.Idle q = refl

  limits_stay : (k : ScaleKind) (i : ℕ) (kind : DomainKind) (q : ℕ) → limit_of kind (with_change S (changes.Ask k p i)) q ≡ limit_of kind S q
  limits_stay scales.Perf i kinds.Perf q = refl
  limits_stay scales.Perf i kinds.Throttle q = refl
  limits_stay scales.Perf i kinds.Idle q = refl
  limits_stay scales.Throttle i kinds.Perf q = refl
  limits_stay scales.Throttle i kinds.Throttle q = refl
  limits_stay scales.Throttle i kinds.Idle q = refl

  pub perf_asked : (i : ℕ) → p < length S.perf_asks → MovesAsk S (with_change S (changes.Ask scales.Perf p i)) kinds.Perf p i
  perf_asked i lt = record {
    own = get_or-set_same S.perf_asks p i 0 lt;
    asks = λ k q other. ask_spared S (changes.Ask scales.Perf p i) k q (spared scales.Perf k p q other);
    limits = limits_stay scales.Perf i;
    votes = λ q. refl;
  }

  pub throttle_asked : (i : ℕ) → p < length S.throttle_asks → MovesAsk S (with_change S (changes.Ask scales.Throttle p i)) kinds.Throttle p i
  throttle_asked i lt = record {
    own = get_or-set_same S.throttle_asks p i 0 lt;
    asks = λ k q other. ask_spared S (changes.Ask scales.Throttle p i) k q (spared scales.Throttle k p q other);
    limits = limits_stay scales.Throttle i;
    votes = λ q. refl;
  }

  pub perf_limited : (n : ℕ) → p < length S.perf_limits → MovesLimit S (with_change S (changes.Limit scales.Perf p n)) kinds.Perf p n
  perf_limited n lt = record {
    own = get_or-set_same S.perf_limits p n 0 lt;
    limits = λ k q other. limit_spared S (changes.Limit scales.Perf p n) k q (spared scales.Perf k p q other);
    asks = asks_stay scales.Perf n;
    votes = λ q. refl;
  }

  pub throttle_limited : (n : ℕ) → p < length S.throttle_limits → MovesLimit S (with_change S (changes.Limit scales.Throttle p n)) kinds.Throttle p n
  throttle_limited n lt = record {
    own = get_or-set_same S.throttle_limits p n 0 lt;
    limits = λ k q other. limit_spared S (changes.Limit scales.Throttle p n) k q (spared scales.Throttle k p q other);
    asks = asks_stay scales.Throttle n;
    votes = λ q. refl;
  }

pub capped_is : (s : Option Scale) (scale : Scale) (n : ℕ) → s ≡ Some scale → capped s n ≡ min n (length scale.controls - 1)
capped_is s scale n e = ap (λ x. capped x n) e
