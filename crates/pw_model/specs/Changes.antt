-- What an accepted request leaves, entry by entry.
use Rattle.std.specs.Prelude.{◌≡◌, ◌≢◌, ◌⊎◌, ℕ}
use Rattle.pw_plan.specs.declared.domain.DomainKind.{DomainKind}
use Rattle.pw_model.specs.declared.state.State.{State}
use Rattle.pw_model.specs.declared.state.Vote.{Vote}
use Rattle.pw_model.specs.States.{ask_of, limit_of, vote_of}

-- Between two states the vote of processor p becomes v, and all else stays.
pub record MovesVote (S T : State) (p : ℕ) (v : Vote) : Type 0 where
  pub own : vote_of T p ≡ v
  pub votes : (q : ℕ) → q ≢ p → vote_of T q ≡ vote_of S q
  pub asks : (k : DomainKind) (q : ℕ) → ask_of k T q ≡ ask_of k S q
  pub limits : (k : DomainKind) (q : ℕ) → limit_of k T q ≡ limit_of k S q

-- Its ask for states of this kind becomes i, and all else stays.
pub record MovesAsk (S T : State) (kind : DomainKind) (p i : ℕ) : Type 0 where
  pub own : ask_of kind T p ≡ i
  pub asks : (k : DomainKind) (q : ℕ) → (k ≢ kind) ⊎ (q ≢ p) → ask_of k T q ≡ ask_of k S q
  pub limits : (k : DomainKind) (q : ℕ) → limit_of k T q ≡ limit_of k S q
  pub votes : (q : ℕ) → vote_of T q ≡ vote_of S q

-- Its limit on states of this kind becomes n, and all else stays.
pub record MovesLimit (S T : State) (kind : DomainKind) (p n : ℕ) : Type 0 where
  pub own : limit_of kind T p ≡ n
  pub limits : (k : DomainKind) (q : ℕ) → (k ≢ kind) ⊎ (q ≢ p) → limit_of k T q ≡ limit_of k S q
  pub asks : (k : DomainKind) (q : ℕ) → ask_of k T q ≡ ask_of k S q
  pub votes : (q : ℕ) → vote_of T q ≡ vote_of S q
