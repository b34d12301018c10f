-- Which histories a list of requests allows.
use Rattle.std.specs.Prelude.{◌≡◌, ◌==◌, ◌<◌, ◌++◌, ℕ, List, [], ◌∷◌, filter, map, length, Option, Some, None, if◌then◌else◌}
use Rattle.std.specs.List.{AllByRecursion}
use Rattle.pw_kind.specs.History as histories
use Rattle.pw_history.specs.Wording.{Wording}

-- One list begins another.
pub record Begins {X : Type 0} (xs ys : List X) : Type 0 where
  pub rest : List X
  pub is : ys ≡ xs ++ rest

module _ {P Q A E S : Type 0} (W : Wording P Q A E S) where
  -- those of processor p among these requests, in their order
  abbrev pub own : ℕ → List Q → List Q
  own p qs = filter (λ q. W.cpu q == p) qs

  -- Requests that can be asked: their processors exist, and their numbers are narrow.
  pub record CanBeAsked (IsNarrow : Q → Type 0) (plan : P) (asked : List Q) : Type 0 where
    pub has : AllByRecursion (λ q. W.cpu q < W.cpus plan) asked
    pub narrow : AllByRecursion IsNarrow asked

  -- the requests of a history, in their order
  abbrev pub requests : List E → List Q
  requests es = map W.kind.request es

  -- A history of the requests: each processor's are a beginning of its own ones, all of them where no entry is a fault.
  pub record IsRunOf (plan : P) (asked : List Q) (es : List E) : Type 0 where
    pub legal : histories.Legal W.kind plan es
    pub begins : (p : ℕ) → p < W.cpus plan → Begins (own p (requests es)) (own p asked)
    pub whole : histories.Faultless W.kind es → (p : ℕ) → p < W.cpus plan → own p (requests es) ≡ own p asked

  -- What may come of requests: the opening was ended by a fault after k of its operations, and nothing was asked; or the plan was
  -- opened, and there is a history of them.
  abbrev pub Lawful : P → List Q → Option ℕ → List E → Type 0
  Lawful plan asked (Some k) es = (k < length (W.opening_ops plan)) × (es ≡ [])
  Lawful plan asked None es = IsRunOf plan asked es

  -- A legal history in which each processor's requests begin its own ones.
  pub record IsStart (plan : P) (asked : List Q) (es : List E) : Type 0 where
    pub legal : histories.Legal W.kind plan es
    pub begins : (p : ℕ) → p < W.cpus plan → Begins (own p (requests es)) (own p asked)

  -- # What a history leaves

  -- these requests without the first of processor p
  abbrev pub without_first : ℕ → List Q → List Q
  without_first p [] = []
  without_first p (q ∷ qs) = if W.cpu q == p then qs else q ∷ without_first p qs

  -- the requests that are left after a history, in their order
  abbrev pub left_after : List Q → List E → List Q
  left_after asked [] = asked
  left_after asked (e ∷ es) = left_after (without_first (W.asker e) asked) es

  -- a history, and then the requests that it leaves, in their order
  abbrev pub completed : List Q → List E → List E
  completed asked es = es ++ map W.entry (left_after asked es)
